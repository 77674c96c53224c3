use Rattle.std.proofs.Common.{ℕ, ◌<◌, length, get_or, arith}
use Rattle.std.proofs.lemmas.Option.{slice_get-get_or}
use Rattle.std.proofs.lemmas.List.Elements.{Contains-get_or}
use Rattle.qc_base.specs.declared.ids.OpId.{OpId}
use Rattle.circuit_core.specs.Nearest.{IsListed}
use Rattle.schedule_play.specs.Ready.{settled_after}
use Rattle.schedule_play.proofs.Owed.{numbered}
use Rattle.schedule_play.proofs.ReadySteps.{settled_more, all_settled}
use Rattle.schedule_play.proofs.ready.all_settled_after.Goals as goal

pub settled_after-requires-clause-ready : goal.settled_after-requires-clause-ready
settled_after-requires-clause-ready c =
    let op : OpId = get_or c.args.nearest.now c.loop-op.op-index (numbered 0) in
    let listed : IsListed c.args.nearest.now op.0 = Contains-get_or c.args.nearest.now c.loop-op.op-index (numbered 0) c.loop-op-test.true in
    c.requires.listed op.0 listed

pub settled_after-requires-clause-firsts : goal.settled_after-requires-clause-firsts
settled_after-requires-clause-firsts c =
    let op : OpId = get_or c.args.nearest.now c.loop-op.op-index (numbered 0) in
    let listed : IsListed c.args.nearest.now op.0 = Contains-get_or c.args.nearest.now c.loop-op.op-index (numbered 0) c.loop-op-test.true in
    let below : op.0 < length c.args.ready.now = c.requires.listed op.0 listed in
    omega (arith, below, c.requires.firsts)

pub loop-op-preserved : goal.loop-op-preserved
loop-op-preserved c =
    let op : OpId = get_or c.args.nearest.now c.loop-op.op-index (numbered 0) in
    let settled : ℕ → ℕ = λ n. settled_after c.args.circuit.now c.args.firsts.now c.args.ready.now n in
    settled_more c.args.nearest.now settled c.loop-op.last c.settled_after.result c.max-last.result c.loop-op.op-index op
    (slice_get-get_or c.args.nearest.now c.loop-op.op-index (numbered 0) c.loop-op-test.true) c.settled_after.ensures c.max-last.ensures c.loop-op.invariant

pub returns : goal.returns
returns c = all_settled c.args.nearest.now (λ n. settled_after c.args.circuit.now c.args.firsts.now c.args.ready.now n) c.loop-op.last c.loop-op.op-index c.loop-op-test.false c.loop-op.invariant
