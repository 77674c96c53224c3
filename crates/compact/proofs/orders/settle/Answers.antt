use Rattle.std.proofs.Common.{◌≡◌, ℕ, List, get_or, Some}
use Rattle.std.specs.Prelude.{slice_get}
use Rattle.std.proofs.lemmas.Option.{slice_get-get_or}
use Rattle.qc_base.specs.declared.ids.OpId.{OpId}
use Rattle.circuit_core.specs.Order.{IsBarrierAt}
use Rattle.compact.specs.Orders.{IsSettledBy}
use Rattle.compact.proofs.Places.{contains_at}
use Rattle.compact.proofs.Waits.{numbered}
use Rattle.compact.proofs.Settling.{settled_none, settled_more, settled_all}
use Rattle.compact.proofs.orders.settle.Goals as goal

pub loop-barrier-init : goal.loop-barrier-init
loop-barrier-init c = λ actions times place op settling wires. settled_none c.args.circuit.now actions times place c.args.barriers.now c.args.wires.now wires

pub loop-barrier-preserved : goal.loop-barrier-preserved
loop-barrier-preserved c = λ actions times place op settling wires.
    let row : List OpId = c.args.barriers.now in
    let m : ℕ = c.loop-barrier.barrier-index in
    let k : OpId = get_or c.args.barriers.now c.loop-barrier.barrier-index (numbered 0) in
    let at_m : slice_get row m ≡ Some k = slice_get-get_or row m (numbered 0) c.loop-barrier-test.true in
    let by : IsSettledBy c.args.circuit.now actions op k.0 = (settling.waits.sound k.0 (contains_at row m k at_m)).1 in
    let barrier : IsBarrierAt c.args.circuit.now k.0 = by.is_barrier in
    let lifted = c.in_ok-lift.ensures barrier.op barrier.there in
    settled_more c.args.circuit.now actions times place op row m k barrier.op _ c.loop-barrier.wires c.lift.new.self settling at_m barrier.there lifted.greatest lifted.raised (c.loop-barrier.invariant actions times place op settling wires)

pub returns : goal.returns
returns c = λ actions times place op settling wires.
    settled_all c.args.circuit.now actions times place op c.args.barriers.now c.loop-barrier.barrier-index c.loop-barrier.wires settling c.loop-barrier-test.false (c.loop-barrier.invariant actions times place op settling wires)
