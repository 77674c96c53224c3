use Rattle.std.proofs.Common.{sym, ◌∙◌}
use Rattle.std.specs.Prelude.{slice_get}
use Rattle.circuit_core.specs.Deciding.{share_wire, is_shared}
use Rattle.circuit_core.proofs.Wires.{iff_at, of_both_at, shared_iff}
use Rattle.circuit_core.proofs.order.shares.Goals as goal

pub returns-clause-wire : goal.returns-clause-wire
returns-clause-wire c =
    let circuit = c.args.circuit.now in
    iff_at c.share_wire.result (is_shared circuit c.args.i.0 c.args.j.0)
    (c.share_wire.ensures ∙ sym (of_both_at (share_wire circuit) (slice_get circuit.ops c.args.i.0) (slice_get circuit.ops c.args.j.0) c.in-Some.first.now c.in-Some-op.second.now (sym c.in-Some.ensures.op) (sym c.in-Some-op.ensures.op)))
    (shared_iff circuit c.args.i.0 c.args.j.0)
