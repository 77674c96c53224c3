use Rattle.std.proofs.Common.{◌≡◌, ℕ, ◌<◌, List, length, Some, refl, sym, ap, subst, ◌∙◌, arith}
use Rattle.std.specs.Prelude.{slice_get}
use Rattle.std.proofs.lemmas.Option.{slice_get_read}
use Rattle.circuit_core.specs.declared.op.Op.{Op}
use Rattle.circuit_core.specs.Order.{IsWire}
use Rattle.compact.specs.Levels.{AreRaised, wire_level}
use Rattle.compact.proofs.Rows.{passed_barrier, passed_other}
use Rattle.compact.proofs.waiting.pass.Goals as goal

pub returns-then-is_barrier : goal.returns-then-is_barrier
returns-then-is_barrier c =
    let n : ℕ = c.args.number.0 in
    let op : Op = c.index-ops-number.result in
    let within : c.args.number.0 < length c.ops.result.now = omega (arith, ap length c.ops.ensures.ops, c.requires.there) in
    let there : slice_get c.args.circuit.now.ops c.args.number.0 ≡ Some c.index-ops-number.result = ap (λ (l : List Op). slice_get l n) (sym c.ops.ensures.ops) ∙ slice_get_read c.ops.result.now (length c.ops.result.now) n op refl within c.index-ops-number.is in
    passed_barrier c.args.circuit.now c.args.actions.now n op c.args.wires.now c.lift.new.self c.args.rows.now.items c.wait_for.new.rows.items c.in_ok-count.count c.requires.ordered there (sym c.if-is_barrier.ensures) (c.in_ok-count.ensures op there) c.in_ok-wait_for.ensures c.requires.passed

pub returns : goal.returns
returns c =
    let n : ℕ = c.args.number.0 in
    let op : Op = c.index-ops-number.result in
    let within : c.args.number.0 < length c.ops.result.now = omega (arith, ap length c.ops.ensures.ops, c.requires.there) in
    let there : slice_get c.args.circuit.now.ops c.args.number.0 ≡ Some c.index-ops-number.result = ap (λ (l : List Op). slice_get l n) (sym c.ops.ensures.ops) ∙ slice_get_read c.ops.result.now (length c.ops.result.now) n op refl within c.index-ops-number.is in
    passed_other c.args.circuit.now c.args.actions.now c.args.last.now n op c.args.wires.now c.raise.new.self c.args.rows.now.items c.requires.last there (sym c.if-is_barrier.ensures)
    (subst (λ (l : ℕ). AreRaised (IsWire c.args.circuit.now op) (wire_level c.args.wires.now) (wire_level c.raise.new.self) l) c.of.ensures c.in_ok-raise.ensures) c.requires.passed
