use Rattle.std.proofs.Common.{◌≡◌, ◌++◌, [], ◌∷◌, length, Some, refl, sym, ap, subst, ◌∙◌, arith, length-append}
use Rattle.std.specs.Prelude.{slice_get}
use Rattle.std.proofs.lemmas.Option.{slice_get_read}
use Rattle.circuit_core.specs.Circuit.{IsCircuit, IsOpOf}
use Rattle.circuit_core.specs.LastOps.{right_before}
use Rattle.circuit_core.specs.Nearest.{AreNearest}
use Rattle.circuit_core.proofs.Latest.{op_fits, nearest_found, last_step, row_step}
use Rattle.circuit_core.proofs.nearest.Nearest.new.Goals as goal

pub loop-number-preserved : goal.loop-number-preserved
loop-number-preserved c =
    let number = c.loop-number.number in
    let circuit = c.args.circuit.now in
    let op = c.op-item.result in
    let last = c.loop-number.last in
    let ops = c.ops-op-items.result.now in
    let sound : IsCircuit c.args.circuit.now = c.ops-op-items.ensures.circuit in
    let at : slice_get c.args.circuit.now.ops c.loop-number.number ≡ Some c.op-item.result = ap (λ l. slice_get l number) (sym c.ops-op-items.ensures.ops) ∙ slice_get_read ops (length ops) number op refl c.loop-number-test.true c.op-item.is in
    let fits : IsOpOf c.args.circuit.now c.op-item.result = op_fits circuit number op sound at in
    let near : c.from_vec.result ≡ right_before c.args.circuit.now c.loop-number.last c.op-item.result = c.from_vec.ensures ∙ c.in_ok-right_before.ensures in
    let found : AreNearest c.args.circuit.now c.loop-number.number c.from_vec.result = subst (AreNearest circuit number) (sym near) (nearest_found circuit number op last sound fits at c.loop-number.invariant.last) in
    let grown : c.push.new.self.items ≡ c.loop-number.rows.items ++ c.from_vec.result ∷ [] = c.in_ok-push.ensures.items in
    record {
      last = last_step circuit number op last c.note.new.self at c.loop-number.invariant.last c.note.ensures.qubits c.note.ensures.writing c.note.ensures.testing;
      len = omega (arith, ap length grown, length-append c.loop-number.rows.items (c.from_vec.result ∷ []), c.loop-number.invariant.len);
      each = row_step circuit c.loop-number.rows.items c.push.new.self.items c.from_vec.result number c.loop-number.invariant.len grown c.loop-number.invariant.each found;
    }
