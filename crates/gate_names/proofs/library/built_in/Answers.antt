use Rattle.std.proofs.Common.{sym, ◌∙◌, subst, arith, length}
use Rattle.gate_names.specs.declared.gate.Gate.{Gate}
use Rattle.gate_names.specs.GateOrder.{CallsBelow}
use Rattle.gate_names.specs.Library.{library}
use Rattle.gate_names.specs.LibraryRows.{gate_of}
use Rattle.gate_names.proofs.LibraryTables.{library_row_below, front_length, front_more, within}
use Rattle.gate_names.proofs.library.built_in.Goals.{in-Some+in_ok-gate_of+in_ok-push-3, in_default}
use Rattle.gate_names.proofs.library.built_in.Goals as goal

pub push-requires-in-Some : goal.push-requires-in-Some
push-requires-in-Some c =
    subst (λ (gate : Gate). CallsBelow (length c.loop-place.gates) gate) (sym c.in_ok-gate_of.ensures)
    (library_row_below c.loop-place.place (gate_of c.in-Some.row) (length c.loop-place.gates) c.in-Some.ensures
    (front_length library c.loop-place.place (gate_of c.in-Some.row) c.loop-place.gates c.in-Some.ensures c.loop-place.invariant))

pub loop-place-preserved : goal.loop-place-preserved
loop-place-preserved c = elim c.match-row_at.branch [
  | in-Some+in_ok-gate_of+in_ok-push-3 w ↦ front_more library c.loop-place.place (gate_of w.in-Some.row) c.loop-place.gates c.match-row_at.gates w.in_ok-gate_of.field-0
      w.in-Some.ensures c.loop-place.invariant w.in_ok-gate_of.ensures (w.gates-is ∙ w.in_ok-push-3.ensures.ok)
  | in_default w ↦ absurd (within library c.loop-place.place w.in_default.ensures (omega arith))
]
