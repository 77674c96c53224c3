use Rattle.std.proofs.Common.{ℕ, ◌+◌, sym, ap, ◌∙◌, arith}
use Rattle.std.specs.Option.{option_map}
use Rattle.gate_names.specs.Library.{library, first_library_gate}
use Rattle.gate_names.specs.LibraryRows.{gate_of}
use Rattle.gate_names.proofs.LibraryTables.{named_here, named_later, within}
use Rattle.gate_names.proofs.library.library_gate_named.Goals.{in-Some+else-eq, in_default}
use Rattle.gate_names.proofs.library.library_gate_named.Goals as goal

pub returns-then-eq-clause-gate : goal.returns-then-eq-clause-gate
returns-then-eq-clause-gate c =
    ap (option_map (λ (k : ℕ). first_library_gate + k))
    (sym (named_here library c.loop-place.place (gate_of c.in-Some.row) c.args.name.now c.in-Some.ensures (cc)) ∙ c.loop-place.invariant)

pub loop-place-preserved : goal.loop-place-preserved
loop-place-preserved c = elim c.match-row_at.branch [
  | in-Some+else-eq w ↦ named_later library c.loop-place.place (gate_of w.in-Some.row) c.args.name.now w.in-Some.ensures (cc) ∙ c.loop-place.invariant
  | in_default w ↦ absurd (within library c.loop-place.place w.in_default.ensures (omega arith))
]
