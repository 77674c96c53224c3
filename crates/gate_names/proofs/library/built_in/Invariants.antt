use Rattle.std.proofs.Common.{◌≡◌, ◌∷◌, map, take}
use Rattle.gate_names.specs.declared.gate.Gate.TheVariants.{Universal, ControlledNot}
use Rattle.gate_names.specs.Library.{library}
use Rattle.gate_names.proofs.library.built_in.Given as goal

abbrev pub invariant-loop-place : goal.invariant-loop-place
invariant-loop-place l = l.gates ≡ Universal ∷ ControlledNot ∷ map (λ entry. entry.gate) (take l.place library)
