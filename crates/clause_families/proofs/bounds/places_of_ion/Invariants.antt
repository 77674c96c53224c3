use Rattle.std.proofs.Common.{◌≡◌, ◌++◌, drop, map}
use Rattle.step_vars.specs.Items.{at_item}
use Rattle.clause_families.proofs.bounds.places_of_ion.Given as goal

abbrev pub invariant-loop-place : goal.invariant-loop-place
invariant-loop-place l = l.items.items ++ map (λ p. at_item l.ion p l.time) (drop l.place-index l.places) ≡ map (λ p. at_item l.ion p l.time) l.places
