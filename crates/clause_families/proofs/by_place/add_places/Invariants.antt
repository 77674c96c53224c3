use Rattle.std.proofs.Common.{◌≡◌, ◌++◌, drop, map}
use Rattle.clause_families.specs.Clauses.{was_or_passes}
use Rattle.clause_families.proofs.by_place.add_places.Given as goal

abbrev pub invariant-loop-place : goal.invariant-loop-place
invariant-loop-place l = l.out ++ map (was_or_passes l.times.0 l.times.1 l.step l.ion) (drop l.place-index l.places) ≡ l.fn.out ++ map (was_or_passes l.times.0 l.times.1 l.step l.ion) l.places
