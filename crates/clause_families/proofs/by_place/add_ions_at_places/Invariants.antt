use Rattle.std.proofs.Common.{◌≡◌, ◌++◌, drop, map}
use Rattle.std.specs.List.{flat_map}
use Rattle.clause_families.specs.Clauses.{was_or_passes}
use Rattle.clause_families.proofs.by_place.add_ions_at_places.Given as goal

abbrev pub invariant-loop-ion : goal.invariant-loop-ion
invariant-loop-ion l = l.out ++ flat_map (λ i. map (was_or_passes l.times.0 l.times.1 l.step i) l.places) (drop l.ion-index l.ions) ≡ l.fn.out ++ flat_map (λ i. map (was_or_passes l.times.0 l.times.1 l.step i) l.places) l.ions
