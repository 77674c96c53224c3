use Rattle.std.proofs.Common.{◌≡◌, ◌++◌, drop}
use Rattle.clause_families.specs.Bounds.{ions_at}
use Rattle.clause_families.proofs.bounds.ions_of_place.Given as goal

abbrev pub invariant-loop-ion : goal.invariant-loop-ion
invariant-loop-ion l = l.items.items ++ ions_at l.time (drop l.ion-index l.ions) l.place ≡ ions_at l.time l.ions l.place
