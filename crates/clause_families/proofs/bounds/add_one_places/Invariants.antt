use Rattle.std.proofs.Common.{◌≡◌, ◌++◌, drop, map}
use Rattle.clause_families.specs.Bounds.{one_place_of}
use Rattle.clause_families.proofs.bounds.add_one_places.Given as goal

abbrev pub invariant-loop-ion : goal.invariant-loop-ion
invariant-loop-ion l = l.out.items ++ map (one_place_of l.time l.places) (drop l.ion-index l.ions) ≡ l.fn.out.items ++ map (one_place_of l.time l.places) l.ions
