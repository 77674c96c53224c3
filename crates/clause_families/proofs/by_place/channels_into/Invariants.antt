use Rattle.std.proofs.Common.{◌≡◌, ◌++◌, drop, map}
use Rattle.clause_families.specs.Clauses.{at_ends_into}
use Rattle.clause_families.proofs.by_place.channels_into.Given as goal

abbrev pub invariant-loop-place : goal.invariant-loop-place
invariant-loop-place l = l.lists.items ++ map (at_ends_into l.channels) (drop l.place-index l.places) ≡ map (at_ends_into l.channels) l.places
