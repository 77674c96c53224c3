use Rattle.std.proofs.Common.{◌≡◌, ◌++◌, drop}
use Rattle.std.specs.List.{flat_map}
use Rattle.clause_families.specs.Clauses.{by_pair}
use Rattle.clause_families.proofs.by_pair.add_pairs_at_places.Given as goal

abbrev pub invariant-loop-place : goal.invariant-loop-place
invariant-loop-place l = l.out ++ flat_map (λ p. flat_map (by_pair l.rule l.ions l.times.before l.times.time p) l.pairs) (drop l.place-index l.places) ≡ l.fn.out ++ flat_map (λ p. flat_map (by_pair l.rule l.ions l.times.before l.times.time p) l.pairs) l.places
