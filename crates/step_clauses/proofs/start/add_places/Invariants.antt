use Rattle.std.proofs.Common.{◌≡◌, ◌++◌, drop, map}
use Rattle.step_clauses.specs.Start.{place_claim}
use Rattle.step_clauses.proofs.start.add_places.Given as goal

abbrev pub invariant-loop-place : goal.invariant-loop-place
invariant-loop-place l = l.out ++ map (place_claim l.config.lists l.ion) (drop l.place-index l.places) ≡ l.fn.out ++ map (place_claim l.config.lists l.ion) l.places
