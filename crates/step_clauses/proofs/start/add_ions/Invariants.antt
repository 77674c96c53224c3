use Rattle.std.proofs.Common.{◌≡◌, ◌++◌, drop, map}
use Rattle.std.specs.List.{flat_map}
use Rattle.step_clauses.specs.Start.{place_claim}
use Rattle.step_clauses.proofs.start.add_ions.Given as goal

abbrev pub invariant-loop-ion : goal.invariant-loop-ion
invariant-loop-ion l = l.out ++ flat_map (λ i. map (place_claim l.config.lists i) l.places) (drop l.ion-index l.ions) ≡ l.fn.out ++ flat_map (λ i. map (place_claim l.config.lists i) l.places) l.ions
