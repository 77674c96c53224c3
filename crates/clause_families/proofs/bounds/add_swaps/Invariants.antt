use Rattle.std.proofs.Common.{◌≡◌, ◌++◌, drop, map}
use Rattle.clause_families.specs.Bounds.{swapped}
use Rattle.clause_families.proofs.bounds.add_swaps.Given as goal

abbrev pub invariant-loop-pair : goal.invariant-loop-pair
invariant-loop-pair l = l.items.items ++ map (swapped l.time l.zone) (drop l.pair-index l.pairs) ≡ l.fn.items.items ++ map (swapped l.time l.zone) l.pairs
