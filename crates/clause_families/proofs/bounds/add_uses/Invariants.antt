use Rattle.std.proofs.Common.{◌≡◌, ◌++◌, drop, map}
use Rattle.clause_families.specs.Bounds.{used}
use Rattle.clause_families.proofs.bounds.add_uses.Given as goal

abbrev pub invariant-loop-channel : goal.invariant-loop-channel
invariant-loop-channel l = l.items.items ++ map (used l.time) (drop l.channel-index l.numbers) ≡ l.fn.items.items ++ map (used l.time) l.numbers
