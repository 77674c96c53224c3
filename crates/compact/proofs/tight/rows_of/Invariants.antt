use Rattle.std.proofs.Common.{take}
use Rattle.compact.specs.Latest.{AreBuilt}
use Rattle.compact.proofs.tight.rows_of.Given as goal

abbrev pub invariant-loop-k : goal.invariant-loop-k
invariant-loop-k l = AreBuilt l.setting (take l.k l.actions) (take l.k l.times) l.rows.items
