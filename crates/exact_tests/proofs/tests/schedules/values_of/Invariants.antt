use Rattle.std.proofs.Common.{◌≡◌, length}
use Rattle.exact_tests.proofs.tests.schedules.values_of.Given as goal

abbrev pub invariant-loop-item : goal.invariant-loop-item
invariant-loop-item g l = length l.values ≡ l.count
