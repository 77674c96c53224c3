use Rattle.std.proofs.Common.{◌≡◌, ◌≤◌, length, take}
use Rattle.solver_trail.specs.Trail.{up_to}
use Rattle.solver_trail.proofs.values.count_up_to.Given as goal

abbrev pub invariant-loop-kept : goal.invariant-loop-kept
invariant-loop-kept l = (l.kept ≤ length l.entries) × (up_to l.level (take l.kept l.entries) ≡ up_to l.level l.entries)

abbrev pub decreases-loop-kept : goal.decreases-loop-kept
decreases-loop-kept l = l.kept
