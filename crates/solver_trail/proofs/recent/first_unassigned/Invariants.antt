use Rattle.std.proofs.Common.{ℕ, ◌<◌, ◌+◌}
use Rattle.solver_trail.specs.Trail.{IsUnassigned}
use Rattle.solver_trail.proofs.recent.first_unassigned.Given as goal

abbrev pub invariant-loop-index : goal.invariant-loop-index
invariant-loop-index l = (k : ℕ) → k < l.index → IsUnassigned l.values (k + 1) → ⊥
