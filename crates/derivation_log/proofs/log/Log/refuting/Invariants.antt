use Rattle.std.proofs.Common.{ℕ, ◌+◌, ◌≤◌}
use Rattle.sat_base.specs.Literal.{positive_of}
use Rattle.sat_base.specs.Derivation.{Refutes}
use Rattle.derivation_log.specs.Log.{clause_of, derived_id}
use Rattle.derivation_log.proofs.log.Log.refuting.Given as goal

abbrev pub invariant-loop-k : goal.invariant-loop-k
invariant-loop-k l = (earlier : ℕ) → 1 ≤ earlier → earlier ≤ l.k → Refutes (positive_of l.goal) (clause_of l.self (derived_id earlier)) → ⊥
