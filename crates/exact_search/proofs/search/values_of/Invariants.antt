use Rattle.std.proofs.Common.{◌≡◌, ℕ, ◌≤◌, length}
use Rattle.sat_base.specs.Valuation.{valuation_of}
use Rattle.solver_trail.specs.Trail.{values_of}
use Rattle.exact_search.proofs.search.values_of.Given as goal

-- the variables so far have the solver's values
abbrev pub invariant-loop-index : goal.invariant-loop-index
invariant-loop-index l = record {
  vars : length l.values ≡ l.vars;
  same : (var : ℕ) → 1 ≤ var → var ≤ l.index → values_of l.solver.trail.entries var ≡ valuation_of l.values var;
}
