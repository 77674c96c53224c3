-- Working notions of private functions: the search, bound by bound.
use Rattle.std.specs.Prelude.{◌≡◌, ℕ, zero, suc, ◌<◌, ◌≤◌, List, [], ◌∷◌, length, map}
use Rattle.sat_base.specs.Literal.{Literal}
use Rattle.sat_base.specs.Derivation.{Line, Refutes, AnyRefutes}
use Rattle.sat_base.specs.Fresh.{AreFresh}
use Rattle.derivation_log.specs.Log.{Lines, Derived, clauses_of}
use Rattle.derivation_log.specs.Printing.{line_of}
use Rattle.solver_trail.specs.Trail.{values_of}
use Rattle.cdcl.specs.Solver.{SolverState}
use Rattle.cdcl.specs.declared.verdict.Verdict.{Verdict}
use Rattle.cdcl.specs.declared.verdict.Verdict.TheVariants.{Model, Refuted, Spent}
use Rattle.step_rules.specs.Setting.{SettingValue}
use Rattle.step_vars.specs.declared.encoding.Encoding.TheVariants.{Counter}
use Rattle.step_vars.specs.Numbering.{before}
use Rattle.step_vars.specs.Encoding.{VarsValue, IsSmall, numbering_of, encoding_of, parts_of, goal_literal, vars_of}
use Rattle.step_vars.specs.Certifies.{vars_up_to}
use Rattle.step_facts.specs.Run.{IsSetting}
use Rattle.step_models.specs.Models.{IsModel, PartsNameTheirVariables}
use Rattle.exact_search.specs.Found.{RefutesFewer, IsSpent}
use Rattle.exact_search.specs.declared.search.Shown.{Shown}

-- what is searched: a setting, the variables of its parts, the most steps and the most derived lines
pub record TaskValue : Type 0 where
  pub setting : SettingValue
  pub vars : VarsValue
  pub budget : ℕ

-- the setting is sound and within the limits, and the variables are those of its parts 0 to the last step
pub record IsTask (task : TaskValue) : Type 0 where
  pub sound : IsSetting task.setting
  pub small : IsSmall task.setting task.vars.steps
  pub vars : task.vars ≡ vars_of task.setting Counter task.vars.steps

-- the parts 0 to the bound name their variables alone
abbrev pub NameTheirVariables : SettingValue → ℕ → Type 0
NameTheirVariables setting bound = PartsNameTheirVariables setting Counter bound

-- the clauses of the parts before a bound
abbrev pub encoding_before : SettingValue → ℕ → List (List Literal)
encoding_before setting zero = []
encoding_before setting (suc bound) = encoding_of setting Counter bound

-- derived lines as those of a certificate over the parts 0 to last
abbrev pub lines_over : SettingValue → ℕ → List Derived → List Line
lines_over setting last derived = map (line_of (length (encoding_of setting Counter last))) derived

-- the lines, derived before the bound was added, are fresh whatever the last bound will be
abbrev pub StayFresh : SettingValue → ℕ → List Derived → Type 0
StayFresh setting bound derived = (last : ℕ) → bound ≤ suc last
    → AreFresh (parts_of setting Counter) last [] (lines_over setting last derived)

-- each lower bound is refuted by a line
abbrev pub RefuteLower : SettingValue → ℕ → List Derived → Type 0
RefuteLower setting bound derived = (lower : ℕ) → lower < bound
    → AnyRefutes (goal_literal setting Counter lower) (clauses_of derived)

-- no clause is after one that refutes the goal
abbrev pub NoneAfterRefuting : Literal → List (List Literal) → Type 0
NoneAfterRefuting goal [] = Unit {0}
NoneAfterRefuting goal (clause ∷ clauses) =
    (Refutes goal clause → clauses ≡ []) × NoneAfterRefuting goal clauses

-- The lines that were derived before the bound was added, within the budget. One that refutes this bound too is
-- the last.
pub record AreDerived (task : TaskValue) (bound : ℕ) (log : Lines) : Type 0 where
  pub few : length log.derived ≤ task.budget
  pub ends : NoneAfterRefuting (goal_literal task.setting Counter bound) (clauses_of log.derived)
  pub fresh : StayFresh task.setting bound log.derived
  pub below : RefuteLower task.setting bound log.derived

-- each bound below this one is added and refuted
pub record HasRefuted (task : TaskValue) (bound : ℕ) (solver : SolverState) (shown : Shown) : Type 0 where
  pub parts : solver.log.axioms ≡ encoding_before task.setting bound
  pub vars : solver.trail.vars ≡ before (numbering_of task.setting Counter) bound
  pub derived : AreDerived task bound solver.log
  pub fewer : RefutesFewer task.setting bound solver.log shown.axioms shown.lines

-- and this bound is added too
pub record HasAdded (task : TaskValue) (bound : ℕ) (solver : SolverState) (shown : Shown) : Type 0 where
  pub parts : solver.log.axioms ≡ encoding_of task.setting Counter bound
  pub vars : solver.trail.vars ≡ vars_up_to task.setting Counter bound
  pub names : NameTheirVariables task.setting bound
  pub derived : AreDerived task bound solver.log
  pub fewer : RefutesFewer task.setting bound solver.log shown.axioms shown.lines

-- the values are a model of the bound, and each lower one is refuted, within the budget
pub record IsModelOf (task : TaskValue) (bound : ℕ) (solver : SolverState) (shown : Shown) : Type 0 where
  pub vars : solver.trail.vars ≡ vars_up_to task.setting Counter bound
  pub model : IsModel task.setting Counter bound (values_of solver.trail.entries)
  pub few : length solver.log.derived ≤ task.budget
  pub fewer : RefutesFewer task.setting bound solver.log shown.axioms shown.lines

-- what a verdict says of the bound
abbrev pub IsDecided : TaskValue → ℕ → SolverState → Shown → Verdict → Type 0
IsDecided task bound solver shown Model = IsModelOf task bound solver shown
IsDecided task bound solver shown (Refuted line) = HasRefuted task (suc bound) solver shown
IsDecided task bound solver shown Spent = IsSpent task.setting task.vars.steps task.budget solver.log bound
