-- What the search says of a verdict of the solver.
use Rattle.std.proofs.Common.{◌≡◌, ℕ, zero, suc, ◌+◌, ◌<◌, ◌≤◌, ◌^◌, List, [], length, take, sym, ap, ◌∙◌, subst, arith, inl, inr}
use Rattle.std.specs.Prelude.{IsTrue}
use Rattle.std.proofs.lemmas.Bool.{cases_lt}
use Rattle.std.proofs.lemmas.List.{length-map, length-take-le}
use Rattle.std.proofs.Math.Nat.{pow-le-pow_right}
use Rattle.sat_base.specs.Literal.{Literal}
use Rattle.sat_base.specs.Truth.{is_true, Satisfies}
use Rattle.sat_base.specs.Derivation.{Line}
use Rattle.sat_base.specs.Certificate.{HaveForm}
use Rattle.sat_base.specs.Fresh.{AreFresh}
use Rattle.derivation_log.specs.declared.line_id.LineId.{LineId}
use Rattle.derivation_log.specs.Log.{Lines, IsSound}
use Rattle.derivation_log.specs.Printing.{line_of, first_lines}
use Rattle.solver_trail.specs.Trail.{values_of}
use Rattle.cdcl.specs.Solver.{SolverState, Learns, IsRefuting, IsVerdict}
use Rattle.cdcl.specs.Solver.{IsSpent as IsSpentSolver, IsModel as IsModelThere}
use Rattle.cdcl.specs.declared.verdict.Verdict.{Verdict}
use Rattle.cdcl.specs.declared.verdict.Verdict.TheVariants.{Model, Refuted, Spent}
use Rattle.step_rules.specs.Setting.{SettingValue}
use Rattle.step_vars.specs.declared.encoding.Encoding.TheVariants.{Counter}
use Rattle.step_vars.specs.Numbering.{Numbering, before}
use Rattle.step_vars.specs.Encoding.{numbering_of, encoding_of, parts_of, goal_literal}
use Rattle.step_vars.specs.Certifies.{vars_up_to}
use Rattle.exact_search.specs.declared.search.Shown.{Shown}
use Rattle.exact_search.specs.Found.{HasLines, IsSpent}
use Rattle.exact_search.specs.Searching.{TaskValue, HasRefuted, HasAdded, IsModelOf}
use Rattle.exact_search.proofs.Bounds.{IsSolved, axioms_after, fewer_after, refuted, spent}

pub solved : (task : TaskValue) (bound : ℕ) (old new : SolverState) (goal : Literal) → goal ≡ goal_literal task.setting Counter bound → Learns old.log new.log goal
    → new.trail.vars ≡ old.trail.vars → length new.log.derived ≤ task.budget → IsSound new.log → IsSolved task bound old new
solved task bound old new goal is learns vars few sound = record { learns = subst (Learns old.log new.log) is learns; vars = vars; few = few; sound = sound }

pub refuted_by : (task : TaskValue) (bound axioms : ℕ) (old new : SolverState) (shown : Shown) (goal : Literal) (verdict : Verdict) (line : LineId) → HasAdded task bound old shown
    → IsSolved task bound old new → goal ≡ goal_literal task.setting Counter bound → IsVerdict new goal task.budget verdict → verdict ≡ Refuted line → axioms ≡ length new.log.axioms
    → HasRefuted task (suc bound) new (record { axioms = axioms; lines = line.number })
refuted_by task bound axioms old new shown goal verdict line added solved is says refuted_is count =
    let refuting : IsRefuting new.log (goal_literal task.setting Counter bound) line =
    subst (λ (literal : Literal). IsRefuting new.log literal line) is (subst (IsVerdict new goal task.budget) refuted_is says) in
    subst (λ (n : ℕ). HasRefuted task (suc bound) new (record { axioms = n; lines = line.number })) (sym count) (refuted task bound old new shown line added solved refuting)

pub model_of : (task : TaskValue) (bound : ℕ) (old new : SolverState) (shown : Shown) (goal : Literal) (verdict : Verdict) → HasAdded task bound old shown
    → IsSolved task bound old new → goal ≡ goal_literal task.setting Counter bound → IsVerdict new goal task.budget verdict → verdict ≡ Model → IsModelOf task bound new shown
model_of task bound old new shown goal verdict added solved is says model_is =
    let model : IsModelThere new goal = subst (IsVerdict new goal task.budget) model_is says in
    record {
      vars = solved.vars ∙ added.vars;
      model = record {
        clauses = subst (Satisfies (values_of new.trail.entries)) (axioms_after task bound old new added.parts solved) model.clauses;
        goal = subst (λ (literal : Literal). IsTrue (is_true (values_of new.trail.entries) literal)) is model.goal;
      };
      few = solved.few;
      fewer = fewer_after task bound old new shown added solved;
    }

pub before_grows : (n : Numbering) (low high : ℕ) → low ≤ high → before n low ≤ before n high
before_grows n low zero le = let e : low ≡ 0 = omega arith in omega (arith, ap (before n) e)
before_grows n low (suc high) le =
    elim (cases_lt low (suc high)) [
      | inl less ↦ omega (arith, before_grows n low high (omega arith))
      | inr more ↦ let e : low ≡ suc high = omega arith in omega (arith, ap (before n) e)
    ]

-- there are fewer fresh lines over the parts 0 to the bound than clauses
abbrev pub HasFewFresh : SettingValue → ℕ → Type 0
HasFewFresh setting bound = (lines : List Line) → HaveForm (vars_up_to setting Counter bound) (length (encoding_of setting Counter bound) + 1) lines → AreFresh (parts_of setting Counter) bound [] lines
    → length lines < 3 ^ vars_up_to setting Counter bound

-- fewer fresh lines than there are clauses
few_lines : (task : TaskValue) (bound : ℕ) (log : Lines) → log.axioms ≡ encoding_of task.setting Counter bound → bound ≤ task.vars.steps → length log.derived ≡ task.budget → HasLines task.setting bound log (length log.axioms) task.budget
    → HasFewFresh task.setting bound
    → task.budget < 3 ^ vars_up_to task.setting Counter task.vars.steps
few_lines task bound log parts within count has few =
    let axioms = length log.axioms in
    let lines = first_lines log axioms task.budget in
    let size : length lines ≡ task.budget = length-map (take task.budget log.derived) (line_of axioms) ∙ length-take-le task.budget log.derived (omega (arith, count)) in
    let less = few lines has.are.form has.are.fresh in
    let grows = before_grows (numbering_of task.setting Counter) (bound + 1) (task.vars.steps + 1) (omega (arith, within)) in
    let most = pow-le-pow_right {n = 3} (omega arith) grows in
    omega (arith, less, size, most)

pub spent_at : (task : TaskValue) (bound : ℕ) (old new : SolverState) (shown : Shown) (goal : Literal) (verdict : Verdict) → bound ≤ task.vars.steps → HasAdded task bound old shown
    → IsSolved task bound old new → goal ≡ goal_literal task.setting Counter bound → IsVerdict new goal task.budget verdict → verdict ≡ Spent
    → HasFewFresh task.setting bound
    → IsSpent task.setting task.vars.steps task.budget new.log bound
spent_at task bound old new shown goal verdict within added solved is says spent_is few =
    let spends : IsSpentSolver new.log (goal_literal task.setting Counter bound) task.budget =
    subst (λ (literal : Literal). IsSpentSolver new.log literal task.budget) is (subst (IsVerdict new goal task.budget) spent_is says) in
    spent task bound old new shown within added solved spends (λ has. few_lines task bound new.log (axioms_after task bound old new added.parts solved) within spends.spent has few)
