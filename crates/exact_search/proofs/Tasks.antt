-- What a task's variables are.
use Rattle.std.proofs.Common.{◌≡◌, ℕ, zero, suc, ◌+◌, ◌<◌, ◌≤◌, List, [], ◌∷◌, ◌++◌, refl, sym, ap, ◌∙◌, subst, arith}
use Rattle.std.specs.Prelude.{IsTrue, Result, IfOk}
use Rattle.qc_base.specs.declared.ids.NoMemory.{NoMemory}
use Rattle.step_rules.specs.declared.action.Action.{Action}
use Rattle.sat_base.specs.Literal.{Literal}
use Rattle.sat_base.specs.Clauses.{NameOnly}
use Rattle.sat_base.specs.Truth.{Valuation}
use Rattle.sat_base.proofs.Clauses.{NameOnly-weaken}
use Rattle.sat_base.proofs.Truth.{Satisfies-agree}
use Rattle.step_rules.specs.Setting.{SettingValue}
use Rattle.step_vars.specs.declared.item.Claim.{Claim}
use Rattle.step_vars.specs.declared.encoding.Encoding.{Encoding}
use Rattle.step_vars.specs.declared.encoding.Encoding.TheVariants.{Counter}
use Rattle.step_vars.specs.Items.{so, goal_item}
use Rattle.step_vars.specs.Numbering.{literal_of, before, sizes_at, part_size}
use Rattle.step_vars.specs.Encoding.{VarsValue, numbering_of, vars_of, encoding_of, part_of, layer_of, goal_of, goal_literal}
use Rattle.step_vars.proofs.OfSetting.{encoding_is, steps_are, goal_last, goal_named, counted}
use Rattle.step_vars.specs.Certifies.{vars_up_to}
use Rattle.step_facts.specs.Theorems.{IsScheduleOf}
use Rattle.step_models.specs.Models.{facts_of, IsModel}
use Rattle.exact_search.specs.Searching.{TaskValue, NameTheirVariables, encoding_before}

-- the variables with their own number of steps
pub with_own_steps : (setting : SettingValue) (steps : ℕ) (vars : VarsValue) → vars ≡ vars_of setting Counter steps → vars ≡ vars_of setting Counter vars.steps
with_own_steps setting steps vars made = made ∙ ap (λ (n : ℕ). vars_of setting Counter n) (sym (steps_are setting Counter steps vars made))

-- the same in the words of a task that has these variables
pub task_goal : (task : TaskValue) (setting : SettingValue) (vars : VarsValue) (bound : ℕ) (claim : Claim) (literal : Literal) → setting ≡ task.setting → vars ≡ vars_of setting Counter vars.steps
    → claim ≡ so (goal_item bound) → literal ≡ literal_of vars.numbering claim → literal ≡ goal_literal task.setting Counter bound
task_goal task setting vars bound claim literal same made is e =
    goal_named setting Counter vars.steps vars bound claim literal made is e ∙ ap (λ (it : SettingValue). goal_literal it Counter bound) same

pub goal_is_last : (task : TaskValue) (bound : ℕ) → (goal_literal task.setting Counter bound).var ≡ vars_up_to task.setting Counter bound
goal_is_last task bound = goal_last (numbering_of task.setting Counter) bound

pub task_vars : (task : TaskValue) (setting : SettingValue) (vars : VarsValue) (bound count : ℕ) → setting ≡ task.setting → vars ≡ vars_of setting Counter vars.steps
    → count ≡ before vars.numbering (bound + 1) → count ≡ vars_up_to task.setting Counter bound
task_vars task setting vars bound count same made e =
    counted setting Counter vars.steps vars bound count made e ∙ ap (λ (it : SettingValue). vars_up_to it Counter bound) same

-- ---- parts

NameOnly-of_append_right : (P : ℕ → Type 0) (a b : List (List Literal)) → NameOnly P (a ++ b) → NameOnly P b
NameOnly-of_append_right P [] b names = names
NameOnly-of_append_right P (clause ∷ a) b names = NameOnly-of_append_right P a b names.1

-- a part that was emitted, in the words of the setting
pub is_part : (task : TaskValue) (setting : SettingValue) (encoding : Encoding) (bound : ℕ) (none first both : List (List Literal)) → none ≡ [] → first ≡ none ++ layer_of setting encoding bound
    → both ≡ first ++ goal_of setting encoding bound → encoding ≡ Counter → setting ≡ task.setting → both ≡ part_of task.setting Counter bound
is_part task setting encoding bound none first both empty layer goal is same =
    goal ∙ ap (λ (xs : List (List Literal)). xs ++ goal_of setting encoding bound) (layer ∙ ap (λ (xs : List (List Literal)). xs ++ layer_of setting encoding bound) empty)
    ∙ ap (λ (e : Encoding). part_of setting e bound) is ∙ ap (λ (it : SettingValue). part_of it Counter bound) same

-- the parts before a bound, and its own
pub one_part_more : (setting : SettingValue) (bound : ℕ) → encoding_before setting bound ++ part_of setting Counter bound ≡ encoding_of setting Counter bound
one_part_more setting zero = refl
one_part_more setting (suc r) = refl

-- each part has a variable
pub vars_grow : (setting : SettingValue) (bound : ℕ) → before (numbering_of setting Counter) bound < vars_up_to setting Counter bound
vars_grow setting bound =
    let n = numbering_of setting Counter in
    let next : before n (bound + 1) ≡ before n bound + part_size (sizes_at n bound) = let e : bound + 1 ≡ suc bound = omega arith in ap (before n) e in
    omega (arith, next)

-- the clauses of a part name variables up to it
pub part_names : (setting : SettingValue) (bound vars : ℕ) (part : List (List Literal)) → vars ≡ vars_up_to setting Counter bound → part ≡ part_of setting Counter bound
    → NameTheirVariables setting bound → NameOnly (λ var. var ≤ vars) part
part_names setting bound vars part count is names =
    let all = vars_up_to setting Counter bound in
    let split : NameOnly (λ var. (1 ≤ var) × (var ≤ all)) (encoding_before setting bound ++ part_of setting Counter bound) =
    subst (NameOnly (λ var. (1 ≤ var) × (var ≤ all))) (sym (one_part_more setting bound)) names in
    let own = NameOnly-of_append_right (λ var. (1 ≤ var) × (var ≤ all)) (encoding_before setting bound) (part_of setting Counter bound) split in
    subst (NameOnly (λ var. var ≤ vars)) (sym is)
    (NameOnly-weaken (λ var. (1 ≤ var) × (var ≤ all)) (λ var. var ≤ vars) (part_of setting Counter bound) (λ var within. let most = within.1 in omega (arith, most, count)) own)

-- ---- schedules of models

pub same_model : (task : TaskValue) (setting : SettingValue) (vars : VarsValue) (bound : ℕ) (values : Valuation) → setting ≡ task.setting → vars ≡ vars_of setting Counter vars.steps
    → IsModel task.setting Counter bound values → IsModel setting vars.encoding bound values
same_model task setting vars bound values same made model =
    subst (λ (e : Encoding). IsModel setting e bound values) (sym (encoding_is setting Counter vars.steps vars made)) (subst (λ (it : SettingValue). IsModel it Counter bound values) (sym same) model)

pub same_schedule : (task : TaskValue) (setting : SettingValue) (vars : VarsValue) (bound : ℕ) (values : Valuation) (answer : Result (List (List Action)) NoMemory) → setting ≡ task.setting
    → vars ≡ vars_of setting Counter vars.steps → IfOk answer (IsScheduleOf setting (facts_of setting vars.encoding values) bound)
    → IfOk answer (IsScheduleOf task.setting (facts_of task.setting Counter values) bound)
same_schedule task setting vars bound values answer same made is =
    subst (λ (it : SettingValue). IfOk answer (IsScheduleOf it (facts_of it Counter values) bound)) same
    (subst (λ (e : Encoding). IfOk answer (IsScheduleOf setting (facts_of setting e values) bound)) (encoding_is setting Counter vars.steps vars made) is)

-- ---- values

-- values that agree on the variables of the parts are a model as well
pub model_by : (setting : SettingValue) (bound : ℕ) (values other : Valuation) → NameTheirVariables setting bound → (goal_literal setting Counter bound).var ≡ vars_up_to setting Counter bound
    → 1 ≤ vars_up_to setting Counter bound → ((var : ℕ) → 1 ≤ var → var ≤ vars_up_to setting Counter bound → values var ≡ other var)
    → IsModel setting Counter bound values → IsModel setting Counter bound other
model_by setting bound values other names last some same model =
    let vars = vars_up_to setting Counter bound in
    let goal = goal_literal setting Counter bound in
    let at : values goal.var ≡ other goal.var = same goal.var (omega (arith, last, some)) (omega (arith, last)) in
    record {
      clauses = Satisfies-agree values other (encoding_of setting Counter bound)
          (NameOnly-weaken (λ var. (1 ≤ var) × (var ≤ vars)) (λ var. values var ≡ other var) (encoding_of setting Counter bound) (λ var within. same var within.0 within.1) names) model.clauses;
      goal = subst IsTrue at model.goal;
    }
