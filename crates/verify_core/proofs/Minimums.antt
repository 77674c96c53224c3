-- The clauses that a certificate of a minimum is checked over.
use Rattle.std.proofs.Common.{◌≡◌, ℕ, zero, suc, ◌+◌, ◌-◌, ◌<◌, ◌≤◌, ◌^◌, List, [], ◌++◌, length, None, refl, sym, ap, ◌∙◌, subst, arith, append_assoc}
use Rattle.sat_base.specs.Literal.{Literal, positive_of}
use Rattle.sat_base.specs.Certificate.{head_text}
use Rattle.derivation_check.specs.Faults.{Task}
use Rattle.derivation_check.specs.Progress.{Progress, WasFed, task_of}
use Rattle.step_rules.specs.Setting.{SettingValue}
use Rattle.step_vars.specs.declared.encoding.Encoding.{Encoding}
use Rattle.step_vars.specs.Encoding.{VarsValue, vars_of, layer_of, goal_of, encoding_of, goal_literal}
use Rattle.step_vars.proofs.OfSetting.{as_made, encoding_is}
use Rattle.step_vars.specs.Certifies.{vars_up_to, head_of, asked}
use Rattle.verify_core.specs.declared.verification.TheConstants.{LIMIT}
use Rattle.derivation_check.specs.HeadFaults.{IsBound}
use Rattle.verify_core.specs.Verifying.{task_for}
use Rattle.verify_core.proofs.Heads.{head_len}
use Rattle.verify_core.proofs.Certificates.{is_encoding}
use Rattle.verify_core.specs.Reading.{MinimumValue, IsReady, encoding_before}

-- ---- the variables of a minimum

pub made_for : (minimum : MinimumValue) (setting : SettingValue) (vars : VarsValue) (bound : ℕ) → setting ≡ minimum.setting → vars ≡ vars_of minimum.setting vars.encoding bound
    → vars ≡ vars_of setting vars.encoding vars.steps
made_for minimum setting vars bound same made =
    as_made minimum.setting vars.encoding bound vars made ∙ ap (λ (it : SettingValue). vars_of it vars.encoding vars.steps) (sym same)

pub made_in : (minimum : MinimumValue) (setting : SettingValue) (encoding : Encoding) (steps : ℕ) (vars : VarsValue) → setting ≡ minimum.setting → vars ≡ vars_of setting encoding steps
    → vars ≡ vars_of minimum.setting vars.encoding steps
made_in minimum setting encoding steps vars same made =
    made ∙ ap (λ (it : Encoding). vars_of setting it steps) (sym (encoding_is setting encoding steps vars made)) ∙ ap (λ (it : SettingValue). vars_of it vars.encoding steps) same

-- what is asked for is small, and so is its head
pub asked_small : (steps : ℕ) → steps ≤ 48 → IsBound (asked steps)
asked_small zero few = tt
asked_small (suc bound) few = omega (arith, few)

pub asked_head : (encoding : Encoding) (steps : ℕ) → steps ≤ 48 → length (head_text (head_of encoding (asked steps))) ≤ 50
asked_head encoding steps few = head_len (head_of encoding (asked steps)) (is_encoding encoding) (asked_small steps few)

-- ---- clauses

-- one part more
next_part : (setting : SettingValue) (encoding : Encoding) (t : ℕ) → encoding_before setting encoding t ++ (layer_of setting encoding t ++ goal_of setting encoding t) ≡ encoding_before setting encoding (suc t)
next_part setting encoding zero = refl
next_part setting encoding (suc r) = refl

pub part_more : (setting : SettingValue) (encoding : Encoding) (t : ℕ) (old mid new : List (List Literal)) → old ≡ encoding_before setting encoding t → mid ≡ old ++ layer_of setting encoding t
    → new ≡ mid ++ goal_of setting encoding t → new ≡ encoding_before setting encoding (t + 1)
part_more setting encoding t old mid new before layer goal =
    let next : suc t ≡ t + 1 = omega arith in
    let own = layer_of setting encoding t in
    let last = goal_of setting encoding t in
    goal ∙ ap (λ (xs : List (List Literal)). xs ++ last) (layer ∙ ap (λ (xs : List (List Literal)). xs ++ own) before) ∙ append_assoc (encoding_before setting encoding t) own last
    ∙ next_part setting encoding t ∙ ap (encoding_before setting encoding) next

-- after the last bound they are all
pub all_parts : (setting : SettingValue) (encoding : Encoding) (bound t : ℕ) (formula : List (List Literal)) → formula ≡ encoding_before setting encoding t → t ≡ bound + 1 → formula ≡ encoding_of setting encoding bound
all_parts setting encoding bound t formula is last = let e : t ≡ suc bound = omega (arith, last) in is ∙ ap (encoding_before setting encoding) e

-- a literal that is not negated is its variable's
positive_is : (literal : Literal) (setting : SettingValue) (encoding : Encoding) (bound : ℕ) → literal ≡ goal_literal setting encoding bound → positive_of literal.var ≡ goal_literal setting encoding bound
positive_is literal setting encoding bound e = ap (λ (it : Literal). positive_of it.var) e

-- the checker is ready
pub is_ready : (minimum : MinimumValue) (setting : SettingValue) (encoding : Encoding) (bound count head goal : ℕ) (formula : List (List Literal)) (literal : Literal) (checker : Progress) → setting ≡ minimum.setting
    → formula ≡ encoding_of setting encoding bound → count ≡ vars_up_to setting encoding bound → literal ≡ goal_literal setting encoding bound → goal ≡ literal.var → 1 ≤ goal → goal < 2 ^ 31
    → count < 2 ^ 31 → length formula ≤ 2 ^ 62 → head ≡ length (head_text (head_of encoding (asked (suc bound)))) → WasFed (task_of formula count (LIMIT - head)) [] checker → checker.stopped ≡ None
    → IsReady minimum.setting encoding bound checker goal
is_ready minimum setting encoding bound count head goal formula literal checker same clauses vars is at from_1 below small few long fed no_fault =
    let limit = LIMIT - length (head_text (head_of encoding (asked (suc bound)))) in
    let task : task_of formula count (LIMIT - head) ≡ task_for setting encoding bound =
    ap (λ (xs : List (List Literal)). task_of xs count (LIMIT - head)) clauses ∙ ap (λ (n : ℕ). task_of (encoding_of setting encoding bound) n (LIMIT - head)) vars
    ∙ ap (λ (n : ℕ). task_of (encoding_of setting encoding bound) (vars_up_to setting encoding bound) (LIMIT - n)) long in
    let whole = ap length clauses in
    subst (λ (it : SettingValue). IsReady it encoding bound checker goal) same (record {
      fed = subst (λ (it : Task). WasFed it [] checker) task fed;
      no_fault = no_fault;
      small = record { vars = omega (arith, small, vars); lines = omega (arith, few, whole) };
      is_goal = ap positive_of at ∙ positive_is literal setting encoding bound is;
      from_1 = from_1;
      below = below;
    })
