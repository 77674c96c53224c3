-- All parts up to a time: their models and their facts.
use Rattle.std.proofs.Common.{◌≡◌, ℕ, zero, suc, ◌+◌, ◌<◌, ◌≤◌, length, refl, ◌∙◌, subst, arith, inl, inr}
use Rattle.std.proofs.lemmas.Bool.{cases_lt}
use Rattle.sat_base.specs.Clauses.{NameOnly}
use Rattle.sat_base.specs.Truth.{Valuation, Satisfies}
use Rattle.sat_base.proofs.Truth.{Satisfies-append, Satisfies-of_append}
use Rattle.sat_base.proofs.Clauses.{NameOnly-append, NameOnly-weaken}
use Rattle.sat_base.proofs.Agree.{Satisfies-below}
use Rattle.trap_model.specs.Channels.{channels_of}
use Rattle.step_rules.specs.Setting.{SettingValue}
use Rattle.step_vars.specs.declared.encoding.Encoding.{Encoding}
use Rattle.step_vars.specs.Items.{so, goal_item, use_item}
use Rattle.step_vars.specs.Families.{goal_needs_all}
use Rattle.step_vars.specs.Numbering.{Numbering, before, sizes_at, first_helper}
use Rattle.step_vars.specs.Encoding.{IsSmall, vars_of, numbering_of, start_clauses, layer_of, goal_of, part_of, encoding_of}
use Rattle.step_vars.proofs.Inverse.{before_mono}
use Rattle.step_vars.proofs.HaveNumbers.{use_has_number, goal_has_number}
use Rattle.step_facts.specs.Facts.{Facts, AllHold}
use Rattle.step_facts.specs.OfSchedule.{facts_of as schedule_facts}
use Rattle.step_facts.specs.Run.{IsSetting, StepHolds, PartsHold}
use Rattle.step_facts.specs.Theorems.{SchedulesHaveFacts, FactsSayUses}
use Rattle.step_models.specs.Models.{facts_of, EveryScheduleFits, EveryModelHasFacts}
use Rattle.step_models.proofs.Truth.{Says, IsOwn, values_of, says_first, says_kept, claim_said, clauses_satisfied, clauses_hold, clauses_own}
use Rattle.step_models.proofs.Limited.{EncodingsLimit}
use Rattle.step_models.proofs.Bounds.{Extended}
use Rattle.step_models.proofs.Ready.{step_is_ready, start_is_ready, goal_is_ready}
use Rattle.step_models.proofs.Step.{step_holds, step_own, step_extended}

small_before : (setting : SettingValue) (s t : ℕ) → s ≤ t → IsSmall setting t → IsSmall setting s
small_before setting s t h small =
    record { ions = small.ions; places = small.places; ops = small.ops; time = omega (arith, small.time) }

own_later : (n : Numbering) (s t var : ℕ) → s ≤ t → IsOwn n s var → IsOwn n t var
own_later n s t var h own = (own.0, omega (arith, own.1, before_mono n (s + 1) (t + 1) (omega arith)))

-- ---- the variables

-- of one part
part_own : EncodingsLimit → (setting : SettingValue) (encoding : Encoding) (t : ℕ) → IsSetting setting
    → IsSmall setting t
    → NameOnly (IsOwn (numbering_of setting encoding) t) (part_of setting encoding t)
unfolding vars_of numbering_of layer_of goal_of
part_own all setting encoding zero is small =
    let v = vars_of setting encoding zero in
    NameOnly-append (IsOwn v.numbering zero) _ _
    (clauses_own v (start_clauses setting) (start_is_ready setting encoding zero is small))
    (clauses_own v (goal_needs_all setting zero) (goal_is_ready setting encoding zero))
part_own all setting encoding (suc r) is small =
    let v = vars_of setting encoding (suc r) in
    NameOnly-append (IsOwn v.numbering (suc r)) _ _
    (step_own all v setting r (suc r) (step_is_ready setting encoding r is small))
    (clauses_own v (goal_needs_all setting (suc r)) (goal_is_ready setting encoding (suc r)))

pub parts_own : EncodingsLimit → (setting : SettingValue) (encoding : Encoding) (t : ℕ) → IsSetting setting
    → IsSmall setting t
    → NameOnly (IsOwn (numbering_of setting encoding) t) (encoding_of setting encoding t)
parts_own all setting encoding zero is small = part_own all setting encoding zero is small
parts_own all setting encoding (suc r) is small =
    let n = numbering_of setting encoding in
    let last : r ≤ suc r = omega arith in
    NameOnly-append (IsOwn n (suc r)) (encoding_of setting encoding r) (part_of setting encoding (suc r))
    (NameOnly-weaken (IsOwn n r) (IsOwn n (suc r)) (encoding_of setting encoding r)
    (λ var own. own_later n r (suc r) var last own)
    (parts_own all setting encoding r is (small_before setting r (suc r) last small)))
    (part_own all setting encoding (suc r) is small)

-- ---- from models to facts

-- what the parts up to a time say of the facts
record HoldUpTo (setting : SettingValue) (facts : Facts) (t : ℕ) : Type 0 where
  pub start : AllHold facts (start_clauses setting)
  pub steps : (r : ℕ) → r < t → StepHolds setting facts r (suc r)
  pub goals : (s : ℕ) → s ≤ t → AllHold facts (goal_needs_all setting s)

-- the goal's family is in each part
goal_holds : (setting : SettingValue) (encoding : Encoding) (t : ℕ) (values : Valuation)
    → Satisfies values (goal_of setting encoding t)
    → AllHold (facts_of setting encoding values) (goal_needs_all setting t)
unfolding goal_of
goal_holds setting encoding t values sat =
    clauses_hold (numbering_of setting encoding) values (goal_needs_all setting t) sat

start_holds : (setting : SettingValue) (encoding : Encoding) (values : Valuation)
    → Satisfies values (layer_of setting encoding zero)
    → AllHold (facts_of setting encoding values) (start_clauses setting)
unfolding layer_of
start_holds setting encoding values sat =
    clauses_hold (numbering_of setting encoding) values (start_clauses setting) sat

layer_holds : EncodingsLimit → (setting : SettingValue) (encoding : Encoding) (r : ℕ) (values : Valuation)
    → IsSetting setting → IsSmall setting (suc r)
    → Satisfies values (layer_of setting encoding (suc r))
    → StepHolds setting (facts_of setting encoding values) r (suc r)
unfolding layer_of vars_of
layer_holds all setting encoding r values is small sat =
    step_holds all (vars_of setting encoding (suc r)) setting r (suc r) values
    (step_is_ready setting encoding r is small) sat

-- what holds up to a time and in the next part holds up to the next time
one_more : (setting : SettingValue) (facts : Facts) (r : ℕ) → HoldUpTo setting facts r
    → StepHolds setting facts r (suc r)
    → AllHold facts (goal_needs_all setting (suc r)) → HoldUpTo setting facts (suc r)
one_more setting facts r before step goal = record {
  start = before.start;
  steps = λ s below. elim (cases_lt s r) [
    | inl earlier ↦ before.steps s earlier
    | inr now ↦ let same : r ≡ s = omega arith in subst (λ k. StepHolds setting facts k (suc k)) same step
  ];
  goals = λ s within. elim (cases_lt s (suc r)) [
    | inl earlier ↦ before.goals s (omega arith)
    | inr now ↦
        let same : suc r ≡ s = omega arith in
        subst (λ k. AllHold facts (goal_needs_all setting k)) same goal
  ];
}

parts_hold : EncodingsLimit → (setting : SettingValue) (encoding : Encoding) (t : ℕ) (values : Valuation)
    → IsSetting setting → IsSmall setting t
    → Satisfies values (encoding_of setting encoding t) → HoldUpTo setting (facts_of setting encoding values) t
parts_hold all setting encoding zero values is small sat =
    let facts = facts_of setting encoding values in
    let parts = Satisfies-of_append values (layer_of setting encoding zero)
    (goal_of setting encoding zero) sat in
    let goal = goal_holds setting encoding zero values parts.1 in
    record {
      start = start_holds setting encoding values parts.0;
      steps = λ r below. absurd (omega arith);
      goals = λ s within.
          let same : zero ≡ s = omega arith in
          subst (λ k. AllHold facts (goal_needs_all setting k)) same goal;
    }
parts_hold all setting encoding (suc r) values is small sat =
    let parts = Satisfies-of_append values (encoding_of setting encoding r)
    (part_of setting encoding (suc r)) sat in
    let last = Satisfies-of_append values (layer_of setting encoding (suc r))
    (goal_of setting encoding (suc r)) parts.1 in
    one_more setting (facts_of setting encoding values) r
    (parts_hold all setting encoding r values is (small_before setting r (suc r) (omega arith) small) parts.0)
    (layer_holds all setting encoding r values is small last.0)
    (goal_holds setting encoding (suc r) values last.1)

pub models_have_facts : EncodingsLimit → (setting : SettingValue) (encoding : Encoding) (t : ℕ)
    → IsSetting setting → IsSmall setting t
    → EveryModelHasFacts setting encoding t
models_have_facts all setting encoding t is small values model =
    let h = parts_hold all setting encoding t values is small model.clauses in
    record { start = h.start; steps = h.steps; goals = h.goals; goal = model.goal }

-- ---- from facts to models

-- an assignment that says the facts and satisfies the parts up to a time
record SatisfiesUpTo (setting : SettingValue) (encoding : Encoding) (facts : Facts) (t : ℕ) : Type 0 where
  pub values : Valuation
  pub says : Says (numbering_of setting encoding) facts values
  pub satisfies : Satisfies values (encoding_of setting encoding t)

goal_satisfied : (setting : SettingValue) (encoding : Encoding) (facts : Facts) (t : ℕ)
    (values : Valuation) → Says (numbering_of setting encoding) facts values
    → AllHold facts (goal_needs_all setting t) → Satisfies values (goal_of setting encoding t)
unfolding goal_of vars_of
goal_satisfied setting encoding facts t values says h =
    clauses_satisfied (vars_of setting encoding t) facts values (goal_needs_all setting t) says
    (goal_is_ready setting encoding t) h

start_satisfied : (setting : SettingValue) (encoding : Encoding) (facts : Facts) (values : Valuation)
    → IsSetting setting → IsSmall setting zero
    → Says (numbering_of setting encoding) facts values → AllHold facts (start_clauses setting)
    → Satisfies values (layer_of setting encoding zero)
unfolding layer_of vars_of
start_satisfied setting encoding facts values is small says h =
    clauses_satisfied (vars_of setting encoding zero) facts values (start_clauses setting) says
    (start_is_ready setting encoding zero is small) h

layer_extended : EncodingsLimit
    → (setting : SettingValue) (encoding : Encoding) (facts : Facts) (r : ℕ) (values : Valuation)
    → IsSetting setting
    → IsSmall setting (suc r) → Says (numbering_of setting encoding) facts values
    → StepHolds setting facts r (suc r)
    → Extended values (first_helper (numbering_of setting encoding) (suc r))
    (first_helper (numbering_of setting encoding) (suc r)
    + (sizes_at (numbering_of setting encoding) (suc r)).helpers)
    (layer_of setting encoding (suc r))
unfolding layer_of vars_of
layer_extended all setting encoding facts r values is small says h =
    step_extended all (vars_of setting encoding (suc r)) setting facts r (suc r) values
    (step_is_ready setting encoding r is small) says h

-- the next part's helpers are in no earlier clause
next_satisfied : EncodingsLimit → (setting : SettingValue) (encoding : Encoding) (facts : Facts) (r : ℕ)
    → IsSetting setting → IsSmall setting (suc r)
    → SatisfiesUpTo setting encoding facts r → StepHolds setting facts r (suc r)
    → AllHold facts (goal_needs_all setting (suc r))
    → SatisfiesUpTo setting encoding facts (suc r)
next_satisfied all setting encoding facts r is small so_far step goal =
    let n = numbering_of setting encoding in
    let first = first_helper n (suc r) in
    let end = first + (sizes_at n (suc r)).helpers in
    let more = layer_extended all setting encoding facts r so_far.values is small so_far.says step in
    let says = says_kept n facts (suc r) end so_far.values more.other so_far.says refl more.agree in
    let next : r + 1 ≡ suc r = omega arith in
    let earlier = NameOnly-weaken (IsOwn n r) (λ var. var < first) (encoding_of setting encoding r)
    (λ var own. let within = subst (λ k. var ≤ before n k) next own.1 in omega arith)
    (parts_own all setting encoding r is (small_before setting r (suc r) (omega arith) small)) in
    record {
      values = more.other;
      says = says;
      satisfies = Satisfies-append more.other (encoding_of setting encoding r)
          (part_of setting encoding (suc r))
          (Satisfies-below first end so_far.values more.other
          (encoding_of setting encoding r) more.agree earlier so_far.satisfies)
          (Satisfies-append more.other (layer_of setting encoding (suc r))
          (goal_of setting encoding (suc r)) more.satisfies
          (goal_satisfied setting encoding facts (suc r) more.other says goal));
    }

parts_satisfied : EncodingsLimit
    → (setting : SettingValue) (encoding : Encoding) (facts : Facts) (last t : ℕ) → IsSetting setting
    → IsSmall setting last
    → PartsHold setting facts last → t ≤ last → SatisfiesUpTo setting encoding facts t
parts_satisfied all setting encoding facts last zero is small h within =
    let n = numbering_of setting encoding in
    let says = says_first n facts in
    record {
      values = values_of n facts;
      says = says;
      satisfies = Satisfies-append (values_of n facts) (layer_of setting encoding zero)
          (goal_of setting encoding zero)
          (start_satisfied setting encoding facts (values_of n facts) is
          (small_before setting zero last within small) says h.start)
          (goal_satisfied setting encoding facts zero (values_of n facts) says (h.goals zero within));
    }
parts_satisfied all setting encoding facts last (suc r) is small h within =
    next_satisfied all setting encoding facts r is (small_before setting (suc r) last within small)
    (parts_satisfied all setting encoding facts last r is small h (omega arith)) (h.steps r (omega arith))
    (h.goals (suc r) within)

-- what the facts say of a channel's use the assignment says
use_said : (setting : SettingValue) (encoding : Encoding) (facts : Facts) (values : Valuation) (c s : ℕ)
    → Says (numbering_of setting encoding) facts values
    → c < length (channels_of setting.trap) → 1 ≤ s
    → facts_of setting encoding values (use_item c s) ≡ facts (use_item c s)
unfolding numbering_of
use_said setting encoding facts values c s says there from_1 =
    claim_said (numbering_of setting encoding) facts values (so (use_item c s)) says
    (use_has_number (numbering_of setting encoding) c s there (omega arith))

pub schedules_fit : EncodingsLimit → (setting : SettingValue) (encoding : Encoding) (t : ℕ)
    → IsSetting setting → IsSmall setting t
    → SchedulesHaveFacts setting t → FactsSayUses setting → EveryScheduleFits setting encoding t
schedules_fit all setting encoding t is small have uses steps plays long =
    let n = numbering_of setting encoding in
    let facts = schedule_facts setting steps in
    let h = have steps plays long in
    let found = parts_satisfied all setting encoding facts t t is small h (omega arith) in
    record {
      values = found.values;
      model = record {
        clauses = found.satisfies;
        goal = claim_said n facts found.values (so (goal_item t)) found.says (goal_has_number n t) ∙ h.goal;
      };
      uses = λ c s there from_1 within.
          use_said setting encoding facts found.values c s found.says there from_1 ∙ uses steps c s;
    }
