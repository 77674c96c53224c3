-- Facts in which all families hold are those of a schedule that plays.
use Rattle.std.proofs.Common.{◌≡◌, ℕ, zero, suc, ◌+◌, ◌<◌, ◌≤◌, List, [], length, take, slice_index_or, refl, sym, ap, subst, ◌∙◌, arith}
use Rattle.qc_base.specs.declared.ids.Ion.{Ion}
use Rattle.step_rules.specs.Placement.{start_of}
use Rattle.step_rules.specs.Setting.{SettingValue}
use Rattle.step_rules.specs.Steps.{after_step}
use Rattle.step_rules.specs.Play.{AreLegal, after_steps}
use Rattle.step_facts.specs.Facts.{Facts}
use Rattle.step_facts.specs.Run.{IsSetting, IsStart, IsStep, IsRun}
use Rattle.step_facts.specs.OfSchedule.{config_at, step_at}
use Rattle.step_facts.specs.ToSchedule.{step_of, steps_from, schedule_of}
use Rattle.step_facts.specs.Agreement.{IsSound, Agrees, AgreesInStep, Describes}
use Rattle.step_facts.specs.Theorems.{FactsAreSchedules}
use Rattle.step_facts.proofs.Parts.{run_iff}
use Rattle.step_facts.proofs.Configs.{sound-order, sound-start, sound-after, starts_at-list, step_next}
use Rattle.step_facts.proofs.Guards.{CanPlay}
use Rattle.step_facts.proofs.Footprints.{step-legal, step-agrees}
use Rattle.step_facts.proofs.After.{agrees-after}
use Rattle.step_facts.proofs.Performing.{schedule-performs}

-- ---- one step

pub start-agrees : (setting : SettingValue) (facts : Facts) → IsSetting setting → IsStart setting facts
    → Agrees setting facts 0 (start_of setting.trap setting.placement)
start-agrees setting facts sound start = record {
  places = λ i p known in_p. start.places i p known in_p ∙ starts_at-list setting i p;
  orders = λ i j p up known in_p i_there j_there.
      start.orders i j up known ∙ sound-order setting (start_of setting.trap setting.placement) i j p (sound-start setting sound) i_there j_there;
}

-- the step of a configuration that agrees leads to one that agrees
pub next-agrees : (setting : SettingValue) (facts : Facts) (r t : ℕ) (config : List (List Ion))
    → CanPlay setting facts r t config
    → IsSound setting (after_step setting.trap config (step_of setting facts t config)) × Agrees setting facts t (after_step setting.trap config (step_of setting facts t config))
next-agrees setting facts r t config can = (
  sound-after setting config (step_of setting facts t config) can.setting_sound can.sound (step-legal setting facts r t config can),
  agrees-after setting facts r t config can,
)

-- ---- the steps from a time on

pub length-steps_from : (setting : SettingValue) (facts : Facts) (r : ℕ) (config : List (List Ion)) (count : ℕ)
    → length (steps_from setting facts r config count) ≡ count
length-steps_from setting facts r config zero = refl
length-steps_from setting facts r config (suc count) =
    ap suc (length-steps_from setting facts (suc r) (after_step setting.trap config (step_of setting facts (suc r) config)) count)

-- the properties hold of so many steps from time r on
abbrev pub AreSteps : SettingValue → Facts → ℕ → ℕ → Type 0
AreSteps setting facts r count = (s : ℕ) → r ≤ s → s < r + count → IsStep setting facts s (suc s)

first_step : (setting : SettingValue) (facts : Facts) (r count : ℕ) → AreSteps setting facts r (suc count)
    → IsStep setting facts r (suc r)
first_step setting facts r count steps = steps r (omega arith) (omega arith)

later_steps : (setting : SettingValue) (facts : Facts) (r count : ℕ) → AreSteps setting facts r (suc count)
    → AreSteps setting facts (suc r) count
later_steps setting facts r count steps = λ s after before. steps s (omega arith) (omega arith)

can_play : (setting : SettingValue) (facts : Facts) (r count : ℕ) (config : List (List Ion)) → IsSetting setting
    → IsSound setting config → Agrees setting facts r config
    → AreSteps setting facts r (suc count) → CanPlay setting facts r (suc r) config
can_play setting facts r count config sound_setting sound agrees steps = record {
  setting_sound = sound_setting;
  sound = sound;
  before = agrees;
  is_step = first_step setting facts r count steps;
}

pub legal-from : (setting : SettingValue) (facts : Facts) (r : ℕ) (config : List (List Ion)) (count : ℕ)
    → IsSetting setting → IsSound setting config → Agrees setting facts r config
    → AreSteps setting facts r count → AreLegal setting config (steps_from setting facts r config count)
legal-from setting facts r config zero sound_setting sound agrees steps = tt
legal-from setting facts r config (suc count) sound_setting sound agrees steps =
    let can : CanPlay setting facts r (suc r) config = can_play setting facts r count config sound_setting sound agrees steps in
    let next = next-agrees setting facts r (suc r) config can in (
      step-legal setting facts r (suc r) config can,
      legal-from setting facts (suc r) (after_step setting.trap config (step_of setting facts (suc r) config)) count sound_setting next.0 next.1
          (later_steps setting facts r count steps),
    )

-- where the steps have led after k of them, and the step that is taken there
abbrev pub config_from : SettingValue → Facts → ℕ → List (List Ion) → ℕ → ℕ → List (List Ion)
config_from setting facts r config count k = after_steps setting.trap config (take k (steps_from setting facts r config count))

pub positions-from : (setting : SettingValue) (facts : Facts) (r : ℕ) (config : List (List Ion)) (count k : ℕ)
    → IsSetting setting → IsSound setting config → Agrees setting facts r config
    → AreSteps setting facts r count → k ≤ count
    → IsSound setting (config_from setting facts r config count k) × Agrees setting facts (r + k) (config_from setting facts r config count k)
positions-from setting facts r config zero zero sound_setting sound agrees steps within =
    let time : r ≡ r + 0 = omega arith in
    (sound, subst (λ (n : ℕ). Agrees setting facts n config) time agrees)
positions-from setting facts r config zero (suc k) sound_setting sound agrees steps within = absurd (omega arith)
positions-from setting facts r config (suc count) zero sound_setting sound agrees steps within =
    let time : r ≡ r + 0 = omega arith in
    (sound, subst (λ (n : ℕ). Agrees setting facts n config) time agrees)
positions-from setting facts r config (suc count) (suc k) sound_setting sound agrees steps within =
    let next = next-agrees setting facts r (suc r) config (can_play setting facts r count config sound_setting sound agrees steps) in
    let later = positions-from setting facts (suc r) (after_step setting.trap config (step_of setting facts (suc r) config)) count k sound_setting next.0 next.1
    (later_steps setting facts r count steps) (omega arith) in
    let time : suc r + k ≡ r + suc k = omega arith in
    (later.0, subst (λ (n : ℕ). Agrees setting facts n (config_from setting facts r config (suc count) (suc k))) time later.1)

step_of_index : (setting : SettingValue) (facts : Facts) (r : ℕ) (config : List (List Ion)) (count k : ℕ) → k < count
    → slice_index_or (steps_from setting facts r config count) k [] ≡ step_of setting facts (suc (r + k)) (config_from setting facts r config count k)
step_of_index setting facts r config zero k before = absurd (omega arith)
step_of_index setting facts r config (suc count) zero before =
    let time : r ≡ r + 0 = omega arith in
    ap (λ (n : ℕ). step_of setting facts (suc n) config) time
step_of_index setting facts r config (suc count) (suc k) before =
    let time : suc r + k ≡ r + suc k = omega arith in
    step_of_index setting facts (suc r) (after_step setting.trap config (step_of setting facts (suc r) config)) count k (omega arith)
    ∙ ap (λ (n : ℕ). step_of setting facts (suc n) (config_from setting facts r config (suc count) (suc k))) time

pub step_at-from : (setting : SettingValue) (facts : Facts) (r : ℕ) (config : List (List Ion)) (count k : ℕ) → k < count
    → step_at (steps_from setting facts r config count) (suc k) ≡ step_of setting facts (suc (r + k)) (config_from setting facts r config count k)
step_at-from setting facts r config count k before = step_next (steps_from setting facts r config count) k ∙ step_of_index setting facts r config count k before

-- ---- the whole schedule

all_steps : (setting : SettingValue) (facts : Facts) (t : ℕ) → IsRun setting facts t → AreSteps setting facts 0 t
all_steps setting facts t run = λ s after before. run.steps s (omega arith)

schedule_positions : (setting : SettingValue) (facts : Facts) (t s : ℕ) → IsSetting setting → IsRun setting facts t
    → s ≤ t
    → IsSound setting (config_at setting (schedule_of setting facts t) s) × Agrees setting facts s (config_at setting (schedule_of setting facts t) s)
schedule_positions setting facts t s sound run within =
    let start : List (List Ion) = start_of setting.trap setting.placement in
    let position = positions-from setting facts 0 start t s sound (sound-start setting sound) (start-agrees setting facts sound run.start) (all_steps setting facts t run) within in
    let time : 0 + s ≡ s = omega arith in
    (position.0, subst (λ (n : ℕ). Agrees setting facts n (config_from setting facts 0 start t s)) time position.1)

-- the step of a time, from where the steps before it have led
schedule_step : (setting : SettingValue) (facts : Facts) (t r : ℕ) → r < t
    → step_at (schedule_of setting facts t) (suc r) ≡ step_of setting facts (suc r) (config_at setting (schedule_of setting facts t) r)
schedule_step setting facts t r before =
    let time : 0 + r ≡ r = omega arith in
    step_at-from setting facts 0 (start_of setting.trap setting.placement) t r before
    ∙ ap (λ (n : ℕ). step_of setting facts (suc n) (config_at setting (schedule_of setting facts t) r)) time

pub schedule-describes : (setting : SettingValue) (facts : Facts) (t : ℕ) → IsSetting setting → IsRun setting facts t
    → Describes setting facts (schedule_of setting facts t) t
schedule-describes setting facts t sound run = record {
  positions = λ s within. (schedule_positions setting facts t s sound run within).1;
  activities = λ r before.
      let config : List (List Ion) = config_at setting (schedule_of setting facts t) r in
      let position = schedule_positions setting facts t r sound run (omega arith) in
      let can : CanPlay setting facts r (suc r) config = record { setting_sound = sound; sound = position.0; before = position.1; is_step = run.steps r before } in
      subst (AgreesInStep setting facts (suc r) config) (sym (schedule_step setting facts t r before)) (step-agrees setting facts r (suc r) config can);
}

pub facts_are_schedules : (setting : SettingValue) (t : ℕ) → IsSetting setting → FactsAreSchedules setting t
facts_are_schedules setting t sound facts holds =
    let run : IsRun setting facts t = (run_iff setting facts t).0 holds in
    let start : List (List Ion) = start_of setting.trap setting.placement in
    record {
      long = length-steps_from setting facts 0 start t;
      plays = record {
        legal = legal-from setting facts 0 start t sound (sound-start setting sound) (start-agrees setting facts sound run.start) (all_steps setting facts t run);
        performed = schedule-performs setting facts t sound run;
      };
      describes = schedule-describes setting facts t sound run;
    }
