-- The two theorems that tie facts to schedules.
use Rattle.std.specs.Prelude.{◌≡◌, ℕ, ◌≤◌, List, length}
use Rattle.std.specs.List.{list_any}
use Rattle.step_rules.specs.declared.action.Action.{Action}
use Rattle.step_rules.specs.Setting.{SettingValue}
use Rattle.step_rules.specs.Play.{Plays}
use Rattle.step_vars.specs.Items.{use_item}
use Rattle.step_facts.specs.Facts.{Facts}
use Rattle.step_facts.specs.Run.{PartsHold}
use Rattle.step_facts.specs.OfSchedule.{facts_of, passes_by, step_at}
use Rattle.step_facts.specs.ToSchedule.{schedule_of}
use Rattle.step_facts.specs.Agreement.{Describes}

-- of the facts of every schedule of at most t steps that plays, all families and bounds of the parts 0 to t
-- hold, and the goal of t
abbrev pub SchedulesHaveFacts : SettingValue → ℕ → Type 0
SchedulesHaveFacts setting t = (steps : List (List Action)) → Plays setting steps → length steps ≤ t
    → PartsHold setting (facts_of setting steps) t

-- and they say which channels the schedule passes ions through in each step
abbrev pub FactsSayUses : SettingValue → Type 0
FactsSayUses setting = (steps : List (List Action)) (c t : ℕ)
    → facts_of setting steps (use_item c t) ≡ list_any (passes_by setting.trap c) (step_at steps t)

-- a schedule of t steps that plays and does what the facts say
pub record IsScheduleOf (setting : SettingValue) (facts : Facts) (t : ℕ) (steps : List (List Action)) : Type 0 where
  pub long : length steps ≡ t
  pub plays : Plays setting steps
  pub describes : Describes setting facts steps t

-- where all families and bounds of the parts 0 to t hold, and the goal of t, the schedule of the facts is one
abbrev pub FactsAreSchedules : SettingValue → ℕ → Type 0
FactsAreSchedules setting t = (facts : Facts) → PartsHold setting facts t
    → IsScheduleOf setting facts t (schedule_of setting facts t)
