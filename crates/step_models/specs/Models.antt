-- What the models of the clauses say: the facts of an assignment, and the theorems that tie assignments to
-- schedules.
use Rattle.std.specs.Prelude.{◌≡◌, ℕ, ◌+◌, ◌^◌, ◌<◌, ◌≤◌, IsTrue, List, length}
use Rattle.std.specs.List.{list_any}
use Rattle.sat_base.specs.Clauses.{NameOnly}
use Rattle.sat_base.specs.Truth.{Valuation, is_true, Satisfies}
use Rattle.trap_model.specs.Channels.{channels_of}
use Rattle.step_rules.specs.declared.action.Action.{Action}
use Rattle.step_rules.specs.Setting.{SettingValue}
use Rattle.step_rules.specs.Play.{Plays}
use Rattle.step_vars.specs.declared.encoding.Encoding.{Encoding}
use Rattle.step_vars.specs.Items.{so, use_item}
use Rattle.step_vars.specs.Numbering.{Numbering, before, literal_of}
use Rattle.step_vars.specs.Encoding.{numbering_of, encoding_of, goal_literal}
use Rattle.step_vars.specs.Certifies.{vars_up_to}
use Rattle.step_facts.specs.Facts.{Facts}
use Rattle.step_facts.specs.OfSchedule.{passes_by, step_at}
use Rattle.step_facts.specs.ToSchedule.{schedule_of}
use Rattle.step_facts.specs.Run.{PartsHold}
use Rattle.step_facts.specs.Theorems.{IsScheduleOf}

-- the facts that an assignment says by those numbers
abbrev pub facts_by : Numbering → Valuation → Facts
facts_by n values item = is_true values (literal_of n (so item))

-- the facts that an assignment says
abbrev pub facts_of : SettingValue → Encoding → Valuation → Facts
facts_of setting encoding values = facts_by (numbering_of setting encoding) values

-- the assignment satisfies the parts 0 to t, and the goal of t holds
pub record IsModel (setting : SettingValue) (encoding : Encoding) (t : ℕ) (values : Valuation)
    : Type 0 where
  pub clauses : Satisfies values (encoding_of setting encoding t)
  pub goal : IsTrue (is_true values (goal_literal setting encoding t))

-- an assignment that fits a schedule: in it a channel's use in a step is true exactly where the schedule passes
-- ions through it in that step
pub record Fits (setting : SettingValue) (encoding : Encoding) (t : ℕ) (steps : List (List Action))
    : Type 0 where
  pub values : Valuation
  pub model : IsModel setting encoding t values
  pub uses : (c s : ℕ) → c < length (channels_of setting.trap) → 1 ≤ s → s ≤ t
      → facts_of setting encoding values (use_item c s)
      ≡ list_any (passes_by setting.trap c) (step_at steps s)

-- every schedule of at most t steps that plays fits the clauses of the parts 0 to t
abbrev pub EveryScheduleFits : SettingValue → Encoding → ℕ → Type 0
EveryScheduleFits setting encoding t = (steps : List (List Action))
    → Plays setting steps → length steps ≤ t → Fits setting encoding t steps

-- in the facts of every model all families and bounds of the parts 0 to t hold, and the goal of t
abbrev pub EveryModelHasFacts : SettingValue → Encoding → ℕ → Type 0
EveryModelHasFacts setting encoding t = (values : Valuation) → IsModel setting encoding t values
    → PartsHold setting (facts_of setting encoding values) t

-- the schedule of the facts of every model has t steps, plays, and does what the facts say
abbrev pub EveryModelIsASchedule : SettingValue → Encoding → ℕ → Type 0
EveryModelIsASchedule setting encoding t = (values : Valuation) → IsModel setting encoding t values
    → IsScheduleOf setting (facts_of setting encoding values) t
    (schedule_of setting (facts_of setting encoding values) t)

-- the clauses of the parts 0 to t name the variables of these parts alone
abbrev pub PartsNameTheirVariables : SettingValue → Encoding → ℕ → Type 0
PartsNameTheirVariables setting encoding t =
    NameOnly (λ var. (1 ≤ var) × (var ≤ before (numbering_of setting encoding) (t + 1)))
    (encoding_of setting encoding t)

-- the variables and the clauses of the parts 0 to t are few enough to be numbered by 31 and 62 bits
pub record PartsAreSmall (setting : SettingValue) (encoding : Encoding) (t : ℕ) : Type 0 where
  pub vars : vars_up_to setting encoding t < 2 ^ 31
  pub clauses : length (encoding_of setting encoding t) < 2 ^ 62
