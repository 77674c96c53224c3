-- What is to be done once words and files are understood, and what is written then.
use Rattle.std.specs.Prelude.{◌≡◌, ◌⊎◌, ◌<◌, ◌^◌, List, ℕ, All, length, Some, None, Result, Ok, Err}
use Rattle.qc_base.specs.declared.ids.Qubit.{Qubit}
use Rattle.placement.specs.declared.rule.PlaceRule.TheVariants.{Declared}
use Rattle.placement.specs.Placing.{place_by}
use Rattle.step_rules.specs.declared.action.Action.{Action}
use Rattle.step_rules.specs.Setting.{SettingValue, setting_of}
use Rattle.step_rules.specs.Play.{Plays, one_at_a_time}
use Rattle.greedy_router.specs.Serial.{IsGreedy, IsSingle}
use Rattle.compact.specs.Tightened.{IsRearranged}
use Rattle.load_setup.specs.Setup.{generated_trap, generated_circuit}
use Rattle.schedule_report.specs.Lines.{legal_line, least_line, load_lines}
use Rattle.schedule_report.specs.Report.{report_text}
use Rattle.step_rules.specs.Tight.{IsTight}
use Rattle.schedule_text.specs.Text.{schedule_text}
use Rattle.run_answers.specs.declared.answer.Answer.{Answer}
use Rattle.run_answers.specs.declared.answer.Answer.TheVariants as answers
use Rattle.step_vars.specs.declared.encoding.Encoding.TheVariants.{Counter}
use Rattle.step_vars.specs.Certifies.{vars_up_to}
use Rattle.run_stages.specs.declared.ending.Ending.{Ending}
use Rattle.run_stages.specs.Exact.{PlaysWithin, IsLeastWritten, IsNoneFound, IsBudgetSpent}

-- a schedule is to be made for the setting, or one with the fewest steps, of at most max, by at most so many
-- lines as a budget; these steps were judged and play, and are to be counted, or reported, or were verified
-- to be the fewest; or a load is to be made from a seed
pub data Work : Type 0 where
  make : SettingValue → Work
  fewest : SettingValue → (max budget : ℕ) → Work
  judged : SettingValue → List (List Action) → Work
  reported : SettingValue → List (List Action) → Work
  verified : SettingValue → List (List Action) → Work
  loaded : ℕ → Work

-- the text is that of a schedule that obeys every rule of the trap and performs the circuit
pub record IsTextOf (setting : SettingValue) (text : List ℕ) : Type 0 where
  pub schedule : List (List Action)
  pub plays : Plays setting schedule
  pub text_is : text ≡ schedule_text setting schedule

-- The schedule has the actions of a list that plays one after another, in which single ions travel and each
-- operation is performed where it is the least ready one whose ions are together in an able zone, as soon as
-- there is one. Pairs that conflict keep the list's order by step.
pub record IsRouted (setting : SettingValue) (schedule : List (List Action)) : Type 0 where
  pub actions : List Action
  pub plays : Plays setting (one_at_a_time actions)
  pub greedy : IsGreedy setting actions
  pub single : All IsSingle actions
  pub rearranged : IsRearranged setting actions schedule

-- the same of a schedule that is such a list and wastes no step
pub record IsTightTextOf (setting : SettingValue) (text : List ℕ) : Type 0 where
  pub is : IsTextOf setting text
  pub tight : IsTight setting is.schedule
  pub routed : IsRouted setting is.schedule

-- a text that is written, where nothing is put
abbrev pub written : List ℕ → Ending
written text = record { answer = answers.Ok; put = None; text = text }

-- nothing is put, and the text of a schedule that plays and wastes no step is written
pub record IsScheduleWritten (setting : SettingValue) (ending : Ending) : Type 0 where
  pub schedule : IsTightTextOf setting ending.text
  pub none : ending.put ≡ None

-- The text of a schedule of the load's circuit on its trap is put, from the placement in declared order; it
-- plays and wastes no step. The lines of the load and that schedule are written.
pub record IsLoaded (seed : ℕ) (ending : Ending) : Type 0 where
  pub placement : List (List Qubit)
  pub placement_is : place_by generated_trap (generated_circuit seed) Declared None ≡ Ok placement
  pub put : List ℕ
  pub put_is : ending.put ≡ Some put
  pub schedule : IsTightTextOf (setting_of generated_trap (generated_circuit seed) placement) put
  pub text_is : ending.text ≡ load_lines seed 2000 schedule.is.schedule

-- A search may end in three answers, and may choose among schedules and among lines.
abbrev pub EndsSearch : SettingValue → ℕ → ℕ → Answer → Ending → Type 0
EndsSearch setting max budget answer ending =
    ((answer ≡ answers.Ok) × IsLeastWritten setting max budget ending)
    ⊎ (((answer ≡ answers.NoneWithin max) × IsNoneFound setting max budget ending)
    ⊎ ((answer ≡ answers.Budget budget) × IsBudgetSpent setting max budget ending))

-- the work may end in this answer, with this put and written
abbrev pub Ends : Work → Answer → Ending → Type 0
Ends (make setting) answer ending = (answer ≡ answers.Ok) × IsScheduleWritten setting ending
Ends (fewest setting max budget) answer ending = EndsSearch setting max budget answer ending
Ends (judged setting steps) answer ending = (answer ≡ answers.Ok) × (ending ≡ written (legal_line steps))
Ends (reported setting steps) answer ending =
    (answer ≡ answers.Ok) × (ending ≡ written (report_text setting.trap steps))
Ends (verified setting steps) answer ending =
    (answer ≡ answers.Ok) × (ending ≡ written (least_line (length steps)))
Ends (loaded seed) answer ending = (answer ≡ answers.Ok) × IsLoaded seed ending

-- ---- answers where no device fails and memory is there

-- Where a schedule of at most max steps plays, a search finds one with the fewest, and else that there is
-- none; or its budget is spent, which with v variables in the parts 0 to max is below 3^v.
abbrev pub AnswersSearch : SettingValue → ℕ → ℕ → Answer → Type 0
AnswersSearch setting max budget answer =
    ((answer ≡ answers.Ok) × PlaysWithin setting max)
    ⊎ (((answer ≡ answers.NoneWithin max) × (PlaysWithin setting max → ⊥))
    ⊎ ((answer ≡ answers.Budget budget) × (budget < 3 ^ vars_up_to setting Counter max)))

-- the answer to work
abbrev pub AnswersWork : Work → Answer → Type 0
AnswersWork (make setting) answer = answer ≡ answers.Ok
AnswersWork (fewest setting max budget) answer = AnswersSearch setting max budget answer
AnswersWork (judged setting steps) answer = answer ≡ answers.Ok
AnswersWork (reported setting steps) answer = answer ≡ answers.Ok
AnswersWork (verified setting steps) answer = answer ≡ answers.Ok
AnswersWork (loaded seed) answer = answer ≡ answers.Ok

-- the answer to what words and files come to: work, or a refusal
abbrev pub AnswersTo : Result Work Answer → Answer → Type 0
AnswersTo (Ok work) answer = AnswersWork work answer
AnswersTo (Err refusal) answer = answer ≡ refusal
