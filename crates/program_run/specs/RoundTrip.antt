-- What a check, a report and a verification say of a text that a compilation wrote.
use Rattle.std.specs.Prelude.{◌≡◌, ℕ, List, Some, Ok}
use Rattle.step_rules.specs.declared.action.Action.{Action}
use Rattle.step_rules.specs.Setting.{SettingValue}
use Rattle.schedule_text.specs.Text.{schedule_text}
use Rattle.run_stages.specs.Work.{Work}
use Rattle.run_stages.specs.Found.{Found}
use Rattle.run_stages.specs.Prepare.{Prepares}

-- the circuit and the trap are found as before, and this text as the schedule
pub record IsFoundAgain (before later : Found) (text : List ℕ) : Type 0 where
  pub circuit : later.circuit ≡ before.circuit
  pub trap : later.trap ≡ before.trap
  pub schedule : later.schedule ≡ Some text

-- the text is that of steps from the placement of a setting, and what the words ask for comes to that work with
-- them
pub record IsAccepted (work : SettingValue → List (List Action) → Work) (found : Found) (words : List (List ℕ))
    (text : List ℕ) : Type 0 where
  pub setting : SettingValue
  pub steps : List (List Action)
  pub judges : Prepares found words (Ok (work setting steps))
  pub text_is : text ≡ schedule_text setting steps
