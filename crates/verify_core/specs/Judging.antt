-- How the text of a schedule is judged.
use Rattle.std.specs.Prelude.{◌≡◌, ℕ, List, Result, Ok, Err}
use Rattle.qc_base.specs.declared.ids.Qubit.{Qubit}
use Rattle.circuit_core.specs.Circuit.{CircuitValue}
use Rattle.trap_parts.specs.Parts.{TrapValue}
use Rattle.step_rules.specs.declared.action.Action.{Action}
use Rattle.step_rules.specs.Setting.{setting_of}
use Rattle.step_rules.specs.Play.{Plays}
use Rattle.schedule_play.specs.declared.fault.PlayFault.{PlayFault}
use Rattle.schedule_play.specs.declared.fault.PlayFault.TheVariants as plays
use Rattle.schedule_play.specs.Faults.{IsFault}
use Rattle.schedule_text.specs.declared.text_fault.TextFault.{TextFault}
use Rattle.schedule_text.specs.declared.text_fault.TextFault.TheVariants as texts
use Rattle.schedule_text.specs.Reading.{Spells, IsBadLine}
use Rattle.verify_core.specs.declared.judge.Checked.{Checked}
use Rattle.verify_core.specs.declared.fault.CheckFault.{CheckFault}
use Rattle.verify_core.specs.declared.fault.CheckFault.TheVariants.{Text, Illegal, NoMemory}

-- the bytes are the text of this placement and these steps, and of no others
pub record IsTextOf (trap : TrapValue) (circuit : CircuitValue) (bytes : List ℕ)
    (placement : List (List Qubit)) (steps : List (List Action)) : Type 0 where
  pub spells : Spells trap circuit placement steps bytes
  pub only : (other : List (List Qubit)) (more : List (List Action))
      → Spells trap circuit other more bytes → (other ≡ placement) × (more ≡ steps)

-- the bytes are the text of a schedule that plays from its placement
pub record IsLegalText (trap : TrapValue) (circuit : CircuitValue) (bytes : List ℕ) (checked : Checked)
    : Type 0 where
  pub text : IsTextOf trap circuit bytes checked.placement checked.schedule
  pub plays : Plays (setting_of trap circuit checked.placement) checked.schedule

-- the bytes are the text of a schedule that has this first fault
pub record IsIllegalText (trap : TrapValue) (circuit : CircuitValue) (bytes : List ℕ) (fault : PlayFault)
    : Type 0 where
  pub placement : List (List Qubit)
  pub steps : List (List Action)
  pub text : IsTextOf trap circuit bytes placement steps
  pub is : IsFault (setting_of trap circuit placement) steps fault

-- what the bytes are: the text of a schedule that plays, no text, or the text of a schedule that does not
-- play
abbrev pub Judges : TrapValue → CircuitValue → List ℕ → Result Checked CheckFault → Type 0
Judges trap circuit bytes (Ok checked) = IsLegalText trap circuit bytes checked
Judges trap circuit bytes (Err (Text line)) = IsBadLine trap circuit bytes line
Judges trap circuit bytes (Err (Illegal fault)) = IsIllegalText trap circuit bytes fault
Judges trap circuit bytes (Err NoMemory) = ⊥

-- the same of what a check answers; out of memory says nothing of the bytes
abbrev pub JudgesUnlessMemory : TrapValue → CircuitValue → List ℕ → Result Checked CheckFault → Type 0
JudgesUnlessMemory trap circuit bytes (Err NoMemory) = Unit {0}
JudgesUnlessMemory trap circuit bytes outcome = Judges trap circuit bytes outcome

-- ---- for conversions of faults

-- bytes that are no text
abbrev pub bad_text : TextFault → CheckFault
bad_text (texts.Line number) = Text number
bad_text texts.NoMemory = NoMemory

-- a schedule that does not play
abbrev pub illegal : PlayFault → CheckFault
illegal plays.NoMemory = NoMemory
illegal fault = Illegal fault
