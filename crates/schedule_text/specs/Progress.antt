-- How far a text was read, and what may come next.
use Rattle.std.specs.Prelude.{◌≡◌, ℕ, ◌+◌, ◌<◌, ◌≤◌, ◌⊎◌, List, [], ◌∷◌, ◌++◌, length, drop, All, codes, decimal}
use Rattle.qc_base.specs.declared.ids.Qubit.{Qubit}
use Rattle.qc_base.specs.Spelling.{IsFree}
use Rattle.circuit_core.specs.Circuit.{CircuitValue, qubit_count}
use Rattle.trap_parts.specs.declared.parts.ZonePart.{ZonePart}
use Rattle.trap_parts.specs.Parts.{TrapValue}
use Rattle.step_rules.specs.declared.action.Action.{Action}
use Rattle.step_rules.specs.Placement.{reading_order, times, FitZones}
use Rattle.step_rules.specs.Setting.{SettingValue}
use Rattle.schedule_text.specs.Text.{place_lines, action_line, step_lines}
use Rattle.schedule_text.specs.Reading.{IsKnown, IsText}
use Rattle.schedule_text.specs.declared.body_line.BodyLine.{BodyLine}
use Rattle.schedule_text.specs.declared.body_line.BodyLine.TheVariants.{Step, Act, End}

-- a space or a line end
abbrev pub IsGap : ℕ → Type 0
IsGap sign = (sign ≡ 32) ⊎ (sign ≡ 10)

-- how many ions these zones hold together
abbrev pub capacity : List ZonePart → ℕ
capacity [] = 0
capacity (zone ∷ zones) = zone.capacity + capacity zones

-- the lists of the first zones, where they can be completed to a placement
pub record Opens (trap : TrapValue) (circuit : CircuitValue) (lists : List (List Qubit)) : Type 0 where
  pub zones : length lists ≤ length trap.zones
  pub qubits : All (λ (qubit : Qubit). qubit.0 < qubit_count circuit) (reading_order lists)
  pub once : (k : ℕ) → times k (reading_order lists) ≤ 1
  pub room : FitZones trap lists
  pub left : qubit_count circuit ≤ length (reading_order lists) + capacity (drop (length lists) trap.zones)

-- the first line, and the lines of the first zones
abbrev pub head_text : TrapValue → CircuitValue → List (List Qubit) → List ℕ
head_text trap circuit lists = codes "qccd schedule 1\n" ++ place_lines circuit trap.zones lists

-- the line that counts the steps, and then some of them
abbrev pub steps_text : SettingValue → ℕ → List (List Action) → List ℕ
steps_text setting count steps = codes "steps " ++ decimal count ++ codes "\n" ++ step_lines setting 1 steps

-- the head, and the line that counts the steps
abbrev pub opened_text : SettingValue → ℕ → List ℕ
opened_text setting count =
    head_text setting.trap setting.circuit setting.placement ++ steps_text setting count []

-- the line of a body, where a step that begins has this number
abbrev pub line_text : SettingValue → ℕ → BodyLine → List ℕ
line_text setting number Step = codes "step " ++ decimal number ++ codes "\n"
line_text setting number (Act action) = action_line setting action
line_text setting number End = codes "end\n"

-- it may come after these steps, of so many in all
abbrev pub MayFollow : TrapValue → CircuitValue → ℕ → List (List Action) → BodyLine → Type 0
MayFollow trap circuit count steps Step = length steps < count
MayFollow trap circuit count steps (Act action) = (0 < length steps) × IsKnown trap circuit action
MayFollow trap circuit count steps End = length steps ≡ count

-- bytes that are one line
pub record IsLine (line : List ℕ) : Type 0 where
  pub word : List ℕ
  pub free : IsFree 10 word
  pub line_is : line ≡ word ++ 10 ∷ []

-- the bytes are not the same, and have no first line in common
pub record ArePartedAtOnce (more rest : List ℕ) : Type 0 where
  pub other : more ≡ rest → ⊥
  pub line : (line more_after rest_after : List ℕ) → IsLine line → more ≡ line ++ more_after
      → rest ≡ line ++ rest_after → ⊥

-- no text continues after the front as the rest does
abbrev pub Sticks : TrapValue → CircuitValue → List ℕ → List ℕ → Type 0
Sticks trap circuit front rest =
    (more : List ℕ) → IsText trap circuit (front ++ more) → ArePartedAtOnce more rest
