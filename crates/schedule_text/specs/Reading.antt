-- Which bytes are the text of a schedule, and which line of others is the first bad one.
use Rattle.std.specs.Prelude.{◌≡◌, ℕ, ◌+◌, ◌-◌, ◌<◌, ◌≤◌, ◌^◌, ◌==◌, if◌then◌else◌, List, [], ◌∷◌, ◌++◌, length, All}
use Rattle.qc_base.specs.declared.ids.Qubit.{Qubit}
use Rattle.qc_base.specs.Counting.{how_many}
use Rattle.circuit_core.specs.Circuit.{CircuitValue}
use Rattle.trap_parts.specs.Parts.{TrapValue}
use Rattle.trap_model.specs.Trap.{place_count}
use Rattle.step_rules.specs.declared.action.Action.{Action}
use Rattle.step_rules.specs.declared.action.Action.TheVariants as actions
use Rattle.step_rules.specs.Placement.{IsPlacement}
use Rattle.step_rules.specs.Setting.{setting_of}
use Rattle.schedule_text.specs.Text.{schedule_text}
use Rattle.schedule_text.specs.declared.text_fault.TextFault.{TextFault}
use Rattle.schedule_text.specs.declared.text_fault.TextFault.TheVariants.{Line, NoMemory}

-- its places and its junction are the trap's, its operation is the circuit's, and its numbers fit their type
abbrev pub IsKnown : TrapValue → CircuitValue → Action → Type 0
IsKnown trap circuit (actions.Split zone end count) = (zone.0 < place_count trap) × (count < 2 ^ 32)
IsKnown trap circuit (actions.Move from to) = (from.0 < place_count trap) × (to.0 < place_count trap)
IsKnown trap circuit (actions.Cross junction from to) =
    (junction.0 < length trap.junctions) × (from.0 < place_count trap) × (to.0 < place_count trap)
IsKnown trap circuit (actions.Merge zone end) = zone.0 < place_count trap
IsKnown trap circuit (actions.Swap zone index) = (zone.0 < place_count trap) × (index < 2 ^ 32)
IsKnown trap circuit (actions.Op zone op) = (zone.0 < place_count trap) × (op.0 < length circuit.ops)

-- the bytes are the text of this placement and these steps, which name nothing unknown
pub record Spells (trap : TrapValue) (circuit : CircuitValue) (placement : List (List Qubit))
    (steps : List (List Action)) (bytes : List ℕ) : Type 0 where
  pub placed : IsPlacement trap circuit placement
  pub known : All (All (IsKnown trap circuit)) steps
  pub few : length steps < 2 ^ 64
  pub spelled : bytes ≡ schedule_text (setting_of trap circuit placement) steps

-- the bytes are a text
pub record IsText (trap : TrapValue) (circuit : CircuitValue) (bytes : List ℕ) : Type 0 where
  pub placement : List (List Qubit)
  pub steps : List (List Action)
  pub spells : Spells trap circuit placement steps bytes

-- some text begins with the bytes
pub record BeginsText (trap : TrapValue) (circuit : CircuitValue) (bytes : List ℕ) : Type 0 where
  pub rest : List ℕ
  pub text : IsText trap circuit (bytes ++ rest)

-- the first so many lines, each with its line end
abbrev pub first_lines : ℕ → List ℕ → List ℕ
first_lines number [] = []
first_lines number (byte ∷ bytes) =
    if number == 0 then [] else byte ∷ first_lines (if byte == 10 then number - 1 else number) bytes

-- how many lines have a line end
abbrev pub whole_lines : List ℕ → ℕ
whole_lines bytes = how_many (λ byte. byte == 10) bytes

-- The least number so that no text begins with that many of the lines; where the whole lines begin a text, but the
-- bytes are none, one more than there are.
pub record IsBadLine (trap : TrapValue) (circuit : CircuitValue) (bytes : List ℕ) (number : ℕ) : Type 0 where
  pub counted : 1 ≤ number
  pub before : (n : ℕ) → 1 ≤ n → n < number → BeginsText trap circuit (first_lines n bytes)
  pub bad : number ≤ whole_lines bytes → BeginsText trap circuit (first_lines number bytes) → ⊥
  pub none : IsText trap circuit bytes → ⊥
  pub within : number ≤ whole_lines bytes + 1

-- why no pair is answered; out of memory says nothing
abbrev pub Refuses : TrapValue → CircuitValue → List ℕ → TextFault → Type 0
Refuses trap circuit bytes (Line number) = IsBadLine trap circuit bytes number
Refuses trap circuit bytes NoMemory = Unit {0}
