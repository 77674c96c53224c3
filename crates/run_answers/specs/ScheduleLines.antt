-- What is said of the faults of a schedule, in pieces.
use Rattle.std.specs.Prelude.{ℕ, List, [], ◌∷◌, codes, decimal}
use Rattle.step_rules.specs.declared.action.Rule.{Rule}
use Rattle.step_rules.specs.declared.action.Rule.TheVariants as rules
use Rattle.schedule_play.specs.declared.fault.PlayFault.{PlayFault}
use Rattle.schedule_play.specs.declared.fault.PlayFault.TheVariants as plays

-- the word for a rule
abbrev pub rule_word : Rule → List ℕ
rule_word rules.NoPlace = codes "noplace"
rule_word rules.NoJoin = codes "nojoin"
rule_word rules.Index = codes "index"
rule_word rules.Load = codes "load"
rule_word rules.Occupied = codes "occupied"
rule_word rules.Empty = codes "empty"
rule_word rules.Full = codes "full"
rule_word rules.NotOp = codes "notop"
rule_word rules.NotAble = codes "notable"
rule_word rules.Absent = codes "absent"

-- a fault in a step
abbrev pub in_step : ℕ → List (List ℕ) → List (List ℕ)
in_step step what = codes "step " ∷ decimal step ∷ what

-- a schedule that does not play
abbrev pub play_said : PlayFault → List (List ℕ)
play_said (plays.Broken step action rule) =
    in_step step (codes " action " ∷ decimal action ∷ codes ": " ∷ rule_word rule ∷ [])
play_said (plays.Shared step first second) =
    in_step step (codes " actions " ∷ decimal first ∷ codes " and " ∷ decimal second ∷ codes " share" ∷ [])
play_said (plays.Early step op needs) =
    in_step step (codes " operation " ∷ decimal op.0 ∷ codes " before " ∷ decimal needs.0 ∷ [])
play_said (plays.Twice step op) = in_step step (codes " operation " ∷ decimal op.0 ∷ codes " twice" ∷ [])
play_said (plays.Missing op) = codes "operation " ∷ decimal op.0 ∷ codes " missing" ∷ []
play_said plays.NoMemory = codes "no memory" ∷ []
