-- The text of a schedule: the placement, then the steps with their actions, each on a line of its own. The format is
-- this project's.
use Rattle.std.specs.Prelude.{ℕ, ◌+◌, List, [], ◌∷◌, ◌++◌, length, codes, decimal, slice_get}
use Rattle.std.specs.List.{flat_map}
use Rattle.std.specs.Option.{option_map_or}
use Rattle.qc_base.specs.declared.ids.Qubit.{Qubit}
use Rattle.circuit_core.specs.Label.{label}
use Rattle.circuit_core.specs.declared.op.Op.{Op}
use Rattle.circuit_core.specs.Circuit.{CircuitValue}
use Rattle.circuit_core.specs.Op.{qubits_of}
use Rattle.circuit_core.specs.OpText.{op_text}
use Rattle.qc_base.specs.declared.ids.End.{End}
use Rattle.qc_base.specs.declared.ids.End.TheVariants.{A, B}
use Rattle.trap_parts.specs.declared.parts.ZonePart.{ZonePart}
use Rattle.trap_parts.specs.Parts.{TrapValue}
use Rattle.trap_model.specs.Trap.{place_text}
use Rattle.step_rules.specs.declared.action.Action.{Action}
use Rattle.step_rules.specs.declared.action.Action.TheVariants as actions
use Rattle.step_rules.specs.Placement.{ion_of}
use Rattle.step_rules.specs.Setting.{SettingValue}

-- the labels of qubits, a space before each
abbrev pub labels_text : CircuitValue → List Qubit → List ℕ
labels_text circuit list = flat_map (λ (qubit : Qubit). codes " " ++ label circuit qubit) list

-- the qubits of a zone
abbrev pub place_line : CircuitValue → ZonePart → List Qubit → List ℕ
place_line circuit zone list = codes "place " ++ zone.name ++ labels_text circuit list ++ codes "\n"

-- a line for each zone
abbrev pub place_lines : CircuitValue → List ZonePart → List (List Qubit) → List ℕ
place_lines circuit [] lists = []
place_lines circuit (zone ∷ zones) [] = []
place_lines circuit (zone ∷ zones) (list ∷ lists) =
    place_line circuit zone list ++ place_lines circuit zones lists

-- a part of that number, printed
abbrev pub at : {A : Type 0} → (A → List ℕ) → List A → ℕ → List ℕ
at print parts number = option_map_or print (slice_get parts number) []

-- the numbers of the ions that carry these qubits, a space before each
abbrev pub ions_text : List (List Qubit) → List Qubit → List ℕ
ions_text placement qubits =
    flat_map (λ (qubit : Qubit). codes " " ++ decimal (ion_of placement qubit).0) qubits

-- the ions of an operation, in the order of its qubits
abbrev pub ion_words : List (List Qubit) → Op → List ℕ
ion_words placement op = ions_text placement (qubits_of op)

-- the number of an operation, its ions and its text
abbrev pub op_line : CircuitValue → List (List Qubit) → ℕ → Op → List ℕ
op_line circuit placement number op =
    decimal number ++ codes " ions" ++ ion_words placement op ++ codes " : " ++ op_text circuit op ++ codes "\n"

-- an end, as it is written
abbrev pub end_text : End → List ℕ
end_text A = codes "a"
end_text B = codes "b"

-- a zone and one of its ends
abbrev pub zone_end : TrapValue → ℕ → End → List ℕ
zone_end trap zone end = place_text trap zone ++ codes " " ++ end_text end

-- two places with a space between them
abbrev pub two_places : TrapValue → ℕ → ℕ → List ℕ
two_places trap from to = place_text trap from ++ codes " " ++ place_text trap to

-- ---- the line of each kind of action; a number that is no place's, junction's or operation's prints nothing

abbrev pub split_line : TrapValue → ℕ → End → ℕ → List ℕ
split_line trap zone end count =
    codes "split " ++ zone_end trap zone end ++ codes " " ++ decimal count ++ codes "\n"

abbrev pub move_line : TrapValue → ℕ → ℕ → List ℕ
move_line trap from to = codes "move " ++ two_places trap from to ++ codes "\n"

abbrev pub cross_line : TrapValue → ℕ → ℕ → ℕ → List ℕ
cross_line trap junction from to =
    codes "cross " ++ at (λ name. name) trap.junctions junction ++ codes " " ++ two_places trap from to
    ++ codes "\n"

abbrev pub merge_line : TrapValue → ℕ → End → List ℕ
merge_line trap zone end = codes "merge " ++ zone_end trap zone end ++ codes "\n"

abbrev pub swap_line : TrapValue → ℕ → ℕ → List ℕ
swap_line trap zone index = codes "swap " ++ place_text trap zone ++ codes " " ++ decimal index ++ codes "\n"

abbrev pub performed_line : SettingValue → ℕ → ℕ → List ℕ
performed_line setting zone op =
    codes "op " ++ place_text setting.trap zone ++ codes " "
    ++ at (op_line setting.circuit setting.placement op) setting.circuit.ops op

-- the line of an action
abbrev pub action_line : SettingValue → Action → List ℕ
action_line setting (actions.Split zone end count) = split_line setting.trap zone.0 end count
action_line setting (actions.Move from to) = move_line setting.trap from.0 to.0
action_line setting (actions.Cross junction from to) = cross_line setting.trap junction.0 from.0 to.0
action_line setting (actions.Merge zone end) = merge_line setting.trap zone.0 end
action_line setting (actions.Swap zone index) = swap_line setting.trap zone.0 index
action_line setting (actions.Op zone op) = performed_line setting zone.0 op.0

-- each step with its number, and a line for each of its actions
abbrev pub step_lines : SettingValue → ℕ → List (List Action) → List ℕ
step_lines setting number [] = []
step_lines setting number (step ∷ steps) =
    codes "step " ++ decimal number ++ codes "\n" ++ flat_map (action_line setting) step
    ++ step_lines setting (number + 1) steps

-- the whole text: the head, the placement, the steps with their count, and the end
abbrev pub schedule_text : SettingValue → List (List Action) → List ℕ
schedule_text setting steps =
    codes "qccd schedule 1\n" ++ place_lines setting.circuit setting.trap.zones setting.placement
    ++ codes "steps " ++ decimal (length steps) ++ codes "\n" ++ step_lines setting 1 steps ++ codes "end\n"
