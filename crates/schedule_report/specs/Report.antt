-- The text of a report: counts of a schedule, of each zone of its trap, and of each step.
use Rattle.std.specs.Prelude.{ℕ, ◌+◌, max, List, [], ◌∷◌, ◌++◌, length, codes, decimal}
use Rattle.qc_base.specs.Counting.{how_many}
use Rattle.trap_parts.specs.Parts.{TrapValue}
use Rattle.trap_parts.specs.declared.parts.ZonePart.{ZonePart}
use Rattle.step_rules.specs.declared.action.Action.{Action}
use Rattle.step_rules.specs.Play.{actions_of}
use Rattle.schedule_report.specs.declared.tally.Tally.{Tally}
use Rattle.schedule_report.specs.Counts.{is_operation, counts_of, tally_of, at_zone}

-- a line of a word and a number
abbrev pub count_line : List ℕ → ℕ → List ℕ
count_line word count = word ++ codes " " ++ decimal count ++ codes "\n"

-- how many operations a step performs
abbrev pub ops_in : List Action → ℕ
ops_in step = how_many is_operation step

-- the most operations in one step, 0 where there is none
abbrev pub most_ops : List (List Action) → ℕ
most_ops [] = 0
most_ops (step ∷ steps) = max (ops_in step) (most_ops steps)

-- a line for each kind of action
abbrev pub kind_lines : Tally → List ℕ
kind_lines tally =
    count_line (codes "split") tally.splits ++ count_line (codes "move") tally.moves
    ++ count_line (codes "cross") tally.crosses ++ count_line (codes "merge") tally.merges
    ++ count_line (codes "swap") tally.swaps ++ count_line (codes "op") tally.ops

-- the line of a zone: its operations and swaps, the splits out of it and the merges into it
abbrev pub zone_line : List ℕ → Tally → List ℕ
zone_line name tally =
    codes "zone " ++ name ++ codes " ops " ++ decimal tally.ops ++ codes " swaps " ++ decimal tally.swaps
    ++ codes " out " ++ decimal tally.splits ++ codes " in " ++ decimal tally.merges ++ codes "\n"

-- a line for each of the zones, which are numbered from there on
abbrev pub zone_lines : ℕ → List ZonePart → List Action → List ℕ
zone_lines number [] actions = []
zone_lines number (zone ∷ zones) actions =
    zone_line zone.name (tally_of (at_zone number actions)) ++ zone_lines (number + 1) zones actions

-- the line of a step: its actions and its operations
abbrev pub step_line : ℕ → List Action → List ℕ
step_line number step =
    codes "step " ++ decimal number ++ codes " actions " ++ decimal (length step)
    ++ codes " ops " ++ decimal (ops_in step) ++ codes "\n"

-- a line for each of the steps, which are numbered from there on
abbrev pub step_lines : ℕ → List (List Action) → List ℕ
step_lines number [] = []
step_lines number (step ∷ steps) = step_line number step ++ step_lines (number + 1) steps

-- the lines of all steps together, then of the zones, then of the steps
abbrev pub report_text : TrapValue → List (List Action) → List ℕ
report_text trap steps =
    count_line (codes "steps") (counts_of steps).steps ++ kind_lines (tally_of (actions_of steps))
    ++ count_line (codes "parallel") (most_ops steps)
    ++ zone_lines 0 trap.zones (actions_of steps) ++ step_lines 1 steps
