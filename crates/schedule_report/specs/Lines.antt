-- What is said of a schedule in short.
use Rattle.std.specs.Prelude.{ℕ, List, ◌++◌, codes, decimal}
use Rattle.step_rules.specs.declared.action.Action.{Action}
use Rattle.schedule_report.specs.Counts.{counts_of}
use Rattle.schedule_report.specs.Report.{count_line}

-- what a check says of a schedule that plays
abbrev pub legal_line : List (List Action) → List ℕ
legal_line steps =
    codes "legal steps " ++ decimal (counts_of steps).steps ++ codes " actions "
    ++ decimal (counts_of steps).actions
    ++ codes " operations " ++ decimal (counts_of steps).ops ++ codes "\n"

-- what a load says: its seed, the operations of its circuit, and the schedule's steps and actions
abbrev pub load_lines : ℕ → ℕ → List (List Action) → List ℕ
load_lines seed operations steps =
    count_line (codes "load") seed ++ count_line (codes "operations") operations
    ++ count_line (codes "steps") (counts_of steps).steps
    ++ count_line (codes "actions") (counts_of steps).actions

-- what a verification says of a schedule with so many steps, which are the fewest
abbrev pub least_line : ℕ → List ℕ
least_line steps = count_line (codes "least steps") steps
