use Rattle.std.proofs.Common.{◌≡◌, ◌++◌, drop}
use Rattle.schedule_report.specs.Tables.{lines_by}
use Rattle.schedule_report.proofs.printer.push_zones.Given as goal

abbrev pub invariant-loop-number : goal.invariant-loop-number
invariant-loop-number l =
    l.out.items ++ lines_by (drop l.number l.zones) (drop l.number l.tallies) ≡ l.initial.out.items ++ lines_by l.zones l.tallies
