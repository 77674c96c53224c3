use Rattle.std.proofs.Common.{◌≡◌, drop}
use Rattle.std.specs.Prelude.{fold, max}
use Rattle.step_rules.specs.Play.{actions_of}
use Rattle.schedule_report.specs.Counts.{tally_of}
use Rattle.schedule_report.specs.Report.{most_ops}
use Rattle.schedule_report.specs.Tables.{with_action, table_with, zone_tallies}
use Rattle.schedule_report.proofs.tables.Tables.of.Given as goal

abbrev pub invariant-loop-step : goal.invariant-loop-step
invariant-loop-step l = record {
  all : fold with_action l.tables.all (actions_of (drop l.step-index l.steps)) ≡ tally_of (actions_of l.steps);
  zones : fold table_with l.tables.zones.items (actions_of (drop l.step-index l.steps)) ≡ zone_tallies l.fn.zones (actions_of l.steps);
  parallel : max l.tables.parallel (most_ops (drop l.step-index l.steps)) ≡ most_ops l.steps;
}
