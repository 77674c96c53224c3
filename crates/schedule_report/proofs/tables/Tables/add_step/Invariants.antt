use Rattle.std.proofs.Common.{◌≡◌, drop}
use Rattle.std.specs.Prelude.{fold}
use Rattle.schedule_report.specs.Tables.{with_action, table_with}
use Rattle.schedule_report.proofs.tables.Tables.add_step.Given as goal

abbrev pub invariant-loop-action : goal.invariant-loop-action
invariant-loop-action l = record {
  all : fold with_action l.self.all (drop l.action-index l.step) ≡ fold with_action l.initial.self.all l.step;
  zones : fold table_with l.self.zones.items (drop l.action-index l.step) ≡ fold table_with l.initial.self.zones.items l.step;
  parallel : l.self.parallel ≡ l.initial.self.parallel;
}
