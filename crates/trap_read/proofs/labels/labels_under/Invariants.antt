use Rattle.std.proofs.Common.{◌≡◌}
use Rattle.toml.specs.View.{members_view, table_view}
use Rattle.trap_read.specs.Labels.{labels_under}
use Rattle.trap_read.proofs.labels.labels_under.Given as goal

abbrev pub invariant-loop-key : goal.invariant-loop-key
invariant-loop-key l = labels_under l.name (members_view l.key-iterator) ≡ labels_under l.name (table_view l.table)
