use Rattle.std.proofs.Common.{◌≡◌, ◌++◌, drop}
use Rattle.toml.specs.View.{table_view}
use Rattle.trap_read.specs.Labels.{labels_of}
use Rattle.trap_read.proofs.labels.labels_of.Given as goal

abbrev pub invariant-loop-zone : goal.invariant-loop-zone
invariant-loop-zone l = l.given.items ++ labels_of (drop l.zone-index l.zones) (table_view l.table) ≡ labels_of l.zones (table_view l.table)
