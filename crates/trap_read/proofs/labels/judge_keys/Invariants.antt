use Rattle.std.proofs.Common.{◌≡◌}
use Rattle.toml.specs.View.{members_view, table_view}
use Rattle.trap_read.specs.Labels.{keys_pass, has_name}
use Rattle.trap_read.proofs.labels.judge_keys.Given as goal

abbrev pub invariant-loop-key : goal.invariant-loop-key
invariant-loop-key l = keys_pass (has_name l.names) (members_view l.key-iterator) ≡ keys_pass (has_name l.names) (table_view l.table)
