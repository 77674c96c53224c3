use Rattle.toml.specs.View.{table_view}
use Rattle.trap_read.specs.Labels.{has_name, is_zone}
use Rattle.trap_read.proofs.Place.{keys_pass-same}
use Rattle.trap_read.proofs.labels.judge_place.Goals as goal

pub returns-in_ok-names-in-Some : goal.returns-in_ok-names-in-Some
returns-in_ok-names-in-Some c =
    let same = keys_pass-same (has_name c.in_ok-names-in-Some.names) (is_zone c.args.zones.now) c.in_ok-names-in-Some.ensures (table_view c.in-Some.table.now) in
    rw c.in-Some.is (rw same at c.judge_keys.ensures)
