use Rattle.std.proofs.Common.{◌≡◌, ◌*◌, ◌≤◌, map}
use Rattle.std.specs.List.{range_with_len}
use Rattle.trap_model.specs.Channels.{is_through}
use Rattle.step_vars.specs.Items.{use_item}
use Rattle.step_vars.specs.Lists.{numbers_where}
use Rattle.step_vars.specs.Families.{bound}
use Rattle.step_vars.specs.Encoding.{helper_count}
use Rattle.step_vars.proofs.helpers.of_junctions.Given as goal

abbrev pub invariant-loop-junction : goal.invariant-loop-junction
invariant-loop-junction l = record {
  counted : l.count ≡ helper_count l.encoding (map (λ junction. bound 1 (map (λ c. use_item c 1) (numbers_where (is_through junction) l.setting))) (range_with_len 0 l.junction));
  few : l.count ≤ 2048 * l.junction;
}
