use Rattle.std.proofs.Common.{ap, sym, map, ◌∙◌, arith}
use Rattle.step_rules.specs.Setting.{SettingValue}
use Rattle.trap_model.specs.Channels.{channels_of, is_through}
use Rattle.std.specs.Prelude.{length, filter}
use Rattle.step_vars.specs.Items.{use_item}
use Rattle.step_vars.specs.Lists.{numbers_where}
use Rattle.step_vars.specs.Families.{bound}
use Rattle.step_vars.proofs.HelperCounts.{helpers_step, fresh_one_few}
use Rattle.step_vars.proofs.Limited.{crossing_counted}
use Rattle.step_vars.proofs.helpers.of_junctions.Goals as goal

pub overflow_add-count : goal.overflow_add-count
overflow_add-count c =
    omega (arith, c.fresh-count.ensures, fresh_one_few c.args.encoding c.crossing.result, c.crossing.ensures.few, c.junctions.ensures.trap.junctions, ap length c.junctions.ensures.junctions)

pub loop-junction-preserved : goal.loop-junction-preserved
loop-junction-preserved c =
    let crossed = c.crossing.ensures.count ∙ ap (λ (s : SettingValue). length (filter (is_through c.loop-junction.junction) (channels_of s.trap))) c.setting.view_is in
    record {
      counted = helpers_step c.args.encoding (λ junction. bound 1 (map (λ c. use_item c 1) (numbers_where (is_through junction) c.args.setting.now))) c.loop-junction.count c.crossing.result c.fresh-count.result c.loop-junction.junction
          c.loop-junction.invariant.counted c.fresh-count.ensures (crossed ∙ sym (crossing_counted c.args.setting.now 1 c.loop-junction.junction));
      few = omega (arith, c.fresh-count.ensures, fresh_one_few c.args.encoding c.crossing.result, c.crossing.ensures.few);
    }
