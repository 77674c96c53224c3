use Rattle.std.proofs.Common.{ap, ◌∙◌, arith}
use Rattle.step_rules.specs.Setting.{SettingValue}
use Rattle.trap_model.specs.Trap.{place_count}
use Rattle.step_vars.specs.Families.{bound, activities_at}
use Rattle.step_vars.proofs.HelperCounts.{helpers_step, fresh_one_few}
use Rattle.step_vars.proofs.helpers.of_activities.Goals as goal

pub overflow_add-count : goal.overflow_add-count
overflow_add-count c =
    let places = c.places-place-end.ensures.places ∙ ap (λ (s : SettingValue). place_count s.trap) c.setting.view_is in
    omega (arith, c.fresh-count.ensures, fresh_one_few c.args.encoding c.activities.result, c.activities.ensures.few, places)

pub loop-place-preserved : goal.loop-place-preserved
loop-place-preserved c =
    record {
      counted = helpers_step c.args.encoding (λ p. bound 1 (activities_at c.args.setting.now 1 p)) c.loop-place.count c.activities.result c.fresh-count.result c.loop-place.place
          c.loop-place.invariant.counted c.fresh-count.ensures c.activities.ensures.count;
      few = omega (arith, c.fresh-count.ensures, fresh_one_few c.args.encoding c.activities.result, c.activities.ensures.few);
    }
