use Rattle.std.proofs.Common.{arith}
use Rattle.step_vars.specs.Families.{one_places, few_ions_each, one_activity_each, one_crossing_each}
use Rattle.step_vars.proofs.HelperCounts.{helper_count-append}
use Rattle.step_vars.proofs.helpers.helpers.Goals as goal

pub returns-clause-count : goal.returns-clause-count
returns-clause-count c =
    let s = c.args.setting.now in
    omega (
      arith,
      c.of_ions.ensures.count,
      c.of_places.ensures.count,
      c.of_activities.ensures.count,
      c.of_junctions.ensures.count,
      helper_count-append c.args.encoding (one_places s 1) (few_ions_each s 1),
      helper_count-append c.args.encoding (one_activity_each s 1) (one_crossing_each s 1),
    )
