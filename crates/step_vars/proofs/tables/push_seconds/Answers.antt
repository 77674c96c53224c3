use Rattle.std.proofs.Common.{◌+◌, ◌≤◌, arith, rules}
use Rattle.step_vars.specs.Lists.{cell}
use Rattle.step_vars.proofs.Building.{none_yet, one_yet, before_later, before_at, before_row, longer}
use Rattle.step_vars.proofs.tables.push_seconds.Goals as goal

pub loop-second-init : goal.loop-second-init
loop-second-init c =
    let later : 0 ≤ c.args.first + 1 = omega arith in
    record {
      rows = c.requires.rows;
      cols = c.requires.cols;
      members = none_yet (cell c.args.first) c.args.pairs.now.members (c.args.first + 1);
      before = before_later c.args.first 0 (c.args.first + 1) c.args.pairs.now.members later c.requires.before;
      few = omega arith;
    }

pub loop-second-preserved : goal.loop-second-preserved
loop-second-preserved c =
    let low : c.args.first + 1 ≤ c.loop-second.second = omega arith in
    let long = longer c.loop-second.pairs.members c.push.new.self.members (cell c.args.first c.loop-second.second) c.in_ok-push.ensures.ok in
    record {
      rows = search rules;
      cols = search rules;
      members = one_yet (cell c.args.first) _ _ _ (c.args.first + 1) c.loop-second.second low c.loop-second.invariant.members c.in_ok-push.ensures.ok;
      before = before_at c.args.first c.loop-second.second _ _ c.in_ok-push.ensures.ok c.loop-second.invariant.before;
      few = omega (arith, long);
    }

pub returns-clause-after : goal.returns-clause-after
returns-clause-after c = before_row c.args.first c.loop-second.second c.loop-second.pairs.members c.loop-second.invariant.before
