use Rattle.std.proofs.Common.{◌+◌, ◌≤◌, sym, ◌∙◌, arith}
use Rattle.step_rules.specs.Guards.{is_able_for}
use Rattle.step_vars.specs.Lists.{cell}
use Rattle.step_vars.proofs.Building.{one_passes, one_fails, before_at, before_later, before_row, longer}
use Rattle.step_vars.proofs.tables.push_zones.Goals as goal
use Rattle.step_vars.proofs.tables.push_zones.Goals.{then-is_able+in_ok-push, else-is_able}

pub loop-zone-preserved : goal.loop-zone-preserved
loop-zone-preserved c =
    elim c.if-is_able.branch [
      | then-is_able+in_ok-push w ↦
          let long = longer _ _ _ w.in_ok-push.ensures.ok in
          rw w.acts-is (record {
            rows = w.in_ok-push.ensures.rows ∙ c.loop-zone.invariant.rows;
            cols = w.in_ok-push.ensures.cols ∙ c.loop-zone.invariant.cols;
            members = one_passes (cell c.args.op) (λ z. is_able_for c.args.setting.now z c.args.op) c.args.acts.now.members _ _ c.loop-zone.zone (sym c.is_able.ensures ∙ w.if-is_able.true) c.loop-zone.invariant.members w.in_ok-push.ensures.ok;
            before = before_at c.args.op c.loop-zone.zone _ _ w.in_ok-push.ensures.ok c.loop-zone.invariant.before;
            few = omega (arith, long);
          })
      | else-is_able w ↦
          let more : c.loop-zone.zone ≤ c.loop-zone.zone + 1 = omega arith in
          rw w.acts-is (record {
            rows = c.loop-zone.invariant.rows;
            cols = c.loop-zone.invariant.cols;
            members = one_fails (cell c.args.op) (λ z. is_able_for c.args.setting.now z c.args.op) c.args.acts.now.members _ c.loop-zone.zone (sym c.is_able.ensures ∙ w.if-is_able.false) c.loop-zone.invariant.members;
            before = before_later c.args.op c.loop-zone.zone (c.loop-zone.zone + 1) _ more c.loop-zone.invariant.before;
            few = omega arith;
          })
    ]

pub returns-clause-after : goal.returns-clause-after
returns-clause-after c = before_row c.args.op c.loop-zone.zone c.loop-zone.acts.members c.loop-zone.invariant.before
