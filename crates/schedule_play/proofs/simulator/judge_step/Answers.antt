use Rattle.std.proofs.Common.{◌≡◌, ◌+◌, [], ◌∷◌, ◌++◌, length, take, ap, ◌∙◌, arith, length-append}
use Rattle.std.proofs.lemmas.Result.{err_from_is_err_and}
use Rattle.step_rules.specs.Setting.{SettingValue}
use Rattle.schedule_play.proofs.Stepped.{explained_step, Goes, continues, all_well}
use Rattle.schedule_play.proofs.simulator.judge_step.Goals as goal

pub returns-in_err-works-clause-fault : goal.returns-in_err-works-clause-fault
returns-in_err-works-clause-fault c =
    let setting : SettingValue = c.args.setting.now in
    let p = err_from_is_err_and c.from_residual.result c.from_residual.ensures.1 in
    rw (p.1, p.2)
    (explained_step setting c.args.past.now c.args.step.now c.loop-action.action-index (length c.deref.result.now) c.in_err-works.field-0.0 (ap length c.deref.ensures.value ∙ c.loop-action.invariant.count) c.loop-action-test.true
    c.loop-action.invariant.well c.in_err-works.ensures.well)

pub loop-action-preserved : goal.loop-action-preserved
loop-action-preserved c =
    let setting : SettingValue = c.args.setting.now in
    let i = c.loop-action.action-index in
    let grown : c.push.new.self.items ≡ c.loop-action.footprints.items ++ c.in_ok-works.works ∷ [] = c.in_ok-push.ensures.items in
    let goes : Goes setting c.args.past.now (take (i + 1) c.args.step.now) c.args.config.now.lists c.note.new.self.earlier.items c.note.new.self.done.items c.push.new.self.items =
    continues setting c.args.past.now c.args.step.now i (length c.deref.result.now) _ c.args.config.now.lists c.loop-action.progress.earlier.items c.loop-action.progress.done.items c.note.new.self.earlier.items c.note.new.self.done.items
    c.loop-action.footprints.items c.push.new.self.items c.in_ok-works.works (ap length c.deref.ensures.value ∙ c.loop-action.invariant.count) c.loop-action-test.true
    (record { state = c.loop-action.invariant.state; well = c.loop-action.invariant.well }) c.in_ok-works.ensures.well (ap (λ v. v.items) c.note.ensures.earlier) c.note.ensures.done grown in
    record {
      count = omega (arith, ap length grown, length-append c.loop-action.footprints.items (c.in_ok-works.works ∷ []), c.loop-action.invariant.count);
      state = goes.state;
      well = goes.well;
      earlier = c.note.ensures.earlier ∙ c.loop-action.invariant.earlier;
      ready = c.note.ensures.ready ∙ c.loop-action.invariant.ready;
    }

pub returns-clause-well : goal.returns-clause-well
returns-clause-well c =
    let setting : SettingValue = c.args.setting.now in
    all_well setting c.args.past.now c.args.step.now c.loop-action.action-index c.loop-action-test.false c.loop-action.invariant.well
