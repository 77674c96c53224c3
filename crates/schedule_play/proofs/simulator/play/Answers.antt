use Rattle.std.proofs.Common.{◌≡◌, ℕ, ◌<◌, List, [], ◌∷◌, ◌++◌, length, take, get_or, Some, refl, sym, ap, subst, ◌∙◌, arith}
use Rattle.std.specs.Prelude.{slice_get, fold}
use Rattle.std.proofs.lemmas.Option.{slice_get_read}
use Rattle.std.proofs.lemmas.Result.{err_from_is_err_and}
use Rattle.step_rules.specs.declared.action.Action.{Action}
use Rattle.step_rules.specs.Setting.{SettingValue, setting_of}
use Rattle.schedule_play.specs.Progress.{AreFlags, marked, StepIsWell, ExplainsStep}
use Rattle.schedule_play.specs.Ready.{IsReadyTable, IsReadyThroughout}
use Rattle.schedule_play.proofs.Going.{well_none}
use Rattle.schedule_play.proofs.Played.{explained, may_be_taken, state_next, lacked, played}
use Rattle.schedule_play.proofs.simulator.play.Goals as goal

pub returns-in_err-judge_step-clause-fault : goal.returns-in_err-judge_step-clause-fault
returns-in_err-judge_step-clause-fault c =
    let setting : SettingValue = setting_of c.args.trap.now c.args.circuit.now c.args.placement.now in
    let steps : List (List Action) = c.steps-steps.result.now in
    let step : List Action = c.actions-actions.result.now in
    let time : ℕ = c.loop-time.time in
    let read : step ≡ get_or steps time step = c.actions-actions.ensures ∙ c.index-steps-time.is ∙ ap (get_or steps time) (sym c.actions-actions.ensures) in
    let there : slice_get c.args.schedule.now time ≡ Some step = subst (λ (l : List (List Action)). slice_get l time ≡ Some step) c.steps-steps.ensures (slice_get_read steps (length steps) time step refl c.loop-time-test.true read) in
    let p = err_from_is_err_and c.from_residual-in_err-judge_step.result c.from_residual-in_err-judge_step.ensures.1 in
    let says : ExplainsStep setting (take time c.args.schedule.now) step c.in_err-judge_step.field-0.0 =
    subst (λ (l : List (List Action)). ExplainsStep setting (take time l) step c.in_err-judge_step.field-0.0) c.steps-steps.ensures c.in_err-judge_step.ensures.fault in
    rw (p.1, p.2) (explained setting c.args.schedule.now time step c.in_err-judge_step.field-0.0 there c.loop-time.invariant.state.well says)

pub take_step-requires-clause-legal : goal.take_step-requires-clause-legal
take_step-requires-clause-legal c =
    let setting : SettingValue = setting_of c.args.trap.now c.args.circuit.now c.args.placement.now in
    let step : List Action = c.actions-actions.result.now in
    let time : ℕ = c.loop-time.time in
    let well : StepIsWell setting (take time c.args.schedule.now) step = subst (λ (l : List (List Action)). StepIsWell setting (take time l) step) c.steps-steps.ensures c.in_ok-judge_step.ensures.well in
    may_be_taken setting (take time c.args.schedule.now) step step c.loop-time.config.lists refl c.loop-time.invariant.state.config well

pub loop-time-preserved : goal.loop-time-preserved
loop-time-preserved c =
    let setting : SettingValue = setting_of c.args.trap.now c.args.circuit.now c.args.placement.now in
    let steps : List (List Action) = c.steps-steps.result.now in
    let step : List Action = c.actions-actions.result.now in
    let time : ℕ = c.loop-time.time in
    let read : step ≡ get_or c.args.schedule.now time step =
    c.actions-actions.ensures ∙ c.index-steps-time.is ∙ ap (get_or steps time) (sym c.actions-actions.ensures) ∙ ap (λ (l : List (List Action)). get_or l time step) c.steps-steps.ensures in
    let within : time < length c.args.schedule.now = omega (arith, c.loop-time-test.true, ap length c.steps-steps.ensures) in
    let well : StepIsWell setting (take time c.args.schedule.now) step = subst (λ (l : List (List Action)). StepIsWell setting (take time l) step) c.steps-steps.ensures c.in_ok-judge_step.ensures.well in
    let flags : AreFlags c.args.circuit.now (take time c.args.schedule.now ++ step ∷ []) c.take_step.new.progress.done.items =
    subst (AreFlags c.args.circuit.now (take time c.args.schedule.now ++ step ∷ [])) (ap (λ v. v.items) (sym c.take_step.ensures.done))
    (subst (λ (l : List (List Action)). AreFlags c.args.circuit.now (take time l ++ step ∷ []) c.judge_step.new.progress.done.items) c.steps-steps.ensures c.in_ok-judge_step.ensures.done) in
    record {
      state = state_next setting c.args.schedule.now time step step c.loop-time.config.lists c.take_step.new.config.lists c.loop-time.progress.earlier.items c.loop-time.progress.done.items c.take_step.new.progress.earlier.items
          c.take_step.new.progress.done.items within read c.loop-time.invariant.state well flags c.take_step.ensures.lists
          (c.take_step.ensures.earlier ∙ ap (λ v. fold marked v.items step) c.judge_step.ensures.earlier);
      config = c.take_step.ensures.config;
      ready = subst (λ v. IsReadyThroughout c.args.circuit.now c.args.schedule.now v.items) (sym (c.take_step.ensures.ready ∙ c.judge_step.ensures.ready)) c.loop-time.invariant.ready;
    }

pub returns-in-Some-clause-fault : goal.returns-in-Some-clause-fault
returns-in-Some-clause-fault c =
    let setting : SettingValue = setting_of c.args.trap.now c.args.circuit.now c.args.placement.now in
    lacked setting c.args.schedule.now c.loop-time.time c.loop-time.config.lists c.loop-time.progress.earlier.items c.loop-time.progress.done.items c.in-Some.op.0 (omega (arith, c.loop-time-test.false, ap length c.steps-steps.ensures))
    c.loop-time.invariant.state c.in-Some.ensures

pub returns-in-None-clause-plays : goal.returns-in-None-clause-plays
returns-in-None-clause-plays c =
    let setting : SettingValue = setting_of c.args.trap.now c.args.circuit.now c.args.placement.now in
    played setting c.args.schedule.now c.loop-time.time c.loop-time.config.lists c.loop-time.progress.earlier.items c.loop-time.progress.done.items (omega (arith, c.loop-time-test.false, ap length c.steps-steps.ensures)) c.loop-time.invariant.state
    c.in-None.ensures

pub loop-time-init : goal.loop-time-init
loop-time-init c = record {
  state = record {
    config = c.in_ok-config.ensures.lists;
    earlier = c.in_ok-progress.ensures.earlier;
    done = c.in_ok-progress.ensures.done;
    footprints = refl;
    well = well_none (setting_of c.args.trap.now c.args.circuit.now c.args.placement.now);
  };
  config = c.in_ok-config.ensures.config;
  ready = subst (λ (l : List (List Action)). IsReadyThroughout c.args.circuit.now l c.in_ok-progress.progress.ready.items) c.steps-steps.ensures c.in_ok-progress.ensures.ready;
}

pub judge_step-requires-clause-ready : goal.judge_step-requires-clause-ready
judge_step-requires-clause-ready c =
    let within : c.loop-time.time < length c.args.schedule.now = omega (arith, c.loop-time-test.true, ap length c.steps-steps.ensures) in
    subst (λ (l : List (List Action)). IsReadyTable c.args.circuit.now (take c.loop-time.time l) c.loop-time.progress.ready.items) (sym c.steps-steps.ensures) (c.loop-time.invariant.ready c.loop-time.time within)
