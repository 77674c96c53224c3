use Rattle.std.proofs.Common.{◌≡◌, ℕ, ◌+◌, List, length, get_or, Some, refl, sym, ap, ◌∙◌}
use Rattle.std.specs.Prelude.{slice_get}
use Rattle.std.proofs.lemmas.Option.{slice_get_read}
use Rattle.step_rules.specs.declared.action.Action.{Action}
use Rattle.schedule_play.proofs.ReadySteps.{done_step, step_length}
use Rattle.schedule_play.proofs.ready.first_steps.Goals as goal

pub loop-time-preserved : goal.loop-time-preserved
loop-time-preserved c =
    let steps : List (List Action) = c.args.steps.now in
    let step : List Action = c.actions.result.now in
    let time : ℕ = c.loop-time.time in
    let read : step ≡ get_or steps time step = c.actions.ensures ∙ c.index-steps-time.is ∙ ap (get_or steps time) (sym c.actions.ensures) in
    let there : slice_get steps time ≡ Some step = slice_get_read steps (length steps) time step refl c.loop-time-test.true read in
    record {
      len = step_length c.loop-time.firsts.items c.note_step.new.firsts.items (time + 1) step c.note_step.ensures ∙ c.loop-time.invariant.len;
      done = done_step steps c.loop-time.firsts.items c.note_step.new.firsts.items time step there c.note_step.ensures c.loop-time.invariant.done;
    }
