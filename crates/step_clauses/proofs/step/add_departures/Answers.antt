use Rattle.std.proofs.Common.{ap, ◌++◌, ◌∙◌}
use Rattle.at_most.proofs.Emitted.{on_ok_also}
use Rattle.step_clauses.proofs.Same.{departures_are}
use Rattle.step_clauses.proofs.step.add_departures.Goals as goal

pub returns : goal.returns
returns c =
    on_ok_also c.add_ions_at_places.result _ _
    (λ e. e ∙ ap (λ xs. c.args.out.now ++ xs) (departures_are c.args.setting.now c.args.times.before c.args.times.time _ _ _ _ (c.deref-4.ensures.value ∙ c.requires.ions) (c.deref.ensures.value ∙ c.requires.places) (c.deref-2.ensures.value ∙ c.requires.channels) (c.deref-3.ensures.value ∙ c.in_ok-places.ensures)))
    c.add_ions_at_places.ensures
