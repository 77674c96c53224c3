use Rattle.std.proofs.Common.{ap, ◌++◌, ◌∙◌}
use Rattle.at_most.proofs.Emitted.{on_ok_also}
use Rattle.step_clauses.proofs.Same.{merges_are}
use Rattle.step_clauses.proofs.step.add_merges.Goals as goal

pub returns : goal.returns
returns c =
    let all = c.deref.ensures.value ∙ c.requires.channels in
    on_ok_also c.add_two_ions_at_channels.result _ _
    (λ e. e ∙ ap (λ xs. c.args.out.now ++ xs) (merges_are c.args.setting.now c.args.times.before c.args.times.time _ _ _ (c.deref-2.ensures.value ∙ c.requires.ions) all (c.deref-3.ensures.value ∙ c.in_ok-merges.ensures)))
    c.add_two_ions_at_channels.ensures
