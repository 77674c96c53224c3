use Rattle.std.proofs.Common.{◌∙◌}
use Rattle.at_most.proofs.Emitted.{on_ok_also}
use Rattle.step_clauses.proofs.Same.{three_parts, from_source_is, to_target_is, uses_channel_is}
use Rattle.step_clauses.proofs.step.add_transfers.Goals as goal

pub returns : goal.returns
returns c =
    let s = c.args.setting.now in
    let r = c.args.times.before in
    let t = c.args.times.time in
    on_ok_also c.add_ions_at_channels-3.result _ _
    (λ e. three_parts _ _ _ _ _ _ _ _ _ _
    c.in_ok-add_ions_at_channels.ensures (from_source_is s r t _ _ (c.deref.ensures.value ∙ c.requires.ions) (c.deref-2.ensures.value ∙ c.requires.channels))
    c.in_ok-add_ions_at_channels-2.ensures (to_target_is s r t _ _ (c.deref-3.ensures.value ∙ c.requires.ions) (c.deref-4.ensures.value ∙ c.requires.channels))
    e (uses_channel_is s r t _ _ (c.deref-5.ensures.value ∙ c.requires.ions) (c.deref-6.ensures.value ∙ c.requires.channels)))
    c.add_ions_at_channels-3.ensures
