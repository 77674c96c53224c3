use Rattle.std.proofs.Common.{◌∙◌}
use Rattle.at_most.proofs.Emitted.{on_ok_also}
use Rattle.step_clauses.proofs.Same.{two_parts, empty_slot_is, whole_chain_is}
use Rattle.step_clauses.proofs.step.add_slots.Goals as goal

pub returns : goal.returns
returns c =
    let s = c.args.setting.now in
    let r = c.args.times.before in
    let t = c.args.times.time in
    on_ok_also c.add_ions_at_channels-2.result _ _
    (λ e. two_parts _ _ _ _ _ _ _
    c.in_ok-add_ions_at_channels.ensures (empty_slot_is s r t c.zone_count-zones.result _ _ _ (c.deref-2.ensures.value ∙ c.requires.ions) (c.deref.ensures.value ∙ c.requires.channels) c.zone_count-zones.ensures (c.deref-3.ensures.value ∙ c.in_ok-into.ensures))
    e (whole_chain_is s r t c.zone_count-zones.result _ _ _ (c.deref-5.ensures.value ∙ c.requires.ions) (c.deref-4.ensures.value ∙ c.requires.channels) c.zone_count-zones.ensures (c.deref-6.ensures.value ∙ c.in_ok-from.ensures)))
    c.add_ions_at_channels-2.ensures
