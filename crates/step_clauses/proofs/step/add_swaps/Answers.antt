use Rattle.std.proofs.Common.{◌∙◌}
use Rattle.at_most.proofs.Emitted.{on_ok_also}
use Rattle.step_clauses.proofs.Same.{three_parts, in_zone_is, neighbours_are, turns_are}
use Rattle.step_clauses.proofs.step.add_swaps.Goals as goal

pub returns : goal.returns
returns c =
    let s = c.args.setting.now in
    let r = c.args.times.before in
    let t = c.args.times.time in
    on_ok_also c.add_pairs_at_places-3.result _ _
    (λ e. three_parts _ _ _ _ _ _ _ _ _ _
    c.in_ok-add_pairs_at_places.ensures (in_zone_is s r t _ _ _ (c.deref.ensures.value ∙ c.requires.ions) c.requires.pairs (c.deref-2.ensures.value ∙ c.requires.zones))
    c.in_ok-add_pairs_at_places-2.ensures (neighbours_are s r t _ _ _ (c.deref-3.ensures.value ∙ c.requires.ions) c.requires.pairs (c.deref-4.ensures.value ∙ c.requires.zones))
    e (turns_are s r t _ _ _ (c.deref-5.ensures.value ∙ c.requires.ions) c.requires.pairs (c.deref-6.ensures.value ∙ c.requires.zones)))
    c.add_pairs_at_places-3.ensures
