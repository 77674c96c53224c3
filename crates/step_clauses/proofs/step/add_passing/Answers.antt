use Rattle.std.proofs.Common.{ap, ◌++◌, ◌∙◌}
use Rattle.at_most.proofs.Emitted.{on_ok_also}
use Rattle.step_vars.specs.Families.{leaves_from_source, leaves_to_target, leaves_use_channel, all_stay_or_leave, all_stayed_or_came, use_passes_some, use_needs_empty_slot, use_empties_slot, splits_take_the_front}
use Rattle.step_clauses.proofs.Same.{then_part, then_two, first_three, passers_are}
use Rattle.step_clauses.proofs.step.add_passing.Goals as goal

pub returns : goal.returns
returns c =
    let s = c.args.setting.now in
    let r = c.args.times.before in
    let t = c.args.times.time in
    let old = c.args.out.now in
    let passers = c.in_ok-add_passers.ensures ∙ ap (λ xs. c.add_arrivals.new.out ++ xs) (passers_are s r t _ _ (c.deref.ensures.value ∙ c.requires.ions) (c.deref-2.ensures.value ∙ c.requires.channels)) in
    let a = leaves_from_source s r t ++ leaves_to_target s r t ++ leaves_use_channel s r t in
    let b = a ++ all_stay_or_leave s r t in
    let d = b ++ all_stayed_or_came s r t in
    let e = d ++ use_passes_some s r t in
    let f = e ++ use_needs_empty_slot s r t ++ use_empties_slot s r t in
    let first = first_three old c.add_transfers.new.out (leaves_from_source s r t) (leaves_to_target s r t) (leaves_use_channel s r t) c.in_ok-add_transfers.ensures in
    let second = then_part old c.add_transfers.new.out c.add_departures.new.out a (all_stay_or_leave s r t) first c.in_ok-add_departures.ensures in
    let third = then_part old c.add_departures.new.out c.add_arrivals.new.out b (all_stayed_or_came s r t) second c.in_ok-add_arrivals.ensures in
    let fourth = then_part old c.add_arrivals.new.out c.add_passers.new.out d (use_passes_some s r t) third passers in
    let fifth = then_two old c.add_passers.new.out c.add_slots.new.out e (use_needs_empty_slot s r t) (use_empties_slot s r t) fourth c.in_ok-add_slots.ensures in
    on_ok_also c.add_splits.result _ _ (λ step. then_part old c.add_slots.new.out c.add_splits.new.out f (splits_take_the_front s r t) fifth step) c.add_splits.ensures
