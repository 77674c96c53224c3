use Rattle.std.proofs.Common.{ap, ◌++◌, ◌∙◌}
use Rattle.at_most.proofs.Emitted.{on_ok_also}
use Rattle.step_vars.specs.Families.{swaps_in_zone, swaps_of_neighbours, swaps_turn, stayers_keep_order, chains_keep_order, merges_at_the_end}
use Rattle.step_clauses.proofs.Same.{then_part, first_three, chains_are}
use Rattle.step_clauses.proofs.step.add_order.Goals as goal

pub returns : goal.returns
returns c =
    let s = c.args.setting.now in
    let r = c.args.times.before in
    let t = c.args.times.time in
    let old = c.args.out.now in
    let chains = c.in_ok-add_chains.ensures ∙ ap (λ xs. c.add_stayers.new.out ++ xs) (chains_are s r t _ _ c.requires.pairs (c.deref.ensures.value ∙ c.requires.channels)) in
    let a = swaps_in_zone s r t ++ swaps_of_neighbours s r t ++ swaps_turn s r t in
    let b = a ++ stayers_keep_order s r t in
    let d = b ++ chains_keep_order s r t in
    let first = first_three old c.add_swaps.new.out (swaps_in_zone s r t) (swaps_of_neighbours s r t) (swaps_turn s r t) c.in_ok-add_swaps.ensures in
    let second = then_part old c.add_swaps.new.out c.add_stayers.new.out a (stayers_keep_order s r t) first c.in_ok-add_stayers.ensures in
    let third = then_part old c.add_stayers.new.out c.add_chains.new.out b (chains_keep_order s r t) second chains in
    on_ok_also c.add_merges.result _ _ (λ step. then_part old c.add_chains.new.out c.add_merges.new.out d (merges_at_the_end s r t) third step) c.add_merges.ensures
