use Rattle.std.proofs.Common.{◌≡◌, ℕ, ◌+◌, ◌<◌, List, length, map, sym, ap, subst, ◌∙◌, arith}
use Rattle.std.specs.Prelude.{slice_set, swap, None}
use Rattle.std.proofs.lemmas.List.{length-map}
use Rattle.qc_base.specs.declared.ids.Ion.{Ion}
use Rattle.trap_model.specs.Trap.{place_count}
use Rattle.trap_model.specs.declared.channel.Channel.{Channel}
use Rattle.ion_chain.specs.ChainValue.{ChainValue, ions_of}
use Rattle.ion_chain.specs.Transfer.{list_at, after_transfer}
use Rattle.step_rules.specs.declared.action.Action.{Action}
use Rattle.step_rules.specs.ActionChannel.{passing, transfer}
use Rattle.step_rules.specs.Guards.{first_broken, transport_guards}
use Rattle.step_rules.specs.Steps.{after}
use Rattle.step_rules.specs.Config.{ConfigValue, IsConfigOf}
use Rattle.step_rules.proofs.Moved.{MayPass, places_of, any_limit_small, may_pass, may_perform, after_through, kept_passing, kept_swap, swap_passed, swapped_lists, swapped_rooms}
use Rattle.step_rules.proofs.config.Config.apply.Goals as goal

pub returns-in-Swap-clause-lists : goal.returns-in-Swap-clause-lists
returns-in-Swap-clause-lists c =
    let rows : List ChainValue = c.self.inside.places.items in
    let zone : ℕ = c.in-Swap.zone.0 in
    let passes = subst (λ (action : Action). first_broken (transport_guards c.args.trap.now c.args.self.now.lists action) ≡ None) c.in-Swap.is c.requires.passes in
    let facts = swap_passed c.args.trap.now c.args.self.now.lists zone c.in-Swap.index passes in
    let seen : map ions_of rows ≡ c.args.self.now.lists = ap (λ (p : ConfigValue). p.lists) c.self.view_is in
    let within : zone < length rows = omega (arith, facts.0, c.requires.config.places, ap length seen, length-map rows ions_of) in
    swapped_lists rows zone c.in-Swap.index c.index_mut.result.now c.swap_at.new.self within c.index_mut.ensures.value c.swap_at.ensures.ions
    ∙ ap (λ (l : List (List Ion)). slice_set l zone (swap (list_at l zone) c.in-Swap.index (c.in-Swap.index + 1))) seen
    ∙ sym (ap (after c.args.trap.now c.args.self.now.lists) c.in-Swap.is)

pub returns-in-Swap-clause-rooms : goal.returns-in-Swap-clause-rooms
returns-in-Swap-clause-rooms c =
    let rows : List ChainValue = c.self.inside.places.items in
    swapped_rooms rows c.in-Swap.zone.0 c.index_mut.result.now c.swap_at.new.self c.index_mut.ensures.value c.swap_at.ensures.room ∙ ap (λ (p : ConfigValue). p.rooms) c.self.view_is

pub returns-in-Swap-clause-config : goal.returns-in-Swap-clause-config
returns-in-Swap-clause-config c =
    let rows : List ChainValue = c.self.inside.places.items in
    let zone : ℕ = c.in-Swap.zone.0 in
    let new : ConfigValue = places_of (slice_set rows zone c.swap_at.new.self) in
    let passes = subst (λ (action : Action). first_broken (transport_guards c.args.trap.now c.args.self.now.lists action) ≡ None) c.in-Swap.is c.requires.passes in
    let facts = swap_passed c.args.trap.now c.args.self.now.lists zone c.in-Swap.index passes in
    let within : zone < place_count c.args.trap.now = omega (arith, facts.0) in
    kept_swap c.args.trap.now c.args.self.now new zone c.in-Swap.index c.requires.config within (returns-in-Swap-clause-lists c ∙ ap (after c.args.trap.now c.args.self.now.lists) c.in-Swap.is) (returns-in-Swap-clause-rooms c)

pub passing-count-requires : goal.passing-count-requires
passing-count-requires c =
    let channel = c.in-Some.channel in
    omega (arith, ap length c.list.ensures, c.requires.config.within channel.from.0 c.in-Some.ensures.within.from, any_limit_small c.args.trap.now channel.from.0 c.channel_for-channel.ensures.trap)

pub perform-requires : goal.perform-requires
perform-requires c =
    let rows : List ChainValue = c.self.inside.places.items in
    let lists : List (List Ion) = c.args.self.now.lists in
    let channel : Channel = c.in-Some.channel in
    let count : ℕ = c.passing-count.result in
    let seen : map ions_of rows ≡ lists = ap (λ (p : ConfigValue). p.lists) c.self.view_is in
    let counted : count ≡ passing c.args.action.now (list_at lists channel.from.0) = c.passing-count.ensures ∙ ap (passing c.args.action.now) c.list.ensures in
    let config : IsConfigOf c.args.trap.now (places_of rows) = subst (IsConfigOf c.args.trap.now) (sym c.self.view_is) c.requires.config in
    let may = may_pass c.args.trap.now lists c.args.action.now channel c.channel_for-channel.ensures.trap (c.requires.config.within channel.from.0 c.in-Some.ensures.within.from) c.requires.passes (sym c.in-Some.ensures.channel) in
    let here : MayPass c.args.trap.now (map ions_of rows) channel count =
    subst (λ (l : List (List Ion)). MayPass c.args.trap.now l channel count) (sym seen) (subst (λ (n : ℕ). MayPass c.args.trap.now lists channel n) (sym counted) may) in
    let p = may_perform c.args.trap.now rows channel count c.transfer.result c.transfer.ensures config c.in-Some.ensures.within here in
    record { from = p.from; to = p.to; apart = p.apart; enough = p.enough; spare = p.spare }

pub returns : goal.returns
returns c =
    let rows : List ChainValue = c.self.inside.places.items in
    let lists : List (List Ion) = c.args.self.now.lists in
    let channel : Channel = c.in-Some.channel in
    let count : ℕ = c.passing-count.result in
    let new : ConfigValue = places_of c.perform.new.chains.items in
    let seen : map ions_of rows ≡ lists = ap (λ (p : ConfigValue). p.lists) c.self.view_is in
    let counted : count ≡ passing c.args.action.now (list_at lists channel.from.0) = c.passing-count.ensures ∙ ap (passing c.args.action.now) c.list.ensures in
    let may = may_pass c.args.trap.now lists c.args.action.now channel c.channel_for-channel.ensures.trap (c.requires.config.within channel.from.0 c.in-Some.ensures.within.from) c.requires.passes (sym c.in-Some.ensures.channel) in
    let here : MayPass c.args.trap.now lists channel count = subst (λ (n : ℕ). MayPass c.args.trap.now lists channel n) (sym counted) may in
    let passed : new.lists ≡ after_transfer lists (transfer channel count) =
    c.perform.ensures.ions ∙ ap (after_transfer (map ions_of rows)) c.transfer.ensures ∙ ap (λ (l : List (List Ion)). after_transfer l (transfer channel count)) seen in
    let rooms : new.rooms ≡ c.args.self.now.rooms = c.perform.ensures.room ∙ ap (λ (p : ConfigValue). p.rooms) c.self.view_is in
    record {
      lists = passed ∙ ap (λ (n : ℕ). after_transfer lists (transfer channel n)) counted ∙ sym (after_through c.args.trap.now lists c.args.action.now channel (sym c.in-Some.ensures.channel));
      config = kept_passing c.args.trap.now c.args.self.now new channel count c.requires.config c.in-Some.ensures.within.from c.in-Some.ensures.within.to here passed rooms;
      rooms = rooms;
    }
