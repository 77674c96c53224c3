use Rattle.std.proofs.Common.{◌≡◌, ℕ, ◌+◌, ◌-◌, ◌≤◌, List, [], ◌∷◌, ◌++◌, length, map, replicate, sym, ap, subst, ◌∙◌, arith, length-append}
use Rattle.std.proofs.lemmas.List.{append-nil, length-map}
use Rattle.qc_base.specs.declared.ids.Ion.{Ion}
use Rattle.trap_parts.specs.Parts.{slot_count}
use Rattle.trap_model.specs.Trap.{limit_of}
use Rattle.ion_chain.specs.ChainValue.{ChainValue, ions_of, room_of}
use Rattle.step_rules.specs.Placement.{places_from}
use Rattle.step_rules.specs.Config.{ConfigValue, HaveRoom}
use Rattle.step_rules.proofs.Ions.{length-places_from, slot_pushed, rooms_pushed, started}
use Rattle.step_rules.proofs.config.Config.start.Goals as goal

pub loop-place-init : goal.loop-place-init
loop-place-init c =
    let rows : List ChainValue = c.in_ok-places.places.items in
    let made : List (List Ion) = places_from 0 c.args.placement.now in
    let none : 0 ≡ length c.zones.result.now - length c.args.trap.now.zones = omega (arith, ap length c.zones.ensures.zones) in
    record {
      lists = c.in_ok-places.ensures.lists ∙ sym (append-nil made) ∙ ap (λ (n : ℕ). made ++ replicate n []) none;
      len = sym (length-map rows ions_of) ∙ ap length c.in_ok-places.ensures.lists ∙ length-places_from 0 c.args.placement.now ∙ c.requires.zones ∙ ap length (sym c.zones.ensures.zones);
      room = c.in_ok-places.ensures.rooms;
    }

pub loop-place-preserved : goal.loop-place-preserved
loop-place-preserved c =
    let rows : List ChainValue = c.loop-place.places.items in
    let chain : ChainValue = c.in_ok-chain.chain in
    let grown : c.push.new.self.items ≡ rows ++ chain ∷ [] = c.in_ok-push.ensures.items in
    let made : List (List Ion) = places_from 0 c.args.placement.now in
    let zones : ℕ = length c.args.trap.now.zones in
    let next : c.loop-place.place - zones + 1 ≡ c.loop-place.place + 1 - zones = omega (arith, ap length c.zones.ensures.zones, c.loop-place.auto.place) in
    let more : limit_of c.args.trap.now c.loop-place.place ≤ room_of chain = omega (arith, c.limit.ensures, c.in_ok-chain.ensures.spare) in
    record {
      lists = ap (map ions_of) grown ∙ slot_pushed rows chain made (c.loop-place.place - zones) (c.loop-place.place + 1 - zones) c.in_ok-chain.ensures.empty next c.loop-place.invariant.lists;
      len = omega (arith, ap length grown, length-append rows (chain ∷ []), c.loop-place.invariant.len);
      room = subst (λ (l : List ChainValue). HaveRoom c.args.trap.now (map room_of l)) (sym grown) (rooms_pushed c.args.trap.now rows chain c.loop-place.place c.loop-place.invariant.len c.loop-place.invariant.room more);
    }

pub returns-clause-config : goal.returns-clause-config
returns-clause-config c =
    let rows : List ChainValue = c.loop-place.places.items in
    let made : List (List Ion) = places_from 0 c.args.placement.now in
    let config : ConfigValue = record { lists = map ions_of rows; rooms = map room_of rows } in
    let zones : ℕ = length c.args.trap.now.zones in
    let all : c.loop-place.place - zones ≡ slot_count c.args.trap.now.segments = omega (arith, c.places-place-end.ensures.places, c.loop-place.auto.place-end, c.loop-place-test.false, c.loop-place.auto.place, ap length c.zones.ensures.zones) in
    started c.args.trap.now c.args.placement.now config c.requires.zones c.requires.room (c.loop-place.invariant.lists ∙ ap (λ (n : ℕ). made ++ replicate n []) all) (length-map rows room_of ∙ sym (length-map rows ions_of)) c.loop-place.invariant.room
