use Rattle.std.proofs.Common.{◌≡◌, ℕ, ◌+◌, ◌<◌, ◌≤◌, List, [], ◌∷◌, ◌++◌, length, map, drop, get_or, Some, refl, sym, ap, subst, ◌∙◌, arith, length-append}
use Rattle.std.specs.Prelude.{slice_get}
use Rattle.std.proofs.lemmas.Option.{slice_get_read}
use Rattle.qc_base.specs.declared.ids.Qubit.{Qubit}
use Rattle.trap_model.specs.Trap.{limit_of}
use Rattle.trap_parts.specs.declared.parts.ZonePart.{ZonePart}
use Rattle.ion_chain.specs.ChainValue.{ChainValue, ions_of, room_of}
use Rattle.step_rules.specs.Placement.{reading_order, ions_from, places_from}
use Rattle.step_rules.specs.Config.{HaveRoom}
use Rattle.step_rules.proofs.Reading.{first_apart}
use Rattle.step_rules.proofs.Placements.{limit_read}
use Rattle.step_rules.proofs.Ions.{one_more_zone, zone_pushed, rooms_pushed}
use Rattle.step_rules.proofs.config.zone_chains.Goals as goal

pub chain_of-requires-clause-fit : goal.chain_of-requires-clause-fit
chain_of-requires-clause-fit c =
    let lists : List (List Qubit) = c.lists-list-items.result.now in
    let list : List Qubit = c.items-qubits.result.now in
    let k : ℕ = c.loop-zone.zone in
    let read : list ≡ get_or lists k list = c.items-qubits.ensures ∙ c.list-item.is ∙ ap (get_or lists k) (sym c.items-qubits.ensures) in
    let found : slice_get c.args.placement.now k ≡ Some list = subst (λ (l : List (List Qubit)). slice_get l k ≡ Some list) c.lists-list-items.ensures.lists (slice_get_read lists (length lists) k list refl c.loop-zone-test.true read) in
    let within : k < length c.args.trap.now.zones = omega (arith, c.loop-zone-test.true, ap length c.lists-list-items.ensures.lists, c.requires.zones) in
    let limit : limit_of c.args.trap.now k ≡ c.index-zones-zone.result.capacity = limit_read c.args.trap.now c.zones-zones.result.now k c.index-zones-zone.result c.zones-zones.ensures.zones c.index-zones-zone.is within in
    omega (arith, c.requires.room k list found, limit, ap (λ (z : ZonePart). z.capacity) c.index-zones-zone.is)

pub loop-zone-preserved : goal.loop-zone-preserved
loop-zone-preserved c =
    let lists : List (List Qubit) = c.lists-list-items.result.now in
    let list : List Qubit = c.items-qubits.result.now in
    let k : ℕ = c.loop-zone.zone in
    let read : list ≡ get_or lists k list = c.items-qubits.ensures ∙ c.list-item.is ∙ ap (get_or lists k) (sym c.items-qubits.ensures) in
    let within : k < length c.args.trap.now.zones = omega (arith, c.loop-zone-test.true, ap length c.lists-list-items.ensures.lists, c.requires.zones) in
    let limit : limit_of c.args.trap.now k ≡ c.index-zones-zone.result.capacity = limit_read c.args.trap.now c.zones-zones.result.now k c.index-zones-zone.result c.zones-zones.ensures.zones c.index-zones-zone.is within in
    let rows : List ChainValue = c.loop-zone.chains.items in
    let chain : ChainValue = c.in_ok-chain.chain in
    let apart : reading_order (drop k lists) ≡ list ++ reading_order (drop (k + 1) lists) = first_apart lists k list c.loop-zone-test.true read in
    let more : limit_of c.args.trap.now k ≤ room_of chain = omega (arith, limit, c.in_ok-chain.ensures.room, ap (λ (z : ZonePart). z.capacity) c.index-zones-zone.is) in
    let grown : c.push.new.self.items ≡ rows ++ chain ∷ [] = c.in_ok-push.ensures.items in
    record {
      made = one_more_zone c.loop-zone.first k lists (map ions_of rows) (map ions_of c.push.new.self.items) (places_from 0 c.args.placement.now) list c.loop-zone-test.true read
          (ap (map ions_of) grown ∙ zone_pushed rows chain (ions_from c.loop-zone.first list) c.in_ok-chain.ensures.ions) c.loop-zone.invariant.made;
      count = omega (arith, c.loop-zone.invariant.count, ap length apart, length-append list (reading_order (drop (k + 1) lists)));
      few = c.loop-zone.invariant.few;
      len = omega (arith, ap length grown, length-append rows (chain ∷ []), c.loop-zone.invariant.len);
      room = subst (λ (l : List ChainValue). HaveRoom c.args.trap.now (map room_of l)) (sym grown) (rooms_pushed c.args.trap.now rows chain k c.loop-zone.invariant.len c.loop-zone.invariant.room more);
    }
