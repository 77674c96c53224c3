use Rattle.std.proofs.Common.{◌≡◌, ℕ, ◌<◌, List, length, get_or, take, Option, refl, sym, ap, subst, ◌∙◌, arith}
use Rattle.std.specs.Prelude.{All, option_map}
use Rattle.qc_base.specs.declared.ids.Qubit.{Qubit}
use Rattle.circuit_core.specs.Circuit.{qubit_count}
use Rattle.trap_model.specs.Trap.{limit_of}
use Rattle.trap_parts.specs.declared.parts.ZonePart.{ZonePart}
use Rattle.step_rules.specs.declared.placement.GivenFault.TheVariants.{Missing}
use Rattle.step_rules.specs.Placement.{reading_order, unless_fault}
use Rattle.step_rules.proofs.Placements.{limit_read, all_in_zone, marked_zone, clean_zone, answer_full, decided, is_placement, is_numbered}
use Rattle.step_rules.proofs.placement.Placement.new.Goals as goal

pub mark-requires : goal.mark-requires
mark-requires c =
    let lists : List (List Qubit) = c.deref-list-items.result.now in
    let list : List Qubit = c.items.result.now in
    let k : ℕ = c.loop-zone.zone in
    let read : get_or lists k list ≡ list = ap (get_or lists k) c.items.ensures ∙ sym c.list-item.is ∙ sym c.items.ensures in
    let P : Qubit → Type 0 = λ q. q.0 < qubit_count c.args.circuit.now in
    let given : All P (reading_order lists) = subst (λ (l : List (List Qubit)). All P (reading_order l)) (sym c.deref-list-items.ensures.value) c.requires.qubits in
    let all : All P list = subst (All P) read (all_in_zone P lists k list c.loop-zone-test.true given) in
    record { there = λ j d h. omega (arith, all j d h, c.loop-zone.invariant.len) }

pub returns-then-items-zones-clause-answer : goal.returns-then-items-zones-clause-answer
returns-then-items-zones-clause-answer c =
    let lists : List (List Qubit) = c.deref-list-items.result.now in
    let list : List Qubit = c.items.result.now in
    let k : ℕ = c.loop-zone.zone in
    let read : get_or lists k list ≡ list = ap (get_or lists k) c.items.ensures ∙ sym c.list-item.is ∙ sym c.items.ensures in
    let again : c.items-in-loop-zone.result.now ≡ list = c.items-in-loop-zone.ensures ∙ sym c.items.ensures in
    let within : k < length c.args.trap.now.zones = omega (arith, c.loop-zone-test.true, ap length c.deref-list-items.ensures.value, c.requires.zones) in
    let limit : limit_of c.args.trap.now k ≡ c.index-zones-zone.result.capacity = limit_read c.args.trap.now c.zones-zones.result.now k c.index-zones-zone.result c.zones-zones.ensures.zones c.index-zones-zone.is within in
    answer_full c.args.trap.now c.args.circuit.now lists c.args.lists.items k list c.deref-list-items.ensures.value c.loop-zone-test.true read
    (c.in_default.ensures.repeated (reading_order (take k lists)) c.loop-zone.invariant.marked)
    (omega (arith, limit, c.if-items-zones.true, ap length again, ap (λ (z : ZonePart). z.capacity) c.index-zones-zone.is)) c.loop-zone.invariant.so_far

pub loop-zone-preserved : goal.loop-zone-preserved
loop-zone-preserved c =
    let lists : List (List Qubit) = c.deref-list-items.result.now in
    let list : List Qubit = c.items.result.now in
    let k : ℕ = c.loop-zone.zone in
    let before : List Qubit = reading_order (take k lists) in
    let read : get_or lists k list ≡ list = ap (get_or lists k) c.items.ensures ∙ sym c.list-item.is ∙ sym c.items.ensures in
    let again : c.items-in-loop-zone.result.now ≡ list = c.items-in-loop-zone.ensures ∙ sym c.items.ensures in
    let within : k < length c.args.trap.now.zones = omega (arith, c.loop-zone-test.true, ap length c.deref-list-items.ensures.value, c.requires.zones) in
    let limit : limit_of c.args.trap.now k ≡ c.index-zones-zone.result.capacity = limit_read c.args.trap.now c.zones-zones.result.now k c.index-zones-zone.result c.zones-zones.ensures.zones c.index-zones-zone.is within in
    record {
      len = c.mark.ensures.len ∙ c.loop-zone.invariant.len;
      marked = marked_zone c.mark.new.flags.items lists k list c.loop-zone-test.true read (c.in_default.ensures.marked before c.loop-zone.invariant.marked refl);
      so_far = c.loop-zone.invariant.so_far
          ∙ clean_zone c.args.trap.now lists k list c.loop-zone-test.true read (c.in_default.ensures.repeated before c.loop-zone.invariant.marked) (omega (arith, limit, c.if-items-zones.false, ap length again, ap (λ (z : ZonePart). z.capacity) c.index-zones-zone.is));
    }

pub invariant_of-result : goal.invariant_of-result
invariant_of-result c =
    let lists : List (List Qubit) = c.deref-list-items.result.now in
    let said = decided c.args.trap.now c.args.circuit.now lists c.args.lists.items c.loop-zone.flags.items c.as_slice.result.now c.loop-zone.zone c.unmarked.result
    c.deref-list-items.ensures.value c.loop-zone-test.false c.loop-zone.invariant.so_far c.loop-zone.invariant.len c.loop-zone.invariant.marked c.as_slice.ensures.value c.unmarked.ensures in
    let given : List (List Qubit) = c.args.lists.items in
    is_numbered c.args.trap.now c.args.circuit.now given (said ∙ ap (λ (o : Option ℕ). unless_fault (option_map (λ n. Missing (record { 0 = n })) o) given) c.in-None.is) c.requires.zones c.zones-zones.ensures.trap

pub returns-in-Some-unmarked-clause-answer : goal.returns-in-Some-unmarked-clause-answer
returns-in-Some-unmarked-clause-answer c =
    let lists : List (List Qubit) = c.deref-list-items.result.now in
    let said = decided c.args.trap.now c.args.circuit.now lists c.args.lists.items c.loop-zone.flags.items c.as_slice.result.now c.loop-zone.zone c.unmarked.result
    c.deref-list-items.ensures.value c.loop-zone-test.false c.loop-zone.invariant.so_far c.loop-zone.invariant.len c.loop-zone.invariant.marked c.as_slice.ensures.value c.unmarked.ensures in
    let given : List (List Qubit) = c.args.lists.items in
    sym (said ∙ ap (λ (o : Option ℕ). unless_fault (option_map (λ n. Missing (record { 0 = n })) o) given) c.in-Some-unmarked.is)

pub returns-in-None-clause-answer : goal.returns-in-None-clause-answer
returns-in-None-clause-answer c =
    let lists : List (List Qubit) = c.deref-list-items.result.now in
    let said = decided c.args.trap.now c.args.circuit.now lists c.args.lists.items c.loop-zone.flags.items c.as_slice.result.now c.loop-zone.zone c.unmarked.result
    c.deref-list-items.ensures.value c.loop-zone-test.false c.loop-zone.invariant.so_far c.loop-zone.invariant.len c.loop-zone.invariant.marked c.as_slice.ensures.value c.unmarked.ensures in
    let given : List (List Qubit) = c.args.lists.items in
    sym (said ∙ ap (λ (o : Option ℕ). unless_fault (option_map (λ n. Missing (record { 0 = n })) o) given) c.in-None.is)

pub returns-in-None-clause-placed : goal.returns-in-None-clause-placed
returns-in-None-clause-placed c =
    let lists : List (List Qubit) = c.deref-list-items.result.now in
    let said = decided c.args.trap.now c.args.circuit.now lists c.args.lists.items c.loop-zone.flags.items c.as_slice.result.now c.loop-zone.zone c.unmarked.result
    c.deref-list-items.ensures.value c.loop-zone-test.false c.loop-zone.invariant.so_far c.loop-zone.invariant.len c.loop-zone.invariant.marked c.as_slice.ensures.value c.unmarked.ensures in
    let given : List (List Qubit) = c.args.lists.items in
    is_placement c.args.trap.now c.args.circuit.now given (said ∙ ap (λ (o : Option ℕ). unless_fault (option_map (λ n. Missing (record { 0 = n })) o) given) c.in-None.is) c.requires.zones c.requires.qubits
