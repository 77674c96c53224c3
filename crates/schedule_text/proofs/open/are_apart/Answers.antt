use Rattle.std.proofs.Common.{◌≡◌, ℕ, ◌<◌, List, length, get_or, take, sym, ap, subst, ◌∙◌, arith}
use Rattle.std.specs.Prelude.{All}
use Rattle.std.proofs.lemmas.Bool.{false≢true}
use Rattle.qc_base.specs.declared.ids.Qubit.{Qubit}
use Rattle.circuit_core.specs.Circuit.{qubit_count}
use Rattle.trap_parts.specs.declared.parts.ZonePart.{ZonePart}
use Rattle.step_rules.specs.Placement.{reading_order}
use Rattle.step_rules.proofs.Placements.{all_in_zone}
use Rattle.schedule_text.proofs.Opening.{room_of, room_more, once_up_to, marked_up_to}
use Rattle.schedule_text.proofs.open.are_apart.Goals as goal

pub returns-then-qubits-zones : goal.returns-then-qubits-zones
returns-then-qubits-zones c =
    let lists : List (List Qubit) = c.args.lists.now in
    let list : List Qubit = c.items-qubits.result.now in
    let k : ℕ = c.loop-zone.zone in
    let read : get_or lists k list ≡ list = ap (get_or lists k) c.items-qubits.ensures ∙ sym c.index-lists-zone.is ∙ sym c.items-qubits.ensures in (
      λ e. absurd (false≢true e),
      λ both. absurd (omega (arith, room_of c.args.zones.now lists k list c.index-zones-zone.result both.0 c.loop-zone-test.true read c.index-zones-zone.is, c.if-qubits-zones.true, ap (λ (z : ZonePart). z.capacity) c.index-zones-zone.is)),
    )

pub mark-requires : goal.mark-requires
mark-requires c =
    let lists : List (List Qubit) = c.args.lists.now in
    let list : List Qubit = c.items-qubits.result.now in
    let k : ℕ = c.loop-zone.zone in
    let read : get_or lists k list ≡ list = ap (get_or lists k) c.items-qubits.ensures ∙ sym c.index-lists-zone.is ∙ sym c.items-qubits.ensures in
    let P : Qubit → Type 0 = λ q. q.0 < qubit_count c.args.circuit.now in
    let all : All P list = subst (All P) read (all_in_zone P lists k list c.loop-zone-test.true c.requires.qubits) in
    record { there = λ j d h. omega (arith, all j d h, c.loop-zone.invariant.len) }

pub returns-then-not-mark : goal.returns-then-not-mark
returns-then-not-mark c =
    let lists : List (List Qubit) = c.args.lists.now in
    let list : List Qubit = c.items-qubits.result.now in
    let k : ℕ = c.loop-zone.zone in
    let read : get_or lists k list ≡ list = ap (get_or lists k) c.items-qubits.ensures ∙ sym c.index-lists-zone.is ∙ sym c.items-qubits.ensures in (
      λ e. absurd (false≢true e),
      λ both. absurd (c.if-not-mark.ensures.marked (reading_order (take k lists)) c.loop-zone.invariant.marked (once_up_to lists k list c.loop-zone-test.true read both.1)),
    )

pub loop-zone-preserved : goal.loop-zone-preserved
loop-zone-preserved c =
    let lists : List (List Qubit) = c.args.lists.now in
    let list : List Qubit = c.items-qubits.result.now in
    let k : ℕ = c.loop-zone.zone in
    let h : k < length lists = c.loop-zone-test.true in
    let within : k < length c.args.zones.now = omega (arith, c.requires.few) in
    let read : get_or lists k list ≡ list = ap (get_or lists k) c.items-qubits.ensures ∙ sym c.index-lists-zone.is ∙ sym c.items-qubits.ensures in
    record {
      len = c.mark.ensures.len ∙ c.loop-zone.invariant.len;
      marked = marked_up_to c.mark.new.flags.items lists k list h read (c.if-not-mark.ensures.marked (reading_order (take k lists)) c.loop-zone.invariant.marked);
      room = room_more c.args.zones.now lists k list c.index-zones-zone.result c.loop-zone.invariant.room h within read c.index-zones-zone.is (omega (arith, c.if-qubits-zones.false, ap (λ (z : ZonePart). z.capacity) c.index-zones-zone.is));
    }
