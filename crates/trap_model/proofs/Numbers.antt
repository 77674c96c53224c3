-- Each channel is the only one of its ends, so that a look-up by its ends gives its own number.
use Rattle.std.proofs.Common.{◌≡◌, ◌≢◌, ℕ, suc, ◌+◌, ◌-◌, ◌<◌, ◌≤◌, Bool, true, false, cond, ◌&&◌, List, [], ◌∷◌, ◌++◌, length, Option, None, Some, refl, sym, ap, subst, ◌∙◌, inl, inr, arith, slice_get, eqb}
use Rattle.std.specs.Prelude.{◌⊎◌}
use Rattle.std.specs.List.{AllPairs, flat_map, filter_map, cons_option, range_with_len}
use Rattle.std.specs.Option.{option_map, option_map_or}
use Rattle.std.proofs.lemmas.Bool.{cases_Bool, cases_lt, cases_eq, cond-true, cond-false, and_parts, and_from, eqb-true, eq-eqb, ne_eqb}
use Rattle.qc_base.specs.declared.ids.End.{End}
use Rattle.qc_base.specs.declared.ids.End.TheVariants.{A, B}
use Rattle.qc_base.specs.declared.ids.JunctionId.{JunctionId}
use Rattle.qc_base.specs.Counting.{how_many}
use Rattle.trap_parts.specs.declared.parts.SegmentPart.{SegmentPart}
use Rattle.trap_model.specs.declared.channel.Kind.{Kind}
use Rattle.trap_model.specs.declared.channel.Kind.TheVariants.{Split, Move, Cross, Merge}
use Rattle.trap_model.specs.declared.channel.Channel.{Channel}
use Rattle.trap_parts.specs.declared.port.Port.TheVariants as ports
use Rattle.trap_parts.specs.declared.port.Link.{Link}
use Rattle.trap_parts.specs.declared.port.Link.TheVariants as links
use Rattle.trap_model.specs.declared.slot.Slot.{Slot}
use Rattle.trap_parts.specs.declared.port.SlotEnd.{SlotEnd}
use Rattle.trap_parts.specs.Parts.{TrapValue}
use Rattle.trap_model.specs.Trap.{slot_at}
use Rattle.trap_parts.specs.Joins.{same_end, links_of, ends_of, first_slot, slots_of, slot_end, arm_at, arms_of}
use Rattle.trap_model.specs.Channels.{splits, merges, moves, cross, dock_channels, move_channels, moves_from, cross_channels, crossings_of, channels_of, is_split, is_merge, is_move, is_that, is_through, is_cross, number_by, number_of}
use Rattle.trap_parts.specs.Build.{same_port, segments_at, IsTrap}
use Rattle.trap_parts.proofs.Joined.{same_port_decides}
use Rattle.trap_parts.proofs.Known.{AreLinks, links_known}
use Rattle.trap_model.proofs.Rows.{row_of}
use Rattle.trap_model.proofs.Slots.{slot_at_row}
use Rattle.trap_model.proofs.Finds.{no_docks, no_moves, no_crossings, no_junction}
use Rattle.trap_model.proofs.Counts.{how_many-append, none_passes, one_of, only_one, counted_there, blocks_within, some_in_range, one_in_range}

parts_counted : (trap : TrapValue) (p : Channel → Bool)
    → how_many p (channels_of trap) ≡ how_many p (flat_map (dock_channels trap) (links_of trap)) + how_many p (moves_from (length trap.zones) trap.segments) + how_many p (flat_map (crossings_of trap) (range_with_len 0 (length trap.junctions)))
parts_counted trap p =
    let docks = flat_map (dock_channels trap) (links_of trap) in
    let steps = moves_from (length trap.zones) trap.segments in
    let crossings = flat_map (crossings_of trap) (range_with_len 0 (length trap.junctions)) in
    omega (arith, how_many-append p (docks ++ steps) crossings, how_many-append p docks steps)

-- ---- splits and merges: an end of a zone is joined once

splits_counted : (trap : TrapValue) (zone : ℕ) (e : End) (ls : List Link) → how_many (is_split zone e) (flat_map (dock_channels trap) ls) ≡ how_many (same_port (ports.Zone zone e)) (flat_map ends_of ls)
splits_counted trap zone e [] = refl
splits_counted trap zone e (links.Arm s f junction ∷ ls) = omega (arith, splits_counted trap zone e ls)
splits_counted trap zone e (links.Dock other f s g ∷ ls) = omega (arith, splits_counted trap zone e ls)

merges_counted : (trap : TrapValue) (zone : ℕ) (e : End) (ls : List Link) → how_many (is_merge zone e) (flat_map (dock_channels trap) ls) ≡ how_many (same_port (ports.Zone zone e)) (flat_map ends_of ls)
merges_counted trap zone e [] = refl
merges_counted trap zone e (links.Arm s f junction ∷ ls) = omega (arith, merges_counted trap zone e ls)
merges_counted trap zone e (links.Dock other f s g ∷ ls) = omega (arith, merges_counted trap zone e ls)

one_split : (trap : TrapValue) (zone : ℕ) (e : End) → IsTrap trap → how_many (is_split zone e) (channels_of trap) ≤ 1
one_split trap zone e sound =
    omega (
      arith,
      parts_counted trap (is_split zone e),
      splits_counted trap zone e (links_of trap),
      one_of same_port same_port_decides (ports.Zone zone e) (flat_map ends_of (links_of trap)) sound.once,
      none_passes (is_split zone e) (moves_from (length trap.zones) trap.segments) (no_moves (is_split zone e) (λ s. refl) (length trap.zones) trap.segments),
      none_passes (is_split zone e) (flat_map (crossings_of trap) (range_with_len 0 (length trap.junctions))) (no_crossings trap (is_split zone e) 0 (length trap.junctions) (λ junction h below from to. refl)),
    )

one_merge : (trap : TrapValue) (zone : ℕ) (e : End) → IsTrap trap → how_many (is_merge zone e) (channels_of trap) ≤ 1
one_merge trap zone e sound =
    omega (
      arith,
      parts_counted trap (is_merge zone e),
      merges_counted trap zone e (links_of trap),
      one_of same_port same_port_decides (ports.Zone zone e) (flat_map ends_of (links_of trap)) sound.once,
      none_passes (is_merge zone e) (moves_from (length trap.zones) trap.segments) (no_moves (is_merge zone e) (λ s. refl) (length trap.zones) trap.segments),
      none_passes (is_merge zone e) (flat_map (crossings_of trap) (range_with_len 0 (length trap.junctions))) (no_crossings trap (is_merge zone e) 0 (length trap.junctions) (λ junction h below from to. refl)),
    )

-- ---- moves: two neighbours have one pair of channels

-- the two are the place and the next
abbrev IsPair : ℕ → ℕ → ℕ → Type 0
IsPair from to place = ((from ≡ place) × (to ≡ place + 1)) ⊎ ((from ≡ place + 1) × (to ≡ place))

one_place : (from to p q : ℕ) → IsPair from to p → IsPair from to q → p ≡ q
one_place from to p q (inl a) (inl b) = sym a.0 ∙ b.0
one_place from to p q (inl a) (inr b) = absurd (omega (arith, a.0, a.1, b.0, b.1))
one_place from to p q (inr a) (inl b) = absurd (omega (arith, a.0, a.1, b.0, b.1))
one_place from to p q (inr a) (inr b) = sym a.1 ∙ b.1

pair_has : (from to place : ℕ) → 1 ≤ how_many (is_move from to) (move_channels place) → IsPair from to place
pair_has from to place some = elim (cases_Bool (eqb from place && eqb to (place + 1))) [
  | inl ahead ↦ (let p = and_parts (eqb from place) (eqb to (place + 1)) ahead in inl (eqb-true from place p.0, eqb-true to (place + 1) p.1))
  | inr not ↦ elim (cases_Bool (eqb from (place + 1) && eqb to place)) [
    | inl back ↦ (let p = and_parts (eqb from (place + 1)) (eqb to place) back in inr (eqb-true from (place + 1) p.0, eqb-true to place p.1))
    | inr none ↦ absurd (omega (arith, some, cond-false {A = ℕ} (eqb from place && eqb to (place + 1)) 1 0 not, cond-false {A = ℕ} (eqb from (place + 1) && eqb to place) 1 0 none))
  ]
]

one_or_none : (b : Bool) → cond b 1 0 ≤ 1
one_or_none true = omega arith
one_or_none false = omega arith

pair_once : (from to place : ℕ) → how_many (is_move from to) (move_channels place) ≤ 1
pair_once from to place = elim (cases_Bool (eqb from place && eqb to (place + 1))) [
  | inl ahead ↦
      let p = and_parts (eqb from place) (eqb to (place + 1)) ahead in
      elim (cases_Bool (eqb from (place + 1) && eqb to place)) [
        | inl back ↦ (let q = and_parts (eqb from (place + 1)) (eqb to place) back in absurd (omega (arith, eqb-true from place p.0, eqb-true from (place + 1) q.0)))
        | inr none ↦ omega (arith, cond-false {A = ℕ} (eqb from (place + 1) && eqb to place) 1 0 none, one_or_none (eqb from place && eqb to (place + 1)))
      ]
  | inr not ↦ omega (arith, cond-false {A = ℕ} (eqb from place && eqb to (place + 1)) 1 0 not, one_or_none (eqb from (place + 1) && eqb to place))
]

-- a row that has the move begins no later
moves_begin : (from to place : ℕ) (segments : List SegmentPart) → 1 ≤ how_many (is_move from to) (moves_from place segments) → (p : ℕ) × (place ≤ p) × IsPair from to p
moves_begin from to place [] some = absurd (omega arith)
moves_begin from to place (segment ∷ segments) some =
    let row : List Channel = flat_map move_channels (range_with_len place (segment.slots - 1)) in
    elim (cases_lt 0 (how_many (is_move from to) row)) [
      | inl here ↦
          let it = some_in_range (is_move from to) move_channels (IsPair from to) (pair_has from to) place (segment.slots - 1) (omega (arith, here)) in
          (it.number, it.low, it.is)
      | inr none ↦
          let rest = moves_begin from to (place + segment.slots) segments (omega (arith, some, none, how_many-append (is_move from to) row (moves_from (place + segment.slots) segments))) in
          (rest.0, omega (arith, rest.1), rest.2)
    ]

moves_once : (from to place : ℕ) (segments : List SegmentPart) → how_many (is_move from to) (moves_from place segments) ≤ 1
moves_once from to place [] = omega arith
moves_once from to place (segment ∷ segments) =
    let row : List Channel = flat_map move_channels (range_with_len place (segment.slots - 1)) in
    let rest : List Channel = moves_from (place + segment.slots) segments in
    let sum = how_many-append (is_move from to) row rest in
    let once = one_in_range (is_move from to) move_channels (IsPair from to) (pair_has from to) (one_place from to) place (segment.slots - 1) (λ s h. pair_once from to s) in
    elim (cases_lt 0 (how_many (is_move from to) row)) [
      | inl here ↦ elim (cases_lt 0 (how_many (is_move from to) rest)) [
        | inl there ↦
            let first = some_in_range (is_move from to) move_channels (IsPair from to) (pair_has from to) place (segment.slots - 1) (omega (arith, here)) in
            let later = moves_begin from to (place + segment.slots) segments (omega (arith, there)) in
            absurd (omega (arith, first.high, later.1, one_place from to first.number later.0 first.is later.2))
        | inr none ↦ omega (arith, sum, none, once)
      ]
      | inr none ↦ omega (arith, sum, none, moves_once from to (place + segment.slots) segments)
    ]

one_move : (trap : TrapValue) (from to : ℕ) → how_many (is_move from to) (channels_of trap) ≤ 1
one_move trap from to =
    omega (
      arith,
      parts_counted trap (is_move from to),
      moves_once from to (length trap.zones) trap.segments,
      none_passes (is_move from to) (flat_map (dock_channels trap) (links_of trap)) (no_docks trap (is_move from to) (λ zone e s. refl) (λ zone e s. refl) (links_of trap)),
      none_passes (is_move from to) (flat_map (crossings_of trap) (range_with_len 0 (length trap.junctions))) (no_crossings trap (is_move from to) 0 (length trap.junctions) (λ junction h below f t. refl)),
    )

-- ---- crossings: the arms of a junction are different slots

-- the slot of that place is one of the segment
abbrev is_of_segment : Option Slot → ℕ → Bool
is_of_segment found segment = option_map_or (λ (s : Slot). eqb s.segment segment) found false

segment_once : (found : Option Slot) (segments : List ℕ) → AllPairs (λ a b. a ≢ b) segments → how_many (is_of_segment found) segments ≤ 1
segment_once None [] all = omega arith
segment_once None (x ∷ xs) all = omega (arith, segment_once None xs (λ i j d below h. all (suc i) (suc j) d (omega arith) (omega arith)))
segment_once (Some s) segments all = one_of eqb (λ x y. (eqb-true x y, eq-eqb x y)) s.segment segments all

end_of_segment : (trap : TrapValue) (segment : ℕ) (e : End) → IsTrap trap → segment < length trap.segments → is_of_segment (slot_at trap (slot_end trap segment e).slot) segment ≡ true
end_of_segment trap segment A sound h =
    let row = row_of trap segment sound h in
    let same : first_slot trap segment ≡ first_slot trap segment + 0 = omega arith in
    ap (λ (n : ℕ). is_of_segment (slot_at trap n) segment) same ∙ ap (λ (o : Option Slot). is_of_segment o segment) (slot_at_row trap segment 0 h (omega (arith, row.some))) ∙ eq-eqb segment segment refl
end_of_segment trap segment B sound h =
    let row = row_of trap segment sound h in
    let last : ℕ = slots_of trap segment - 1 in
    let same : first_slot trap segment + slots_of trap segment - 1 ≡ first_slot trap segment + last = omega (arith, row.some) in
    ap (λ (n : ℕ). is_of_segment (slot_at trap n) segment) same ∙ ap (λ (o : Option Slot). is_of_segment o segment) (slot_at_row trap segment last h (omega (arith, row.some))) ∙ eq-eqb segment segment refl

-- the arm is at that place
abbrev is_at : ℕ → SlotEnd → Bool
is_at place arm = eqb place arm.slot

arm_step : (trap : TrapValue) (place segment : ℕ) (e : End) (b : Bool) (arms : List SlotEnd) (segments : List ℕ) → how_many (is_at place) arms ≤ how_many (is_of_segment (slot_at trap place)) segments
    → (is_at place (slot_end trap segment e) ≡ true → is_of_segment (slot_at trap place) segment ≡ true)
    → how_many (is_at place) (cons_option (option_map (λ s. slot_end trap s e) (cond b (Some segment) None)) arms) ≤ how_many (is_of_segment (slot_at trap place)) (cons_option (cond b (Some segment) None) segments)
arm_step trap place segment e false arms segments small there = small
arm_step trap place segment e true arms segments small there = elim (cases_Bool (is_at place (slot_end trap segment e))) [
  | inl here ↦ omega (arith, small, one_or_none (is_at place (slot_end trap segment e)), cond-true {A = ℕ} (is_of_segment (slot_at trap place) segment) 1 0 (there here))
  | inr not ↦ omega (arith, small, cond-false {A = ℕ} (is_at place (slot_end trap segment e)) 1 0 not)
]

arms_within : (trap : TrapValue) (junction place : ℕ) (ls : List Link) → IsTrap trap → AreLinks trap ls → how_many (is_at place) (filter_map (arm_at trap junction) ls) ≤ how_many (is_of_segment (slot_at trap place)) (segments_at junction ls)
arms_within trap junction place [] sound known = omega arith
arms_within trap junction place (links.Dock zone e s f ∷ ls) sound known = arms_within trap junction place ls sound known.1
arms_within trap junction place (links.Arm s e other ∷ ls) sound known =
    arm_step trap place s e (eqb junction other) (filter_map (arm_at trap junction) ls) (segments_at junction ls) (arms_within trap junction place ls sound known.1)
    (λ here. subst (λ (n : ℕ). is_of_segment (slot_at trap n) s ≡ true) (sym (eqb-true place (slot_end trap s e).slot here)) (end_of_segment trap s e sound known.0.0))

one_arm : (trap : TrapValue) (junction place : ℕ) → IsTrap trap → junction < length trap.junctions → how_many (is_at place) (arms_of trap junction) ≤ 1
one_arm trap junction place sound h =
    omega (arith, arms_within trap junction place (links_of trap) sound (links_known trap), segment_once (slot_at trap place) (segments_at junction (links_of trap)) (sound.arms junction h).apart)

cross_step : (p : Channel → Bool) (c : Channel) (b there : Bool) → (p c ≡ true → there ≡ true) → how_many p (cond b [] (c ∷ [])) ≤ cond there 1 0
cross_step p c true there is = omega arith
cross_step p c false there is = elim (cases_Bool (p c)) [
  | inl here ↦ omega (arith, one_or_none (p c), cond-true {A = ℕ} there 1 0 (is here))
  | inr not ↦ omega (arith, cond-false {A = ℕ} (p c) 1 0 not)
]

-- what passes is between these
crossing_is : (junction from to other : ℕ) (f t : SlotEnd) → is_cross junction from to (cross other f t) ≡ true → (eqb junction other ≡ true) × (is_at from f ≡ true) × (is_at to t ≡ true)
crossing_is junction from to other f t e =
    let p = and_parts (eqb junction other) (is_at from f && is_at to t) e in
    let q = and_parts (is_at from f) (is_at to t) p.1 in
    (p.0, q.0, q.1)

none_of_all : (arms : List SlotEnd) → how_many (λ (arm : SlotEnd). false) arms ≡ 0
none_of_all [] = refl
none_of_all (arm ∷ arms) = omega (arith, none_of_all arms)

from_one : (trap : TrapValue) (junction from to other : ℕ) (f : SlotEnd) (arms : List SlotEnd) → how_many (is_at to) arms ≤ 1 → how_many (is_cross junction from to) (flat_map (cross_channels other f) arms) ≤ cond (is_at from f) 1 0
from_one trap junction from to other f arms once = elim (cases_Bool (is_at from f)) [
  | inl here ↦ omega (
    arith,
    once,
    cond-true {A = ℕ} (is_at from f) 1 0 here,
    blocks_within (is_cross junction from to) (cross_channels other f) (is_at to) (λ t. cross_step (is_cross junction from to) (cross other f t) (eqb f.slot t.slot) (is_at to t) (λ e. (crossing_is junction from to other f t e).2)) arms,
  )
  | inr not ↦ omega (
    arith,
    none_of_all arms,
    blocks_within (is_cross junction from to) (cross_channels other f) (λ arm. false)
        (λ t. cross_step (is_cross junction from to) (cross other f t) (eqb f.slot t.slot) false (λ e. sym not ∙ (crossing_is junction from to other f t e).1)) arms,
  )
]

junction_once : (trap : TrapValue) (junction from to other : ℕ) → IsTrap trap → other < length trap.junctions → how_many (is_cross junction from to) (crossings_of trap other) ≤ 1
junction_once trap junction from to other sound h =
    omega (
      arith,
      one_arm trap other from sound h,
      blocks_within (is_cross junction from to) (λ f. flat_map (cross_channels other f) (arms_of trap other)) (is_at from) (λ f. from_one trap junction from to other f (arms_of trap other) (one_arm trap other to sound h)) (arms_of trap other),
    )

junction_has : (trap : TrapValue) (junction from to other : ℕ) → 1 ≤ how_many (is_cross junction from to) (crossings_of trap other) → other ≡ junction
junction_has trap junction from to other some = elim (cases_eq junction other) [
  | inl same ↦ sym same
  | inr apart ↦ absurd (omega (
    arith,
    some,
    none_passes (is_cross junction from to) (crossings_of trap other) (no_junction (is_cross junction from to) other (λ f t. let no : eqb junction other ≡ false = ne_eqb junction other apart in rw no refl) (arms_of trap other) (arms_of trap other)),
  ))
]

one_cross : (trap : TrapValue) (junction from to : ℕ) → IsTrap trap → how_many (is_cross junction from to) (channels_of trap) ≤ 1
one_cross trap junction from to sound =
    let p : Channel → Bool = is_cross junction from to in
    let once = one_in_range p (crossings_of trap) (λ other. other ≡ junction) (junction_has trap junction from to) (λ x y e f. e ∙ sym f) 0 (length trap.junctions) (λ other h. junction_once trap junction from to other sound (omega (arith, h))) in
    omega (
      arith,
      parts_counted trap p,
      once,
      none_passes p (flat_map (dock_channels trap) (links_of trap)) (no_docks trap p (λ zone e s. refl) (λ zone e s. refl) (links_of trap)),
      none_passes p (moves_from (length trap.zones) trap.segments) (no_moves p (λ s. refl) (length trap.zones) trap.segments),
    )

-- ---- each kind by its own look-up

-- a crossing that names no junction
abbrev lacks_junction : Kind → Option JunctionId → Bool
lacks_junction Cross None = true
lacks_junction Cross (Some junction) = false
lacks_junction Split junction = false
lacks_junction Move junction = false
lacks_junction Merge junction = false

none_lacks : (trap : TrapValue) → how_many (λ (c : Channel). lacks_junction c.kind c.junction) (channels_of trap) ≡ 0
none_lacks trap =
    let p : Channel → Bool = λ c. lacks_junction c.kind c.junction in
    omega (
      arith,
      parts_counted trap p,
      none_passes p (flat_map (dock_channels trap) (links_of trap)) (no_docks trap p (λ zone e s. refl) (λ zone e s. refl) (links_of trap)),
      none_passes p (moves_from (length trap.zones) trap.segments) (no_moves p (λ s. refl) (length trap.zones) trap.segments),
      none_passes p (flat_map (crossings_of trap) (range_with_len 0 (length trap.junctions))) (no_crossings trap p 0 (length trap.junctions) (λ junction h below f t. refl)),
    )

same_end_itself : (e : End) → same_end e e ≡ true
same_end_itself A = refl
same_end_itself B = refl

at_ends : (p q r s : ℕ) → p ≡ q → r ≡ s → (eqb p q && eqb r s) ≡ true
at_ends p q r s e f = and_from (eqb p q) (eqb r s) (eq-eqb p q e) (eq-eqb r s f)

numbered : (trap : TrapValue) (k : ℕ) (c : Channel) (kind : Kind) (junction : Option JunctionId) → IsTrap trap → slice_get (channels_of trap) k ≡ Some c → c.kind ≡ kind → c.junction ≡ junction → number_by trap kind junction c ≡ Some k
numbered trap k c Split junction sound there is through =
    only_one (is_split c.from.0 c.from_end) (channels_of trap) 0 k c (one_split trap c.from.0 c.from_end sound) there
    (and_from (splits c.kind) (eqb c.from.0 c.from.0 && same_end c.from_end c.from_end) (ap splits is) (and_from (eqb c.from.0 c.from.0) (same_end c.from_end c.from_end) (eq-eqb c.from.0 c.from.0 refl) (same_end_itself c.from_end)))
    ∙ ap Some (let same : 0 + k ≡ k = omega arith in same)
numbered trap k c Merge junction sound there is through =
    only_one (is_merge c.to.0 c.to_end) (channels_of trap) 0 k c (one_merge trap c.to.0 c.to_end sound) there
    (and_from (merges c.kind) (eqb c.to.0 c.to.0 && same_end c.to_end c.to_end) (ap merges is) (and_from (eqb c.to.0 c.to.0) (same_end c.to_end c.to_end) (eq-eqb c.to.0 c.to.0 refl) (same_end_itself c.to_end)))
    ∙ ap Some (let same : 0 + k ≡ k = omega arith in same)
numbered trap k c Move junction sound there is through =
    only_one (is_move c.from.0 c.to.0) (channels_of trap) 0 k c (one_move trap c.from.0 c.to.0) there
    (and_from (moves c.kind) (eqb c.from.0 c.from.0 && eqb c.to.0 c.to.0) (ap moves is) (at_ends c.from.0 c.from.0 c.to.0 c.to.0 refl refl))
    ∙ ap Some (let same : 0 + k ≡ k = omega arith in same)
numbered trap k c Cross None sound there is through =
    let p : Channel → Bool = λ x. lacks_junction x.kind x.junction in
    let lacks : p c ≡ true = ap (λ (x : Kind). lacks_junction x c.junction) is ∙ ap (lacks_junction Cross) through in
    absurd (omega (arith, none_lacks trap, counted_there p (channels_of trap) k c there lacks))
numbered trap k c Cross (Some j) sound there is through =
    only_one (is_cross j.0 c.from.0 c.to.0) (channels_of trap) 0 k c (one_cross trap j.0 c.from.0 c.to.0 sound) there
    (and_from (is_through j.0 c) (eqb c.from.0 c.from.0 && eqb c.to.0 c.to.0) (ap (is_that j.0) through ∙ eq-eqb j.0 j.0 refl) (at_ends c.from.0 c.from.0 c.to.0 c.to.0 refl refl))
    ∙ ap Some (let same : 0 + k ≡ k = omega arith in same)

pub own_number : (trap : TrapValue) (k : ℕ) (c : Channel) → IsTrap trap → slice_get (channels_of trap) k ≡ Some c → number_of trap c ≡ Some k
own_number trap k c sound there = numbered trap k c c.kind c.junction sound there refl refl
