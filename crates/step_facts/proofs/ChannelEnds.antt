-- Each channel of a trap joins two places: a split leads from a zone into a slot, a merge from a slot into a zone, and all others join two slots.
use Rattle.std.proofs.Common.{◌≡◌, ◌≢◌, ℕ, zero, suc, ◌+◌, ◌-◌, ◌<◌, ◌≤◌, true, false, List, [], ◌∷◌, ◌++◌, length, arith, eqb, Some, None}
use Rattle.std.specs.Prelude.{Option, slice_get}
use Rattle.std.specs.List.{flat_map, range_with_len, filter_map, cons_option}
use Rattle.std.specs.Option.{IfSome, option_map}
use Rattle.std.proofs.lemmas.Bool.{cond_both, lt-ltb, le-ltb, eq-eqb, both_ways}
use Rattle.std.proofs.lemmas.Option.{same_Some}
use Rattle.qc_base.specs.declared.ids.End.{End}
use Rattle.qc_base.specs.declared.ids.End.TheVariants.{A, B}
use Rattle.trap_parts.specs.declared.parts.SegmentPart.{SegmentPart}
use Rattle.trap_model.specs.declared.channel.Channel.{Channel}
use Rattle.trap_parts.specs.declared.port.Link.{Link}
use Rattle.trap_parts.specs.declared.port.Link.TheVariants as links
use Rattle.trap_parts.specs.declared.port.SlotEnd.{SlotEnd}
use Rattle.trap_parts.specs.Parts.{TrapValue}
use Rattle.trap_model.specs.Trap.{is_zone}
use Rattle.trap_parts.specs.Joins.{links_of, slot_end, arms_of, arm_at}
use Rattle.trap_model.specs.Channels.{splits, merges, dock_channels, move_channels, moves_from, cross_channels, cross, crossings_of, channels_of}
use Rattle.trap_parts.specs.Build.{IsTrap}
use Rattle.trap_parts.proofs.Known.{AreLinks, links_known}
use Rattle.trap_model.proofs.Rows.{row_of}

-- which of its ends are zones, by its kind
pub record IsBetween (trap : TrapValue) (channel : Channel) : Type 0 where
  pub from : is_zone trap channel.from.0 ≡ splits channel.kind
  pub to : is_zone trap channel.to.0 ≡ merges channel.kind
  pub differ : channel.from.0 ≢ channel.to.0

abbrev AllBetween : TrapValue → List Channel → Type 0
AllBetween trap [] = Unit {0}
AllBetween trap (channel ∷ channels) = IsBetween trap channel × AllBetween trap channels

between_append : (trap : TrapValue) (cs ds : List Channel) → AllBetween trap cs → AllBetween trap ds → AllBetween trap (cs ++ ds)
between_append trap [] ds p q = q
between_append trap (c ∷ cs) ds p q = (p.0, between_append trap cs ds p.1 q)

between_at : (trap : TrapValue) (cs : List Channel) (k : ℕ) (c : Channel) → AllBetween trap cs → slice_get cs k ≡ Some c → IsBetween trap c
between_at trap [] k c p is = absurd cc
between_at trap (d ∷ cs) zero c p is = rw (same_Some d c is) at p.0
between_at trap (d ∷ cs) (suc k) c p is = between_at trap cs k c p.1 is

-- ---- the places of zones and of slots

slot_after_zones : (trap : TrapValue) (s : ℕ) (e : End) → IsTrap trap → s < length trap.segments → length trap.zones ≤ (slot_end trap s e).slot
slot_after_zones trap s A sound h = let row = row_of trap s sound h in omega (arith, row.some, row.begins)
slot_after_zones trap s B sound h = let row = row_of trap s sound h in omega (arith, row.some, row.begins)

zone_in : (trap : TrapValue) (p : ℕ) → p < length trap.zones → is_zone trap p ≡ true
zone_in trap p h = lt-ltb p (length trap.zones) h

zone_out : (trap : TrapValue) (p : ℕ) → length trap.zones ≤ p → is_zone trap p ≡ false
zone_out trap p h = le-ltb p (length trap.zones) h

-- ---- the joins

docks_between : (trap : TrapValue) (ls : List Link) → IsTrap trap → AreLinks trap ls → AllBetween trap (flat_map (dock_channels trap) ls)
docks_between trap [] sound known = tt
docks_between trap (links.Arm s e junction ∷ ls) sound known = docks_between trap ls sound known.1
docks_between trap (links.Dock zone e s f ∷ ls) sound known =
    let slot : ℕ = (slot_end trap s f).slot in
    let beyond : length trap.zones ≤ (slot_end trap s f).slot = slot_after_zones trap s f sound known.0.1 in
    let in_front : zone < length trap.zones = known.0.0 in
    let of_zone : is_zone trap zone ≡ true = zone_in trap zone in_front in
    let of_slot : is_zone trap slot ≡ false = zone_out trap slot beyond in (
      record { from = of_zone; to = of_slot; differ = λ same. omega (arith, beyond, in_front, same) },
      (record { from = of_slot; to = of_zone; differ = λ same. omega (arith, beyond, in_front, same) }, docks_between trap ls sound known.1),
    )

-- ---- the segments

pairs_between : (trap : TrapValue) (place count : ℕ) → length trap.zones ≤ place → AllBetween trap (flat_map move_channels (range_with_len place count))
pairs_between trap place zero h = tt
pairs_between trap place (suc count) h =
    let here : is_zone trap place ≡ false = zone_out trap place h in
    let next : is_zone trap (place + 1) ≡ false = zone_out trap (place + 1) (omega arith) in (
      record { from = here; to = next; differ = λ same. omega (arith, same) },
      (record { from = next; to = here; differ = λ same. omega (arith, same) }, pairs_between trap (place + 1) count (omega arith)),
    )

moves_between : (trap : TrapValue) (place : ℕ) (segments : List SegmentPart) → length trap.zones ≤ place → AllBetween trap (moves_from place segments)
moves_between trap place [] h = tt
moves_between trap place (segment ∷ segments) h =
    between_append trap (flat_map move_channels (range_with_len place (segment.slots - 1))) (moves_from (place + segment.slots) segments)
    (pairs_between trap place (segment.slots - 1) h) (moves_between trap (place + segment.slots) segments (omega arith))

-- ---- the junctions

abbrev ArmsAfter : ℕ → List SlotEnd → Type 0
ArmsAfter n [] = Unit {0}
ArmsAfter n (arm ∷ arms) = (n ≤ arm.slot) × ArmsAfter n arms

cons_after : (n : ℕ) (arm : Option SlotEnd) (arms : List SlotEnd) → IfSome arm (λ a. n ≤ a.slot) → ArmsAfter n arms → ArmsAfter n (cons_option arm arms)
cons_after n None arms p q = q
cons_after n (Some arm) arms p q = (p, q)

arms_after_zones : (trap : TrapValue) (junction : ℕ) (ls : List Link) → IsTrap trap → AreLinks trap ls → ArmsAfter (length trap.zones) (filter_map (arm_at trap junction) ls)
arms_after_zones trap junction [] sound known = tt
arms_after_zones trap junction (links.Dock zone e s f ∷ ls) sound known = arms_after_zones trap junction ls sound known.1
arms_after_zones trap junction (links.Arm s e other ∷ ls) sound known =
    cons_after (length trap.zones) (arm_at trap junction (links.Arm s e other)) (filter_map (arm_at trap junction) ls)
    (cond_both (eqb junction other) (Some s) None (λ o. IfSome (option_map (λ segment. slot_end trap segment e) o) (λ a. length trap.zones ≤ a.slot))
    (λ _. slot_after_zones trap s e sound known.0.0) (λ _. tt))
    (arms_after_zones trap junction ls sound known.1)

cross_between : (trap : TrapValue) (junction : ℕ) (from to : SlotEnd) → length trap.zones ≤ from.slot → length trap.zones ≤ to.slot → AllBetween trap (cross_channels junction from to)
cross_between trap junction from to p q =
    cond_both (eqb from.slot to.slot) [] (cross junction from to ∷ []) (AllBetween trap) (λ _. tt)
    (λ other. (
      record {
        from = zone_out trap from.slot p;
        to = zone_out trap to.slot q;
        differ = λ same. both_ways (eqb from.slot to.slot) other (eq-eqb from.slot to.slot same);
      },
      tt,
    ))

arm_between : (trap : TrapValue) (junction : ℕ) (from : SlotEnd) (arms : List SlotEnd) → length trap.zones ≤ from.slot → ArmsAfter (length trap.zones) arms
    → AllBetween trap (flat_map (cross_channels junction from) arms)
arm_between trap junction from [] p q = tt
arm_between trap junction from (to ∷ arms) p q =
    between_append trap (cross_channels junction from to) (flat_map (cross_channels junction from) arms) (cross_between trap junction from to p q.0)
    (arm_between trap junction from arms p q.1)

junction_between : (trap : TrapValue) (junction : ℕ) (all arms : List SlotEnd) → ArmsAfter (length trap.zones) all → ArmsAfter (length trap.zones) arms
    → AllBetween trap (flat_map (λ from. flat_map (cross_channels junction from) all) arms)
junction_between trap junction all [] p q = tt
junction_between trap junction all (from ∷ arms) p q =
    between_append trap (flat_map (cross_channels junction from) all) (flat_map (λ f. flat_map (cross_channels junction f) all) arms)
    (arm_between trap junction from all q.0 p) (junction_between trap junction all arms p q.1)

crossings_between : (trap : TrapValue) (first count : ℕ) → IsTrap trap → AllBetween trap (flat_map (crossings_of trap) (range_with_len first count))
crossings_between trap first zero sound = tt
crossings_between trap first (suc count) sound =
    let arms = arms_after_zones trap first (links_of trap) sound (links_known trap) in
    between_append trap (crossings_of trap first) (flat_map (crossings_of trap) (range_with_len (first + 1) count))
    (junction_between trap first (arms_of trap first) (arms_of trap first) arms arms) (crossings_between trap (first + 1) count sound)

-- ---- all channels

pub channel_between : (trap : TrapValue) (c : ℕ) (channel : Channel) → IsTrap trap → slice_get (channels_of trap) c ≡ Some channel → IsBetween trap channel
channel_between trap c channel sound is =
    let docks = flat_map (dock_channels trap) (links_of trap) in
    let moves = moves_from (length trap.zones) trap.segments in
    let crossings = flat_map (crossings_of trap) (range_with_len 0 (length trap.junctions)) in
    let front = between_append trap docks moves (docks_between trap (links_of trap) sound (links_known trap)) (moves_between trap (length trap.zones) trap.segments (omega arith)) in
    between_at trap (docks ++ moves ++ crossings) c channel (between_append trap (docks ++ moves) crossings front (crossings_between trap 0 (length trap.junctions) sound)) is
