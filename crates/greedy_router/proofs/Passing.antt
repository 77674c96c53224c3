-- One ion may go through a channel.
use Rattle.std.proofs.Common.{◌≡◌, ◌≢◌, ℕ, zero, suc, ◌+◌, ◌<◌, ◌≤◌, Bool, true, false, not, cond, ◌&&◌, List, [], ◌∷◌, length, Some, None, refl, sym, ap, subst, ◌∙◌, inl, inr, arith}
use Rattle.std.specs.Prelude.{◌⊎◌, All, Option, find, slice_get, nat_le, nat_lt, option_map, ◌==◌}
use Rattle.std.specs.List.{filter_map, cons_option}
use Rattle.std.specs.Option.{IfSome, option_map_or, option_or, option_and_then}
use Rattle.std.proofs.lemmas.Bool.{cases_Bool, cases_lt, cond-true, cond-false, cond_both, lt-ltb, le-ltb, le-leb, and_from, eq-eqb, ne_eqb}
use Rattle.std.proofs.lemmas.Option.{same_Some, cond_some, none-some, slice_get_past}
use Rattle.std.proofs.lemmas.List.Elements.{All-tail}
use Rattle.qc_base.specs.declared.ids.Ion.{Ion}
use Rattle.qc_base.specs.declared.ids.End.{End}
use Rattle.qc_base.specs.declared.ids.End.TheVariants.{A, B}
use Rattle.qc_base.specs.declared.ids.PlaceId.{PlaceId}
use Rattle.qc_base.specs.declared.ids.JunctionId.{JunctionId}
use Rattle.trap_parts.specs.Parts.{TrapValue}
use Rattle.trap_model.specs.Trap.{limit_of, load_of, slot_at, slot, place_count, is_zone}
use Rattle.trap_parts.specs.Joins.{same_end, links_of, docked, first_of, joined_slot, slot_end, first_slot, slots_of, arms_of, arm_at}
use Rattle.trap_parts.specs.Build.{IsTrap}
use Rattle.trap_model.specs.Channels.{channel as channel_of, channels_of, channel_at, number_by, split, merge, cross, split_channel, merge_channel, move_channel, cross_channel, same_segment, arm_of}
use Rattle.trap_model.specs.declared.channel.Channel.{Channel}
use Rattle.trap_model.specs.declared.channel.Kind.{Kind}
use Rattle.trap_model.specs.declared.channel.Kind.TheVariants as channel_kinds
use Rattle.trap_parts.specs.declared.port.Link.{Link}
use Rattle.trap_parts.specs.declared.port.Link.TheVariants as links
use Rattle.trap_model.specs.declared.slot.Slot.{Slot}
use Rattle.trap_parts.specs.declared.port.SlotEnd.{SlotEnd}
use Rattle.trap_parts.specs.declared.parts.SegmentPart.{SegmentPart}
use Rattle.trap_parts.specs.declared.parts.ZonePart.{ZonePart}
use Rattle.trap_parts.proofs.Known.{IsLink, AreLinks, links_known}
use Rattle.trap_model.proofs.Rows.{row_of}
use Rattle.trap_model.proofs.Slots.{slot_place}
use Rattle.trap_model.proofs.Docks.{split_leads, merge_leads}
use Rattle.trap_model.proofs.Moves.{no_slot_zone, slot_of_place, move_leads, no_move_apart}
use Rattle.trap_model.proofs.Crosses.{no_cross_channel, cross_leads}
use Rattle.trap_model.proofs.ReadTables.{no_joined}
use Rattle.trap_model.proofs.Numbers.{own_number}
use Rattle.ion_chain.specs.Transfer.{list_at, after_transfer}
use Rattle.step_rules.specs.declared.action.Action.{Action}
use Rattle.step_rules.specs.declared.action.Action.TheVariants as kinds
use Rattle.step_rules.specs.declared.action.Rule.{Rule}
use Rattle.step_rules.specs.declared.action.Rule.TheVariants as rules
use Rattle.step_rules.specs.Setting.{SettingValue}
use Rattle.step_rules.specs.ActionChannel.{channel_for, passing, transfer, IsWithin}
use Rattle.step_rules.specs.Guards.{guard, first_broken, is_empty, is_slot, is_junction, is_count_of, split_guards, move_guards, cross_guards, merge_guards, Passes}
use Rattle.step_rules.specs.Steps.{after}
use Rattle.step_rules.proofs.Effects.{crossing_ends, moving_ends}
use Rattle.step_rules.proofs.Moved.{after_through as after_any}
use Rattle.step_rules.proofs.Kept.{channel_within}
use Rattle.greedy_router.specs.Places.{count_of}
use Rattle.greedy_router.specs.Serial.{IsSingle}
use Rattle.greedy_router.specs.Traffic.{CanPass}

-- ---- guards that pass

on : (passes : Bool) (rest : Option Rule) (rule : Rule) → passes ≡ true → rest ≡ None → cond passes rest (Some rule) ≡ None
on passes rest rule e next = cond-true passes rest (Some rule) e ∙ next

two_pass : (a b : Bool) (p q : Rule) → a ≡ true → b ≡ true → first_broken (guard a p ∷ guard b q ∷ []) ≡ None
two_pass a b p q is_a is_b = on a (first_broken (guard b q ∷ [])) p is_a (on b None q is_b refl)

four_pass : (a b c d : Bool) (p q r s : Rule) → a ≡ true → b ≡ true → c ≡ true → d ≡ true → first_broken (guard a p ∷ guard b q ∷ guard c r ∷ guard d s ∷ []) ≡ None
four_pass a b c d p q r s is_a is_b is_c is_d =
    on a (first_broken (guard b q ∷ guard c r ∷ guard d s ∷ [])) p is_a (on b (first_broken (guard c r ∷ guard d s ∷ [])) q is_b (two_pass c d r s is_c is_d))

five_pass : (a b c d f : Bool) (p q r s t : Rule) → a ≡ true → b ≡ true → c ≡ true → d ≡ true → f ≡ true → first_broken (guard a p ∷ guard b q ∷ guard c r ∷ guard d s ∷ guard f t ∷ []) ≡ None
five_pass a b c d f p q r s t is_a is_b is_c is_d is_f =
    on a (first_broken (guard b q ∷ guard c r ∷ guard d s ∷ guard f t ∷ [])) p is_a (four_pass b c d f q r s t is_b is_c is_d is_f)

no_ion : (ions : List Ion) → length ions ≡ 0 → is_empty ions ≡ true
no_ion [] e = refl
no_ion (ion ∷ ions) e = absurd (omega arith)

some_ion : (ions : List Ion) → 1 ≤ length ions → not (is_empty ions) ≡ true
some_ion [] h = absurd (omega arith)
some_ion (ion ∷ ions) h = refl

some_present : (ion : ℕ) (ions : List Ion) → 1 ≤ count_of ion ions → 1 ≤ length ions
some_present ion [] h = absurd (omega arith)
some_present ion (other ∷ ions) h = omega arith

zone_is : (trap : TrapValue) (zone : ℕ) → zone < length trap.zones → is_zone trap zone ≡ true
zone_is trap zone h = lt-ltb zone (length trap.zones) h

slot_is : (trap : TrapValue) (place : ℕ) → length trap.zones ≤ place → place < place_count trap → is_slot trap place ≡ true
slot_is trap place past h =
    and_from (not (is_zone trap place)) (nat_lt place (place_count trap)) (ap not (le-ltb place (length trap.zones) past)) (lt-ltb place (place_count trap) h)

-- ---- a slot holds at least one ion

some_load : (segments : List SegmentPart) (k : ℕ) → k < length segments → All (λ segment. (1 ≤ segment.load) × (segment.load ≤ 16)) segments → 1 ≤ option_map_or (λ (segment : SegmentPart). segment.load) (slice_get segments k) 0
some_load [] k h loads = absurd (omega arith)
some_load (segment ∷ segments) zero h loads = (loads 0 segment (omega arith)).0
some_load (segment ∷ segments) (suc k) h loads =
    let P : SegmentPart → Type 0 = λ s. (1 ≤ s.load) × (s.load ≤ 16) in
    some_load segments k (omega arith) (All-tail P segment segments loads)

slot_holds : (trap : TrapValue) (place : ℕ) → IsTrap trap → length trap.zones ≤ place → place < place_count trap → 1 ≤ limit_of trap place
slot_holds trap place sound past h =
    let p = slot_place trap place past h in
    let no_zone : limit_of trap place ≡ option_map_or (load_of trap) (slot_at trap place) 0 =
    ap (λ (o : Option ZonePart). option_map_or (λ (zone : ZonePart). zone.capacity) o (option_map_or (load_of trap) (slot_at trap place) 0)) (slice_get_past trap.zones place past) in
    let is : limit_of trap place ≡ load_of trap (slot p.segment p.index) = no_zone ∙ ap (λ (o : Option Slot). option_map_or (load_of trap) o 0) (slot_of_place trap place past p) in
    let some : 1 ≤ load_of trap (slot p.segment p.index) = some_load trap.segments p.segment p.there sound.loads in
    omega (arith, is, some)

-- ---- the ends of a split and of a merge

end_after_zones : (trap : TrapValue) (segment : ℕ) (f : End) → length trap.zones ≤ first_slot trap segment → 1 ≤ slots_of trap segment → length trap.zones ≤ (slot_end trap segment f).slot
end_after_zones trap segment A begins some = begins
end_after_zones trap segment B begins some = omega arith

either : {X : Type 0} (a b : Option X) (x : X) → option_or a b ≡ Some x → (a ≡ Some x) ⊎ (b ≡ Some x)
either None b x e = inr e
either (Some y) b x e = inl e

slot_after_zones : (trap : TrapValue) (zone : ℕ) (end : End) (link : Link) (s : SlotEnd) → IsTrap trap → IsLink trap link → docked trap zone end link ≡ Some s → length trap.zones ≤ s.slot
slot_after_zones trap zone end (links.Arm segment e junction) s sound known is = absurd cc
slot_after_zones trap zone end (links.Dock other e segment f) s sound known is =
    let row = row_of trap segment sound known.1 in
    let same : slot_end trap segment f ≡ s = (cond_some (zone == other && same_end end e) (slot_end trap segment f) s is).1 in
    subst (λ (t : SlotEnd). length trap.zones ≤ t.slot) same (end_after_zones trap segment f row.begins row.some)

links_after_zones : (trap : TrapValue) (zone : ℕ) (end : End) (ls : List Link) (s : SlotEnd) → IsTrap trap → AreLinks trap ls → first_of (docked trap zone end) ls ≡ Some s → length trap.zones ≤ s.slot
links_after_zones trap zone end [] s sound known e = absurd cc
links_after_zones trap zone end (link ∷ ls) s sound known e = elim (either (docked trap zone end link) (first_of (docked trap zone end) ls) s e) [
  | inl here ↦ slot_after_zones trap zone end link s sound known.0 here
  | inr there ↦ links_after_zones trap zone end ls s sound known.1 there
]

mapped : {X Y : Type 0} (f : X → Y) (o : Option X) (y : Y) → option_map f o ≡ Some y → (x : X) × (o ≡ Some x) × (f x ≡ y)
mapped f None y e = absurd cc
mapped f (Some x) y e = (x, refl, same_Some (f x) y e)

joined_zone : (trap : TrapValue) (zone : ℕ) (end : End) (s : SlotEnd) → joined_slot trap zone end ≡ Some s → zone < length trap.zones
joined_zone trap zone end s e = elim (cases_lt zone (length trap.zones)) [
  | inl there ↦ there
  | inr past ↦ absurd (none-some s (sym (no_joined trap zone end past) ∙ e))
]

-- a zone and a slot
record Docks (trap : TrapValue) (zone in_zone in_slot : ℕ) : Type 0 where
  is : zone ≡ in_zone
  there : zone < length trap.zones
  after_zones : length trap.zones ≤ in_slot

split_ends : (trap : TrapValue) (zone : ℕ) (end : End) (channel : Channel) → IsTrap trap → split_channel trap zone end ≡ Some channel → Docks trap zone channel.from.0 channel.to.0
split_ends trap zone end channel sound e =
    let it = mapped (split zone end) (joined_slot trap zone end) channel e in
    let to : it.0.slot ≡ channel.to.0 = ap (λ (c : Channel). c.to.0) it.2 in
    record {
      is = ap (λ (c : Channel). c.from.0) it.2;
      there = joined_zone trap zone end it.0 it.1;
      after_zones = omega (arith, to, links_after_zones trap zone end (links_of trap) it.0 sound (links_known trap) it.1);
    }

merge_ends : (trap : TrapValue) (zone : ℕ) (end : End) (channel : Channel) → IsTrap trap → merge_channel trap zone end ≡ Some channel → Docks trap zone channel.to.0 channel.from.0
merge_ends trap zone end channel sound e =
    let it = mapped (merge zone end) (joined_slot trap zone end) channel e in
    let from : it.0.slot ≡ channel.from.0 = ap (λ (c : Channel). c.from.0) it.2 in
    record {
      is = ap (λ (c : Channel). c.to.0) it.2;
      there = joined_zone trap zone end it.0 it.1;
      after_zones = omega (arith, from, links_after_zones trap zone end (links_of trap) it.0 sound (links_known trap) it.1);
    }

-- ---- the ends of a move and of a crossing

-- two slots
record Slots (trap : TrapValue) (channel : Channel) (from to : ℕ) : Type 0 where
  from_is : from ≡ channel.from.0
  to_is : to ≡ channel.to.0
  from_after_zones : length trap.zones ≤ from
  to_after_zones : length trap.zones ≤ to

in_one_segment : (a : Bool) (b : Option Channel) (channel : Channel) → cond a b None ≡ Some channel → a ≡ true
in_one_segment true b channel e = refl
in_one_segment false b channel e = absurd cc

both_slots : (a b : Option Slot) → same_segment a b ≡ true → (a ≡ None → ⊥) × (b ≡ None → ⊥)
both_slots None b e = absurd cc
both_slots (Some s) None e = absurd cc
both_slots (Some s) (Some t) e = ((λ n. none-some s (sym n)), (λ n. none-some t (sym n)))

after_zones_of : (trap : TrapValue) (place : ℕ) → (slot_at trap place ≡ None → ⊥) → length trap.zones ≤ place
after_zones_of trap place some = elim (cases_lt place (length trap.zones)) [
  | inl zone ↦ absurd (some (no_slot_zone trap place zone))
  | inr past ↦ past
]

move_ends : (trap : TrapValue) (from to : ℕ) (channel : Channel) → move_channel trap from to ≡ Some channel → Slots trap channel from to
move_ends trap from to channel e =
    let ends = moving_ends trap from to channel e in
    let one : same_segment (slot_at trap from) (slot_at trap to) ≡ true =
    in_one_segment (same_segment (slot_at trap from) (slot_at trap to)) (cond (to == from + 1) (Some (channel_of channel_kinds.Move from B to A None)) (cond (from == to + 1) (Some (channel_of channel_kinds.Move from A to B None)) None)) channel e in
    let slots = both_slots (slot_at trap from) (slot_at trap to) one in
    record { from_is = ends.0; to_is = ends.1; from_after_zones = after_zones_of trap from slots.0; to_after_zones = after_zones_of trap to slots.1 }

abbrev ArmsAfterZones : ℕ → List SlotEnd → Type 0
ArmsAfterZones n [] = Unit {0}
ArmsAfterZones n (arm ∷ arms) = (n ≤ arm.slot) × ArmsAfterZones n arms

cons_after_zones : (n : ℕ) (arm : Option SlotEnd) (arms : List SlotEnd) → IfSome arm (λ a. n ≤ a.slot) → ArmsAfterZones n arms → ArmsAfterZones n (cons_option arm arms)
cons_after_zones n None arms p q = q
cons_after_zones n (Some arm) arms p q = (p, q)

arms_after_zones : (trap : TrapValue) (junction : ℕ) (ls : List Link) → IsTrap trap → AreLinks trap ls → ArmsAfterZones (length trap.zones) (filter_map (arm_at trap junction) ls)
arms_after_zones trap junction [] sound known = tt
arms_after_zones trap junction (links.Dock zone e s f ∷ ls) sound known = arms_after_zones trap junction ls sound known.1
arms_after_zones trap junction (links.Arm s e other ∷ ls) sound known =
    let row = row_of trap s sound known.0.0 in
    cons_after_zones (length trap.zones) (arm_at trap junction (links.Arm s e other)) (filter_map (arm_at trap junction) ls)
    (cond_both (junction == other) (Some s) None (λ o. IfSome (option_map (λ segment. slot_end trap segment e) o) (λ a. length trap.zones ≤ a.slot)) (λ _. end_after_zones trap s e row.begins row.some) (λ _. tt))
    (arms_after_zones trap junction ls sound known.1)

found_after_zones : (n : ℕ) (p : SlotEnd → Bool) (arms : List SlotEnd) (arm : SlotEnd) → ArmsAfterZones n arms → find p arms ≡ Some arm → n ≤ arm.slot
found_after_zones n p [] arm after_zones e = absurd cc
found_after_zones n p (first ∷ arms) arm after_zones e = elim (cases_Bool (p first)) [
  | inl here ↦ (let same : first ≡ arm = same_Some first arm (sym (cond-true (p first) (Some first) (find p arms) here) ∙ e) in subst (λ (a : SlotEnd). n ≤ a.slot) same after_zones.0)
  | inr later ↦ found_after_zones n p arms arm after_zones.1 (sym (cond-false (p first) (Some first) (find p arms) later) ∙ e)
]

two_arms : (crossed : ℕ) (from to : Option SlotEnd) (channel : Channel) → option_and_then (λ out. option_map (cross crossed out) to) from ≡ Some channel
    → (out : SlotEnd) × (into : SlotEnd) × (from ≡ Some out) × (to ≡ Some into) × (cross crossed out into ≡ channel)
two_arms crossed None to channel e = absurd cc
two_arms crossed (Some out) None channel e = absurd cc
two_arms crossed (Some out) (Some into) channel e = (out, into, refl, refl, same_Some (cross crossed out into) channel e)

unless_same : (b : Bool) (found : Option Channel) (channel : Channel) → cond b None found ≡ Some channel → (b ≡ false) × (found ≡ Some channel)
unless_same true found channel e = absurd cc
unless_same false found channel e = (refl, e)

crossed_there : (trap : TrapValue) (junction from to : ℕ) (channel : Channel) → cross_channel trap junction from to ≡ Some channel → junction < length trap.junctions
crossed_there trap junction from to channel e = elim (cases_lt junction (length trap.junctions)) [
  | inl there ↦ there
  | inr past ↦ absurd (none-some channel (sym (no_cross_channel trap junction from to past) ∙ e))
]

cross_ends : (trap : TrapValue) (junction from to : ℕ) (channel : Channel) → IsTrap trap → cross_channel trap junction from to ≡ Some channel → Slots trap channel from to
cross_ends trap junction from to channel sound e =
    let ends = crossing_ends trap junction from to channel e in
    let some : option_and_then (λ out. option_map (cross junction out) (arm_of trap junction to)) (arm_of trap junction from) ≡ Some channel = (unless_same (from == to) _ channel e).1 in
    let it = two_arms junction (arm_of trap junction from) (arm_of trap junction to) channel some in
    let after_zones : ArmsAfterZones (length trap.zones) (arms_of trap junction) = arms_after_zones trap junction (links_of trap) sound (links_known trap) in
    let out : length trap.zones ≤ it.0.slot = found_after_zones (length trap.zones) (λ (arm : SlotEnd). from == arm.slot) (arms_of trap junction) it.0 after_zones it.2 in
    let into : length trap.zones ≤ it.1.slot = found_after_zones (length trap.zones) (λ (arm : SlotEnd). to == arm.slot) (arms_of trap junction) it.1 after_zones it.3 in
    let at_from : it.0.slot ≡ channel.from.0 = ap (λ (c : Channel). c.from.0) it.4 in
    let at_to : it.1.slot ≡ channel.to.0 = ap (λ (c : Channel). c.to.0) it.4 in
    record { from_is = ends.0; to_is = ends.1; from_after_zones = omega (arith, out, at_from, ends.0); to_after_zones = omega (arith, into, at_to, ends.1) }

-- ---- one ion passes its guards

split_passes : (trap : TrapValue) (config : List (List Ion)) (zone count : ℕ) (end : End) (channel : Channel) (ion : ℕ) → IsTrap trap → count ≡ 1 → split_channel trap zone end ≡ Some channel → channel.to.0 < place_count trap
    → CanPass trap config ion channel.from.0 channel.to.0 → first_broken (split_guards trap config zone count (Some channel)) ≡ None
split_passes trap config zone count end channel ion sound single e below can =
    let ends = split_ends trap zone end channel sound e in
    let source : List Ion = list_at config channel.from.0 in
    let target : List Ion = list_at config channel.to.0 in
    let some : 1 ≤ length source = some_present ion source can.present in
    let holds : 1 ≤ limit_of trap channel.to.0 = slot_holds trap channel.to.0 sound ends.after_zones below in
    let counts : is_count_of count source ≡ true = and_from (nat_le 1 count) (nat_le count (length source)) (le-leb 1 count (omega (arith, single))) (le-leb count (length source) (omega (arith, single, some))) in
    five_pass (is_zone trap zone) true (is_count_of count source) (nat_le count (limit_of trap channel.to.0)) (is_empty target) rules.NoPlace rules.NoJoin rules.Index rules.Load rules.Occupied
    (zone_is trap zone ends.there) refl counts (le-leb count (limit_of trap channel.to.0) (omega (arith, single, holds))) (no_ion target (can.empty ends.after_zones))

move_passes : (trap : TrapValue) (config : List (List Ion)) (from to : ℕ) (channel : Channel) (ion : ℕ) → move_channel trap from to ≡ Some channel → IsWithin trap channel
    → CanPass trap config ion channel.from.0 channel.to.0 → first_broken (move_guards trap config from to (Some channel)) ≡ None
move_passes trap config from to channel ion e within can =
    let ends = move_ends trap from to channel e in
    let source : List Ion = list_at config channel.from.0 in
    let target : List Ion = list_at config channel.to.0 in
    let places : (is_slot trap from && is_slot trap to) ≡ true =
    and_from (is_slot trap from) (is_slot trap to) (slot_is trap from ends.from_after_zones (omega (arith, within.from, ends.from_is))) (slot_is trap to ends.to_after_zones (omega (arith, within.to, ends.to_is))) in
    four_pass (is_slot trap from && is_slot trap to) true (not (is_empty source)) (is_empty target) rules.NoPlace rules.NoJoin rules.Empty rules.Occupied
    places refl (some_ion source (some_present ion source can.present)) (no_ion target (can.empty (omega (arith, ends.to_after_zones, ends.to_is))))

cross_passes : (trap : TrapValue) (config : List (List Ion)) (junction from to : ℕ) (channel : Channel) (ion : ℕ) → IsTrap trap → cross_channel trap junction from to ≡ Some channel → IsWithin trap channel
    → CanPass trap config ion channel.from.0 channel.to.0 → first_broken (cross_guards trap config junction from to (Some channel)) ≡ None
cross_passes trap config junction from to channel ion sound e within can =
    let ends = cross_ends trap junction from to channel sound e in
    let source : List Ion = list_at config channel.from.0 in
    let target : List Ion = list_at config channel.to.0 in
    let one : length source ≡ 1 = can.alone (omega (arith, ends.from_after_zones, ends.from_is)) in
    let to_after_zones : length trap.zones ≤ channel.to.0 = omega (arith, ends.to_after_zones, ends.to_is) in
    let holds : 1 ≤ limit_of trap channel.to.0 = slot_holds trap channel.to.0 sound to_after_zones within.to in
    let places : (is_slot trap from && is_slot trap to) ≡ true =
    and_from (is_slot trap from) (is_slot trap to) (slot_is trap from ends.from_after_zones (omega (arith, within.from, ends.from_is))) (slot_is trap to ends.to_after_zones (omega (arith, within.to, ends.to_is))) in
    let all : (is_junction trap junction && (is_slot trap from && is_slot trap to)) ≡ true =
    and_from (is_junction trap junction) (is_slot trap from && is_slot trap to) (lt-ltb junction (length trap.junctions) (crossed_there trap junction from to channel e)) places in
    five_pass (is_junction trap junction && (is_slot trap from && is_slot trap to)) true (not (is_empty source)) (is_empty target) (nat_le (length source) (limit_of trap channel.to.0))
    rules.NoPlace rules.NoJoin rules.Empty rules.Occupied rules.Load
    all refl (some_ion source (omega (arith, one))) (no_ion target (can.empty to_after_zones)) (le-leb (length source) (limit_of trap channel.to.0) (omega (arith, one, holds)))

merge_passes : (trap : TrapValue) (config : List (List Ion)) (zone : ℕ) (end : End) (channel : Channel) (ion : ℕ) → IsTrap trap → merge_channel trap zone end ≡ Some channel
    → CanPass trap config ion channel.from.0 channel.to.0 → first_broken (merge_guards trap config zone (Some channel)) ≡ None
merge_passes trap config zone end channel ion sound e can =
    let ends = merge_ends trap zone end channel sound e in
    let source : List Ion = list_at config channel.from.0 in
    let target : List Ion = list_at config channel.to.0 in
    let one : length source ≡ 1 = can.alone ends.after_zones in
    let free : length target + 1 ≤ limit_of trap channel.to.0 = can.free (omega (arith, ends.is, ends.there)) in
    four_pass (is_zone trap zone) true (not (is_empty source)) (nat_le (length source + length target) (limit_of trap channel.to.0)) rules.NoPlace rules.NoJoin rules.Empty rules.Full
    (zone_is trap zone ends.there) refl (some_ion source (omega (arith, one))) (le-leb (length source + length target) (limit_of trap channel.to.0) (omega (arith, one, free)))

-- it passes its guards, and exactly one ion goes
pub passes_through : (setting : SettingValue) (config : List (List Ion)) (action : Action) (channel : Channel) (ion : ℕ) → IsTrap setting.trap → IsSingle action
    → channel_for setting.trap action ≡ Some channel → CanPass setting.trap config ion channel.from.0 channel.to.0 → Passes setting config action
passes_through setting config (kinds.Split zone end count) channel ion sound single e can =
    let within : IsWithin setting.trap channel = channel_within setting.trap (kinds.Split zone end count) channel sound e in
    subst (λ (c : Option Channel). first_broken (split_guards setting.trap config zone.0 count c) ≡ None) (sym e) (split_passes setting.trap config zone.0 count end channel ion sound single e within.to can)
passes_through setting config (kinds.Move from to) channel ion sound single e can =
    let within : IsWithin setting.trap channel = channel_within setting.trap (kinds.Move from to) channel sound e in
    subst (λ (c : Option Channel). first_broken (move_guards setting.trap config from.0 to.0 c) ≡ None) (sym e) (move_passes setting.trap config from.0 to.0 channel ion e within can)
passes_through setting config (kinds.Cross junction from to) channel ion sound single e can =
    let within : IsWithin setting.trap channel = channel_within setting.trap (kinds.Cross junction from to) channel sound e in
    subst (λ (c : Option Channel). first_broken (cross_guards setting.trap config junction.0 from.0 to.0 c) ≡ None) (sym e) (cross_passes setting.trap config junction.0 from.0 to.0 channel ion sound e within can)
passes_through setting config (kinds.Merge zone end) channel ion sound single e can =
    subst (λ (c : Option Channel). first_broken (merge_guards setting.trap config zone.0 c) ≡ None) (sym e) (merge_passes setting.trap config zone.0 end channel ion sound e can)
passes_through setting config (kinds.Swap zone index) channel ion sound single e can = absurd cc
passes_through setting config (kinds.Op zone op) channel ion sound single e can = absurd cc

-- so many ions as the action passes
passes_one : (trap : TrapValue) (config : List (List Ion)) (action : Action) (channel : Channel) (ion : ℕ) → IsTrap trap → IsSingle action
    → channel_for trap action ≡ Some channel → CanPass trap config ion channel.from.0 channel.to.0 → passing action (list_at config channel.from.0) ≡ 1
passes_one trap config (kinds.Split zone end count) channel ion sound single e can = single
passes_one trap config (kinds.Move from to) channel ion sound single e can =
    let ends = move_ends trap from.0 to.0 channel e in can.alone (omega (arith, ends.from_after_zones, ends.from_is))
passes_one trap config (kinds.Cross junction from to) channel ion sound single e can =
    let ends = cross_ends trap junction.0 from.0 to.0 channel sound e in can.alone (omega (arith, ends.from_after_zones, ends.from_is))
passes_one trap config (kinds.Merge zone end) channel ion sound single e can =
    let ends = merge_ends trap zone.0 end channel sound e in can.alone ends.after_zones
passes_one trap config (kinds.Swap zone index) channel ion sound single e can = absurd cc
passes_one trap config (kinds.Op zone op) channel ion sound single e can = absurd cc

pub after_through : (trap : TrapValue) (config : List (List Ion)) (action : Action) (channel : Channel) (ion : ℕ) → IsTrap trap → IsSingle action
    → channel_for trap action ≡ Some channel → CanPass trap config ion channel.from.0 channel.to.0 → after trap config action ≡ after_transfer config (transfer channel 1)
after_through trap config action channel ion sound single e can =
    after_any trap config action channel e ∙ ap (λ (count : ℕ). after_transfer config (transfer channel count)) (passes_one trap config action channel ion sound single e can)

-- ---- the two ends of a channel

led : (trap : TrapValue) (found : Option ℕ) (number : ℕ) (leading : Option Channel) (channel : Channel) → channel_at trap found ≡ leading → found ≡ Some number → slice_get (channels_of trap) number ≡ Some channel → leading ≡ Some channel
led trap found number leading channel leads is at = sym leads ∙ ap (channel_at trap) is ∙ at

apart_by : (trap : TrapValue) (number : ℕ) (kind : Kind) (junction : Option JunctionId) (channel : Channel) → IsTrap trap → slice_get (channels_of trap) number ≡ Some channel → number_by trap kind junction channel ≡ Some number
    → channel.from.0 ≢ channel.to.0
apart_by trap number channel_kinds.Split junction channel sound at is same =
    let ends = split_ends trap channel.from.0 channel.from_end channel sound (led trap _ number _ channel (split_leads trap channel.from.0 channel.from_end) is at) in
    absurd (omega (arith, ends.there, ends.after_zones, same))
apart_by trap number channel_kinds.Move junction channel sound at is same =
    let from : ℕ = channel.from.0 in
    let to : ℕ = channel.to.0 in
    let none : move_channel trap from to ≡ None = no_move_apart trap from to (ne_eqb to (from + 1) (λ e. absurd (omega (arith, e, same)))) (ne_eqb from (to + 1) (λ e. absurd (omega (arith, e, same)))) in
    none-some channel (sym none ∙ led trap _ number _ channel (move_leads trap from to) is at)
apart_by trap number channel_kinds.Cross None channel sound at is same = absurd cc
apart_by trap number channel_kinds.Cross (Some junction) channel sound at is same =
    let from : ℕ = channel.from.0 in
    let to : ℕ = channel.to.0 in
    let differ : (from == to) ≡ false = (unless_same (from == to) _ channel (led trap _ number _ channel (cross_leads trap junction.0 from to) is at)).0 in
    absurd (cc (differ, eq-eqb from to same))
apart_by trap number channel_kinds.Merge junction channel sound at is same =
    let ends = merge_ends trap channel.to.0 channel.to_end channel sound (led trap _ number _ channel (merge_leads trap channel.to.0 channel.to_end) is at) in
    absurd (omega (arith, ends.there, ends.after_zones, same))

-- a channel leads between two places, at least one of which is a slot
pub ends_apart : (trap : TrapValue) (number : ℕ) (channel : Channel) → IsTrap trap → slice_get (channels_of trap) number ≡ Some channel → channel.from.0 ≢ channel.to.0
ends_apart trap number channel sound at = apart_by trap number channel.kind channel.junction channel sound at (own_number trap number channel sound at)

-- ---- a swap

pub swap_passes : (setting : SettingValue) (config : List (List Ion)) (zone : PlaceId) (index : ℕ) → zone.0 < length setting.trap.zones → index + 1 < length (list_at config zone.0)
    → Passes setting config (kinds.Swap zone index)
swap_passes setting config zone index there h =
    two_pass (is_zone setting.trap zone.0) (nat_lt (index + 1) (length (list_at config zone.0))) rules.NoPlace rules.Index (zone_is setting.trap zone.0 there) (lt-ltb (index + 1) (length (list_at config zone.0)) h)
