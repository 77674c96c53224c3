-- An action that passes its guards: its ions have a channel and room, and no place comes above its limit.
use Rattle.std.proofs.Common.{◌≡◌, ◌≢◌, ℕ, zero, suc, ◌+◌, ◌<◌, ◌≤◌, List, [], ◌∷◌, length, Bool, true, false, not, ◌&&◌, cond, Some, None, refl, sym, ap, subst, ◌∙◌, inl, inr, arith, get_or-set_same, get_or-set_other, length-append, slice_index}
use Rattle.std.specs.Prelude.{◌⊎◌, All, Option, map, slice_index_or, swap, slice_set, slice_get, nat_le, nat_lt, option_map, ◌==◌}
use Rattle.std.specs.Option.{option_map_or, option_or}
use Rattle.std.proofs.lemmas.Bool.{cases_lt, leb-true, ltb-true, ltb-false, and_parts, cases_eq, eqb-true, not-true}
use Rattle.std.proofs.lemmas.Option.{same_Some, cond_some, slice_get_past}
use Rattle.std.proofs.lemmas.List.{length-set, length-reverse, length-drop, length-map, map-set, get_or-map}
use Rattle.std.proofs.lemmas.List.Elements.{All-tail}
use Rattle.std.proofs.Math.Seq.{map-set_same}
use Rattle.std.proofs.lemmas.List.Edits.{length-swap}
use Rattle.qc_base.specs.declared.ids.Ion.{Ion}
use Rattle.qc_base.specs.declared.ids.End.{End}
use Rattle.qc_base.specs.declared.ids.End.TheVariants.{A, B}
use Rattle.trap_parts.specs.Parts.{TrapValue}
use Rattle.trap_model.specs.Trap.{limit_of, load_of, slot_at, place_count, is_zone}
use Rattle.trap_parts.specs.Joins.{same_end, links_of, docked as docked_by, first_of, joined_slot, slot_end, first_slot, slots_of}
use Rattle.trap_model.specs.Channels.{channel as channel_of, merge, merge_channel, move_channel, same_segment}
use Rattle.trap_parts.specs.Build.{IsTrap}
use Rattle.trap_parts.specs.declared.port.Link.{Link}
use Rattle.trap_parts.specs.declared.port.Link.TheVariants as links
use Rattle.trap_model.specs.declared.slot.Slot.{Slot}
use Rattle.trap_parts.specs.declared.port.SlotEnd.{SlotEnd}
use Rattle.trap_parts.specs.declared.parts.ZonePart.{ZonePart}
use Rattle.trap_parts.specs.declared.parts.SegmentPart.{SegmentPart}
use Rattle.trap_model.specs.declared.channel.Channel.{Channel}
use Rattle.trap_parts.proofs.Known.{IsLink, AreLinks, links_known}
use Rattle.trap_model.proofs.Rows.{row_of}
use Rattle.ion_chain.specs.declared.transfer.Transfer.{Transfer}
use Rattle.ion_chain.specs.Passing.{leaving, left, joined}
use Rattle.ion_chain.specs.Transfer.{list_at, after_transfer}
use Rattle.ion_chain.specs.ChainValue.{ChainValue, ions_of, room_of, row_at}
use Rattle.ion_chain.proofs.Rows.{list_at-map, room_at-map}
use Rattle.ion_chain.proofs.Passed.{length-outward, length-left}
use Rattle.ion_chain.proofs.Transfers.{list_at-after_transfer}
use Rattle.step_rules.specs.declared.action.Action.{Action}
use Rattle.step_rules.specs.declared.action.Action.TheVariants as actions
use Rattle.step_rules.specs.declared.action.Rule.{Rule}
use Rattle.step_rules.specs.declared.action.Rule.TheVariants as rules
use Rattle.trap_model.specs.declared.channel.Kind.TheVariants.{Move}
use Rattle.step_rules.specs.ActionChannel.{channel_for, passing, transfer, IsWithin}
use Rattle.step_rules.specs.Guards.{guard, first_broken, is_empty, is_slot, is_junction, is_count_of, split_guards, move_guards, cross_guards, merge_guards, swap_guards, PassesTransport}
use Rattle.step_rules.specs.Steps.{after, after_passing}
use Rattle.step_rules.specs.Config.{ConfigValue, IsConfigOf}
use Rattle.step_rules.proofs.Effects.{moving_ends}
use Rattle.step_rules.proofs.Placements.{limit_small}

-- ---- what passed guards say

passed : (passes : Bool) (rest : Option Rule) (rule : Rule) → cond passes rest (Some rule) ≡ None → (passes ≡ true) × (rest ≡ None)
passed true rest rule e = (refl, e)
passed false rest rule e = absurd cc

two_passed : (a b : Bool) (p q : Rule) → first_broken (guard a p ∷ guard b q ∷ []) ≡ None → (a ≡ true) × (b ≡ true)
two_passed a b p q e = let first = passed a (first_broken (guard b q ∷ [])) p e in (first.0, (passed b None q first.1).0)

four_passed : (a b c d : Bool) (p q r s : Rule) → first_broken (guard a p ∷ guard b q ∷ guard c r ∷ guard d s ∷ []) ≡ None → (a ≡ true) × (b ≡ true) × (c ≡ true) × (d ≡ true)
four_passed a b c d p q r s e =
    let first = passed a (first_broken (guard b q ∷ guard c r ∷ guard d s ∷ [])) p e in
    let second = passed b (first_broken (guard c r ∷ guard d s ∷ [])) q first.1 in
    let last = two_passed c d r s second.1 in
    (first.0, second.0, last.0, last.1)

five_passed : (a b c d f : Bool) (p q r s t : Rule) → first_broken (guard a p ∷ guard b q ∷ guard c r ∷ guard d s ∷ guard f t ∷ []) ≡ None → (a ≡ true) × (b ≡ true) × (c ≡ true) × (d ≡ true) × (f ≡ true)
five_passed a b c d f p q r s t e =
    let first = passed a (first_broken (guard b q ∷ guard c r ∷ guard d s ∷ guard f t ∷ [])) p e in
    let rest = four_passed b c d f q r s t first.1 in
    (first.0, rest.0, rest.1, rest.2, rest.3)

none_there : (ions : List Ion) → is_empty ions ≡ true → length ions ≡ 0
none_there [] e = refl
none_there (ion ∷ ions) e = absurd cc

some_there : (ions : List Ion) → not (is_empty ions) ≡ true → 1 ≤ length ions
some_there [] e = absurd cc
some_there (ion ∷ ions) e = omega arith

-- ---- the slot that a zone's end is joined with is no zone

end_after_zones : (trap : TrapValue) (segment : ℕ) (f : End) → length trap.zones ≤ first_slot trap segment → 1 ≤ slots_of trap segment → length trap.zones ≤ (slot_end trap segment f).slot
end_after_zones trap segment A begins some = begins
end_after_zones trap segment B begins some = omega arith

slot_after_zones : (trap : TrapValue) (zone : ℕ) (end : End) (link : Link) (s : SlotEnd) → IsTrap trap → IsLink trap link → docked_by trap zone end link ≡ Some s → length trap.zones ≤ s.slot
slot_after_zones trap zone end (links.Arm segment e junction) s sound known is = absurd cc
slot_after_zones trap zone end (links.Dock other e segment f) s sound known is =
    let row = row_of trap segment sound known.1 in
    let same : slot_end trap segment f ≡ s = (cond_some (zone == other && same_end end e) (slot_end trap segment f) s is).1 in
    subst (λ (t : SlotEnd). length trap.zones ≤ t.slot) same (end_after_zones trap segment f row.begins row.some)

either : {X : Type 0} (a b : Option X) (x : X) → option_or a b ≡ Some x → (a ≡ Some x) ⊎ (b ≡ Some x)
either None b x e = inr e
either (Some y) b x e = inl e

links_after_zones : (trap : TrapValue) (zone : ℕ) (end : End) (ls : List Link) (s : SlotEnd) → IsTrap trap → AreLinks trap ls → first_of (docked_by trap zone end) ls ≡ Some s → length trap.zones ≤ s.slot
links_after_zones trap zone end [] s sound known e = absurd cc
links_after_zones trap zone end (link ∷ ls) s sound known e = elim (either (docked_by trap zone end link) (first_of (docked_by trap zone end) ls) s e) [
  | inl here ↦ slot_after_zones trap zone end link s sound known.0 here
  | inr there ↦ links_after_zones trap zone end ls s sound known.1 there
]

mapped : {X Y : Type 0} (f : X → Y) (o : Option X) (y : Y) → option_map f o ≡ Some y → (x : X) × (o ≡ Some x) × (f x ≡ y)
mapped f None y e = absurd cc
mapped f (Some x) y e = (x, refl, same_Some (f x) y e)

-- ---- a chain goes where the limit is the same, from slot to slot of a segment

load_same : (trap : TrapValue) (a b : Option Slot) → same_segment a b ≡ true → option_map_or (load_of trap) a 0 ≡ option_map_or (load_of trap) b 0
load_same trap None b e = absurd cc
load_same trap (Some s) None e = absurd cc
load_same trap (Some s) (Some t) e = ap (λ (n : ℕ). option_map_or (λ (segment : SegmentPart). segment.load) (slice_get trap.segments n) 0) (eqb-true s.segment t.segment e)

after_zones_of : (trap : TrapValue) (place : ℕ) → is_slot trap place ≡ true → length trap.zones ≤ place
after_zones_of trap place e = ltb-false place (length trap.zones) (not-true (is_zone trap place) (and_parts (not (is_zone trap place)) (nat_lt place (place_count trap)) e).0)

slot_limit : (trap : TrapValue) (place : ℕ) → length trap.zones ≤ place → limit_of trap place ≡ option_map_or (load_of trap) (slot_at trap place) 0
slot_limit trap place h = ap (λ (o : Option ZonePart). option_map_or (λ (zone : ZonePart). zone.capacity) o (option_map_or (load_of trap) (slot_at trap place) 0)) (slice_get_past trap.zones place h)

in_one_segment : (a : Bool) (b : Option Channel) (channel : Channel) → cond a b None ≡ Some channel → a ≡ true
in_one_segment true b channel e = refl
in_one_segment false b channel e = absurd cc

-- ---- the two ends of the channel

pub record MayPass (trap : TrapValue) (config : List (List Ion)) (channel : Channel) (count : ℕ) : Type 0 where
  pub apart : channel.from.0 ≢ channel.to.0
  pub enough : count ≤ length (list_at config channel.from.0)
  pub fits : length (list_at config channel.to.0) + count ≤ limit_of trap channel.to.0

apart_by : (config : List (List Ion)) (p q : ℕ) → 1 ≤ length (list_at config p) → length (list_at config q) ≡ 0 → p ≢ q
apart_by config p q some none e = absurd (omega (arith, some, none, ap (λ (r : ℕ). length (list_at config r)) e))

split_pass : (trap : TrapValue) (config : List (List Ion)) (zone count : ℕ) (channel : Channel) → first_broken (split_guards trap config zone count (Some channel)) ≡ None → MayPass trap config channel count
split_pass trap config zone count channel e =
    let source : List Ion = list_at config channel.from.0 in
    let target : List Ion = list_at config channel.to.0 in
    let all = five_passed (is_zone trap zone) true (is_count_of count source) (nat_le count (limit_of trap channel.to.0)) (is_empty target) rules.NoPlace rules.NoJoin rules.Index rules.Load rules.Occupied e in
    let counts = and_parts (nat_le 1 count) (nat_le count (length source)) all.2 in
    let some : 1 ≤ count = leb-true 1 count counts.0 in
    let enough : count ≤ length (list_at config channel.from.0) = leb-true count (length (list_at config channel.from.0)) counts.1 in
    let load : count ≤ limit_of trap channel.to.0 = leb-true count (limit_of trap channel.to.0) all.3 in
    let none : length (list_at config channel.to.0) ≡ 0 = none_there target all.4 in
    record { apart = apart_by config channel.from.0 channel.to.0 (omega arith) none; enough = enough; fits = omega arith }

move_pass : (trap : TrapValue) (config : List (List Ion)) (from to : ℕ) (channel : Channel) → first_broken (move_guards trap config from to (Some channel)) ≡ None → move_channel trap from to ≡ Some channel
    → length (list_at config channel.from.0) ≤ limit_of trap channel.from.0 → MayPass trap config channel (length (list_at config channel.from.0))
move_pass trap config from to channel e is within =
    let all = four_passed (is_slot trap from && is_slot trap to) true (not (is_empty (list_at config channel.from.0))) (is_empty (list_at config channel.to.0)) rules.NoPlace rules.NoJoin rules.Empty rules.Occupied e in
    let slots = and_parts (is_slot trap from) (is_slot trap to) all.0 in
    let ends = moving_ends trap from to channel is in
    let some : 1 ≤ length (list_at config channel.from.0) = some_there (list_at config channel.from.0) all.2 in
    let none : length (list_at config channel.to.0) ≡ 0 = none_there (list_at config channel.to.0) all.3 in
    let one : same_segment (slot_at trap from) (slot_at trap to) ≡ true = in_one_segment (same_segment (slot_at trap from) (slot_at trap to)) (cond (to == from + 1) (Some (channel_of Move from B to A None)) (cond (from == to + 1) (Some (channel_of Move from A to B None)) None)) channel is in
    let same : limit_of trap from ≡ limit_of trap to =
    slot_limit trap from (after_zones_of trap from slots.0) ∙ load_same trap (slot_at trap from) (slot_at trap to) one ∙ sym (slot_limit trap to (after_zones_of trap to slots.1)) in
    let same_ends : limit_of trap channel.from.0 ≡ limit_of trap channel.to.0 = sym (ap (limit_of trap) ends.0) ∙ same ∙ ap (limit_of trap) ends.1 in
    record { apart = apart_by config channel.from.0 channel.to.0 some none; enough = omega arith; fits = omega arith }

cross_pass : (trap : TrapValue) (config : List (List Ion)) (junction from to : ℕ) (channel : Channel) → first_broken (cross_guards trap config junction from to (Some channel)) ≡ None → MayPass trap config channel (length (list_at config channel.from.0))
cross_pass trap config junction from to channel e =
    let source : List Ion = list_at config channel.from.0 in
    let target : List Ion = list_at config channel.to.0 in
    let all = five_passed (is_junction trap junction && (is_slot trap from && is_slot trap to)) true (not (is_empty source)) (is_empty target) (nat_le (length source) (limit_of trap channel.to.0))
    rules.NoPlace rules.NoJoin rules.Empty rules.Occupied rules.Load e in
    let some : 1 ≤ length (list_at config channel.from.0) = some_there source all.2 in
    let none : length (list_at config channel.to.0) ≡ 0 = none_there target all.3 in
    let load : length (list_at config channel.from.0) ≤ limit_of trap channel.to.0 = leb-true (length (list_at config channel.from.0)) (limit_of trap channel.to.0) all.4 in
    record { apart = apart_by config channel.from.0 channel.to.0 some none; enough = omega arith; fits = omega arith }

merge_pass : (trap : TrapValue) (config : List (List Ion)) (zone : ℕ) (end : End) (channel : Channel) → IsTrap trap → first_broken (merge_guards trap config zone (Some channel)) ≡ None → merge_channel trap zone end ≡ Some channel
    → MayPass trap config channel (length (list_at config channel.from.0))
merge_pass trap config zone end channel sound e is =
    let source : List Ion = list_at config channel.from.0 in
    let target : List Ion = list_at config channel.to.0 in
    let all = four_passed (is_zone trap zone) true (not (is_empty source)) (nat_le (length source + length target) (limit_of trap channel.to.0)) rules.NoPlace rules.NoJoin rules.Empty rules.Full e in
    let slot = mapped (merge zone end) (joined_slot trap zone end) channel is in
    let from : slot.0.slot ≡ channel.from.0 = ap (λ (x : Channel). x.from.0) slot.2 in
    let to : zone ≡ channel.to.0 = ap (λ (x : Channel). x.to.0) slot.2 in
    let after_zones : length trap.zones ≤ slot.0.slot = links_after_zones trap zone end (links_of trap) slot.0 sound (links_known trap) slot.1 in
    let in_front : zone < length trap.zones = ltb-true zone (length trap.zones) all.0 in
    let room : length (list_at config channel.from.0) + length (list_at config channel.to.0) ≤ limit_of trap channel.to.0 = leb-true (length (list_at config channel.from.0) + length (list_at config channel.to.0)) (limit_of trap channel.to.0) all.3 in
    record { apart = λ same. absurd (omega (arith, from, to, after_zones, in_front, same)); enough = omega arith; fits = omega arith }

pub may_pass : (trap : TrapValue) (config : List (List Ion)) (action : Action) (channel : Channel) → IsTrap trap → length (list_at config channel.from.0) ≤ limit_of trap channel.from.0 → PassesTransport trap config action
    → channel_for trap action ≡ Some channel → MayPass trap config channel (passing action (list_at config channel.from.0))
may_pass trap config (actions.Split zone end count) channel sound within passes e =
    split_pass trap config zone.0 count channel (subst (λ (channel : Option Channel). first_broken (split_guards trap config zone.0 count channel) ≡ None) e passes)
may_pass trap config (actions.Move from to) channel sound within passes e =
    move_pass trap config from.0 to.0 channel (subst (λ (channel : Option Channel). first_broken (move_guards trap config from.0 to.0 channel) ≡ None) e passes) e within
may_pass trap config (actions.Cross junction from to) channel sound within passes e =
    cross_pass trap config junction.0 from.0 to.0 channel (subst (λ (channel : Option Channel). first_broken (cross_guards trap config junction.0 from.0 to.0 channel) ≡ None) e passes)
may_pass trap config (actions.Merge zone end) channel sound within passes e =
    merge_pass trap config zone.0 end channel sound (subst (λ (channel : Option Channel). first_broken (merge_guards trap config zone.0 channel) ≡ None) e passes) e
may_pass trap config (actions.Swap zone index) channel sound within passes e = absurd cc
may_pass trap config (actions.Op zone op) channel sound within passes e = absurd cc

pub after_through : (trap : TrapValue) (config : List (List Ion)) (action : Action) (channel : Channel) → channel_for trap action ≡ Some channel → after trap config action ≡ after_passing config action channel
after_through trap config (actions.Split zone end count) channel e = ap (λ (channel : Option Channel). option_map_or (after_passing config (actions.Split zone end count)) channel config) e
after_through trap config (actions.Move from to) channel e = ap (λ (channel : Option Channel). option_map_or (after_passing config (actions.Move from to)) channel config) e
after_through trap config (actions.Cross junction from to) channel e = ap (λ (channel : Option Channel). option_map_or (after_passing config (actions.Cross junction from to)) channel config) e
after_through trap config (actions.Merge zone end) channel e = ap (λ (channel : Option Channel). option_map_or (after_passing config (actions.Merge zone end)) channel config) e
after_through trap config (actions.Swap zone index) channel e = absurd cc
after_through trap config (actions.Op zone op) channel e = absurd cc

-- ---- no place comes above its limit

length-joined : (into : End) (coming ions : List Ion) → length (joined into coming ions) ≡ length ions + length coming
length-joined into coming ions = rw (length-outward, length-append, length-outward, length-reverse) refl

length-leaving : (end : End) (count : ℕ) (ions : List Ion) → count ≤ length ions → length (leaving end count ions) ≡ count
length-leaving end count ions h = rw (length-drop, length-outward) (omega arith)

-- so many ions in each place, each at most its limit
abbrev pub AreWithin : TrapValue → List (List Ion) → Type 0
AreWithin trap config = (place : ℕ) → place < place_count trap → length (list_at config place) ≤ limit_of trap place

pub within_passing : (trap : TrapValue) (config : List (List Ion)) (channel : Channel) (count : ℕ) → AreWithin trap config → channel.from.0 < length config → channel.to.0 < length config → MayPass trap config channel count
    → AreWithin trap (after_transfer config (transfer channel count))
within_passing trap config channel count within in_from in_to may place h =
    let source : List Ion = list_at config channel.from.0 in
    let gone : List Ion = left channel.from_end count source in
    let come : List Ion = joined channel.to_end (leaving channel.from_end count source) (list_at config channel.to.0) in
    elim (cases_eq place channel.from.0) [
      | inl same ↦ (let at : list_at (after_transfer config (transfer channel count)) place ≡ gone =
          ap (list_at (after_transfer config (transfer channel count))) same ∙ get_or-set_other (slice_set config channel.from.0 gone) channel.to.0 channel.from.0 come [] may.apart ∙ get_or-set_same config channel.from.0 gone [] in_from in
          omega (arith, ap length at, length-left channel.from_end count source, within place h, ap (λ (p : ℕ). length (list_at config p)) same))
      | inr other ↦ elim (cases_eq place channel.to.0) [
        | inl same ↦ (let at : list_at (after_transfer config (transfer channel count)) place ≡ come =
            ap (list_at (after_transfer config (transfer channel count))) same ∙ get_or-set_same (slice_set config channel.from.0 gone) channel.to.0 come [] (omega (arith, in_to, length-set config channel.from.0 gone)) in
            omega (arith, ap length at, length-joined channel.to_end (leaving channel.from_end count source) (list_at config channel.to.0), length-leaving channel.from_end count source may.enough, may.fits, ap (limit_of trap) same))
        | inr apart ↦ (let at : list_at (after_transfer config (transfer channel count)) place ≡ list_at config place =
            list_at-after_transfer config (transfer channel count) place (λ e. other (sym e)) (λ e. apart (sym e)) in
            omega (arith, ap length at, within place h))
      ]
    ]

pub within_swap : (trap : TrapValue) (config : List (List Ion)) (zone index : ℕ) → AreWithin trap config → zone < length config → AreWithin trap (slice_set config zone (swap (list_at config zone) index (index + 1)))
within_swap trap config zone index within in_zone place h =
    let new : List Ion = swap (list_at config zone) index (index + 1) in
    elim (cases_eq place zone) [
      | inl same ↦ (let at : list_at (slice_set config zone new) place ≡ new = ap (list_at (slice_set config zone new)) same ∙ get_or-set_same config zone new [] in_zone in
          omega (arith, ap length at, length-swap (list_at config zone) index (index + 1), within place h, ap (λ (p : ℕ). length (list_at config p)) same))
      | inr other ↦ (let at : list_at (slice_set config zone new) place ≡ list_at config place = get_or-set_other config zone place new [] other in omega (arith, ap length at, within place h))
    ]

-- the configuration after ions went through a channel, and after a swap
pub kept_passing : (trap : TrapValue) (old new : ConfigValue) (channel : Channel) (count : ℕ) → IsConfigOf trap old → channel.from.0 < place_count trap → channel.to.0 < place_count trap → MayPass trap old.lists channel count
    → new.lists ≡ after_transfer old.lists (transfer channel count) → new.rooms ≡ old.rooms → IsConfigOf trap new
kept_passing trap old new channel count config in_from in_to may lists rooms =
    let source : List Ion = list_at old.lists channel.from.0 in
    let gone : List Ion = left channel.from_end count source in
    let come : List Ion = joined channel.to_end (leaving channel.from_end count source) (list_at old.lists channel.to.0) in
    record {
      places = ap length lists ∙ length-set (slice_set old.lists channel.from.0 gone) channel.to.0 come ∙ length-set old.lists channel.from.0 gone ∙ config.places;
      within = subst (AreWithin trap) (sym lists) (within_passing trap old.lists channel count config.within (omega (arith, in_from, config.places)) (omega (arith, in_to, config.places)) may);
      room = subst (λ (r : List ℕ). (place : ℕ) → place < place_count trap → limit_of trap place ≤ slice_index r place) (sym rooms) config.room;
    }

pub kept_swap : (trap : TrapValue) (old new : ConfigValue) (zone index : ℕ) → IsConfigOf trap old → zone < place_count trap → new.lists ≡ slice_set old.lists zone (swap (list_at old.lists zone) index (index + 1)) → new.rooms ≡ old.rooms → IsConfigOf trap new
kept_swap trap old new zone index config in_zone lists rooms = record {
  places = ap length lists ∙ length-set old.lists zone (swap (list_at old.lists zone) index (index + 1)) ∙ config.places;
  within = subst (AreWithin trap) (sym lists) (within_swap trap old.lists zone index config.within (omega (arith, in_zone, config.places)));
  room = subst (λ (r : List ℕ). (place : ℕ) → place < place_count trap → limit_of trap place ≤ slice_index r place) (sym rooms) config.room;
}

-- what passed guards say of a swap
pub swap_passed : (trap : TrapValue) (config : List (List Ion)) (zone index : ℕ) → first_broken (swap_guards trap config zone index) ≡ None → (zone < length trap.zones) × (index + 1 < length (list_at config zone))
swap_passed trap config zone index e =
    let all = two_passed (is_zone trap zone) (nat_lt (index + 1) (length (list_at config zone))) rules.NoPlace rules.Index e in
    (ltb-true zone (length trap.zones) all.0, ltb-true (index + 1) (length (list_at config zone)) all.1)

-- ---- chains that pass

-- a limit is small
load_small : (trap : TrapValue) (segments : List SegmentPart) (k : ℕ) → All (λ segment. (1 ≤ segment.load) × (segment.load ≤ 16)) segments → option_map_or (λ (segment : SegmentPart). segment.load) (slice_get segments k) 0 ≤ 16
load_small trap [] k small = omega arith
load_small trap (segment ∷ segments) zero small = (small 0 segment (omega arith)).1
load_small trap (segment ∷ segments) (suc k) small =
    let P : SegmentPart → Type 0 = λ s. (1 ≤ s.load) × (s.load ≤ 16) in
    load_small trap segments k (All-tail P segment segments small)

slot_small : (trap : TrapValue) (slot : Option Slot) → IsTrap trap → option_map_or (load_of trap) slot 0 ≤ 16
slot_small trap None sound = omega arith
slot_small trap (Some s) sound = load_small trap trap.segments s.segment sound.loads

pub any_limit_small : (trap : TrapValue) (place : ℕ) → IsTrap trap → limit_of trap place ≤ 32
any_limit_small trap place sound = elim (cases_lt place (length trap.zones)) [
  | inl zone ↦ limit_small trap place sound zone
  | inr slot ↦ omega (arith, slot_limit trap place slot, slot_small trap (slot_at trap place) sound)
]

pub record MayPerform (rows : List ChainValue) (t : Transfer) : Type 0 where
  pub from : t.from.0 < length rows
  pub to : t.to.0 < length rows
  pub apart : t.from.0 ≢ t.to.0
  pub enough : t.count ≤ length (row_at rows t.from.0).ions
  pub spare : t.count ≤ (row_at rows t.to.0).spare

abbrev pub places_of : List ChainValue → ConfigValue
places_of rows = record { lists = map ions_of rows; rooms = map room_of rows }

may_transfer : (trap : TrapValue) (rows : List ChainValue) (channel : Channel) (count : ℕ) → IsConfigOf trap (places_of rows) → IsWithin trap channel → MayPass trap (map ions_of rows) channel count → MayPerform rows (transfer channel count)
may_transfer trap rows channel count config within may =
    let places : length rows ≡ place_count trap = sym (length-map rows ions_of) ∙ config.places in
    record {
      from = omega (arith, within.from, places);
      to = omega (arith, within.to, places);
      apart = may.apart;
      enough = omega (arith, may.enough, ap length (list_at-map rows channel.from.0));
      spare = omega (arith, may.fits, ap length (list_at-map rows channel.to.0), room_at-map rows channel.to.0, config.room channel.to.0 within.to);
    }

pub may_perform : (trap : TrapValue) (rows : List ChainValue) (channel : Channel) (count : ℕ) (t : Transfer) → t ≡ transfer channel count → IsConfigOf trap (places_of rows) → IsWithin trap channel → MayPass trap (map ions_of rows) channel count → MayPerform rows t
may_perform trap rows channel count t is config within may = subst (MayPerform rows) (sym is) (may_transfer trap rows channel count config within may)

-- ---- a chain with two ions exchanged

pub swapped_lists : (rows : List ChainValue) (zone index : ℕ) (row new : ChainValue) → zone < length rows → row ≡ slice_index_or rows zone row → new.ions ≡ swap row.ions index (index + 1)
    → map ions_of (slice_set rows zone new) ≡ slice_set (map ions_of rows) zone (swap (list_at (map ions_of rows) zone) index (index + 1))
swapped_lists rows zone index row new within read is =
    let old : list_at (map ions_of rows) zone ≡ row.ions = get_or-map ions_of rows zone row [] within ∙ ap ions_of (sym read) in
    map-set ions_of rows zone new ∙ ap (slice_set (map ions_of rows) zone) (is ∙ ap (λ (l : List Ion). swap l index (index + 1)) (sym old))

pub swapped_rooms : (rows : List ChainValue) (zone : ℕ) (row new : ChainValue) → row ≡ slice_index_or rows zone row → room_of new ≡ room_of row → map room_of (slice_set rows zone new) ≡ map room_of rows
swapped_rooms rows zone row new read same = map-set_same room_of rows zone new row (same ∙ ap room_of read)
