-- The channels of a trap in order, and the number of each.
use Rattle.std.specs.Prelude.{ℕ, ◌+◌, ◌-◌, ◌<◌, ◌==◌, All, Bool, true, false, ◌&&◌, List, [], ◌∷◌, ◌++◌, length, find, Option, None, Some, slice_get, if◌then◌else◌}
use Rattle.std.specs.Option.{option_map, option_and_then}
use Rattle.std.specs.List.{flat_map, range_with_len, position_from}
use Rattle.qc_base.specs.declared.ids.End.{End}
use Rattle.qc_base.specs.declared.ids.End.TheVariants.{A, B}
use Rattle.qc_base.specs.declared.ids.JunctionId.{JunctionId}
use Rattle.trap_parts.specs.declared.parts.SegmentPart.{SegmentPart}
use Rattle.trap_model.specs.declared.channel.Kind.{Kind}
use Rattle.trap_model.specs.declared.channel.Kind.TheVariants.{Split, Move, Cross, Merge}
use Rattle.trap_model.specs.declared.channel.Channel.{Channel}
use Rattle.trap_parts.specs.declared.port.Link.{Link}
use Rattle.trap_parts.specs.declared.port.Link.TheVariants as links
use Rattle.trap_model.specs.declared.slot.Slot.{Slot}
use Rattle.trap_parts.specs.declared.port.SlotEnd.{SlotEnd}
use Rattle.trap_parts.specs.Parts.{TrapValue}
use Rattle.trap_model.specs.Trap.{place_count, slot_at}
use Rattle.trap_parts.specs.Joins.{same_end, links_of, slot_end, joined_slot, arms_of}

abbrev pub splits : Kind → Bool
splits Split = true
splits _ = false

abbrev pub merges : Kind → Bool
merges Merge = true
merges _ = false

abbrev pub moves : Kind → Bool
moves Move = true
moves _ = false

-- the channel of that kind from one end of a place to another
abbrev pub channel : Kind → ℕ → End → ℕ → End → Option JunctionId → Channel
channel kind from from_end to to_end junction =
    record {
      kind = kind;
      from = record { 0 = from };
      from_end = from_end;
      to = record { 0 = to };
      to_end = to_end;
      junction = junction;
    }

abbrev pub split : ℕ → End → SlotEnd → Channel
split zone end slot = channel Split zone end slot.slot slot.end None

abbrev pub merge : ℕ → End → SlotEnd → Channel
merge zone end slot = channel Merge slot.slot slot.end zone end None

abbrev pub cross : ℕ → SlotEnd → SlotEnd → Channel
cross junction from to = channel Cross from.slot from.end to.slot to.end (Some (record { 0 = junction }))

-- for a join of a zone with a segment: split from the zone, then merge into it
abbrev pub dock_channels : TrapValue → Link → List Channel
dock_channels trap (links.Dock zone e segment f) =
    split zone e (slot_end trap segment f) ∷ merge zone e (slot_end trap segment f) ∷ []
dock_channels trap (links.Arm segment e junction) = []

-- from a slot to the next, then back
abbrev pub move_channels : ℕ → List Channel
move_channels place = channel Move place B (place + 1) A None ∷ channel Move (place + 1) A place B None ∷ []

-- for each segment, whose first slot is at that place, and each of its slots but the last
abbrev pub moves_from : ℕ → List SegmentPart → List Channel
moves_from place [] = []
moves_from place (segment ∷ segments) =
    flat_map move_channels (range_with_len place (segment.slots - 1))
    ++ moves_from (place + segment.slots) segments

-- from one arm to another
abbrev pub cross_channels : ℕ → SlotEnd → SlotEnd → List Channel
cross_channels junction from to = if from.slot == to.slot then [] else cross junction from to ∷ []

-- for each ordered pair of different arms of a junction
abbrev pub crossings_of : TrapValue → ℕ → List Channel
crossings_of trap junction =
    flat_map (λ from. flat_map (cross_channels junction from) (arms_of trap junction)) (arms_of trap junction)

-- the channels in order: of the joins with zones, of the segments, of the junctions
abbrev pub channels_of : TrapValue → List Channel
channels_of trap =
    flat_map (dock_channels trap) (links_of trap) ++ moves_from (length trap.zones) trap.segments
    ++ flat_map (crossings_of trap) (range_with_len 0 (length trap.junctions))

-- both places of each channel are there
abbrev pub AreWithin : TrapValue → List Channel → Type 0
AreWithin trap channels = All (λ c. (c.from.0 < place_count trap) × (c.to.0 < place_count trap)) channels

abbrev pub is_split : ℕ → End → Channel → Bool
is_split zone end c = splits c.kind && (zone == c.from.0 && same_end end c.from_end)

abbrev pub is_merge : ℕ → End → Channel → Bool
is_merge zone end c = merges c.kind && (zone == c.to.0 && same_end end c.to_end)

abbrev pub is_move : ℕ → ℕ → Channel → Bool
is_move from to c = moves c.kind && (from == c.from.0 && to == c.to.0)

abbrev pub is_that : ℕ → Option JunctionId → Bool
is_that junction None = false
is_that junction (Some other) = junction == other.0

-- only a crossing has a junction
abbrev pub is_through : ℕ → Channel → Bool
is_through junction c = is_that junction c.junction

abbrev pub is_cross : ℕ → ℕ → ℕ → Channel → Bool
is_cross junction from to c = is_through junction c && (from == c.from.0 && to == c.to.0)

-- the number of the channel that splits off by that end of the zone, and of the one that merges into it
abbrev pub split_at : TrapValue → ℕ → End → Option ℕ
split_at trap zone end = position_from (is_split zone end) 0 (channels_of trap)

abbrev pub merge_at : TrapValue → ℕ → End → Option ℕ
merge_at trap zone end = position_from (is_merge zone end) 0 (channels_of trap)

-- of the one from slot to slot in a segment, and through a junction
abbrev pub move_of : TrapValue → ℕ → ℕ → Option ℕ
move_of trap from to = position_from (is_move from to) 0 (channels_of trap)

abbrev pub cross_of : TrapValue → ℕ → ℕ → ℕ → Option ℕ
cross_of trap junction from to = position_from (is_cross junction from to) 0 (channels_of trap)

-- the channel of a number
abbrev pub channel_at : TrapValue → Option ℕ → Option Channel
channel_at trap number = option_and_then (λ k. slice_get (channels_of trap) k) number

-- the split by that end of the zone, where the end has a segment; and the merge
abbrev pub split_channel : TrapValue → ℕ → End → Option Channel
split_channel trap zone end = option_map (split zone end) (joined_slot trap zone end)

abbrev pub merge_channel : TrapValue → ℕ → End → Option Channel
merge_channel trap zone end = option_map (merge zone end) (joined_slot trap zone end)

abbrev pub same_segment : Option Slot → Option Slot → Bool
same_segment (Some slot) (Some other) = slot.segment == other.segment
same_segment (Some slot) None = false
same_segment None other = false

-- the move between slots, where they are neighbours in one segment
abbrev pub move_channel : TrapValue → ℕ → ℕ → Option Channel
move_channel trap from to =
    if same_segment (slot_at trap from) (slot_at trap to)
    then (if to == from + 1 then Some (channel Move from B to A None)
    else if from == to + 1 then Some (channel Move from A to B None) else None)
    else None

-- the arm of a junction at that slot
abbrev pub arm_of : TrapValue → ℕ → ℕ → Option SlotEnd
arm_of trap junction slot = find (λ arm. slot == arm.slot) (arms_of trap junction)

-- the crossing from slot to slot, where they are two different arms of the junction
abbrev pub cross_channel : TrapValue → ℕ → ℕ → ℕ → Option Channel
cross_channel trap junction from to =
    if from == to then None
    else option_and_then (λ out. option_map (cross junction out) (arm_of trap junction to))
    (arm_of trap junction from)

-- the number that is looked up for a channel of this kind and junction, by its ends
abbrev pub number_by : TrapValue → Kind → Option JunctionId → Channel → Option ℕ
number_by trap Split junction c = split_at trap c.from.0 c.from_end
number_by trap Move junction c = move_of trap c.from.0 c.to.0
number_by trap Cross None c = None
number_by trap Cross (Some junction) c = cross_of trap junction.0 c.from.0 c.to.0
number_by trap Merge junction c = merge_at trap c.to.0 c.to_end

abbrev pub number_of : TrapValue → Channel → Option ℕ
number_of trap c = number_by trap c.kind c.junction c
