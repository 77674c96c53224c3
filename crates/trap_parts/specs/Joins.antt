-- What the joins of a trap join, whichever order they are written in.
use Rattle.std.specs.Prelude.{ℕ, ◌+◌, ◌-◌, ◌==◌, Bool, true, false, ◌&&◌, List, [], ◌∷◌, Option, None, Some, slice_get, slice_index, length, if◌then◌else◌}
use Rattle.std.specs.Option.{option_map, option_or, option_and_then, option_map_or}
use Rattle.std.specs.List.{filter_map, position_from}
use Rattle.std.specs.Str.{bytes_eq}
use Rattle.qc_base.specs.declared.ids.End.{End}
use Rattle.qc_base.specs.declared.ids.End.TheVariants.{A, B}
use Rattle.trap_parts.specs.declared.parts.SegmentPart.{SegmentPart}
use Rattle.trap_parts.specs.declared.parts.JoinPart.{JoinPart}
use Rattle.trap_parts.specs.declared.port.Port.{Port}
use Rattle.trap_parts.specs.declared.port.Port.TheVariants as ports
use Rattle.trap_parts.specs.declared.port.Link.{Link}
use Rattle.trap_parts.specs.declared.port.Link.TheVariants as links
use Rattle.trap_parts.specs.declared.port.SlotEnd.{SlotEnd}
use Rattle.trap_parts.specs.Parts.{TrapValue, junction_named}

abbrev pub same_end : End → End → Bool
same_end A A = true
same_end B B = true
same_end A B = false
same_end B A = false

-- the zone of that name, the segment of that name
abbrev pub zone_named : TrapValue → List ℕ → Option ℕ
zone_named trap name = position_from (λ zone. bytes_eq zone.name name) 0 trap.zones

abbrev pub segment_named : TrapValue → List ℕ → Option ℕ
segment_named trap name = position_from (λ segment. bytes_eq segment.name name) 0 trap.segments

-- with an end, an end of the zone or segment of that name; without one, the junction
abbrev pub port_named : TrapValue → List ℕ → Option End → Option Port
port_named trap name (Some end) =
    option_or (option_map (λ zone. ports.Zone zone end) (zone_named trap name))
    (option_map (λ segment. ports.Segment segment end) (segment_named trap name))
port_named trap name None = option_map (λ junction. ports.Junction junction) (junction_named trap name)

-- a zone's end with a segment's end, or a segment's end with a junction
abbrev pub link_of : Port → Port → Option Link
link_of (ports.Zone zone e) (ports.Segment segment f) = Some (links.Dock zone e segment f)
link_of (ports.Segment segment f) (ports.Zone zone e) = Some (links.Dock zone e segment f)
link_of (ports.Segment segment e) (ports.Junction junction) = Some (links.Arm segment e junction)
link_of (ports.Junction junction) (ports.Segment segment e) = Some (links.Arm segment e junction)
link_of (ports.Zone zone e) (ports.Zone other f) = None
link_of (ports.Zone zone e) (ports.Junction junction) = None
link_of (ports.Segment segment e) (ports.Segment other f) = None
link_of (ports.Junction junction) (ports.Zone zone e) = None
link_of (ports.Junction junction) (ports.Junction other) = None

-- what a join joins, where its names are known and of the right sorts
abbrev pub link_at : TrapValue → JoinPart → Option Link
link_at trap join =
    option_and_then
    (λ first. option_and_then (link_of first) (port_named trap join.second.name join.second.end))
    (port_named trap join.first.name join.first.end)

-- the joins in file order
abbrev pub links_of : TrapValue → List Link
links_of trap = filter_map (link_at trap) trap.joins

-- the ends that a join takes; a junction has none
abbrev pub ends_of : Link → List Port
ends_of (links.Dock zone e segment f) = ports.Zone zone e ∷ ports.Segment segment f ∷ []
ends_of (links.Arm segment e junction) = ports.Segment segment e ∷ []

-- the place of the first slot of each segment
abbrev pub firsts_from : ℕ → List SegmentPart → List ℕ
firsts_from place [] = []
firsts_from place (segment ∷ segments) = place ∷ firsts_from (place + segment.slots) segments

abbrev pub first_slot : TrapValue → ℕ → ℕ
first_slot trap segment = slice_index (firsts_from (length trap.zones) trap.segments) segment

-- how many slots the segment has
abbrev pub slots_of : TrapValue → ℕ → ℕ
slots_of trap segment = option_map_or (λ part. part.slots) (slice_get trap.segments segment) 0

-- a segment's end a is end a of its first slot, its end b is end b of its last
abbrev pub slot_end : TrapValue → ℕ → End → SlotEnd
slot_end trap segment A = record { slot = first_slot trap segment; end = A }
slot_end trap segment B = record { slot = first_slot trap segment + slots_of trap segment - 1; end = B }

-- the slot's end that a zone's end is joined with, where this join does it
abbrev pub docked : TrapValue → ℕ → End → Link → Option SlotEnd
docked trap zone end (links.Dock other e segment f) =
    if zone == other && same_end end e then Some (slot_end trap segment f) else None
docked trap zone end (links.Arm segment e junction) = None

-- the first value among the members that have one
abbrev pub first_of : {X Y : Type 0} → (X → Option Y) → List X → Option Y
first_of f [] = None
first_of f (x ∷ xs) = option_or (f x) (first_of f xs)

-- the slot's end that a zone's end is joined with
abbrev pub joined_slot : TrapValue → ℕ → End → Option SlotEnd
joined_slot trap zone end = first_of (docked trap zone end) (links_of trap)

-- the segment that a join has at a junction, and by which end
abbrev pub segment_at : ℕ → Link → Option ℕ
segment_at junction (links.Dock zone e segment f) = None
segment_at junction (links.Arm segment e other) = if junction == other then Some segment else None

abbrev pub segment_end : Link → End
segment_end (links.Dock zone e segment f) = f
segment_end (links.Arm segment e junction) = e

abbrev pub arm_at : TrapValue → ℕ → Link → Option SlotEnd
arm_at trap junction link =
    option_map (λ segment. slot_end trap segment (segment_end link)) (segment_at junction link)

-- the arms of a junction as the slots' ends that it joins, in file order
abbrev pub arms_of : TrapValue → ℕ → List SlotEnd
arms_of trap junction = filter_map (arm_at trap junction) (links_of trap)
