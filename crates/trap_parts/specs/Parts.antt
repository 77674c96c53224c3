-- A trap as its lists of parts.
use Rattle.std.specs.Prelude.{ℕ, ◌+◌, List, [], ◌∷◌, ◌++◌, map, Option}
use Rattle.std.specs.List.{position_from}
use Rattle.std.specs.Str.{bytes_eq}
use Rattle.trap_parts.specs.declared.parts.ZonePart.{ZonePart}
use Rattle.trap_parts.specs.declared.parts.SegmentPart.{SegmentPart}
use Rattle.trap_parts.specs.declared.parts.JoinPart.{JoinPart}
use Rattle.trap_parts.specs.declared.parts.TrapParts.{TrapParts}

pub record TrapValue : Type 0 where
  pub zones : List ZonePart
  pub segments : List SegmentPart
  pub junctions : List (List ℕ)
  pub joins : List JoinPart

abbrev pub lists : TrapParts → TrapValue
lists parts =
    record {
      zones = parts.zones.items;
      segments = parts.segments.items;
      junctions = parts.junctions.items;
      joins = parts.joins.items;
    }

-- all names: of the zones, of the segments, of the junctions
abbrev pub names_of : TrapValue → List (List ℕ)
names_of trap =
    map (λ zone. zone.name) trap.zones ++ map (λ segment. segment.name) trap.segments ++ trap.junctions

-- how many slots segments have together
abbrev pub slot_count : List SegmentPart → ℕ
slot_count [] = 0
slot_count (segment ∷ segments) = segment.slots + slot_count segments

-- the junction of that name
abbrev pub junction_named : TrapValue → List ℕ → Option ℕ
junction_named trap name = position_from (λ junction. bytes_eq junction name) 0 trap.junctions
