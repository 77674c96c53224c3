-- The tables that a trap keeps for its look-ups.
use Rattle.std.specs.Prelude.{◌≡◌, ℕ, ◌+◌, ◌<◌, ◌≤◌, false, List, length, map, take, drop, slice_index_or}
use Rattle.std.specs.List.{position_from, range_with_len, list_any}
use Rattle.qc_base.specs.declared.ids.End.{End}
use Rattle.qc_base.specs.declared.ids.End.TheVariants.{A, B}
use Rattle.trap_model.specs.declared.channel.Channel.{Channel}
use Rattle.trap_model.specs.declared.slot.Slot.{Slot}
use Rattle.trap_model.specs.declared.tables.Door.{Door}
use Rattle.trap_model.specs.declared.tables.Doors.{Doors}
use Rattle.trap_model.specs.declared.tables.Steps.{Steps}
use Rattle.trap_model.specs.declared.tables.Passage.{Passage}
use Rattle.trap_parts.specs.Parts.{TrapValue}
use Rattle.trap_model.specs.Trap.{place_count, slots_from}
use Rattle.trap_parts.specs.Joins.{firsts_from}
use Rattle.trap_model.specs.Channels.{channels_of, is_split, is_merge, is_move, is_through}
use Rattle.trap_parts.specs.Build.{IsTrap}

abbrev pub door_of : List Channel → ℕ → End → Door
door_of channels zone end =
    record {
      split = position_from (is_split zone end) 0 channels;
      merge = position_from (is_merge zone end) 0 channels;
    }

abbrev pub doors_of : List Channel → ℕ → Doors
doors_of channels zone = record { a = door_of channels zone A; b = door_of channels zone B }

abbrev pub steps_of : List Channel → ℕ → Steps
steps_of channels place =
    record {
      ahead = position_from (is_move place (place + 1)) 0 channels;
      back = position_from (is_move (place + 1) place) 0 channels;
    }

-- outside of it no channel is a crossing of the junction
pub record IsPassage (channels : List Channel) (junction : ℕ) (passage : Passage) : Type 0 where
  pub ordered : passage.first ≤ passage.end
  pub within : passage.end ≤ length channels
  pub before : list_any (is_through junction) (take passage.first channels) ≡ false
  pub after : list_any (is_through junction) (drop passage.end channels) ≡ false

-- one for each junction
pub record ArePassages (channels : List Channel) (junctions : ℕ) (passages : List Passage) : Type 0 where
  pub count : length passages ≡ junctions
  pub each : (junction : ℕ) (d : Passage) → junction < junctions
      → IsPassage channels junction (slice_index_or passages junction d)

-- the tables are those of the trap
pub record AreTables (trap : TrapValue) (slots : List Slot) (firsts : List ℕ) (channels : List Channel)
    (doors : List Doors) (steps : List Steps) (passages : List Passage) : Type 0 where
  pub sound : IsTrap trap
  pub all_slots : slots ≡ slots_from 0 trap.segments
  pub of_segments : firsts ≡ firsts_from (length trap.zones) trap.segments
  pub all_channels : channels ≡ channels_of trap
  pub of_zones : doors ≡ map (doors_of (channels_of trap)) (range_with_len 0 (length trap.zones))
  pub of_places : steps ≡ map (steps_of (channels_of trap)) (range_with_len 0 (place_count trap))
  pub of_junctions : ArePassages (channels_of trap) (length trap.junctions) passages
