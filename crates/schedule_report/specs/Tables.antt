-- ---- working notions of private functions: counts that are kept while actions are gone through
use Rattle.std.specs.Prelude.{ℕ, ◌+◌, Bool, true, false, List, [], ◌∷◌, ◌++◌, length, map, fold, slice_set, slice_index_or, Option, Some, None}
use Rattle.std.specs.List.{range_with_len}
use Rattle.trap_parts.specs.declared.parts.ZonePart.{ZonePart}
use Rattle.step_rules.specs.declared.action.Action.{Action}
use Rattle.schedule_report.specs.declared.tally.Tally.{Tally}
use Rattle.schedule_report.specs.Counts.{capped, is_split, is_move, is_cross, is_merge, is_swap, is_operation, tally_of, zone_of, at_zone}
use Rattle.schedule_report.specs.Report.{zone_line}

-- a count, one more where that is so
abbrev pub more : Bool → ℕ → ℕ
more false count = count
more true count = capped (count + 1)

abbrev pub with_action : Tally → Action → Tally
with_action tally action = record {
  splits = more (is_split action) tally.splits;
  moves = more (is_move action) tally.moves;
  crosses = more (is_cross action) tally.crosses;
  merges = more (is_merge action) tally.merges;
  swaps = more (is_swap action) tally.swaps;
  ops = more (is_operation action) tally.ops;
}

abbrev pub no_actions : Tally
no_actions = record { splits = 0; moves = 0; crosses = 0; merges = 0; swaps = 0; ops = 0 }

-- a table of tallies, one for each zone, after an action that names this zone
abbrev pub with_named : List Tally → Action → Option ℕ → List Tally
with_named tallies action None = tallies
with_named tallies action (Some zone) =
    slice_set tallies zone (with_action (slice_index_or tallies zone no_actions) action)

abbrev pub table_with : List Tally → Action → List Tally
table_with tallies action = with_named tallies action (zone_of action)

-- the tallies of so many zones
abbrev pub zone_tallies : ℕ → List Action → List Tally
zone_tallies count actions = map (λ (zone : ℕ). tally_of (at_zone zone actions)) (range_with_len 0 count)

-- a line for each zone that has a tally
abbrev pub lines_by : List ZonePart → List Tally → List ℕ
lines_by [] tallies = []
lines_by (zone ∷ zones) [] = []
lines_by (zone ∷ zones) (tally ∷ tallies) = zone_line zone.name tally ++ lines_by zones tallies
