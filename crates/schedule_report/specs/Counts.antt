-- How many steps, actions and operations a schedule has, and how many actions of each kind.
use Rattle.std.specs.Prelude.{ℕ, ◌-◌, ◌^◌, ◌==◌, min, Bool, true, false, List, length, Option, Some, None}
use Rattle.std.specs.List.{filter}
use Rattle.std.specs.Option.{option_map_or}
use Rattle.qc_base.specs.Counting.{how_many}
use Rattle.step_rules.specs.declared.action.Action.{Action}
use Rattle.step_rules.specs.declared.action.Action.TheVariants as actions
use Rattle.step_rules.specs.Play.{actions_of}
use Rattle.schedule_report.specs.declared.totals.Counts.{Counts}
use Rattle.schedule_report.specs.declared.tally.Tally.{Tally}

-- a count of 64 bits, which stays at its end
abbrev pub capped : ℕ → ℕ
capped number = min number (2 ^ 64 - 1)

abbrev pub is_split : Action → Bool
is_split (actions.Split zone end count) = true
is_split _ = false

abbrev pub is_move : Action → Bool
is_move (actions.Move from to) = true
is_move _ = false

abbrev pub is_cross : Action → Bool
is_cross (actions.Cross junction from to) = true
is_cross _ = false

abbrev pub is_merge : Action → Bool
is_merge (actions.Merge zone end) = true
is_merge _ = false

abbrev pub is_swap : Action → Bool
is_swap (actions.Swap zone index) = true
is_swap _ = false

-- the action performs an operation
abbrev pub is_operation : Action → Bool
is_operation (actions.Op zone op) = true
is_operation _ = false

-- how many of these actions pass a test
abbrev pub total : (Action → Bool) → List Action → ℕ
total test actions = capped (how_many test actions)

-- the steps of a schedule, its actions, and those that perform operations
abbrev pub counts_of : List (List Action) → Counts
counts_of steps = record {
  steps = length steps;
  actions = capped (length (actions_of steps));
  ops = total is_operation (actions_of steps);
}

-- how many of these actions there are of each kind
abbrev pub tally_of : List Action → Tally
tally_of actions = record {
  splits = total is_split actions;
  moves = total is_move actions;
  crosses = total is_cross actions;
  merges = total is_merge actions;
  swaps = total is_swap actions;
  ops = total is_operation actions;
}

-- the zone that an action names
abbrev pub zone_of : Action → Option ℕ
zone_of (actions.Split zone end count) = Some zone.0
zone_of (actions.Move from to) = None
zone_of (actions.Cross junction from to) = None
zone_of (actions.Merge zone end) = Some zone.0
zone_of (actions.Swap zone index) = Some zone.0
zone_of (actions.Op zone op) = Some zone.0

-- the action names that zone
abbrev pub is_at : ℕ → Action → Bool
is_at zone action = option_map_or (λ (named : ℕ). named == zone) (zone_of action) false

-- those of these actions that name the zone
abbrev pub at_zone : ℕ → List Action → List Action
at_zone zone actions = filter (is_at zone) actions
