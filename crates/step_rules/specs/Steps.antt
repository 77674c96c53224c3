-- What an action works on and what it does, and when a step is legal.
use Rattle.std.specs.Prelude.{◌≡◌, ℕ, ◌+◌, List, [], ◌∷◌, All, AllPairs, Contains, fold, swap, slice_set}
use Rattle.std.specs.Option.{option_map_or}
use Rattle.qc_base.specs.declared.ids.Ion.{Ion}
use Rattle.qc_base.specs.declared.ids.End.{End}
use Rattle.trap_parts.specs.Parts.{TrapValue}
use Rattle.trap_parts.specs.Joins.{joined_slot}
use Rattle.trap_parts.specs.declared.port.SlotEnd.{SlotEnd}
use Rattle.trap_model.specs.declared.channel.Channel.{Channel}
use Rattle.ion_chain.specs.Transfer.{list_at, after_transfer}
use Rattle.step_rules.specs.declared.action.Action.{Action}
use Rattle.step_rules.specs.declared.action.Action.TheVariants as actions
use Rattle.step_rules.specs.Setting.{SettingValue}
use Rattle.step_rules.specs.ActionChannel.{channel_for, passing, transfer}
use Rattle.step_rules.specs.Guards.{Passes}

-- what only one action of a step may work on
pub data Spot : Type 0 where
  place : ℕ → Spot
  junction : ℕ → Spot

-- the slot that a zone's end is joined with
abbrev pub docked : TrapValue → ℕ → End → List Spot
docked trap zone end = option_map_or (λ (slot : SlotEnd). place slot.slot ∷ []) (joined_slot trap zone end) []

-- the places and the junction that an action works on
abbrev pub footprint : TrapValue → Action → List Spot
footprint trap (actions.Split zone end count) = place zone.0 ∷ docked trap zone.0 end
footprint trap (actions.Move from to) = place from.0 ∷ place to.0 ∷ []
footprint trap (actions.Cross crossed from to) = place from.0 ∷ place to.0 ∷ junction crossed.0 ∷ []
footprint trap (actions.Merge zone end) = place zone.0 ∷ docked trap zone.0 end
footprint trap (actions.Swap zone index) = place zone.0 ∷ []
footprint trap (actions.Op zone op) = place zone.0 ∷ []

-- at each place of these spots, both configurations hold the same ions in the same order
abbrev pub Agree : List Spot → List (List Ion) → List (List Ion) → Type 0
Agree spots config other = (p : ℕ) → Contains spots (place p) → list_at config p ≡ list_at other p

-- no spot is worked on by both
abbrev pub AreApart : TrapValue → Action → Action → Type 0
AreApart trap a b = (spot : Spot) → Contains (footprint trap a) spot → Contains (footprint trap b) spot → ⊥

-- the places after the ions of an action went through that channel
abbrev pub after_passing : List (List Ion) → Action → Channel → List (List Ion)
after_passing config action channel =
    after_transfer config (transfer channel (passing action (list_at config channel.from.0)))

-- the places after an action: a swap exchanges two neighbours, an operation moves nothing, and all others pass ions
-- through their channel
abbrev pub after : TrapValue → List (List Ion) → Action → List (List Ion)
after trap config (actions.Swap zone index) =
    slice_set config zone.0 (swap (list_at config zone.0) index (index + 1))
after trap config action = option_map_or (after_passing config action) (channel_for trap action) config

-- the places after all actions of a step
abbrev pub after_step : TrapValue → List (List Ion) → List Action → List (List Ion)
after_step trap config step = fold (after trap) config step

-- each action passes its guards where the step begins, and no two work on one spot
pub record IsLegal (setting : SettingValue) (config : List (List Ion)) (step : List Action) : Type 0 where
  pub passes : All (Passes setting config) step
  pub apart : AllPairs (AreApart setting.trap) step
