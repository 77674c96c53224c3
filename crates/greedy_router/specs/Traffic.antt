-- Working notions of private functions: the actions so far, and where the ions are after them.
use Rattle.std.specs.Prelude.{◌≡◌, ℕ, ◌+◌, ◌<◌, ◌≤◌, true, false, Bool, List, [], ◌∷◌, ◌++◌, length, take, All, slice_get, Some}
use Rattle.qc_base.specs.declared.ids.Ion.{Ion}
use Rattle.qc_base.specs.declared.ids.OpId.{OpId}
use Rattle.qc_base.specs.declared.ids.PlaceId.{PlaceId}
use Rattle.qc_base.specs.declared.ids.End.{End}
use Rattle.gate_order.specs.Ready.{ReadyValue, AreReady}
use Rattle.trap_parts.specs.Parts.{TrapValue}
use Rattle.ion_chain.specs.Passing.{leaving}
use Rattle.ion_chain.specs.Transfer.{list_at}
use Rattle.step_rules.specs.declared.action.Action.{Action}
use Rattle.step_rules.specs.declared.action.Action.TheVariants as kinds
use Rattle.step_rules.specs.Setting.{SettingValue}
use Rattle.step_rules.specs.Placement.{start_of, reading_order}
use Rattle.step_rules.specs.Config.{IsConfigOf}
use Rattle.step_rules.specs.Steps.{after}
use Rattle.step_rules.specs.Play.{AreLegal, one_at_a_time}
use Rattle.greedy_router.specs.declared.played.Played.{Played}
use Rattle.greedy_router.specs.declared.traffic.Traffic.{Traffic}
use Rattle.greedy_router.specs.Serial.{config_after, ops_of, is_op, is_turn, IsTogether, IsPossible, IsNext, IsSingle}
use Rattle.greedy_router.specs.Places.{count_of, AreHomes, HasFree, OthersHaveFree, IsMoved, IsCalm, IsUncrowded}

-- each action passes its guards at its turn, splits are of one ion, and operations are chosen as they have to be
pub record IsSound (setting : SettingValue) (actions : List Action) : Type 0 where
  pub legal : AreLegal setting (start_of setting.trap setting.placement) (one_at_a_time actions)
  pub single : All IsSingle actions
  pub next : (k : ℕ) (zone : PlaceId) (op : OpId) → slice_get actions k ≡ Some (kinds.Op zone op)
      → IsNext setting (take k actions) zone.0 op.0
  pub at_once : (k zone op : ℕ) (action : Action) → slice_get actions k ≡ Some action → is_turn (take k actions) ≡ true
      → IsPossible setting (take k actions) zone op → is_op action ≡ true

-- the actions are sound, and the configuration is the one after them
pub record IsPlayed (setting : SettingValue) (played : Played) : Type 0 where
  pub sound : IsSound setting played.actions.items
  pub config : IsConfigOf setting.trap played.config
  pub after : played.config.lists ≡ config_after setting played.actions.items

-- no operation has to be performed at once
abbrev pub MayTravel : SettingValue → List Action → Type 0
MayTravel setting actions = is_turn actions ≡ true → (zone op : ℕ) → ¬ IsPossible setting actions zone op

-- the action changes where ions are, and is no split of several
abbrev pub carries : Action → Bool
carries (kinds.Op zone op) = false
carries _ = true

-- ions travelled, and no operation was performed
pub record Goes (setting : SettingValue) (old new : Played) : Type 0 where
  pub played : IsPlayed setting new
  pub travels : MayTravel setting new.actions.items
  pub ops : ops_of new.actions.items ≡ ops_of old.actions.items

-- the action was done
pub record Acts (setting : SettingValue) (old new : Played) (action : Action) : Type 0 where
  pub goes : Goes setting old new
  pub lists : new.config.lists ≡ after setting.trap old.config.lists action

-- the operation was performed
pub record Performs (setting : SettingValue) (old new : Played) (op : OpId) : Type 0 where
  pub played : IsPlayed setting new
  pub lists : new.config.lists ≡ old.config.lists
  pub ops : ops_of new.actions.items ≡ ops_of old.actions.items ++ op ∷ []

-- one ion went from place to place, and no operation was performed
pub record Carries (setting : SettingValue) (old new : Played) (ion from to : ℕ) : Type 0 where
  pub goes : Goes setting old new
  pub moved : IsMoved old.config.lists new.config.lists ion from to

-- the ion came to the end of the zone
pub record Brings (setting : SettingValue) (old new : Played) (zone : ℕ) (ion : Ion) (end : End) : Type 0 where
  pub carries : Carries setting old new ion.0 zone zone
  pub at_end : leaving end 1 (list_at new.config.lists zone) ≡ ion ∷ []

-- one ion can go from place to place
pub record CanPass (trap : TrapValue) (config : List (List Ion)) (ion from to : ℕ) : Type 0 where
  pub present : 1 ≤ count_of ion (list_at config from)
  pub alone : length trap.zones ≤ from → length (list_at config from) ≡ 1
  pub empty : length trap.zones ≤ to → length (list_at config to) ≡ 0
  pub free : to < length trap.zones → HasFree trap config 1 to

-- between two travels
pub record IsTraffic (setting : SettingValue) (traffic : Traffic) : Type 0 where
  pub played : IsPlayed setting traffic.played
  pub homes : AreHomes setting.trap traffic.played.config.lists traffic.homes.items
  pub calm : IsCalm setting.trap traffic.played.config.lists
  pub len : length traffic.homes.items ≡ length (reading_order setting.placement)

-- ions travelled between zones, and no operation was performed
pub record Flows (setting : SettingValue) (old new : Traffic) : Type 0 where
  pub traffic : IsTraffic setting new
  pub travels : MayTravel setting new.played.actions.items
  pub ops : ops_of new.played.actions.items ≡ ops_of old.played.actions.items

-- one ion travelled between zones
pub record Travels (setting : SettingValue) (old new : Traffic) (ion from to : ℕ) : Type 0 where
  pub flows : Flows setting old new
  pub moved : IsMoved old.played.config.lists new.played.config.lists ion from to

-- the zone sent one ion to another, and all others have two free places still
pub record Sends (setting : SettingValue) (old new : Traffic) (zone : ℕ) : Type 0 where
  pub flows : Flows setting old new
  pub others : OthersHaveFree setting.trap new.played.config.lists 2 zone
  pub less : length (list_at new.played.config.lists zone) + 1 ≡ length (list_at old.played.config.lists zone)

-- ions went to zones that still have two free places after it
pub record Frees (setting : SettingValue) (old new : Traffic) : Type 0 where
  pub flows : Flows setting old new
  pub uncrowded : IsUncrowded setting.trap new.played.config.lists
  pub kept : (zone : ℕ) → zone < length setting.trap.zones → HasFree setting.trap old.played.config.lists 2 zone
      → HasFree setting.trap new.played.config.lists 2 zone

-- the ions of the operation came together
pub record Gathers (setting : SettingValue) (old new : Traffic) (zone op : ℕ) : Type 0 where
  pub flows : Flows setting old new
  pub uncrowded : IsUncrowded setting.trap new.played.config.lists
  pub together : IsTogether setting new.played.config.lists zone op

-- the operation is the next one in that zone, and at most one zone has fewer than two free places
pub record Comes (setting : SettingValue) (old new : Traffic) (zone op : ℕ) : Type 0 where
  pub traffic : IsTraffic setting new
  pub ops : ops_of new.played.actions.items ≡ ops_of old.played.actions.items
  pub uncrowded : IsUncrowded setting.trap new.played.config.lists
  pub next : IsNext setting new.played.actions.items zone op

-- what is ready after the actions
abbrev pub ready_after : SettingValue → List Action → ReadyValue
ready_after setting actions = record { circuit = setting.circuit; done = ops_of actions }

-- all operations are performed
pub record Ends (setting : SettingValue) (traffic : Traffic) : Type 0 where
  pub sound : IsTraffic setting traffic
  pub all : AreReady (ready_after setting traffic.played.actions.items) []
