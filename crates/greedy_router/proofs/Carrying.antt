-- One ion goes through one channel after another.
use Rattle.std.proofs.Common.{◌≡◌, ◌≢◌, ℕ, true, zero, suc, ◌<◌, ◌≤◌, cond, ◌&&◌, List, [], ◌∷◌, length, get_or, Some, None, refl, sym, ap, subst, ◌∙◌, inl, inr, arith, get_or-set_same, get_or-set_other}
use Rattle.std.specs.Prelude.{Option, IsSome, slice_get, slice_set, ◌==◌}
use Rattle.std.specs.Option.{option_map}
use Rattle.std.proofs.lemmas.Bool.{cases_eq, cases_lt, eq-eqb, false≢true}
use Rattle.std.proofs.lemmas.List.{length-set}
use Rattle.std.proofs.lemmas.Option.{same_Some, none-some, slice_get-get_or, slice_get_cases}
use Rattle.qc_base.specs.declared.ids.Ion.{Ion}
use Rattle.qc_base.specs.declared.ids.End.{End}
use Rattle.qc_base.specs.declared.ids.PlaceId.{PlaceId}
use Rattle.qc_base.specs.declared.ids.JunctionId.{JunctionId}
use Rattle.trap_parts.specs.Parts.{TrapValue}
use Rattle.trap_parts.specs.Build.{IsTrap}
use Rattle.trap_parts.specs.Joins.{joined_slot}
use Rattle.trap_model.specs.Channels.{channels_of, split, split_channel}
use Rattle.trap_model.specs.declared.channel.Channel.{Channel}
use Rattle.trap_model.specs.declared.channel.Kind.{Kind}
use Rattle.trap_model.specs.declared.channel.Kind.TheVariants as channel_kinds
use Rattle.trap_parts.specs.declared.port.SlotEnd.{SlotEnd}
use Rattle.trap_model.proofs.ReadTables.{no_joined}
use Rattle.ion_chain.specs.Passing.{leaving, left, joined}
use Rattle.ion_chain.specs.Transfer.{list_at, after_transfer}
use Rattle.ion_chain.proofs.Passed.{length-left}
use Rattle.route_find.specs.Walks.{IsWalk, IsDistance}
use Rattle.route_find.specs.Distances.{DistancesValue, AreDistances, LeadsNearer, distance_at, next_at}
use Rattle.route_find.proofs.Following.{followed_less}
use Rattle.step_rules.specs.declared.action.Action.{Action}
use Rattle.step_rules.specs.declared.action.Action.TheVariants as kinds
use Rattle.step_rules.specs.Setting.{SettingValue}
use Rattle.step_rules.specs.ActionChannel.{channel_for, action_by, action_through, passing, transfer, IsWithin}
use Rattle.step_rules.specs.Guards.{Passes}
use Rattle.step_rules.specs.Steps.{after}
use Rattle.step_rules.proofs.Moved.{after_through as after_any}
use Rattle.step_rules.proofs.Kept.{channel_within}
use Rattle.step_rules.proofs.Leading.{leads_through}
use Rattle.greedy_router.specs.declared.played.Played.{Played}
use Rattle.greedy_router.specs.Serial.{IsSingle}
use Rattle.greedy_router.specs.declared.traffic.Traffic.{Traffic}
use Rattle.greedy_router.specs.Places.{count_of, one_if, one_if_both, home_of, IsInZone, AreHomes, IsMoved, IsCalm, OthersHaveFree}
use Rattle.greedy_router.specs.Traffic.{IsPlayed, MayTravel, Acts, carries, Carries, Brings, CanPass, IsTraffic, Travels}
use Rattle.greedy_router.proofs.Counts.{one_same, one_apart, leaves_alone}
use Rattle.greedy_router.proofs.Moves.{moved_none, moved_then, moved_through, homes_moved}
use Rattle.greedy_router.proofs.Passing.{passes_through, after_through, ends_apart}
use Rattle.greedy_router.proofs.Spare.{calm_moved}
use Rattle.greedy_router.proofs.Travelling.{goes_then}

-- ---- the action of a channel

-- the channel as it is read
pub read_there : (trap : TrapValue) (number : ℕ) (channels : List Channel) (d : Channel) → channels ≡ channels_of trap → number < length (channels_of trap) → slice_get (channels_of trap) number ≡ Some (get_or channels number d)
read_there trap number channels d is within = ap (λ (l : List Channel). slice_get l number) (sym is) ∙ slice_get-get_or channels number d (omega (arith, within, ap length is))

-- the action of a channel that is read leads through it
pub leads_read : (trap : TrapValue) (number : ℕ) (channels : List Channel) (d : Channel) → IsTrap trap → channels ≡ channels_of trap → number < length (channels_of trap)
    → channel_for trap (action_through (get_or channels number d) 1) ≡ slice_get (channels_of trap) number
leads_read trap number channels d sound is within =
    let there = read_there trap number channels d is within in
    leads_through trap number 1 (get_or channels number d) sound there ∙ sym there

pub carries_by : (kind : Kind) (crossed : Option JunctionId) (channel : Channel) → carries (action_by kind crossed channel 1) ≡ true
carries_by channel_kinds.Split crossed channel = refl
carries_by channel_kinds.Move crossed channel = refl
carries_by channel_kinds.Cross None channel = refl
carries_by channel_kinds.Cross (Some junction) channel = refl
carries_by channel_kinds.Merge crossed channel = refl

pub single_by : (kind : Kind) (crossed : Option JunctionId) (channel : Channel) → IsSingle (action_by kind crossed channel 1)
single_by channel_kinds.Split crossed channel = refl
single_by channel_kinds.Move crossed channel = tt
single_by channel_kinds.Cross None channel = tt
single_by channel_kinds.Cross (Some junction) channel = tt
single_by channel_kinds.Merge crossed channel = tt

-- ---- through one channel

-- the action takes the ion through that channel
pub record TakesThrough (setting : SettingValue) (config : List (List Ion)) (ion number : ℕ) (action : Action) : Type 0 where
  pub channel : Channel
  pub at : slice_get (channels_of setting.trap) number ≡ Some channel
  pub led : channel_for setting.trap action ≡ Some channel
  pub single : IsSingle action
  pub can : CanPass setting.trap config ion channel.from.0 channel.to.0

pub takes_through : (setting : SettingValue) (trap : TrapValue) (config : List (List Ion)) (ion number : ℕ) (action : Action) → trap ≡ setting.trap → number < length (channels_of setting.trap)
    → ((channel : Channel) → slice_get (channels_of setting.trap) number ≡ Some channel → CanPass setting.trap config ion channel.from.0 channel.to.0)
    → channel_for trap action ≡ slice_get (channels_of trap) number → IsSingle action → TakesThrough setting config ion number action
takes_through setting trap config ion number action same within can leads single = elim ((slice_get_cases (channels_of setting.trap) number).1) [
  | inl there ↦ record {
    channel = there.0;
    at = there.2;
    led = subst (λ (t : TrapValue). channel_for t action ≡ slice_get (channels_of t) number) same leads ∙ there.2;
    single = single;
    can = can there.0 there.2;
  }
  | inr past ↦ absurd (omega (arith, within, past.0))
]

-- the ion is at the end by which it leaves
pub record IsSet (setting : SettingValue) (old middle : Played) (ion : Ion) (number : ℕ) (action : Action) : Type 0 where
  pub channel : Channel
  pub at : slice_get (channels_of setting.trap) number ≡ Some channel
  pub led : channel_for setting.trap action ≡ Some channel
  pub single : IsSingle action
  pub carries : Carries setting old middle ion.0 channel.from.0 channel.from.0
  pub can : CanPass setting.trap middle.config.lists ion.0 channel.from.0 channel.to.0
  pub leaves : leaving channel.from_end 1 (list_at middle.config.lists channel.from.0) ≡ ion ∷ []

of_slot : (zone : ℕ) (end : End) (slot : Option SlotEnd) (channel : Channel) → option_map (split zone end) slot ≡ Some channel → (zone ≡ channel.from.0) × (end ≡ channel.from_end)
of_slot zone end None channel e = absurd (none-some channel e)
of_slot zone end (Some slot) channel e =
    let same : split zone end slot ≡ channel = same_Some (split zone end slot) channel e in
    (ap (λ (c : Channel). c.from.0) same, ap (λ (c : Channel). c.from_end) same)

zone_there : (trap : TrapValue) (zone : ℕ) (end : End) (channel : Channel) → split_channel trap zone end ≡ Some channel → zone < length trap.zones
zone_there trap zone end channel e = elim (cases_lt zone (length trap.zones)) [
  | inl there ↦ there
  | inr past ↦ absurd (none-some channel (sym (ap (λ (slot : Option SlotEnd). option_map (split zone end) slot) (no_joined trap zone end past)) ∙ e))
]

pub split_there : (setting : SettingValue) (config : List (List Ion)) (ion number count : ℕ) (zone : PlaceId) (end : End) → TakesThrough setting config ion number (kinds.Split zone end count) → zone.0 < length setting.trap.zones
split_there setting config ion number count zone end it = zone_there setting.trap zone.0 end it.channel it.led

pub split_present : (setting : SettingValue) (config : List (List Ion)) (ion number count : ℕ) (zone : PlaceId) (end : End) → TakesThrough setting config ion number (kinds.Split zone end count) → 1 ≤ count_of ion (list_at config zone.0)
split_present setting config ion number count zone end it =
    let from = (of_slot zone.0 end (joined_slot setting.trap zone.0 end) it.channel it.led).0 in
    subst (λ (place : ℕ). 1 ≤ count_of ion (list_at config place)) (sym from) it.can.present

-- what can pass still can, once ions changed places within their zone
can_still : (trap : TrapValue) (before after : List (List Ion)) (ion from to : ℕ) → IsMoved before after ion from from → CanPass trap before ion from to → CanPass trap after ion from to
can_still trap before after ion from to moved can = record {
  present = omega (arith, can.present, moved.ions ion from);
  alone = λ past. omega (arith, can.alone past, moved.lengths from);
  empty = λ past. omega (arith, can.empty past, moved.lengths to);
  free = λ there. omega (arith, can.free there, moved.lengths to);
}

set_split : (setting : SettingValue) (old middle : Played) (ion : Ion) (number count : ℕ) (zone : PlaceId) (end : End) → TakesThrough setting old.config.lists ion.0 number (kinds.Split zone end count)
    → Brings setting old middle zone.0 ion end → IsSet setting old middle ion number (kinds.Split zone end count)
set_split setting old middle ion number count zone end it brought =
    let channel : Channel = it.channel in
    let from = of_slot zone.0 end (joined_slot setting.trap zone.0 end) channel it.led in
    let did : Carries setting old middle ion.0 channel.from.0 channel.from.0 = subst (λ (place : ℕ). Carries setting old middle ion.0 place place) from.0 brought.carries in
    record {
      channel = channel;
      at = it.at;
      led = it.led;
      single = it.single;
      carries = did;
      can = can_still setting.trap old.config.lists middle.config.lists ion.0 channel.from.0 channel.to.0 did.moved it.can;
      leaves = ap (λ (e : End). leaving e 1 (list_at middle.config.lists channel.from.0)) (sym from.1) ∙ ap (λ (place : ℕ). leaving end 1 (list_at middle.config.lists place)) (sym from.0) ∙ brought.at_end;
    }

-- the ions that leave a place, where the action passes all of it: only one
only_one : (trap : TrapValue) (config : List (List Ion)) (action : Action) (channel : Channel) (ion : ℕ) → IsTrap trap → IsSingle action → channel_for trap action ≡ Some channel → CanPass trap config ion channel.from.0 channel.to.0
    → channel.from.0 < length config → channel.from.0 ≢ channel.to.0 → passing action (list_at config channel.from.0) ≡ length (list_at config channel.from.0) → length (list_at config channel.from.0) ≡ 1
only_one trap config action channel ion sound single e can in_config apart all =
    let from : ℕ = channel.from.0 in
    let source : List Ion = list_at config from in
    let stays : (count : ℕ) → list_at (after_transfer config (transfer channel count)) from ≡ left channel.from_end count source =
    λ count.
    get_or-set_other (slice_set config from (left channel.from_end count source)) channel.to.0 from (joined channel.to_end (leaving channel.from_end count source) (list_at config channel.to.0)) [] apart
    ∙ get_or-set_same config from (left channel.from_end count source) [] in_config in
    let same : list_at (after_transfer config (transfer channel (length source))) from ≡ list_at (after_transfer config (transfer channel 1)) from =
    ap (λ (l : List (List Ion)). list_at l from)
    (ap (λ (count : ℕ). after_transfer config (transfer channel count)) (sym all) ∙ sym (after_any trap config action channel e) ∙ after_through trap config action channel ion sound single e can) in
    let lengths : length (left channel.from_end (length source) source) ≡ length (left channel.from_end 1 source) = ap length (sym (stays (length source)) ∙ same ∙ stays 1) in
    omega (arith, lengths, length-left channel.from_end (length source) source, length-left channel.from_end 1 source, some_present ion source can.present)
  where
    some_present : (ion : ℕ) (ions : List Ion) → 1 ≤ count_of ion ions → 1 ≤ length ions
    some_present ion [] h = absurd (omega arith)
    some_present ion (other ∷ ions) h = omega arith

set_whole : (setting : SettingValue) (old : Played) (ion : Ion) (number : ℕ) (action : Action) → IsTrap setting.trap → IsPlayed setting old → MayTravel setting old.actions.items
    → ((ions : List Ion) → passing action ions ≡ length ions) → TakesThrough setting old.config.lists ion.0 number action → IsSet setting old old ion number action
set_whole setting old ion number action sound is travels all it =
    let channel : Channel = it.channel in
    let within : IsWithin setting.trap channel = channel_within setting.trap action channel sound it.led in
    let source : List Ion = list_at old.config.lists channel.from.0 in
    let one : length source ≡ 1 =
    only_one setting.trap old.config.lists action channel ion.0 sound it.single it.led it.can (omega (arith, within.from, is.config.places)) (ends_apart setting.trap number channel sound it.at) (all source) in
    record {
      channel = channel;
      at = it.at;
      led = it.led;
      single = it.single;
      carries = record { goes = record { played = is; travels = travels; ops = refl }; moved = moved_none old.config.lists ion.0 channel.from.0 };
      can = it.can;
      leaves = leaves_alone channel.from_end source ion one it.can.present;
    }

pub set_brought : (setting : SettingValue) (old brought middle : Played) (ion : Ion) (number count : ℕ) (zone : PlaceId) (end : End) (action : Action) → middle ≡ brought → action ≡ kinds.Split zone end count
    → TakesThrough setting old.config.lists ion.0 number (kinds.Split zone end count) → Brings setting old brought zone.0 ion end → IsSet setting old middle ion number action
set_brought setting old brought middle ion number count zone end action same is it did =
    subst (λ (p : Played). IsSet setting old p ion number action) (sym same)
    (subst (λ (a : Action). IsSet setting old brought ion number a) (sym is) (set_split setting old brought ion number count zone end it did))

-- only a split passes fewer than all
all_pass : (action : Action) → ((zone : PlaceId) (end : End) (count : ℕ) → action ≡ kinds.Split zone end count → ⊥) → (ions : List Ion) → passing action ions ≡ length ions
all_pass (kinds.Split zone end count) none ions = absurd (none zone end count refl)
all_pass (kinds.Move from to) none ions = refl
all_pass (kinds.Cross junction from to) none ions = refl
all_pass (kinds.Merge zone end) none ions = refl
all_pass (kinds.Swap zone index) none ions = refl
all_pass (kinds.Op zone op) none ions = refl

pub set_at_once : (setting : SettingValue) (old middle : Played) (ion : Ion) (number : ℕ) (found action : Action) → IsTrap setting.trap → IsPlayed setting old → MayTravel setting old.actions.items → middle ≡ old → action ≡ found
    → ((zone : PlaceId) (end : End) (count : ℕ) → found ≡ kinds.Split zone end count → ⊥) → TakesThrough setting old.config.lists ion.0 number found → IsSet setting old middle ion number action
set_at_once setting old middle ion number found action sound is travels same here none it =
    subst (λ (p : Played). IsSet setting old p ion number action) (sym same)
    (subst (λ (a : Action). IsSet setting old old ion number a) (sym here) (set_whole setting old ion number found sound is travels (all_pass found none) it))

pub set_passes : (setting : SettingValue) (old middle : Played) (ion : Ion) (number : ℕ) (action : Action) → IsTrap setting.trap → IsSet setting old middle ion number action → Passes setting middle.config.lists action
set_passes setting old middle ion number action sound it = passes_through setting middle.config.lists action it.channel ion.0 sound it.single it.led it.can

went_by : (setting : SettingValue) (old middle new : Played) (ion : Ion) (number : ℕ) (action : Action) → IsTrap setting.trap → (it : IsSet setting old middle ion number action) → Acts setting middle new action
    → Carries setting old new ion.0 it.channel.from.0 it.channel.to.0
went_by setting old middle new ion number action sound it did =
    let channel : Channel = it.channel in
    let within : IsWithin setting.trap channel = channel_within setting.trap action channel sound it.led in
    let is : IsPlayed setting middle = it.carries.goes.played in
    let through : IsMoved middle.config.lists (after_transfer middle.config.lists (transfer channel 1)) ion.0 channel.from.0 channel.to.0 =
    moved_through middle.config.lists channel ion (omega (arith, within.from, is.config.places)) (omega (arith, within.to, is.config.places)) (ends_apart setting.trap number channel sound it.at) it.leaves in
    let lists : new.config.lists ≡ after_transfer middle.config.lists (transfer channel 1) = did.lists ∙ after_through setting.trap middle.config.lists action channel ion.0 sound it.single it.led it.can in
    record {
      goes = goes_then setting old middle new it.carries.goes did.goes;
      moved = moved_then old.config.lists middle.config.lists new.config.lists ion.0 channel.from.0 channel.from.0 channel.to.0 it.carries.moved
          (subst (λ (l : List (List Ion)). IsMoved middle.config.lists l ion.0 channel.from.0 channel.to.0) (sym lists) through);
    }

pub went : (setting : SettingValue) (old middle new : Played) (ion : Ion) (number : ℕ) (action : Action) → IsTrap setting.trap → IsSet setting old middle ion number action → Acts setting middle new action
    → (channel : Channel) → slice_get (channels_of setting.trap) number ≡ Some channel → Carries setting old new ion.0 channel.from.0 channel.to.0
went setting old middle new ion number action sound it did channel at =
    subst (λ (c : Channel). Carries setting old new ion.0 c.from.0 c.to.0) (same_Some it.channel channel (sym it.at ∙ at)) (went_by setting old middle new ion number action sound it did)

-- ---- before the target

starts_here : (trap : TrapValue) (distances : DistancesValue) (place number : ℕ) (channel : Channel) → AreDistances trap distances → next_at distances place ≡ Some number → slice_get (channels_of trap) number ≡ Some channel → channel.from.0 ≡ place
starts_here trap distances place number channel are next at =
    let nearer : LeadsNearer trap distances place number = are.nearer place number next in
    ap (λ (c : Channel). c.from.0) (sym (same_Some nearer.leads.channel channel (sym nearer.leads.there ∙ at))) ∙ nearer.leads.starts

same_ion : (ion place other : ℕ) → one_if_both ion ion place other ≡ one_if place other
same_ion ion place other = ap (λ b. cond {A = ℕ} (b && place == other) 1 0) (eq-eqb ion ion refl)

-- an ion that has gone from its zone to that place can go on
can_continue : (setting : SettingValue) (old middle : Played) (ion from place : ℕ) (channel : Channel) → IsPlayed setting old → IsCalm setting.trap old.config.lists → IsInZone setting.trap old.config.lists ion from
    → OthersHaveFree setting.trap old.config.lists 1 from → IsMoved old.config.lists middle.config.lists ion from place → channel.from.0 ≡ place → channel.from.0 ≢ channel.to.0
    → CanPass setting.trap middle.config.lists ion channel.from.0 channel.to.0
can_continue setting old middle ion from place channel is calm present free moved starts apart =
    let trap : TrapValue = setting.trap in
    let start : ℕ = channel.from.0 in
    let end : ℕ = channel.to.0 in
    let here : one_if start place ≡ 1 = one_same start place starts in
    let not_there : one_if end place ≡ 0 = one_apart end place (λ e. apart (starts ∙ sym e)) in
    record {
      present = omega (arith, moved.ions ion start, present.once start, same_ion ion start from, same_ion ion start place, here);
      alone = λ past. omega (arith, moved.lengths start, here, ap length (calm.slots start past), one_apart start from (λ e. absurd (omega (arith, e, past, present.there))));
      empty = λ past. omega (arith, moved.lengths end, not_there, ap length (calm.slots end past));
      free = λ there. elim (cases_eq end from) [
        | inl back ↦ omega (arith, moved.lengths end, not_there, one_same end from back, is.config.within end (omega arith))
        | inr other ↦ omega (arith, moved.lengths end, not_there, one_apart end from other, free end there other)
      ];
    }

pub goes_through : (setting : SettingValue) (old middle : Played) (distances : DistancesValue) (ion from place number : ℕ) → IsTrap setting.trap → IsPlayed setting old → IsCalm setting.trap old.config.lists
    → IsInZone setting.trap old.config.lists ion from → OthersHaveFree setting.trap old.config.lists 1 from → AreDistances setting.trap distances → next_at distances place ≡ Some number
    → Carries setting old middle ion from place → (channel : Channel) → slice_get (channels_of setting.trap) number ≡ Some channel → CanPass setting.trap middle.config.lists ion channel.from.0 channel.to.0
goes_through setting old middle distances ion from place number sound is calm present free are next did channel at =
    can_continue setting old middle ion from place channel is calm present free did.moved (starts_here setting.trap distances place number channel are next at) (ends_apart setting.trap number channel sound at)

pub next_carries : (setting : SettingValue) (old middle new : Played) (distances : DistancesValue) (ion from place number : ℕ) (channels : List Channel) (d : Channel) → AreDistances setting.trap distances
    → next_at distances place ≡ Some number → channels ≡ channels_of setting.trap → number < length (channels_of setting.trap) → Carries setting old middle ion from place
    → ((channel : Channel) → slice_get (channels_of setting.trap) number ≡ Some channel → Carries setting middle new ion channel.from.0 channel.to.0)
    → Carries setting old new ion from (get_or channels number d).to.0
next_carries setting old middle new distances ion from place number channels d are next same within did passed =
    let channel : Channel = get_or channels number d in
    let at = read_there setting.trap number channels d same within in
    let on : Carries setting middle new ion place channel.to.0 = subst (λ (p : ℕ). Carries setting middle new ion p channel.to.0) (starts_here setting.trap distances place number channel are next at) (passed channel at) in
    record {
      goes = goes_then setting old middle new did.goes on.goes;
      moved = moved_then old.config.lists middle.config.lists new.config.lists ion from place channel.to.0 did.moved on.moved;
    }

known : (found : Option ℕ) (distance : ℕ) → found ≡ Some distance → IsSome found
known found distance e = subst (λ (o : Option ℕ). IsSome o) (sym e) refl

pub next_reached : (trap : TrapValue) (distances : DistancesValue) (place number : ℕ) (channels : List Channel) (d : Channel) → AreDistances trap distances → next_at distances place ≡ Some number → channels ≡ channels_of trap
    → number < length (channels_of trap) → IsSome (distance_at distances (get_or channels number d).to.0)
next_reached trap distances place number channels d are next same within =
    let less = followed_less trap distances place number (get_or channels number d) are next (read_there trap number channels d same within) in
    known (distance_at distances (get_or channels number d).to.0) less.0 less.1.1

end_by : (trap : TrapValue) (distances : DistancesValue) (place : ℕ) (distance : Option ℕ) → AreDistances trap distances → distance_at distances place ≡ distance → IsSome distance → next_at distances place ≡ None → place ≡ distances.target
end_by trap distances place None are here some none = absurd (false≢true some)
end_by trap distances place (Some zero) are here some none =
    let it = subst (λ (o : Option ℕ). IsDistance trap place distances.target o) here (are.each place) in
    arrived trap place distances.target it.0 it.1.0.leads it.1.1
  where
    arrived : (trap : TrapValue) (place target : ℕ) (walk : List ℕ) → IsWalk trap place target walk → length walk ≡ 0 → place ≡ target
    arrived trap place target [] leads none = leads
    arrived trap place target (number ∷ rest) leads none = absurd (omega (arith, none))
end_by trap distances place (Some (suc distance)) are here some none =
    absurd (false≢true (subst (λ (o : Option ℕ). IsSome o) none (are.next place distance (here ∙ ap Some (omega arith)))))

-- at the end the place is the target
pub at_target : (setting : SettingValue) (old new : Played) (distances : DistancesValue) (ion from place : ℕ) → AreDistances setting.trap distances → IsSome (distance_at distances place) → next_at distances place ≡ None
    → Carries setting old new ion from place → Carries setting old new ion from distances.target
at_target setting old new distances ion from place are reached none did =
    subst (λ (p : ℕ). Carries setting old new ion from p) (end_by setting.trap distances place (distance_at distances place) are refl reached none) did

-- ---- between zones

pub travelled : (setting : SettingValue) (old new : Traffic) (ion : ℕ) (to : PlaceId) → IsTraffic setting old → ion < length old.homes.items → to.0 < length setting.trap.zones
    → Carries setting old.played new.played ion (home_of old.homes.items ion) to.0 → new.homes.items ≡ slice_set old.homes.items ion to → Travels setting old new ion (home_of old.homes.items ion) to.0
travelled setting old new ion to is h there did items =
    let trap : TrapValue = setting.trap in
    let before : List (List Ion) = old.played.config.lists in
    let now : List (List Ion) = new.played.config.lists in
    let from : ℕ = home_of old.homes.items ion in
    record {
      flows = record {
        traffic = record {
          played = did.goes.played;
          homes = subst (λ (homes : List PlaceId). AreHomes trap now homes) (sym items) (homes_moved trap before now old.homes.items ion to is.homes h did.moved there);
          calm = calm_moved trap before now ion from to.0 is.calm did.moved ((is.homes.present ion h).there) there;
          len = ap length items ∙ length-set old.homes.items ion to ∙ is.len;
        };
        travels = did.goes.travels;
        ops = did.goes.ops;
      };
      moved = did.moved;
    }
