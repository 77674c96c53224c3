-- Every schedule that plays has facts in which all families hold.
use Rattle.std.proofs.Common.{◌≡◌, ℕ, suc, ◌-◌, ◌≤◌, Bool, ◌&&◌, List, length, refl, sym, ap, subst, ◌∙◌, arith}
use Rattle.std.specs.Prelude.{Option, slice_get}
use Rattle.std.specs.List.{list_any}
use Rattle.qc_base.specs.declared.ids.Ion.{Ion}
use Rattle.trap_model.specs.Channels.{channels_of}
use Rattle.trap_model.specs.declared.channel.Channel.{Channel}
use Rattle.step_rules.specs.declared.action.Action.{Action}
use Rattle.step_rules.specs.Setting.{SettingValue}
use Rattle.step_rules.specs.Play.{Plays}
use Rattle.step_facts.specs.Activities.{Activity, passage, exchange, operation, item_of}
use Rattle.step_facts.specs.Facts.{Facts}
use Rattle.step_facts.specs.Run.{IsSetting, IsStart, IsStep, IsRun}
use Rattle.step_facts.specs.OfSchedule.{facts_of, config_at, step_at, does, exchanges, passes_by, goes_by}
use Rattle.step_facts.specs.Agreement.{Agrees, AgreesInStep, AgreesOnPassers}
use Rattle.step_facts.specs.Theorems.{SchedulesHaveFacts, FactsSayUses}
use Rattle.step_facts.proofs.Parts.{run_iff}
use Rattle.step_facts.proofs.Configs.{sound-order, config_at-next, legal_at, sound_at, starts_at-list}
use Rattle.step_facts.proofs.Played.{IsPlayed, played-one_place, played-few_ions, played-from_source, played-to_target, played-use_channel, played-stays, played-stayed, played-some_passes, played-empty_slot, played-whole_chain, played-front, played-one_activity, played-one_crossing}
use Rattle.step_facts.proofs.PlayedOrders.{played-swap_in_zone, played-swap_neighbours, played-swap_turns, played-stayers, played-passers, played-merges, played-ions_in_zone}
use Rattle.step_facts.proofs.PlayedOperations.{undone-facts, once-facts, done-facts, in_order-facts, goal_needs-facts, goal-facts}

pub facts-agree : (setting : SettingValue) (steps : List (List Action)) (t : ℕ) → IsSetting setting → Plays setting steps
    → Agrees setting (facts_of setting steps) t (config_at setting steps t)
facts-agree setting steps t sound plays = record {
  places = λ i p known in_p. refl;
  orders = λ i j p below known in_p i_there j_there. sound-order setting (config_at setting steps t) i j p (sound_at setting steps t sound plays.legal) i_there j_there;
}

-- the time before a step is that of its number less one
happens_by : (setting : SettingValue) (steps : List (List Action)) (r : ℕ) (a : Activity)
    → facts_of setting steps (item_of (suc r) a) ≡ list_any (does setting.trap (config_at setting steps r) a) (step_at steps (suc r))
happens_by setting steps r (passage c channel) = refl
happens_by setting steps r (exchange i j z) =
    let same : suc r - 1 ≡ r = omega arith in
    ap (λ (k : ℕ). list_any (exchanges (config_at setting steps k) i j z) (step_at steps (suc r))) same
happens_by setting steps r (operation g z) = refl

pub facts-agree_in_step : (setting : SettingValue) (steps : List (List Action)) (r : ℕ)
    → AgreesInStep setting (facts_of setting steps) (suc r) (config_at setting steps r) (step_at steps (suc r))
facts-agree_in_step setting steps r = record { activities = λ a is. happens_by setting steps r a }

pub facts-agree_on_passers : (setting : SettingValue) (steps : List (List Action)) (r : ℕ)
    → AgreesOnPassers setting (facts_of setting steps) (suc r) (config_at setting steps r) (config_at setting steps (suc r))
facts-agree_on_passers setting steps r = record {
  passers = λ i c channel known is.
      let same : suc r - 1 ≡ r = omega arith in
      let used : Bool = list_any (passes_by setting.trap c) (step_at steps (suc r)) in
      ap (λ (k : ℕ). used && goes_by (config_at setting steps k) (config_at setting steps (suc r)) i (slice_get (channels_of setting.trap) c)) same
      ∙ ap (λ (found : Option Channel). used && goes_by (config_at setting steps r) (config_at setting steps (suc r)) i found) is;
}

pub facts-played : (setting : SettingValue) (steps : List (List Action)) (r : ℕ) → IsSetting setting → Plays setting steps
    → IsPlayed setting (facts_of setting steps) r (suc r) (config_at setting steps r) (step_at steps (suc r))
facts-played setting steps r sound plays =
    let facts : Facts = facts_of setting steps in
    record {
      setting_sound = sound;
      sound = sound_at setting steps r sound plays.legal;
      legal = legal_at setting steps r plays.legal;
      before = facts-agree setting steps r sound plays;
      now = subst (Agrees setting facts (suc r)) (config_at-next setting steps r) (facts-agree setting steps (suc r) sound plays);
      activities = facts-agree_in_step setting steps r;
      passers = subst (AgreesOnPassers setting facts (suc r) (config_at setting steps r)) (config_at-next setting steps r) (facts-agree_on_passers setting steps r);
    }

pub start-facts : (setting : SettingValue) (steps : List (List Action)) → IsSetting setting → IsStart setting (facts_of setting steps)
start-facts setting steps sound = record {
  places = λ i p known in_p. sym (starts_at-list setting i p);
  orders = λ i j below known. refl;
  undone = undone-facts setting steps;
}

pub step-facts : (setting : SettingValue) (steps : List (List Action)) (r : ℕ) → IsSetting setting → Plays setting steps → IsStep setting (facts_of setting steps) r (suc r)
step-facts setting steps r sound plays =
    let facts : Facts = facts_of setting steps in
    let config : List (List Ion) = config_at setting steps r in
    let step : List Action = step_at steps (suc r) in
    let played : IsPlayed setting facts r (suc r) config step = facts-played setting steps r sound plays in
    record {
      one_place = played-one_place setting facts r (suc r) config step played;
      few_ions = played-few_ions setting facts r (suc r) config step played;
      from_source = played-from_source setting facts r (suc r) config step played;
      to_target = played-to_target setting facts r (suc r) config step played;
      use_channel = played-use_channel setting facts r (suc r) config step played;
      stays = played-stays setting facts r (suc r) config step played;
      stayed = played-stayed setting facts r (suc r) config step played;
      some_passes = played-some_passes setting facts r (suc r) config step played;
      empty_slot = played-empty_slot setting facts r (suc r) config step played;
      whole_chain = played-whole_chain setting facts r (suc r) config step played;
      front = played-front setting facts r (suc r) config step played;
      one_activity = played-one_activity setting facts r (suc r) config step played;
      one_crossing = played-one_crossing setting facts r (suc r) config step played;
      swap_in_zone = played-swap_in_zone setting facts r (suc r) config step played;
      swap_neighbours = played-swap_neighbours setting facts r (suc r) config step played;
      swap_turns = played-swap_turns setting facts r (suc r) config step played;
      stayers = played-stayers setting facts r (suc r) config step played;
      passers = played-passers setting facts r (suc r) config step played;
      merges = played-merges setting facts r (suc r) config step played;
      ions_in_zone = played-ions_in_zone setting facts r (suc r) config step played;
      once = once-facts setting steps r sound plays;
      done = done-facts setting steps r sound plays;
      in_order = in_order-facts setting steps r sound plays;
    }

pub run-facts : (setting : SettingValue) (steps : List (List Action)) (t : ℕ) → IsSetting setting → Plays setting steps → length steps ≤ t → IsRun setting (facts_of setting steps) t
run-facts setting steps t sound plays long = record {
  start = start-facts setting steps sound;
  steps = λ r before. step-facts setting steps r sound plays;
  goals = λ s within. goal_needs-facts setting steps s;
  goal = goal-facts setting steps t plays long;
}

pub schedules_have_facts : (setting : SettingValue) (t : ℕ) → IsSetting setting → SchedulesHaveFacts setting t
schedules_have_facts setting t sound steps plays long = (run_iff setting (facts_of setting steps) t).1 (run-facts setting steps t sound plays long)

pub facts_say_uses : (setting : SettingValue) → FactsSayUses setting
facts_say_uses setting steps c t = refl
