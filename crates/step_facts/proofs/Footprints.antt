-- The step of facts: no two of its actions work on one spot, and its actions are the activities of the facts.
use Rattle.std.proofs.Common.{◌≡◌, ◌≢◌, ℕ, ◌<◌, true, false, List, [], ◌∷◌, length, Option, refl, sym, ap, subst, ◌∙◌, inl, inr, arith}
use Rattle.std.specs.Prelude.{AllPairs, Contains, IsTrue, slice_get, ◌==◌}
use Rattle.std.specs.Option.{option_map_or}
use Rattle.std.specs.List.{list_any}
use Rattle.std.proofs.lemmas.Bool.{cases_Bool, and_from, eq-eqb, both_ways, false_from_ne_true}
use Rattle.std.proofs.lemmas.Option.{same_Some}
use Rattle.qc_base.specs.declared.ids.Ion.{Ion}
use Rattle.trap_model.specs.Trap.{place_count}
use Rattle.trap_model.specs.Channels.{channels_of, is_through}
use Rattle.trap_model.specs.declared.channel.Channel.{Channel}
use Rattle.ion_chain.specs.Transfer.{list_at}
use Rattle.step_rules.specs.declared.action.Action.{Action}
use Rattle.step_rules.specs.Setting.{SettingValue}
use Rattle.step_rules.specs.Steps.{place, junction, footprint, AreApart, IsLegal}
use Rattle.step_facts.specs.Facts.{Facts, IsChannel, IsUsed}
use Rattle.step_facts.specs.Activities.{Activity, passage, exchange, operation, IsActivity, works_at, item_of, activities_of}
use Rattle.step_facts.specs.Run.{IsSetting}
use Rattle.step_facts.specs.OfSchedule.{does, are_neighbours}
use Rattle.step_facts.specs.ToSchedule.{action_of, happens, happening, step_of, passing_count, index_of_pair}
use Rattle.step_facts.specs.Agreement.{AgreesInStep}
use Rattle.step_facts.proofs.Lists.{Contains-cons, Contains-filter, Contains-map, AllPairs-map, AreDifferent-filter, in_map, list_any-some, list_any-found}
use Rattle.step_facts.proofs.Bounds.{there-activity, different_activities}
use Rattle.step_facts.proofs.Channels.{Ends, channel_ends, footprint_ends, through_place, through_junction, through_channel, through_number}
use Rattle.step_facts.proofs.Effects.{only_place}
use Rattle.step_facts.proofs.Played.{does-one}
use Rattle.step_facts.proofs.Guards.{CanPlay, step-passes, swapped-neighbours}

-- ---- the actions of the step

-- an activity that happens, and whose action it is
pub record IsActionOf (setting : SettingValue) (facts : Facts) (t : ℕ) (config : List (List Ion)) (action : Action) : Type 0 where
  pub activity : Activity
  pub there : IsActivity setting activity
  pub happens : facts (item_of t activity) ≡ true
  pub is : action_of facts t config activity ≡ action

pub step-action : (setting : SettingValue) (facts : Facts) (t : ℕ) (config : List (List Ion)) (action : Action) → Contains (step_of setting facts t config) action
    → IsActionOf setting facts t config action
step-action setting facts t config action in_step =
    let it = (Contains-map (action_of facts t config) (happening setting facts t) action).0 in_step in
    let there = (Contains-filter (happens facts t) (activities_of setting) it.member).0 it.there in
    record { activity = it.member; there = (there-activity setting it.member).0 there.0; happens = there.1; is = it.is }

pub step-contains : (setting : SettingValue) (facts : Facts) (t : ℕ) (config : List (List Ion)) (a : Activity) → IsActivity setting a → facts (item_of t a) ≡ true
    → Contains (step_of setting facts t config) (action_of facts t config a)
step-contains setting facts t config a activity happen =
    in_map (action_of facts t config) (happening setting facts t) a
    ((Contains-filter (happens facts t) (activities_of setting) a).1 ((there-activity setting a).1 activity, happen))

-- ---- no two work on one spot

-- a place of its action is one at which the activity happens
pub action-works_at : (setting : SettingValue) (facts : Facts) (t : ℕ) (config : List (List Ion)) (a : Activity) (p : ℕ) → IsSetting setting → IsActivity setting a
    → Contains (footprint setting.trap (action_of facts t config a)) (place p) → (works_at p a ≡ true) × (p < place_count setting.trap)
action-works_at setting facts t config (passage c channel) p sound is on_p =
    let count : ℕ = passing_count facts c t (list_at config channel.from.0) in
    let ends : Ends setting channel = channel_ends setting c channel sound.trap is in (
      through_place setting c channel count p sound.trap is on_p,
      elim (footprint_ends setting (action_of facts t config (passage c channel)) channel p (through_channel setting c channel count sound.trap is) on_p) [
        | inl from ↦ omega (arith, ends.from, from)
        | inr to ↦ omega (arith, ends.to, to)
      ],
    )
action-works_at setting facts t config (exchange i j z) p sound is on_p =
    let here : z ≡ p = only_place z p on_p in (eq-eqb z p here, omega (arith, is.2, here))
action-works_at setting facts t config (operation g z) p sound is on_p =
    let here : z ≡ p = only_place z p on_p in (eq-eqb z p here, omega (arith, is.2, here))

-- a junction of its action is that of the channel
pub record IsCrossing (setting : SettingValue) (j : ℕ) (a : Activity) : Type 0 where
  pub number : ℕ
  pub channel : Channel
  pub is : a ≡ passage number channel
  pub through : IsTrue (is_through j channel)
  pub known : j < length setting.trap.junctions

no_junction : (z j : ℕ) → Contains (place z ∷ []) (junction j) → ⊥
no_junction z j on_j = elim ((Contains-cons (place z) [] (junction j)).0 on_j) [ inl here ↦ absurd cc | inr later ↦ absurd (omega (arith, later.1)) ]

pub action-crosses : (setting : SettingValue) (facts : Facts) (t : ℕ) (config : List (List Ion)) (a : Activity) (j : ℕ) → IsSetting setting → IsActivity setting a
    → Contains (footprint setting.trap (action_of facts t config a)) (junction j) → IsCrossing setting j a
action-crosses setting facts t config (passage c channel) j sound is on_j =
    let it = through_junction setting c channel (passing_count facts c t (list_at config channel.from.0)) j sound.trap is on_j in
    record { number = c; channel = channel; is = refl; through = it.0; known = it.1 }
action-crosses setting facts t config (exchange k l z) j sound is on_j = absurd (no_junction z j on_j)
action-crosses setting facts t config (operation g z) j sound is on_j = absurd (no_junction z j on_j)

-- a number is that of one channel
same_channel : (setting : SettingValue) (c d : ℕ) (first second : Channel) → IsChannel setting c first → IsChannel setting d second → c ≡ d → first ≡ second
same_channel setting c d first second is_first is_second same =
    same_Some first second (sym is_first ∙ ap (λ (k : ℕ). slice_get (channels_of setting.trap) k) same ∙ is_second)

-- through a junction one activity goes at most
one-crossing : (setting : SettingValue) (facts : Facts) (r t : ℕ) (config : List (List Ion)) (a b : Activity) (j : ℕ) → CanPlay setting facts r t config → IsActivity setting a → IsActivity setting b
    → facts (item_of t a) ≡ true → facts (item_of t b) ≡ true → IsCrossing setting j a → IsCrossing setting j b → a ≡ b
one-crossing setting facts r t config a b j can is_a is_b happens_a happens_b by_a by_b =
    let there_a : IsChannel setting by_a.number by_a.channel = subst (IsActivity setting) by_a.is is_a in
    let there_b : IsChannel setting by_b.number by_b.channel = subst (IsActivity setting) by_b.is is_b in
    let used_a : IsUsed facts by_a.number t = subst (λ (x : Activity). facts (item_of t x) ≡ true) by_a.is happens_a in
    let used_b : IsUsed facts by_b.number t = subst (λ (x : Activity). facts (item_of t x) ≡ true) by_b.is happens_b in
    let number : by_a.number ≡ by_b.number =
    can.is_step.one_crossing j by_a.number by_b.number by_a.channel by_b.channel by_a.known there_a there_b by_a.through by_b.through used_a used_b in
    let channel : by_a.channel ≡ by_b.channel = same_channel setting by_a.number by_b.number by_a.channel by_b.channel there_a there_b number in
    by_a.is ∙ ap (λ (c : ℕ). passage c by_a.channel) number ∙ ap (passage by_b.number) channel ∙ sym by_b.is

pub different-apart : (setting : SettingValue) (facts : Facts) (r t : ℕ) (config : List (List Ion)) (a b : Activity) → CanPlay setting facts r t config → IsActivity setting a → IsActivity setting b
    → facts (item_of t a) ≡ true → facts (item_of t b) ≡ true → a ≢ b → AreApart setting.trap (action_of facts t config a) (action_of facts t config b)
different-apart setting facts r t config a b can is_a is_b happens_a happens_b differ (place p) on_a on_b =
    let at_a = action-works_at setting facts t config a p can.setting_sound is_a on_a in
    let at_b = action-works_at setting facts t config b p can.setting_sound is_b on_b in
    differ (can.is_step.one_activity p a b at_a.1 is_a is_b at_a.0 at_b.0 happens_a happens_b)
different-apart setting facts r t config a b can is_a is_b happens_a happens_b differ (junction j) on_a on_b =
    differ (one-crossing setting facts r t config a b j can is_a is_b happens_a happens_b
    (action-crosses setting facts t config a j can.setting_sound is_a on_a) (action-crosses setting facts t config b j can.setting_sound is_b on_b))

pub step-apart : (setting : SettingValue) (facts : Facts) (r t : ℕ) (config : List (List Ion)) → CanPlay setting facts r t config → AllPairs (AreApart setting.trap) (step_of setting facts t config)
step-apart setting facts r t config can =
    AllPairs-map (AreApart setting.trap) (action_of facts t config) (happening setting facts t)
    (AreDifferent-filter (happens facts t) (activities_of setting) (different_activities setting))
    (λ a b in_a in_b differ.
    let it = (Contains-filter (happens facts t) (activities_of setting) a).0 in_a in
    let other = (Contains-filter (happens facts t) (activities_of setting) b).0 in_b in
    different-apart setting facts r t config a b can ((there-activity setting a).0 it.0) ((there-activity setting b).0 other.0) it.1 other.1 differ)

pub step-legal : (setting : SettingValue) (facts : Facts) (r t : ℕ) (config : List (List Ion)) → CanPlay setting facts r t config → IsLegal setting config (step_of setting facts t config)
step-legal setting facts r t config can = record {
  passes = step-passes setting facts r t config can;
  apart = step-apart setting facts r t config can;
}

-- ---- the facts say what the step does

-- the action of an activity that happens is that activity
pub action-does : (setting : SettingValue) (facts : Facts) (r t : ℕ) (config : List (List Ion)) (a : Activity) → CanPlay setting facts r t config → IsActivity setting a
    → facts (item_of t a) ≡ true → does setting.trap config a (action_of facts t config a) ≡ true
action-does setting facts r t config (passage c channel) can is happen =
    ap (λ (number : Option ℕ). option_map_or (λ (n : ℕ). n == c) number false)
    (through_number setting c channel (passing_count facts c t (list_at config channel.from.0)) can.setting_sound.trap is)
    ∙ eq-eqb c c refl
action-does setting facts r t config (exchange i j z) can is happen =
    and_from (z == z) (are_neighbours i j (index_of_pair i j (list_at config z)) (list_at config z)) (eq-eqb z z refl)
    (swapped-neighbours setting facts r t config i j z can is happen).0
action-does setting facts r t config (operation g z) can is happen = and_from (z == z) (g == g) (eq-eqb z z refl) (eq-eqb g g refl)

-- what an action of the step is happens by the facts
pub done-activity : (setting : SettingValue) (facts : Facts) (r t : ℕ) (config : List (List Ion)) (a : Activity) (action : Action) → CanPlay setting facts r t config → IsActivity setting a
    → Contains (step_of setting facts t config) action → does setting.trap config a action ≡ true → (facts (item_of t a) ≡ true) × (action_of facts t config a ≡ action)
done-activity setting facts r t config a action can is in_step does_it =
    let by : IsActionOf setting facts t config action = step-action setting facts t config action in_step in
    let other : does setting.trap config by.activity action ≡ true =
    subst (λ (x : Action). does setting.trap config by.activity x ≡ true) by.is (action-does setting facts r t config by.activity can by.there by.happens) in
    let same : by.activity ≡ a = does-one setting config by.activity a action by.there is other does_it in (
      subst (λ (x : Activity). facts (item_of t x) ≡ true) same by.happens,
      ap (action_of facts t config) (sym same) ∙ by.is,
    )

pub step-agrees : (setting : SettingValue) (facts : Facts) (r t : ℕ) (config : List (List Ion)) → CanPlay setting facts r t config
    → AgreesInStep setting facts t config (step_of setting facts t config)
step-agrees setting facts r t config can = record {
  activities = λ a is. elim (cases_Bool (facts (item_of t a))) [
    | inl happen ↦
        happen ∙ sym (list_any-some (does setting.trap config a) (step_of setting facts t config) (action_of facts t config a)
        (step-contains setting facts t config a is happen) (action-does setting facts r t config a can is happen))
    | inr idle ↦ idle ∙ sym (false_from_ne_true (list_any (does setting.trap config a) (step_of setting facts t config)) (λ some.
        let it = list_any-found (does setting.trap config a) (step_of setting facts t config) some in
        both_ways (facts (item_of t a)) idle (done-activity setting facts r t config a it.member can is it.there it.passes).0))
  ];
}
