-- The step of facts: after it the facts of time t agree with the configuration.
use Rattle.std.proofs.Common.{◌≡◌, ℕ, ◌+◌, ◌<◌, Bool, true, false, not, ◌&&◌, ◌||◌, List, [], ◌∷◌, length, Some, None, Option, refl, sym, ap, subst, ◌∙◌, inl, inr, arith}
use Rattle.std.specs.Prelude.{Contains, IsTrue, swap, ◌==◌, nat_lt, ◌⊎◌, if◌then◌else◌}
use Rattle.std.specs.Option.{option_map_or}
use Rattle.std.proofs.lemmas.Bool.{cases_Bool, or_cases, or_left, or_right, eq-eqb, both_ways, false_from_ne_true, not-true, not_from_true, cond-true, cond-false, ltb-true, lt-ltb, le-ltb}
use Rattle.qc_base.specs.declared.ids.Ion.{Ion}
use Rattle.qc_base.specs.declared.ids.End.{End}
use Rattle.qc_base.specs.declared.ids.End.TheVariants.{A, B}
use Rattle.qc_base.specs.declared.ids.PlaceId.{PlaceId}
use Rattle.trap_model.specs.Trap.{place_count, is_zone}
use Rattle.trap_model.specs.Channels.{merges}
use Rattle.trap_parts.specs.Joins.{same_end}
use Rattle.trap_model.specs.declared.channel.Channel.{Channel}
use Rattle.ion_chain.specs.Passing.{outward, leaving, left, joined}
use Rattle.ion_chain.specs.Transfer.{list_at}
use Rattle.step_rules.specs.declared.action.Action.{Action}
use Rattle.step_rules.specs.declared.action.Action.TheVariants as actions
use Rattle.step_rules.specs.Setting.{SettingValue}
use Rattle.step_rules.specs.ActionChannel.{passing}
use Rattle.step_rules.specs.Steps.{place, footprint, after_step}
use Rattle.step_vars.specs.Items.{at_item, ord_item, leave_item, use_item, swap_item, nearer, so, not_so}
use Rattle.step_vars.specs.Lists.{ion_count, is_there, is_before, touches}
use Rattle.step_facts.specs.Facts.{Facts, holds, IsAt, IsUsed, IsChannel, PassesBy, AreSwapped, IsNearerTo, LeavesPlace, EntersPlace}
use Rattle.step_facts.specs.Activities.{Activity, passage, exchange, operation, IsActivity, works_at, item_of}
use Rattle.step_facts.specs.OfSchedule.{does, are_neighbours, channel_number}
use Rattle.step_facts.specs.ToSchedule.{action_of, step_of, passing_count, index_of_pair}
use Rattle.step_facts.specs.Agreement.{Agrees, AreDistinct}
use Rattle.step_facts.proofs.IonLists.{before-reverse, before-turned, before-there_first, before-there_second}
use Rattle.step_facts.proofs.Passing.{there-parted, before-left, there-joined, before-joined_old, before-joined_new, before-joined_across}
use Rattle.step_facts.proofs.Swapping.{there-swap, before-swap_pair, before-swap_other, same_neighbours}
use Rattle.step_facts.proofs.Channels.{Ends, channel_ends, through_number}
use Rattle.step_facts.proofs.Configs.{sound-distinct, sound-after}
use Rattle.step_facts.proofs.Effects.{IsPassage, Effect, idle, leave, come, turn, perform, effect_at}
use Rattle.step_facts.proofs.Played.{does-works_at}
use Rattle.step_facts.proofs.Guards.{CanPlay, passing-counted, passing-leave, passing-stay, slot-empty, same_passage, target-stay, swapped-neighbours}
use Rattle.step_facts.proofs.Footprints.{IsActionOf, step-action, step-contains, action-works_at, action-does, step-legal, done-activity}

-- the configuration after the step
abbrev pub next : SettingValue → Facts → ℕ → List (List Ion) → List (List Ion)
next setting facts t config = after_step setting.trap config (step_of setting facts t config)

-- ---- what happens at a place, by the facts

-- where no action works, no activity happens
pub idle-none : (setting : SettingValue) (facts : Facts) (r t : ℕ) (config : List (List Ion)) (p : ℕ) (a : Activity) → CanPlay setting facts r t config
    → ((action : Action) → Contains (step_of setting facts t config) action → Contains (footprint setting.trap action) (place p) → ⊥)
    → IsActivity setting a → works_at p a ≡ true → facts (item_of t a) ≡ false
idle-none setting facts r t config p a can free is works =
    false_from_ne_true (facts (item_of t a)) (λ happens.
    let action : Action = action_of facts t config a in
    free action (step-contains setting facts t config a is happens)
    (does-works_at setting config a action p can.setting_sound is (action-does setting facts r t config a can is happens) works))

-- a channel through which an action passes ions is used, and as many pass as by the facts
pub passage-used : (setting : SettingValue) (facts : Facts) (r t : ℕ) (config : List (List Ion)) (action : Action) (c : ℕ) (channel : Channel) → CanPlay setting facts r t config
    → IsPassage setting config (step_of setting facts t config) action c channel
    → IsUsed facts c t × (passing action (list_at config channel.from.0) ≡ passing_count facts c t (list_at config channel.from.0))
passage-used setting facts r t config action c channel can it =
    let does_it : does setting.trap config (passage c channel) action ≡ true =
    ap (λ (number : Option ℕ). option_map_or (λ (n : ℕ). n == c) number false) it.number ∙ eq-eqb c c refl in
    let done = done-activity setting facts r t config (passage c channel) action can it.there it.in_step does_it in (
      done.0,
      ap (λ (a : Action). passing a (list_at config channel.from.0)) (sym done.1) ∙ passing-counted setting facts r t config c channel can it.there done.0,
    )

-- an activity at a place where an action of the step works has that action
worker-is : (setting : SettingValue) (facts : Facts) (r t : ℕ) (config : List (List Ion)) (action : Action) (a : Activity) (p : ℕ) → CanPlay setting facts r t config
    → Contains (step_of setting facts t config) action → Contains (footprint setting.trap action) (place p) → IsActivity setting a → works_at p a ≡ true → facts (item_of t a) ≡ true
    → action_of facts t config a ≡ action
worker-is setting facts r t config action a p can in_step on_p is works happens =
    let by : IsActionOf setting facts t config action = step-action setting facts t config action in_step in
    let at = action-works_at setting facts t config by.activity p can.setting_sound by.there (subst (λ (x : Action). Contains (footprint setting.trap x) (place p)) (sym by.is) on_p) in
    let same : a ≡ by.activity = can.is_step.one_activity p a by.activity at.1 is by.there works at.0 happens by.happens in
    ap (action_of facts t config) same ∙ by.is

-- where an action works that passes no ions, no channel is used
none-used : (setting : SettingValue) (facts : Facts) (r t : ℕ) (config : List (List Ion)) (action : Action) (c : ℕ) (channel : Channel) (p : ℕ) → CanPlay setting facts r t config
    → Contains (step_of setting facts t config) action → Contains (footprint setting.trap action) (place p) → channel_number setting.trap action ≡ None → IsChannel setting c channel
    → touches p channel ≡ true → IsUsed facts c t → ⊥
none-used setting facts r t config action c channel p can in_step on_p none is touch used =
    let same : action_of facts t config (passage c channel) ≡ action = worker-is setting facts r t config action (passage c channel) p can in_step on_p is touch used in
    let number : channel_number setting.trap (action_of facts t config (passage c channel)) ≡ Some c =
    through_number setting c channel (passing_count facts c t (list_at config channel.from.0)) can.setting_sound.trap is in
    let missing : channel_number setting.trap (action_of facts t config (passage c channel)) ≡ None = ap (channel_number setting.trap) same ∙ none in
    absurd cc

-- ---- places

same_truth : (a b : Bool) → (a ≡ true → b ≡ true) → (b ≡ true → a ≡ true) → a ≡ b
same_truth true b first second = sym (first refl)
same_truth false b first second = sym (false_from_ne_true b (λ e. both_ways false refl (second e)))

same_number : (c d : ℕ) (first second : Channel) → passage c first ≡ passage d second → c ≡ d
same_number c d first second e = cc

-- at each place of a used channel, it is the channel by which ions pass
used-one : (setting : SettingValue) (facts : Facts) (r t : ℕ) (config : List (List Ion)) (c d : ℕ) (channel other : Channel) (i p : ℕ) → CanPlay setting facts r t config → i < ion_count setting
    → p < place_count setting.trap → IsChannel setting c channel → IsUsed facts c t → touches p channel ≡ true → IsChannel setting d other → touches p other ≡ true → PassesBy facts i d t
    → passage c channel ≡ passage d other
used-one setting facts r t config c d channel other i p can known here is used touch is_other touch_other passes =
    can.is_step.one_activity p (passage c channel) (passage d other) here is is_other touch touch_other used (can.is_step.use_channel d other i is_other known passes)

begins-touches : (channel : Channel) (p : ℕ) → channel.from.0 ≡ p → touches p channel ≡ true
begins-touches channel p e = or_left (channel.from.0 == p) (channel.to.0 == p) (eq-eqb channel.from.0 p e)

ends-touches : (channel : Channel) (p : ℕ) → channel.to.0 ≡ p → touches p channel ≡ true
ends-touches channel p e = or_right (channel.from.0 == p) (channel.to.0 == p) (eq-eqb channel.to.0 p e)

-- where no channel at the place is used, the same ions are there
pub unused-place : (setting : SettingValue) (facts : Facts) (r t : ℕ) (config : List (List Ion)) (i p : ℕ) → CanPlay setting facts r t config → i < ion_count setting → p < place_count setting.trap
    → ((c : ℕ) (channel : Channel) → IsChannel setting c channel → touches p channel ≡ true → IsUsed facts c t → ⊥)
    → facts (at_item i p t) ≡ facts (at_item i p r)
unused-place setting facts r t config i p can known here unused =
    same_truth (facts (at_item i p t)) (facts (at_item i p r))
    (λ now. elim (can.is_step.stayed i p known here now) [
      | inl stayed ↦ stayed
      | inr enters ↦ absurd (unused enters.number enters.channel enters.there
          (ends-touches enters.channel p enters.at_place)
          (can.is_step.use_channel enters.number enters.channel i enters.there known enters.passes))
    ])
    (λ was. elim (can.is_step.stays i p known here was) [
      | inl stays ↦ stays
      | inr leaves ↦ absurd (unused leaves.number leaves.channel leaves.there
          (begins-touches leaves.channel p leaves.at_place)
          (can.is_step.use_channel leaves.number leaves.channel i leaves.there known leaves.passes))
    ])

-- an ion that leaves a place of a used channel leaves by that channel, which begins there
leaves-used : (setting : SettingValue) (facts : Facts) (r t : ℕ) (config : List (List Ion)) (c : ℕ) (channel : Channel) (i p : ℕ) → CanPlay setting facts r t config → i < ion_count setting
    → p < place_count setting.trap → IsChannel setting c channel → IsUsed facts c t → touches p channel ≡ true → LeavesPlace setting facts i p t
    → PassesBy facts i c t × (channel.from.0 ≡ p)
leaves-used setting facts r t config c channel i p can known here is used touch leaves =
    let same : passage c channel ≡ passage leaves.number leaves.channel =
    used-one setting facts r t config c leaves.number channel leaves.channel i p can known here is used touch leaves.there (begins-touches leaves.channel p leaves.at_place) leaves.passes in (
      subst (λ (k : ℕ). facts (leave_item i k t) ≡ true) (sym (same_number c leaves.number channel leaves.channel same)) leaves.passes,
      ap (λ (x : Channel). x.from.0) (same_passage c leaves.number channel leaves.channel same) ∙ leaves.at_place,
    )

-- and one that comes there comes by that channel, which ends there
enters-used : (setting : SettingValue) (facts : Facts) (r t : ℕ) (config : List (List Ion)) (c : ℕ) (channel : Channel) (i p : ℕ) → CanPlay setting facts r t config → i < ion_count setting
    → p < place_count setting.trap → IsChannel setting c channel → IsUsed facts c t → touches p channel ≡ true → EntersPlace setting facts i p t
    → PassesBy facts i c t × (channel.to.0 ≡ p)
enters-used setting facts r t config c channel i p can known here is used touch enters =
    let same : passage c channel ≡ passage enters.number enters.channel =
    used-one setting facts r t config c enters.number channel enters.channel i p can known here is used touch enters.there (ends-touches enters.channel p enters.at_place) enters.passes in (
      subst (λ (k : ℕ). facts (leave_item i k t) ≡ true) (sym (same_number c enters.number channel enters.channel same)) enters.passes,
      ap (λ (x : Channel). x.to.0) (same_passage c enters.number channel enters.channel same) ∙ enters.at_place,
    )

and_not : (a b c : Bool) → (a ≡ true → b ≡ true) → (a ≡ true → c ≡ true → ⊥) → (b ≡ true → c ≡ false → a ≡ true) → a ≡ (b && not c)
and_not true b true first apart third = absurd (apart refl refl)
and_not true true false first apart third = refl
and_not true false false first apart third = sym (first refl)
and_not false true true first apart third = refl
and_not false true false first apart third = third refl refl
and_not false false c first apart third = refl

either : (a b c : Bool) → (a ≡ true → (b ≡ true) ⊎ (c ≡ true)) → (b ≡ true → a ≡ true) → (c ≡ true → a ≡ true) → a ≡ (b || c)
either a true c first second third = second refl
either a false true first second third = third refl
either a false false first second third = false_from_ne_true a (λ e. elim (first e) [ inl h ↦ both_ways false refl h | inr h ↦ both_ways false refl h ])

-- where a channel begins that is used, those stay that don't pass
pub source-place : (setting : SettingValue) (facts : Facts) (r t : ℕ) (config : List (List Ion)) (i c : ℕ) (channel : Channel) → CanPlay setting facts r t config → i < ion_count setting
    → IsChannel setting c channel → IsUsed facts c t → facts (at_item i channel.from.0 t) ≡ (facts (at_item i channel.from.0 r) && not (facts (leave_item i c t)))
source-place setting facts r t config i c channel can known is used =
    let ends : Ends setting channel = channel_ends setting c channel can.setting_sound.trap is in
    let touch : touches channel.from.0 channel ≡ true = begins-touches channel channel.from.0 refl in
    and_not (facts (at_item i channel.from.0 t)) (facts (at_item i channel.from.0 r)) (facts (leave_item i c t))
    (λ now. elim (can.is_step.stayed i channel.from.0 known ends.from now) [
      | inl stayed ↦ stayed
      | inr enters ↦ absurd (ends.differ (sym (enters-used setting facts r t config c channel i channel.from.0 can known ends.from is used touch enters).1))
    ])
    (λ now passes. ends.differ (can.is_step.one_place i channel.from.0 channel.to.0 known ends.from ends.to now (can.is_step.to_target c channel i is known passes)))
    (λ was stays. elim (can.is_step.stays i channel.from.0 known ends.from was) [
      | inl now ↦ now
      | inr leaves ↦ absurd (both_ways (facts (leave_item i c t)) stays (leaves-used setting facts r t config c channel i channel.from.0 can known ends.from is used touch leaves).0)
    ])

-- where it ends, those are that were there and those that pass
pub target-place : (setting : SettingValue) (facts : Facts) (r t : ℕ) (config : List (List Ion)) (i c : ℕ) (channel : Channel) → CanPlay setting facts r t config → i < ion_count setting
    → IsChannel setting c channel → IsUsed facts c t → facts (at_item i channel.to.0 t) ≡ (facts (at_item i channel.to.0 r) || facts (leave_item i c t))
target-place setting facts r t config i c channel can known is used =
    let ends : Ends setting channel = channel_ends setting c channel can.setting_sound.trap is in
    let touch : touches channel.to.0 channel ≡ true = ends-touches channel channel.to.0 refl in
    either (facts (at_item i channel.to.0 t)) (facts (at_item i channel.to.0 r)) (facts (leave_item i c t))
    (λ now. elim (can.is_step.stayed i channel.to.0 known ends.to now) [
      | inl stayed ↦ inl stayed
      | inr enters ↦ inr (enters-used setting facts r t config c channel i channel.to.0 can known ends.to is used touch enters).0
    ])
    (λ was. target-stay setting facts r t config c channel i can is used known was)
    (λ passes. can.is_step.to_target c channel i is known passes)

leave-place : (setting : SettingValue) (facts : Facts) (r t : ℕ) (config : List (List Ion)) (action : Action) (i c : ℕ) (channel : Channel) → CanPlay setting facts r t config → i < ion_count setting
    → IsPassage setting config (step_of setting facts t config) action c channel → facts (at_item i channel.from.0 t) ≡ is_there i (list_at (next setting facts t config) channel.from.0)
leave-place setting facts r t config action i c channel can known it =
    let ions : List Ion = list_at config channel.from.0 in
    let used = passage-used setting facts r t config action c channel can it in
    let ends : Ends setting channel = channel_ends setting c channel can.setting_sound.trap it.there in
    source-place setting facts r t config i c channel can known it.there used.0
    ∙ ap (λ (b : Bool). b && not (facts (leave_item i c t))) (can.before.places i channel.from.0 known ends.from)
    ∙ sym (passing-stay setting facts r t config c channel i can it.there used.0 known)
    ∙ ap (λ (count : ℕ). is_there i (left channel.from_end count ions)) (sym used.1) ∙ ap (is_there i) (sym it.source)

-- those that come are those that pass
comes-passes : (setting : SettingValue) (facts : Facts) (r t : ℕ) (config : List (List Ion)) (action : Action) (i c : ℕ) (channel : Channel) → CanPlay setting facts r t config → i < ion_count setting
    → IsPassage setting config (step_of setting facts t config) action c channel
    → facts (leave_item i c t) ≡ is_there i (leaving channel.from_end (passing action (list_at config channel.from.0)) (list_at config channel.from.0))
comes-passes setting facts r t config action i c channel can known it =
    let used = passage-used setting facts r t config action c channel can it in
    sym (passing-leave setting facts r t config c channel i can it.there used.0 known)
    ∙ ap (λ (count : ℕ). is_there i (leaving channel.from_end count (list_at config channel.from.0))) (sym used.1)

come-place : (setting : SettingValue) (facts : Facts) (r t : ℕ) (config : List (List Ion)) (action : Action) (i c : ℕ) (channel : Channel) → CanPlay setting facts r t config → i < ion_count setting
    → IsPassage setting config (step_of setting facts t config) action c channel → facts (at_item i channel.to.0 t) ≡ is_there i (list_at (next setting facts t config) channel.to.0)
come-place setting facts r t config action i c channel can known it =
    let ions : List Ion = list_at config channel.from.0 in
    let others : List Ion = list_at config channel.to.0 in
    let coming : List Ion = leaving channel.from_end (passing action ions) ions in
    let used = passage-used setting facts r t config action c channel can it in
    let ends : Ends setting channel = channel_ends setting c channel can.setting_sound.trap it.there in
    target-place setting facts r t config i c channel can known it.there used.0
    ∙ ap (λ (b : Bool). b || facts (leave_item i c t)) (can.before.places i channel.to.0 known ends.to)
    ∙ ap (λ (b : Bool). is_there i others || b) (comes-passes setting facts r t config action i c channel can known it)
    ∙ sym (there-joined i channel.to_end coming others) ∙ ap (is_there i) (sym it.target)

place-by : (setting : SettingValue) (facts : Facts) (r t : ℕ) (config : List (List Ion)) (i p : ℕ) → CanPlay setting facts r t config → i < ion_count setting → p < place_count setting.trap
    → Effect setting config (step_of setting facts t config) p → facts (at_item i p t) ≡ is_there i (list_at (next setting facts t config) p)
place-by setting facts r t config i p can known here (idle free same) =
    unused-place setting facts r t config i p can known here
    (λ c channel is touch used. both_ways (facts (use_item c t)) (idle-none setting facts r t config p (passage c channel) can free is touch) used)
    ∙ can.before.places i p known here ∙ ap (is_there i) (sym same)
place-by setting facts r t config i p can known here (leave action c channel it from) =
    subst (λ (q : ℕ). facts (at_item i q t) ≡ is_there i (list_at (next setting facts t config) q)) from (leave-place setting facts r t config action i c channel can known it)
place-by setting facts r t config i p can known here (come action c channel it to) =
    subst (λ (q : ℕ). facts (at_item i q t) ≡ is_there i (list_at (next setting facts t config) q)) to (come-place setting facts r t config action i c channel can known it)
place-by setting facts r t config i p can known here (turn index in_step within same) =
    unused-place setting facts r t config i p can known here
    (λ c channel is touch used. none-used setting facts r t config (actions.Swap (record { 0 = p }) index) c channel p can in_step (0, omega arith, refl) refl is touch used)
    ∙ can.before.places i p known here ∙ sym (there-swap i index (list_at config p) within) ∙ ap (is_there i) (sym same)
place-by setting facts r t config i p can known here (perform op in_step same) =
    unused-place setting facts r t config i p can known here
    (λ c channel is touch used. none-used setting facts r t config (actions.Op (record { 0 = p }) op) c channel p can in_step (0, omega arith, refl) refl is touch used)
    ∙ can.before.places i p known here ∙ ap (is_there i) (sym same)

pub places-after : (setting : SettingValue) (facts : Facts) (r t : ℕ) (config : List (List Ion)) (i p : ℕ) → CanPlay setting facts r t config → i < ion_count setting → p < place_count setting.trap
    → facts (at_item i p t) ≡ is_there i (list_at (next setting facts t config) p)
places-after setting facts r t config i p can known here =
    place-by setting facts r t config i p can known here
    (effect_at setting config (step_of setting facts t config) p can.setting_sound can.sound (step-legal setting facts r t config can))

-- ---- orders, by what the step does at the place

-- two ions of a place that both stay there and don't change places keep their order
stayers-order : (setting : SettingValue) (facts : Facts) (r t : ℕ) (config : List (List Ion)) (i j p : ℕ) → CanPlay setting facts r t config → i < j → j < ion_count setting → p < place_count setting.trap
    → is_there i (list_at config p) ≡ true → is_there j (list_at config p) ≡ true → IsAt facts i p t → IsAt facts j p t
    → (IsTrue (is_zone setting.trap p) → facts (swap_item i j p t) ≡ false) → facts (ord_item i j t) ≡ is_before i j (list_at config p)
stayers-order setting facts r t config i j p can up known here was_i was_j now_i now_j no_swap =
    let known_i : i < ion_count setting = omega arith in
    can.is_step.stayers i j p up known here (can.before.places i p known_i here ∙ was_i) (can.before.places j p known here ∙ was_j) now_i now_j no_swap
    ∙ can.before.orders i j p up known here was_i was_j

-- where ions pass through a channel, none change places
no-swap : (setting : SettingValue) (facts : Facts) (r t : ℕ) (config : List (List Ion)) (i j c : ℕ) (channel : Channel) (p : ℕ) → CanPlay setting facts r t config → i < j → j < ion_count setting → p < place_count setting.trap
    → IsChannel setting c channel → IsUsed facts c t → touches p channel ≡ true → IsTrue (is_zone setting.trap p) → facts (swap_item i j p t) ≡ false
no-swap setting facts r t config i j c channel p can up known here is used touch zone =
    false_from_ne_true (facts (swap_item i j p t)) (λ swapped.
    let same : passage c channel ≡ exchange i j p =
    can.is_step.one_activity p (passage c channel) (exchange i j p) here is (up, known, ltb-true p (length setting.trap.zones) zone) touch (eq-eqb p p refl) used swapped in
    absurd cc)

-- the order at a place, where both ions are there after the step
abbrev IsOrdered : SettingValue → Facts → ℕ → List (List Ion) → ℕ → ℕ → ℕ → Type 0
IsOrdered setting facts t config i j p =
    IsTrue (is_there i (list_at (next setting facts t config) p)) → IsTrue (is_there j (list_at (next setting facts t config) p))
    → facts (ord_item i j t) ≡ is_before i j (list_at (next setting facts t config) p)

leave-order : (setting : SettingValue) (facts : Facts) (r t : ℕ) (config : List (List Ion)) (action : Action) (i j c : ℕ) (channel : Channel) → CanPlay setting facts r t config → i < j → j < ion_count setting
    → IsPassage setting config (step_of setting facts t config) action c channel → IsOrdered setting facts t config i j channel.from.0
leave-order setting facts r t config action i j c channel can up known it there_i there_j =
    let ions : List Ion = list_at config channel.from.0 in
    let count : ℕ = passing action ions in
    let known_i : i < ion_count setting = omega arith in
    let used = passage-used setting facts r t config action c channel can it in
    let ends : Ends setting channel = channel_ends setting c channel can.setting_sound.trap it.there in
    let stays_i : is_there i (left channel.from_end count ions) ≡ true = sym (ap (is_there i) it.source) ∙ there_i in
    let stays_j : is_there j (left channel.from_end count ions) ≡ true = sym (ap (is_there j) it.source) ∙ there_j in
    stayers-order setting facts r t config i j channel.from.0 can up known ends.from
    (there-parted i channel.from_end count ions ∙ or_left (is_there i (left channel.from_end count ions)) (is_there i (leaving channel.from_end count ions)) stays_i)
    (there-parted j channel.from_end count ions ∙ or_left (is_there j (left channel.from_end count ions)) (is_there j (leaving channel.from_end count ions)) stays_j)
    (places-after setting facts r t config i channel.from.0 can known_i ends.from ∙ there_i) (places-after setting facts r t config j channel.from.0 can known ends.from ∙ there_j)
    (no-swap setting facts r t config i j c channel channel.from.0 can up known ends.from it.there used.0 (begins-touches channel channel.from.0 refl))
    ∙ sym (before-left i j channel.from_end count ions (sound-distinct setting config channel.from.0 can.sound) stays_i stays_j) ∙ ap (is_before i j) (sym it.source)

-- what nearness says of the order
nearer-is : (facts : Facts) (i j t : ℕ) → i < j → holds facts (nearer i j t) ≡ true → facts (ord_item i j t) ≡ true
nearer-is facts i j t up near = sym (ap (holds facts) (cond-true (nat_lt i j) (so (ord_item i j t)) (not_so (ord_item j i t)) (lt-ltb i j up))) ∙ near

nearer-not : (facts : Facts) (i j t : ℕ) → i < j → holds facts (nearer j i t) ≡ true → facts (ord_item i j t) ≡ false
nearer-not facts i j t up near =
    not-true (facts (ord_item i j t)) (sym (ap (holds facts) (cond-false (nat_lt j i) (so (ord_item j i t)) (not_so (ord_item i j t)) (le-ltb j i (omega arith)))) ∙ near)

before-not : (i j : ℕ) (ions : List Ion) → i < j → AreDistinct ions → is_before j i ions ≡ true → is_before i j ions ≡ false
before-not i j ions up distinct before =
    before-turned i j ions distinct (λ e. omega arith) (before-there_second j i ions before) (before-there_first j i ions before)
    ∙ not_from_true (is_before j i ions) before

nearer-first : (facts : Facts) (end : End) (i j t : ℕ) (ions : List Ion) → i < j → AreDistinct ions → IsNearerTo facts end i j t → is_before j i (outward end ions) ≡ true
    → facts (ord_item i j t) ≡ is_before i j ions
nearer-first facts A i j t ions up distinct near before = nearer-is facts i j t up near ∙ sym (sym (before-reverse j i ions distinct) ∙ before)
nearer-first facts B i j t ions up distinct near before = nearer-not facts i j t up near ∙ sym (before-not i j ions up distinct before)

nearer-second : (facts : Facts) (end : End) (i j t : ℕ) (ions : List Ion) → i < j → AreDistinct ions → IsNearerTo facts end j i t → is_before i j (outward end ions) ≡ true
    → facts (ord_item i j t) ≡ is_before i j ions
nearer-second facts A i j t ions up distinct near before =
    nearer-not facts i j t up near ∙ sym (before-not i j ions up distinct (sym (before-reverse i j ions distinct) ∙ before))
nearer-second facts B i j t ions up distinct near before = nearer-is facts i j t up near ∙ sym before

some_long : (i : ℕ) (ions : List Ion) → is_there i ions ≡ true → length ions ≡ 0 → ⊥
some_long i [] there none = absurd cc
some_long i (ion ∷ ions) there none = omega arith

-- a place of a used channel where ions were is a zone into which they merge
into-zone : (setting : SettingValue) (facts : Facts) (r t : ℕ) (config : List (List Ion)) (c : ℕ) (channel : Channel) (i : ℕ) → CanPlay setting facts r t config → IsChannel setting c channel → IsUsed facts c t
    → is_there i (list_at config channel.to.0) ≡ true → merges channel.kind ≡ true
into-zone setting facts r t config c channel i can is used there = elim (cases_Bool (merges channel.kind)) [
  | inl merge ↦ merge
  | inr slot ↦ absurd (some_long i (list_at config channel.to.0) there (slot-empty setting facts r t config c channel can is used slot))
]

-- where ions come, none is twice
come-distinct : (setting : SettingValue) (facts : Facts) (r t : ℕ) (config : List (List Ion)) (action : Action) (c : ℕ) (channel : Channel) → CanPlay setting facts r t config
    → IsPassage setting config (step_of setting facts t config) action c channel
    → AreDistinct (joined channel.to_end (leaving channel.from_end (passing action (list_at config channel.from.0)) (list_at config channel.from.0)) (list_at config channel.to.0))
come-distinct setting facts r t config action c channel can it =
    subst AreDistinct it.target (sound-distinct setting (next setting facts t config) channel.to.0
    (sound-after setting config (step_of setting facts t config) can.setting_sound can.sound (step-legal setting facts r t config can)))

-- the two were there
come-old : (setting : SettingValue) (facts : Facts) (r t : ℕ) (config : List (List Ion)) (action : Action) (i j c : ℕ) (channel : Channel) → CanPlay setting facts r t config → i < j → j < ion_count setting
    → IsPassage setting config (step_of setting facts t config) action c channel → is_there i (list_at config channel.to.0) ≡ true → is_there j (list_at config channel.to.0) ≡ true
    → IsOrdered setting facts t config i j channel.to.0
come-old setting facts r t config action i j c channel can up known it was_i was_j there_i there_j =
    let ions : List Ion = list_at config channel.from.0 in
    let others : List Ion = list_at config channel.to.0 in
    let coming : List Ion = leaving channel.from_end (passing action ions) ions in
    let known_i : i < ion_count setting = omega arith in
    let used = passage-used setting facts r t config action c channel can it in
    let ends : Ends setting channel = channel_ends setting c channel can.setting_sound.trap it.there in
    stayers-order setting facts r t config i j channel.to.0 can up known ends.to was_i was_j
    (places-after setting facts r t config i channel.to.0 can known_i ends.to ∙ there_i) (places-after setting facts r t config j channel.to.0 can known ends.to ∙ there_j)
    (no-swap setting facts r t config i j c channel channel.to.0 can up known ends.to it.there used.0 (ends-touches channel channel.to.0 refl))
    ∙ sym (before-joined_old i j channel.to_end coming others (sound-distinct setting config channel.to.0 can.sound)
    (come-distinct setting facts r t config action c channel can it) was_i was_j)
    ∙ ap (is_before i j) (sym it.target)

-- the two come
come-new : (setting : SettingValue) (facts : Facts) (r t : ℕ) (config : List (List Ion)) (action : Action) (i j c : ℕ) (channel : Channel) → CanPlay setting facts r t config → i < j → j < ion_count setting
    → IsPassage setting config (step_of setting facts t config) action c channel
    → is_there i (leaving channel.from_end (passing action (list_at config channel.from.0)) (list_at config channel.from.0)) ≡ true
    → is_there j (leaving channel.from_end (passing action (list_at config channel.from.0)) (list_at config channel.from.0)) ≡ true
    → facts (ord_item i j t) ≡ is_before i j (list_at (next setting facts t config) channel.to.0)
come-new setting facts r t config action i j c channel can up known it comes_i comes_j =
    let ions : List Ion = list_at config channel.from.0 in
    let others : List Ion = list_at config channel.to.0 in
    let count : ℕ = passing action ions in
    let known_i : i < ion_count setting = omega arith in
    let ends : Ends setting channel = channel_ends setting c channel can.setting_sound.trap it.there in
    let was_i : is_there i ions ≡ true =
    there-parted i channel.from_end count ions ∙ or_right (is_there i (left channel.from_end count ions)) (is_there i (leaving channel.from_end count ions)) comes_i in
    let was_j : is_there j ions ≡ true =
    there-parted j channel.from_end count ions ∙ or_right (is_there j (left channel.from_end count ions)) (is_there j (leaving channel.from_end count ions)) comes_j in
    can.is_step.passers i j c channel up known it.there
    (comes-passes setting facts r t config action i c channel can known_i it ∙ comes_i) (comes-passes setting facts r t config action j c channel can known it ∙ comes_j)
    ∙ ap (λ (b : Bool). if same_end channel.from_end channel.to_end then not b else b) (can.before.orders i j channel.from.0 up known ends.from was_i was_j)
    ∙ sym (before-joined_new i j channel.from_end channel.to_end count ions others (sound-distinct setting config channel.from.0 can.sound)
    (come-distinct setting facts r t config action c channel can it) (λ e. omega arith) comes_i comes_j)
    ∙ ap (is_before i j) (sym it.target)

-- the first was there, and the second comes; and the other way round
come-second : (setting : SettingValue) (facts : Facts) (r t : ℕ) (config : List (List Ion)) (action : Action) (i j c : ℕ) (channel : Channel) → CanPlay setting facts r t config → i < j → j < ion_count setting
    → IsPassage setting config (step_of setting facts t config) action c channel → is_there i (list_at config channel.to.0) ≡ true
    → is_there j (leaving channel.from_end (passing action (list_at config channel.from.0)) (list_at config channel.from.0)) ≡ true
    → facts (ord_item i j t) ≡ is_before i j (list_at (next setting facts t config) channel.to.0)
come-second setting facts r t config action i j c channel can up known it was comes =
    let ions : List Ion = list_at config channel.from.0 in
    let others : List Ion = list_at config channel.to.0 in
    let coming : List Ion = leaving channel.from_end (passing action ions) ions in
    let known_i : i < ion_count setting = omega arith in
    let used = passage-used setting facts r t config action c channel can it in
    let ends : Ends setting channel = channel_ends setting c channel can.setting_sound.trap it.there in
    let near : IsNearerTo facts channel.to_end j i t =
    can.is_step.merges c channel i j it.there (into-zone setting facts r t config c channel i can it.there used.0 was) known_i known (λ e. omega arith)
    (comes-passes setting facts r t config action j c channel can known it ∙ comes) (can.before.places i channel.to.0 known_i ends.to ∙ was) in
    nearer-second facts channel.to_end i j t (joined channel.to_end coming others) up (come-distinct setting facts r t config action c channel can it) near
    (before-joined_across i j channel.to_end coming others was comes)
    ∙ ap (is_before i j) (sym it.target)

come-first : (setting : SettingValue) (facts : Facts) (r t : ℕ) (config : List (List Ion)) (action : Action) (i j c : ℕ) (channel : Channel) → CanPlay setting facts r t config → i < j → j < ion_count setting
    → IsPassage setting config (step_of setting facts t config) action c channel
    → is_there i (leaving channel.from_end (passing action (list_at config channel.from.0)) (list_at config channel.from.0)) ≡ true → is_there j (list_at config channel.to.0) ≡ true
    → facts (ord_item i j t) ≡ is_before i j (list_at (next setting facts t config) channel.to.0)
come-first setting facts r t config action i j c channel can up known it comes was =
    let ions : List Ion = list_at config channel.from.0 in
    let others : List Ion = list_at config channel.to.0 in
    let coming : List Ion = leaving channel.from_end (passing action ions) ions in
    let known_i : i < ion_count setting = omega arith in
    let used = passage-used setting facts r t config action c channel can it in
    let ends : Ends setting channel = channel_ends setting c channel can.setting_sound.trap it.there in
    let near : IsNearerTo facts channel.to_end i j t =
    can.is_step.merges c channel j i it.there (into-zone setting facts r t config c channel j can it.there used.0 was) known known_i (λ e. omega arith)
    (comes-passes setting facts r t config action i c channel can known_i it ∙ comes) (can.before.places j channel.to.0 known ends.to ∙ was) in
    nearer-first facts channel.to_end i j t (joined channel.to_end coming others) up (come-distinct setting facts r t config action c channel can it) near
    (before-joined_across j i channel.to_end coming others was comes)
    ∙ ap (is_before i j) (sym it.target)

come-order : (setting : SettingValue) (facts : Facts) (r t : ℕ) (config : List (List Ion)) (action : Action) (i j c : ℕ) (channel : Channel) → CanPlay setting facts r t config → i < j → j < ion_count setting
    → IsPassage setting config (step_of setting facts t config) action c channel → IsOrdered setting facts t config i j channel.to.0
come-order setting facts r t config action i j c channel can up known it there_i there_j =
    let ions : List Ion = list_at config channel.from.0 in
    let others : List Ion = list_at config channel.to.0 in
    let coming : List Ion = leaving channel.from_end (passing action ions) ions in
    elim (or_cases (is_there i others) (is_there i coming) (sym (there-joined i channel.to_end coming others) ∙ sym (ap (is_there i) it.target) ∙ there_i)) [
      | inl was_i ↦ elim (or_cases (is_there j others) (is_there j coming) (sym (there-joined j channel.to_end coming others) ∙ sym (ap (is_there j) it.target) ∙ there_j)) [
        | inl was_j ↦ come-old setting facts r t config action i j c channel can up known it was_i was_j there_i there_j
        | inr comes_j ↦ come-second setting facts r t config action i j c channel can up known it was_i comes_j
      ]
      | inr comes_i ↦ elim (or_cases (is_there j others) (is_there j coming) (sym (there-joined j channel.to_end coming others) ∙ sym (ap (is_there j) it.target) ∙ there_j)) [
        | inl was_j ↦ come-first setting facts r t config action i j c channel can up known it comes_i was_j
        | inr comes_j ↦ come-new setting facts r t config action i j c channel can up known it comes_i comes_j
      ]
    ]

-- the ions that a swap of the step exchanges
record IsSwapOf (setting : SettingValue) (facts : Facts) (t : ℕ) (config : List (List Ion)) (p index : ℕ) : Type 0 where
  first : ℕ
  second : ℕ
  activity : IsActivity setting (exchange first second p)
  swapped : AreSwapped facts first second p t
  is : index_of_pair first second (list_at config p) ≡ index

same_swap : (y z : PlaceId) (k l : ℕ) → actions.Swap y k ≡ actions.Swap z l → (y ≡ z) × (k ≡ l)
same_swap y z k l e = (cc, cc)

swap-of : (setting : SettingValue) (facts : Facts) (r t : ℕ) (config : List (List Ion)) (a : Activity) (p index : ℕ) → CanPlay setting facts r t config → IsActivity setting a → facts (item_of t a) ≡ true
    → action_of facts t config a ≡ actions.Swap (record { 0 = p }) index → IsSwapOf setting facts t config p index
swap-of setting facts r t config (passage c channel) p index can is happens same =
    let number = through_number setting c channel (passing_count facts c t (list_at config channel.from.0)) can.setting_sound.trap is in
    let missing : channel_number setting.trap (action_of facts t config (passage c channel)) ≡ None = ap (channel_number setting.trap) same in
    absurd cc
swap-of setting facts r t config (exchange i j z) p index can is happens same =
    let parts = same_swap (record { 0 = z }) (record { 0 = p }) (index_of_pair i j (list_at config z)) index same in
    let zone : z ≡ p = ap (λ (q : PlaceId). q.0) parts.0 in
    record {
      first = i;
      second = j;
      activity = (is.0, is.1, omega (arith, is.2, zone));
      swapped = subst (λ (q : ℕ). facts (swap_item i j q t) ≡ true) zone happens;
      is = ap (λ (q : ℕ). index_of_pair i j (list_at config q)) (sym zone) ∙ parts.1;
    }
swap-of setting facts r t config (operation g z) p index can is happens same = absurd cc

-- of two ions that a swap of the step exchanges, and of two that it doesn't
turn-pair : (setting : SettingValue) (facts : Facts) (r t : ℕ) (config : List (List Ion)) (i j p : ℕ) → CanPlay setting facts r t config → i < j → j < ion_count setting → p < place_count setting.trap
    → (index : ℕ) → IsSwapOf setting facts t config p index
    → is_there i (list_at config p) ≡ true → is_there j (list_at config p) ≡ true → are_neighbours i j index (list_at config p) ≡ true
    → facts (ord_item i j t) ≡ is_before i j (swap (list_at config p) index (index + 1))
turn-pair setting facts r t config i j p can up known here index by was_i was_j beside =
    let ions : List Ion = list_at config p in
    let other : are_neighbours by.first by.second index ions ≡ true =
    subst (λ (k : ℕ). are_neighbours by.first by.second k ions ≡ true) by.is (swapped-neighbours setting facts r t config by.first by.second p can by.activity by.swapped).0 in
    let same = same_neighbours i j by.first by.second index ions up by.activity.0 beside other in
    let swapped : AreSwapped facts i j p t =
    subst (λ (m : ℕ). AreSwapped facts m j p t) (sym same.0) (subst (λ (n : ℕ). AreSwapped facts by.first n p t) (sym same.1) by.swapped) in
    can.is_step.swap_turns i j p up known by.activity.2 swapped ∙ ap not (can.before.orders i j p up known here was_i was_j)
    ∙ sym (before-swap_pair i j index ions (sound-distinct setting config p can.sound) (λ e. omega arith) beside)

turn-other : (setting : SettingValue) (facts : Facts) (r t : ℕ) (config : List (List Ion)) (i j p : ℕ) → CanPlay setting facts r t config → i < j → j < ion_count setting → p < place_count setting.trap
    → (index : ℕ) → Contains (step_of setting facts t config) (actions.Swap (record { 0 = p }) index)
    → index + 1 < length (list_at config p) → is_there i (list_at config p) ≡ true → is_there j (list_at config p) ≡ true → IsAt facts i p t → IsAt facts j p t
    → are_neighbours i j index (list_at config p) ≡ false → facts (ord_item i j t) ≡ is_before i j (swap (list_at config p) index (index + 1))
turn-other setting facts r t config i j p can up known here index in_step within was_i was_j now_i now_j apart =
    let ions : List Ion = list_at config p in
    stayers-order setting facts r t config i j p can up known here was_i was_j now_i now_j
    (λ zone. false_from_ne_true (facts (swap_item i j p t)) (λ swapped.
    let activity : IsActivity setting (exchange i j p) = (up, known, ltb-true p (length setting.trap.zones) zone) in
    let same = worker-is setting facts r t config (actions.Swap (record { 0 = p }) index) (exchange i j p) p can in_step (0, omega arith, refl) activity (eq-eqb p p refl) swapped in
    let at : index_of_pair i j ions ≡ index = (same_swap (record { 0 = p }) (record { 0 = p }) (index_of_pair i j ions) index same).1 in
    both_ways (are_neighbours i j index ions) apart
    (subst (λ (k : ℕ). are_neighbours i j k ions ≡ true) at (swapped-neighbours setting facts r t config i j p can activity swapped).0)))
    ∙ sym (before-swap_other i j index ions (sound-distinct setting config p can.sound) (λ e. omega arith) within apart)

pub orders-after : (setting : SettingValue) (facts : Facts) (r t : ℕ) (config : List (List Ion)) (i j p : ℕ) → CanPlay setting facts r t config → i < j → j < ion_count setting → p < place_count setting.trap
    → Effect setting config (step_of setting facts t config) p
    → IsTrue (is_there i (list_at (next setting facts t config) p)) → IsTrue (is_there j (list_at (next setting facts t config) p))
    → facts (ord_item i j t) ≡ is_before i j (list_at (next setting facts t config) p)
orders-after setting facts r t config i j p can up known here (idle free same) there_i there_j =
    let known_i : i < ion_count setting = omega arith in
    stayers-order setting facts r t config i j p can up known here (sym (ap (is_there i) same) ∙ there_i) (sym (ap (is_there j) same) ∙ there_j)
    (places-after setting facts r t config i p can known_i here ∙ there_i) (places-after setting facts r t config j p can known here ∙ there_j)
    (λ zone. idle-none setting facts r t config p (exchange i j p) can free (up, known, ltb-true p (length setting.trap.zones) zone) (eq-eqb p p refl))
    ∙ ap (is_before i j) (sym same)
orders-after setting facts r t config i j p can up known here (leave action c channel it from) there_i there_j =
    subst (λ (q : ℕ). IsOrdered setting facts t config i j q) from (leave-order setting facts r t config action i j c channel can up known it) there_i there_j
orders-after setting facts r t config i j p can up known here (come action c channel it to) there_i there_j =
    subst (λ (q : ℕ). IsOrdered setting facts t config i j q) to (come-order setting facts r t config action i j c channel can up known it) there_i there_j
orders-after setting facts r t config i j p can up known here (turn index in_step within same) there_i there_j =
    let ions : List Ion = list_at config p in
    let known_i : i < ion_count setting = omega arith in
    let by : IsActionOf setting facts t config (actions.Swap (record { 0 = p }) index) = step-action setting facts t config (actions.Swap (record { 0 = p }) index) in_step in
    let was_i : is_there i ions ≡ true = sym (there-swap i index ions within) ∙ sym (ap (is_there i) same) ∙ there_i in
    let was_j : is_there j ions ≡ true = sym (there-swap j index ions within) ∙ sym (ap (is_there j) same) ∙ there_j in
    elim (cases_Bool (are_neighbours i j index ions)) [
      | inl beside ↦ turn-pair setting facts r t config i j p can up known here index
          (swap-of setting facts r t config by.activity p index can by.there by.happens by.is) was_i was_j beside
      | inr apart ↦ turn-other setting facts r t config i j p can up known here index in_step within was_i was_j
          (places-after setting facts r t config i p can known_i here ∙ there_i) (places-after setting facts r t config j p can known here ∙ there_j) apart
    ]
    ∙ ap (is_before i j) (sym same)
orders-after setting facts r t config i j p can up known here (perform op in_step same) there_i there_j =
    let known_i : i < ion_count setting = omega arith in
    stayers-order setting facts r t config i j p can up known here (sym (ap (is_there i) same) ∙ there_i) (sym (ap (is_there j) same) ∙ there_j)
    (places-after setting facts r t config i p can known_i here ∙ there_i) (places-after setting facts r t config j p can known here ∙ there_j)
    (λ zone. false_from_ne_true (facts (swap_item i j p t)) (λ swapped.
    let is = worker-is setting facts r t config (actions.Op (record { 0 = p }) op) (exchange i j p) p can in_step (0, omega arith, refl)
    (up, known, ltb-true p (length setting.trap.zones) zone) (eq-eqb p p refl) swapped in
    absurd cc))
    ∙ ap (is_before i j) (sym same)

pub agrees-after : (setting : SettingValue) (facts : Facts) (r t : ℕ) (config : List (List Ion)) → CanPlay setting facts r t config → Agrees setting facts t (next setting facts t config)
agrees-after setting facts r t config can = record {
  places = λ i p known here. places-after setting facts r t config i p can known here;
  orders = λ i j p up known here. orders-after setting facts r t config i j p can up known here
      (effect_at setting config (step_of setting facts t config) p can.setting_sound can.sound (step-legal setting facts r t config can));
}
