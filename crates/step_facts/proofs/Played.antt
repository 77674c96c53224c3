-- The facts of a legal step: places, ions that pass, channels in use, and one activity at a time.
use Rattle.std.proofs.Common.{◌≡◌, ◌≢◌, ℕ, ◌-◌, ◌<◌, ◌≤◌, Bool, true, false, not, ◌&&◌, ◌||◌, List, [], ◌∷◌, length, Some, None, refl, sym, ap, subst, ◌∙◌, inl, inr, arith}
use Rattle.std.specs.Prelude.{Contains, Option, nat_lt, slice_get, ◌==◌, ◌⊎◌}
use Rattle.std.specs.Option.{option_map_or}
use Rattle.std.proofs.lemmas.Bool.{cases_order, or_cases, or_left, or_right, and_from, and_parts, eq-eqb, eqb-true, both_ways, cond-true, cond-false, lt-ltb, le-ltb, not-true}
use Rattle.std.proofs.lemmas.Option.{same_Some}
use Rattle.std.proofs.lemmas.List.{length-drop}
use Rattle.qc_base.specs.declared.ids.Ion.{Ion}
use Rattle.qc_base.specs.declared.ids.PlaceId.{PlaceId}
use Rattle.qc_base.specs.declared.ids.End.{End}
use Rattle.qc_base.specs.declared.ids.End.TheVariants.{A, B}
use Rattle.qc_base.specs.Counting.{how_many}
use Rattle.trap_parts.specs.Parts.{TrapValue}
use Rattle.trap_model.specs.Trap.{limit_of}
use Rattle.trap_model.specs.Channels.{channels_of}
use Rattle.trap_model.specs.declared.channel.Channel.{Channel}
use Rattle.ion_chain.specs.Passing.{outward, leaving, left}
use Rattle.ion_chain.specs.Transfer.{list_at}
use Rattle.ion_chain.proofs.Passed.{length-outward}
use Rattle.step_rules.specs.declared.action.Action.{Action}
use Rattle.step_rules.specs.declared.action.Action.TheVariants as actions
use Rattle.step_rules.specs.Setting.{SettingValue}
use Rattle.step_rules.specs.ActionChannel.{passing}
use Rattle.step_rules.specs.Steps.{place, junction, footprint, IsLegal, after_step}
use Rattle.step_rules.proofs.Moved.{may_pass}
use Rattle.step_rules.proofs.Carried.{transport_of}
use Rattle.step_rules.proofs.Effects.{inside}
use Rattle.step_vars.specs.Items.{at_item, use_item, ord_item, nearer, so, not_so}
use Rattle.step_vars.specs.Lists.{ion_count, ions_of, is_there, is_before}
use Rattle.step_facts.specs.Facts.{Facts, IsUsed, PassesBy, IsChannel, IsNearer, IsNearerTo, LeavesPlace, EntersPlace, holds}
use Rattle.step_facts.specs.Activities.{Activity, passage, exchange, operation, IsActivity, works_at, item_of}
use Rattle.step_facts.specs.Properties.{OnePlace, FewIons, PassersWereAtSource, PassersAreAtTarget, PassersUseChannel, StaysOrLeaves, StayedOrEntered, UsePassesSome, UseNeedsEmptySlot, UseEmptiesSlot, SplitsTakeTheFront, OneActivityEach, OneCrossingEach}
use Rattle.step_facts.specs.Run.{IsSetting}
use Rattle.step_facts.specs.OfSchedule.{does, channel_number, passes_by, exchanges, performs_in, are_neighbours}
use Rattle.step_facts.specs.Agreement.{IsSound, Agrees, AgreesInStep, AgreesOnPassers}
use Rattle.step_facts.proofs.Lists.{Contains-range, list_any-some, list_any-found, how_many-weaker}
use Rattle.step_facts.proofs.IonLists.{there-outward, some_there, before-turned, before-reverse}
use Rattle.step_facts.proofs.Passing.{there-parted, leaving_closed, leaving_all, there-joined}
use Rattle.step_facts.proofs.Swapping.{there-swap, same_neighbours}
use Rattle.step_facts.proofs.Channels.{Ends, channel_ends, number_leads, footprint_junction, passes_whole}
use Rattle.step_facts.proofs.Configs.{sound-one_place, sound-distinct, sound-known_at, sound-count, sound-after}
use Rattle.step_facts.proofs.Effects.{IsPassage, passage_of, Effect, idle, leave, come, turn, perform, effect_at, same_action}
use Rattle.step_facts.proofs.PassedGuards.{has_passed}

-- step t is legal in the configuration of time r, and the facts agree with it
pub record IsPlayed (setting : SettingValue) (facts : Facts) (r t : ℕ) (config : List (List Ion)) (step : List Action) : Type 0 where
  pub setting_sound : IsSetting setting
  pub sound : IsSound setting config
  pub legal : IsLegal setting config step
  pub before : Agrees setting facts r config
  pub now : Agrees setting facts t (after_step setting.trap config step)
  pub activities : AgreesInStep setting facts t config step
  pub passers : AgreesOnPassers setting facts t config (after_step setting.trap config step)

-- an action of the step that is the activity
pub record IsDoneBy (setting : SettingValue) (config : List (List Ion)) (step : List Action) (a : Activity) : Type 0 where
  pub action : Action
  pub in_step : Contains step action
  pub does_it : does setting.trap config a action ≡ true

-- what happens by the facts is done by an action
pub played-action : (setting : SettingValue) (facts : Facts) (r t : ℕ) (config : List (List Ion)) (step : List Action) (a : Activity) → IsPlayed setting facts r t config step
    → IsActivity setting a → facts (item_of t a) ≡ true → IsDoneBy setting config step a
played-action setting facts r t config step a played is happens =
    let found = list_any-found (does setting.trap config a) step (sym (played.activities.activities a is) ∙ happens) in
    record { action = found.member; in_step = found.there; does_it = found.passes }

-- ---- what an action does

found_number : (found : Option ℕ) (c : ℕ) → option_map_or (λ number. number == c) found false ≡ true → found ≡ Some c
found_number None c e = absurd cc
found_number (Some number) c e = ap (λ (n : ℕ). Some n) (eqb-true number c e)

-- an exchange is done by a swap, at the index of the two ions
pub exchange_by : (config : List (List Ion)) (i j z : ℕ) (action : Action) → exchanges config i j z action ≡ true
    → (index : ℕ) × (action ≡ actions.Swap (record { 0 = z }) index) × (are_neighbours i j index (list_at config z) ≡ true)
exchange_by config i j z (actions.Swap zone index) e =
    let parts = and_parts (zone.0 == z) (are_neighbours i j index (list_at config z)) e in
    (index, ap (λ (n : ℕ). actions.Swap (record { 0 = n }) index) (eqb-true zone.0 z parts.0), parts.1)
exchange_by config i j z (actions.Split zone end count) e = absurd cc
exchange_by config i j z (actions.Move from to) e = absurd cc
exchange_by config i j z (actions.Cross crossed from to) e = absurd cc
exchange_by config i j z (actions.Merge zone end) e = absurd cc
exchange_by config i j z (actions.Op zone op) e = absurd cc

pub operation_by : (g z : ℕ) (action : Action) → performs_in g z action ≡ true → action ≡ actions.Op (record { 0 = z }) (record { 0 = g })
operation_by g z (actions.Op zone op) e =
    let parts = and_parts (zone.0 == z) (op.0 == g) e in
    ap (λ (n : ℕ). actions.Op (record { 0 = n }) op) (eqb-true zone.0 z parts.0) ∙ ap (λ (n : ℕ). actions.Op (record { 0 = z }) (record { 0 = n })) (eqb-true op.0 g parts.1)
operation_by g z (actions.Split zone end count) e = absurd cc
operation_by g z (actions.Move from to) e = absurd cc
operation_by g z (actions.Cross crossed from to) e = absurd cc
operation_by g z (actions.Merge zone end) e = absurd cc
operation_by g z (actions.Swap zone index) e = absurd cc

-- an action that is an activity at a place works there
pub does-works_at : (setting : SettingValue) (config : List (List Ion)) (a : Activity) (action : Action) (p : ℕ) → IsSetting setting → IsActivity setting a
    → does setting.trap config a action ≡ true → works_at p a ≡ true → Contains (footprint setting.trap action) (place p)
does-works_at setting config (passage c channel) action p sound is does_it at =
    let it = number_leads setting action c (found_number (channel_number setting.trap action) c does_it) in
    let same : it.0 ≡ channel = same_Some it.0 channel (sym it.1 ∙ is) in
    let on = inside setting.trap action channel (it.2 ∙ ap (λ (found : Channel). Some found) same) in
    elim (or_cases (channel.from.0 == p) (channel.to.0 == p) at) [
      | inl from ↦ subst (λ (q : ℕ). Contains (footprint setting.trap action) (place q)) (eqb-true channel.from.0 p from) on.from
      | inr to ↦ subst (λ (q : ℕ). Contains (footprint setting.trap action) (place q)) (eqb-true channel.to.0 p to) on.to
    ]
does-works_at setting config (exchange i j z) action p sound is does_it at =
    let by = exchange_by config i j z action does_it in
    subst (λ (a : Action). Contains (footprint setting.trap a) (place p)) (sym by.1) (0, omega arith, ap place (eqb-true z p at))
does-works_at setting config (operation g z) action p sound is does_it at =
    subst (λ (a : Action). Contains (footprint setting.trap a) (place p)) (sym (operation_by g z action does_it)) (0, omega arith, ap place (eqb-true z p at))

by_one_number : (trap : TrapValue) (c d : ℕ) (action : Action) → passes_by trap c action ≡ true → passes_by trap d action ≡ true → c ≡ d
by_one_number trap c d action a b = same_Some c d (sym (found_number (channel_number trap action) c a) ∙ found_number (channel_number trap action) d b)

same_passages : (setting : SettingValue) (c d : ℕ) (first second : Channel) → IsChannel setting c first → IsChannel setting d second → c ≡ d → passage c first ≡ passage d second
same_passages setting c d first second is_first is_second e =
    let same : first ≡ second = same_Some first second (sym is_first ∙ ap (slice_get (channels_of setting.trap)) e ∙ is_second) in
    ap (λ (n : ℕ). passage n first) e ∙ ap (passage d) same

number_not_swap : (trap : TrapValue) (c z index : ℕ) (action : Action) → passes_by trap c action ≡ true → action ≡ actions.Swap (record { 0 = z }) index → ⊥
number_not_swap trap c z index action by is = both_ways (passes_by trap c action) (ap (passes_by trap c) is) by

number_not_op : (trap : TrapValue) (c g z : ℕ) (action : Action) → passes_by trap c action ≡ true → action ≡ actions.Op (record { 0 = z }) (record { 0 = g }) → ⊥
number_not_op trap c g z action by is = both_ways (passes_by trap c action) (ap (passes_by trap c) is) by

swap_not_op : (z index g y : ℕ) → actions.Swap (record { 0 = z }) index ≡ actions.Op (record { 0 = y }) (record { 0 = g }) → ⊥
swap_not_op z index g y e = both_ways (performs_in g y (actions.Swap (record { 0 = z }) index)) refl (ap (performs_in g y) e ∙ and_from (y == y) (g == g) (eq-eqb y y refl) (eq-eqb g g refl))

abbrev place_id : ℕ → PlaceId
place_id z = record { 0 = z }

same_swap : (z y first second : ℕ) → actions.Swap (record { 0 = z }) first ≡ actions.Swap (record { 0 = y }) second → (z ≡ y) × (first ≡ second)
same_swap z y first second e =
    let zone : place_id z ≡ place_id y = cc in
    (ap (λ (p : PlaceId). p.0) zone, cc)

same_operation : (g z h y : ℕ) → actions.Op (record { 0 = z }) (record { 0 = g }) ≡ actions.Op (record { 0 = y }) (record { 0 = h }) → operation g z ≡ operation h y
same_operation g z h y e =
    let parts = and_parts (z == y) (g == h) (ap (performs_in h y) e ∙ and_from (y == y) (h == h) (eq-eqb y y refl) (eq-eqb h h refl)) in
    ap (λ (n : ℕ). operation n z) (eqb-true g h parts.1) ∙ ap (operation h) (eqb-true z y parts.0)

same_exchange : (i j z m n y : ℕ) → i ≡ m → j ≡ n → z ≡ y → exchange i j z ≡ exchange m n y
same_exchange i j z m n y e f g = ap (λ (k : ℕ). exchange k j z) e ∙ ap (λ (k : ℕ). exchange m k z) f ∙ ap (exchange m n) g

-- an action is at most one activity
pub does-one : (setting : SettingValue) (config : List (List Ion)) (a b : Activity) (action : Action) → IsActivity setting a → IsActivity setting b
    → does setting.trap config a action ≡ true → does setting.trap config b action ≡ true → a ≡ b
does-one setting config (passage c first) (passage d second) action is_a is_b a b =
    same_passages setting c d first second is_a is_b (by_one_number setting.trap c d action a b)
does-one setting config (passage c channel) (exchange i j z) action is_a is_b a b =
    absurd (number_not_swap setting.trap c z (exchange_by config i j z action b).0 action a (exchange_by config i j z action b).1)
does-one setting config (passage c channel) (operation g z) action is_a is_b a b = absurd (number_not_op setting.trap c g z action a (operation_by g z action b))
does-one setting config (exchange i j z) (passage c channel) action is_a is_b a b =
    absurd (number_not_swap setting.trap c z (exchange_by config i j z action a).0 action b (exchange_by config i j z action a).1)
does-one setting config (exchange i j z) (exchange m n y) action is_a is_b a b =
    let first = exchange_by config i j z action a in
    let second = exchange_by config m n y action b in
    let at = same_swap z y first.0 second.0 (sym first.1 ∙ second.1) in
    let beside : are_neighbours m n first.0 (list_at config z) ≡ true =
    ap (are_neighbours m n first.0) (ap (list_at config) at.0) ∙ ap (λ (k : ℕ). are_neighbours m n k (list_at config y)) at.1 ∙ second.2 in
    let ions = same_neighbours i j m n first.0 (list_at config z) is_a.0 is_b.0 first.2 beside in
    same_exchange i j z m n y ions.0 ions.1 at.0
does-one setting config (exchange i j z) (operation g y) action is_a is_b a b = absurd (swap_not_op z (exchange_by config i j z action a).0 g y (sym (exchange_by config i j z action a).1 ∙ operation_by g y action b))
does-one setting config (operation g z) (passage c channel) action is_a is_b a b = absurd (number_not_op setting.trap c g z action b (operation_by g z action a))
does-one setting config (operation g z) (exchange i j y) action is_a is_b a b = absurd (swap_not_op y (exchange_by config i j y action b).0 g z (sym (exchange_by config i j y action b).1 ∙ operation_by g z action a))
does-one setting config (operation g z) (operation h y) action is_a is_b a b = same_operation g z h y (sym (operation_by g z action a) ∙ operation_by h y action b)

-- ---- places

pub sound_now : (setting : SettingValue) (facts : Facts) (r t : ℕ) (config : List (List Ion)) (step : List Action) → IsPlayed setting facts r t config step
    → IsSound setting (after_step setting.trap config step)
sound_now setting facts r t config step played = sound-after setting config step played.setting_sound played.sound played.legal

pub played-one_place : (setting : SettingValue) (facts : Facts) (r t : ℕ) (config : List (List Ion)) (step : List Action) → IsPlayed setting facts r t config step
    → OnePlace setting facts t
played-one_place setting facts r t config step played i p q known in_p in_q at_p at_q =
    sound-one_place setting (after_step setting.trap config step) i p q (sound_now setting facts r t config step played)
    (sym (played.now.places i p known in_p) ∙ at_p) (sym (played.now.places i q known in_q) ∙ at_q)

pub played-few_ions : (setting : SettingValue) (facts : Facts) (r t : ℕ) (config : List (List Ion)) (step : List Action) → IsPlayed setting facts r t config step
    → FewIons setting facts t
played-few_ions setting facts r t config step played p in_p =
    let now : List (List Ion) = after_step setting.trap config step in
    let sound : IsSound setting now = sound_now setting facts r t config step played in
    let few : how_many (λ i. facts (at_item i p t)) (ions_of setting) ≤ how_many (λ i. is_there i (list_at now p)) (ions_of setting) =
    how_many-weaker (λ i. facts (at_item i p t)) (λ i. is_there i (list_at now p)) (ions_of setting)
    (λ i in_range at. sym (played.now.places i p ((Contains-range (ion_count setting) i).0 in_range) in_p) ∙ at) in
    let count : length (list_at now p) ≡ how_many (λ i. is_there i (list_at now p)) (ions_of setting) = sound-count setting now p sound in
    let limit : length (list_at now p) ≤ limit_of setting.trap p = sound.limits.within p in_p in
    omega (arith, few, count, limit)

-- ---- ions that pass

-- an ion that passes by the facts: its channel is used, and it was where that begins and is where it ends
pub record IsPasser (setting : SettingValue) (facts : Facts) (t : ℕ) (config : List (List Ion)) (step : List Action) (c : ℕ) (channel : Channel) (i : ℕ) : Type 0 where
  pub used : IsUsed facts c t
  pub from : is_there i (list_at config channel.from.0) ≡ true
  pub to : is_there i (list_at (after_step setting.trap config step) channel.to.0) ≡ true

pub passer_of : (setting : SettingValue) (facts : Facts) (r t : ℕ) (config : List (List Ion)) (step : List Action) (c : ℕ) (channel : Channel) (i : ℕ)
    → IsPlayed setting facts r t config step → IsChannel setting c channel → i < ion_count setting → PassesBy facts i c t → IsPasser setting facts t config step c channel i
passer_of setting facts r t config step c channel i played is known passes =
    let was : Bool = is_there i (list_at config channel.from.0) in
    let comes : Bool = is_there i (list_at (after_step setting.trap config step) channel.to.0) in
    let whole = and_parts (facts (use_item c t)) (was && comes) (sym (played.passers.passers i c channel known is) ∙ passes) in
    let places = and_parts was comes whole.1 in
    record { used = whole.0; from = places.0; to = places.1 }

pub played-from_source : (setting : SettingValue) (facts : Facts) (r t : ℕ) (config : List (List Ion)) (step : List Action) → IsPlayed setting facts r t config step
    → PassersWereAtSource setting facts r t
played-from_source setting facts r t config step played c channel i is known passes =
    played.before.places i channel.from.0 known (channel_ends setting c channel played.setting_sound.trap is).from
    ∙ (passer_of setting facts r t config step c channel i played is known passes).from

pub played-to_target : (setting : SettingValue) (facts : Facts) (r t : ℕ) (config : List (List Ion)) (step : List Action) → IsPlayed setting facts r t config step
    → PassersAreAtTarget setting facts r t
played-to_target setting facts r t config step played c channel i is known passes =
    played.now.places i channel.to.0 known (channel_ends setting c channel played.setting_sound.trap is).to
    ∙ (passer_of setting facts r t config step c channel i played is known passes).to

pub played-use_channel : (setting : SettingValue) (facts : Facts) (r t : ℕ) (config : List (List Ion)) (step : List Action) → IsPlayed setting facts r t config step
    → PassersUseChannel setting facts r t
played-use_channel setting facts r t config step played c channel i is known passes = (passer_of setting facts r t config step c channel i played is known passes).used

-- the passage of a used channel
pub used_passage : (setting : SettingValue) (facts : Facts) (r t : ℕ) (config : List (List Ion)) (step : List Action) (c : ℕ) (channel : Channel)
    → IsPlayed setting facts r t config step → IsChannel setting c channel → IsUsed facts c t → (action : Action) × IsPassage setting config step action c channel
used_passage setting facts r t config step c channel played is used =
    let by = played-action setting facts r t config step (passage c channel) played is used in
    let it = passage_of setting config step by.action c played.setting_sound played.sound played.legal by.in_step (found_number (channel_number setting.trap by.action) c by.does_it) in
    let same : it.0 ≡ channel = same_Some it.0 channel (sym it.1.there ∙ is) in
    (by.action, subst (IsPassage setting config step by.action c) same it.1)

-- the ions that leave by a passage
abbrev pub leavers : List (List Ion) → Action → Channel → List Ion
leavers config action channel = leaving channel.from_end (passing action (list_at config channel.from.0)) (list_at config channel.from.0)

-- they pass by the facts
leaver_passes : (setting : SettingValue) (facts : Facts) (r t : ℕ) (config : List (List Ion)) (step : List Action) (action : Action) (c : ℕ) (channel : Channel) (i : ℕ)
    → IsPlayed setting facts r t config step → IsPassage setting config step action c channel → is_there i (leavers config action channel) ≡ true → PassesBy facts i c t
leaver_passes setting facts r t config step action c channel i played by leaves =
    let ions : List Ion = list_at config channel.from.0 in
    let others : List Ion = list_at config channel.to.0 in
    let count : ℕ = passing action ions in
    let now : List (List Ion) = after_step setting.trap config step in
    let does_it : passes_by setting.trap c action ≡ true = ap (λ (found : Option ℕ). option_map_or (λ number. number == c) found false) by.number ∙ eq-eqb c c refl in
    let used : facts (use_item c t) ≡ true = played.activities.activities (passage c channel) by.there ∙ list_any-some (passes_by setting.trap c) step action by.in_step does_it in
    let was : is_there i ions ≡ true =
    there-parted i channel.from_end count ions ∙ or_right (is_there i (left channel.from_end count ions)) (is_there i (leavers config action channel)) leaves in
    let comes : is_there i (list_at now channel.to.0) ≡ true =
    ap (is_there i) by.target ∙ there-joined i channel.to_end (leavers config action channel) others ∙ or_right (is_there i others) (is_there i (leavers config action channel)) leaves in
    played.passers.passers i c channel (sound-known_at setting config i channel.from.0 played.sound was).0 by.there
    ∙ and_from (facts (use_item c t)) (is_there i ions && is_there i (list_at now channel.to.0)) used (and_from (is_there i ions) (is_there i (list_at now channel.to.0)) was comes)

-- and those that pass by the facts leave
pub passer_leaves : (setting : SettingValue) (facts : Facts) (r t : ℕ) (config : List (List Ion)) (step : List Action) (action : Action) (c : ℕ) (channel : Channel) (i : ℕ)
    → IsPlayed setting facts r t config step → IsPassage setting config step action c channel → i < ion_count setting → PassesBy facts i c t
    → is_there i (leavers config action channel) ≡ true
passer_leaves setting facts r t config step action c channel i played by known passes =
    let others : List Ion = list_at config channel.to.0 in
    let passer = passer_of setting facts r t config step c channel i played by.there known passes in
    let there : (is_there i others || is_there i (leavers config action channel)) ≡ true =
    sym (ap (is_there i) by.target ∙ there-joined i channel.to_end (leavers config action channel) others) ∙ passer.to in
    elim (or_cases (is_there i others) (is_there i (leavers config action channel)) there) [
      | inl old ↦ absurd (by.differ (sound-one_place setting config i channel.from.0 channel.to.0 played.sound passer.from old))
      | inr leaves ↦ leaves
    ]

-- an ion stays at its place, or passes by a channel from there
stays_by : (setting : SettingValue) (facts : Facts) (r t : ℕ) (config : List (List Ion)) (step : List Action) (i p : ℕ) → IsPlayed setting facts r t config step
    → is_there i (list_at config p) ≡ true → Effect setting config step p → (is_there i (list_at (after_step setting.trap config step) p) ≡ true) ⊎ LeavesPlace setting facts i p t
stays_by setting facts r t config step i p played there (idle free same) = inl (ap (is_there i) same ∙ there)
stays_by setting facts r t config step i p played there (leave action c channel by at) =
    let now : List (List Ion) = after_step setting.trap config step in
    let ions : List Ion = list_at config channel.from.0 in
    let count : ℕ = passing action ions in
    let there_from : is_there i ions ≡ true = ap (λ (q : ℕ). is_there i (list_at config q)) at ∙ there in
    elim (or_cases (is_there i (left channel.from_end count ions)) (is_there i (leavers config action channel)) (sym (there-parted i channel.from_end count ions) ∙ there_from)) [
      | inl stays ↦ inl (ap (λ (q : ℕ). is_there i (list_at now q)) (sym at) ∙ ap (is_there i) by.source ∙ stays)
      | inr leaves ↦ inr (record {
        number = c;
        channel = channel;
        there = by.there;
        at_place = at;
        passes = leaver_passes setting facts r t config step action c channel i played by leaves;
      })
    ]
stays_by setting facts r t config step i p played there (come action c channel by at) =
    let now : List (List Ion) = after_step setting.trap config step in
    let others : List Ion = list_at config channel.to.0 in
    let there_to : is_there i others ≡ true = ap (λ (q : ℕ). is_there i (list_at config q)) at ∙ there in
    inl (ap (λ (q : ℕ). is_there i (list_at now q)) (sym at) ∙ ap (is_there i) by.target ∙ there-joined i channel.to_end (leavers config action channel) others
    ∙ or_left (is_there i others) (is_there i (leavers config action channel)) there_to)
stays_by setting facts r t config step i p played there (turn index in_step within same) = inl (ap (is_there i) same ∙ there-swap i index (list_at config p) within ∙ there)
stays_by setting facts r t config step i p played there (perform op in_step same) = inl (ap (is_there i) same ∙ there)

pub played-stays : (setting : SettingValue) (facts : Facts) (r t : ℕ) (config : List (List Ion)) (step : List Action) → IsPlayed setting facts r t config step
    → StaysOrLeaves setting facts r t
played-stays setting facts r t config step played i p known in_p at =
    elim (stays_by setting facts r t config step i p played (sym (played.before.places i p known in_p) ∙ at)
    (effect_at setting config step p played.setting_sound played.sound played.legal)) [
      | inl stays ↦ inl (played.now.places i p known in_p ∙ stays)
      | inr leaves ↦ inr leaves
    ]

-- an ion was at its place before, or passed by a channel that ends there
stayed_by : (setting : SettingValue) (facts : Facts) (r t : ℕ) (config : List (List Ion)) (step : List Action) (i p : ℕ) → IsPlayed setting facts r t config step
    → is_there i (list_at (after_step setting.trap config step) p) ≡ true → Effect setting config step p → (is_there i (list_at config p) ≡ true) ⊎ EntersPlace setting facts i p t
stayed_by setting facts r t config step i p played there (idle free same) = inl (sym (ap (is_there i) same) ∙ there)
stayed_by setting facts r t config step i p played there (leave action c channel by at) =
    let now : List (List Ion) = after_step setting.trap config step in
    let ions : List Ion = list_at config channel.from.0 in
    let count : ℕ = passing action ions in
    let stays : is_there i (left channel.from_end count ions) ≡ true = sym (ap (is_there i) by.source) ∙ ap (λ (q : ℕ). is_there i (list_at now q)) at ∙ there in
    inl (ap (λ (q : ℕ). is_there i (list_at config q)) (sym at) ∙ there-parted i channel.from_end count ions
    ∙ or_left (is_there i (left channel.from_end count ions)) (is_there i (leavers config action channel)) stays)
stayed_by setting facts r t config step i p played there (come action c channel by at) =
    let now : List (List Ion) = after_step setting.trap config step in
    let others : List Ion = list_at config channel.to.0 in
    let there_to : (is_there i others || is_there i (leavers config action channel)) ≡ true =
    sym (ap (is_there i) by.target ∙ there-joined i channel.to_end (leavers config action channel) others) ∙ ap (λ (q : ℕ). is_there i (list_at now q)) at ∙ there in
    elim (or_cases (is_there i others) (is_there i (leavers config action channel)) there_to) [
      | inl old ↦ inl (ap (λ (q : ℕ). is_there i (list_at config q)) (sym at) ∙ old)
      | inr comes ↦ inr (record {
        number = c;
        channel = channel;
        there = by.there;
        at_place = at;
        passes = leaver_passes setting facts r t config step action c channel i played by comes;
      })
    ]
stayed_by setting facts r t config step i p played there (turn index in_step within same) =
    inl (sym (ap (is_there i) same ∙ there-swap i index (list_at config p) within) ∙ there)
stayed_by setting facts r t config step i p played there (perform op in_step same) = inl (sym (ap (is_there i) same) ∙ there)

pub played-stayed : (setting : SettingValue) (facts : Facts) (r t : ℕ) (config : List (List Ion)) (step : List Action) → IsPlayed setting facts r t config step
    → StayedOrEntered setting facts r t
played-stayed setting facts r t config step played i p known in_p at =
    elim (stayed_by setting facts r t config step i p played (sym (played.now.places i p known in_p) ∙ at)
    (effect_at setting config step p played.setting_sound played.sound played.legal)) [
      | inl stayed ↦ inl (played.before.places i p known in_p ∙ stayed)
      | inr enters ↦ inr enters
    ]

-- ---- channels in use

-- no more ions pass than are there
passing_within : (setting : SettingValue) (facts : Facts) (r t : ℕ) (config : List (List Ion)) (step : List Action) (action : Action) (c : ℕ) (channel : Channel)
    → IsPlayed setting facts r t config step → IsPassage setting config step action c channel → passing action (list_at config channel.from.0) ≤ length (list_at config channel.from.0)
passing_within setting facts r t config step action c channel played by =
    let ends : Ends setting channel = channel_ends setting c channel played.setting_sound.trap by.there in
    (may_pass setting.trap config action channel played.setting_sound.trap (played.sound.limits.within channel.from.0 ends.from)
    (transport_of setting config action by.passes) by.of_action).enough

some_leave : (end : End) (count : ℕ) (ions : List Ion) → 1 ≤ count → count ≤ length ions → (i : ℕ) × (is_there i (leaving end count ions) ≡ true)
some_leave end count ions some within =
    some_there (leaving end count ions) (omega (arith, some, within, length-drop (length ions - count) (outward end ions), length-outward end ions))

pub played-some_passes : (setting : SettingValue) (facts : Facts) (r t : ℕ) (config : List (List Ion)) (step : List Action) → IsPlayed setting facts r t config step
    → UsePassesSome setting facts r t
played-some_passes setting facts r t config step played c channel is used =
    let found = used_passage setting facts r t config step c channel played is used in
    let action : Action = found.0 in
    let ions : List Ion = list_at config channel.from.0 in
    let count : ℕ = passing action ions in
    let guards = has_passed setting config action channel found.1.passes found.1.of_action in
    let some = some_leave channel.from_end count ions guards.some (passing_within setting facts r t config step action c channel played found.1) in
    record {
      ion = some.0;
      there = (sound-known_at setting config some.0 channel.from.0 played.sound
          (there-parted some.0 channel.from_end count ions ∙ or_right (is_there some.0 (left channel.from_end count ions)) (is_there some.0 (leaving channel.from_end count ions)) some.1)).0;
      passes = leaver_passes setting facts r t config step action c channel some.0 played found.1 some.1;
    }

not_in_none : (i : ℕ) (ions : List Ion) → length ions ≡ 0 → is_there i ions ≡ false
not_in_none i [] none = refl
not_in_none i (ion ∷ ions) none = absurd (omega arith)

pub played-empty_slot : (setting : SettingValue) (facts : Facts) (r t : ℕ) (config : List (List Ion)) (step : List Action) → IsPlayed setting facts r t config step
    → UseNeedsEmptySlot setting facts r t
played-empty_slot setting facts r t config step played c channel i is known slot used =
    let found = used_passage setting facts r t config step c channel played is used in
    let guards = has_passed setting config found.0 channel found.1.passes found.1.of_action in
    played.before.places i channel.to.0 known (channel_ends setting c channel played.setting_sound.trap is).to ∙ not_in_none i (list_at config channel.to.0) (guards.empty slot)

pub played-whole_chain : (setting : SettingValue) (facts : Facts) (r t : ℕ) (config : List (List Ion)) (step : List Action) → IsPlayed setting facts r t config step
    → UseEmptiesSlot setting facts r t
played-whole_chain setting facts r t config step played c channel i is known slot used at =
    let found = used_passage setting facts r t config step c channel played is used in
    let ions : List Ion = list_at config channel.from.0 in
    let ends : Ends setting channel = channel_ends setting c channel played.setting_sound.trap is in
    let whole : passing found.0 ions ≡ length ions = passes_whole setting found.0 channel ions played.setting_sound.trap found.1.of_action slot in
    leaver_passes setting facts r t config step found.0 c channel i played found.1
    (ap (λ (count : ℕ). is_there i (leaving channel.from_end count ions)) whole ∙ ap (is_there i) (leaving_all channel.from_end ions) ∙ there-outward i channel.from_end ions
    ∙ sym (played.before.places i channel.from.0 known ends.from) ∙ at)

nearer_below : (facts : Facts) (i j t : ℕ) → i < j → IsNearer facts i j t → facts (ord_item i j t) ≡ true
nearer_below facts i j t below nearer = ap (holds facts) (sym (cond-true (nat_lt i j) (so (ord_item i j t)) (not_so (ord_item j i t)) (lt-ltb i j below))) ∙ nearer

nearer_above : (facts : Facts) (i j t : ℕ) → j < i → IsNearer facts i j t → facts (ord_item j i t) ≡ false
nearer_above facts i j t above nearer =
    not-true (facts (ord_item j i t)) (ap (holds facts) (sym (cond-false (nat_lt i j) (so (ord_item i j t)) (not_so (ord_item j i t)) (le-ltb i j (omega (arith, above))))) ∙ nearer)

-- of two ions of a place, the nearer one to end a is before the other
pub nearer-before : (setting : SettingValue) (facts : Facts) (r : ℕ) (config : List (List Ion)) (i j p : ℕ) → IsSound setting config → Agrees setting facts r config → i ≢ j
    → is_there i (list_at config p) ≡ true → is_there j (list_at config p) ≡ true → IsNearer facts i j r → is_before i j (list_at config p) ≡ true
nearer-before setting facts r config i j p sound agrees differ i_there j_there nearer =
    let i_known = sound-known_at setting config i p sound i_there in
    let j_known = sound-known_at setting config j p sound j_there in
    elim (cases_order i j) [
      | inl same ↦ absurd (differ same)
      | inr other ↦ elim other [
        | inl below ↦ sym (agrees.orders i j p below j_known.0 j_known.1 i_there j_there) ∙ nearer_below facts i j r below nearer
        | inr above ↦
            before-turned i j (list_at config p) (sound-distinct setting config p sound) differ i_there j_there
            ∙ ap not (sym (agrees.orders j i p above i_known.0 i_known.1 j_there i_there) ∙ nearer_above facts i j r above nearer)
      ]
    ]

-- of two ions of a place, the nearer one to an end is the later one of the list read towards it
outward-nearer : (setting : SettingValue) (facts : Facts) (r : ℕ) (config : List (List Ion)) (end : End) (i j p : ℕ) → IsSound setting config → Agrees setting facts r config → i ≢ j
    → is_there i (list_at config p) ≡ true → is_there j (list_at config p) ≡ true → IsNearerTo facts end j i r → is_before i j (outward end (list_at config p)) ≡ true
outward-nearer setting facts r config A i j p sound agrees differ i_there j_there nearer =
    before-reverse i j (list_at config p) (sound-distinct setting config p sound)
    ∙ nearer-before setting facts r config j i p sound agrees (λ e. differ (sym e)) j_there i_there nearer
outward-nearer setting facts r config B i j p sound agrees differ i_there j_there nearer = nearer-before setting facts r config i j p sound agrees differ i_there j_there nearer

pub played-front : (setting : SettingValue) (facts : Facts) (r t : ℕ) (config : List (List Ion)) (step : List Action) → IsPlayed setting facts r t config step
    → SplitsTakeTheFront setting facts r t
played-front setting facts r t config step played c channel i j is split i_known j_known differ passes at nearer =
    let ions : List Ion = list_at config channel.from.0 in
    let passer = passer_of setting facts r t config step c channel i played is i_known passes in
    let found = used_passage setting facts r t config step c channel played is passer.used in
    let j_there : is_there j ions ≡ true = sym (played.before.places j channel.from.0 j_known (channel_ends setting c channel played.setting_sound.trap is).from) ∙ at in
    let before : is_before i j (outward channel.from_end ions) ≡ true =
    outward-nearer setting facts r config channel.from_end i j channel.from.0 played.sound played.before (λ e. differ (sym e)) passer.from j_there nearer in
    leaver_passes setting facts r t config step found.0 c channel j played found.1
    (leaving_closed i j channel.from_end (passing found.0 ions) ions (sound-distinct setting config channel.from.0 played.sound) before
    (passer_leaves setting facts r t config step found.0 c channel i played found.1 i_known passes))

pub played-one_activity : (setting : SettingValue) (facts : Facts) (r t : ℕ) (config : List (List Ion)) (step : List Action) → IsPlayed setting facts r t config step
    → OneActivityEach setting facts t
played-one_activity setting facts r t config step played p a b in_p is_a is_b at_a at_b happens_a happens_b =
    let first = played-action setting facts r t config step a played is_a happens_a in
    let second = played-action setting facts r t config step b played is_b happens_b in
    let on_first = does-works_at setting config a first.action p played.setting_sound is_a first.does_it at_a in
    let on_second = does-works_at setting config b second.action p played.setting_sound is_b second.does_it at_b in
    let same : first.action ≡ second.action = same_action setting config step first.action second.action (place p) played.legal first.in_step second.in_step on_first on_second in
    does-one setting config a b second.action is_a is_b (ap (does setting.trap config a) (sym same) ∙ first.does_it) second.does_it

pub played-one_crossing : (setting : SettingValue) (facts : Facts) (r t : ℕ) (config : List (List Ion)) (step : List Action) → IsPlayed setting facts r t config step
    → OneCrossingEach setting facts t
played-one_crossing setting facts r t config step played j c d first second within is_first is_second by_first by_second used_first used_second =
    let one = used_passage setting facts r t config step c first played is_first used_first in
    let other = used_passage setting facts r t config step d second played is_second used_second in
    let on_one = footprint_junction setting one.0 first j one.1.of_action by_first in
    let on_other = footprint_junction setting other.0 second j other.1.of_action by_second in
    let same : one.0 ≡ other.0 = same_action setting config step one.0 other.0 (junction j) played.legal one.1.in_step other.1.in_step on_one on_other in
    same_Some c d (sym one.1.number ∙ ap (channel_number setting.trap) same ∙ other.1.number)
