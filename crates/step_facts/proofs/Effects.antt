-- What a legal step does to the ions of each place: at most one of its actions works there.
use Rattle.std.proofs.Common.{◌≡◌, ◌≢◌, ℕ, zero, suc, ◌+◌, ◌<◌, Bool, true, false, cond, List, [], ◌∷◌, length, get_or, Some, None, refl, sym, ap, subst, ◌∙◌, inl, inr, arith, get_or-set_same, get_or-set_other}
use Rattle.std.specs.Prelude.{AllPairs, Contains, Option, is_some, slice_set, swap, ◌⊎◌}
use Rattle.std.proofs.lemmas.Bool.{cases_eq}
use Rattle.std.proofs.lemmas.List.{length-set}
use Rattle.std.proofs.lemmas.List.Elements.{All-contains}
use Rattle.qc_base.specs.declared.ids.Ion.{Ion}
use Rattle.qc_base.specs.declared.ids.OpId.{OpId}
use Rattle.qc_base.specs.declared.ids.PlaceId.{PlaceId}
use Rattle.trap_parts.specs.Parts.{TrapValue}
use Rattle.trap_model.specs.declared.channel.Channel.{Channel}
use Rattle.trap_model.specs.Channels.{split_channel, move_channel, cross_channel, merge_channel}
use Rattle.ion_chain.specs.Passing.{leaving, left, joined}
use Rattle.ion_chain.specs.Transfer.{list_at}
use Rattle.step_rules.specs.declared.action.Action.{Action}
use Rattle.step_rules.specs.declared.action.Action.TheVariants as actions
use Rattle.step_rules.specs.declared.action.Rule.{Rule}
use Rattle.step_rules.specs.Setting.{SettingValue}
use Rattle.step_rules.specs.ActionChannel.{channel_for, passing, IsWithin}
use Rattle.step_rules.specs.Guards.{Passes}
use Rattle.step_rules.specs.Steps.{Spot, place, junction, footprint, AreApart, IsLegal, after, after_step}
use Rattle.step_rules.proofs.Effects.{inside, in_either_order}
use Rattle.step_rules.proofs.Carried.{untouched, transport_of}
use Rattle.step_rules.proofs.Moved.{MayPass, may_pass, after_through, swap_passed}
use Rattle.step_rules.proofs.Kept.{channel_within}
use Rattle.step_facts.specs.Facts.{IsChannel}
use Rattle.step_facts.specs.Run.{IsSetting}
use Rattle.step_facts.specs.OfSchedule.{channel_number}
use Rattle.step_facts.specs.Agreement.{IsSound}
use Rattle.step_facts.proofs.Lists.{AllPairs-members, Contains-cons}
use Rattle.step_facts.proofs.Channels.{same_place, number_leads, channel_numbered, footprint_ends}

-- ---- one action at a place

-- two actions of a legal step that work on one spot are one
pub same_action : (setting : SettingValue) (config : List (List Ion)) (step : List Action) (a b : Action) (spot : Spot) → IsLegal setting config step → Contains step a → Contains step b
    → Contains (footprint setting.trap a) spot → Contains (footprint setting.trap b) spot → a ≡ b
same_action setting config step a b spot legal in_a in_b on_a on_b = elim (AllPairs-members (AreApart setting.trap) step a b legal.apart in_a in_b) [
  | inl same ↦ same
  | inr other ↦ elim other [
    | inl apart ↦ absurd (apart spot on_a on_b)
    | inr apart ↦ absurd (apart spot on_b on_a)
  ]
]

-- a place that no action works on stays as it is
pub after_step-elsewhere : (trap : TrapValue) (config : List (List Ion)) (step : List Action) (p : ℕ) → ((a : Action) → Contains step a → Contains (footprint trap a) (place p) → ⊥)
    → list_at (after_step trap config step) p ≡ list_at config p
after_step-elsewhere trap config [] p free = refl
after_step-elsewhere trap config (action ∷ step) p free =
    after_step-elsewhere trap (after trap config action) step p (λ b in_b on_b. free b (suc in_b.0, omega (arith, in_b.1), in_b.2) on_b)
    ∙ untouched trap config action p (free action (0, omega arith, refl))

-- each later action is apart from the first
apart_later : (trap : TrapValue) (first : Action) (step : List Action) (later : Action) → AllPairs (AreApart trap) (first ∷ step) → Contains step later → AreApart trap first later
apart_later trap first step later apart in_step =
    subst (AreApart trap first) in_step.2 (apart 0 (suc in_step.0) later (omega arith) (omega (arith, in_step.1)))

apart_tail : (trap : TrapValue) (first : Action) (step : List Action) → AllPairs (AreApart trap) (first ∷ step) → AllPairs (AreApart trap) step
apart_tail trap first step apart i j d before within = apart (suc i) (suc j) d (omega (arith, before)) (omega (arith, within))

at_index : (trap : TrapValue) (config : List (List Ion)) (step : List Action) (a : Action) (p i : ℕ) → AllPairs (AreApart trap) step → i < length step → get_or step i a ≡ a
    → Contains (footprint trap a) (place p) → list_at (after_step trap config step) p ≡ list_at (after trap config a) p
at_index trap config [] a p i apart within is on_p = absurd (omega arith)
at_index trap config (first ∷ step) a p zero apart within is on_p =
    after_step-elsewhere trap (after trap config first) step p
    (λ b in_b on_b. apart_later trap first step b apart in_b (place p) (subst (λ (x : Action). Contains (footprint trap x) (place p)) (sym is) on_p) on_b)
    ∙ ap (λ (x : Action). list_at (after trap config x) p) is
at_index trap config (first ∷ step) a p (suc i) apart within is on_p =
    let other : AreApart trap first a = apart_later trap first step a apart (i, omega (arith, within), is) in
    at_index trap (after trap config first) step a p i (apart_tail trap first step apart) (omega (arith, within)) is on_p
    ∙ ap (λ (c : List (List Ion)). list_at c p) (in_either_order trap first a other config)
    ∙ untouched trap (after trap config a) first p (λ on_first. other (place p) on_first on_p)

-- at the places of an action the step does what the action does
pub after_step-there : (trap : TrapValue) (config : List (List Ion)) (step : List Action) (a : Action) (p : ℕ) → AllPairs (AreApart trap) step → Contains step a
    → Contains (footprint trap a) (place p) → list_at (after_step trap config step) p ≡ list_at (after trap config a) p
after_step-there trap config step a p apart in_step on_p = at_index trap config step a p in_step.0 apart in_step.1 in_step.2 on_p

-- the two places of an action that passes ions
pub after-source : (trap : TrapValue) (config : List (List Ion)) (a : Action) (channel : Channel) → channel_for trap a ≡ Some channel → channel.from.0 ≢ channel.to.0
    → channel.from.0 < length config → channel.to.0 < length config
    → list_at (after trap config a) channel.from.0 ≡ left channel.from_end (passing a (list_at config channel.from.0)) (list_at config channel.from.0)
after-source trap config a channel is differ in_from in_to =
    let source : List Ion = list_at config channel.from.0 in
    let gone : List Ion = left channel.from_end (passing a source) source in
    let come : List Ion = joined channel.to_end (leaving channel.from_end (passing a source) source) (list_at config channel.to.0) in
    ap (λ (c : List (List Ion)). list_at c channel.from.0) (after_through trap config a channel is)
    ∙ get_or-set_other (slice_set config channel.from.0 gone) channel.to.0 channel.from.0 come [] differ
    ∙ get_or-set_same config channel.from.0 gone [] in_from

pub after-target : (trap : TrapValue) (config : List (List Ion)) (a : Action) (channel : Channel) → channel_for trap a ≡ Some channel → channel.from.0 ≢ channel.to.0
    → channel.from.0 < length config → channel.to.0 < length config
    → list_at (after trap config a) channel.to.0
    ≡ joined channel.to_end (leaving channel.from_end (passing a (list_at config channel.from.0)) (list_at config channel.from.0)) (list_at config channel.to.0)
after-target trap config a channel is differ in_from in_to =
    let source : List Ion = list_at config channel.from.0 in
    let gone : List Ion = left channel.from_end (passing a source) source in
    let come : List Ion = joined channel.to_end (leaving channel.from_end (passing a source) source) (list_at config channel.to.0) in
    ap (λ (c : List (List Ion)). list_at c channel.to.0) (after_through trap config a channel is)
    ∙ get_or-set_same (slice_set config channel.from.0 gone) channel.to.0 come [] (omega (arith, in_to, length-set config channel.from.0 gone))

-- ---- the effect of a step on a place

-- an action of the step that passes ions through the channel of a number
pub record IsPassage (setting : SettingValue) (config : List (List Ion)) (step : List Action) (action : Action) (c : ℕ) (channel : Channel) : Type 0 where
  pub in_step : Contains step action
  pub number : channel_number setting.trap action ≡ Some c
  pub there : IsChannel setting c channel
  pub of_action : channel_for setting.trap action ≡ Some channel
  pub passes : Passes setting config action
  pub differ : channel.from.0 ≢ channel.to.0
  -- its two places after the step
  pub source : list_at (after_step setting.trap config step) channel.from.0
      ≡ left channel.from_end (passing action (list_at config channel.from.0)) (list_at config channel.from.0)
  pub target : list_at (after_step setting.trap config step) channel.to.0
      ≡ joined channel.to_end (leaving channel.from_end (passing action (list_at config channel.from.0)) (list_at config channel.from.0)) (list_at config channel.to.0)

pub passage_of : (setting : SettingValue) (config : List (List Ion)) (step : List Action) (action : Action) (c : ℕ) → IsSetting setting → IsSound setting config → IsLegal setting config step
    → Contains step action → channel_number setting.trap action ≡ Some c → (channel : Channel) × IsPassage setting config step action c channel
passage_of setting config step action c sound_setting sound legal in_step number =
    let it = number_leads setting action c number in
    let channel : Channel = it.0 in
    let of_action : channel_for setting.trap action ≡ Some channel = it.2 in
    let there : IsWithin setting.trap channel = channel_within setting.trap action channel sound_setting.trap of_action in
    let passes : Passes setting config action = All-contains (Passes setting config) step action legal.passes in_step in
    let may : MayPass setting.trap config channel (passing action (list_at config channel.from.0)) =
    may_pass setting.trap config action channel sound_setting.trap (sound.limits.within channel.from.0 there.from) (transport_of setting config action passes) of_action in
    let in_from : channel.from.0 < length config = omega (arith, there.from, sound.limits.places) in
    let in_to : channel.to.0 < length config = omega (arith, there.to, sound.limits.places) in
    let on = inside setting.trap action channel of_action in (
      channel,
      record {
        in_step = in_step;
        number = number;
        there = it.1;
        of_action = of_action;
        passes = passes;
        differ = may.apart;
        source = after_step-there setting.trap config step action channel.from.0 legal.apart in_step on.from
            ∙ after-source setting.trap config action channel of_action may.apart in_from in_to;
        target = after_step-there setting.trap config step action channel.to.0 legal.apart in_step on.to
            ∙ after-target setting.trap config action channel of_action may.apart in_from in_to;
      },
    )

-- what a step does at a place: nothing, ions leave, ions come, two change places, an operation is performed
pub data Effect (setting : SettingValue) (config : List (List Ion)) (step : List Action) (p : ℕ) : Type 0 where
  idle : ((a : Action) → Contains step a → Contains (footprint setting.trap a) (place p) → ⊥)
      → list_at (after_step setting.trap config step) p ≡ list_at config p → Effect setting config step p
  leave : (action : Action) (c : ℕ) (channel : Channel) → IsPassage setting config step action c channel → channel.from.0 ≡ p → Effect setting config step p
  come : (action : Action) (c : ℕ) (channel : Channel) → IsPassage setting config step action c channel → channel.to.0 ≡ p → Effect setting config step p
  turn : (index : ℕ) → Contains step (actions.Swap (record { 0 = p }) index) → index + 1 < length (list_at config p)
      → list_at (after_step setting.trap config step) p ≡ swap (list_at config p) index (index + 1) → Effect setting config step p
  perform : (op : OpId) → Contains step (actions.Op (record { 0 = p }) op)
      → list_at (after_step setting.trap config step) p ≡ list_at config p → Effect setting config step p

-- an action of the step that works at the place, or none does
data Worker (trap : TrapValue) (step : List Action) (p : ℕ) : Type 0 where
  none : ((a : Action) → Contains step a → Contains (footprint trap a) (place p) → ⊥) → Worker trap step p
  one : (a : Action) → Contains step a → Contains (footprint trap a) (place p) → Worker trap step p

-- the place is among the spots, or it isn't
among_spots : (spots : List Spot) (p : ℕ) → Contains spots (place p) ⊎ (Contains spots (place p) → ⊥)
among_spots [] p = inr (λ on_p. absurd (omega (arith, on_p.1)))
among_spots (junction j ∷ spots) p = elim (among_spots spots p) [
  | inl later ↦ inl ((Contains-cons (junction j) spots (place p)).1 (inr later))
  | inr not ↦ inr (λ on_p. elim ((Contains-cons (junction j) spots (place p)).0 on_p) [ inl here ↦ absurd cc | inr later ↦ not later ])
]
among_spots (place q ∷ spots) p = elim (cases_eq q p) [
  | inl same ↦ inl ((Contains-cons (place q) spots (place p)).1 (inl (ap place same)))
  | inr other ↦ elim (among_spots spots p) [
    | inl later ↦ inl ((Contains-cons (place q) spots (place p)).1 (inr later))
    | inr not ↦ inr (λ on_p. elim ((Contains-cons (place q) spots (place p)).0 on_p) [ inl here ↦ absurd (other (same_place q p here)) | inr later ↦ not later ])
  ]
]

later_worker : (trap : TrapValue) (first : Action) (step : List Action) (p : ℕ) → (Contains (footprint trap first) (place p) → ⊥) → Worker trap step p → Worker trap (first ∷ step) p
later_worker trap first step p not (one a in_step on_p) = one a ((Contains-cons first step a).1 (inr in_step)) on_p
later_worker trap first step p not (none free) =
    none (λ a in_step on_p. elim ((Contains-cons first step a).0 in_step) [
      | inl here ↦ not (subst (λ (x : Action). Contains (footprint trap x) (place p)) (sym here) on_p)
      | inr later ↦ free a later on_p
    ])

worker_at : (trap : TrapValue) (step : List Action) (p : ℕ) → Worker trap step p
worker_at trap [] p = none (λ a in_step on_p. absurd (omega (arith, in_step.1)))
worker_at trap (first ∷ step) p = elim (among_spots (footprint trap first) p) [
  | inl here ↦ one first ((Contains-cons first step first).1 (inl refl)) here
  | inr not ↦ later_worker trap first step p not (worker_at trap step p)
]

-- an action that passes its guards has a channel, or it is a swap or an operation
data Sort (trap : TrapValue) (a : Action) : Type 0 where
  passes_ions : (channel : Channel) → channel_for trap a ≡ Some channel → Sort trap a
  swaps : (zone : PlaceId) (index : ℕ) → a ≡ actions.Swap zone index → Sort trap a
  performs : (zone : PlaceId) (op : OpId) → a ≡ actions.Op zone op → Sort trap a

joined_passed : (a b : Bool) (p q : Rule) (rest : Option Rule) → cond a (cond b rest (Some q)) (Some p) ≡ None → b ≡ true
joined_passed true true p q rest e = refl
joined_passed true false p q rest e = absurd cc
joined_passed false b p q rest e = absurd cc

some_channel : (trap : TrapValue) (a : Action) (found : Option Channel) → channel_for trap a ≡ found → is_some found ≡ true → Sort trap a
some_channel trap a None is some = absurd cc
some_channel trap a (Some channel) is some = passes_ions channel is

sort_of : (setting : SettingValue) (config : List (List Ion)) (a : Action) → Passes setting config a → Sort setting.trap a
sort_of setting config (actions.Split zone end count) passes =
    some_channel setting.trap (actions.Split zone end count) (split_channel setting.trap zone.0 end) refl (joined_passed _ _ _ _ _ passes)
sort_of setting config (actions.Move from to) passes =
    some_channel setting.trap (actions.Move from to) (move_channel setting.trap from.0 to.0) refl (joined_passed _ _ _ _ _ passes)
sort_of setting config (actions.Cross crossed from to) passes =
    some_channel setting.trap (actions.Cross crossed from to) (cross_channel setting.trap crossed.0 from.0 to.0) refl (joined_passed _ _ _ _ _ passes)
sort_of setting config (actions.Merge zone end) passes =
    some_channel setting.trap (actions.Merge zone end) (merge_channel setting.trap zone.0 end) refl (joined_passed _ _ _ _ _ passes)
sort_of setting config (actions.Swap zone index) passes = swaps zone index refl
sort_of setting config (actions.Op zone op) passes = performs zone op refl

pub only_place : (q p : ℕ) → Contains (place q ∷ []) (place p) → q ≡ p
only_place q p on_p = elim ((Contains-cons (place q) [] (place p)).0 on_p) [
  | inl here ↦ same_place q p here
  | inr later ↦ absurd (omega (arith, later.1))
]

turn_by : (setting : SettingValue) (config : List (List Ion)) (step : List Action) (p index : ℕ) → IsSound setting config → IsLegal setting config step
    → Contains step (actions.Swap (record { 0 = p }) index) → Effect setting config step p
turn_by setting config step p index sound legal in_step =
    let a : Action = actions.Swap (record { 0 = p }) index in
    let passed = swap_passed setting.trap config p index (All-contains (Passes setting config) step a legal.passes in_step) in
    turn index in_step passed.1
    (after_step-there setting.trap config step a p legal.apart in_step (0, omega arith, refl)
    ∙ get_or-set_same config p (swap (list_at config p) index (index + 1)) [] (omega (arith, passed.0, sound.limits.places)))

perform_by : (setting : SettingValue) (config : List (List Ion)) (step : List Action) (p : ℕ) (op : OpId) → IsLegal setting config step
    → Contains step (actions.Op (record { 0 = p }) op) → Effect setting config step p
perform_by setting config step p op legal in_step =
    perform op in_step (after_step-there setting.trap config step (actions.Op (record { 0 = p }) op) p legal.apart in_step (0, omega arith, refl))

effect_by : (setting : SettingValue) (config : List (List Ion)) (step : List Action) (p : ℕ) (a : Action) → IsSetting setting → IsSound setting config → IsLegal setting config step
    → Contains step a → Contains (footprint setting.trap a) (place p) → Sort setting.trap a → Effect setting config step p
effect_by setting config step p a sound_setting sound legal in_step on_p (passes_ions channel is) =
    let c = channel_numbered setting a channel is in
    let it = passage_of setting config step a c.0 sound_setting sound legal in_step c.2 in
    elim (footprint_ends setting a it.0 p it.1.of_action on_p) [
      | inl from ↦ leave a c.0 it.0 it.1 from
      | inr to ↦ come a c.0 it.0 it.1 to
    ]
effect_by setting config step p a sound_setting sound legal in_step on_p (swaps zone index is) =
    let at_p : zone.0 ≡ p = only_place zone.0 p (subst (λ (x : Action). Contains (footprint setting.trap x) (place p)) is on_p) in
    let same : a ≡ actions.Swap (record { 0 = p }) index = is ∙ ap (λ (n : ℕ). actions.Swap (record { 0 = n }) index) at_p in
    turn_by setting config step p index sound legal (subst (Contains step) same in_step)
effect_by setting config step p a sound_setting sound legal in_step on_p (performs zone op is) =
    let at_p : zone.0 ≡ p = only_place zone.0 p (subst (λ (x : Action). Contains (footprint setting.trap x) (place p)) is on_p) in
    let same : a ≡ actions.Op (record { 0 = p }) op = is ∙ ap (λ (n : ℕ). actions.Op (record { 0 = n }) op) at_p in
    perform_by setting config step p op legal (subst (Contains step) same in_step)

effect_of : (setting : SettingValue) (config : List (List Ion)) (step : List Action) (p : ℕ) → IsSetting setting → IsSound setting config → IsLegal setting config step
    → Worker setting.trap step p → Effect setting config step p
effect_of setting config step p sound_setting sound legal (none free) = idle free (after_step-elsewhere setting.trap config step p free)
effect_of setting config step p sound_setting sound legal (one a in_step on_p) =
    effect_by setting config step p a sound_setting sound legal in_step on_p (sort_of setting config a (All-contains (Passes setting config) step a legal.passes in_step))

pub effect_at : (setting : SettingValue) (config : List (List Ion)) (step : List Action) (p : ℕ) → IsSetting setting → IsSound setting config → IsLegal setting config step
    → Effect setting config step p
effect_at setting config step p sound_setting sound legal = effect_of setting config step p sound_setting sound legal (worker_at setting.trap step p)
