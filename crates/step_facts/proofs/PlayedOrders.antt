-- The facts of a legal step: swaps, the order of ions, and where the ions of operations are.
use Rattle.std.proofs.Common.{◌≡◌, ◌≢◌, ℕ, ◌+◌, ◌<◌, Bool, true, false, not, List, [], length, refl, sym, ap, subst, ◌∙◌, inl, inr, arith, get_or-set_same}
use Rattle.std.specs.Prelude.{Contains, IsTrue, swap, if◌then◌else◌, ◌==◌}
use Rattle.std.proofs.lemmas.Bool.{cases_Bool, and_from, eq-eqb, both_ways, lt-ltb}
use Rattle.std.proofs.lemmas.List.Elements.{All-contains}
use Rattle.qc_base.specs.declared.ids.Ion.{Ion}
use Rattle.trap_model.specs.Trap.{place_count, is_zone}
use Rattle.trap_parts.specs.Joins.{same_end}
use Rattle.trap_model.specs.declared.channel.Channel.{Channel}
use Rattle.ion_chain.specs.Passing.{outward, left, joined}
use Rattle.ion_chain.specs.Transfer.{list_at}
use Rattle.step_rules.specs.declared.action.Action.{Action}
use Rattle.step_rules.specs.declared.action.Action.TheVariants as actions
use Rattle.step_rules.specs.Setting.{SettingValue}
use Rattle.step_rules.specs.ActionChannel.{passing}
use Rattle.step_rules.specs.Guards.{Passes}
use Rattle.step_rules.specs.Steps.{after, after_step, place, footprint}
use Rattle.step_rules.proofs.Moved.{swap_passed}
use Rattle.step_vars.specs.Items.{swap_item}
use Rattle.step_vars.specs.Lists.{ion_count, is_there, is_before}
use Rattle.step_facts.specs.Facts.{Facts, AreSwapped, IsNearer}
use Rattle.step_facts.specs.Activities.{exchange, operation, IsActivity}
use Rattle.step_facts.specs.Properties.{SwappedAreInZone, SwappedAreNeighbours, SwapsTurn, StayersKeepOrder, PassersKeepOrder, MergesAtTheEnd, IonsAreInZone}
use Rattle.step_facts.specs.OfSchedule.{are_neighbours, exchanges}
use Rattle.step_facts.specs.Agreement.{AreDistinct}
use Rattle.step_facts.proofs.Lists.{list_any-some}
use Rattle.step_facts.proofs.Passing.{before-left, before-joined_old, before-joined_across, before-joined_new}
use Rattle.step_facts.proofs.Swapping.{there-swap, before-swap_pair, before-swap_other, neighbours_there, neighbours_turned, none_between, neighbours_within}
use Rattle.step_facts.proofs.Channels.{Ends, channel_ends}
use Rattle.step_facts.proofs.Configs.{sound-distinct}
use Rattle.step_facts.proofs.Effects.{IsPassage, Effect, idle, leave, come, turn, perform, effect_at, after_step-there}
use Rattle.step_facts.proofs.Guards.{nearer-outward}
use Rattle.step_facts.proofs.PassedGuards.{op_has_ions}
use Rattle.step_facts.proofs.Played.{IsPlayed, played-action, exchange_by, operation_by, sound_now, passer_of, used_passage, leavers, passer_leaves, nearer-before}

-- ---- swaps

-- the swap that exchanges two ions of a zone, and what it leaves there
record IsSwap (setting : SettingValue) (config : List (List Ion)) (step : List Action) (i j z : ℕ) : Type 0 where
  index : ℕ
  beside : are_neighbours i j index (list_at config z) ≡ true
  after : list_at (after_step setting.trap config step) z ≡ swap (list_at config z) index (index + 1)

swap_of : (setting : SettingValue) (facts : Facts) (r t : ℕ) (config : List (List Ion)) (step : List Action) (i j z : ℕ) → IsPlayed setting facts r t config step
    → IsActivity setting (exchange i j z) → AreSwapped facts i j z t → IsSwap setting config step i j z
swap_of setting facts r t config step i j z played is swapped =
    let by = played-action setting facts r t config step (exchange i j z) played is swapped in
    let it = exchange_by config i j z by.action by.does_it in
    let in_config : z < length config = omega (arith, is.2, played.sound.limits.places) in
    let on_z : Contains (footprint setting.trap by.action) (place z) = subst (λ (a : Action). Contains (footprint setting.trap a) (place z)) (sym it.1) (0, omega arith, refl) in
    record {
      index = it.0;
      beside = it.2;
      after = after_step-there setting.trap config step by.action z played.legal.apart by.in_step on_z
          ∙ ap (λ (a : Action). list_at (after setting.trap config a) z) it.1 ∙ get_or-set_same config z (swap (list_at config z) it.0 (it.0 + 1)) [] in_config;
    }

pub played-swap_in_zone : (setting : SettingValue) (facts : Facts) (r t : ℕ) (config : List (List Ion)) (step : List Action) → IsPlayed setting facts r t config step
    → SwappedAreInZone setting facts r t
played-swap_in_zone setting facts r t config step played i j z below known in_zone swapped =
    let it = swap_of setting facts r t config step i j z played (below, known, in_zone) swapped in
    let there = neighbours_there i j it.index (list_at config z) it.beside in
    let here : z < place_count setting.trap = omega (arith, in_zone) in
    (played.before.places i z (omega (arith, below, known)) here ∙ there.0, played.before.places j z known here ∙ there.1)

pub played-swap_neighbours : (setting : SettingValue) (facts : Facts) (r t : ℕ) (config : List (List Ion)) (step : List Action) → IsPlayed setting facts r t config step
    → SwappedAreNeighbours setting facts r t
played-swap_neighbours setting facts r t config step played i j k z below j_known in_zone k_known not_i not_j swapped at =
    let it = swap_of setting facts r t config step i j z played (below, j_known, in_zone) swapped in
    let ions : List Ion = list_at config z in
    let distinct : AreDistinct ions = sound-distinct setting config z played.sound in
    let here : z < place_count setting.trap = omega (arith, in_zone) in
    let there = neighbours_there i j it.index ions it.beside in
    let k_there : is_there k ions ≡ true = sym (played.before.places k z k_known here) ∙ at in
    let before : (m n : ℕ) → m ≢ n → is_there m ions ≡ true → is_there n ions ≡ true → IsNearer facts m n r → is_before m n ions ≡ true =
    λ m n differ m_there n_there nearer. nearer-before setting facts r config m n z played.sound played.before differ m_there n_there nearer in (
      λ both. none_between i j k it.index ions distinct not_i not_j it.beside (before i k (λ e. not_i (sym e)) there.0 k_there both.0) (before k j not_j k_there there.1 both.1),
      λ both. none_between j i k it.index ions distinct not_j not_i (neighbours_turned j i it.index ions ∙ it.beside) (before j k (λ e. not_j (sym e)) there.1 k_there both.0)
          (before k i not_i k_there there.0 both.1),
    )

pub played-swap_turns : (setting : SettingValue) (facts : Facts) (r t : ℕ) (config : List (List Ion)) (step : List Action) → IsPlayed setting facts r t config step
    → SwapsTurn setting facts r t
played-swap_turns setting facts r t config step played i j z below known in_zone swapped =
    let it = swap_of setting facts r t config step i j z played (below, known, in_zone) swapped in
    let ions : List Ion = list_at config z in
    let here : z < place_count setting.trap = omega (arith, in_zone) in
    let there = neighbours_there i j it.index ions it.beside in
    let within : it.index + 1 < length ions = neighbours_within i j it.index ions it.beside in
    let i_now : is_there i (list_at (after_step setting.trap config step) z) ≡ true = ap (is_there i) it.after ∙ there-swap i it.index ions within ∙ there.0 in
    let j_now : is_there j (list_at (after_step setting.trap config step) z) ≡ true = ap (is_there j) it.after ∙ there-swap j it.index ions within ∙ there.1 in
    played.now.orders i j z below known here i_now j_now ∙ ap (is_before i j) it.after
    ∙ before-swap_pair i j it.index ions (sound-distinct setting config z played.sound) (λ e. omega (arith, below, e)) it.beside
    ∙ ap not (sym (played.before.orders i j z below known here there.0 there.1))

-- ---- the order of ions

-- two ions that are at a place before the step and after it
record AreStayers (config now : List (List Ion)) (i j p : ℕ) : Type 0 where
  i_there : is_there i (list_at config p) ≡ true
  j_there : is_there j (list_at config p) ≡ true
  i_now : is_there i (list_at now p) ≡ true
  j_now : is_there j (list_at now p) ≡ true

-- two neighbours at the index of a swap are swapped by the facts
swapped_by : (setting : SettingValue) (facts : Facts) (r t : ℕ) (config : List (List Ion)) (step : List Action) (i j p index : ℕ) → IsPlayed setting facts r t config step
    → i < j → j < ion_count setting → Contains step (actions.Swap (record { 0 = p }) index) → are_neighbours i j index (list_at config p) ≡ true
    → (p < length setting.trap.zones) × AreSwapped facts i j p t
swapped_by setting facts r t config step i j p index played below known in_step beside =
    let action : Action = actions.Swap (record { 0 = p }) index in
    let in_zone : p < length setting.trap.zones =
    (swap_passed setting.trap config p index (All-contains (Passes setting config) step action played.legal.passes in_step)).0 in
    let does_it : exchanges config i j p action ≡ true = and_from (p == p) (are_neighbours i j index (list_at config p)) (eq-eqb p p refl) beside in
    (in_zone, played.activities.activities (exchange i j p) (below, known, in_zone) ∙ list_any-some (exchanges config i j p) step action in_step does_it)

-- none is twice where ions come
joined_distinct : (setting : SettingValue) (facts : Facts) (r t : ℕ) (config : List (List Ion)) (step : List Action) (action : Action) (c : ℕ) (channel : Channel)
    → IsPlayed setting facts r t config step → IsPassage setting config step action c channel
    → AreDistinct (joined channel.to_end (leavers config action channel) (list_at config channel.to.0))
joined_distinct setting facts r t config step action c channel played by =
    subst AreDistinct by.target (sound-distinct setting (after_step setting.trap config step) channel.to.0 (sound_now setting facts r t config step played))

keeps_order : (setting : SettingValue) (facts : Facts) (r t : ℕ) (config : List (List Ion)) (step : List Action) (i j p : ℕ) → IsPlayed setting facts r t config step
    → i < j → j < ion_count setting → AreStayers config (after_step setting.trap config step) i j p → (IsTrue (is_zone setting.trap p) → facts (swap_item i j p t) ≡ false)
    → Effect setting config step p → is_before i j (list_at (after_step setting.trap config step) p) ≡ is_before i j (list_at config p)
keeps_order setting facts r t config step i j p played below known stay apart (idle free same) = ap (is_before i j) same
keeps_order setting facts r t config step i j p played below known stay apart (leave action c channel by at) =
    let now : List (List Ion) = after_step setting.trap config step in
    let ions : List Ion = list_at config channel.from.0 in
    let count : ℕ = passing action ions in
    let i_left : is_there i (left channel.from_end count ions) ≡ true = sym (ap (is_there i) by.source) ∙ ap (λ (q : ℕ). is_there i (list_at now q)) at ∙ stay.i_now in
    let j_left : is_there j (left channel.from_end count ions) ≡ true = sym (ap (is_there j) by.source) ∙ ap (λ (q : ℕ). is_there j (list_at now q)) at ∙ stay.j_now in
    ap (λ (q : ℕ). is_before i j (list_at now q)) (sym at) ∙ ap (is_before i j) by.source
    ∙ before-left i j channel.from_end count ions (sound-distinct setting config channel.from.0 played.sound) i_left j_left ∙ ap (λ (q : ℕ). is_before i j (list_at config q)) at
keeps_order setting facts r t config step i j p played below known stay apart (come action c channel by at) =
    let now : List (List Ion) = after_step setting.trap config step in
    let others : List Ion = list_at config channel.to.0 in
    let i_old : is_there i others ≡ true = ap (λ (q : ℕ). is_there i (list_at config q)) at ∙ stay.i_there in
    let j_old : is_there j others ≡ true = ap (λ (q : ℕ). is_there j (list_at config q)) at ∙ stay.j_there in
    ap (λ (q : ℕ). is_before i j (list_at now q)) (sym at) ∙ ap (is_before i j) by.target
    ∙ before-joined_old i j channel.to_end (leavers config action channel) others (sound-distinct setting config channel.to.0 played.sound)
    (joined_distinct setting facts r t config step action c channel played by) i_old j_old
    ∙ ap (λ (q : ℕ). is_before i j (list_at config q)) at
keeps_order setting facts r t config step i j p played below known stay apart (turn index in_step within same) =
    let ions : List Ion = list_at config p in
    elim (cases_Bool (are_neighbours i j index ions)) [
      | inl beside ↦
          let swapped = swapped_by setting facts r t config step i j p index played below known in_step beside in
          absurd (both_ways (facts (swap_item i j p t)) (apart (lt-ltb p (length setting.trap.zones) swapped.0)) swapped.1)
      | inr other ↦ ap (is_before i j) same ∙ before-swap_other i j index ions (sound-distinct setting config p played.sound) (λ e. omega (arith, below, e)) within other
    ]
keeps_order setting facts r t config step i j p played below known stay apart (perform op in_step same) = ap (is_before i j) same

pub played-stayers : (setting : SettingValue) (facts : Facts) (r t : ℕ) (config : List (List Ion)) (step : List Action) → IsPlayed setting facts r t config step
    → StayersKeepOrder setting facts r t
played-stayers setting facts r t config step played i j p below known in_p i_was j_was i_is j_is apart =
    let i_known : i < ion_count setting = omega (arith, below, known) in
    let i_there : is_there i (list_at config p) ≡ true = sym (played.before.places i p i_known in_p) ∙ i_was in
    let j_there : is_there j (list_at config p) ≡ true = sym (played.before.places j p known in_p) ∙ j_was in
    let i_now : is_there i (list_at (after_step setting.trap config step) p) ≡ true = sym (played.now.places i p i_known in_p) ∙ i_is in
    let j_now : is_there j (list_at (after_step setting.trap config step) p) ≡ true = sym (played.now.places j p known in_p) ∙ j_is in
    played.now.orders i j p below known in_p i_now j_now
    ∙ keeps_order setting facts r t config step i j p played below known (record { i_there = i_there; j_there = j_there; i_now = i_now; j_now = j_now }) apart
    (effect_at setting config step p played.setting_sound played.sound played.legal)
    ∙ sym (played.before.orders i j p below known in_p i_there j_there)

pub played-passers : (setting : SettingValue) (facts : Facts) (r t : ℕ) (config : List (List Ion)) (step : List Action) → IsPlayed setting facts r t config step
    → PassersKeepOrder setting facts r t
played-passers setting facts r t config step played i j c channel below known is i_passes j_passes =
    let i_known : i < ion_count setting = omega (arith, below, known) in
    let i_passer = passer_of setting facts r t config step c channel i played is i_known i_passes in
    let j_passer = passer_of setting facts r t config step c channel j played is known j_passes in
    let found = used_passage setting facts r t config step c channel played is i_passer.used in
    let ions : List Ion = list_at config channel.from.0 in
    let count : ℕ = passing found.0 ions in
    let ends : Ends setting channel = channel_ends setting c channel played.setting_sound.trap is in
    let turned : Bool → Bool = λ b. if same_end channel.from_end channel.to_end then not b else b in
    played.now.orders i j channel.to.0 below known ends.to i_passer.to j_passer.to ∙ ap (is_before i j) found.1.target
    ∙ before-joined_new i j channel.from_end channel.to_end count ions (list_at config channel.to.0) (sound-distinct setting config channel.from.0 played.sound)
    (joined_distinct setting facts r t config step found.0 c channel played found.1) (λ e. omega (arith, below, e))
    (passer_leaves setting facts r t config step found.0 c channel i played found.1 i_known i_passes)
    (passer_leaves setting facts r t config step found.0 c channel j played found.1 known j_passes)
    ∙ ap turned (sym (played.before.orders i j channel.from.0 below known ends.from i_passer.from j_passer.from))

pub played-merges : (setting : SettingValue) (facts : Facts) (r t : ℕ) (config : List (List Ion)) (step : List Action) → IsPlayed setting facts r t config step
    → MergesAtTheEnd setting facts r t
played-merges setting facts r t config step played c channel i j is merge i_known j_known differ passes at =
    let now : List (List Ion) = after_step setting.trap config step in
    let ends : Ends setting channel = channel_ends setting c channel played.setting_sound.trap is in
    let passer = passer_of setting facts r t config step c channel j played is j_known passes in
    let found = used_passage setting facts r t config step c channel played is passer.used in
    let old : is_there i (list_at config channel.to.0) ≡ true = sym (played.before.places i channel.to.0 i_known ends.to) ∙ at in
    let comes : is_there j (leavers config found.0 channel) ≡ true = passer_leaves setting facts r t config step found.0 c channel j played found.1 j_known passes in
    nearer-outward setting facts t now channel.to_end i j channel.to.0 (sound_now setting facts r t config step played) played.now differ
    (ap (λ (ions : List Ion). is_before i j (outward channel.to_end ions)) found.1.target
    ∙ before-joined_across i j channel.to_end (leavers config found.0 channel) (list_at config channel.to.0) old comes)

-- ---- operations

pub played-ions_in_zone : (setting : SettingValue) (facts : Facts) (r t : ℕ) (config : List (List Ion)) (step : List Action) → IsPlayed setting facts r t config step
    → IonsAreInZone setting facts r t
played-ions_in_zone setting facts r t config step played g z i is known of_op performed =
    let by = played-action setting facts r t config step (operation g z) played is performed in
    let action : Action = actions.Op (record { 0 = z }) (record { 0 = g }) in
    let in_step : Contains step action = subst (Contains step) (operation_by g z by.action by.does_it) by.in_step in
    played.before.places i z known (omega (arith, is.2))
    ∙ op_has_ions setting config g z i (All-contains (Passes setting config) step action played.legal.passes in_step) of_op
