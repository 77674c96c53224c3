-- Every ion stays in one place, and no place comes above its limit.
use Rattle.std.proofs.Common.{◌≡◌, ◌≢◌, ℕ, zero, suc, ◌+◌, ◌<◌, List, [], ◌∷◌, ◌++◌, length, replicate, Some, None, refl, sym, ap, subst, ◌∙◌, arith, append_assoc, get_or-set_same, get_or-set_other}
use Rattle.std.specs.Prelude.{All, AllPairs, IsPermutation, Option, swap, slice_set}
use Rattle.std.specs.Option.{option_map_or}
use Rattle.std.proofs.lemmas.List.{length-set, set-set, set_comm, append-nil}
use Rattle.std.proofs.lemmas.List.Sorted.{IsPermutation-refl, IsPermutation-sym, IsPermutation-trans, IsPermutation-swap, IsPermutation-append_left, IsPermutation-append_right, IsPermutation-append_comm}
use Rattle.std.proofs.lemmas.Grind.{flat_map-append}
use Rattle.std.proofs.lemmas.Option.{slice_get_within, get_or_from_slice_get}
use Rattle.qc_base.specs.declared.ids.Qubit.{Qubit}
use Rattle.qc_base.specs.declared.ids.Ion.{Ion}
use Rattle.circuit_core.specs.Circuit.{CircuitValue}
use Rattle.trap_parts.specs.Parts.{TrapValue, slot_count}
use Rattle.trap_model.specs.Trap.{place_count}
use Rattle.trap_parts.specs.Build.{IsTrap}
use Rattle.trap_model.specs.Channels.{channels_of, channel_at, split_channel, move_channel, cross_channel, merge_channel, split_at, move_of, cross_of, merge_at}
use Rattle.trap_model.specs.declared.channel.Channel.{Channel}
use Rattle.trap_model.proofs.Within.{channels_within}
use Rattle.trap_model.proofs.Docks.{split_leads, merge_leads}
use Rattle.trap_model.proofs.Moves.{move_leads}
use Rattle.trap_model.proofs.Crosses.{cross_leads}
use Rattle.ion_chain.specs.declared.transfer.Transfer.{Transfer}
use Rattle.ion_chain.specs.Passing.{leaving, left, joined}
use Rattle.ion_chain.specs.Transfer.{list_at, after_transfer}
use Rattle.ion_chain.proofs.Passed.{all_stay}
use Rattle.step_rules.specs.declared.action.Action.{Action}
use Rattle.step_rules.specs.declared.action.Action.TheVariants as actions
use Rattle.step_rules.specs.Setting.{SettingValue}
use Rattle.step_rules.specs.ActionChannel.{channel_for, passing, transfer, IsWithin}
use Rattle.step_rules.specs.Guards.{Passes, PassesTransport}
use Rattle.step_rules.specs.Steps.{AreApart, IsLegal, after, after_passing, after_step}
use Rattle.step_rules.specs.Placement.{IsPlacement, reading_order, ions_from, places_from, start_of}
use Rattle.step_rules.specs.Play.{AreLegal, after_steps}
use Rattle.step_rules.specs.Config.{IsWithinLimits, IsKept, all_ions}
use Rattle.step_rules.proofs.Moved.{MayPass, may_pass, swap_passed, within_passing, within_swap}
use Rattle.step_rules.proofs.Carried.{still_passes, transport_of}
use Rattle.step_rules.proofs.Ions.{start_within, length-start_of}

-- ---- the ions of two places and those of the others

abbrev without : List (List Ion) → ℕ → List (List Ion)
without lists place = slice_set lists place []

to_the_front : (xs ys zs : List Ion) → IsPermutation (xs ++ (ys ++ zs)) (ys ++ (xs ++ zs))
to_the_front xs ys zs =
    subst (λ (l : List Ion). IsPermutation l (ys ++ (xs ++ zs))) (append_assoc xs ys zs)
    (subst (λ (l : List Ion). IsPermutation ((xs ++ ys) ++ zs) l) (append_assoc ys xs zs) (IsPermutation-append_left zs (xs ++ ys) (ys ++ xs) (IsPermutation-append_comm xs ys)))

one_apart : (lists : List (List Ion)) (place : ℕ) → place < length lists → IsPermutation (all_ions lists) (list_at lists place ++ all_ions (without lists place))
one_apart [] place h = absurd (omega arith)
one_apart (ions ∷ lists) zero h = IsPermutation-refl (ions ++ all_ions lists)
one_apart (ions ∷ lists) (suc place) h =
    let it : List Ion = list_at lists place in
    let rest : List Ion = all_ions (without lists place) in
    IsPermutation-trans (ions ++ all_ions lists) (ions ++ (it ++ rest)) (it ++ (ions ++ rest))
    (IsPermutation-append_right ions (all_ions lists) (it ++ rest) (one_apart lists place (omega arith))) (to_the_front ions it rest)

two_apart : (lists : List (List Ion)) (p q : ℕ) → p ≢ q → p < length lists → q < length lists
    → IsPermutation (all_ions lists) ((list_at lists p ++ list_at lists q) ++ all_ions (without (without lists p) q))
two_apart lists p q apart in_p in_q =
    let first : List Ion = list_at lists p in
    let second : List Ion = list_at lists q in
    let rest : List Ion = all_ions (without (without lists p) q) in
    let seen : list_at (without lists p) q ≡ second = get_or-set_other lists p q [] [] (λ e. apart (sym e)) in
    let others : IsPermutation (all_ions (without lists p)) (second ++ rest) =
    subst (λ (l : List Ion). IsPermutation (all_ions (without lists p)) (l ++ rest)) seen (one_apart (without lists p) q (omega (arith, in_q, length-set lists p []))) in
    subst (λ (l : List Ion). IsPermutation (all_ions lists) l) (sym (append_assoc first second rest))
    (IsPermutation-trans (all_ions lists) (first ++ all_ions (without lists p)) (first ++ (second ++ rest)) (one_apart lists p in_p) (IsPermutation-append_right first (all_ions (without lists p)) (second ++ rest) others))

-- two lists that keep their ions together, and all others stay
pair_kept : (lists : List (List Ion)) (p q : ℕ) (gone come : List Ion) → p ≢ q → p < length lists → q < length lists → IsPermutation (list_at lists p ++ list_at lists q) (gone ++ come)
    → IsPermutation (all_ions lists) (all_ions (slice_set (slice_set lists p gone) q come))
pair_kept lists p q gone come apart in_p in_q moved =
    let mid : List (List Ion) = slice_set lists p gone in
    let new : List (List Ion) = slice_set mid q come in
    let rest : List Ion = all_ions (without (without lists p) q) in
    let len_mid : length mid ≡ length lists = length-set lists p gone in
    let len : length new ≡ length lists = length-set mid q come ∙ len_mid in
    let at_p : list_at new p ≡ gone = get_or-set_other mid q p come [] apart ∙ get_or-set_same lists p gone [] in_p in
    let at_q : list_at new q ≡ come = get_or-set_same mid q come [] (omega (arith, in_q, len_mid)) in
    let bare_p : without new p ≡ slice_set (without lists p) q come = set_comm mid q p come [] (λ e. apart (sym e)) ∙ ap (λ (l : List (List Ion)). slice_set l q come) (set-set lists p gone []) in
    let bare : without (without new p) q ≡ without (without lists p) q = ap (λ (l : List (List Ion)). without l q) bare_p ∙ set-set (without lists p) q come [] in
    let split : IsPermutation (all_ions new) ((list_at new p ++ list_at new q) ++ all_ions (without (without new p) q)) = two_apart new p q apart (omega (arith, in_p, len)) (omega (arith, in_q, len)) in
    let there : IsPermutation (all_ions new) ((gone ++ come) ++ rest) =
    subst (λ (l : List (List Ion)). IsPermutation (all_ions new) ((gone ++ come) ++ all_ions l)) bare
    (subst (λ (l : List Ion). IsPermutation (all_ions new) ((gone ++ l) ++ all_ions (without (without new p) q))) at_q
    (subst (λ (l : List Ion). IsPermutation (all_ions new) ((l ++ list_at new q) ++ all_ions (without (without new p) q))) at_p split)) in
    IsPermutation-trans (all_ions lists) ((list_at lists p ++ list_at lists q) ++ rest) (all_ions new) (two_apart lists p q apart in_p in_q)
    (IsPermutation-trans ((list_at lists p ++ list_at lists q) ++ rest) ((gone ++ come) ++ rest) (all_ions new)
    (IsPermutation-append_left rest (list_at lists p ++ list_at lists q) (gone ++ come) moved) (IsPermutation-sym (all_ions new) ((gone ++ come) ++ rest) there))

one_kept : (lists : List (List Ion)) (p : ℕ) (ions : List Ion) → p < length lists → IsPermutation (list_at lists p) ions → IsPermutation (all_ions lists) (all_ions (slice_set lists p ions))
one_kept lists p ions in_p moved =
    let new : List (List Ion) = slice_set lists p ions in
    let rest : List Ion = all_ions (without lists p) in
    let split : IsPermutation (all_ions new) (list_at new p ++ all_ions (without new p)) = one_apart new p (omega (arith, in_p, length-set lists p ions)) in
    let there : IsPermutation (all_ions new) (ions ++ rest) =
    subst (λ (l : List (List Ion)). IsPermutation (all_ions new) (ions ++ all_ions l)) (set-set lists p ions [])
    (subst (λ (l : List Ion). IsPermutation (all_ions new) (l ++ all_ions (without new p))) (get_or-set_same lists p ions [] in_p) split) in
    IsPermutation-trans (all_ions lists) (list_at lists p ++ rest) (all_ions new) (one_apart lists p in_p)
    (IsPermutation-trans (list_at lists p ++ rest) (ions ++ rest) (all_ions new) (IsPermutation-append_left rest (list_at lists p) ions moved) (IsPermutation-sym (all_ions new) (ions ++ rest) there))

transfer_kept : (lists : List (List Ion)) (t : Transfer) → t.from.0 ≢ t.to.0 → t.from.0 < length lists → t.to.0 < length lists → IsPermutation (all_ions lists) (all_ions (after_transfer lists t))
transfer_kept lists t apart in_from in_to =
    let source : List Ion = list_at lists t.from.0 in
    let target : List Ion = list_at lists t.to.0 in
    pair_kept lists t.from.0 t.to.0 (left t.from_end t.count source) (joined t.to_end (leaving t.from_end t.count source) target) apart in_from in_to (all_stay t.from_end t.to_end t.count source target)

-- ---- the places of an action's channel are there

numbered_within : (trap : TrapValue) (number : Option ℕ) (channel : Channel) → IsTrap trap → channel_at trap number ≡ Some channel → IsWithin trap channel
numbered_within trap None channel sound e = absurd cc
numbered_within trap (Some k) channel sound e =
    let there : (channel.from.0 < place_count trap) × (channel.to.0 < place_count trap) =
    subst (λ (c : Channel). (c.from.0 < place_count trap) × (c.to.0 < place_count trap)) (get_or_from_slice_get (channels_of trap) k channel channel e)
    (channels_within trap sound k channel (slice_get_within (channels_of trap) k channel e)) in
    record { from = there.0; to = there.1 }

pub channel_within : (trap : TrapValue) (action : Action) (channel : Channel) → IsTrap trap → channel_for trap action ≡ Some channel → IsWithin trap channel
channel_within trap (actions.Split zone end count) channel sound e = numbered_within trap (split_at trap zone.0 end) channel sound (split_leads trap zone.0 end ∙ e)
channel_within trap (actions.Move from to) channel sound e = numbered_within trap (move_of trap from.0 to.0) channel sound (move_leads trap from.0 to.0 ∙ e)
channel_within trap (actions.Cross crossed from to) channel sound e = numbered_within trap (cross_of trap crossed.0 from.0 to.0) channel sound (cross_leads trap crossed.0 from.0 to.0 ∙ e)
channel_within trap (actions.Merge zone end) channel sound e = numbered_within trap (merge_at trap zone.0 end) channel sound (merge_leads trap zone.0 end ∙ e)
channel_within trap (actions.Swap zone index) channel sound e = absurd cc
channel_within trap (actions.Op zone op) channel sound e = absurd cc

-- ---- after an action

all_kept : (trap : TrapValue) (config : List (List Ion)) → IsWithinLimits trap config → IsKept trap config config
all_kept trap config within = record { ions = IsPermutation-refl (all_ions config); limits = within }

kept_through : (trap : TrapValue) (config : List (List Ion)) (action : Action) (found : Option Channel) → channel_for trap action ≡ found → IsTrap trap → IsWithinLimits trap config → PassesTransport trap config action
    → IsKept trap config (option_map_or (after_passing config action) found config)
kept_through trap config action None e sound within passes = all_kept trap config within
kept_through trap config action (Some channel) e sound within passes =
    let there : IsWithin trap channel = channel_within trap action channel sound e in
    let count : ℕ = passing action (list_at config channel.from.0) in
    let may : MayPass trap config channel count = may_pass trap config action channel sound (within.within channel.from.0 there.from) passes e in
    let in_from : channel.from.0 < length config = omega (arith, there.from, within.places) in
    let in_to : channel.to.0 < length config = omega (arith, there.to, within.places) in
    let t : Transfer = transfer channel count in
    let gone : List Ion = left t.from_end t.count (list_at config t.from.0) in
    let come : List Ion = joined t.to_end (leaving t.from_end t.count (list_at config t.from.0)) (list_at config t.to.0) in
    record {
      ions = transfer_kept config t may.apart in_from in_to;
      limits = record {
        places = length-set (slice_set config t.from.0 gone) t.to.0 come ∙ length-set config t.from.0 gone ∙ within.places;
        within = within_passing trap config channel count within.within in_from in_to may;
      };
    }

pub action_kept : (trap : TrapValue) (config : List (List Ion)) (action : Action) → IsTrap trap → IsWithinLimits trap config → PassesTransport trap config action → IsKept trap config (after trap config action)
action_kept trap config (actions.Split zone end count) sound within passes = kept_through trap config (actions.Split zone end count) (split_channel trap zone.0 end) refl sound within passes
action_kept trap config (actions.Move from to) sound within passes = kept_through trap config (actions.Move from to) (move_channel trap from.0 to.0) refl sound within passes
action_kept trap config (actions.Cross crossed from to) sound within passes =
    kept_through trap config (actions.Cross crossed from to) (cross_channel trap crossed.0 from.0 to.0) refl sound within passes
action_kept trap config (actions.Merge zone end) sound within passes = kept_through trap config (actions.Merge zone end) (merge_channel trap zone.0 end) refl sound within passes
action_kept trap config (actions.Swap zone index) sound within passes =
    let facts = swap_passed trap config zone.0 index passes in
    let in_zone : zone.0 < length config = omega (arith, facts.0, within.places) in
    let ions : List Ion = list_at config zone.0 in
    let swapped : List Ion = swap ions index (index + 1) in
    record {
      ions = one_kept config zone.0 swapped in_zone (IsPermutation-swap ions swapped index (index + 1) (omega (arith, facts.1)) facts.1 refl);
      limits = record {
        places = length-set config zone.0 swapped ∙ within.places;
        within = within_swap trap config zone.0 index within.within in_zone;
      };
    }
action_kept trap config (actions.Op zone op) sound within passes = all_kept trap config within

-- ---- after legal steps

kept_on : (trap : TrapValue) (old middle new : List (List Ion)) → IsKept trap old middle → IsKept trap middle new → IsKept trap old new
kept_on trap old middle new first next = record {
  ions = IsPermutation-trans (all_ions old) (all_ions middle) (all_ions new) first.ions next.ions;
  limits = next.limits;
}

all_actions_kept : (setting : SettingValue) (config : List (List Ion)) (step : List Action) → IsTrap setting.trap → IsWithinLimits setting.trap config → All (Passes setting config) step → AllPairs (AreApart setting.trap) step
    → IsKept setting.trap config (after_step setting.trap config step)
all_actions_kept setting config [] sound within passes apart = all_kept setting.trap config within
all_actions_kept setting config (action ∷ step) sound within passes apart =
    let next : List (List Ion) = after setting.trap config action in
    let first : IsKept setting.trap config next = action_kept setting.trap config action sound within (transport_of setting config action (passes 0 action (omega arith))) in
    kept_on setting.trap config next (after_step setting.trap next step) first
    (all_actions_kept setting next step sound first.limits
    (λ k d h. still_passes setting config action _ (apart 0 (suc k) d (omega arith) (omega (arith, h))) (passes (suc k) d (omega (arith, h))))
    (λ i j d before h. apart (suc i) (suc j) d (omega (arith, before)) (omega (arith, h))))

pub step_kept : (setting : SettingValue) (config : List (List Ion)) (step : List Action) → IsTrap setting.trap → IsWithinLimits setting.trap config → IsLegal setting config step
    → IsKept setting.trap config (after_step setting.trap config step)
step_kept setting config step sound within legal = all_actions_kept setting config step sound within legal.passes legal.apart

pub steps_kept : (setting : SettingValue) (config : List (List Ion)) (steps : List (List Action)) → IsTrap setting.trap → IsWithinLimits setting.trap config → AreLegal setting config steps
    → IsKept setting.trap config (after_steps setting.trap config steps)
steps_kept setting config [] sound within legal = all_kept setting.trap config within
steps_kept setting config (step ∷ steps) sound within legal =
    let next : List (List Ion) = after_step setting.trap config step in
    let first : IsKept setting.trap config next = step_kept setting config step sound within legal.0 in
    kept_on setting.trap config next (after_steps setting.trap next steps) first (steps_kept setting next steps sound first.limits legal.1)

-- ---- where a schedule begins

numbered_on : (first : ℕ) (xs ys : List Qubit) → ions_from first (xs ++ ys) ≡ ions_from first xs ++ ions_from (first + length xs) ys
numbered_on first [] ys = let same : first ≡ first + 0 = omega arith in ap (λ (n : ℕ). ions_from n ys) same
numbered_on first (x ∷ xs) ys =
    let same : first + 1 + length xs ≡ first + suc (length xs) = omega arith in
    ap (λ (l : List Ion). record { 0 = first } ∷ l) (numbered_on (first + 1) xs ys ∙ ap (λ (n : ℕ). ions_from (first + 1) xs ++ ions_from n ys) same)

in_zones : (first : ℕ) (lists : List (List Qubit)) → all_ions (places_from first lists) ≡ ions_from first (reading_order lists)
in_zones first [] = refl
in_zones first (list ∷ lists) = ap (λ (l : List Ion). ions_from first list ++ l) (in_zones (first + length list) lists) ∙ sym (numbered_on first list (reading_order lists))

none_in : (count : ℕ) → all_ions (replicate count []) ≡ []
none_in zero = refl
none_in (suc count) = none_in count

pub start_ions : (trap : TrapValue) (placement : List (List Qubit)) → all_ions (start_of trap placement) ≡ ions_from 0 (reading_order placement)
start_ions trap placement =
    flat_map-append (λ ions. ions) (places_from 0 placement) (replicate (slot_count trap.segments) [])
    ∙ ap (λ (l : List Ion). all_ions (places_from 0 placement) ++ l) (none_in (slot_count trap.segments)) ∙ append-nil (all_ions (places_from 0 placement)) ∙ in_zones 0 placement

pub start_limits : (trap : TrapValue) (circuit : CircuitValue) (placement : List (List Qubit)) → IsPlacement trap circuit placement → IsWithinLimits trap (start_of trap placement)
start_limits trap circuit placement placed = record {
  places = length-start_of trap placement placed.zones;
  within = λ place h. start_within trap placement placed.room place;
}
