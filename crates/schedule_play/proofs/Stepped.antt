-- The actions of a step, judged one after another.
use Rattle.std.proofs.Common.{◌≡◌, ℕ, zero, suc, ◌+◌, ◌<◌, ◌≤◌, List, [], ◌∷◌, ◌++◌, length, take, get_or, map, Bool, Some, refl, sym, ap, subst, ◌∙◌, inl, inr, arith}
use Rattle.std.specs.Prelude.{slice_get}
use Rattle.std.proofs.Math.Seq.{take-append_seam}
use Rattle.std.proofs.lemmas.Option.{slice_get-get_or}
use Rattle.std.proofs.lemmas.List.{take_more, take_all, take-append-le, map-append}
use Rattle.qc_base.specs.declared.ids.Ion.{Ion}
use Rattle.step_rules.specs.declared.action.Action.{Action}
use Rattle.step_rules.specs.declared.spots.Footprint.{Footprint}
use Rattle.step_rules.specs.Footprint.{spots}
use Rattle.step_rules.specs.Setting.{SettingValue}
use Rattle.step_rules.specs.Steps.{Spot, footprint}
use Rattle.schedule_play.specs.declared.fault.PlayFault.{PlayFault}
use Rattle.schedule_play.specs.declared.fault.PlayFault.TheVariants as faults
use Rattle.schedule_play.specs.Judging.{before_of, IsWell, Offends}
use Rattle.schedule_play.specs.Progress.{AreFlags, marked, IsStateBefore, StepIsWell, StepStops, ExplainsStep}
use Rattle.schedule_play.proofs.Lists.{slice_pushed}
use Rattle.schedule_play.proofs.Done.{flags_marked}

pub some_at : {X : Type 0} (xs : List X) (k : ℕ) → k < length xs → (x : X) × (slice_get xs k ≡ Some x)
some_at [] k h = absurd (omega arith)
some_at (x ∷ xs) zero h = (x, refl)
some_at (x ∷ xs) (suc k) h = some_at xs k (omega arith)

-- ---- a fault

stops : (setting : SettingValue) (past : List (List Action)) (step : List Action) (i n : ℕ) (fault : PlayFault) → n ≡ i → i < length step → StepIsWell setting past (take i step)
    → ((action : Action) → slice_get step n ≡ Some action → Offends setting (before_of past (take n step)) action fault) → StepStops setting past step fault
stops setting past step i n fault same h well offends =
    let it = some_at step n (omega (arith, same)) in
    record { place = n; action = it.0; in_step = it.1; well = subst (λ (k : ℕ). StepIsWell setting past (take k step)) (sym same) well; offends = offends it.0 it.1 }

pub explained_step : (setting : SettingValue) (past : List (List Action)) (step : List Action) (i n : ℕ) (fault : PlayFault) → n ≡ i → i < length step → StepIsWell setting past (take i step)
    → ((action : Action) → slice_get step n ≡ Some action → Offends setting (before_of past (take n step)) action fault) → ExplainsStep setting past step fault
explained_step setting past step i n (faults.Broken at place rule) same h well offends = stops setting past step i n (faults.Broken at place rule) same h well offends
explained_step setting past step i n (faults.Shared at first second) same h well offends = stops setting past step i n (faults.Shared at first second) same h well offends
explained_step setting past step i n (faults.Early at op needs) same h well offends = stops setting past step i n (faults.Early at op needs) same h well offends
explained_step setting past step i n (faults.Twice at op) same h well offends = stops setting past step i n (faults.Twice at op) same h well offends
explained_step setting past step i n (faults.Missing op) same h well offends = stops setting past step i n (faults.Missing op) same h well offends
explained_step setting past step i n faults.NoMemory same h well offends = tt

-- ---- one more action

pub step_well_pushed : (setting : SettingValue) (past : List (List Action)) (step : List Action) (action : Action) → StepIsWell setting past step → IsWell setting (before_of past step) action → StepIsWell setting past (step ++ action ∷ [])
step_well_pushed setting past step action well is place other at = elim (slice_pushed step action other place at) [
  | inl there ↦ (let front : take place (step ++ action ∷ []) ≡ take place step = take-append-le place step (action ∷ []) (omega (arith, there.0)) in
      subst (λ (l : List Action). IsWell setting (before_of past l) other) (sym front) (well place other there.1))
  | inr last ↦ (let front : take place (step ++ action ∷ []) ≡ step = ap (λ (n : ℕ). take n (step ++ action ∷ [])) last.0 ∙ take-append_seam step (action ∷ []) in
      subst (λ (l : List Action). IsWell setting (before_of past l) other) (sym front) (subst (IsWell setting (before_of past step)) last.1 is))
]

state_more : (setting : SettingValue) (past : List (List Action)) (step : List Action) (action : Action) (places : List (List Ion)) (early marks early_now marks_now : List Bool) (footprints now : List Footprint) (works : Footprint) →
    IsStateBefore setting (before_of past step) places early marks footprints → early_now ≡ early → marks_now ≡ marked marks action → now ≡ footprints ++ works ∷ [] → spots works ≡ footprint setting.trap action
    → IsStateBefore setting (before_of past (step ++ action ∷ [])) places early_now marks_now now
state_more setting past step action places early marks early_now marks_now footprints now works state same marked_is grown is = record {
  config = state.config;
  earlier = subst (AreFlags setting.circuit past) (sym same) state.earlier;
  done = subst (AreFlags setting.circuit (past ++ (step ++ action ∷ []) ∷ [])) (sym marked_is) (flags_marked setting.circuit past step action marks state.done);
  footprints = ap (map spots) grown ∙ map-append spots footprints (works ∷ []) ∙ ap (λ (l : List (List Spot)). l ++ spots works ∷ []) state.footprints
      ∙ ap (λ (s : List Spot). map (footprint setting.trap) step ++ s ∷ []) is ∙ sym (map-append (footprint setting.trap) step (action ∷ []));
  well = state.well;
}

-- what the next action's judgement says, and what is kept then
pub record Goes (setting : SettingValue) (past : List (List Action)) (step : List Action) (places : List (List Ion)) (early marks : List Bool) (footprints : List Footprint) : Type 0 where
  pub state : IsStateBefore setting (before_of past step) places early marks footprints
  pub well : StepIsWell setting past step

pub continues : (setting : SettingValue) (past : List (List Action)) (step : List Action) (i n : ℕ) (d : Action) (places : List (List Ion)) (early marks early_now marks_now : List Bool) (footprints now : List Footprint) (works : Footprint) →
    n ≡ i → i < length step → Goes setting past (take i step) places early marks footprints
    → ((action : Action) → slice_get step n ≡ Some action → IsWell setting (before_of past (take n step)) action × (spots works ≡ footprint setting.trap action))
    → early_now ≡ early → marks_now ≡ marked marks (get_or step i d) → now ≡ footprints ++ works ∷ [] → Goes setting past (take (i + 1) step) places early_now marks_now now
continues setting past step i n d places early marks early_now marks_now footprints now works count h goes judged same marked_is grown =
    let action : Action = get_or step i d in
    let at : slice_get step n ≡ Some action = ap (slice_get step) count ∙ slice_get-get_or step i d h in
    let it = judged action at in
    let well : IsWell setting (before_of past (take i step)) action = subst (λ (k : ℕ). IsWell setting (before_of past (take k step)) action) count it.0 in
    let front : take (i + 1) step ≡ take i step ++ action ∷ [] = take_more step i d h in
    subst (λ (l : List Action). Goes setting past l places early_now marks_now now) (sym front) (record {
      state = state_more setting past (take i step) action places early marks early_now marks_now footprints now works goes.state same marked_is grown it.1;
      well = step_well_pushed setting past (take i step) action goes.well well;
    })

pub all_well : (setting : SettingValue) (past : List (List Action)) (step : List Action) (i : ℕ) → length step ≤ i → StepIsWell setting past (take i step) → StepIsWell setting past step
all_well setting past step i h well = subst (StepIsWell setting past) (take_all i step h) well
