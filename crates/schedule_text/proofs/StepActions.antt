-- The actions of a legal step are no more than places, and an operation that is performed is no barrier.
use Rattle.std.proofs.Common.{◌≡◌, ℕ, suc, ◌<◌, ◌≤◌, Bool, true, false, ◌&&◌, cond, List, [], ◌∷◌, length, Option, Some, None, refl, sym, subst, ◌∙◌, inl, inr, arith}
use Rattle.std.specs.Prelude.{All, AllPairs, Contains, nat_lt, not, ◌==◌}
use Rattle.std.proofs.lemmas.Bool.{cases_Bool, and_parts, ltb-true, eqb-true, eq-eqb}
use Rattle.std.proofs.lemmas.List.Elements.{All-head, All-tail, All-weaker}
use Rattle.qc_base.specs.Counting.{how_many}
use Rattle.qc_base.specs.declared.ids.Ion.{Ion}
use Rattle.trap_parts.specs.Parts.{TrapValue}
use Rattle.trap_model.specs.Trap.{place_count, is_zone}
use Rattle.step_rules.specs.declared.action.Action.{Action}
use Rattle.step_rules.specs.declared.action.Action.TheVariants as actions
use Rattle.step_rules.specs.declared.action.Rule.{Rule}
use Rattle.step_rules.specs.Guards.{is_slot, is_junction, Passes}
use Rattle.step_rules.specs.Setting.{SettingValue}
use Rattle.step_rules.specs.Steps.{place, junction, docked, footprint, AreApart, IsLegal}
use Rattle.schedule_text.proofs.WeightSums.{few_numbered}

-- ---- the place that each action begins at

abbrev pub first_place : Action → ℕ
first_place (actions.Split zone end count) = zone.0
first_place (actions.Move from to) = from.0
first_place (actions.Cross crossed from to) = from.0
first_place (actions.Merge zone end) = zone.0
first_place (actions.Swap zone index) = zone.0
first_place (actions.Op zone op) = zone.0

abbrev begins_at : ℕ → Action → Bool
begins_at number action = first_place action == number

first_spot : {X : Type 0} (x : X) (xs : List X) → Contains (x ∷ xs) x
first_spot x xs = (0, omega arith, refl)

works_there : (trap : TrapValue) (action : Action) → Contains (footprint trap action) (place (first_place action))
works_there trap (actions.Split zone end count) = first_spot (place zone.0) (docked trap zone.0 end)
works_there trap (actions.Move from to) = first_spot (place from.0) (place to.0 ∷ [])
works_there trap (actions.Cross crossed from to) = first_spot (place from.0) (place to.0 ∷ junction crossed.0 ∷ [])
works_there trap (actions.Merge zone end) = first_spot (place zone.0) (docked trap zone.0 end)
works_there trap (actions.Swap zone index) = first_spot (place zone.0) []
works_there trap (actions.Op zone op) = first_spot (place zone.0) []

-- ---- what the first guard says

pub first_passes : (passes : Bool) (rest : Option Rule) (rule : Rule) → cond passes rest (Some rule) ≡ None → (passes ≡ true) × (rest ≡ None)
first_passes true rest rule e = (refl, e)
first_passes false rest rule e = absurd cc

zone_there : (trap : TrapValue) (zone : ℕ) → is_zone trap zone ≡ true → zone < place_count trap
zone_there trap zone e = omega (arith, ltb-true zone (length trap.zones) e)

slot_there : (trap : TrapValue) (slot : ℕ) → is_slot trap slot ≡ true → slot < place_count trap
slot_there trap slot e = ltb-true slot (place_count trap) (and_parts (not (is_zone trap slot)) (nat_lt slot (place_count trap)) e).1

pub begins_within : (setting : SettingValue) (config : List (List Ion)) (action : Action) → Passes setting config action → first_place action < place_count setting.trap
begins_within setting config (actions.Split zone end count) e = zone_there setting.trap zone.0 (first_passes _ _ _ e).0
begins_within setting config (actions.Move from to) e =
    slot_there setting.trap from.0 (and_parts (is_slot setting.trap from.0) (is_slot setting.trap to.0) (first_passes _ _ _ e).0).0
begins_within setting config (actions.Cross crossed from to) e =
    let slots = is_slot setting.trap from.0 && is_slot setting.trap to.0 in
    slot_there setting.trap from.0 (and_parts (is_slot setting.trap from.0) (is_slot setting.trap to.0) (and_parts (is_junction setting.trap crossed.0) slots (first_passes _ _ _ e).0).1).0
begins_within setting config (actions.Merge zone end) e = zone_there setting.trap zone.0 (first_passes _ _ _ e).0
begins_within setting config (actions.Swap zone index) e = zone_there setting.trap zone.0 (first_passes _ _ _ e).0
begins_within setting config (actions.Op zone op) e = zone_there setting.trap zone.0 (first_passes _ _ _ e).0

-- ---- no two begin at one place

later_pairs : {X : Type 0} (R : X → X → Type 0) (x : X) (xs : List X) → AllPairs R (x ∷ xs) → AllPairs R xs
later_pairs R x xs all = λ i j d l h. all (suc i) (suc j) d (omega arith) (omega arith)

first_pairs : {X : Type 0} (R : X → X → Type 0) (x : X) (xs : List X) → AllPairs R (x ∷ xs) → All (R x) xs
first_pairs R x xs all = λ k d h. all 0 (suc k) d (omega arith) (omega arith)

not_both : (trap : TrapValue) (a b : Action) (number : ℕ) → AreApart trap a b → first_place a ≡ number → first_place b ≡ number → ⊥
not_both trap a b number apart at also =
    apart (place (first_place a)) (works_there trap a) (subst (λ (k : ℕ). Contains (footprint trap b) (place k)) (also ∙ sym at) (works_there trap b))

no_other : (trap : TrapValue) (a : Action) (step : List Action) (number : ℕ) → All (AreApart trap a) step → first_place a ≡ number → how_many (begins_at number) step ≡ 0
no_other trap a [] number apart at = refl
no_other trap a (b ∷ step) number apart at = elim (cases_Bool (begins_at number b)) [
  | inl here ↦ absurd (not_both trap a b number (All-head (AreApart trap a) b step apart) at (eqb-true (first_place b) number here))
  | inr other ↦ rw other (omega (arith, no_other trap a step number (All-tail (AreApart trap a) b step apart) at))
]

one_there : (trap : TrapValue) (step : List Action) (number : ℕ) → AllPairs (AreApart trap) step → how_many (begins_at number) step ≤ 1
one_there trap [] number apart = omega arith
one_there trap (a ∷ step) number apart = elim (cases_Bool (begins_at number a)) [
  | inl here ↦ rw here (omega (arith, no_other trap a step number (first_pairs (AreApart trap) a step apart) (eqb-true (first_place a) number here)))
  | inr other ↦ rw other (omega (arith, one_there trap step number (later_pairs (AreApart trap) a step apart)))
]

-- a legal step has at most as many actions as there are places
pub few_actions : (setting : SettingValue) (config : List (List Ion)) (step : List Action) → IsLegal setting config step → length step ≤ place_count setting.trap
few_actions setting config step legal =
    few_numbered begins_at first_place (place_count setting.trap) step
    (All-weaker (Passes setting config) (λ action. (first_place action < place_count setting.trap) × (begins_at (first_place action) action ≡ true))
    (λ action passes. (begins_within setting config action passes, eq-eqb (first_place action) (first_place action) refl)) step legal.passes)
    (λ number. one_there setting.trap step number legal.apart)
