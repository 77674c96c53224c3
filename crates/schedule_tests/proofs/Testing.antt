-- What the tests of a list find before it is tightened.
use Rattle.std.proofs.Common.{◌≡◌, ℕ, zero, suc, ◌+◌, ◌-◌, ◌<◌, ◌≤◌, true, List, [], ◌∷◌, ◌++◌, length, take, drop, get_or, Some, refl, sym, ap, subst, ◌∙◌, inl, inr, arith}
use Rattle.std.specs.Prelude.{All, Contains, slice_get}
use Rattle.std.proofs.lemmas.Option.{slice_get_within, get_or_from_slice_get, same_Some}
use Rattle.std.proofs.lemmas.Bool.{eqb-true, cases_lt}
use Rattle.std.proofs.lemmas.List.Elements.{All-contains}
use Rattle.qc_base.specs.declared.ids.Ion.{Ion}
use Rattle.qc_base.specs.declared.ids.OpId.{OpId}
use Rattle.qc_base.specs.declared.ids.PlaceId.{PlaceId}
use Rattle.circuit_core.specs.Circuit.{CircuitValue}
use Rattle.circuit_core.specs.Order.{Forced}
use Rattle.step_rules.specs.declared.action.Action.{Action}
use Rattle.step_rules.specs.declared.action.Action.TheVariants as kinds
use Rattle.step_rules.specs.Setting.{SettingValue}
use Rattle.step_rules.specs.Guards.{Passes}
use Rattle.step_rules.specs.Steps.{after, after_step}
use Rattle.step_rules.specs.Play.{AreLegal, PerformsIn, after_steps, one_at_a_time, performs, AreInOrder}
use Rattle.compact.specs.Orders.{Precedes, IsPerformedAt}
use Rattle.compact.proofs.Places.{after_front, contains_at}
use Rattle.compact.proofs.Carrying.{legal_alone}
use Rattle.compact.proofs.Building.{one_more_alone, take_next}

-- ---- one action more

legal_more : (setting : SettingValue) (config : List (List Ion)) (actions : List Action) (action : Action) → AreLegal setting config (one_at_a_time actions) → Passes setting (after_steps setting.trap config (one_at_a_time actions)) action
    → AreLegal setting config (one_at_a_time (actions ++ action ∷ []))
legal_more setting config [] action legal passes = (legal_alone setting config action passes, tt)
legal_more setting config (first ∷ actions) action legal passes = (legal.0, legal_more setting (after_step setting.trap config (first ∷ [])) actions action legal.1 passes)

pub legal_next : (setting : SettingValue) (config places : List (List Ion)) (actions : List Action) (k : ℕ) (action : Action) → slice_get actions k ≡ Some action → places ≡ after_steps setting.trap config (one_at_a_time (take k actions))
    → AreLegal setting config (one_at_a_time (take k actions)) → Passes setting places action → AreLegal setting config (one_at_a_time (take (k + 1) actions))
legal_next setting config places actions k action there is legal passes =
    subst (λ (xs : List Action). AreLegal setting config (one_at_a_time xs)) (sym (take_next actions k action there))
    (legal_more setting config (take k actions) action legal (subst (λ (p : List (List Ion)). Passes setting p action) is passes))

pub lists_next : (setting : SettingValue) (config places now : List (List Ion)) (actions : List Action) (k : ℕ) (action : Action) → slice_get actions k ≡ Some action → places ≡ after_steps setting.trap config (one_at_a_time (take k actions))
    → now ≡ after setting.trap places action → now ≡ after_steps setting.trap config (one_at_a_time (take (k + 1) actions))
lists_next setting config places now actions k action there is moved =
    moved ∙ ap (λ (p : List (List Ion)). after setting.trap p action) is ∙ sym (one_more_alone setting config (take k actions) action)
    ∙ ap (λ (xs : List Action). after_steps setting.trap config (one_at_a_time xs)) (sym (take_next actions k action there))

-- ---- forced operations

pub before_place : (circuit : CircuitValue) (actions : List Action) (place i j p : ℕ) (zone : PlaceId) (op : OpId) (given : Action) → given ≡ kinds.Op zone op → slice_get actions place ≡ Some given → All (λ (action : Action). Precedes circuit op.0 action → ⊥) (drop place actions)
    → Forced circuit i j → IsPerformedAt actions i p → IsPerformedAt actions j place → p < place
before_place circuit actions place i j p zone op given is there none forced of_i of_j = elim (cases_lt p place) [
  | inl before ↦ before
  | inr after_it ↦ (let counted : place + (p - place) ≡ p = omega arith in
      let at : slice_get (drop place actions) (p - place) ≡ Some (kinds.Op of_i.zone (record { 0 = i })) = after_front actions place (p - place) p counted ∙ of_i.there in
      let both : kinds.Op of_j.zone (record { 0 = j }) ≡ kinds.Op zone op = same_Some (kinds.Op of_j.zone (record { 0 = j })) (kinds.Op zone op) (sym of_j.there ∙ there ∙ ap Some is) in
      let one : OpId = record { 0 = j } in
      let same : one ≡ op = cc in
      let number : j ≡ op.0 = ap (λ (o : OpId). o.0) same in
      absurd (All-contains (λ (action : Action). Precedes circuit op.0 action → ⊥) (drop place actions) (kinds.Op of_i.zone (record { 0 = i })) none
      (contains_at (drop place actions) (p - place) (kinds.Op of_i.zone (record { 0 = i })) at) (subst (λ (n : ℕ). Forced circuit i n) number forced)))
]

pub not_performed : (actions : List Action) (j place : ℕ) (d : Action) → ((zone : PlaceId) (op : OpId) → get_or actions place d ≡ kinds.Op zone op → ⊥) → IsPerformedAt actions j place → ⊥
not_performed actions j place d not at = not at.zone (record { 0 = j }) (get_or_from_slice_get actions place (kinds.Op at.zone (record { 0 = j })) d at.there)

which_op : (actions : List Action) (number place : ℕ) (action : Action) → slice_get actions place ≡ Some action → performs number action ≡ true → IsPerformedAt actions number place
which_op actions number place (kinds.Op zone op) there is = subst (λ (n : ℕ). IsPerformedAt actions n place) (eqb-true op.0 number is) (record { zone = zone; there = there })
which_op actions number place action there is = absurd cc

alone_in : (actions : List Action) (place : ℕ) (step : List Action) → slice_get (one_at_a_time actions) place ≡ Some step → (action : Action) × (slice_get actions place ≡ Some action) × (action ∷ [] ≡ step)
alone_in [] place step e = absurd cc
alone_in (first ∷ actions) zero step e = (first, refl, same_Some (first ∷ []) step e)
alone_in (first ∷ actions) (suc place) step e = alone_in actions place step e

performed_of : (actions : List Action) (number place : ℕ) → PerformsIn (one_at_a_time actions) number place → IsPerformedAt actions number place
performed_of actions number place it =
    let alone = alone_in actions place it.step it.at_time in
    let inside : Contains (alone.0 ∷ []) it.action = subst (λ (l : List Action). Contains l it.action) (sym alone.2) it.in_step in
    let first : inside.0 ≡ 0 = omega (arith, inside.1) in
    let same : alone.0 ≡ it.action = ap (λ (n : ℕ). get_or (alone.0 ∷ []) n it.action) (sym first) ∙ inside.2 in
    which_op actions number place it.action (alone.1 ∙ ap Some same) it.is

pub in_order_of : (circuit : CircuitValue) (actions : List Action) (count : ℕ) → length actions ≤ count
    → ((i j p q : ℕ) → Forced circuit i j → IsPerformedAt actions i p → IsPerformedAt actions j q → q < count → p < q) → AreInOrder circuit (one_at_a_time actions)
in_order_of circuit actions count most each i j forced s t of_i of_j =
    let later : IsPerformedAt actions j t = performed_of actions j t of_j in
    let within : t < length actions = slice_get_within actions t (kinds.Op later.zone (record { 0 = j })) later.there in
    each i j s t forced (performed_of actions i s of_i) later (omega arith)
