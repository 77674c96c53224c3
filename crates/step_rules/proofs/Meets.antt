-- Footprints that meet.
use Rattle.std.proofs.Common.{◌≡◌, Bool, true, false, List, refl, sym, ap, subst, ◌∙◌, inl, inr}
use Rattle.std.specs.Prelude.{IsTrue, ◌↔◌, Contains}
use Rattle.std.specs.List.{list_any}
use Rattle.std.proofs.lemmas.Bool.{eq-eqb, eqb-true}
use Rattle.circuit_core.specs.Circuit.{CircuitValue}
use Rattle.step_rules.proofs.Meeting.{met, meets}
use Rattle.trap_parts.specs.Parts.{TrapValue}
use Rattle.step_rules.specs.declared.action.Action.{Action}
use Rattle.step_rules.specs.declared.spots.Footprint.{Footprint}
use Rattle.step_rules.specs.Steps.{Spot, place, junction, footprint}
use Rattle.step_rules.specs.Tight.{Meet, AreOrdered, Conflict}
use Rattle.step_rules.specs.Footprint.{spots, same_spot, is_worked_on}

same_is : (x y : Spot) → same_spot x y ≡ true → x ≡ y
same_is (place p) (place q) h = ap place (sym (eqb-true q p h))
same_is (place p) (junction q) h = absurd cc
same_is (junction p) (place q) h = absurd cc
same_is (junction p) (junction q) h = ap junction (sym (eqb-true q p h))

same_itself : (x : Spot) → same_spot x x ≡ true
same_itself (place p) = eq-eqb p p refl
same_itself (junction p) = eq-eqb p p refl

-- what the test of two footprints says of their actions
pub meet_iff : (trap : TrapValue) (a b : Action) (f g : Footprint) (answer : Bool) → spots f ≡ footprint trap a → spots g ≡ footprint trap b → answer ≡ list_any (is_worked_on (spots g)) (spots f) → IsTrue answer ↔ Meet trap a b
meet_iff trap a b f g answer of_a of_b says = (
  λ h. let both = met same_spot same_is (spots f) (spots g) (sym says ∙ h) in
      record { spot = both.0; of_a = subst (λ (s : List Spot). Contains s both.0) of_a both.1; of_b = subst (λ (s : List Spot). Contains s both.0) of_b both.2 },
  λ m. says ∙ meets same_spot same_itself (spots f) (spots g) m.spot (subst (λ (s : List Spot). Contains s m.spot) (sym of_a) m.of_a) (subst (λ (s : List Spot). Contains s m.spot) (sym of_b) m.of_b),
)

pub conflict_met : (trap : TrapValue) (circuit : CircuitValue) (a b : Action) (answer : Bool) → (IsTrue answer ↔ Meet trap a b) → answer ≡ true → IsTrue answer ↔ Conflict trap circuit a b
conflict_met trap circuit a b answer iff met_there = (λ h. inl (iff.0 h), λ h. met_there)

pub conflict_ordered : (trap : TrapValue) (circuit : CircuitValue) (a b : Action) (answer ordered : Bool) → (IsTrue answer ↔ Meet trap a b) → (IsTrue ordered ↔ AreOrdered circuit a b) → answer ≡ false → IsTrue ordered ↔ Conflict trap circuit a b
conflict_ordered trap circuit a b answer ordered iff order unmet =
    (λ h. inr (order.0 h), λ h. elim h [ inl m ↦ absurd (let there : answer ≡ true = iff.1 m in cc) | inr o ↦ order.1 o ])
