-- The step of the next action: the first after all those that conflict with it.
use Rattle.std.proofs.Common.{◌≡◌, ℕ, ◌+◌, ◌<◌, ◌≤◌, max, Bool, true, false, List, [], ◌∷◌, ◌++◌, length, take, None, Some, refl, sym, ap, subst, ◌∙◌, inl, inr, arith}
use Rattle.std.specs.Prelude.{Option, slice_get, ◌⊎◌, All, Contains, not}
use Rattle.std.specs.Option.{option_map_or}
use Rattle.std.proofs.lemmas.Option.{same_Some, slice_get_within}
use Rattle.std.proofs.lemmas.List.{take_all, take-take, take-append-le, length_push, length-take-le}
use Rattle.std.proofs.lemmas.List.Elements.{All-contains}
use Rattle.std.proofs.lemmas.Bool.{eq-eqb}
use Rattle.qc_base.specs.declared.ids.OpId.{OpId}
use Rattle.qc_base.specs.declared.ids.PlaceId.{PlaceId}
use Rattle.qc_base.specs.declared.ids.Ion.{Ion}
use Rattle.trap_parts.specs.Parts.{TrapValue}
use Rattle.trap_model.specs.Trap.{is_zone}
use Rattle.ion_chain.specs.Transfer.{list_at}
use Rattle.circuit_core.specs.declared.op.Op.{Op}
use Rattle.circuit_core.specs.Circuit.{CircuitValue}
use Rattle.circuit_core.specs.Op.{is_barrier}
use Rattle.circuit_core.specs.Order.{IsBarrierAt, is_performed}
use Rattle.step_rules.specs.declared.action.Action.{Action}
use Rattle.step_rules.specs.declared.action.Action.TheVariants as kinds
use Rattle.step_rules.specs.Setting.{SettingValue}
use Rattle.step_rules.specs.Placement.{start_of}
use Rattle.step_rules.specs.declared.action.Rule.{Rule}
use Rattle.step_rules.specs.declared.action.Rule.TheVariants.{NoPlace, NotOp, NotAble, Absent}
use Rattle.step_rules.specs.Guards.{Guard, Passes, guard, first_broken, is_able_for, are_among}
use Rattle.step_rules.specs.Steps.{Spot, footprint}
use Rattle.step_rules.specs.Play.{PerformsIn, after_steps, one_at_a_time}
use Rattle.step_rules.specs.Tight.{Meet, Conflict}
use Rattle.step_rules.specs.Tight as tight
use Rattle.compact.specs.Tightened.{IsSerial}
use Rattle.compact.specs.Latest.{IsAt, IsLast, IsEndedBy, IsNextTime, AreTimes}
use Rattle.compact.specs.Levels.{IsGreatest, SpotsValue, spot_level}
use Rattle.compact.specs.Orders.{Performs, Precedes, IsPerformedAt, AreOrdered}
use Rattle.compact.specs.Clock.{AreSpots}
use Rattle.compact.proofs.Places.{contains_at, in_front, front_at, pushed}
use Rattle.compact.proofs.Building.{passes_at}
use Rattle.compact.proofs.Last.{Touch, last_same, last_either, last_greatest}
use Rattle.compact.proofs.Waits.{numbered}
use Rattle.compact.proofs.Playing.{alone_at}

-- ---- places and junctions

pub meeting : (trap : TrapValue) (noted : Action → ℕ → Type 0) (action : Action) (works : List Spot) (levels : SpotsValue) (free : ℕ) → works ≡ footprint trap action → IsGreatest (Contains works) (spot_level levels) free
    → AreSpots trap noted levels → IsLast noted (λ (earlier : Action). Meet trap earlier action) free
meeting trap noted action works levels free is greatest each =
    let touches : Spot → Action → Type 0 = λ spot a. Contains (footprint trap a) spot in
    last_same noted (Touch (Contains works) touches) (λ (earlier : Action). Meet trap earlier action) free (last_greatest (Contains works) (spot_level levels) noted touches free greatest each)
    (λ earlier time there it. (let touch : Touch (Contains works) touches earlier = it in
    record { spot = touch.which; of_a = touch.it_touches; of_b = subst (λ (l : List Spot). Contains l touch.which) is touch.is_on }))
    (λ earlier time there it. (let meet : Meet trap earlier action = it in
    record { which = meet.spot; is_on = subst (λ (l : List Spot). Contains l meet.spot) (sym is) meet.of_b; it_touches = meet.of_a }))

pub last_below : (actions : List Action) (times : List ℕ) (matters : Action → Type 0) (level bound : ℕ) → IsLast (IsAt actions times) matters level → All (λ (time : ℕ). time < bound) times → level ≤ bound
last_below actions times matters level bound its all = elim its.ended [
  | inl none ↦ omega arith
  | inr last ↦ (let ended : IsEndedBy (IsAt actions times) matters level = last in
      let at : IsAt actions times ended.action ended.time = ended.is_noted in
      let below : ended.time < bound = All-contains (λ (time : ℕ). time < bound) times ended.time all (contains_at times at.position ended.time at.is_time) in
      omega (arith, ended.is_last))
]

-- ---- an action that performs no operation

no_order : (circuit : CircuitValue) (a b : Action) → ((which : ℕ → Type 0) → Performs which b → ⊥) → tight.AreOrdered circuit a b → ⊥
no_order circuit (kinds.Op zone i) (kinds.Op other j) no_op it = no_op (λ (k : ℕ). Unit {0}) tt
no_order circuit (kinds.Op zone i) b no_op it = absurd it
no_order circuit a b no_op it = absurd it

pub next_without : (setting : SettingValue) (actions : List Action) (times : List ℕ) (action : Action) (free : ℕ) → ((which : ℕ → Type 0) → Performs which action → ⊥)
    → IsLast (IsAt actions times) (λ (earlier : Action). Meet setting.trap earlier action) free → IsNextTime setting actions times action free
next_without setting actions times action free no_op its =
    last_same (IsAt actions times) (λ (earlier : Action). Meet setting.trap earlier action) (λ (earlier : Action). Conflict setting.trap setting.circuit earlier action) free its
    (λ earlier time there it. inl it)
    (λ earlier time there it. elim it [
      | inl meet ↦ meet
      | inr order ↦ absurd (no_order setting.circuit earlier action no_op order)
    ])

-- ---- an action that performs one

ordered_of : (circuit : CircuitValue) (earlier : Action) (zone : PlaceId) (op : OpId) → Precedes circuit op.0 earlier → tight.AreOrdered circuit earlier (kinds.Op zone op)
ordered_of circuit (kinds.Op other i) zone op it = inl it
ordered_of circuit earlier zone op it = absurd it

precedes_of : (circuit : CircuitValue) (actions : List Action) (times : List ℕ) (count : ℕ) (earlier : Action) (time : ℕ) (zone : PlaceId) (op : OpId) → AreOrdered circuit actions → slice_get actions count ≡ Some (kinds.Op zone op) → IsAt (take count actions) times earlier time
    → tight.AreOrdered circuit earlier (kinds.Op zone op) → Precedes circuit op.0 earlier
precedes_of circuit actions times count (kinds.Op other i) time zone op ordered there at (inl forced) = forced
precedes_of circuit actions times count (kinds.Op other i) time zone op ordered there at (inr forced) =
    let place = in_front actions count at.position (kinds.Op other i) at.is_action in
    let late : count < at.position = ordered.in_order op.0 i.0 count at.position forced (record { zone = zone; there = there }) (record { zone = other; there = place.1 }) in
    absurd (omega (arith, place.0))
precedes_of circuit actions times count earlier time zone op ordered there at it = absurd it

pub next_with : (setting : SettingValue) (actions : List Action) (times : List ℕ) (count : ℕ) (zone : PlaceId) (op : OpId) (free ready time : ℕ) → AreOrdered setting.circuit actions → slice_get actions count ≡ Some (kinds.Op zone op)
    → IsLast (IsAt (take count actions) times) (λ (earlier : Action). Meet setting.trap earlier (kinds.Op zone op)) free → IsLast (IsAt (take count actions) times) (Precedes setting.circuit op.0) ready → time ≡ max ready free
    → IsNextTime setting (take count actions) times (kinds.Op zone op) time
next_with setting actions times count zone op free ready time ordered there of_free of_ready e =
    let noted : Action → ℕ → Type 0 = IsAt (take count actions) times in
    let meets : Action → Type 0 = λ earlier. Meet setting.trap earlier (kinds.Op zone op) in
    last_same noted (λ (earlier : Action). meets earlier ⊎ Precedes setting.circuit op.0 earlier) (λ (earlier : Action). Conflict setting.trap setting.circuit earlier (kinds.Op zone op)) time
    (last_either noted meets (Precedes setting.circuit op.0) free ready time of_free of_ready (omega arith))
    (λ earlier t at it. elim it [
      | inl meet ↦ inl meet
      | inr before ↦ inr (ordered_of setting.circuit earlier zone op before)
    ])
    (λ earlier t at it. elim it [
      | inl meet ↦ inl meet
      | inr order ↦ inr (precedes_of setting.circuit actions times count earlier t zone op ordered there at order)
    ])

-- ---- a list that is serial

two_pass : (a b : Bool) (first second : Rule) (rest : List Guard) → first_broken (guard a first ∷ guard b second ∷ rest) ≡ None → b ≡ true
two_pass true true first second rest e = refl
two_pass true false first second rest e = absurd cc
two_pass false b first second rest e = absurd cc

guard_holds : (setting : SettingValue) (config : List (List Ion)) (zone : PlaceId) (op : OpId) → Passes setting config (kinds.Op zone op) → is_performed setting.circuit op.0 ≡ true
guard_holds setting config zone op passes =
    two_pass (is_zone setting.trap zone.0) (is_performed setting.circuit op.0) NoPlace NotOp (guard (is_able_for setting zone.0 op.0) NotAble ∷ guard (are_among setting (list_at config zone.0) op.0) Absent ∷ []) passes

-- an operation of the circuit that is no barrier
record IsRealOp (circuit : CircuitValue) (number : ℕ) : Type 0 where
  pub op : Op
  pub there : slice_get circuit.ops number ≡ Some op
  pub is : is_barrier op ≡ false

not_true : (b : Bool) → not b ≡ true → b ≡ false
not_true true e = absurd cc
not_true false e = refl

real_or_none : (circuit : CircuitValue) (number : ℕ) (found : Option Op) → slice_get circuit.ops number ≡ found → option_map_or (λ (op : Op). not (is_barrier op)) found false ≡ true → IsRealOp circuit number
real_or_none circuit number None there e = absurd cc
real_or_none circuit number (Some op) there e = record { op = op; there = there; is = not_true (is_barrier op) e }

real_op : (setting : SettingValue) (actions : List Action) (i p : ℕ) → IsSerial setting actions → IsPerformedAt actions i p → IsRealOp setting.circuit i
real_op setting actions i p serial at =
    let config : List (List Ion) = start_of setting.trap setting.placement in
    let passes : Passes setting (after_steps setting.trap config (one_at_a_time (take p actions))) (kinds.Op at.zone (numbered i)) = passes_at setting config actions p (kinds.Op at.zone (numbered i)) serial.legal at.there in
    real_or_none setting.circuit i (slice_get setting.circuit.ops i) refl (guard_holds setting (after_steps setting.trap config (one_at_a_time (take p actions))) at.zone (numbered i) passes)

performs_in : (actions : List Action) (i p : ℕ) → IsPerformedAt actions i p → PerformsIn (one_at_a_time actions) i p
performs_in actions i p at = alone_at actions i p (kinds.Op at.zone (numbered i)) at.there (eq-eqb i i refl)

differ : (op other : Op) → op ≡ other → is_barrier op ≡ true → is_barrier other ≡ false → ⊥
differ op other e yes_it no_it = absurd cc

pub serial_ordered : (setting : SettingValue) (actions : List Action) → IsSerial setting actions → AreOrdered setting.circuit actions
serial_ordered setting actions serial = record {
  in_order = λ i j p q forced of_i of_j. serial.in_order i j forced p q (performs_in actions i p of_i) (performs_in actions j q of_j);
  no_barrier = λ i p at barrier. (let real : IsRealOp setting.circuit i = real_op setting actions i p serial at in
      let wall : IsBarrierAt setting.circuit i = barrier in
      let same : wall.op ≡ real.op = same_Some wall.op real.op (sym wall.there ∙ real.there) in
      differ wall.op real.op same wall.barrier real.is);
  there = λ i p at. (let real : IsRealOp setting.circuit i = real_op setting actions i p serial at in slice_get_within setting.circuit.ops i real.op real.there);
}

-- ---- the times of a list, one by one

pub no_times : (setting : SettingValue) → AreTimes setting [] []
no_times setting = record { len = refl; each = λ k action time e t. absurd cc }

pub times_more : (setting : SettingValue) (actions : List Action) (times : List ℕ) (time : ℕ) → length times < length actions → AreTimes setting (take (length times) actions) times
    → ((action : Action) → slice_get actions (length times) ≡ Some action → IsNextTime setting (take (length times) actions) times action time)
    → AreTimes setting (take (length (times ++ time ∷ [])) actions) (times ++ time ∷ [])
times_more setting actions times time within are next =
    let grown : length (times ++ time ∷ []) ≡ length times + 1 = length_push times time in
    record {
      len = sym (length-take-le (length (times ++ time ∷ [])) actions (omega arith));
      each = λ k action t e at. (let front = in_front actions (length (times ++ time ∷ [])) k action e in
          elim (pushed times time t k at) [
            | inl old ↦ (let its : IsNextTime setting (take k (take (length times) actions)) (take k times) action t = are.each k action t (front_at actions (length times) k action old.0 front.1) old.1 in
                let same_actions : take k (take (length times) actions) ≡ take k (take (length (times ++ time ∷ [])) actions) =
                take-take k (length times) actions (omega (arith, old.0)) ∙ sym (take-take k (length (times ++ time ∷ [])) actions (omega (arith, old.0))) in
                let same_times : take k times ≡ take k (times ++ time ∷ []) = sym (take-append-le k times (time ∷ []) (omega (arith, old.0))) in
                subst (λ (xs : List Action). IsNextTime setting xs (take k (times ++ time ∷ [])) action t) same_actions
                (subst (λ (ts : List ℕ). IsNextTime setting (take k (take (length times) actions)) ts action t) same_times its))
            | inr new ↦ (let here : slice_get actions (length times) ≡ Some action = ap (slice_get actions) (sym new.0) ∙ front.1 in
                let its : IsNextTime setting (take (length times) actions) times action time = next action here in
                let same_actions : take (length times) actions ≡ take k (take (length (times ++ time ∷ [])) actions) =
                ap (λ (n : ℕ). take n actions) (sym new.0) ∙ sym (take-take k (length (times ++ time ∷ [])) actions (omega (arith, new.0))) in
                let same_times : times ≡ take k (times ++ time ∷ []) = sym (take-append-le k times (time ∷ []) (omega (arith, new.0)) ∙ take_all k times (omega (arith, new.0))) in
                subst (λ (n : ℕ). IsNextTime setting (take k (take (length (times ++ time ∷ [])) actions)) (take k (times ++ time ∷ [])) action n) new.1
                (subst (λ (xs : List Action). IsNextTime setting xs (take k (times ++ time ∷ [])) action time) same_actions
                (subst (λ (ts : List ℕ). IsNextTime setting (take (length times) actions) ts action time) same_times its)))
          ]);
    }
