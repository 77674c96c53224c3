-- Barriers wait for the operation whose last action settles them.
use Rattle.std.proofs.Common.{◌≡◌, ℕ, ◌+◌, ◌-◌, ◌<◌, true, false, List, [], ◌∷◌, ◌++◌, get_or, Some, sym, ap, subst, ◌∙◌, inl, inr, arith}
use Rattle.std.specs.Prelude.{slice_get, ◌⊎◌, Contains}
use Rattle.std.proofs.lemmas.Option.{same_Some}
use Rattle.std.proofs.lemmas.Bool.{cases_order}
use Rattle.std.proofs.lemmas.List.Elements.{Contains-append_left, Contains-push, Contains-push_cases, Contains-get_or}
use Rattle.std.proofs.lemmas.List.Quantifiers.{all_pairs_push}
use Rattle.qc_base.specs.declared.ids.OpId.{OpId}
use Rattle.qc_base.specs.declared.ids.PlaceId.{PlaceId}
use Rattle.circuit_core.specs.declared.op.Op.{Op}
use Rattle.circuit_core.specs.Circuit.{CircuitValue}
use Rattle.circuit_core.specs.Op.{is_barrier}
use Rattle.circuit_core.specs.Order.{IsWire, IsBarrierAt, Forced}
use Rattle.circuit_core.proofs.Forcing.{forced_before}
use Rattle.step_rules.specs.declared.action.Action.{Action}
use Rattle.step_rules.specs.declared.action.Action.TheVariants as kinds
use Rattle.compact.specs.Latest.{IsLast, IsEndedBy}
use Rattle.compact.specs.Levels.{WiresValue, wire_level, IsGreatest, AreRaised}
use Rattle.compact.specs.Orders.{Performs, Precedes, IsPerformedAt, AreOrdered, IsPlaced, IsSettled, IsSettledBy, IsWaitingRow, AreWaiting, AreWires, Below, Waits, row_grew, row_stayed, IsWaited}
use Rattle.compact.proofs.Reaching.{Performing, performing, IsNotedOp, AreSides, ready_at, wires_lifted}

abbrev pub numbered : ℕ → OpId
numbered n = record { 0 = n }

performed_at : (actions : List Action) (which : ℕ → Type 0) (action : Action) (place : ℕ) → slice_get actions place ≡ Some action → (one : Performing which action) → IsPerformedAt actions one.op.0 place
performed_at actions which action place there one = record { zone = one.zone; there = there ∙ ap Some one.is }

noted_at : (actions : List Action) (number : ℕ) → IsNotedOp (IsPlaced actions) number → (place : ℕ) × IsPerformedAt actions number place
noted_at actions number its = (its.time, subst (λ (n : ℕ). IsPerformedAt actions n its.time) its.is (record { zone = its.zone; there = its.there }))

-- ---- the levels of the wires

sides : (circuit : CircuitValue) (actions : List Action) (n : ℕ) → AreOrdered circuit actions → AreSides circuit (IsPlaced actions) (Below n) (Below n) n
sides circuit actions n ordered = record {
  before = λ i its below share. below;
  barrier_before = λ k below barrier share. inl below;
  counted = λ i its forced. forced_before circuit i n forced;
  passed = λ k barrier forced. forced_before circuit k n forced;
}

pub barrier_ready : (circuit : CircuitValue) (actions : List Action) (levels : WiresValue) (n : ℕ) (op : Op) (place : ℕ) → AreOrdered circuit actions → slice_get circuit.ops n ≡ Some op → IsGreatest (IsWire circuit op) (wire_level levels) place
    → AreWires circuit (Below n) (Below n) (IsPlaced actions) levels → IsLast (IsPlaced actions) (Precedes circuit n) place
barrier_ready circuit actions levels n op place ordered there is wires = ready_at circuit (IsPlaced actions) (Below n) (Below n) levels n op place there is wires (sides circuit actions n ordered)

less_or_same : (i n : ℕ) → i < n + 1 → (i < n) ⊎ (i ≡ n)
less_or_same i n h = elim (cases_order i n) [
  | inl same ↦ inr same
  | inr other ↦ elim other [
    | inl less ↦ inl less
    | inr more ↦ absurd (omega arith)
  ]
]

pub barrier_raised : (circuit : CircuitValue) (actions : List Action) (old new : WiresValue) (n : ℕ) (op : Op) (place : ℕ) → AreOrdered circuit actions → slice_get circuit.ops n ≡ Some op → is_barrier op ≡ true
    → AreRaised (IsWire circuit op) (wire_level old) (wire_level new) place → IsLast (IsPlaced actions) (Precedes circuit n) place
    → AreWires circuit (Below n) (Below n) (IsPlaced actions) old → AreWires circuit (Below (n + 1)) (Below (n + 1)) (IsPlaced actions) new
barrier_raised circuit actions old new n op place ordered there is raised its wires =
    let barrier : IsBarrierAt circuit n = record { op = op; there = there; barrier = is } in
    wires_lifted circuit (IsPlaced actions) (Below n) (Below n) (Below (n + 1)) (Below (n + 1)) (λ (i : ℕ). Forced circuit i n) n op old new place there raised its
    (record {
      direct_kept = λ i h. omega arith;
      barriers_kept = λ k h. omega arith;
      new = λ i noted forced. inr (omega arith, barrier, forced);
      direct_old = λ i noted h. elim (less_or_same i n h) [
        | inl less ↦ inl less
        | inr same ↦ (let at = noted_at actions i noted in absurd (ordered.no_barrier i at.0 at.1 (subst (IsBarrierAt circuit) (sym same) barrier)))
      ];
      barriers_old = λ i k noted h is_barrier forced. elim (less_or_same k n h) [
        | inl less ↦ inl less
        | inr same ↦ inr (same, subst (λ (m : ℕ). Forced circuit i m) same forced)
      ];
    })
    wires

not_both : (op other : Op) → op ≡ other → is_barrier op ≡ true → is_barrier other ≡ false → ⊥
not_both op other e yes_it no_it = absurd cc

pub other_raised : (circuit : CircuitValue) (actions : List Action) (old new : WiresValue) (n : ℕ) (op : Op) (place : ℕ) → slice_get circuit.ops n ≡ Some op → is_barrier op ≡ false
    → AreRaised (IsWire circuit op) (wire_level old) (wire_level new) place → IsLast (IsPlaced actions) (Performs (λ (number : ℕ). number ≡ n)) place
    → AreWires circuit (Below n) (Below n) (IsPlaced actions) old → AreWires circuit (Below (n + 1)) (Below (n + 1)) (IsPlaced actions) new
other_raised circuit actions old new n op place there is raised its wires =
    wires_lifted circuit (IsPlaced actions) (Below n) (Below n) (Below (n + 1)) (Below (n + 1)) (λ (i : ℕ). i ≡ n) n op old new place there raised its
    (record {
      direct_kept = λ i h. omega arith;
      barriers_kept = λ k h. omega arith;
      new = λ i noted same. inl (omega arith, same);
      direct_old = λ i noted h. elim (less_or_same i n h) [
        | inl less ↦ inl less
        | inr same ↦ inr (same, same)
      ];
      barriers_old = λ i k noted h barrier forced. elim (less_or_same k n h) [
        | inl less ↦ inl less
        | inr same ↦ (let at : IsBarrierAt circuit k = barrier in
            let op_is : at.op ≡ op = same_Some at.op op (sym at.there ∙ ap (slice_get circuit.ops) same ∙ there) in
            absurd (not_both at.op op op_is at.barrier is))
      ];
    })
    wires

-- ---- the rows

same_op : (a b : ℕ) (y z : PlaceId) → kinds.Op y (numbered a) ≡ kinds.Op z (numbered b) → a ≡ b
same_op a b y z e = let same : numbered a ≡ numbered b = cc in ap (λ (o : OpId). o.0) same

pub same_place : (actions : List Action) (op other place : ℕ) → IsPerformedAt actions op place → IsPerformedAt actions other place → op ≡ other
same_place actions op other place a b = same_op op other a.zone b.zone (same_Some (kinds.Op a.zone (numbered op)) (kinds.Op b.zone (numbered other)) (sym a.there ∙ b.there))

-- all that has to come before the barrier is before that place
settled_before : (circuit : CircuitValue) (actions : List Action) (n place : ℕ) → IsLast (IsPlaced actions) (Precedes circuit n) place → IsSettled circuit actions place n
settled_before circuit actions n place its i q at forced = its.done (kinds.Op at.zone (numbered i)) q at.there forced

-- and something that has to come before it stands right before that place
ended_at : (circuit : CircuitValue) (actions : List Action) (n place p : ℕ) → IsLast (IsPlaced actions) (Precedes circuit n) place → place ≡ p + 1 → (i : ℕ) × IsPerformedAt actions i p × Forced circuit i n
ended_at circuit actions n place p its is = elim its.ended [
  | inl none ↦ absurd (omega arith)
  | inr last ↦ (let ended : IsEndedBy (IsPlaced actions) (Precedes circuit n) place = last in
      let same : ended.time ≡ p = omega (arith, ended.is_last) in
      let one : Performing (λ (i : ℕ). Forced circuit i n) ended.action = performing (λ (i : ℕ). Forced circuit i n) ended.action ended.it_matters in
      let there : slice_get actions p ≡ Some ended.action = subst (λ (k : ℕ). slice_get actions k ≡ Some ended.action) same ended.is_noted in
      (one.op.0, performed_at actions (λ (i : ℕ). Forced circuit i n) ended.action p there one, one.holds))
]

settled_by : (circuit : CircuitValue) (actions : List Action) (n place p op : ℕ) → IsBarrierAt circuit n → IsLast (IsPlaced actions) (Precedes circuit n) place → place ≡ p + 1 → IsPerformedAt actions op p → IsSettledBy circuit actions op n
settled_by circuit actions n place p op barrier its is at =
    let last = ended_at circuit actions n place p its is in
    record {
      is_barrier = barrier;
      forced = subst (λ (k : ℕ). Forced circuit k n) (same_place actions last.0 op p last.1 at) last.2;
      place = p;
      performed = at;
      settled = subst (λ (k : ℕ). IsSettled circuit actions k n) is (settled_before circuit actions n place its);
    }

-- an action that settles the barrier is the one right before that place
settles_last : (circuit : CircuitValue) (actions : List Action) (n place op : ℕ) → IsLast (IsPlaced actions) (Precedes circuit n) place → (by : IsSettledBy circuit actions op n) → place ≡ by.place + 1
settles_last circuit actions n place op its by =
    let after : by.place < place = settled_before circuit actions n place its op by.place by.performed by.forced in
    let p : ℕ = place - 1 in
    let is : place ≡ p + 1 = omega arith in
    let last = ended_at circuit actions n place p its is in
    let before : p < by.place + 1 = by.settled last.0 p last.1 last.2 in
    omega arith

barrier_row : (circuit : CircuitValue) (actions : List Action) (n place op : ℕ) (old : List (List OpId)) (row : List OpId) → IsBarrierAt circuit n → IsLast (IsPlaced actions) (Precedes circuit n) place
    → ((before : List OpId) → slice_get old op ≡ Some before → IsWaitingRow circuit actions n op before) → Waits actions place (numbered n) old op row → IsWaitingRow circuit actions (n + 1) op row
barrier_row circuit actions n place op old row barrier its rows (row_grew before p there is at grown) =
    let old_row : IsWaitingRow circuit actions n op before = rows before there in
    let now : IsWaitingRow circuit actions (n + 1) op (before ++ numbered n ∷ []) = record {
      sound = λ k it. elim (Contains-push_cases before (numbered n) (numbered k) it) [
        | inl here ↦ (let by = old_row.sound k here in (omega (arith, by.0), by.1))
        | inr new ↦ (let same : n ≡ k = ap (λ (o : OpId). o.0) new in (omega arith, subst (IsSettledBy circuit actions op) same (settled_by circuit actions n place p op barrier its is at)))
      ];
      all = λ k h by. elim (less_or_same k n h) [
        | inl less ↦ Contains-append_left before (numbered n ∷ []) (numbered k) (old_row.all k less by)
        | inr same ↦ subst (λ (m : ℕ). Contains (before ++ numbered n ∷ []) (numbered m)) (sym same) (Contains-push before (numbered n))
      ];
      ascending = all_pairs_push (λ (first second : OpId). first.0 < second.0) before (numbered n) old_row.ascending (λ k d h. (old_row.sound (get_or before k d).0 (Contains-get_or before k d h)).0);
    } in
    subst (IsWaitingRow circuit actions (n + 1) op) grown now
barrier_row circuit actions n place op old row barrier its rows (row_stayed there not) =
    let old_row : IsWaitingRow circuit actions n op row = rows row there in
    record {
      sound = λ k it. (let by = old_row.sound k it in (omega (arith, by.0), by.1));
      all = λ k h by. elim (less_or_same k n h) [
        | inl less ↦ old_row.all k less by
        | inr is ↦ (let its_by : IsSettledBy circuit actions op n = subst (IsSettledBy circuit actions op) is by in
            absurd (not its_by.place (settles_last circuit actions n place op its its_by) its_by.performed))
      ];
      ascending = old_row.ascending;
    }

pub barrier_waits : (circuit : CircuitValue) (actions : List Action) (n place : ℕ) (op : Op) (old new : List (List OpId)) → slice_get circuit.ops n ≡ Some op → is_barrier op ≡ true → IsLast (IsPlaced actions) (Precedes circuit n) place
    → IsWaited actions place (numbered n) old new → AreWaiting circuit actions n old → AreWaiting circuit actions (n + 1) new
barrier_waits circuit actions n place op old new there is its waited rows = record {
  len = waited.len ∙ rows.len;
  each = λ number row e. barrier_row circuit actions n place number old row (record { op = op; there = there; barrier = is }) its (rows.each number) (waited.each number row e);
}

-- no barrier more
pub none_waits : (circuit : CircuitValue) (actions : List Action) (n : ℕ) (op : Op) (rows : List (List OpId)) → slice_get circuit.ops n ≡ Some op → is_barrier op ≡ false → AreWaiting circuit actions n rows → AreWaiting circuit actions (n + 1) rows
none_waits circuit actions n op rows there is waiting = record {
  len = waiting.len;
  each = λ number row e.
      let old_row : IsWaitingRow circuit actions n number row = waiting.each number row e in
      record {
        sound = λ k it. (let by = old_row.sound k it in (omega (arith, by.0), by.1));
        all = λ k h by. elim (less_or_same k n h) [
          | inl less ↦ old_row.all k less by
          | inr same ↦ (let at : IsBarrierAt circuit k = (let its : IsSettledBy circuit actions number k = by in its.is_barrier) in
              let op_is : at.op ≡ op = same_Some at.op op (sym at.there ∙ ap (slice_get circuit.ops) same ∙ there) in
              absurd (not_both at.op op op_is at.barrier is))
        ];
        ascending = old_row.ascending;
      };
}
