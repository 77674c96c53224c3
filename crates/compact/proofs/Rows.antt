-- The rows of barriers are filled operation by operation.
use Rattle.std.proofs.Common.{◌≡◌, ℕ, ◌+◌, ◌<◌, max, true, false, List, [], ◌∷◌, ◌++◌, length, take, get_or, Some, refl, sym, ap, subst, ◌∙◌, inl, inr, arith}
use Rattle.std.specs.Prelude.{slice_get, slice_index, Contains, replicate}
use Rattle.std.proofs.lemmas.Option.{same_Some, slice_get_within, slice_get-get_or, get_or_from_slice_get}
use Rattle.std.proofs.lemmas.Bool.{cases_eq, cases_lt}
use Rattle.std.proofs.lemmas.List.{length-set, length-replicate, get_or-set_same, get_or-set_other, get_or-replicate}
use Rattle.qc_base.specs.declared.ids.OpId.{OpId}
use Rattle.qc_base.specs.declared.ids.PlaceId.{PlaceId}
use Rattle.circuit_core.specs.declared.op.Op.{Op}
use Rattle.circuit_core.specs.Circuit.{CircuitValue}
use Rattle.circuit_core.specs.Op.{is_barrier}
use Rattle.circuit_core.specs.Order.{Wire, on_qubit, on_bit, IsWire}
use Rattle.step_rules.specs.declared.action.Action.{Action}
use Rattle.step_rules.specs.declared.action.Action.TheVariants as kinds
use Rattle.compact.specs.Latest.{IsLast}
use Rattle.compact.specs.Levels.{WiresValue, wire_level, IsLifted, AreRaised}
use Rattle.compact.specs.Orders.{Performs, IsPerformedAt, AreOrdered, IsPlaced, IsPlaceNoted, AreLastPlaces, ArePassed, Below, row_grew, row_stayed, IsWaited, with_waiting, Reaches, IsBeforeBarrier}
use Rattle.compact.proofs.Places.{in_front, front_at}
use Rattle.compact.proofs.Last.{IsOneMore, none_last, last_past, last_with}
use Rattle.compact.proofs.Reaching.{Performing, performing}
use Rattle.compact.proofs.Waits.{numbered, barrier_ready, barrier_raised, other_raised, barrier_waits, none_waits}

-- ---- the last places

next_place : (actions : List Action) (k : ℕ) (action : Action) → slice_get actions k ≡ Some action → IsOneMore (IsPlaced (take k actions)) (IsPlaced (take (k + 1) actions)) action k
next_place actions k action there = record {
  old = λ other place at. (let front = in_front actions k place other at in front_at actions (k + 1) place other (omega (arith, front.0)) front.1);
  last = front_at actions (k + 1) k action (omega arith) there;
  cases = λ other place at. (let front = in_front actions (k + 1) place other at in
      elim (cases_lt place k) [
        | inl before ↦ inl (front_at actions k place other before front.1)
        | inr after ↦ (let same : k ≡ place = omega (arith, front.0) in
            inr (same_Some action other (sym there ∙ ap (slice_get actions) same ∙ front.1), same))
      ]);
}

not_op : (which : ℕ → Type 0) (old new : List ℕ) (k op : ℕ) (actions : List Action) (action : Action) → slice_get actions k ≡ Some action → (Performs which action → ⊥) → new ≡ old → IsLast (IsPlaced (take k actions)) (Performs which) (slice_index old op)
    → IsLast (IsPlaced (take (k + 1) actions)) (Performs which) (slice_index new op)
not_op which old new k op actions action there not same its =
    subst (λ (l : List ℕ). IsLast (IsPlaced (take (k + 1) actions)) (Performs which) (slice_index l op)) (sym same)
    (last_past (IsPlaced (take k actions)) (IsPlaced (take (k + 1) actions)) action k (Performs which) (slice_index old op) (next_place actions k action there) its not)

pub place_noted : (actions : List Action) (k : ℕ) (action : Action) (old new : List ℕ) → slice_get actions k ≡ Some action → IsPlaceNoted action (k + 1) old new → AreLastPlaces (take k actions) old → AreLastPlaces (take (k + 1) actions) new
place_noted actions k (kinds.Op zone number) old new there noted each op = elim (cases_eq op number.0) [
  | inl same ↦ last_with (IsPlaced (take k actions)) (IsPlaced (take (k + 1) actions)) (kinds.Op zone number) k (Performs (λ (n : ℕ). n ≡ op)) (slice_index old op) (slice_index new op) (next_place actions k (kinds.Op zone number) there) (each op) (sym same)
      (ap (slice_index new) same ∙ noted.here ∙ ap (λ (n : ℕ). max (slice_index old n) (k + 1)) (sym same))
  | inr other ↦ subst (IsLast (IsPlaced (take (k + 1) actions)) (Performs (λ (n : ℕ). n ≡ op))) (sym (noted.others op other))
      (last_past (IsPlaced (take k actions)) (IsPlaced (take (k + 1) actions)) (kinds.Op zone number) k (Performs (λ (n : ℕ). n ≡ op)) (slice_index old op) (next_place actions k (kinds.Op zone number) there) (each op) (λ same. other (sym same)))
]
place_noted actions k action old new there noted each op = not_op (λ (n : ℕ). n ≡ op) old new k op actions action there (λ it. it) noted (each op)

pub no_places : AreLastPlaces [] []
no_places op = none_last (IsPlaced []) (Performs (λ (n : ℕ). n ≡ op)) (λ action time there it. let e : slice_get [] time ≡ Some action = there in cc)

-- ---- a barrier waits

pub waited : (actions : List Action) (k : ℕ) (zone : PlaceId) (op barrier : OpId) (old : List (List OpId)) → slice_get actions k ≡ Some (kinds.Op zone op) → IsWaited actions (k + 1) barrier old (with_waiting old op.0 barrier)
waited actions k zone op barrier old there = record {
  len = length-set old op.0 (get_or old op.0 [] ++ barrier ∷ []);
  each = λ other row e. (let inside : other < length (with_waiting old op.0 barrier) = slice_get_within (with_waiting old op.0 barrier) other row e in
      let fits : other < length old = omega (arith, length-set old op.0 (get_or old op.0 [] ++ barrier ∷ [])) in
      let is : get_or (with_waiting old op.0 barrier) other [] ≡ row = get_or_from_slice_get (with_waiting old op.0 barrier) other row [] e in
      elim (cases_eq other op.0) [
        | inl same ↦ row_grew (get_or old op.0 []) k (slice_get-get_or old other [] fits ∙ ap (λ (n : ℕ). Some (get_or old n [])) same) refl
            (subst (λ (n : ℕ). IsPerformedAt actions n k) (sym same) (record { zone = zone; there = there }))
            (sym (get_or-set_same old op.0 (get_or old op.0 [] ++ barrier ∷ []) [] (omega arith)) ∙ ap (λ (n : ℕ). get_or (with_waiting old op.0 barrier) n []) (sym same) ∙ is)
        | inr differs ↦ row_stayed (slice_get-get_or old other [] fits ∙ ap Some (sym (get_or-set_other old op.0 other (get_or old op.0 [] ++ barrier ∷ []) [] differs) ∙ is))
            (λ p place at. (let same_place_is : p ≡ k = omega arith in
            let e2 : Some (kinds.Op at.zone (numbered other)) ≡ Some (kinds.Op zone op) = sym at.there ∙ ap (slice_get actions) same_place_is ∙ there in
            let same : numbered other ≡ op = cc in
            differs (ap (λ (o : OpId). o.0) same)))
      ]);
}

pub not_waited : (actions : List Action) (count : ℕ) (barrier : OpId) (old : List (List OpId)) → ((op p : ℕ) → count ≡ p + 1 → IsPerformedAt actions op p → ⊥) → IsWaited actions count barrier old old
not_waited actions count barrier old not = record { len = refl; each = λ op row e. row_stayed e (not op) }

-- ---- operation by operation

nothing_yet : (circuit : CircuitValue) (actions : List Action) (wire : Wire) → IsLast (IsPlaced actions) (Performs (Reaches circuit (Below 0) (Below 0) wire)) 0
nothing_yet circuit actions wire = none_last (IsPlaced actions) (Performs (Reaches circuit (Below 0) (Below 0) wire))
    (λ action time there it. let one : Performing (Reaches circuit (Below 0) (Below 0) wire) action = performing (Reaches circuit (Below 0) (Below 0) wire) action it in
    elim one.holds [
      | inl direct ↦ omega (arith, direct.0)
      | inr at ↦ (let to_barrier : IsBeforeBarrier circuit (Below 0) wire one.op.0 = at in omega (arith, to_barrier.counted))
    ])

no_level : (circuit : CircuitValue) (actions : List Action) (wire : Wire) → IsLast (IsPlaced actions) (Performs (Reaches circuit (Below 0) (Below 0) wire)) (wire_level (record { qubits = []; bits = [] }) wire)
no_level circuit actions (on_qubit number) = nothing_yet circuit actions (on_qubit number)
no_level circuit actions (on_bit number) = nothing_yet circuit actions (on_bit number)

pub none_passed : (circuit : CircuitValue) (actions : List Action) (rows : List (List OpId)) → rows ≡ replicate (length circuit.ops) [] → ArePassed circuit actions 0 (record { qubits = []; bits = [] }) rows
none_passed circuit actions rows e = record {
  wires = no_level circuit actions;
  waiting = record {
    len = ap length e ∙ length-replicate (length circuit.ops) [];
    each = λ op row there. (let fits : op < length rows = slice_get_within rows op row there in
        let within : op < length circuit.ops = omega (arith, ap length e, length-replicate {A = List OpId} (length circuit.ops) []) in
        let is : row ≡ [] = sym (get_or_from_slice_get rows op row [] there) ∙ ap (λ (l : List (List OpId)). get_or l op []) e ∙ get_or-replicate (length circuit.ops) op [] [] within in
        record {
          sound = λ barrier it. absurd (let at : Contains [] (numbered barrier) = subst (λ (l : List OpId). Contains l (numbered barrier)) is it in omega (arith, at.1));
          all = λ barrier h by. absurd (omega arith);
          ascending = λ i j d before inside. absurd (let none : length row ≡ 0 = ap length is in omega arith);
        });
  };
}

pub passed_barrier : (circuit : CircuitValue) (actions : List Action) (n : ℕ) (op : Op) (levels levels_now : WiresValue) (rows rows_now : List (List OpId)) (count : ℕ) → AreOrdered circuit actions → slice_get circuit.ops n ≡ Some op → is_barrier op ≡ true
    → IsLifted circuit op levels levels_now count → IsWaited actions count (numbered n) rows rows_now → ArePassed circuit actions n levels rows → ArePassed circuit actions (n + 1) levels_now rows_now
passed_barrier circuit actions n op levels levels_now rows rows_now count ordered there is lifted waits passed =
    let its = barrier_ready circuit actions levels n op count ordered there lifted.greatest passed.wires in
    record {
      wires = barrier_raised circuit actions levels levels_now n op count ordered there is lifted.raised its passed.wires;
      waiting = barrier_waits circuit actions n count op rows rows_now there is its waits passed.waiting;
    }

pub passed_other : (circuit : CircuitValue) (actions : List Action) (last : List ℕ) (n : ℕ) (op : Op) (levels levels_now : WiresValue) (rows : List (List OpId)) → AreLastPlaces actions last → slice_get circuit.ops n ≡ Some op → is_barrier op ≡ false
    → AreRaised (IsWire circuit op) (wire_level levels) (wire_level levels_now) (slice_index last n) → ArePassed circuit actions n levels rows → ArePassed circuit actions (n + 1) levels_now rows
passed_other circuit actions last n op levels levels_now rows places there is raised passed = record {
  wires = other_raised circuit actions levels levels_now n op (slice_index last n) there is raised (places n) passed.wires;
  waiting = none_waits circuit actions n op rows there is passed.waiting;
}
