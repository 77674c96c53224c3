-- What is kept of the actions that have their steps, while one more is noted.
use Rattle.std.proofs.Common.{◌≡◌, ℕ, ◌+◌, ◌<◌, ◌≤◌, List, [], ◌∷◌, ◌++◌, length, take, get_or, set, None, Some, refl, sym, ap, subst, ◌∙◌, inl, inr, arith}
use Rattle.std.specs.Prelude.{Option, slice_get, slice_index, Contains, replicate}
use Rattle.std.proofs.lemmas.Option.{same_Some, slice_get_within, slice_get-get_or, get_or_from_slice_get}
use Rattle.std.proofs.lemmas.Bool.{cases_order, cases_eq, cases_lt}
use Rattle.std.proofs.lemmas.List.{length_push, length-take-le, length-set, length-replicate, get_or-replicate, get_or-set_same, get_or-set_other}
use Rattle.qc_base.specs.declared.ids.OpId.{OpId}
use Rattle.qc_base.specs.declared.ids.PlaceId.{PlaceId}
use Rattle.trap_parts.specs.Parts.{TrapValue}
use Rattle.circuit_core.specs.declared.op.Op.{Op}
use Rattle.circuit_core.specs.Circuit.{CircuitValue}
use Rattle.circuit_core.specs.Order.{Wire, on_qubit, on_bit, IsWire, Share, Forced, by_wire, by_barrier}
use Rattle.step_rules.specs.declared.action.Action.{Action}
use Rattle.step_rules.specs.declared.action.Action.TheVariants as kinds
use Rattle.step_rules.specs.Steps.{Spot, footprint}
use Rattle.compact.specs.Latest.{IsAt, IsLast, IsEndedBy}
use Rattle.compact.specs.Levels.{WiresValue, wire_level, SpotsValue, spot_level, IsGreatest, AreRaised}
use Rattle.compact.specs.Orders.{Performs, Precedes, IsPerformedAt, AreOrdered, IsBeforeBarrier, Reaches, IsSettled, AreWaiting, AreWires, Any, IsReadyAfter, IsAsked, IsSettling, IsPlaced, OrdersValue, AreOrders, AreSettled, AreLastPlaces}
use Rattle.compact.specs.Clock.{AreSpots}
use Rattle.compact.proofs.Building.{take_next}
use Rattle.compact.proofs.Last.{IsOneMore, none_last, one_more_at, last_past, raised_last}
use Rattle.compact.proofs.Reaching.{Performing, performing, ready_at, wires_same, wire_of}
use Rattle.compact.proofs.Waits.{numbered, same_place}
use Rattle.compact.proofs.Settling.{noted_before, is_forced_or_not, settled_already}

pub next_one : (actions : List Action) (times : List ℕ) (action : Action) (time : ℕ) → slice_get actions (length times) ≡ Some action
    → IsOneMore (IsAt (take (length times) actions) times) (IsAt (take (length times + 1) actions) (times ++ time ∷ [])) action time
next_one actions times action time there =
    let within : length times < length actions = slice_get_within actions (length times) action there in
    let len : length (take (length times) actions) ≡ length times = length-take-le (length times) actions (omega arith) in
    subst (λ (xs : List Action). IsOneMore (IsAt (take (length times) actions) times) (IsAt xs (times ++ time ∷ [])) action time) (sym (take_next actions (length times) action there))
    (one_more_at (take (length times) actions) times action time (sym len))

-- ---- the operation that is asked for

op_at : (actions : List Action) (zone : PlaceId) (op : OpId) (place : ℕ) → slice_get actions place ≡ Some (kinds.Op zone op) → IsPerformedAt actions op.0 place
op_at actions zone op place there = record { zone = zone; there = there }

turned : (circuit : CircuitValue) (i j : ℕ) → Share circuit i j → Share circuit j i
turned circuit i j share = record { first = share.second; second = share.first; wire = share.wire; at_i = share.at_j; at_j = share.at_i; of_first = share.of_second; of_second = share.of_first }

-- all that has to come before an operation that was not asked for is done when its wires say so
pub asked_first : (circuit : CircuitValue) (actions : List Action) (times : List ℕ) (op : ℕ) (operation : Op) (orders : OrdersValue) (level : ℕ) → AreOrdered circuit actions → AreOrders circuit actions times (length times) orders → IsPerformedAt actions op (length times)
    → slice_get orders.ready op ≡ Some None → slice_get circuit.ops op ≡ Some operation → IsGreatest (IsWire circuit operation) (wire_level orders.wires) level → IsLast (IsAt (take (length times) actions) times) (Precedes circuit op) level
asked_first circuit actions times op operation orders level ordered kept now unasked there greatest =
    let n : ℕ = length times in
    let noted : Action → ℕ → Type 0 = IsAt (take (length times) actions) times in
    ready_at circuit noted Any (IsSettled circuit actions n) orders.wires op operation level there greatest kept.wires (record {
      before = λ i its direct share. (let at = noted_before actions times (length times) i its in
          elim (cases_order i op) [
            | inl same ↦ (let asked : IsAsked orders.ready op = kept.asked op at.0 (subst (λ (k : ℕ). IsPerformedAt actions k at.0) same at.2) at.1 in
                let e : Some (Some asked.level) ≡ Some None = sym asked.there ∙ unasked in absurd cc)
            | inr other ↦ elim other [
              | inl less ↦ less
              | inr more ↦ (let late : length times < at.0 = ordered.in_order op i (length times) at.0 (by_wire op i more (turned circuit i op share)) now at.2 in absurd (omega (arith, at.1)))
            ]
          ]);
      barrier_before = λ k settled barrier share. elim (cases_order k op) [
        | inl same ↦ inr same
        | inr other ↦ elim other [
          | inl less ↦ inl less
          | inr more ↦ (let late : length times < length times = settled op (length times) now (by_wire op k more (turned circuit k op share)) in absurd (omega arith))
        ]
      ];
      counted = λ i its forced. tt;
      passed = λ k barrier forced i q at before. ordered.in_order i op q (length times) (by_barrier i k op barrier before forced) at now;
    })

-- the table of the operations that were asked for, with one more
pub asked_more : (circuit : CircuitValue) (actions : List Action) (times : List ℕ) (op level : ℕ) (orders new : OrdersValue) → AreOrders circuit actions times (length times) orders → IsPerformedAt actions op (length times)
    → op < length orders.ready → IsLast (IsAt (take (length times) actions) times) (Precedes circuit op) level
    → new.wires ≡ orders.wires → new.last ≡ orders.last → new.waiting ≡ orders.waiting → new.ready ≡ set orders.ready op (Some level) → AreOrders circuit actions times (length times + 1) new
asked_more circuit actions times op level orders new kept now within its wires_is last_is waiting_is ready_is = record {
  wires = subst (AreWires circuit Any (IsSettled circuit actions (length times)) (IsAt (take (length times) actions) times)) (sym wires_is) kept.wires;
  len = ap length ready_is ∙ length-set orders.ready op (Some level) ∙ kept.len;
  ready = λ other known e. (let there : slice_get (set orders.ready op (Some level)) other ≡ Some (Some known) = ap (λ (l : List (Option ℕ)). slice_get l other) (sym ready_is) ∙ e in
      elim (cases_eq other op) [
        | inl same ↦ (let is : Some level ≡ Some known = sym (get_or-set_same orders.ready op (Some level) (Some known) within)
            ∙ ap (λ (k : ℕ). get_or (set orders.ready op (Some level)) k (Some known)) (sym same) ∙ get_or_from_slice_get (set orders.ready op (Some level)) other (Some known) (Some known) there in
            let level_is : level ≡ known = same_Some level known is in
            record {
              place = length times;
              performed = subst (λ (k : ℕ). IsPerformedAt actions k (length times)) (sym same) now;
              before = omega arith;
              is_last = subst (λ (k : ℕ). IsLast (IsAt (take (length times) actions) times) (Precedes circuit k) known) (sym same) (subst (IsLast (IsAt (take (length times) actions) times) (Precedes circuit op)) level_is its);
            })
        | inr differs ↦ (let inside : other < length (set orders.ready op (Some level)) = slice_get_within (set orders.ready op (Some level)) other (Some known) there in
            let fits : other < length orders.ready = omega (arith, length-set orders.ready op (Some level)) in
            let is : get_or orders.ready other (Some known) ≡ Some known = sym (get_or-set_other orders.ready op other (Some level) (Some known) differs) ∙ get_or_from_slice_get (set orders.ready op (Some level)) other (Some known) (Some known) there in
            let old : IsReadyAfter circuit actions times (length times) other known = kept.ready other known (slice_get-get_or orders.ready other (Some known) fits ∙ ap Some is) in
            record { place = old.place; performed = old.performed; before = omega (arith, old.before); is_last = old.is_last })
      ]);
  asked = λ other place at before. elim (cases_eq other op) [
    | inl same ↦ record {
      level = level;
      there = ap (λ (l : List (Option ℕ)). slice_get l other) ready_is ∙ slice_get-get_or (set orders.ready op (Some level)) other None (omega (arith, length-set orders.ready op (Some level)))
          ∙ ap (λ (k : ℕ). Some (get_or (set orders.ready op (Some level)) k None)) same ∙ ap Some (get_or-set_same orders.ready op (Some level) None within);
    }
    | inr differs ↦ elim (cases_lt place (length times)) [
      | inl earlier ↦ (let old : IsAsked orders.ready other = kept.asked other place at earlier in
          let fits : other < length orders.ready = slice_get_within orders.ready other (Some old.level) old.there in
          record {
            level = old.level;
            there = ap (λ (l : List (Option ℕ)). slice_get l other) ready_is ∙ slice_get-get_or (set orders.ready op (Some level)) other None (omega (arith, length-set orders.ready op (Some level)))
                ∙ ap Some (get_or-set_other orders.ready op other (Some level) None differs) ∙ sym (slice_get-get_or orders.ready other None fits) ∙ old.there;
          })
      | inr later ↦ (let same_place_is : place ≡ length times = omega arith in
          absurd (differs (same_place actions other op (length times) (subst (IsPerformedAt actions other) same_place_is at) now)))
    ]
  ];
  last = λ other. subst (λ (l : List ℕ). IsLast (IsPlaced actions) (Performs (λ (number : ℕ). number ≡ other)) (slice_index l other)) (sym last_is) (kept.last other);
  waiting = subst (AreWaiting circuit actions (length circuit.ops)) (sym waiting_is) kept.waiting;
}

-- an operation that was asked for before
pub asked_again : (circuit : CircuitValue) (actions : List Action) (times : List ℕ) (op level : ℕ) (orders : OrdersValue) → AreOrders circuit actions times (length times) orders → IsPerformedAt actions op (length times)
    → slice_get orders.ready op ≡ Some (Some level) → IsLast (IsAt (take (length times) actions) times) (Precedes circuit op) level × AreOrders circuit actions times (length times + 1) orders
asked_again circuit actions times op level orders kept now known =
    let its : IsReadyAfter circuit actions times (length times) op level = kept.ready op level known in (
      its.is_last,
      record {
        wires = kept.wires;
        len = kept.len;
        ready = λ other l e. (let old : IsReadyAfter circuit actions times (length times) other l = kept.ready other l e in
            record { place = old.place; performed = old.performed; before = omega (arith, old.before); is_last = old.is_last });
        asked = λ other place at before. elim (cases_lt place (length times)) [
          | inl earlier ↦ kept.asked other place at earlier
          | inr later ↦ (let same_place_is : place ≡ length times = omega arith in
              let same : other ≡ op = same_place actions other op (length times) (subst (IsPerformedAt actions other) same_place_is at) now in
              record { level = level; there = ap (slice_get orders.ready) same ∙ known })
        ];
        last = kept.last;
        waiting = kept.waiting;
      },
    )

-- ---- an operation that is noted

pub wires_noted : (circuit : CircuitValue) (actions : List Action) (times : List ℕ) (time level op : ℕ) (operation : Op) (old new : WiresValue) → IsPerformedAt actions op (length times) → slice_get circuit.ops op ≡ Some operation → time + 1 ≡ level
    → AreRaised (IsWire circuit operation) (wire_level old) (wire_level new) level → AreWires circuit Any (IsSettled circuit actions (length times)) (IsAt (take (length times) actions) times) old
    → AreWires circuit Any (IsSettled circuit actions (length times)) (IsAt (take (length times + 1) actions) (times ++ time ∷ [])) new
wires_noted circuit actions times time level op operation old new now there e raised wires =
    let touches : Wire → Action → Type 0 = λ wire. Performs (Reaches circuit Any (IsSettled circuit actions (length times)) wire) in
    raised_last (IsWire circuit operation) (wire_level old) (wire_level new) (IsAt (take (length times) actions) times) (IsAt (take (length times + 1) actions) (times ++ time ∷ [])) (kinds.Op now.zone (numbered op)) time level touches
    (next_one actions times (kinds.Op now.zone (numbered op)) time now.there) raised (sym e)
    (λ wire on. inl (tt, record { op = operation; there = there; is_wire = on }))
    (λ wire it. elim it [
      | inl on ↦ wire_of circuit wire op operation there on.1
      | inr at ↦ (let to_barrier : IsBeforeBarrier circuit (IsSettled circuit actions (length times)) wire op = at in
          let early : length times < length times = to_barrier.counted op (length times) now to_barrier.forced in absurd (omega arith))
    ])
    wires

-- no barrier is settled, where the operation is performed again later
pub none_settled : (circuit : CircuitValue) (actions : List Action) (times : List ℕ) (place op last : ℕ) (levels : WiresValue) → IsPerformedAt actions op place → IsLast (IsPlaced actions) (Performs (λ (number : ℕ). number ≡ op)) last → place + 1 < last
    → AreWires circuit Any (IsSettled circuit actions place) (IsAt (take (place + 1) actions) times) levels → AreWires circuit Any (IsSettled circuit actions (place + 1)) (IsAt (take (place + 1) actions) times) levels
none_settled circuit actions times place op last levels now its later wires =
    wires_same circuit (IsAt (take (place + 1) actions) times) Any (IsSettled circuit actions place) (IsSettled circuit actions (place + 1)) levels
    (λ k barrier settled i q at forced. (let below : q < place = settled i q at forced in omega arith))
    (λ k barrier settled. elim (is_forced_or_not circuit op k) [
      | inl forced ↦ elim its.ended [
        | inl none ↦ absurd (omega arith)
        | inr it ↦ (let ended : IsEndedBy (IsPlaced actions) (Performs (λ (number : ℕ). number ≡ op)) last = it in
            let one : Performing (λ (number : ℕ). number ≡ op) ended.action = performing (λ (number : ℕ). number ≡ op) ended.action ended.it_matters in
            let at : IsPerformedAt actions op ended.time = subst (λ (k : ℕ). IsPerformedAt actions k ended.time) one.holds (record { zone = one.zone; there = ended.is_noted ∙ ap Some one.is }) in
            let early : ended.time < place + 1 = settled op ended.time at forced in
            absurd (omega (arith, ended.is_last)))
      ]
      | inr not ↦ settled_already circuit actions place op k now not settled
    ]) wires

pub settling : (circuit : CircuitValue) (actions : List Action) (times : List ℕ) (time place op last : ℕ) (row : List OpId) (rows : List (List OpId)) → AreOrdered circuit actions → length times ≡ place → IsPerformedAt actions op place
    → IsLast (IsPlaced actions) (Performs (λ (number : ℕ). number ≡ op)) last → last ≤ place + 1 → AreWaiting circuit actions (length circuit.ops) rows → slice_get rows op ≡ Some row → IsSettling circuit actions (times ++ time ∷ []) place op row
settling circuit actions times time place op last row rows ordered len now its latest waiting at_row = record {
  ordered = ordered;
  len = length_push times time ∙ ap (λ (n : ℕ). n + 1) len;
  performed = now;
  current = λ other at. (let below : other < last = its.done (kinds.Op at.zone (numbered op)) other at.there refl in omega arith);
  waits = waiting.each op row at_row;
}

ready_past : (circuit : CircuitValue) (actions : List Action) (times : List ℕ) (action : Action) (time count op level : ℕ) → slice_get actions (length times) ≡ Some action → (Precedes circuit op action → ⊥) → IsReadyAfter circuit actions times count op level
    → IsReadyAfter circuit actions (times ++ time ∷ []) count op level
ready_past circuit actions times action time count op level there not its = record {
  place = its.place;
  performed = its.performed;
  before = its.before;
  is_last = subst (λ (n : ℕ). IsLast (IsAt (take n actions) (times ++ time ∷ [])) (Precedes circuit op) level) (sym (length_push times time))
      (last_past (IsAt (take (length times) actions) times) (IsAt (take (length times + 1) actions) (times ++ time ∷ [])) action time (Precedes circuit op) level (next_one actions times action time there) its.is_last not);
}

pub orders_noted : (circuit : CircuitValue) (actions : List Action) (times : List ℕ) (time place op : ℕ) (old new : OrdersValue) → AreOrdered circuit actions → length times ≡ place → IsPerformedAt actions op place → AreOrders circuit actions times (place + 1) old
    → new.ready ≡ old.ready → new.last ≡ old.last → new.waiting ≡ old.waiting → AreWires circuit Any (IsSettled circuit actions (place + 1)) (IsAt (take (place + 1) actions) (times ++ time ∷ [])) new.wires
    → AreOrders circuit actions (times ++ time ∷ []) (place + 1) new
orders_noted circuit actions times time place op old new ordered len now kept ready_is last_is waiting_is wires =
    let grown : length (times ++ time ∷ []) ≡ place + 1 = length_push times time ∙ ap (λ (n : ℕ). n + 1) len in
    let there : slice_get actions (length times) ≡ Some (kinds.Op now.zone (numbered op)) = ap (slice_get actions) len ∙ now.there in
    record {
      wires = subst (λ (n : ℕ). AreWires circuit Any (IsSettled circuit actions n) (IsAt (take n actions) (times ++ time ∷ [])) new.wires) (sym grown) wires;
      len = ap length ready_is ∙ kept.len;
      ready = λ other level e. (let its : IsReadyAfter circuit actions times (place + 1) other level = kept.ready other level (ap (λ (l : List (Option ℕ)). slice_get l other) (sym ready_is) ∙ e) in
          ready_past circuit actions times (kinds.Op now.zone (numbered op)) time (place + 1) other level there
          (λ forced. let late : place < its.place = ordered.in_order op other place its.place forced now its.performed in let early : its.place < place + 1 = its.before in omega arith) its);
      asked = λ other q at before. (let its : IsAsked old.ready other = kept.asked other q at before in
          record { level = its.level; there = ap (λ (l : List (Option ℕ)). slice_get l other) ready_is ∙ its.there });
      last = λ other. subst (λ (l : List ℕ). IsLast (IsPlaced actions) (Performs (λ (number : ℕ). number ≡ other)) (slice_index l other)) (sym last_is) (kept.last other);
      waiting = subst (AreWaiting circuit actions (length circuit.ops)) (sym waiting_is) kept.waiting;
    }

-- ---- an action that performs no operation

pub orders_past : (circuit : CircuitValue) (actions : List Action) (times : List ℕ) (action : Action) (time : ℕ) (orders : OrdersValue) → slice_get actions (length times) ≡ Some action → ((which : ℕ → Type 0) → Performs which action → ⊥)
    → AreOrders circuit actions times (length times) orders → AreOrders circuit actions (times ++ time ∷ []) (length (times ++ time ∷ [])) orders
orders_past circuit actions times action time orders there no_op kept =
    let grown : length (times ++ time ∷ []) ≡ length times + 1 = length_push times time in
    let noted : Action → ℕ → Type 0 = IsAt (take (length times) actions) times in
    let now : Action → ℕ → Type 0 = IsAt (take (length times + 1) actions) (times ++ time ∷ []) in
    let not_here : (op : ℕ) → IsPerformedAt actions op (length times) → ⊥ = λ op at. no_op (λ (k : ℕ). k ≡ op) (subst (Performs (λ (k : ℕ). k ≡ op)) (same_Some (kinds.Op at.zone (numbered op)) action (sym at.there ∙ there)) refl) in
    let wires : AreWires circuit Any (IsSettled circuit actions (length times)) now orders.wires = λ wire.
    last_past noted now action time (Performs (Reaches circuit Any (IsSettled circuit actions (length times)) wire)) (wire_level orders.wires wire) (next_one actions times action time there) (kept.wires wire)
    (no_op (Reaches circuit Any (IsSettled circuit actions (length times)) wire)) in
    let settled : AreWires circuit Any (IsSettled circuit actions (length times + 1)) now orders.wires =
    wires_same circuit now Any (IsSettled circuit actions (length times)) (IsSettled circuit actions (length times + 1)) orders.wires
    (λ k barrier old i q at forced. (let below : q < length times = old i q at forced in omega arith))
    (λ k barrier new i q at forced. (let below : q < length times + 1 = new i q at forced in
    elim (cases_lt q (length times)) [
      | inl before ↦ before
      | inr after ↦ (let same : q ≡ length times = omega arith in absurd (not_here i (subst (IsPerformedAt actions i) same at)))
    ])) wires in
    record {
      wires = subst (λ (n : ℕ). AreWires circuit Any (IsSettled circuit actions n) (IsAt (take n actions) (times ++ time ∷ [])) orders.wires) (sym grown) settled;
      len = kept.len;
      ready = λ op level e. (let its : IsReadyAfter circuit actions times (length times) op level = kept.ready op level e in
          let past : IsReadyAfter circuit actions (times ++ time ∷ []) (length times) op level = ready_past circuit actions times action time (length times) op level there (no_op (λ (k : ℕ). Forced circuit k op)) its in
          record { place = past.place; performed = past.performed; before = omega (arith, past.before); is_last = past.is_last });
      asked = λ op q at before. elim (cases_lt q (length times)) [
        | inl earlier ↦ kept.asked op q at earlier
        | inr later ↦ (let same : q ≡ length times = omega arith in absurd (not_here op (subst (IsPerformedAt actions op) same at)))
      ];
      last = kept.last;
      waiting = kept.waiting;
    }

-- ---- places and junctions

pub spots_noted : (trap : TrapValue) (actions : List Action) (times : List ℕ) (action : Action) (time level : ℕ) (works : List Spot) (old new : SpotsValue) → slice_get actions (length times) ≡ Some action → works ≡ footprint trap action → level ≡ time + 1
    → AreRaised (Contains works) (spot_level old) (spot_level new) level → AreSpots trap (IsAt (take (length times) actions) times) old
    → AreSpots trap (IsAt (take (length (times ++ time ∷ [])) actions) (times ++ time ∷ [])) new
spots_noted trap actions times action time level works old new there is e raised each spot =
    subst (λ (n : ℕ). IsLast (IsAt (take n actions) (times ++ time ∷ [])) (λ (a : Action). Contains (footprint trap a) spot) (spot_level new spot)) (sym (length_push times time))
    (raised_last (Contains works) (spot_level old) (spot_level new) (IsAt (take (length times) actions) times) (IsAt (take (length times + 1) actions) (times ++ time ∷ [])) action time level
    (λ (which : Spot) (a : Action). Contains (footprint trap a) which) (next_one actions times action time there) raised e
    (λ which on. subst (λ (l : List Spot). Contains l which) is on) (λ which it. subst (λ (l : List Spot). Contains l which) (sym is) it) each spot)

-- ---- before the first action

nothing_noted : (circuit : CircuitValue) (actions : List Action) (wire : Wire) → IsLast (IsAt (take 0 actions) []) (Performs (Reaches circuit Any (IsSettled circuit actions 0) wire)) 0
nothing_noted circuit actions wire = none_last (IsAt (take 0 actions) []) (Performs (Reaches circuit Any (IsSettled circuit actions 0) wire))
    (λ action time there it. let at : IsAt (take 0 actions) [] action time = there in let e : slice_get [] at.position ≡ Some time = at.is_time in cc)

no_wire : (circuit : CircuitValue) (actions : List Action) (wire : Wire) → IsLast (IsAt (take 0 actions) []) (Performs (Reaches circuit Any (IsSettled circuit actions 0) wire)) (wire_level (record { qubits = []; bits = [] }) wire)
no_wire circuit actions (on_qubit number) = nothing_noted circuit actions (on_qubit number)
no_wire circuit actions (on_bit number) = nothing_noted circuit actions (on_bit number)

pub orders_start : (circuit : CircuitValue) (actions : List Action) (ready : List (Option ℕ)) (last : List ℕ) (waiting : List (List OpId)) → ready ≡ replicate (length circuit.ops) None → AreLastPlaces actions last → AreWaiting circuit actions (length circuit.ops) waiting
    → AreOrders circuit actions [] 0 (record { wires = record { qubits = []; bits = [] }; ready = ready; last = last; waiting = waiting })
orders_start circuit actions ready last waiting e places rows = record {
  wires = no_wire circuit actions;
  len = ap length e ∙ length-replicate (length circuit.ops) None;
  ready = λ op level there. (let fits : op < length ready = slice_get_within ready op (Some level) there in
      let within : op < length circuit.ops = omega (arith, ap length e, length-replicate {A = Option ℕ} (length circuit.ops) None) in
      let is : Some level ≡ None = sym (get_or_from_slice_get ready op (Some level) None there) ∙ ap (λ (l : List (Option ℕ)). get_or l op None) e ∙ get_or-replicate (length circuit.ops) op None None within in
      absurd cc);
  asked = λ op place at before. absurd (omega arith);
  last = places;
  waiting = rows;
}

-- ---- an operation that is noted, whole

-- with its last action, which settles the barriers of the row
pub noted_last : (circuit : CircuitValue) (actions : List Action) (times : List ℕ) (time count level op : ℕ) (operation : Op) (old : OrdersValue) (mid new : WiresValue) (row : List OpId) → AreOrdered circuit actions → count ≡ length times + 1 → level ≡ time + 1
    → AreOrders circuit actions times count old → IsPerformedAt actions op (length times) → slice_get circuit.ops op ≡ Some operation → AreRaised (IsWire circuit operation) (wire_level old.wires) (wire_level mid) level
    → slice_index old.last op ≤ count → slice_get old.waiting op ≡ Some row → AreSettled circuit row mid new → AreOrders circuit actions (times ++ time ∷ []) count (record old { wires = new })
noted_last circuit actions times time count level op operation old mid new row ordered counted e kept now there raised latest at_row settled =
    let whole : AreOrders circuit actions times (length times + 1) old = subst (λ (n : ℕ). AreOrders circuit actions times n old) counted kept in
    let wires : AreWires circuit Any (IsSettled circuit actions (length times)) (IsAt (take (length times + 1) actions) (times ++ time ∷ [])) mid = wires_noted circuit actions times time level op operation old.wires mid now there (sym e) raised whole.wires in
    let facts : IsSettling circuit actions (times ++ time ∷ []) (length times) op row = settling circuit actions times time (length times) op (slice_index old.last op) row old.waiting ordered refl now (whole.last op) (omega arith) whole.waiting at_row in
    let all : AreWires circuit Any (IsSettled circuit actions (length times + 1)) (IsAt (take (length times + 1) actions) (times ++ time ∷ [])) new = settled actions (times ++ time ∷ []) (length times) op facts wires in
    subst (λ (n : ℕ). AreOrders circuit actions (times ++ time ∷ []) n (record old { wires = new })) (sym counted)
    (orders_noted circuit actions times time (length times) op old (record old { wires = new }) ordered refl now whole refl refl refl all)

-- with an action that isn't its last
pub noted_before_last : (circuit : CircuitValue) (actions : List Action) (times : List ℕ) (time count level op : ℕ) (operation : Op) (old : OrdersValue) (mid : WiresValue) → AreOrdered circuit actions → count ≡ length times + 1 → level ≡ time + 1
    → AreOrders circuit actions times count old → IsPerformedAt actions op (length times) → slice_get circuit.ops op ≡ Some operation → AreRaised (IsWire circuit operation) (wire_level old.wires) (wire_level mid) level
    → count < slice_index old.last op → AreOrders circuit actions (times ++ time ∷ []) count (record old { wires = mid })
noted_before_last circuit actions times time count level op operation old mid ordered counted e kept now there raised later =
    let whole : AreOrders circuit actions times (length times + 1) old = subst (λ (n : ℕ). AreOrders circuit actions times n old) counted kept in
    let wires : AreWires circuit Any (IsSettled circuit actions (length times)) (IsAt (take (length times + 1) actions) (times ++ time ∷ [])) mid = wires_noted circuit actions times time level op operation old.wires mid now there (sym e) raised whole.wires in
    let all : AreWires circuit Any (IsSettled circuit actions (length times + 1)) (IsAt (take (length times + 1) actions) (times ++ time ∷ [])) mid =
    none_settled circuit actions (times ++ time ∷ []) (length times) op (slice_index old.last op) mid now (whole.last op) (omega arith) wires in
    subst (λ (n : ℕ). AreOrders circuit actions (times ++ time ∷ []) n (record old { wires = mid })) (sym counted)
    (orders_noted circuit actions times time (length times) op old (record old { wires = mid }) ordered refl now whole refl refl refl all)
