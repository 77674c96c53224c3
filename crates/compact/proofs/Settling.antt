-- What is kept of forced operations while actions are noted one by one.
use Rattle.std.proofs.Common.{◌≡◌, ℕ, ◌+◌, ◌<◌, ◌≤◌, Bool, true, false, List, [], ◌∷◌, ◌++◌, length, take, get_or, Some, refl, sym, ap, subst, ◌∙◌, inl, inr, arith}
use Rattle.std.specs.Prelude.{slice_get, ◌⊎◌, AllPairs, Contains}
use Rattle.std.proofs.lemmas.Option.{same_Some, slice_get_within, get_or_from_slice_get}
use Rattle.std.proofs.lemmas.Bool.{cases_order, cases_eq, cases_lt}
use Rattle.std.proofs.lemmas.List.{take_all}
use Rattle.std.proofs.lemmas.List.Elements.{Contains-append_left, Contains-push, Contains-push_cases}
use Rattle.qc_base.specs.declared.ids.OpId.{OpId}
use Rattle.circuit_core.specs.declared.op.Op.{Op}
use Rattle.circuit_core.specs.Circuit.{CircuitValue}
use Rattle.circuit_core.specs.Deciding.{is_forced}
use Rattle.circuit_core.specs.Order.{IsWire, IsBarrierAt, Share, Forced, by_wire, by_barrier}
use Rattle.circuit_core.proofs.Forcing.{forced_before, forced_iff}
use Rattle.step_rules.specs.declared.action.Action.{Action}
use Rattle.step_rules.specs.declared.action.Action.TheVariants as kinds
use Rattle.compact.specs.Latest.{IsAt, IsLast}
use Rattle.compact.specs.Levels.{WiresValue, wire_level, IsGreatest, AreRaised}
use Rattle.compact.specs.Orders.{Precedes, IsPerformedAt, AreOrdered, IsSettled, IsSettledBy, AreWires, Any, IsSettling, Counted}
use Rattle.compact.proofs.Places.{at_contains, contains_at, in_front, front_at}
use Rattle.compact.proofs.Building.{take_next}
use Rattle.compact.proofs.Reaching.{IsNotedOp, AreSides, ready_at, wires_lifted, wires_same}
use Rattle.compact.proofs.Waits.{numbered, same_place}

turned : (circuit : CircuitValue) (i j : ℕ) → Share circuit i j → Share circuit j i
turned circuit i j share = record { first = share.second; second = share.first; wire = share.wire; at_i = share.at_j; at_j = share.at_i; of_first = share.of_second; of_second = share.of_first }

-- an operation that is noted is performed before that place
pub noted_before : (actions : List Action) (times : List ℕ) (count i : ℕ) → IsNotedOp (IsAt (take count actions) times) i → (q : ℕ) × (q < count) × IsPerformedAt actions i q
noted_before actions times count i its =
    let at : IsAt (take count actions) times (kinds.Op its.zone its.op) its.time = its.there in
    let there = in_front actions count at.position (kinds.Op its.zone its.op) at.is_action in
    (at.position, there.0, subst (λ (n : ℕ). IsPerformedAt actions n at.position) its.is (record { zone = its.zone; there = there.1 }))

decide : (circuit : CircuitValue) (i j : ℕ) (b : Bool) → is_forced circuit i j ≡ b → Forced circuit i j ⊎ (Forced circuit i j → ⊥)
decide circuit i j true e = inl ((forced_iff circuit i j).0 e)
decide circuit i j false e = inr (λ forced. let yes_it : is_forced circuit i j ≡ true = (forced_iff circuit i j).1 forced in cc)

pub is_forced_or_not : (circuit : CircuitValue) (i j : ℕ) → Forced circuit i j ⊎ (Forced circuit i j → ⊥)
is_forced_or_not circuit i j = decide circuit i j (is_forced circuit i j) refl

-- settled after one place more, but not by the operation there
pub settled_already : (circuit : CircuitValue) (actions : List Action) (place op k : ℕ) → IsPerformedAt actions op place → (Forced circuit op k → ⊥) → IsSettled circuit actions (place + 1) k → IsSettled circuit actions place k
settled_already circuit actions place op k at not settled i q there forced = elim (cases_lt q place) [
  | inl before ↦ before
  | inr after ↦ (let below : q < place + 1 = settled i q there forced in
      let same : q ≡ place = omega arith in
      let is : i ≡ op = same_place actions i op place (subst (IsPerformedAt actions i) same there) at in
      absurd (not (subst (λ (n : ℕ). Forced circuit n k) is forced)))
]

settled_later : (circuit : CircuitValue) (actions : List Action) (place k : ℕ) → IsSettled circuit actions place k → IsSettled circuit actions (place + 1) k
settled_later circuit actions place k settled i q there forced = let below : q < place = settled i q there forced in omega arith

-- ---- the barriers of a row

ascends : (row : List OpId) (i j : ℕ) (a b : OpId) → AllPairs (λ (first second : OpId). first.0 < second.0) row → i < j → slice_get row i ≡ Some a → slice_get row j ≡ Some b → a.0 < b.0
ascends row i j a b ascending before at_i at_j =
    let pair : (get_or row i a).0 < (get_or row j a).0 = ascending i j a before (slice_get_within row j b at_j) in
    subst (λ (x : OpId). x.0 < b.0) (get_or_from_slice_get row i a a at_i) (subst (λ (y : OpId). (get_or row i a).0 < y.0) (get_or_from_slice_get row j b a at_j) pair)

-- a barrier of the row that is before another is among those before it
in_the_front : (row : List OpId) (m : ℕ) (k other : OpId) → AllPairs (λ (first second : OpId). first.0 < second.0) row → slice_get row m ≡ Some k → Contains row other → other.0 < k.0 → Contains (take m row) other
in_the_front row m k other ascending at_m it less =
    let at = at_contains row other it in
    elim (cases_lt at.0 m) [
      | inl before ↦ contains_at (take m row) at.0 other (front_at row m at.0 other before at.1)
      | inr after ↦ elim (cases_eq at.0 m) [
        | inl same ↦ (let is : other ≡ k = same_Some other k (sym at.1 ∙ ap (slice_get row) same ∙ at_m) in
            let equal : other.0 ≡ k.0 = ap (λ (o : OpId). o.0) is in absurd (omega arith))
        | inr differs ↦ (let more : k.0 < other.0 = ascends row m at.0 k other ascending (omega arith) at_m at.1 in absurd (omega arith))
      ]
    ]

from_the_front : (row : List OpId) (m : ℕ) (k other : OpId) → AllPairs (λ (first second : OpId). first.0 < second.0) row → slice_get row m ≡ Some k → Contains (take m row) other → other.0 < k.0
from_the_front row m k other ascending at_m it =
    let at = at_contains (take m row) other it in
    let there = in_front row m at.0 other at.1 in
    ascends row at.0 m other k ascending there.0 there.1 at_m

-- a barrier of the row is settled by the action of that place
settled_now : (circuit : CircuitValue) (actions : List Action) (times : List ℕ) (place op : ℕ) (row : List OpId) (k : ℕ) → IsSettling circuit actions times place op row → IsSettledBy circuit actions op k → IsSettled circuit actions (place + 1) k
settled_now circuit actions times place op row k settling by =
    let late : place < by.place + 1 = by.settled op place settling.performed by.forced in
    let early : by.place ≤ place = settling.current by.place by.performed in
    let same : by.place ≡ place = omega arith in
    subst (λ (p : ℕ). IsSettled circuit actions (p + 1) k) same by.settled

-- what is settled now was settled before, or is of the row
settled_or_waiting : (circuit : CircuitValue) (actions : List Action) (times : List ℕ) (place op : ℕ) (row : List OpId) (k : ℕ) → IsSettling circuit actions times place op row → IsBarrierAt circuit k → IsSettled circuit actions (place + 1) k
    → IsSettled circuit actions place k ⊎ Contains row (numbered k)
settled_or_waiting circuit actions times place op row k settling barrier settled = elim (is_forced_or_not circuit op k) [
  | inl forced ↦ inr (settling.waits.all k (slice_get_within circuit.ops k barrier.op barrier.there) (record { is_barrier = barrier; forced = forced; place = place; performed = settling.performed; settled = settled }))
  | inr not ↦ inl (settled_already circuit actions place op k settling.performed not settled)
]

before_barrier : (circuit : CircuitValue) (actions : List Action) (times : List ℕ) (place op : ℕ) (row : List OpId) (k i : ℕ) → IsSettling circuit actions times place op row → IsSettledBy circuit actions op k
    → IsNotedOp (IsAt (take (place + 1) actions) times) i → Share circuit i k → i < k
before_barrier circuit actions times place op row k i settling by noted share =
    let there = noted_before actions times (place + 1) i noted in
    let ordered : AreOrdered circuit actions = settling.ordered in
    elim (cases_order i k) [
      | inl same ↦ absurd (ordered.no_barrier i there.0 there.2 (subst (IsBarrierAt circuit) (sym same) by.is_barrier))
      | inr other ↦ elim other [
        | inl less ↦ less
        | inr more ↦ (let forced : Forced circuit op i = by_barrier op k i by.is_barrier by.forced (by_wire k i more (turned circuit i k share)) in
            let late : place < there.0 = ordered.in_order op i place there.0 forced settling.performed there.2 in
            absurd (omega (arith, there.1)))
      ]
    ]

barrier_before_barrier : (circuit : CircuitValue) (actions : List Action) (times : List ℕ) (place op : ℕ) (row : List OpId) (m : ℕ) (k : OpId) (other : ℕ) → IsSettling circuit actions times place op row → IsSettledBy circuit actions op k.0 → slice_get row m ≡ Some k
    → Counted circuit actions place row m other → Share circuit other k.0 → (other < k.0) ⊎ (other ≡ k.0)
barrier_before_barrier circuit actions times place op row m k other settling by at_m (inl settled) share = elim (cases_order other k.0) [
  | inl same ↦ inr same
  | inr differs ↦ elim differs [
    | inl less ↦ inl less
    | inr more ↦ (let forced : Forced circuit op other = by_barrier op k.0 other by.is_barrier by.forced (by_wire k.0 other more (turned circuit other k.0 share)) in
        let late : place < place = settled op place settling.performed forced in
        absurd (omega arith))
  ]
]
barrier_before_barrier circuit actions times place op row m k other settling by at_m (inr it) share =
    inl (from_the_front row m k (numbered other) settling.waits.ascending at_m it)

passed_barrier : (circuit : CircuitValue) (actions : List Action) (times : List ℕ) (place op : ℕ) (row : List OpId) (m : ℕ) (k : OpId) (other : ℕ) → IsSettling circuit actions times place op row → IsSettledBy circuit actions op k.0 → slice_get row m ≡ Some k
    → IsBarrierAt circuit other → Forced circuit other k.0 → Counted circuit actions place row m other
passed_barrier circuit actions times place op row m k other settling by at_m barrier forced =
    let now : IsSettled circuit actions (place + 1) k.0 = settled_now circuit actions times place op row k.0 settling by in
    let settled : IsSettled circuit actions (place + 1) other = λ i q there before. now i q there (by_barrier i other k.0 barrier before forced) in
    elim (settled_or_waiting circuit actions times place op row other settling barrier settled) [
      | inl old ↦ inl old
      | inr waiting ↦ inr (in_the_front row m k (numbered other) settling.waits.ascending at_m waiting (forced_before circuit other k.0 forced))
    ]

-- the next barrier of the row is counted
pub settled_more : (circuit : CircuitValue) (actions : List Action) (times : List ℕ) (place op : ℕ) (row : List OpId) (m : ℕ) (k : OpId) (operation : Op) (level : ℕ) (mid new : WiresValue) → IsSettling circuit actions times place op row → slice_get row m ≡ Some k
    → slice_get circuit.ops k.0 ≡ Some operation → IsGreatest (IsWire circuit operation) (wire_level mid) level → AreRaised (IsWire circuit operation) (wire_level mid) (wire_level new) level
    → AreWires circuit Any (Counted circuit actions place row m) (IsAt (take (place + 1) actions) times) mid → AreWires circuit Any (Counted circuit actions place row (m + 1)) (IsAt (take (place + 1) actions) times) new
settled_more circuit actions times place op row m k operation level mid new settling at_m there greatest raised wires =
    let noted : Action → ℕ → Type 0 = IsAt (take (place + 1) actions) times in
    let by : IsSettledBy circuit actions op k.0 = (settling.waits.sound k.0 (contains_at row m k at_m)).1 in
    let sides : AreSides circuit noted Any (Counted circuit actions place row m) k.0 = record {
      before = λ i its direct share. before_barrier circuit actions times place op row k.0 i settling by its share;
      barrier_before = λ other counted barrier share. barrier_before_barrier circuit actions times place op row m k other settling by at_m counted share;
      counted = λ i its forced. tt;
      passed = λ other barrier forced. passed_barrier circuit actions times place op row m k other settling by at_m barrier forced;
    } in
    let ready : IsLast noted (Precedes circuit k.0) level = ready_at circuit noted Any (Counted circuit actions place row m) mid k.0 operation level there greatest wires sides in
    let grown : take (m + 1) row ≡ take m row ++ k ∷ [] = take_next row m k at_m in
    wires_lifted circuit noted Any (Counted circuit actions place row m) Any (Counted circuit actions place row (m + 1)) (λ (i : ℕ). Forced circuit i k.0) k.0 operation mid new level there raised ready
    (record {
      direct_kept = λ i h. tt;
      barriers_kept = λ other counted. elim counted [
        | inl settled ↦ inl settled
        | inr it ↦ inr (subst (λ (l : List OpId). Contains l (numbered other)) (sym grown) (Contains-append_left (take m row) (k ∷ []) (numbered other) it))
      ];
      new = λ i its forced. inr (inr (subst (λ (l : List OpId). Contains l k) (sym grown) (Contains-push (take m row) k)), by.is_barrier, forced);
      direct_old = λ i its h. inl tt;
      barriers_old = λ i other its counted barrier forced. elim counted [
        | inl settled ↦ inl (inl settled)
        | inr it ↦ elim (Contains-push_cases (take m row) k (numbered other) (subst (λ (l : List OpId). Contains l (numbered other)) grown it)) [
          | inl old ↦ inl (inr old)
          | inr is ↦ (let same : other ≡ k.0 = sym (ap (λ (o : OpId). o.0) is) in inr (same, subst (λ (n : ℕ). Forced circuit i n) same forced))
        ]
      ];
    })
    wires

-- before the first barrier of the row
pub settled_none : (circuit : CircuitValue) (actions : List Action) (times : List ℕ) (place : ℕ) (row : List OpId) (levels : WiresValue) → AreWires circuit Any (IsSettled circuit actions place) (IsAt (take (place + 1) actions) times) levels
    → AreWires circuit Any (Counted circuit actions place row 0) (IsAt (take (place + 1) actions) times) levels
settled_none circuit actions times place row levels wires =
    wires_same circuit (IsAt (take (place + 1) actions) times) Any (IsSettled circuit actions place) (Counted circuit actions place row 0) levels
    (λ k barrier settled. inl settled) (λ k barrier counted. elim counted [
      | inl settled ↦ settled
      | inr it ↦ absurd (omega (arith, it.1))
    ]) wires

-- after its last one
pub settled_all : (circuit : CircuitValue) (actions : List Action) (times : List ℕ) (place op : ℕ) (row : List OpId) (m : ℕ) (levels : WiresValue) → IsSettling circuit actions times place op row → length row ≤ m
    → AreWires circuit Any (Counted circuit actions place row m) (IsAt (take (place + 1) actions) times) levels → AreWires circuit Any (IsSettled circuit actions (place + 1)) (IsAt (take (place + 1) actions) times) levels
settled_all circuit actions times place op row m levels settling h wires =
    let whole : take m row ≡ row = take_all m row h in
    wires_same circuit (IsAt (take (place + 1) actions) times) Any (Counted circuit actions place row m) (IsSettled circuit actions (place + 1)) levels
    (λ k barrier counted. elim counted [
      | inl settled ↦ settled_later circuit actions place k settled
      | inr it ↦ settled_now circuit actions times place op row k settling (settling.waits.sound k (subst (λ (l : List OpId). Contains l (numbered k)) whole it)).1
    ])
    (λ k barrier settled. elim (settled_or_waiting circuit actions times place op row k settling barrier settled) [
      | inl old ↦ inl old
      | inr waiting ↦ inr (subst (λ (l : List OpId). Contains l (numbered k)) (sym whole) waiting)
    ]) wires
