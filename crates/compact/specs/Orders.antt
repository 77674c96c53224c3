-- How far forced operations were done: working notions of private functions.
use Rattle.std.specs.Prelude.{◌≡◌, ℕ, ◌+◌, ◌<◌, ◌≤◌, ◌⊎◌, List, [], ◌∷◌, ◌++◌, length, take, slice_get, slice_index, slice_index_or, slice_set, Option, Some, AllPairs, Contains}
use Rattle.qc_base.specs.declared.ids.OpId.{OpId}
use Rattle.qc_base.specs.declared.ids.PlaceId.{PlaceId}
use Rattle.circuit_core.specs.declared.op.Op.{Op}
use Rattle.circuit_core.specs.Circuit.{CircuitValue}
use Rattle.circuit_core.specs.Order.{Wire, IsWire, IsBarrierAt, Forced}
use Rattle.step_rules.specs.declared.action.Action.{Action}
use Rattle.step_rules.specs.declared.action.Action.TheVariants as kinds
use Rattle.compact.specs.Latest.{IsLast, IsAt}
use Rattle.compact.specs.Levels.{WiresValue, wire_level, IsRaised}

-- the action performs one of these operations
abbrev pub Performs : (ℕ → Type 0) → Action → Type 0
Performs which (kinds.Op zone op) = which op.0
Performs which action = ⊥

-- it performs one that has to come before that operation
abbrev pub Precedes : CircuitValue → ℕ → Action → Type 0
Precedes circuit op action = Performs (λ (number : ℕ). Forced circuit number op) action

-- the action of that place in the list performs the operation
pub record IsPerformedAt (actions : List Action) (op place : ℕ) : Type 0 where
  pub zone : PlaceId
  pub there : slice_get actions place ≡ Some (kinds.Op zone (record { 0 = op }))

-- in the list forced operations are in order, and each is of the circuit and no barrier
pub record AreOrdered (circuit : CircuitValue) (actions : List Action) : Type 0 where
  pub in_order : (i j p q : ℕ) → Forced circuit i j → IsPerformedAt actions i p → IsPerformedAt actions j q → p < q
  pub no_barrier : (i p : ℕ) → IsPerformedAt actions i p → IsBarrierAt circuit i → ⊥
  pub there : (i p : ℕ) → IsPerformedAt actions i p → i < length circuit.ops

-- the operation of that number acts on the wire
pub record IsOnWire (circuit : CircuitValue) (wire : Wire) (number : ℕ) : Type 0 where
  pub op : Op
  pub there : slice_get circuit.ops number ≡ Some op
  pub is_wire : IsWire circuit op wire

-- the operation has to come before a barrier on the wire, one of these
pub record IsBeforeBarrier (circuit : CircuitValue) (barriers : ℕ → Type 0) (wire : Wire) (number : ℕ) : Type 0 where
  pub barrier : ℕ
  pub counted : barriers barrier
  pub is_barrier : IsBarrierAt circuit barrier
  pub on : IsOnWire circuit wire barrier
  pub forced : Forced circuit number barrier

-- one of these operations acts on the wire, or has to come before one of these barriers on it
abbrev pub Reaches : CircuitValue → (ℕ → Type 0) → (ℕ → Type 0) → Wire → ℕ → Type 0
Reaches circuit direct barriers wire number =
    (direct number × IsOnWire circuit wire number) ⊎ IsBeforeBarrier circuit barriers wire number

-- the level of each wire is when all that reaches it is done
abbrev pub AreWires : CircuitValue → (ℕ → Type 0) → (ℕ → Type 0) → (Action → ℕ → Type 0) → WiresValue → Type 0
AreWires circuit direct barriers noted levels =
    (wire : Wire) → IsLast noted (Performs (Reaches circuit direct barriers wire)) (wire_level levels wire)

-- all operations are counted
abbrev pub Any : ℕ → Type 0
Any number = Unit {0}

-- all that has to come before the operation is before that place of the list
abbrev pub IsSettled : CircuitValue → List Action → ℕ → ℕ → Type 0
IsSettled circuit actions place op = (i q : ℕ) → IsPerformedAt actions i q → Forced circuit i op → q < place

-- the action is in the list, at that place
abbrev pub IsPlaced : List Action → Action → ℕ → Type 0
IsPlaced actions action place = slice_get actions place ≡ Some action

-- the barrier is settled by an action that performs the operation
pub record IsSettledBy (circuit : CircuitValue) (actions : List Action) (op barrier : ℕ) : Type 0 where
  pub is_barrier : IsBarrierAt circuit barrier
  pub forced : Forced circuit op barrier
  pub place : ℕ
  pub performed : IsPerformedAt actions op place
  pub settled : IsSettled circuit actions (place + 1) barrier

-- the barriers below that number that the operation settles, in order
pub record IsWaitingRow (circuit : CircuitValue) (actions : List Action) (count op : ℕ) (row : List OpId) : Type 0 where
  pub sound : (barrier : ℕ) → Contains row (record { 0 = barrier })
      → (barrier < count) × IsSettledBy circuit actions op barrier
  pub all : (barrier : ℕ) → barrier < count → IsSettledBy circuit actions op barrier
      → Contains row (record { 0 = barrier })
  pub ascending : AllPairs (λ (first second : OpId). first.0 < second.0) row

-- such a row for each operation
pub record AreWaiting (circuit : CircuitValue) (actions : List Action) (count : ℕ)
    (rows : List (List OpId)) : Type 0 where
  pub len : length rows ≡ length circuit.ops
  pub each : (op : ℕ) (row : List OpId) → slice_get rows op ≡ Some row → IsWaitingRow circuit actions count op row

-- for each operation the last action that performs it, counted from 1, and 0 for none
abbrev pub AreLastPlaces : List Action → List ℕ → Type 0
AreLastPlaces actions last =
    (op : ℕ) → IsLast (IsPlaced actions) (Performs (λ (number : ℕ). number ≡ op)) (slice_index last op)

-- the action is the last of so many
abbrev pub IsPlaceNoted : Action → ℕ → List ℕ → List ℕ → Type 0
IsPlaceNoted (kinds.Op zone op) count old new = IsRaised old new op.0 count
IsPlaceNoted action count old new = new ≡ old

-- the barrier is at the end of that row
abbrev pub with_waiting : List (List OpId) → ℕ → OpId → List (List OpId)
with_waiting rows op barrier = slice_set rows op (slice_index_or rows op [] ++ barrier ∷ [])

-- below that number
abbrev pub Below : ℕ → ℕ → Type 0
Below count number = number < count

-- what reaches each wire among so many first operations, and the rows of the barriers among them
pub record ArePassed (circuit : CircuitValue) (actions : List Action) (count : ℕ) (levels : WiresValue)
    (rows : List (List OpId)) : Type 0 where
  pub wires : AreWires circuit (Below count) (Below count) (IsPlaced actions) levels
  pub waiting : AreWaiting circuit actions count rows

-- the barrier waits for that operation now where the action of that number, counted from 1, performs it
pub data Waits (actions : List Action) (place : ℕ) (barrier : OpId) (old : List (List OpId)) (op : ℕ)
    (row : List OpId) : Type 0 where
  row_grew : (before : List OpId) (p : ℕ) → slice_get old op ≡ Some before → place ≡ p + 1
      → IsPerformedAt actions op p → before ++ barrier ∷ [] ≡ row → Waits actions place barrier old op row
  row_stayed : slice_get old op ≡ Some row → ((p : ℕ) → place ≡ p + 1 → IsPerformedAt actions op p → ⊥)
      → Waits actions place barrier old op row

-- so for each operation
pub record IsWaited (actions : List Action) (place : ℕ) (barrier : OpId) (old new : List (List OpId)) : Type 0 where
  pub len : length new ≡ length old
  pub each : (op : ℕ) (row : List OpId) → slice_get new op ≡ Some row → Waits actions place barrier old op row

-- an action before that place performs the operation, and what has to come before it is done after so many steps
pub record IsReadyAfter (circuit : CircuitValue) (actions : List Action) (times : List ℕ)
    (count op level : ℕ) : Type 0 where
  pub place : ℕ
  pub performed : IsPerformedAt actions op place
  pub before : place < count
  pub is_last : IsLast (IsAt (take (length times) actions) times) (Precedes circuit op) level

-- the operation has an entry
pub record IsAsked (ready : List (Option ℕ)) (op : ℕ) : Type 0 where
  pub level : ℕ
  pub there : slice_get ready op ≡ Some (Some level)

-- when an action performs an operation, and the last that does, with the barriers that wait for it
pub record IsSettling (circuit : CircuitValue) (actions : List Action) (times : List ℕ) (place op : ℕ)
    (row : List OpId) : Type 0 where
  pub ordered : AreOrdered circuit actions
  pub len : length times ≡ place + 1
  pub performed : IsPerformedAt actions op place
  pub current : (other : ℕ) → IsPerformedAt actions op other → other ≤ place
  pub waits : IsWaitingRow circuit actions (length circuit.ops) op row

-- the barriers that were settled before, and so many first ones of the row
abbrev pub Counted : CircuitValue → List Action → ℕ → List OpId → ℕ → ℕ → Type 0
Counted circuit actions place row count barrier =
    IsSettled circuit actions place barrier ⊎ Contains (take count row) (record { 0 = barrier })

-- the levels of the wires while these barriers are counted
abbrev pub AreCounted : CircuitValue → List OpId → ℕ → WiresValue → WiresValue → Type 0
AreCounted circuit row count old new =
    (actions : List Action) (times : List ℕ) (place op : ℕ) → IsSettling circuit actions times place op row
    → AreWires circuit Any (IsSettled circuit actions place) (IsAt (take (place + 1) actions) times) old
    → AreWires circuit Any (Counted circuit actions place row count) (IsAt (take (place + 1) actions) times) new

-- and when all are
abbrev pub AreSettled : CircuitValue → List OpId → WiresValue → WiresValue → Type 0
AreSettled circuit row old new =
    (actions : List Action) (times : List ℕ) (place op : ℕ) → IsSettling circuit actions times place op row
    → AreWires circuit Any (IsSettled circuit actions place) (IsAt (take (place + 1) actions) times) old
    → AreWires circuit Any (IsSettled circuit actions (place + 1)) (IsAt (take (place + 1) actions) times) new

pub record OrdersValue : Type 0 where
  pub wires : WiresValue
  pub ready : List (Option ℕ)
  pub last : List ℕ
  pub waiting : List (List OpId)

-- what is kept after so many first actions of the list, of which so many operations were asked for
pub record AreOrders (circuit : CircuitValue) (actions : List Action) (times : List ℕ) (count : ℕ)
    (orders : OrdersValue) : Type 0 where
  pub wires : AreWires circuit Any (IsSettled circuit actions (length times))
      (IsAt (take (length times) actions) times) orders.wires
  pub len : length orders.ready ≡ length circuit.ops
  pub ready : (op level : ℕ) → slice_get orders.ready op ≡ Some (Some level)
      → IsReadyAfter circuit actions times count op level
  pub asked : (op place : ℕ) → IsPerformedAt actions op place → place < count → IsAsked orders.ready op
  pub last : (op : ℕ) → IsLast (IsPlaced actions) (Performs (λ (number : ℕ). number ≡ op)) (slice_index orders.last op)
  pub waiting : AreWaiting circuit actions (length circuit.ops) orders.waiting
