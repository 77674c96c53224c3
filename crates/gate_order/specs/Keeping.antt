-- Working notions of private functions: which operations are settled.
use Rattle.std.specs.Prelude.{◌≡◌, ◌≢◌, ℕ, ◌<◌, ◌≤◌, ◌⊎◌, Bool, true, false, List, [], ◌∷◌, ◌++◌, length, slice_index, slice_index_or, filter, count_by, Contains, All, AllPairs, vec_capacity}
use Rattle.qc_base.specs.declared.ids.OpId.{OpId}
use Rattle.circuit_core.specs.Circuit.{CircuitValue}
use Rattle.circuit_core.specs.Nearest.{IsNearestTable}
use Rattle.circuit_core.specs.Order.{is_performed}
use Rattle.gate_order.specs.declared.progress.Progress.{Progress}
use Rattle.gate_order.specs.Ready.{IsAmong}

abbrev pub op : ℕ → OpId
op number = record { 0 = number }

-- the operations right before the operation of a number, and one of them
abbrev pub row : List (List OpId) → ℕ → List OpId
row near number = slice_index_or near number []

abbrev pub near_at : List (List OpId) → ℕ → ℕ → ℕ
near_at near number k = (slice_index_or (row near number) k (op 0)).0

-- the operation of the number is settled: it is done, or is a barrier before which all are done
abbrev pub is_set : List Bool → ℕ → Bool
is_set flags number = slice_index_or flags number false

-- all that come right before it were seen to be settled
abbrev pub IsFull : List (List OpId) → List ℕ → ℕ → Type 0
IsFull near seen number = slice_index seen number ≡ length (row near number)

-- it isn't done, and all before it are
pub record IsOpen (circuit : CircuitValue) (near : List (List OpId)) (seen : List ℕ) (flags : List Bool)
    (number : ℕ) : Type 0 where
  pub known : number < length seen
  pub full : IsFull near seen number
  pub performed : is_performed circuit number ≡ true
  pub waits : is_set flags number ≡ false

-- what holds throughout
pub record IsBase (circuit : CircuitValue) (near : List (List OpId)) (seen : List ℕ) (flags : List Bool)
    (settled ready : List OpId) : Type 0 where
  pub len : length seen ≡ length flags
  pub within : length flags ≤ length near
  pub counted : length settled ≡ count_by (λ (flag : Bool). flag) flags
  pub settled_set : (number : ℕ) → IsAmong settled number → is_set flags number ≡ true
  pub set_settled : (number : ℕ) → is_set flags number ≡ true → IsAmong settled number
  pub passed : (number k : ℕ) → number < length seen → k < slice_index seen number
      → is_set flags (near_at near number k) ≡ true
  pub short : (number : ℕ) → number < length seen → slice_index seen number ≤ length (row near number)
  pub set_full : (number : ℕ) → is_set flags number ≡ true → IsFull near seen number
  pub ready_open : (number : ℕ) → IsAmong ready number → IsOpen circuit near seen flags number
  pub ascending : AllPairs (λ (first second : OpId). first.0 < second.0) ready

-- all whose time has come are settled or ready, but for one
pub record IsStateBut (circuit : CircuitValue) (near : List (List OpId)) (seen : List ℕ)
    (flags : List Bool) (settled ready : List OpId) (but : ℕ) : Type 0 where
  pub base : IsBase circuit near seen flags settled ready
  pub out : ¬ IsAmong ready but
  pub unset : is_set flags but ≡ false
  pub known : but < length seen
  pub barriers : (number : ℕ) → number ≢ but → number < length seen → IsFull near seen number
      → is_performed circuit number ≡ false → is_set flags number ≡ true
  pub open_ready : (number : ℕ) → number ≢ but → IsOpen circuit near seen flags number → IsAmong ready number

-- all whose time has come are settled or ready
pub record IsState (circuit : CircuitValue) (near : List (List OpId)) (seen : List ℕ) (flags : List Bool)
    (settled ready : List OpId) : Type 0 where
  pub base : IsBase circuit near seen flags settled ready
  pub barriers : (number : ℕ) → number < length seen → IsFull near seen number
      → is_performed circuit number ≡ false → is_set flags number ≡ true
  pub open_ready : (number : ℕ) → IsOpen circuit near seen flags number → IsAmong ready number

abbrev pub IsStateOf : CircuitValue → List (List OpId) → Progress → Type 0
IsStateOf circuit near p = IsState circuit near p.seen.items p.flags.items p.settled.items p.ready.items

abbrev pub IsStateButOf : CircuitValue → List (List OpId) → Progress → ℕ → Type 0
IsStateButOf circuit near p but = IsStateBut circuit near p.seen.items p.flags.items p.settled.items p.ready.items but

-- there is room for each operation
pub record HasRoom (near : List (List OpId)) (p : Progress) : Type 0 where
  pub settled : length near ≤ vec_capacity p.settled
  pub ready : length near ≤ vec_capacity p.ready

-- a state of all operations
pub record IsKept (circuit : CircuitValue) (near : List (List OpId)) (p : Progress) : Type 0 where
  pub table : IsNearestTable circuit near
  pub state : IsStateOf circuit near p
  pub all : length p.flags.items ≡ length near
  pub room : HasRoom near p

-- what an operation waits for isn't among so many of the settled ones
abbrev pub IsBlocked : List (List OpId) → Progress → ℕ → Type 0
IsBlocked near p head =
    (number j : ℕ) → number < length near → slice_index p.seen.items number < length (row near number)
    → j < head
    → (slice_index_or p.settled.items j (op 0)).0 ≢ near_at near number (slice_index p.seen.items number)

-- and where it is the next of them, the operation is one of these
pub record IsVisiting (near : List (List OpId)) (p : Progress) (head : ℕ) (current : ℕ)
    (rest : List ℕ) : Type 0 where
  pub blocked : IsBlocked near p head
  pub next : (number : ℕ) → number < length near → slice_index p.seen.items number < length (row near number)
      → near_at near number (slice_index p.seen.items number) ≡ current → Contains rest number

-- for each operation those that it comes right before, among the first so many
pub record AreAfter (near : List (List OpId)) (count : ℕ) (after : List (List ℕ)) : Type 0 where
  pub len : length after ≡ length near
  pub sound : (before number : ℕ) → Contains (slice_index_or after before []) number → number < length near
  pub all : (number k : ℕ) → number < count → k < length (row near number)
      → Contains (slice_index_or after (near_at near number k) []) number

-- each of them is below the number
abbrev pub AreBelow : ℕ → List OpId → Type 0
AreBelow count near = All (λ (it : OpId). it.0 < count) near

-- the number was added to the lists of the first so many of these
pub record AreAdded (near : List OpId) (count number : ℕ) (old new : List (List ℕ)) : Type 0 where
  pub len : length new ≡ length old
  pub sound : (before other : ℕ) → Contains (slice_index_or new before []) other
      → Contains (slice_index_or old before []) other ⊎ (other ≡ number)
  pub kept : (before other : ℕ) → Contains (slice_index_or old before []) other
      → Contains (slice_index_or new before []) other
  pub added : (k : ℕ) → k < count → Contains (slice_index_or new (slice_index_or near k (op 0)).0 []) number

-- what is known of the progress between calls
pub record IsSettledAll (circuit : CircuitValue) (near : List (List OpId)) (after : List (List ℕ))
    (p : Progress) : Type 0 where
  pub kept : IsKept circuit near p
  pub blocked : IsBlocked near p (length p.settled.items)
  pub follows : AreAfter near (length near) after

-- the operations that are done, among the settled ones
abbrev pub done_in : CircuitValue → List OpId → List OpId
done_in circuit settled = filter (λ (it : OpId). is_performed circuit it.0) settled

-- one operation was looked at, and perhaps settled as a barrier
pub record IsVisited (circuit : CircuitValue) (near : List (List OpId)) (number : ℕ)
    (old new : Progress) : Type 0 where
  pub grown : (new.settled.items ≡ old.settled.items) ⊎ (new.settled.items ≡ old.settled.items ++ op number ∷ [])
  pub done : done_in circuit new.settled.items ≡ done_in circuit old.settled.items
  pub others : (other : ℕ) → other ≢ number
      → slice_index new.seen.items other ≡ slice_index old.seen.items other
  pub here : slice_index new.seen.items number < length (row near number)
      → is_set old.flags.items (near_at near number (slice_index new.seen.items number)) ≡ false

-- the index of the first of these that isn't before the operation
pub record IsPlace (ready : List OpId) (it : OpId) (place : ℕ) : Type 0 where
  pub within : place ≤ length ready
  pub below : (k : ℕ) (d : OpId) → k < place → (slice_index_or ready k d).0 < it.0
  pub from : (d : OpId) → place < length ready → it.0 ≤ (slice_index_or ready place d).0

-- these from the one index up to the other are settled, and the next isn't
pub record IsFront (flags : List Bool) (near : List OpId) (seen front : ℕ) : Type 0 where
  pub more : seen ≤ front
  pub within : front ≤ length near
  pub passed : (k : ℕ) → seen ≤ k → k < front → is_set flags (slice_index_or near k (op 0)).0 ≡ true
  pub stops : front < length near → is_set flags (slice_index_or near front (op 0)).0 ≡ false
