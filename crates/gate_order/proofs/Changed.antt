-- What a visit leaves, and what the end of an operation leaves.
use Rattle.std.proofs.Common.{◌≡◌, ◌≢◌, ℕ, ◌<◌, ◌≤◌, Bool, true, false, List, [], ◌∷◌, ◌++◌, length, get_or, refl, sym, ap, subst, ◌∙◌, inl, inr, arith}
use Rattle.std.specs.Prelude.{slice_index, slice_index_or, slice_get, Some, vec_capacity}
use Rattle.std.specs.Vec.{with_item}
use Rattle.std.proofs.Math.ListN.{set, length-set}
use Rattle.std.proofs.lemmas.Bool.{cases_Bool, cond-true, cond-false}
use Rattle.std.proofs.lemmas.List.{get_or_append_left, get_or_at, get_or_default, append-nil}
use Rattle.std.proofs.lemmas.List.Elements.{filter-append}
use Rattle.std.proofs.lemmas.Option.{get_or_from_slice_get}
use Rattle.qc_base.specs.declared.ids.OpId.{OpId}
use Rattle.circuit_core.specs.Circuit.{CircuitValue}
use Rattle.circuit_core.specs.Order.{is_performed}
use Rattle.gate_order.specs.declared.progress.Progress.{Progress}
use Rattle.gate_order.specs.Ready.{IsAmong}
use Rattle.gate_order.specs.Keeping.{op, row, near_at, is_set, IsFull, IsOpen, IsStateOf, IsStateButOf, IsFront, IsKept, IsBlocked, IsVisited, done_in}
use Rattle.gate_order.specs.Changes.{Settles, Puts, Takes}
use Rattle.gate_order.proofs.States.{more_state, seen_same, seen_other, advanced, still_open, settled_state, ready_state, taken_state, settled_room, ready_room}

abbrev Table : Type 0
Table = List (List OpId)

-- after a change, as a record of lists
pub settled_of : (circuit : CircuitValue) (near : Table) (x : ℕ) (old new : Progress) → IsStateButOf circuit near old x → IsFull near old.seen.items x → Settles (op x) old new → IsStateOf circuit near new
settled_of circuit near x old new but full is =
    rw (is.seen, is.flags, is.settled, is.ready) (settled_state circuit near old.seen.items old.flags.items old.settled.items old.ready.items x but full)

pub put_of : (circuit : CircuitValue) (near : Table) (x : ℕ) (old new : Progress) → IsStateButOf circuit near old x → IsFull near old.seen.items x → is_performed circuit x ≡ true → Puts (op x) old new → IsStateOf circuit near new
put_of circuit near x old new but full performed is =
    rw (is.seen, is.flags, is.settled, is.ready) (ready_state circuit near old.seen.items old.flags.items old.settled.items old.ready.items x is.place but full performed is.is_place)

pub taken_of : (circuit : CircuitValue) (near : Table) (x : ℕ) (old new : Progress) → IsStateOf circuit near old → IsOpen circuit near old.seen.items old.flags.items x → Takes (op x) old new → IsStateButOf circuit near new x
taken_of circuit near x old new state is_open is =
    rw (is.seen, is.flags, is.settled, is.ready) (taken_state circuit near old.seen.items old.flags.items old.settled.items old.ready.items x is.place state is_open is.within (ap (λ (it : OpId). it.0) (is.is (op 0))))

-- a barrier more changes nothing of what is done
pub done_barrier : (circuit : CircuitValue) (settled : List OpId) (x : ℕ) → is_performed circuit x ≡ false → done_in circuit (settled ++ op x ∷ []) ≡ done_in circuit settled
done_barrier circuit settled x barrier =
    filter-append (λ (it : OpId). is_performed circuit it.0) settled (op x ∷ []) ∙ ap (λ (l : List OpId). done_in circuit settled ++ l) (cond-false (is_performed circuit x) (op x ∷ []) [] barrier) ∙ append-nil (done_in circuit settled)

-- another operation is done
pub done_more : (circuit : CircuitValue) (settled : List OpId) (x : ℕ) → is_performed circuit x ≡ true → done_in circuit (settled ++ op x ∷ []) ≡ done_in circuit settled ++ op x ∷ []
done_more circuit settled x performed =
    filter-append (λ (it : OpId). is_performed circuit it.0) settled (op x ∷ []) ∙ ap (λ (l : List OpId). done_in circuit settled ++ l) (cond-true (is_performed circuit x) (op x ∷ []) [] performed)

-- ---- an operation more is known

pub more_of : (circuit : CircuitValue) (near : Table) (x : ℕ) (old new : Progress) → IsStateOf circuit near old → x ≡ length old.flags.items → x < length near → new.seen.items ≡ old.seen.items ++ 0 ∷ []
    → new.flags.items ≡ old.flags.items ++ false ∷ [] → new.settled.items ≡ old.settled.items → new.ready.items ≡ old.ready.items → IsStateButOf circuit near new x
more_of circuit near x old new state next within seen flags settled ready =
    rw (seen, flags, settled, ready) (more_state circuit near old.seen.items old.flags.items old.settled.items old.ready.items x state next within)

-- nothing was seen of it
pub seen_none : (circuit : CircuitValue) (near : Table) (x : ℕ) (old new : Progress) → IsStateOf circuit near old → x ≡ length old.flags.items → new.seen.items ≡ old.seen.items ++ 0 ∷ [] → slice_index new.seen.items x ≡ 0
seen_none circuit near x old new state next seen =
    ap (λ (l : List ℕ). slice_index l x) seen ∙ get_or_at old.seen.items 0 [] 0 x (state.base.len ∙ sym next)

-- ---- a visit

-- more is seen of what the operation waits for
pub record Advances (near : Table) (x passed : ℕ) (old new : Progress) : Type 0 where
  pub seen : new.seen.items ≡ set old.seen.items x passed
  pub flags : new.flags.items ≡ old.flags.items
  pub settled : new.settled.items ≡ old.settled.items
  pub ready : new.ready.items ≡ old.ready.items
  pub settled_room : vec_capacity new.settled ≡ vec_capacity old.settled
  pub ready_room : vec_capacity new.ready ≡ vec_capacity old.ready
  pub front : IsFront old.flags.items (row near x) (slice_index old.seen.items x) passed
  pub lacking : slice_index old.seen.items x < length (row near x)

known_of : (circuit : CircuitValue) (near : Table) (x : ℕ) (p : Progress) → IsKept circuit near p → x < length near → x < length p.seen.items
known_of circuit near x p kept within = omega (arith, within, kept.state.base.len, kept.all)

pub advanced_of : (circuit : CircuitValue) (near : Table) (x front : ℕ) (old new : Progress) → IsKept circuit near old → x < length near → Advances near x front old new → IsStateButOf circuit near new x
advanced_of circuit near x front old new kept within is =
    rw (is.seen, is.flags, is.settled, is.ready)
    (advanced circuit near old.seen.items old.flags.items old.settled.items old.ready.items x front kept.state (known_of circuit near x old kept within) is.lacking is.front)

seen_of : (circuit : CircuitValue) (near : Table) (x front : ℕ) (old new : Progress) → IsKept circuit near old → x < length near → Advances near x front old new → slice_index new.seen.items x ≡ front
seen_of circuit near x front old new kept within is =
    ap (λ (l : List ℕ). slice_index l x) is.seen ∙ seen_same old.seen.items x front (known_of circuit near x old kept within)

others_of : (near : Table) (x front : ℕ) (old new : Progress) → Advances near x front old new → (other : ℕ) → other ≢ x → slice_index new.seen.items other ≡ slice_index old.seen.items other
others_of near x front old new is other ne = ap (λ (l : List ℕ). slice_index l other) is.seen ∙ seen_other old.seen.items x front other ne

-- all was seen before
pub visited_full : (circuit : CircuitValue) (near : Table) (x : ℕ) (p : Progress) → IsFull near p.seen.items x → IsVisited circuit near x p p
visited_full circuit near x p full = record { grown = inl refl; done = refl; others = λ other ne. refl; here = λ waits. absurd (omega (arith, waits, full)) }

-- it waits for another
pub waits_kept : (circuit : CircuitValue) (near : Table) (x front : ℕ) (old new : Progress) → IsKept circuit near old → x < length near → Advances near x front old new → front ≢ length (row near x) → IsKept circuit near new
waits_kept circuit near x front old new kept within is ne = record {
  table = kept.table;
  state = still_open circuit near new.seen.items new.flags.items new.settled.items new.ready.items x (advanced_of circuit near x front old new kept within is)
      (λ full. ne (sym (seen_of circuit near x front old new kept within is) ∙ full));
  all = ap (λ (l : List Bool). length l) is.flags ∙ kept.all;
  room = record { settled = omega (arith, kept.room.settled, is.settled_room); ready = omega (arith, kept.room.ready, is.ready_room) };
}

pub waits_visited : (circuit : CircuitValue) (near : Table) (x front : ℕ) (old new : Progress) → IsKept circuit near old → x < length near → Advances near x front old new → IsVisited circuit near x old new
waits_visited circuit near x front old new kept within is =
    let at_front : slice_index new.seen.items x ≡ front = seen_of circuit near x front old new kept within is in
    record {
      grown = inl is.settled;
      done = ap (λ (l : List OpId). done_in circuit l) is.settled;
      others = others_of near x front old new is;
      here = λ waits. ap (λ k. is_set old.flags.items (near_at near x k)) at_front ∙ is.front.stops (omega (arith, waits, at_front));
    }

-- it waits for none, and is a barrier
pub settles_kept : (circuit : CircuitValue) (near : Table) (x front : ℕ) (old mid new : Progress) → IsKept circuit near old → x < length near → Advances near x front old mid → front ≡ length (row near x) → Settles (op x) mid new
    → IsKept circuit near new
settles_kept circuit near x front old mid new kept within is full settles = record {
  table = kept.table;
  state = settled_of circuit near x mid new (advanced_of circuit near x front old mid kept within is) (seen_of circuit near x front old mid kept within is ∙ full) settles;
  all = ap (λ (l : List Bool). length l) settles.flags ∙ length-set mid.flags.items x true ∙ ap (λ (l : List Bool). length l) is.flags ∙ kept.all;
  room = record { settled = omega (arith, kept.room.settled, is.settled_room, settles.settled_room); ready = omega (arith, kept.room.ready, is.ready_room, settles.ready_room) };
}

pub settles_visited : (circuit : CircuitValue) (near : Table) (x front : ℕ) (old mid new : Progress) → IsKept circuit near old → x < length near → Advances near x front old mid → front ≡ length (row near x)
    → is_performed circuit x ≡ false → Settles (op x) mid new → IsVisited circuit near x old new
settles_visited circuit near x front old mid new kept within is full barrier settles =
    let more : new.settled.items ≡ old.settled.items ++ op x ∷ [] = settles.settled ∙ ap (λ (l : List OpId). l ++ op x ∷ []) is.settled in
    let at_front : slice_index new.seen.items x ≡ front = ap (λ (l : List ℕ). slice_index l x) settles.seen ∙ seen_of circuit near x front old mid kept within is in
    record {
      grown = inr more;
      done = ap (λ (l : List OpId). done_in circuit l) more ∙ done_barrier circuit old.settled.items x barrier;
      others = λ other ne. ap (λ (l : List ℕ). slice_index l other) settles.seen ∙ others_of near x front old mid is other ne;
      here = λ waits. absurd (omega (arith, waits, at_front, full));
    }

-- or is ready
pub puts_kept : (circuit : CircuitValue) (near : Table) (x front : ℕ) (old mid new : Progress) → IsKept circuit near old → x < length near → Advances near x front old mid → front ≡ length (row near x)
    → is_performed circuit x ≡ true → Puts (op x) mid new → IsKept circuit near new
puts_kept circuit near x front old mid new kept within is full performed puts = record {
  table = kept.table;
  state = put_of circuit near x mid new (advanced_of circuit near x front old mid kept within is) (seen_of circuit near x front old mid kept within is ∙ full) performed puts;
  all = ap (λ (l : List Bool). length l) puts.flags ∙ ap (λ (l : List Bool). length l) is.flags ∙ kept.all;
  room = record { settled = omega (arith, kept.room.settled, is.settled_room, puts.settled_room); ready = omega (arith, kept.room.ready, is.ready_room, puts.ready_room) };
}

pub puts_visited : (circuit : CircuitValue) (near : Table) (x front : ℕ) (old mid new : Progress) → IsKept circuit near old → x < length near → Advances near x front old mid → front ≡ length (row near x) → Puts (op x) mid new
    → IsVisited circuit near x old new
puts_visited circuit near x front old mid new kept within is full puts =
    let same : new.settled.items ≡ old.settled.items = puts.settled ∙ is.settled in
    let at_front : slice_index new.seen.items x ≡ front = ap (λ (l : List ℕ). slice_index l x) puts.seen ∙ seen_of circuit near x front old mid kept within is in
    record {
      grown = inl same;
      done = ap (λ (l : List OpId). done_in circuit l) same;
      others = λ other ne. ap (λ (l : List ℕ). slice_index l other) puts.seen ∙ others_of near x front old mid is other ne;
      here = λ waits. absurd (omega (arith, waits, at_front, full));
    }

-- ---- an operation is done

pub finished_kept : (circuit : CircuitValue) (near : Table) (x : ℕ) (old mid new : Progress) → IsKept circuit near old → IsAmong old.ready.items x → Takes (op x) old mid → Settles (op x) mid new → IsKept circuit near new
finished_kept circuit near x old mid new kept among takes settles =
    let open_at = kept.state.base.ready_open x among in
    record {
      table = kept.table;
      state = settled_of circuit near x mid new (taken_of circuit near x old mid kept.state open_at takes) (ap (λ (l : List ℕ). slice_index l x) takes.seen ∙ open_at.full) settles;
      all = ap (λ (l : List Bool). length l) settles.flags ∙ length-set mid.flags.items x true ∙ ap (λ (l : List Bool). length l) takes.flags ∙ kept.all;
      room = record { settled = omega (arith, kept.room.settled, takes.settled_room, settles.settled_room); ready = omega (arith, kept.room.ready, takes.ready_room, settles.ready_room) };
    }

-- there is room for it among the settled ones
pub finish_room : (circuit : CircuitValue) (near : Table) (x : ℕ) (old mid : Progress) → IsKept circuit near old → IsAmong old.ready.items x → Takes (op x) old mid → length mid.settled.items < vec_capacity mid.settled
finish_room circuit near x old mid kept among takes =
    let but = taken_of circuit near x old mid kept.state (kept.state.base.ready_open x among) takes in
    omega (arith, settled_room circuit near mid.seen.items mid.flags.items mid.settled.items mid.ready.items x but, kept.room.settled, takes.settled_room)

pub finished_blocked : (near : Table) (x : ℕ) (old mid new : Progress) → IsBlocked near old (length old.settled.items) → Takes (op x) old mid → Settles (op x) mid new → IsBlocked near new (length old.settled.items)
finished_blocked near x old mid new blocked takes settles number j known waits before same =
    let seen : slice_index new.seen.items number ≡ slice_index old.seen.items number = ap (λ (l : List ℕ). slice_index l number) (settles.seen ∙ takes.seen) in
    let was : slice_index_or new.settled.items j (op 0) ≡ slice_index_or old.settled.items j (op 0) =
    ap (λ (l : List OpId). get_or l j (op 0)) (settles.settled ∙ ap (λ (l : List OpId). l ++ op x ∷ []) takes.settled) ∙ get_or_append_left old.settled.items (op x ∷ []) (op 0) j before in
    blocked number j known (omega (arith, waits, seen)) before (sym (ap (λ (it : OpId). it.0) was) ∙ same ∙ ap (λ i. near_at near number i) seen)

pub finished_done : (circuit : CircuitValue) (x : ℕ) (old mid new : Progress) → is_performed circuit x ≡ true → Takes (op x) old mid → Settles (op x) mid new → done_in circuit new.settled.items ≡ done_in circuit old.settled.items ++ op x ∷ []
finished_done circuit x old mid new performed takes settles =
    ap (λ (l : List OpId). done_in circuit l) (settles.settled ∙ ap (λ (l : List OpId). l ++ op x ∷ []) takes.settled) ∙ done_more circuit old.settled.items x performed

-- ---- an operation more is known, and is settled or ready at once

-- nothing comes right before it
pub row_empty : (near : Table) (x : ℕ) (list : List OpId) → slice_get near x ≡ Some list → length list ≡ 0 → length (row near x) ≡ 0
row_empty near x list at none = ap (λ (l : List OpId). length l) (get_or_from_slice_get near x list [] at) ∙ none

-- something does
pub row_some : (near : Table) (x : ℕ) (list : List OpId) → slice_get near x ≡ Some list → length list ≢ 0 → length (row near x) ≢ 0
row_some near x list at some = λ none. some (sym (ap (λ (l : List OpId). length l) (get_or_from_slice_get near x list [] at)) ∙ none)

-- ---- what is seen rises, as a function found it

-- so much is seen
abbrev pub with_seen : Progress → ℕ → ℕ → Progress
with_seen p x passed = record { seen = with_item p.seen x passed; flags = p.flags; settled = p.settled; ready = p.ready }

pub advances : (circuit : CircuitValue) (near : Table) (x passed seen : ℕ) (list : List OpId) (flags : List Bool) (old : Progress) → IsKept circuit near old → x < length near → slice_get near x ≡ Some list
    → IsFront flags list seen passed → flags ≡ old.flags.items → seen ≡ slice_index_or old.seen.items x seen → seen ≢ length list → Advances near x passed old (with_seen old x passed)
advances circuit near x passed seen list flags old kept within at front same_flags read ne =
    let is_row : row near x ≡ list = get_or_from_slice_get near x list [] at in
    let same_seen : seen ≡ slice_index old.seen.items x = read ∙ get_or_default old.seen.items x seen 0 (known_of circuit near x old kept within) in
    let short : slice_index old.seen.items x ≤ length (row near x) = kept.state.base.short x (known_of circuit near x old kept within) in
    record {
      seen = refl;
      flags = refl;
      settled = refl;
      ready = refl;
      settled_room = refl;
      ready_room = refl;
      front = subst (λ (l : List OpId). IsFront old.flags.items l (slice_index old.seen.items x) passed) (sym is_row)
          (subst (λ (f : List Bool). IsFront f list (slice_index old.seen.items x) passed) same_flags (subst (λ s. IsFront flags list s passed) same_seen front));
      lacking = omega (arith, ne, short, same_seen, ap (λ (l : List OpId). length l) is_row);
    }

-- there is room for it among the settled and the ready ones
pub arrive_settled : (circuit : CircuitValue) (near : Table) (x passed : ℕ) (old new : Progress) → IsKept circuit near old → x < length near → Advances near x passed old new → length new.settled.items < vec_capacity new.settled
arrive_settled circuit near x passed old new kept within is =
    omega (arith, settled_room circuit near new.seen.items new.flags.items new.settled.items new.ready.items x (advanced_of circuit near x passed old new kept within is), kept.room.settled, is.settled_room)

pub arrive_ready : (circuit : CircuitValue) (near : Table) (x passed : ℕ) (old new : Progress) → IsKept circuit near old → x < length near → Advances near x passed old new → length new.ready.items < vec_capacity new.ready
arrive_ready circuit near x passed old new kept within is =
    omega (arith, ready_room circuit near new.seen.items new.flags.items new.settled.items new.ready.items x (advanced_of circuit near x passed old new kept within is), kept.room.ready, is.ready_room)

-- a barrier or another
pub arrives_kept : (circuit : CircuitValue) (near : Table) (x passed : ℕ) (old mid new : Progress) → IsKept circuit near old → x < length near → Advances near x passed old mid → passed ≡ length (row near x)
    → (is_performed circuit x ≡ false → Settles (op x) mid new) → (is_performed circuit x ≡ true → Puts (op x) mid new) → IsKept circuit near new
arrives_kept circuit near x passed old mid new kept within is full barrier performed = elim (cases_Bool (is_performed circuit x)) [
  | inl is_performed_here ↦ puts_kept circuit near x passed old mid new kept within is full is_performed_here (performed is_performed_here)
  | inr is_barrier_here ↦ settles_kept circuit near x passed old mid new kept within is full (barrier is_barrier_here)
]

pub arrives_visited : (circuit : CircuitValue) (near : Table) (x passed : ℕ) (old mid new : Progress) → IsKept circuit near old → x < length near → Advances near x passed old mid → passed ≡ length (row near x)
    → (is_performed circuit x ≡ false → Settles (op x) mid new) → (is_performed circuit x ≡ true → Puts (op x) mid new) → IsVisited circuit near x old new
arrives_visited circuit near x passed old mid new kept within is full barrier performed = elim (cases_Bool (is_performed circuit x)) [
  | inl is_performed_here ↦ puts_visited circuit near x passed old mid new kept within is full (performed is_performed_here)
  | inr is_barrier_here ↦ settles_visited circuit near x passed old mid new kept within is full is_barrier_here (barrier is_barrier_here)
]
