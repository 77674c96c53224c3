-- One visit after another.
use Rattle.std.proofs.Common.{◌≡◌, ◌≢◌, ℕ, zero, suc, ◌+◌, ◌<◌, ◌≤◌, true, List, [], ◌∷◌, length, get_or, sym, ap, subst, ◌∙◌, inl, inr, arith, length-append}
use Rattle.std.specs.Prelude.{slice_index, slice_index_or, Contains}
use Rattle.std.proofs.lemmas.Bool.{cases_eq, false≢true}
use Rattle.std.proofs.lemmas.List.{get_or_append_left, get_or_default}
use Rattle.std.proofs.lemmas.List.Elements.{Contains-get_or}
use Rattle.qc_base.specs.declared.ids.OpId.{OpId}
use Rattle.circuit_core.specs.Circuit.{CircuitValue}
use Rattle.gate_order.specs.declared.progress.Progress.{Progress}
use Rattle.gate_order.specs.Keeping.{op, row, near_at, is_set, IsStateOf, IsKept, IsBlocked, IsVisiting, IsVisited, AreAfter}
use Rattle.gate_order.proofs.Flags.{set_within}

abbrev none : List ℕ
none = []

abbrev Table : Type 0
Table = List (List OpId)

-- a settled operation is set
set_at : (circuit : CircuitValue) (near : Table) (p : Progress) (j : ℕ) → IsStateOf circuit near p → j < length p.settled.items → is_set p.flags.items (slice_index_or p.settled.items j (op 0)).0 ≡ true
set_at circuit near p j state within = state.base.settled_set (get_or p.settled.items j (op 0)).0 (Contains-get_or p.settled.items j (op 0) within)

-- what was settled before a visit stays so
pub settled_stays : (circuit : CircuitValue) (near : Table) (number j : ℕ) (old new : Progress) → IsVisited circuit near number old new → j < length old.settled.items → slice_index_or new.settled.items j (op 0) ≡ slice_index_or old.settled.items j (op 0)
settled_stays circuit near number j old new visited within = elim visited.grown [
  | inl same ↦ ap (λ (l : List OpId). get_or l j (op 0)) same
  | inr more ↦ ap (λ (l : List OpId). get_or l j (op 0)) more ∙ get_or_append_left old.settled.items (op number ∷ []) (op 0) j within
]

pub settled_longer : (circuit : CircuitValue) (near : Table) (number : ℕ) (old new : Progress) → IsVisited circuit near number old new → length old.settled.items ≤ length new.settled.items
settled_longer circuit near number old new visited = elim visited.grown [
  | inl same ↦ omega (arith, ap (λ (l : List OpId). length l) same)
  | inr more ↦ omega (arith, ap (λ (l : List OpId). length l) more, length-append old.settled.items (op number ∷ []))
]

tail_has : (number x : ℕ) (rest : List ℕ) → number ≢ x → Contains (x ∷ rest) number → Contains rest number
tail_has number x rest ne (zero, within, is) = absurd (ne (sym is))
tail_has number x rest ne (suc k, within, is) = (k, (omega arith), is)

pub visiting_more : (circuit : CircuitValue) (near : Table) (number head current : ℕ) (rest : List ℕ) (old new : Progress) → IsStateOf circuit near old → IsVisited circuit near number old new → head < length old.settled.items
    → (slice_index_or old.settled.items head (op 0)).0 ≡ current → IsVisiting near old head current (number ∷ rest) → IsVisiting near new head current rest
visiting_more circuit near number head current rest old new state visited some is_current visiting = record {
  blocked = λ other j known waits before. elim (cases_eq other number) [
    | inl here ↦ (let in_settled : j < length old.settled.items = omega (arith, before, some) in
        λ same. unset_at j in_settled (subst (λ i. slice_index new.seen.items i < length (row near i)) here waits) (sym (ap (λ (it : OpId). it.0) (settled_stays circuit near number j old new visited in_settled)) ∙ same ∙ ap (λ i. near_at near i (slice_index new.seen.items i)) here))
    | inr ne ↦ (let seen = visited.others other ne in
        let in_settled : j < length old.settled.items = omega (arith, before, some) in
        λ same. visiting.blocked other j known (subst (λ i. i < length (row near other)) seen waits) before
        (sym (ap (λ (it : OpId). it.0) (settled_stays circuit near number j old new visited in_settled)) ∙ same ∙ ap (λ i. near_at near other i) seen))
  ];
  next = λ other known waits is_next. elim (cases_eq other number) [
    | inl here ↦ absurd (unset_at head some (subst (λ i. slice_index new.seen.items i < length (row near i)) here waits) (is_current ∙ sym is_next ∙ ap (λ i. near_at near i (slice_index new.seen.items i)) here))
    | inr ne ↦ (let seen = visited.others other ne in
        tail_has other number rest ne (visiting.next other known (subst (λ i. i < length (row near other)) seen waits) (sym (ap (λ i. near_at near other i) seen) ∙ is_next)))
  ];
} where
  unset_at : (j : ℕ) → j < length old.settled.items → slice_index new.seen.items number < length (row near number) → (slice_index_or old.settled.items j (op 0)).0 ≡ near_at near number (slice_index new.seen.items number) → ⊥
  unset_at j within waits same = false≢true (sym (visited.here waits) ∙ ap (λ k. is_set old.flags.items k) (sym same) ∙ set_at circuit near old j state within)

-- the visits of a row begin
pub visiting_start : (near : Table) (after : List (List ℕ)) (head current : ℕ) (p : Progress) → AreAfter near (length near) after → IsBlocked near p head → IsVisiting near p head current (slice_index_or after current [])
visiting_start near after head current p follows blocked = record {
  blocked = blocked;
  next = λ number known waits is_next. subst (λ k. Contains (get_or after k []) number) is_next (follows.all number (slice_index p.seen.items number) known waits);
}

-- and end
pub visiting_end : (near : Table) (head current : ℕ) (p : Progress) → (slice_index_or p.settled.items head (op 0)).0 ≡ current → IsVisiting near p head current [] → IsBlocked near p (head + 1)
visiting_end near head current p is_current visiting number j known waits below = elim (cases_eq j head) [
  | inl here ↦ (λ same. nothing number (visiting.next number known waits (sym same ∙ ap (λ i. (slice_index_or p.settled.items i (op 0)).0) here ∙ is_current)))
  | inr other ↦ visiting.blocked number j known waits (omega arith)
] where
  nothing : (number : ℕ) → Contains (none) number → ⊥
  nothing number (k, within, is) = omega (arith, within)

-- ---- the row of a settled operation, as a function read it

read_op : (p : Progress) (head : ℕ) (it : OpId) → head < length p.settled.items → it ≡ slice_index_or p.settled.items head it → it.0 ≡ (slice_index_or p.settled.items head (op 0)).0
read_op p head it within read = ap (λ (o : OpId). o.0) (read ∙ get_or_default p.settled.items head it (op 0) within)

pub read_within : (circuit : CircuitValue) (near : Table) (after : List (List ℕ)) (p : Progress) (head : ℕ) (it : OpId) → IsKept circuit near p → AreAfter near (length near) after → head < length p.settled.items
    → it ≡ slice_index_or p.settled.items head it → it.0 < length after
read_within circuit near after p head it kept follows within read =
    omega (arith, read_op p head it within read, set_within p.flags.items (slice_index_or p.settled.items head (op 0)).0 (set_at circuit near p head kept.state within), kept.all, follows.len)

pub read_row : (circuit : CircuitValue) (near : Table) (after : List (List ℕ)) (p : Progress) (head : ℕ) (it : OpId) (list items : List ℕ) → IsKept circuit near p → AreAfter near (length near) after
    → head < length p.settled.items → it ≡ slice_index_or p.settled.items head it → list ≡ slice_index_or after it.0 list → items ≡ list → items ≡ slice_index_or after (slice_index_or p.settled.items head (op 0)).0 []
read_row circuit near after p head it list items kept follows within read read_list same =
    same ∙ read_list ∙ get_or_default after it.0 list [] (read_within circuit near after p head it kept follows within read) ∙ ap (λ k. get_or after k []) (read_op p head it within read)

-- one of the row is an operation
pub row_known : (near : Table) (after : List (List ℕ)) (current k : ℕ) (items : List ℕ) → AreAfter near (length near) after → items ≡ slice_index_or after current [] → k < length items → slice_index items k < length near
row_known near after current k items follows is_row within =
    follows.sound current (slice_index items k) (subst (λ (l : List ℕ). Contains l (slice_index items k)) is_row (Contains-get_or items k 0 within))
