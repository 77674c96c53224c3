-- The library's names and gates, one at a time.
use Rattle.std.proofs.Common.{◌≡◌, ℕ, zero, suc, ◌+◌, ◌<◌, List, [], ◌∷◌, ◌++◌, length, map, take, drop, slice_get, Bool, true, false, Option, Some, None, All, refl, ap, sym, ◌∙◌, subst, arith, inl, inr}
use Rattle.std.specs.Prelude.{◌&&◌, nat_lt, if◌then◌else◌}
use Rattle.std.specs.List.{list_all}
use Rattle.std.specs.Str.{bytes_eq}
use Rattle.std.proofs.lemmas.Bool.Decides.{nat_tests}
use Rattle.std.proofs.lemmas.Option.{slice_get_cases, slice_get-map}
use Rattle.std.proofs.lemmas.List.Elements.{All-cons}
use Rattle.std.proofs.lemmas.Bool.{false≢true}
use Rattle.gate_names.specs.declared.gate.Gate.{Gate}
use Rattle.gate_names.specs.declared.gate.Gate.TheVariants.{Universal, ControlledNot, Opaque, Body}
use Rattle.gate_names.specs.declared.gate.Item.{Item}
use Rattle.gate_names.specs.declared.gate.Item.TheVariants.{Call, Barrier}
use Rattle.gate_names.specs.GateOrder.{IsCallBelow, CallsBelow}
use Rattle.gate_names.specs.Library.{LibraryGate, library}
use Rattle.gate_names.specs.Terms.{position_from}
use Rattle.gate_names.proofs.Places.{drop_some}

-- ---- names

abbrev names : List LibraryGate → List (List ℕ)
names rows = map (λ entry. entry.name) rows

drop_names : (rows : List LibraryGate) (k : ℕ) (row : LibraryGate) → slice_get rows k ≡ Some row → drop k (names rows) ≡ row.name ∷ drop (k + 1) (names rows)
drop_names rows k row h =
    drop_some (names rows) k row.name (slice_get-map (λ (entry : LibraryGate). entry.name) rows k ∙ (λ i. name_of (h i)))
  where
    name_of : Option LibraryGate → Option (List ℕ)
    name_of (Some r) = Some r.name
    name_of None = None

module _ (rows : List LibraryGate) (k : ℕ) (row : LibraryGate) (name : List ℕ) where
  pub named_here : slice_get rows k ≡ Some row → bytes_eq name row.name ≡ true → position_from k (drop k (map (λ entry. entry.name) rows)) name ≡ Some k
  named_here h e = ap (λ (l : List (List ℕ)). position_from k l name) (drop_names rows k row h)
      ∙ ap (λ (b : Bool). if b then Some k else position_from (k + 1) (drop (k + 1) (names rows)) name) e

  pub named_later : slice_get rows k ≡ Some row → bytes_eq name row.name ≡ false
      → position_from (k + 1) (drop (k + 1) (map (λ entry. entry.name) rows)) name ≡ position_from k (drop k (map (λ entry. entry.name) rows)) name
  named_later h e = sym (ap (λ (l : List (List ℕ)). position_from k l name) (drop_names rows k row h)
      ∙ ap (λ (b : Bool). if b then Some k else position_from (k + 1) (drop (k + 1) (names rows)) name) e)

-- ---- calls of earlier gates

abbrev is_below : ℕ → Item → Bool
is_below bound (Call gate params qubits) = nat_lt gate bound
is_below bound (Barrier qubits) = true

abbrev calls_below : ℕ → Gate → Bool
calls_below bound Universal = true
calls_below bound ControlledNot = true
calls_below bound (Opaque name params qubits) = true
calls_below bound (Body params qubits items) = list_all (is_below bound) items

abbrev all_below : ℕ → List LibraryGate → Bool
all_below bound [] = true
all_below bound (row ∷ rows) = calls_below bound row.gate && all_below (bound + 1) rows

library_below : all_below 2 library ≡ true
library_below = refl

and_left : (a b : Bool) → (a && b) ≡ true → a ≡ true
and_left true b h = refl
and_left false b h = h

and_right : (a b : Bool) → (a && b) ≡ true → b ≡ true
and_right true b h = h
and_right false b h = absurd (false≢true h)

item_below : (bound : ℕ) (item : Item) → is_below bound item ≡ true → IsCallBelow bound item
item_below bound (Call gate params qubits) h = grind (arith, nat_tests)
item_below bound (Barrier qubits) h = tt

items_below : (bound : ℕ) (items : List Item) → list_all (is_below bound) items ≡ true → All (IsCallBelow bound) items
items_below bound [] h = λ k d inside. absurd (omega arith)
items_below bound (item ∷ items) h =
    All-cons (IsCallBelow bound) item items (item_below bound item (and_left (is_below bound item) (list_all (is_below bound) items) h))
    (items_below bound items (and_right (is_below bound item) (list_all (is_below bound) items) h))

gate_below : (bound : ℕ) (gate : Gate) → calls_below bound gate ≡ true → CallsBelow bound gate
gate_below bound Universal h = tt
gate_below bound ControlledNot h = tt
gate_below bound (Opaque name params qubits) h = tt
gate_below bound (Body params qubits items) h = items_below bound items h

row_below : (rows : List LibraryGate) (bound k : ℕ) (row : LibraryGate) → all_below bound rows ≡ true → slice_get rows k ≡ Some row → CallsBelow (bound + k) row.gate
row_below [] bound k row h e = let clash : None ≡ Some row = e in absurd (cc)
row_below (first ∷ rows) bound zero row h e =
    let same : first ≡ row = cc in
    let here : bound ≡ bound + 0 = omega arith in
    subst (λ (r : LibraryGate). CallsBelow (bound + 0) r.gate) same
    (subst (λ (n : ℕ). CallsBelow n first.gate) here (gate_below bound first.gate (and_left (calls_below bound first.gate) (all_below (bound + 1) rows) h)))
row_below (first ∷ rows) bound (suc k) row h e =
    let further : (bound + 1) + k ≡ bound + suc k = omega arith in
    subst (λ (n : ℕ). CallsBelow n row.gate) further (row_below rows (bound + 1) k row (and_right (calls_below bound first.gate) (all_below (bound + 1) rows) h) e)

-- a gate of the library calls gates of lower numbers
pub library_row_below : (k : ℕ) (row : LibraryGate) (bound : ℕ) → slice_get library k ≡ Some row → bound ≡ 2 + k → CallsBelow bound row.gate
library_row_below k row bound e n = subst (λ (m : ℕ). CallsBelow m row.gate) (sym n) (row_below library 2 k row library_below e)

-- a gate more
pub gates_more : (rows : List LibraryGate) (k : ℕ) (row : LibraryGate) → slice_get rows k ≡ Some row
    → map (λ entry. entry.gate) (take (k + 1) rows) ≡ map (λ entry. entry.gate) (take k rows) ++ row.gate ∷ []
gates_more [] k row e = let clash : None ≡ Some row = e in absurd (cc)
gates_more (first ∷ rows) zero row e = let same : first ≡ row = cc in ap (λ (r : LibraryGate). r.gate ∷ []) same
gates_more (first ∷ rows) (suc k) row e =
    let further : suc k + 1 ≡ suc (k + 1) = omega arith in
    ap (λ (n : ℕ). map (λ (entry : LibraryGate). entry.gate) (take n (first ∷ rows))) further ∙ ap (λ (l : List Gate). first.gate ∷ l) (gates_more rows k row e)

rows_length : (rows : List LibraryGate) (k : ℕ) (row : LibraryGate) → slice_get rows k ≡ Some row → length (map (λ entry. entry.gate) (take k rows)) ≡ k
rows_length [] k row e = let clash : None ≡ Some row = e in absurd (cc)
rows_length (first ∷ rows) zero row e = refl
rows_length (first ∷ rows) (suc k) row e = ap suc (rows_length rows k row e)

module _ (rows : List LibraryGate) (k : ℕ) (row : LibraryGate) (gates : List Gate) where
  -- the gates before a row
  pub front_length : slice_get rows k ≡ Some row → gates ≡ Universal ∷ ControlledNot ∷ map (λ entry. entry.gate) (take k rows) → length gates ≡ 2 + k
  front_length e h =
      let n : length gates ≡ suc (suc (length (map (λ (entry : LibraryGate). entry.gate) (take k rows)))) = ap length h in
      let m = rows_length rows k row e in omega arith

  -- and that row's gate
  pub front_more : (now : List Gate) (gate : Gate) → slice_get rows k ≡ Some row
      → gates ≡ Universal ∷ ControlledNot ∷ map (λ entry. entry.gate) (take k rows) → gate ≡ row.gate → now ≡ gates ++ gate ∷ []
      → now ≡ Universal ∷ ControlledNot ∷ map (λ entry. entry.gate) (take (k + 1) rows)
  front_more now gate e h g n =
      n ∙ (λ i. h i ++ g i ∷ []) ∙ ap (λ (l : List Gate). Universal ∷ ControlledNot ∷ l) (sym (gates_more rows k row e))

-- a place below the length has a member
pub within : {X : Type 0} (xs : List X) (k : ℕ) → slice_get xs k ≡ None → k < length xs → ⊥
within xs k none inside = elim (slice_get_cases xs k).1 [
  | inl w ↦ (let clash : None ≡ Some w.0 = sym none ∙ w.2 in absurd (cc))
  | inr w ↦ omega (arith, w.0)
]
