-- Sets of literals as lists with a table of places.
use Rattle.std.proofs.Common.{◌≡◌, ◌≢◌, ℕ, zero, suc, ◌+◌, ◌*◌, ◌-◌, ◌<◌, ◌≤◌, Bool, true, false, not, cond, eqb, List, [], ◌∷◌, ◌++◌, ◌⊎◌, inl, inr, Some, length, get_or, set, refl, sym, ap, ◌∙◌, subst, arith, length-set, get_or-set_same, get_or-set_other}
use Rattle.std.specs.Prelude.{slice_get, slice_index, Vec, vec_len}
use Rattle.std.specs.declared.alloc.Global.{Global}
use Rattle.std.proofs.lemmas.Option.{same_Some, slice_get_within, slice_get-get_or, get_or_from_slice_get}
use Rattle.std.proofs.lemmas.Bool.{cases_eq, cases_lt, both_ways, not-true, not-false, eq-eqb, eqb-true}
use Rattle.sat_base.specs.Literal.{Literal}
use Rattle.sat_base.specs.Clauses.{Has}
use Rattle.sat_base.specs.LitSet.{AreDistinct, Loses, code_of, ArePlaced}

-- ---- codes

signs_same : (b c : Bool) (m n : ℕ) → 2 * m + cond b 0 1 ≡ 2 * n + cond c 0 1 → (m ≡ n) × (b ≡ c)
signs_same true true m n e = (omega arith, refl)
signs_same true false m n e = absurd (omega arith)
signs_same false true m n e = absurd (omega arith)
signs_same false false m n e = (omega arith, refl)

-- a code is of one literal
pub same_code : (a b : Literal) → code_of a ≡ code_of b → a ≡ b
same_code a b e = let p = signs_same a.positive b.positive a.var b.var e in rw (p.0, p.1) refl

-- ---- places

-- where a literal is
pub record Place (members : List Literal) (literal : Literal) : Type 0 where
  pub place : ℕ
  pub is : slice_get members place ≡ Some literal

pub place_in : (members : List Literal) (literal : Literal) → Has members literal → Place members literal
place_in [] literal has = absurd has
place_in (x ∷ members) literal (inl e) = record { place = 0; is = ap (λ (l : Literal). Some l) e }
place_in (x ∷ members) literal (inr has) = let p = place_in members literal has in record { place = suc p.place; is = p.is }

pub Has-at : (members : List Literal) (place : ℕ) (literal : Literal) → slice_get members place ≡ Some literal → Has members literal
Has-at [] place literal is = cc
Has-at (x ∷ members) zero literal is = inl (same_Some x literal is)
Has-at (x ∷ members) (suc place) literal is = inr (Has-at members place literal is)

-- what the table says of a literal that is in the set
pub found_at : (members : List Literal) (places : List ℕ) (literal : Literal) → ArePlaced members places → Has members literal → (code_of literal < length places) × (slice_get members (slice_index places (code_of literal)) ≡ Some literal)
found_at members places literal placed has =
    let p = place_in members literal has in
    (placed.within p.place literal p.is, rw (placed.at p.place literal p.is) p.is)

one_place : (members : List Literal) (places : List ℕ) (i j : ℕ) (literal : Literal) → ArePlaced members places → slice_get members i ≡ Some literal → slice_get members j ≡ Some literal → i ≡ j
one_place members places i j literal placed at again = sym (placed.at i literal at) ∙ placed.at j literal again

-- each literal is at one place
abbrev pub AreOnce : List Literal → Type 0
AreOnce members = (i j : ℕ) (literal : Literal) → slice_get members i ≡ Some literal → slice_get members j ≡ Some literal → i ≡ j

distinct_members : (members : List Literal) → AreOnce members → AreDistinct members
distinct_members [] once = tt
distinct_members (x ∷ members) once = (
  λ has. let p = place_in members x has in let e : 0 ≡ suc p.place = once 0 (suc p.place) x refl p.is in omega arith,
  distinct_members members (λ i j literal at again. let e : suc i ≡ suc j = once (suc i) (suc j) literal at again in omega arith),
)

pub AreDistinct-placed : (members : List Literal) (places : List ℕ) → ArePlaced members places → AreDistinct members
AreDistinct-placed members places placed = distinct_members members (λ i j literal. one_place members places i j literal placed)

-- ---- a literal more

get_below : (xs : List Literal) (k : ℕ) (x : Literal) (y : Literal) → slice_get (xs ++ y ∷ []) k ≡ Some x → (slice_get xs k ≡ Some x) ⊎ ((k ≡ length xs) × (y ≡ x))
get_below [] zero x y is = inr (refl, same_Some y x is)
get_below [] (suc k) x y is = absurd cc
get_below (a ∷ xs) zero x y is = inl is
get_below (a ∷ xs) (suc k) x y is = elim (get_below xs k x y is) [ inl h ↦ inl h | inr h ↦ inr (ap suc h.0, h.1) ]

pub placed_push : (members : List Literal) (places : List ℕ) (literal : Literal) → ArePlaced members places → (Has members literal → ⊥) → code_of literal < length places → ArePlaced (members ++ literal ∷ []) (set places (code_of literal) (length members))
placed_push members places literal placed new within = record {
  within = λ place other is.
      elim (get_below members place other literal is) [
        | inl h ↦ omega (arith, length-set {A = ℕ}, placed.within place other h)
        | inr h ↦ rw (length-set, ← h.1) within
      ];
  at = λ place other is.
      elim (get_below members place other literal is) [
        | inl h ↦
            let apart : code_of other ≢ code_of literal = λ e. new (Has-at members place literal (h ∙ ap (λ (l : Literal). Some l) (same_code other literal e))) in
            get_or-set_other places (code_of literal) (code_of other) (length members) 0 apart ∙ placed.at place other h
        | inr h ↦ rw (← h.1, h.0) (get_or-set_same places (code_of literal) (length members) 0 within)
      ];
}

-- ---- a literal less: the last one takes its place

pub record Moved (xs ys : List Literal) (place : ℕ) : Type 0 where
  pub len : length ys + 1 ≡ length xs
  pub moved : (d : Literal) → place + 1 < length xs → get_or ys place d ≡ get_or xs (length xs - 1) d
  pub same : (k : ℕ) (d : Literal) → k ≢ place → k + 1 < length xs → get_or ys k d ≡ get_or xs k d

-- where each literal of the new list was
was_at : (xs ys : List Literal) (place k : ℕ) (literal : Literal) → Moved xs ys place → place < length xs → slice_get ys k ≡ Some literal
    → ((k ≢ place) × (slice_get xs k ≡ Some literal)) ⊎ ((k ≡ place) × ((place + 1 < length xs) × (slice_get xs (length xs - 1) ≡ Some literal)))
was_at xs ys place k literal moved inside is =
    let within = slice_get_within ys k literal is in
    let value = get_or_from_slice_get ys k literal literal is in
    let len = moved.len in
    elim (cases_eq k place) [
      | inl e ↦
          let more : place + 1 < length xs = omega arith in
          let last = sym (moved.moved literal more) ∙ ap (λ (n : ℕ). get_or ys n literal) (sym e) ∙ value in
          inr (e, (more, slice_get-get_or xs (length xs - 1) literal (omega arith) ∙ ap (λ (l : Literal). Some l) last))
      | inr ne ↦
          let there = sym (moved.same k literal ne (omega arith)) ∙ value in
          inl (ne, slice_get-get_or xs k literal (omega arith) ∙ ap (λ (l : Literal). Some l) there)
    ]

-- each other literal of the old list is in the new one
moved_to : (xs ys : List Literal) (place k : ℕ) (literal : Literal) → Moved xs ys place → slice_get xs k ≡ Some literal → k ≢ place → place < length xs → Has ys literal
moved_to xs ys place k literal moved is ne inside =
    let within = slice_get_within xs k literal is in
    let value = get_or_from_slice_get xs k literal literal is in
    let len = moved.len in
    elim (cases_lt k (length ys)) [
      | inl h ↦ Has-at ys k literal (slice_get-get_or ys k literal h ∙ ap (λ (l : Literal). Some l) (moved.same k literal ne (omega arith) ∙ value))
      | inr h ↦
          let last : k ≡ length xs - 1 = omega arith in
          Has-at ys place literal (slice_get-get_or ys place literal (omega arith) ∙ ap (λ (l : Literal). Some l) (moved.moved literal (omega arith) ∙ ap (λ (n : ℕ). get_or xs n literal) (sym last) ∙ value))
    ]

pub loses : (xs ys : List Literal) (places : List ℕ) (place : ℕ) (literal : Literal) → ArePlaced xs places → slice_get xs place ≡ Some literal → Moved xs ys place → Loses xs literal ys
loses xs ys places place literal placed is moved =
    let inside = slice_get_within xs place literal is in
    record {
      gone = λ has.
          let p = place_in ys literal has in
          elim (was_at xs ys place p.place literal moved inside p.is) [
            | inl h ↦ h.0 (one_place xs places p.place place literal placed h.1 is)
            | inr h ↦ let e = one_place xs places (length xs - 1) place literal placed h.1.1 is in let more = h.1.0 in omega arith
          ];
      others = λ other ne has.
          let p = place_in xs other has in
          moved_to xs ys place p.place other moved p.is (λ e. ne (same_Some other literal (sym p.is ∙ ap (slice_get xs) e ∙ is))) inside;
      within = λ other has.
          let p = place_in ys other has in
          elim (was_at xs ys place p.place other moved inside p.is) [ inl h ↦ Has-at xs p.place other h.1 | inr h ↦ Has-at xs (length xs - 1) other h.1.1 ];
    }

-- the place taken was the last one
pub placed_less : (xs ys : List Literal) (places : List ℕ) (place : ℕ) → ArePlaced xs places → Moved xs ys place → place < length xs → length ys ≤ place → ArePlaced ys places
placed_less xs ys places place placed moved inside last = record {
  within = λ k literal is.
      let within = slice_get_within ys k literal is in
      elim (was_at xs ys place k literal moved inside is) [ inl h ↦ placed.within k literal h.1 | inr h ↦ absurd (let e = h.0 in omega arith) ];
  at = λ k literal is.
      let within = slice_get_within ys k literal is in
      elim (was_at xs ys place k literal moved inside is) [ inl h ↦ placed.at k literal h.1 | inr h ↦ absurd (let e = h.0 in omega arith) ];
}

-- another literal took the place
pub placed_moved : (xs ys : List Literal) (places : List ℕ) (place : ℕ) (mover : Literal) → ArePlaced xs places → Moved xs ys place → place < length xs → slice_get ys place ≡ Some mover → ArePlaced ys (set places (code_of mover) place)
placed_moved xs ys places place mover placed moved inside at_place =
    let value = get_or_from_slice_get ys place mover mover at_place in
    record {
      within = λ k literal is.
          elim (was_at xs ys place k literal moved inside is) [
            | inl h ↦ omega (arith, length-set {A = ℕ}, placed.within k literal h.1)
            | inr h ↦ omega (arith, length-set {A = ℕ}, placed.within (length xs - 1) literal h.1.1)
          ];
      at = λ k literal is.
          elim (was_at xs ys place k literal moved inside is) [
            | inl h ↦
                let within = slice_get_within ys k literal is in
                let len = moved.len in
                let apart : code_of literal ≢ code_of mover = λ e.
                let same = same_code literal mover e in
                elim (was_at xs ys place place mover moved inside at_place) [
                  | inl g ↦ g.0 refl
                  | inr g ↦ let last : k ≡ length xs - 1 = one_place xs places k (length xs - 1) literal placed h.1 (g.1.1 ∙ ap (λ (l : Literal). Some l) (sym same)) in let more = g.1.0 in omega arith
                ] in
                get_or-set_other places (code_of mover) (code_of literal) place 0 apart ∙ placed.at k literal h.1
            | inr h ↦
                let same : literal ≡ mover = same_Some literal mover (sym is ∙ ap (slice_get ys) h.0 ∙ at_place) in
                let room = placed.within (length xs - 1) literal h.1.1 in
                let code : code_of mover < length places = subst (λ (l : Literal). code_of l < length places) same room in
                rw (same, h.0) (get_or-set_same places (code_of mover) place 0 code)
          ];
    }

-- what `swap_remove` does to a list
pub moved_by : (old new : Vec Literal Global) (place : ℕ) → vec_len new + 1 ≡ vec_len old
    → ((d : Literal) → place + 1 < vec_len old → get_or new.items place d ≡ get_or old.items (vec_len old - 1) d) × ((k : ℕ) (d : Literal) → k ≢ place → k + 1 < vec_len old → get_or new.items k d ≡ get_or old.items k d)
    → Moved old.items new.items place
moved_by old new place len by_index =
    let before : vec_len old ≡ length old.items = old.ok.0 in
    let after : vec_len new ≡ length new.items = new.ok.0 in
    record {
      len = omega arith;
      moved = λ d h. by_index.0 d (omega arith) ∙ ap (λ (n : ℕ). get_or old.items (n - 1) d) before;
      same = λ k d ne h. by_index.1 k d ne (omega arith);
    }

-- what `!=` of literals says
pub different_literals : (a b : Literal) (r : Bool) → r ≡ not (eqb (code_of a) (code_of b)) → r ≡ true → a ≢ b
different_literals a b r is on same = both_ways (eqb (code_of a) (code_of b)) (not-true _ (sym is ∙ on)) (eq-eqb _ _ (ap code_of same))

pub equal_literals : (a b : Literal) (r : Bool) → r ≡ not (eqb (code_of a) (code_of b)) → r ≡ false → a ≡ b
equal_literals a b r is off = same_code a b (eqb-true _ _ (not-false _ (sym is ∙ off)))
