-- Lists of ions in which none is twice: which are there, and which are before which.
use Rattle.std.proofs.Common.{◌≡◌, ◌≢◌, ℕ, suc, ◌+◌, ◌-◌, ◌<◌, ◌≤◌, Bool, true, false, not, cond, ◌&&◌, ◌||◌, List, [], ◌∷◌, ◌++◌, length, take, drop, reverse, arith, refl, sym, ap, subst, ◌∙◌, inl, inr}
use Rattle.std.specs.Prelude.{All, Contains, filter, IsTrue, IsPermutation, ◌==◌}
use Rattle.std.specs.List.{range_with_len}
use Rattle.std.proofs.lemmas.Bool.{cases_Bool, cases_eq, false≢true, both_ways, or_parts, or_from, or_right, and_right, eqb-true, eq-eqb, ne_eqb, false_from_ne_true}
use Rattle.std.proofs.lemmas.List.{take-append-drop, reverse-append}
use Rattle.std.proofs.lemmas.List.Elements.{All-head, All-tail}
use Rattle.std.proofs.lemmas.List.Folds.{list_any-append}
use Rattle.std.proofs.lemmas.List.Sorted.{IsPermutation-reverse, list_any-IsPermutation}
use Rattle.qc_base.specs.declared.ids.Ion.{Ion}
use Rattle.qc_base.specs.declared.ids.End.{End}
use Rattle.qc_base.specs.Counting.{how_many}
use Rattle.ion_chain.specs.Passing.{outward}
use Rattle.ion_chain.proofs.Passed.{IsPermutation-outward}
use Rattle.step_vars.specs.Lists.{is_there, is_before}
use Rattle.step_facts.specs.Agreement.{AreDistinct}
use Rattle.step_facts.proofs.Lists.{Contains-range, list_any-some, AreDifferent-range, at_most_one-from, exactly_one, how_many-none, how_many-permutation, how_many-either, how_many_any, how_many_fail, how_many_within, how_many_all, filter_all, filter_none}

or_false : (b : Bool) → (b || false) ≡ b
or_false true = refl
or_false false = refl

and_true : (b : Bool) → (b && true) ≡ b
and_true true = refl
and_true false = refl

-- ---- the first ion of a list

pub there-here : (i : ℕ) (ion : Ion) (ions : List Ion) → ion.0 ≡ i → is_there i (ion ∷ ions) ≡ true
there-here i ion ions e = ap (λ b. b || is_there i ions) (eq-eqb ion.0 i e)

pub there-other : (i : ℕ) (ion : Ion) (ions : List Ion) → ion.0 ≢ i → is_there i (ion ∷ ions) ≡ is_there i ions
there-other i ion ions other = ap (λ b. b || is_there i ions) (ne_eqb ion.0 i other)

pub before-here : (i j : ℕ) (ion : Ion) (ions : List Ion) → ion.0 ≡ i → is_before i j (ion ∷ ions) ≡ is_there j ions
before-here i j ion ions e = ap (λ b. cond b (is_there j ions) (is_before i j ions)) (eq-eqb ion.0 i e)

pub before-other : (i j : ℕ) (ion : Ion) (ions : List Ion) → ion.0 ≢ i → is_before i j (ion ∷ ions) ≡ is_before i j ions
before-other i j ion ions other = ap (λ b. cond b (is_there j ions) (is_before i j ions)) (ne_eqb ion.0 i other)

pub there-later : (i : ℕ) (ion : Ion) (ions : List Ion) → IsTrue (is_there i ions) → IsTrue (is_there i (ion ∷ ions))
there-later i ion ions there = or_right (ion.0 == i) (is_there i ions) there

-- ---- which are there

pub there-append : (i : ℕ) (xs ys : List Ion) → is_there i (xs ++ ys) ≡ (is_there i xs || is_there i ys)
there-append i xs ys = list_any-append (λ (ion : Ion). ion.0 == i) xs ys

pub there-permutation : (i : ℕ) (xs ys : List Ion) → IsPermutation xs ys → is_there i ys ≡ is_there i xs
there-permutation i xs ys moved = sym (list_any-IsPermutation (λ (ion : Ion). ion.0 == i) xs ys moved)

pub there-reverse : (i : ℕ) (xs : List Ion) → is_there i (reverse xs) ≡ is_there i xs
there-reverse i xs = there-permutation i xs (reverse xs) (IsPermutation-reverse xs)

pub there-outward : (i : ℕ) (end : End) (xs : List Ion) → is_there i (outward end xs) ≡ is_there i xs
there-outward i end xs = there-permutation i xs (outward end xs) (IsPermutation-outward end xs)

pub there-filter : (i : ℕ) (test : ℕ → Bool) (xs : List Ion) → is_there i (filter (λ (ion : Ion). test ion.0) xs) ≡ (is_there i xs && test i)
there-filter i test [] = refl
there-filter i test (x ∷ xs) =
    let kept : List Ion = filter (λ (ion : Ion). test ion.0) xs in
    let later : is_there i kept ≡ (is_there i xs && test i) = there-filter i test xs in
    elim (cases_eq x.0 i) [
      | inl e ↦ elim (cases_Bool (test x.0)) [
        | inl passes ↦ rw passes (there-here i x kept e ∙ sym (ap (λ b. b && test i) (there-here i x xs e) ∙ ap test (sym e) ∙ passes))
        | inr fails ↦
            let so : test i ≡ false = ap test (sym e) ∙ fails in
            rw fails (later ∙ and_right (is_there i xs) (test i) so ∙ sym (and_right (is_there i (x ∷ xs)) (test i) so))
      ]
      | inr other ↦
          let same : (is_there i xs && test i) ≡ (is_there i (x ∷ xs) && test i) = ap (λ b. b && test i) (sym (there-other i x xs other)) in
          elim (cases_Bool (test x.0)) [
            | inl passes ↦ rw passes (there-other i x kept other ∙ later ∙ same)
            | inr fails ↦ rw fails (later ∙ same)
          ]
    ]

-- ---- none is twice

pub distinct-append : (xs ys : List Ion) → AreDistinct xs → AreDistinct ys → ((i : ℕ) → IsTrue (is_there i xs) → is_there i ys ≡ false)
    → AreDistinct (xs ++ ys)
distinct-append [] ys left right apart = right
distinct-append (x ∷ xs) ys left right apart = (
  there-append x.0 xs ys ∙ or_from (is_there x.0 xs) (is_there x.0 ys) left.0 (apart x.0 (there-here x.0 x xs refl)),
  distinct-append xs ys left.1 right (λ i there. apart i (there-later i x xs there)),
)

pub distinct-left : (xs ys : List Ion) → AreDistinct (xs ++ ys) → AreDistinct xs
distinct-left [] ys distinct = tt
distinct-left (x ∷ xs) ys distinct =
    ((or_parts (is_there x.0 xs) (is_there x.0 ys) (sym (there-append x.0 xs ys) ∙ distinct.0)).0, distinct-left xs ys distinct.1)

pub distinct-right : (xs ys : List Ion) → AreDistinct (xs ++ ys) → AreDistinct ys
distinct-right [] ys distinct = distinct
distinct-right (x ∷ xs) ys distinct = distinct-right xs ys distinct.1

pub distinct-apart : (i : ℕ) (xs ys : List Ion) → AreDistinct (xs ++ ys) → IsTrue (is_there i xs) → is_there i ys ≡ false
distinct-apart i [] ys distinct there = absurd (false≢true there)
distinct-apart i (x ∷ xs) ys distinct there = elim (cases_eq x.0 i) [
  | inl e ↦ subst (λ k. is_there k ys ≡ false) e ((or_parts (is_there x.0 xs) (is_there x.0 ys) (sym (there-append x.0 xs ys) ∙ distinct.0)).1)
  | inr other ↦ distinct-apart i xs ys distinct.1 (sym (there-other i x xs other) ∙ there)
]

-- each number is counted once at most
distinct_counts : (i : ℕ) (xs : List Ion) → AreDistinct xs → how_many (λ (ion : Ion). ion.0 == i) xs ≤ 1
distinct_counts i [] distinct = omega arith
distinct_counts i (x ∷ xs) distinct = elim (cases_eq x.0 i) [
  | inl e ↦
      let none : how_many (λ (ion : Ion). ion.0 == i) xs ≡ 0 = how_many-none (λ (ion : Ion). ion.0 == i) xs (subst (λ k. is_there k xs ≡ false) e distinct.0) in
      rw (eq-eqb x.0 i e, none) (omega arith)
  | inr other ↦ rw (ne_eqb x.0 i other) (omega (arith, distinct_counts i xs distinct.1))
]

distinct_counted : (xs : List Ion) → ((i : ℕ) → how_many (λ (ion : Ion). ion.0 == i) xs ≤ 1) → AreDistinct xs
distinct_counted [] once = tt
distinct_counted (x ∷ xs) once =
    let first : 1 + how_many (λ (ion : Ion). ion.0 == x.0) xs ≤ 1 = rw (eq-eqb x.0 x.0 refl) at (once x.0) in (
      false_from_ne_true (is_there x.0 xs) (λ there. let more = how_many_any (λ (ion : Ion). ion.0 == x.0) xs there in omega arith),
      distinct_counted xs (λ i. omega (arith, once i)),
    )

pub distinct-permutation : (xs ys : List Ion) → IsPermutation xs ys → AreDistinct xs → AreDistinct ys
distinct-permutation xs ys moved distinct = distinct_counted ys (λ i. rw (how_many-permutation (λ (ion : Ion). ion.0 == i) xs ys moved) (distinct_counts i xs distinct))

pub distinct-outward : (end : End) (xs : List Ion) → AreDistinct xs → AreDistinct (outward end xs)
distinct-outward end xs distinct = distinct-permutation xs (outward end xs) (IsPermutation-outward end xs) distinct

filter-not_there : (i : ℕ) (test : Ion → Bool) (xs : List Ion) → is_there i xs ≡ false → is_there i (filter test xs) ≡ false
filter-not_there i test [] none = refl
filter-not_there i test (x ∷ xs) none =
    let parts = or_parts (x.0 == i) (is_there i xs) none in
    let later : is_there i (filter test xs) ≡ false = filter-not_there i test xs parts.1 in
    elim (cases_Bool (test x)) [
      | inl passes ↦ rw passes (or_from (x.0 == i) (is_there i (filter test xs)) parts.0 later)
      | inr fails ↦ rw fails later
    ]

pub distinct-filter : (test : Ion → Bool) (xs : List Ion) → AreDistinct xs → AreDistinct (filter test xs)
distinct-filter test [] distinct = tt
distinct-filter test (x ∷ xs) distinct = elim (cases_Bool (test x)) [
  | inl passes ↦ rw passes (filter-not_there x.0 test xs distinct.0, distinct-filter test xs distinct.1)
  | inr fails ↦ rw fails (distinct-filter test xs distinct.1)
]

-- ---- which are before which

pub before-there_first : (i j : ℕ) (xs : List Ion) → IsTrue (is_before i j xs) → IsTrue (is_there i xs)
before-there_first i j [] before = absurd (false≢true before)
before-there_first i j (x ∷ xs) before = elim (cases_eq x.0 i) [
  | inl e ↦ there-here i x xs e
  | inr other ↦ there-later i x xs (before-there_first i j xs (sym (before-other i j x xs other) ∙ before))
]

pub before-there_second : (i j : ℕ) (xs : List Ion) → IsTrue (is_before i j xs) → IsTrue (is_there j xs)
before-there_second i j [] before = absurd (false≢true before)
before-there_second i j (x ∷ xs) before = elim (cases_eq x.0 i) [
  | inl e ↦ there-later j x xs (sym (before-here i j x xs e) ∙ before)
  | inr other ↦ there-later j x xs (before-there_second i j xs (sym (before-other i j x xs other) ∙ before))
]

pub before-not_first : (i j : ℕ) (xs : List Ion) → is_there i xs ≡ false → is_before i j xs ≡ false
before-not_first i j xs none = false_from_ne_true (is_before i j xs) (λ h. both_ways (is_there i xs) none (before-there_first i j xs h))

pub before-not_second : (i j : ℕ) (xs : List Ion) → is_there j xs ≡ false → is_before i j xs ≡ false
before-not_second i j xs none = false_from_ne_true (is_before i j xs) (λ h. both_ways (is_there j xs) none (before-there_second i j xs h))

-- what is before another in the rest of the list is before it in the whole
pub before-later : (i j : ℕ) (ion : Ion) (ions : List Ion) → IsTrue (is_before i j ions) → IsTrue (is_before i j (ion ∷ ions))
before-later i j ion ions before = elim (cases_eq ion.0 i) [
  | inl e ↦ before-here i j ion ions e ∙ before-there_second i j ions before
  | inr other ↦ before-other i j ion ions other ∙ before
]

pub before-turned : (i j : ℕ) (xs : List Ion) → AreDistinct xs → i ≢ j → IsTrue (is_there i xs) → IsTrue (is_there j xs)
    → is_before i j xs ≡ not (is_before j i xs)
before-turned i j [] distinct differ there_i there_j = absurd (false≢true there_i)
before-turned i j (x ∷ xs) distinct differ there_i there_j = elim (cases_eq x.0 i) [
  | inl is_i ↦
      let not_j : x.0 ≢ j = λ e. differ (sym is_i ∙ e) in
      let later : is_before j i (x ∷ xs) ≡ false =
      before-other j i x xs not_j ∙ before-not_second j i xs (subst (λ k. is_there k xs ≡ false) is_i distinct.0) in
      before-here i j x xs is_i ∙ sym (there-other j x xs not_j) ∙ there_j ∙ sym (ap not later)
  | inr not_i ↦ elim (cases_eq x.0 j) [
    | inl is_j ↦
        before-other i j x xs not_i ∙ before-not_second i j xs (subst (λ k. is_there k xs ≡ false) is_j distinct.0)
        ∙ sym (ap not (before-here j i x xs is_j ∙ sym (there-other i x xs not_i) ∙ there_i))
    | inr not_j ↦
        before-other i j x xs not_i
        ∙ before-turned i j xs distinct.1 differ (sym (there-other i x xs not_i) ∙ there_i) (sym (there-other j x xs not_j) ∙ there_j)
        ∙ sym (ap not (before-other j i x xs not_j))
  ]
]

-- both in the first part
pub before-append_left : (i j : ℕ) (xs ys : List Ion) → is_there j ys ≡ false → IsTrue (is_there i xs) → is_before i j (xs ++ ys) ≡ is_before i j xs
before-append_left i j [] ys none there = absurd (false≢true there)
before-append_left i j (x ∷ xs) ys none there = elim (cases_eq x.0 i) [
  | inl e ↦ before-here i j x (xs ++ ys) e ∙ there-append j xs ys ∙ ap (λ b. is_there j xs || b) none ∙ or_false (is_there j xs) ∙ sym (before-here i j x xs e)
  | inr other ↦
      before-other i j x (xs ++ ys) other ∙ before-append_left i j xs ys none (sym (there-other i x xs other) ∙ there) ∙ sym (before-other i j x xs other)
]

-- both in the second
pub before-append_right : (i j : ℕ) (xs ys : List Ion) → is_there i xs ≡ false → is_before i j (xs ++ ys) ≡ is_before i j ys
before-append_right i j [] ys none = refl
before-append_right i j (x ∷ xs) ys none =
    let parts = or_parts (x.0 == i) (is_there i xs) none in
    ap (λ b. cond b (is_there j (xs ++ ys)) (is_before i j (xs ++ ys))) parts.0 ∙ before-append_right i j xs ys parts.1

-- the one in the first, the other in the second
pub before-append_across : (i j : ℕ) (xs ys : List Ion) → IsTrue (is_there i xs) → IsTrue (is_there j ys) → is_before i j (xs ++ ys) ≡ true
before-append_across i j [] ys there_i there_j = absurd (false≢true there_i)
before-append_across i j (x ∷ xs) ys there_i there_j = elim (cases_eq x.0 i) [
  | inl e ↦ before-here i j x (xs ++ ys) e ∙ there-append j xs ys ∙ or_right (is_there j xs) (is_there j ys) there_j
  | inr other ↦ before-other i j x (xs ++ ys) other ∙ before-append_across i j xs ys (sym (there-other i x xs other) ∙ there_i) there_j
]

cond_false : (b : Bool) → cond b false false ≡ false
cond_false true = refl
cond_false false = refl

before-one : (i j : ℕ) (ion : Ion) → is_before i j (ion ∷ []) ≡ false
before-one i j ion = cond_false (ion.0 == i)

before-reverse_there : (i j : ℕ) (x : Ion) (xs : List Ion) → AreDistinct (x ∷ xs) → IsTrue (is_there i (reverse xs)) → is_before i j (reverse xs) ≡ is_before j i xs
    → is_before i j (reverse xs ++ x ∷ []) ≡ is_before j i (x ∷ xs)
before-reverse_there i j x xs distinct there later = elim (cases_eq x.0 j) [
  | inl e ↦ before-append_across i j (reverse xs) (x ∷ []) there (there-here j x [] e) ∙ sym (before-here j i x xs e ∙ sym (there-reverse i xs) ∙ there)
  | inr other ↦ before-append_left i j (reverse xs) (x ∷ []) (there-other j x [] other) there ∙ later ∙ sym (before-other j i x xs other)
]

-- no ion of the list is before one that is missing in its rest
before-reverse_missing : (i j : ℕ) (x : Ion) (xs : List Ion) → AreDistinct (x ∷ xs) → is_there i xs ≡ false → is_before j i (x ∷ xs) ≡ false
before-reverse_missing i j x xs distinct none = elim (cases_eq x.0 j) [
  | inl e ↦ before-here j i x xs e ∙ none
  | inr other ↦ before-other j i x xs other ∙ before-not_second j i xs none
]

pub before-reverse : (i j : ℕ) (xs : List Ion) → AreDistinct xs → is_before i j (reverse xs) ≡ is_before j i xs
before-reverse i j [] distinct = refl
before-reverse i j (x ∷ xs) distinct = rw (reverse-append (x ∷ []) xs) (elim (cases_Bool (is_there i (reverse xs))) [
  | inl there ↦ before-reverse_there i j x xs distinct there (before-reverse i j xs distinct.1)
  | inr none ↦
      before-append_right i j (reverse xs) (x ∷ []) none ∙ before-one i j x
      ∙ sym (before-reverse_missing i j x xs distinct (sym (there-reverse i xs) ∙ none))
])

pub before-filter : (i j : ℕ) (test : ℕ → Bool) (xs : List Ion) → IsTrue (test i) → IsTrue (test j)
    → is_before i j (filter (λ (ion : Ion). test ion.0) xs) ≡ is_before i j xs
before-filter i j test [] passes_i passes_j = refl
before-filter i j test (x ∷ xs) passes_i passes_j =
    let kept : List Ion = filter (λ (ion : Ion). test ion.0) xs in
    let later : is_before i j kept ≡ is_before i j xs = before-filter i j test xs passes_i passes_j in
    elim (cases_eq x.0 i) [
      | inl e ↦
          let passes : test x.0 ≡ true = ap test e ∙ passes_i in
          rw passes (before-here i j x kept e ∙ there-filter j test xs ∙ ap (λ b. is_there j xs && b) passes_j ∙ and_true (is_there j xs) ∙ sym (before-here i j x xs e))
      | inr other ↦ elim (cases_Bool (test x.0)) [
        | inl passes ↦ rw passes (before-other i j x kept other ∙ later ∙ sym (before-other i j x xs other))
        | inr fails ↦ rw fails (later ∙ sym (before-other i j x xs other))
      ]
    ]

pub before-take : (i j k : ℕ) (xs : List Ion) → AreDistinct xs → IsTrue (is_there i (take k xs)) → IsTrue (is_there j (take k xs))
    → is_before i j (take k xs) ≡ is_before i j xs
before-take i j k xs distinct there_i there_j =
    let cut : take k xs ++ drop k xs ≡ xs = take-append-drop k xs in
    let whole : AreDistinct (take k xs ++ drop k xs) = subst AreDistinct (sym cut) distinct in
    sym (before-append_left i j (take k xs) (drop k xs) (distinct-apart j (take k xs) (drop k xs) whole there_j) there_i) ∙ ap (is_before i j) cut

before-dropped : (i j k : ℕ) (xs : List Ion) → AreDistinct xs → IsTrue (is_there i (drop k xs)) → is_before i j (drop k xs) ≡ is_before i j xs
before-dropped i j k xs distinct there_i =
    let cut : take k xs ++ drop k xs ≡ xs = take-append-drop k xs in
    let whole : AreDistinct (take k xs ++ drop k xs) = subst AreDistinct (sym cut) distinct in
    let none : is_there i (take k xs) ≡ false = false_from_ne_true (is_there i (take k xs)) (λ h. both_ways (is_there i (drop k xs)) (distinct-apart i (take k xs) (drop k xs) whole h) there_i) in
    sym (before-append_right i j (take k xs) (drop k xs) none) ∙ ap (is_before i j) cut

pub before-drop : (i j k : ℕ) (xs : List Ion) → AreDistinct xs → IsTrue (is_there i (drop k xs)) → IsTrue (is_there j (drop k xs))
    → is_before i j (drop k xs) ≡ is_before i j xs
before-drop i j k xs distinct there_i there_j = before-dropped i j k xs distinct there_i

-- what is after a member of the last ones is one of them
pub drop_closed : (i j k : ℕ) (xs : List Ion) → AreDistinct xs → IsTrue (is_before i j xs) → IsTrue (is_there i (drop k xs)) → IsTrue (is_there j (drop k xs))
drop_closed i j k xs distinct before there_i = before-there_second i j (drop k xs) (before-dropped i j k xs distinct there_i ∙ before)

-- ---- a test that is closed towards the end of the list

-- with an ion that passes the test, all after it do
pub record IsClosed (test : ℕ → Bool) (xs : List Ion) : Type 0 where
  pub later : (i j : ℕ) → IsTrue (is_before i j xs) → IsTrue (test i) → IsTrue (test j)

closed-later : (test : ℕ → Bool) (x : Ion) (xs : List Ion) → IsClosed test (x ∷ xs) → IsClosed test xs
closed-later test x xs closed = record { later = λ i j before. closed.later i j (before-later i j x xs before) }

closed_all : (test : ℕ → Bool) (x : Ion) (xs : List Ion) → IsClosed test (x ∷ xs) → test x.0 ≡ true → (ion : Ion) → Contains xs ion → test ion.0 ≡ true
closed_all test x xs closed first ion there =
    closed.later x.0 ion.0 (before-here x.0 ion.0 x xs refl ∙ list_any-some (λ (it : Ion). it.0 == ion.0) xs ion there (eq-eqb ion.0 ion.0 refl)) first

-- so many at the end are those that pass, and the others are those that don't
pub last_pass : (test : ℕ → Bool) (xs : List Ion) → AreDistinct xs → IsClosed test xs
    → drop (length xs - how_many (λ (ion : Ion). test ion.0) xs) xs ≡ filter (λ (ion : Ion). test ion.0) xs
last_pass test [] distinct closed = refl
last_pass test (x ∷ xs) distinct closed =
    let passes : Ion → Bool = λ (ion : Ion). test ion.0 in
    elim (cases_Bool (test x.0)) [
      | inl here ↦
          let all : (ion : Ion) → Contains xs ion → test ion.0 ≡ true = closed_all test x xs closed here in
          let count : how_many passes xs ≡ length xs = how_many_all passes xs all in
          let none : suc (length xs) - (1 + length xs) ≡ 0 = omega arith in
          rw (here, count, none) (ap (λ l. x ∷ l) (sym (filter_all passes xs all)))
      | inr fails ↦
          let few = how_many_within passes xs in
          let one_more : suc (length xs) - (0 + how_many passes xs) ≡ suc (length xs - how_many passes xs) = omega arith in
          rw (fails, one_more) (last_pass test xs distinct.1 (closed-later test x xs closed))
    ]

pub first_fail : (test : ℕ → Bool) (xs : List Ion) → AreDistinct xs → IsClosed test xs
    → take (length xs - how_many (λ (ion : Ion). test ion.0) xs) xs ≡ filter (λ (ion : Ion). not (test ion.0)) xs
first_fail test [] distinct closed = refl
first_fail test (x ∷ xs) distinct closed =
    let passes : Ion → Bool = λ (ion : Ion). test ion.0 in
    let fails_test : Ion → Bool = λ (ion : Ion). not (test ion.0) in
    elim (cases_Bool (test x.0)) [
      | inl here ↦
          let all : (ion : Ion) → Contains xs ion → test ion.0 ≡ true = closed_all test x xs closed here in
          let count : how_many passes xs ≡ length xs = how_many_all passes xs all in
          let none : suc (length xs) - (1 + length xs) ≡ 0 = omega arith in
          rw (here, count, none) (sym (filter_none fails_test xs (λ ion c. ap not (all ion c))))
      | inr fails ↦
          let few = how_many_within passes xs in
          let one_more : suc (length xs) - (0 + how_many passes xs) ≡ suc (length xs - how_many passes xs) = omega arith in
          rw (fails, one_more) (ap (λ l. x ∷ l) (first_fail test xs distinct.1 (closed-later test x xs closed)))
    ]

-- ---- counting

how_many-equal : (n k : ℕ) → k < n → how_many (λ i. k == i) (range_with_len 0 n) ≡ 1
how_many-equal n k below =
    let few : how_many (λ i. k == i) (range_with_len 0 n) ≤ 1 =
    at_most_one-from (λ i. k == i) (range_with_len 0 n) (AreDifferent-range 0 n) (λ a b c d e f. sym (eqb-true k a e) ∙ eqb-true k b f) in
    exactly_one (λ i. k == i) (range_with_len 0 n) k few ((Contains-range n k).1 below) (eq-eqb k k refl)

-- the list is as long as there are numbers of ions in it
pub length-there : (n : ℕ) (xs : List Ion) → AreDistinct xs → All (λ (ion : Ion). ion.0 < n) xs
    → length xs ≡ how_many (λ i. is_there i xs) (range_with_len 0 n)
length-there n [] distinct known = sym (how_many_fail (λ i. is_there i []) (range_with_len 0 n) (λ i c. refl))
length-there n (x ∷ xs) distinct known =
    let P : Ion → Type 0 = λ (ion : Ion). ion.0 < n in
    let later : length xs ≡ how_many (λ i. is_there i xs) (range_with_len 0 n) = length-there n xs distinct.1 (All-tail P x xs known) in
    let one : how_many (λ i. x.0 == i) (range_with_len 0 n) ≡ 1 = how_many-equal n x.0 (All-head P x xs known) in
    let sum = how_many-either (λ i. x.0 == i) (λ i. is_there i xs) (range_with_len 0 n) (λ i e. subst (λ k. is_there k xs ≡ false) (eqb-true x.0 i e) distinct.0) in
    omega arith

pub some_there : (xs : List Ion) → 1 ≤ length xs → (i : ℕ) × IsTrue (is_there i xs)
some_there [] long = absurd (omega arith)
some_there (x ∷ xs) long = (x.0, there-here x.0 x xs refl)

pub none_there : (xs : List Ion) → ((i : ℕ) → is_there i xs ≡ false) → xs ≡ []
none_there [] none = refl
none_there (x ∷ xs) none = absurd (both_ways (is_there x.0 (x ∷ xs)) (none x.0) (there-here x.0 x xs refl))
