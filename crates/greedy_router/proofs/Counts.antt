-- How often an ion is in a list, after ions pass.
use Rattle.std.proofs.Common.{◌≡◌, ◌≢◌, ℕ, zero, suc, ◌+◌, ◌-◌, ◌<◌, ◌≤◌, cond, List, [], ◌∷◌, ◌++◌, length, get_or, set, take, drop, Some, swap, refl, sym, ap, ◌∙◌, inl, inr, arith, get_or-set_other}
use Rattle.std.specs.Prelude.{slice_get, reverse, ◌==◌}
use Rattle.std.proofs.lemmas.Bool.{cases_eq, eq-eqb, ne_eqb}
use Rattle.std.proofs.lemmas.List.{reverse-append, length-reverse, take-append-drop, drop_at, drop_all, drop_more, length-set}
use Rattle.std.proofs.lemmas.Option.{same_Some, get_or_from_slice_get}
use Rattle.qc_base.specs.declared.ids.Ion.{Ion}
use Rattle.qc_base.specs.declared.ids.End.{End}
use Rattle.qc_base.specs.declared.ids.End.TheVariants.{A, B}
use Rattle.trap_model.proofs.Counts.{how_many-append, counted_there}
use Rattle.ion_chain.specs.Passing.{outward, leaving, left, joined}
use Rattle.greedy_router.specs.Places.{count_of, one_if}

pub one_same : (a b : ℕ) → a ≡ b → one_if a b ≡ 1
one_same a b e = ap (λ b. cond {A = ℕ} b 1 0) (eq-eqb a b e)

pub one_apart : (a b : ℕ) → a ≢ b → one_if a b ≡ 0
one_apart a b ne = ap (λ b. cond {A = ℕ} b 1 0) (ne_eqb a b ne)

pub count-append : (ion : ℕ) (xs ys : List Ion) → count_of ion (xs ++ ys) ≡ count_of ion xs + count_of ion ys
count-append ion xs ys = how_many-append (λ (other : Ion). other.0 == ion) xs ys

pub count-reverse : (ion : ℕ) (xs : List Ion) → count_of ion (reverse xs) ≡ count_of ion xs
count-reverse ion [] = refl
count-reverse ion (x ∷ xs) =
    let split : count_of ion (reverse (x ∷ xs)) ≡ count_of ion (reverse xs ++ x ∷ []) = ap (count_of ion) (reverse-append (x ∷ []) xs) in
    omega (arith, split, count-append ion (reverse xs) (x ∷ []), count-reverse ion xs)

count-outward : (ion : ℕ) (end : End) (ions : List Ion) → count_of ion (outward end ions) ≡ count_of ion ions
count-outward ion A ions = count-reverse ion ions
count-outward ion B ions = refl

pub count-left : (ion : ℕ) (end : End) (count : ℕ) (ions : List Ion) → count_of ion (left end count ions) + count_of ion (leaving end count ions) ≡ count_of ion ions
count-left ion end count ions =
    let all : List Ion = outward end ions in
    let stay : List Ion = take (length ions - count) all in
    let go : List Ion = drop (length ions - count) all in
    let parts : count_of ion (stay ++ go) ≡ count_of ion all = ap (count_of ion) (take-append-drop (length ions - count) all) in
    omega (arith, parts, count-append ion stay go, count-outward ion end stay, count-outward ion end ions)

pub count-joined : (ion : ℕ) (end : End) (coming ions : List Ion) → count_of ion (joined end coming ions) ≡ count_of ion ions + count_of ion coming
count-joined ion end coming ions =
    omega (arith, count-outward ion end (outward end ions ++ reverse coming), count-append ion (outward end ions) (reverse coming), count-outward ion end ions, count-reverse ion coming)

-- one ion in the place of another
count-set : (ion : ℕ) (ions : List Ion) (index : ℕ) (new d : Ion) → index < length ions
    → count_of ion (set ions index new) + count_of ion (get_or ions index d ∷ []) ≡ count_of ion ions + count_of ion (new ∷ [])
count-set ion [] index new d h = absurd (omega arith)
count-set ion (x ∷ xs) zero new d h = omega arith
count-set ion (x ∷ xs) (suc index) new d h = omega (arith, count-set ion xs index new d (omega arith))

count-exchanged : (ion : ℕ) (ions : List Ion) (i j : ℕ) (d : Ion) → i ≢ j → i < length ions → j < length ions
    → count_of ion (set (set ions i (get_or ions j d)) j (get_or ions i d)) ≡ count_of ion ions
count-exchanged ion ions i j d apart in_i in_j =
    let first : Ion = get_or ions i d in
    let second : Ion = get_or ions j d in
    let same : count_of ion (get_or (set ions i second) j d ∷ []) ≡ count_of ion (second ∷ []) = ap (λ (x : Ion). count_of ion (x ∷ [])) (get_or-set_other ions i j second d (λ e. apart (sym e))) in
    omega (arith, same, count-set ion ions i second d in_i, count-set ion (set ions i second) j first d (omega (arith, in_j, length-set ions i second)))

pub count-swap : (ion : ℕ) (ions : List Ion) (index : ℕ) → index + 1 < length ions → count_of ion (swap ions index (index + 1)) ≡ count_of ion ions
count-swap ion [] index h = absurd (omega arith)
count-swap ion (x ∷ xs) index h = count-exchanged ion (x ∷ xs) index (index + 1) x (λ e. absurd (omega (arith, e))) (omega arith) h

-- an ion at an index is there
pub count-at : (ions : List Ion) (index : ℕ) (ion : Ion) → slice_get ions index ≡ Some ion → 1 ≤ count_of ion.0 ions
count-at ions index ion at = counted_there (λ (other : Ion). other.0 == ion.0) ions index ion at (eq-eqb ion.0 ion.0 refl)

-- the ion at the first index leaves by end a, the one at the last index by end b
pub leaves_a : (ions : List Ion) (ion : Ion) → slice_get ions 0 ≡ Some ion → leaving A 1 ions ≡ ion ∷ []
leaves_a [] ion e = absurd cc
leaves_a (x ∷ xs) ion e =
    let rest : length (reverse xs) ≡ length (x ∷ xs) - 1 = omega (arith, length-reverse xs) in
    ap (drop (length (x ∷ xs) - 1)) (reverse-append (x ∷ []) xs) ∙ drop_at (reverse xs) (x ∷ []) (length (x ∷ xs) - 1) rest ∙ ap (λ (y : Ion). y ∷ []) (same_Some x ion e)

pub leaves_b : (ions : List Ion) (ion : Ion) (last : ℕ) → last + 1 ≡ length ions → slice_get ions last ≡ Some ion → leaving B 1 ions ≡ ion ∷ []
leaves_b ions ion last is at =
    let same : length ions - 1 ≡ last = omega arith in
    let here : get_or ions last ion ≡ ion = get_or_from_slice_get ions last ion ion at in
    let none : drop (last + 1) ions ≡ [] = drop_all (last + 1) ions (omega arith) in
    ap (λ (n : ℕ). drop n ions) same ∙ drop_more ions last ion (omega arith) ∙ ap (λ (x : Ion). x ∷ drop (last + 1) ions) here ∙ ap (λ (rest : List Ion). ion ∷ rest) none

only_ion : (x ion : Ion) → 1 ≤ count_of ion.0 (x ∷ []) → x ≡ ion
only_ion x ion some = elim (cases_eq x.0 ion.0) [
  | inl same ↦ ap (λ (n : ℕ). record { 0 = n }) same
  | inr other ↦ absurd (omega (arith, some, one_apart x.0 ion.0 other))
]

-- an ion alone leaves by each end
pub leaves_alone : (end : End) (ions : List Ion) (ion : Ion) → length ions ≡ 1 → 1 ≤ count_of ion.0 ions → leaving end 1 ions ≡ ion ∷ []
leaves_alone end [] ion one some = absurd (omega arith)
leaves_alone A (x ∷ []) ion one some = ap (λ (y : Ion). y ∷ []) (only_ion x ion some)
leaves_alone B (x ∷ []) ion one some = ap (λ (y : Ion). y ∷ []) (only_ion x ion some)
leaves_alone end (x ∷ y ∷ rest) ion one some = absurd (omega arith)
