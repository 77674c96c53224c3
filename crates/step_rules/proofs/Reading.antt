-- Qubits in a row: which are there, how often, and how many before.
use Rattle.std.proofs.Common.{◌≡◌, ℕ, zero, suc, ◌+◌, ◌-◌, ◌<◌, ◌≤◌, List, [], ◌∷◌, ◌++◌, length, get_or, set, take, drop, replicate, Bool, true, false, cond, ◌||◌, Some, None, refl, sym, ap, subst, ◌∙◌, inl, inr, arith, append_assoc, get_or-set_same, get_or-set_other}
use Rattle.std.specs.Prelude.{Contains, Option, slice_get, ◌==◌, find}
use Rattle.std.specs.List.{range_with_len}
use Rattle.std.proofs.lemmas.Bool.{eq-eqb, ne_eqb, eqb-true, eqb-false, cases_eq}
use Rattle.std.proofs.lemmas.Option.{same_Some}
use Rattle.std.proofs.lemmas.List.{drop_more, take_more, length-set, length-replicate, get_or-replicate, get_or_default}
use Rattle.std.proofs.lemmas.List.Folds.{list_any-append}
use Rattle.qc_base.specs.declared.ids.Qubit.{Qubit}
use Rattle.circuit_core.specs.Deciding.{is_listed}
use Rattle.step_rules.specs.Placement.{reading_order, place_of, times, first_repeated}
use Rattle.step_rules.specs.Flags.{AreFlags}

same_qubit : (a b : Qubit) → a.0 ≡ b.0 → a ≡ b
same_qubit a b e = let of : ℕ → Qubit = λ n. record { 0 = n } in ap of e

-- ---- how often

pub times-append : (n : ℕ) (xs ys : List Qubit) → times n (xs ++ ys) ≡ times n xs + times n ys
times-append n [] ys = omega arith
times-append n (x ∷ xs) ys = omega (arith, times-append n xs ys)

one_or : (n : ℕ) (x : Qubit) (b : Bool) → (x.0 == n) ≡ b → (rest : Bool) (count : ℕ) → (rest ≡ false → count ≡ 0) → (b || rest) ≡ false → cond b 1 0 + count ≡ 0
one_or n x true is rest count none e = absurd cc
one_or n x false is rest count none e = omega (arith, none e)

pub times_none : (n : ℕ) (xs : List Qubit) → is_listed n xs ≡ false → times n xs ≡ 0
times_none n [] e = refl
times_none n (x ∷ xs) e = one_or n x (x.0 == n) refl (is_listed n xs) (times n xs) (times_none n xs) e

some_of : (b rest : Bool) (count : ℕ) → (rest ≡ true → 1 ≤ count) → (b || rest) ≡ true → 1 ≤ cond b 1 0 + count
some_of true rest count some e = omega arith
some_of false rest count some e = omega (arith, some e)

pub times_some : (n : ℕ) (xs : List Qubit) → is_listed n xs ≡ true → 1 ≤ times n xs
times_some n [] e = absurd cc
times_some n (x ∷ xs) e = some_of (x.0 == n) (is_listed n xs) (times n xs) (times_some n xs) e

times_there : (q : Qubit) (xs : List Qubit) (k : ℕ) → slice_get xs k ≡ Some q → 1 ≤ times q.0 xs
times_there q [] k e = absurd cc
times_there q (x ∷ xs) zero e =
    let here : (x.0 == q.0) ≡ true = eq-eqb x.0 q.0 (ap (λ (a : Qubit). a.0) (same_Some x q e)) in
    rw here (omega arith)
times_there q (x ∷ xs) (suc k) e = omega (arith, times_there q xs k e)

-- ---- how many before

later : (q x : Qubit) (xs : List Qubit) (k : ℕ) → k < length (x ∷ xs) → get_or (x ∷ xs) k q ≡ q → (x.0 == q.0) ≡ false → Contains xs q
later q x xs zero h e apart = absurd (eqb-false x.0 q.0 apart (ap (λ (a : Qubit). a.0) e))
later q x xs (suc k) h e apart = (k, omega arith, e)

place_step : (q x : Qubit) (xs : List Qubit) (b : Bool) → (x.0 == q.0) ≡ b → (Contains xs q → slice_get xs (place_of q xs) ≡ Some q) → Contains (x ∷ xs) q → slice_get (x ∷ xs) (cond b 0 (1 + place_of q xs)) ≡ Some q
place_step q x xs true is rest there = ap Some (same_qubit x q (eqb-true x.0 q.0 is))
place_step q x xs false is rest there =
    let next : 1 + place_of q xs ≡ suc (place_of q xs) = omega arith in
    rw next (rest (later q x xs there.0 there.1 there.2 is))

-- the number of a qubit leads back to it
pub place_found : (q : Qubit) (xs : List Qubit) → Contains xs q → slice_get xs (place_of q xs) ≡ Some q
place_found q [] there = absurd (omega (arith, there.1))
place_found q (x ∷ xs) there = place_step q x xs (x.0 == q.0) refl (place_found q xs) there

number_step : (q x : Qubit) (xs : List Qubit) (k : ℕ) (b : Bool) → (x.0 == q.0) ≡ b → cond b 1 0 + times q.0 xs ≤ 1 → 1 ≤ times q.0 xs → place_of q xs ≡ k → cond b 0 (1 + place_of q xs) ≡ suc k
number_step q x xs k true is once there e = absurd (omega arith)
number_step q x xs k false is once there e = omega (arith, e)

-- and the qubit of a number has that number, where none occurs twice
pub number_found : (xs : List Qubit) (k : ℕ) (q : Qubit) → ((n : ℕ) → times n xs ≤ 1) → slice_get xs k ≡ Some q → place_of q xs ≡ k
number_found [] k q once e = absurd cc
number_found (x ∷ xs) zero q once e =
    let here : (x.0 == q.0) ≡ true = eq-eqb x.0 q.0 (ap (λ (a : Qubit). a.0) (same_Some x q e)) in
    rw here refl
number_found (x ∷ xs) (suc k) q once e =
    number_step q x xs k (x.0 == q.0) refl (once q.0) (times_there q xs k e) (number_found xs k q (λ n. omega (arith, once n)) e)

-- ---- the table of those that were seen

pub repeated_now : (before list : List Qubit) (i : ℕ) (d : Qubit) → i < length list → is_listed (get_or list i d).0 (before ++ take i list) ≡ true → first_repeated (before ++ take i list) (drop i list) ≡ Some (get_or list i d)
repeated_now before list i d h seen =
    ap (first_repeated (before ++ take i list)) (drop_more list i d h)
    ∙ ap (λ (b : Bool). cond b (Some (get_or list i d)) (first_repeated ((before ++ take i list) ++ get_or list i d ∷ []) (drop (i + 1) list))) seen

one_more : (before list : List Qubit) (i : ℕ) (d : Qubit) → i < length list → (before ++ take i list) ++ get_or list i d ∷ [] ≡ before ++ take (i + 1) list
one_more before list i d h = append_assoc before (take i list) (get_or list i d ∷ []) ∙ ap (λ (l : List Qubit). before ++ l) (sym (take_more list i d h))

pub repeated_later : (before list : List Qubit) (i : ℕ) (d : Qubit) → i < length list → is_listed (get_or list i d).0 (before ++ take i list) ≡ false
    → first_repeated (before ++ take i list) (drop i list) ≡ first_repeated (before ++ take (i + 1) list) (drop (i + 1) list)
repeated_later before list i d h new =
    ap (first_repeated (before ++ take i list)) (drop_more list i d h)
    ∙ ap (λ (b : Bool). cond b (Some (get_or list i d)) (first_repeated ((before ++ take i list) ++ get_or list i d ∷ []) (drop (i + 1) list))) new
    ∙ ap (λ (l : List Qubit). first_repeated l (drop (i + 1) list)) (one_more before list i d h)

or_true : (a : Bool) → (a || true) ≡ true
or_true true = refl
or_true false = refl

or_false : (a : Bool) → (a || false) ≡ a
or_false true = refl
or_false false = refl

flag_grown : (flags : List Bool) (qubits : List Qubit) (x : Qubit) → x.0 < length flags → AreFlags flags qubits → AreFlags (set flags x.0 true) (qubits ++ x ∷ [])
flag_grown flags qubits x h are number within =
    let split : is_listed number (qubits ++ x ∷ []) ≡ (is_listed number qubits || ((x.0 == number) || false)) = list_any-append (λ (qubit : Qubit). qubit.0 == number) qubits (x ∷ []) in
    elim (cases_eq number x.0) [
      | inl same ↦ (let here : (x.0 == number) ≡ true = eq-eqb x.0 number (sym same) in
          ap (λ (k : ℕ). get_or (set flags x.0 true) k false) same ∙ get_or-set_same flags x.0 true false h ∙ sym (split ∙ ap (λ (b : Bool). is_listed number qubits || (b || false)) here ∙ or_true (is_listed number qubits)))
      | inr other ↦ (let there : (x.0 == number) ≡ false = ne_eqb x.0 number (λ e. other (sym e)) in
          let inside : number < length flags = omega (arith, within, length-set flags x.0 true) in
          get_or-set_other flags x.0 number true false other ∙ are number inside ∙ sym (split ∙ ap (λ (b : Bool). is_listed number qubits || (b || false)) there ∙ or_false (is_listed number qubits)))
    ]

pub flags_grown : (flags : List Bool) (before list : List Qubit) (i : ℕ) (d : Qubit) → i < length list → (get_or list i d).0 < length flags → AreFlags flags (before ++ take i list) → AreFlags (set flags (get_or list i d).0 true) (before ++ take (i + 1) list)
flags_grown flags before list i d h within are =
    subst (AreFlags (set flags (get_or list i d).0 true)) (one_more before list i d h) (flag_grown flags (before ++ take i list) (get_or list i d) within are)

-- what a flag that was read says
pub flag_says : (flags : List Bool) (qubits : List Qubit) (n : ℕ) (flag : Bool) → n < length flags → flag ≡ get_or flags n flag → AreFlags flags qubits → is_listed n qubits ≡ flag
flag_says flags qubits n flag h read are = sym (are n h) ∙ get_or_default flags n false flag h ∙ sym read

-- ---- the least that is in no list

pub find_same : (p q : ℕ → Bool) (a n : ℕ) → ((k : ℕ) → a ≤ k → k < a + n → p k ≡ q k) → find p (range_with_len a n) ≡ find q (range_with_len a n)
find_same p q a zero same = refl
find_same p q a (suc n) same =
    ap (λ (b : Bool). cond b (Some a) (find p (range_with_len (a + 1) n))) (same a (omega arith) (omega arith))
    ∙ ap (λ (o : Option ℕ). cond (q a) (Some a) o) (find_same p q (a + 1) n (λ k low high. same k (omega arith) (omega arith)))

none_here : (b : Bool) (a : ℕ) (rest : Option ℕ) → cond b (Some a) rest ≡ None → (b ≡ false) × (rest ≡ None)
none_here true a rest e = absurd cc
none_here false a rest e = (refl, e)

pub find_none : (p : ℕ → Bool) (a n : ℕ) → find p (range_with_len a n) ≡ None → (k : ℕ) → a ≤ k → k < a + n → p k ≡ false
find_none p a zero e k low high = absurd (omega arith)
find_none p a (suc n) e k low high =
    let parts = none_here (p a) a (find p (range_with_len (a + 1) n)) e in
    elim (cases_eq a k) [
      | inl same ↦ subst (λ (m : ℕ). p m ≡ false) same parts.0
      | inr other ↦ find_none p (a + 1) n parts.1 k (omega arith) (omega arith)
    ]

pub no_flags : (n : ℕ) → AreFlags (replicate n false) []
no_flags n number h = get_or-replicate n number false false (omega (arith, h, length-replicate n false))

-- ---- a place in two rows

pub in_front : (xs ys : List Qubit) (i : ℕ) (d : Qubit) → i < length xs → slice_get (xs ++ ys) i ≡ Some (get_or xs i d)
in_front [] ys i d h = absurd (omega arith)
in_front (x ∷ xs) ys zero d h = refl
in_front (x ∷ xs) ys (suc i) d h = in_front xs ys i d (omega arith)

pub in_rest : (xs ys : List Qubit) (i : ℕ) → length xs ≤ i → slice_get (xs ++ ys) i ≡ slice_get ys (i - length xs)
in_rest [] ys i h = let e : i ≡ i - 0 = omega arith in ap (slice_get ys) e
in_rest (x ∷ xs) ys zero h = absurd (omega arith)
in_rest (x ∷ xs) ys (suc i) h = let e : i - length xs ≡ suc i - suc (length xs) = omega arith in in_rest xs ys i (omega arith) ∙ ap (slice_get ys) e

-- what is left of the lists, with its first list apart
pub first_apart : (lists : List (List Qubit)) (k : ℕ) (list : List Qubit) → k < length lists → list ≡ get_or lists k list → reading_order (drop k lists) ≡ list ++ reading_order (drop (k + 1) lists)
first_apart lists k list h read = ap reading_order (drop_more lists k list h) ∙ ap (λ (l : List Qubit). l ++ reading_order (drop (k + 1) lists)) (sym read)
