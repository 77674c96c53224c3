-- A fold over members that may change places.
use Rattle.std.proofs.Common.{◌≡◌, ◌≢◌, ℕ, zero, suc, ◌<◌, List, [], ◌∷◌, length, get_or, set, refl, sym, ap, ◌∙◌, inl, inr, arith}
use Rattle.std.specs.Prelude.{All, IsPermutation, fold, swap}
use Rattle.std.proofs.lemmas.Bool.{cases_order}
use Rattle.std.proofs.lemmas.List.{set_comm, set-get_or}
use Rattle.std.proofs.lemmas.List.Edits.{swap_is}
use Rattle.std.proofs.lemmas.List.Elements.{All-head, All-tail, All-get_or}
use Rattle.std.proofs.lemmas.List.Sorted.{IsPermutation-keeps, IsPermutation-swap, All-permutation}

-- f doesn't mind the order of two members
abbrev pub Commute : {A B : Type 0} → (B → A → B) → (A → Type 0) → Type 0
Commute {A} {B} f M = (c : B) (a b : A) → M a → M b → f (f c a) b ≡ f (f c b) a

-- the first member and a later one
exchanged : {A B : Type 0} (f : B → A → B) (M : A → Type 0) → Commute f M → (x : A) → M x → (ys : List A) → All M ys → (k : ℕ) → k < length ys → (c : B) → fold f (f c (get_or ys k x)) (set ys k x) ≡ fold f (f c x) ys
exchanged f M free x mx [] all k h c = absurd (omega arith)
exchanged f M free x mx (y ∷ ys) all zero h c = ap (λ d. fold f d ys) (free c y x (All-head M y ys all) mx)
exchanged f M free x mx (y ∷ ys) all (suc k) h c =
    let within : k < length ys = omega arith in
    let my : M y = All-head M y ys all in
    let rest : All M ys = All-tail M y ys all in
    let mz : M (get_or ys k x) = All-get_or M ys k x within rest in
    ap (λ d. fold f d (set ys k x)) (free c (get_or ys k x) y mz my)
    ∙ exchanged f M free x mx ys rest k within (f c y)
    ∙ ap (λ d. fold f d ys) (free c y x my mx)

swapped : {A B : Type 0} (f : B → A → B) (M : A → Type 0) → Commute f M → (xs : List A) → All M xs → (i j : ℕ) → i < j → j < length xs → (c : B) → fold f c (swap xs i j) ≡ fold f c xs
swapped f M free [] all i j before within c = absurd (omega arith)
swapped f M free (x ∷ xs) all zero zero before within c = absurd (omega arith)
swapped f M free (x ∷ xs) all zero (suc j) before within c = exchanged f M free x (All-head M x xs all) xs (All-tail M x xs all) j (omega arith) c
swapped f M free (x ∷ xs) all (suc i) zero before within c = absurd (omega arith)
swapped f M free (x ∷ xs) all (suc i) (suc j) before within c =
    ap (λ ys. fold f (f c x) ys) (swap_is xs i j x (omega arith) (omega arith)) ∙ swapped f M free xs (All-tail M x xs all) i j (omega arith) (omega arith) (f c x)

swap_back : {A : Type 0} (xs : List A) (i j : ℕ) → i ≢ j → swap xs i j ≡ swap xs j i
swap_back [] i j apart = refl
swap_back (d ∷ ys) i j apart = set_comm (d ∷ ys) i j (get_or (d ∷ ys) j d) (get_or (d ∷ ys) i d) apart

swap_none : {A : Type 0} (xs : List A) (i : ℕ) → swap xs i i ≡ xs
swap_none [] i = refl
swap_none (d ∷ ys) i = ap (λ zs. set zs i (get_or (d ∷ ys) i d)) (set-get_or (d ∷ ys) i d) ∙ set-get_or (d ∷ ys) i d

any_swap : {A B : Type 0} (f : B → A → B) (M : A → Type 0) → Commute f M → (xs : List A) → All M xs → (i j : ℕ) → i < length xs → j < length xs → (c : B) → fold f c (swap xs i j) ≡ fold f c xs
any_swap f M free xs all i j in_i in_j c = elim (cases_order i j) [
  | inl same ↦ ap (λ (k : ℕ). fold f c (swap xs i k)) (sym same) ∙ ap (fold f c) (swap_none xs i)
  | inr other ↦ elim other [
    | inl before ↦ swapped f M free xs all i j before in_j c
    | inr after ↦ (let apart : i ≢ j = omega arith in ap (fold f c) (swap_back xs i j apart) ∙ swapped f M free xs all j i after in_i c)
  ]
]

-- the members in any order
pub any_order : {A B : Type 0} (f : B → A → B) (M : A → Type 0) → Commute f M → (xs ys : List A) → All M xs → IsPermutation xs ys → (c : B) → fold f c ys ≡ fold f c xs
any_order {A} {B} f M free xs ys all moved =
    (IsPermutation-keeps xs (λ (l : List A). All M l × ((c : B) → fold f c l ≡ fold f c xs)) (all, λ c. refl)
    (λ l i j in_i in_j so_far. (All-permutation M l (swap l i j) (IsPermutation-swap l (swap l i j) i j in_i in_j refl) so_far.0, λ c. any_swap f M free l so_far.0 i j in_i in_j c ∙ so_far.1 c))
    ys moved).1
