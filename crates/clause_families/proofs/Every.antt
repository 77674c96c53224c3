-- What holds of each member of a list, and lists whose members differ.
use Rattle.std.proofs.Common.{◌≡◌, ◌≢◌, ℕ, zero, suc, ◌+◌, ◌<◌, ◌≤◌, Bool, true, false, cond, List, [], ◌∷◌, ◌++◌, map, refl, ap, sym, ◌∙◌, arith}
use Rattle.std.specs.Prelude.{filter}
use Rattle.std.specs.List.{AllByRecursion, flat_map, range_with_len}
use Rattle.clause_families.specs.Encoded.{Differ}

pub all_append : {X : Type 0} (P : X → Type 0) (xs ys : List X) → AllByRecursion P xs → AllByRecursion P ys → AllByRecursion P (xs ++ ys)
all_append P [] ys a b = b
all_append P (x ∷ xs) ys a b = (a.0, all_append P xs ys a.1 b)

pub all_append_back : {X : Type 0} (P : X → Type 0) (xs ys : List X) → AllByRecursion P (xs ++ ys) → AllByRecursion P xs × AllByRecursion P ys
all_append_back P [] ys a = (tt, a)
all_append_back P (x ∷ xs) ys a = let rest = all_append_back P xs ys a.1 in ((a.0, rest.0), rest.1)

pub all_weaker : {X : Type 0} (Q P : X → Type 0) (xs : List X) → ((x : X) → Q x → P x) → AllByRecursion Q xs → AllByRecursion P xs
all_weaker Q P [] f a = tt
all_weaker Q P (x ∷ xs) f a = (f x a.0, all_weaker Q P xs f a.1)

pub all_both : {X : Type 0} (Q P : X → Type 0) (xs : List X) → AllByRecursion Q xs → AllByRecursion P xs → AllByRecursion (λ x. Q x × P x) xs
all_both Q P [] a b = tt
all_both Q P (x ∷ xs) a b = ((a.0, b.0), all_both Q P xs a.1 b.1)

pub all_always : {X : Type 0} (P : X → Type 0) (xs : List X) → ((x : X) → P x) → AllByRecursion P xs
all_always P [] f = tt
all_always P (x ∷ xs) f = (f x, all_always P xs f)

pub all_map : {X Y : Type 0} (Q : X → Type 0) (P : Y → Type 0) (f : X → Y) (xs : List X) → ((x : X) → Q x → P (f x)) → AllByRecursion Q xs → AllByRecursion P (map f xs)
all_map Q P f [] g a = tt
all_map Q P f (x ∷ xs) g a = (g x a.0, all_map Q P f xs g a.1)

pub all_map_back : {X Y : Type 0} (P : Y → Type 0) (f : X → Y) (xs : List X) → AllByRecursion P (map f xs) → AllByRecursion (λ x. P (f x)) xs
all_map_back P f [] a = tt
all_map_back P f (x ∷ xs) a = (a.0, all_map_back P f xs a.1)

pub all_flat_map : {X Y : Type 0} (Q : X → Type 0) (P : Y → Type 0) (f : X → List Y) (xs : List X) → ((x : X) → Q x → AllByRecursion P (f x)) → AllByRecursion Q xs → AllByRecursion P (flat_map f xs)
all_flat_map Q P f [] g a = tt
all_flat_map Q P f (x ∷ xs) g a = all_append P (f x) (flat_map f xs) (g x a.0) (all_flat_map Q P f xs g a.1)

pub all_flat_map_back : {X Y : Type 0} (P : Y → Type 0) (f : X → List Y) (xs : List X) → AllByRecursion P (flat_map f xs) → AllByRecursion (λ x. AllByRecursion P (f x)) xs
all_flat_map_back P f [] a = tt
all_flat_map_back P f (x ∷ xs) a = let parts = all_append_back P (f x) (flat_map f xs) a in (parts.0, all_flat_map_back P f xs parts.1)

-- what is filtered passes the test
cond_all : {X : Type 0} (Q : X → Type 0) (p : X → Bool) (x : X) (b : Bool) (xs : List X) → p x ≡ b → Q x → AllByRecursion (λ y. Q y × (p y ≡ true)) xs → AllByRecursion (λ y. Q y × (p y ≡ true)) (cond b (x ∷ xs) xs)
cond_all Q p x true xs e q a = ((q, e), a)
cond_all Q p x false xs e q a = a

pub all_filter : {X : Type 0} (Q : X → Type 0) (p : X → Bool) (xs : List X) → AllByRecursion Q xs → AllByRecursion (λ x. Q x × (p x ≡ true)) (filter p xs)
all_filter Q p [] a = tt
all_filter Q p (x ∷ xs) a = cond_all Q p x (p x) (filter p xs) refl a.0 (all_filter Q p xs a.1)

pub all_filter_kept : {X : Type 0} (Q : X → Type 0) (p : X → Bool) (xs : List X) → AllByRecursion Q xs → AllByRecursion Q (filter p xs)
all_filter_kept Q p xs a = all_weaker (λ x. Q x × (p x ≡ true)) Q (filter p xs) (λ x h. h.0) (all_filter Q p xs a)

pub all_range_from : (a n : ℕ) → AllByRecursion (λ k. (a ≤ k) × (k < a + n)) (range_with_len a n)
all_range_from a zero = tt
all_range_from a (suc n) =
    let first : (a ≤ a) × (a < a + suc n) = (omega arith, omega arith) in
    (first, all_weaker (λ k. (a + 1 ≤ k) × (k < a + 1 + n)) (λ k. (a ≤ k) × (k < a + suc n)) (range_with_len (a + 1) n) (λ k h. (omega (arith, h.0), omega (arith, h.1))) (all_range_from (a + 1) n))

pub all_range : (n : ℕ) → AllByRecursion (λ k. k < n) (range_with_len 0 n)
all_range n = all_weaker (λ k. (0 ≤ k) × (k < 0 + n)) (λ k. k < n) (range_with_len 0 n) (λ k h. omega (arith, h.1)) (all_range_from 0 n)

-- ---- members that differ

pub differ_map : {X Y : Type 0} (f : X → Y) (xs : List X) → ((x y : X) → f x ≡ f y → x ≡ y) → Differ xs → Differ (map f xs)
differ_map f [] one d = tt
differ_map f (x ∷ xs) one d = (all_map (λ y. y ≢ x) (λ y. y ≢ f x) f xs (λ y apart e. apart (one y x e)) d.0, differ_map f xs one d.1)

cond_differ : {X : Type 0} (x : X) (b : Bool) (xs : List X) → AllByRecursion (λ y. y ≢ x) xs → Differ xs → Differ (cond b (x ∷ xs) xs)
cond_differ x true xs a d = (a, d)
cond_differ x false xs a d = d

pub differ_filter : {X : Type 0} (p : X → Bool) (xs : List X) → Differ xs → Differ (filter p xs)
differ_filter p [] d = tt
differ_filter p (x ∷ xs) d = cond_differ x (p x) (filter p xs) (all_filter_kept (λ y. y ≢ x) p xs d.0) (differ_filter p xs d.1)

pub differ_range : (a n : ℕ) → Differ (range_with_len a n)
differ_range a zero = tt
differ_range a (suc n) = (all_weaker (λ k. (a + 1 ≤ k) × (k < a + 1 + n)) (λ k. k ≢ a) (range_with_len (a + 1) n) (λ k h e. absurd (omega (arith, h.0))) (all_range_from (a + 1) n), differ_range (a + 1) n)

pub differ_append : {X : Type 0} (xs ys : List X) → Differ xs → Differ ys → AllByRecursion (λ x. AllByRecursion (λ y. y ≢ x) ys) xs → Differ (xs ++ ys)
differ_append [] ys a b apart = b
differ_append (x ∷ xs) ys a b apart = (all_append (λ y. y ≢ x) xs ys a.0 apart.0, differ_append xs ys a.1 b apart.1)

-- parts that say where they come from, of members that differ
pub differ_flat_map : {X Y : Type 0} (from : Y → X) (f : X → List Y) (xs : List X) → ((x : X) → AllByRecursion (λ y. from y ≡ x) (f x)) → ((x : X) → Differ (f x)) → Differ xs → Differ (flat_map f xs)
differ_flat_map from f [] source parts d = tt
differ_flat_map from f (x ∷ xs) source parts d =
    let Q : _ → Type 0 = λ z. z ≢ x in
    let rest = all_flat_map Q (λ y. from y ≢ x) f xs (λ z apart. all_weaker (λ y. from y ≡ z) (λ y. from y ≢ x) (f z) (λ y is e. apart (sym is ∙ e)) (source z)) d.0 in
    differ_append (f x) (flat_map f xs) (parts x) (differ_flat_map from f xs source parts d.1)
    (all_weaker (λ y. from y ≡ x) (λ y. AllByRecursion (λ z. z ≢ y) (flat_map f xs)) (f x) (λ y is. all_weaker (λ z. from z ≢ x) (λ z. z ≢ y) (flat_map f xs) (λ z apart e. apart (ap from e ∙ is)) rest) (source x))
