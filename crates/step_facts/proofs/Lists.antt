-- Lists of any members: what they contain, and how many pass a test.
use Rattle.std.proofs.Common.{◌≡◌, ◌≢◌, ℕ, zero, suc, ◌+◌, ◌-◌, ◌<◌, ◌≤◌, Bool, true, false, cond, ◌||◌, List, [], ◌∷◌, ◌++◌, length, map, slice_index_or, arith, refl, sym, ap, subst, ◌∙◌, inl, inr}
use Rattle.std.specs.Prelude.{AllPairs, Contains, IsPermutation, filter, sum_by, ◌↔◌, ◌⊎◌}
use Rattle.std.specs.List.{flat_map, range_with_len, list_any}
use Rattle.std.proofs.lemmas.Bool.{cases_Bool, cases_order, or_parts, false_from_ne_true}
use Rattle.std.proofs.lemmas.List.{get_or_default, get_or-map, length-map}
use Rattle.std.proofs.lemmas.List.Elements.{Contains-get_or, Contains-append_cases, Contains-append_left, Contains-append_right}
use Rattle.std.proofs.lemmas.List.Folds.{Any-from_list_any, list_any_at}
use Rattle.std.proofs.lemmas.List.FromFn.{length-range_with_len, get_or-range_with_len}
use Rattle.std.proofs.lemmas.List.Kept.{AllPairs-cons, AllPairs-filter}
use Rattle.std.proofs.lemmas.List.Sorted.{sum_by-IsPermutation}
use Rattle.std.proofs.lemmas.List.Sums.{sum_by-cons}
use Rattle.qc_base.specs.Counting.{how_many}

-- ---- what lists contain

pub Contains-first : {X : Type 0} (x : X) (xs : List X) → Contains (x ∷ xs) x
Contains-first x xs = (0, omega arith, refl)

pub Contains-later : {X : Type 0} (x : X) (xs : List X) (y : X) → Contains xs y → Contains (x ∷ xs) y
Contains-later x xs y c = (suc c.0, omega arith, c.2)

pub Contains-nil : {X : Type 0} (y : X) → Contains [] y → ⊥
Contains-nil y c = omega arith

first_or_later : {X : Type 0} (x : X) (xs : List X) (y : X) (k : ℕ) → k < length (x ∷ xs) → slice_index_or (x ∷ xs) k y ≡ y → (x ≡ y) ⊎ Contains xs y
first_or_later x xs y zero l e = inl e
first_or_later x xs y (suc k) l e = inr (k, omega arith, e)

pub Contains-cons : {X : Type 0} (x : X) (xs : List X) (y : X) → Contains (x ∷ xs) y ↔ ((x ≡ y) ⊎ Contains xs y)
Contains-cons x xs y = (
  λ c. first_or_later x xs y c.0 c.1 c.2,
  λ s. elim s [
    | inl e ↦ (0, omega arith, e)
    | inr c ↦ Contains-later x xs y c
  ],
)

pub range_within : (low n i : ℕ) → Contains (range_with_len low n) i → (low ≤ i) × (i < low + n)
range_within low n i c =
    let long : length (range_with_len low n) ≡ n = length-range_with_len low n in
    let it : slice_index_or (range_with_len low n) c.0 i ≡ low + c.0 = get_or-range_with_len low n c.0 i (omega arith) in
    (omega (arith, c.2), omega (arith, c.2))

pub in_range : (low n i : ℕ) → low ≤ i → i < low + n → Contains (range_with_len low n) i
in_range low n i above below =
    let long : length (range_with_len low n) ≡ n = length-range_with_len low n in
    let sum : low + (i - low) ≡ i = omega arith in
    (i - low, omega arith, get_or-range_with_len low n (i - low) i (omega arith) ∙ sum)

pub Contains-range : (n i : ℕ) → Contains (range_with_len 0 n) i ↔ (i < n)
Contains-range n i = (λ c. let within = range_within 0 n i c in omega arith, λ h. in_range 0 n i (omega arith) (omega arith))

filter_has : {X : Type 0} (test : X → Bool) (xs : List X) (x : X) → Contains (filter test xs) x → Contains xs x × (test x ≡ true)
filter_has test [] x c = absurd (Contains-nil x c)
filter_has test (y ∷ ys) x c = elim (cases_Bool (test y)) [
  | inl passes ↦ elim ((Contains-cons y (filter test ys) x).0 (rw passes at c)) [
    | inl e ↦ ((0, omega arith, e), ap test (sym e) ∙ passes)
    | inr later ↦ let it = filter_has test ys x later in (Contains-later y ys x it.0, it.1)
  ]
  | inr fails ↦ let it = filter_has test ys x (rw fails at c) in (Contains-later y ys x it.0, it.1)
]

in_filter : {X : Type 0} (test : X → Bool) (xs : List X) (x : X) → Contains xs x → test x ≡ true → Contains (filter test xs) x
in_filter test [] x c passes = absurd (Contains-nil x c)
in_filter test (y ∷ ys) x c passes = elim (cases_Bool (test y)) [
  | inl here ↦ elim ((Contains-cons y ys x).0 c) [
    | inl e ↦ rw here (0, omega arith, e)
    | inr later ↦ rw here (Contains-later y (filter test ys) x (in_filter test ys x later passes))
  ]
  | inr fails ↦ elim ((Contains-cons y ys x).0 c) [
    | inl e ↦ absurd cc
    | inr later ↦ rw fails (in_filter test ys x later passes)
  ]
]

pub Contains-filter : {X : Type 0} (test : X → Bool) (xs : List X) (x : X) → Contains (filter test xs) x ↔ (Contains xs x × (test x ≡ true))
Contains-filter test xs x = (filter_has test xs x, λ h. in_filter test xs x h.0 h.1)

-- a member of the list that is mapped to it
pub record IsImage {X Y : Type 0} (f : X → Y) (xs : List X) (y : Y) : Type 0 where
  pub member : X
  pub there : Contains xs member
  pub is : f member ≡ y

map_has : {X Y : Type 0} (f : X → Y) (xs : List X) (y : Y) → Contains (map f xs) y → IsImage f xs y
map_has f [] y c = absurd (Contains-nil y c)
map_has f (x ∷ xs) y c = elim ((Contains-cons (f x) (map f xs) y).0 c) [
  | inl e ↦ record { member = x; there = Contains-first x xs; is = e }
  | inr later ↦ let it = map_has f xs y later in record { member = it.member; there = Contains-later x xs it.member it.there; is = it.is }
]

pub in_map : {X Y : Type 0} (f : X → Y) (xs : List X) (x : X) → Contains xs x → Contains (map f xs) (f x)
in_map f xs x c = (c.0, rw length-map c.1, get_or-map f xs c.0 x (f x) c.1 ∙ ap f c.2)

pub Contains-map : {X Y : Type 0} (f : X → Y) (xs : List X) (y : Y) → Contains (map f xs) y ↔ IsImage f xs y
Contains-map f xs y = (map_has f xs y, λ it. rw it.is at (in_map f xs it.member it.there))

-- a member of the list whose list has it
pub record IsWithinImage {X Y : Type 0} (f : X → List Y) (xs : List X) (y : Y) : Type 0 where
  pub member : X
  pub there : Contains xs member
  pub in_image : Contains (f member) y

flat_map_has : {X Y : Type 0} (f : X → List Y) (xs : List X) (y : Y) → Contains (flat_map f xs) y → IsWithinImage f xs y
flat_map_has f [] y c = absurd (Contains-nil y c)
flat_map_has f (x ∷ xs) y c = elim (Contains-append_cases (f x) (flat_map f xs) y c) [
  | inl here ↦ record { member = x; there = Contains-first x xs; in_image = here }
  | inr later ↦ let it = flat_map_has f xs y later in record { member = it.member; there = Contains-later x xs it.member it.there; in_image = it.in_image }
]

pub in_flat_map : {X Y : Type 0} (f : X → List Y) (xs : List X) (x : X) (y : Y) → Contains xs x → Contains (f x) y → Contains (flat_map f xs) y
in_flat_map f [] x y c within = absurd (Contains-nil x c)
in_flat_map f (z ∷ zs) x y c within = elim ((Contains-cons z zs x).0 c) [
  | inl e ↦ Contains-append_left (f z) (flat_map f zs) y (rw (← e) at within)
  | inr later ↦ Contains-append_right (f z) (flat_map f zs) y (in_flat_map f zs x y later within)
]

pub Contains-flat_map : {X Y : Type 0} (f : X → List Y) (xs : List X) (y : Y) → Contains (flat_map f xs) y ↔ IsWithinImage f xs y
Contains-flat_map f xs y = (flat_map_has f xs y, λ it. in_flat_map f xs it.member y it.there it.in_image)

pub list_any-some : {X : Type 0} (test : X → Bool) (xs : List X) (x : X) → Contains xs x → test x ≡ true → list_any test xs ≡ true
list_any-some test xs x c passes = list_any_at test xs c.0 x c.1 (ap test c.2 ∙ passes)

-- a member that passes the test
pub record SomePass {X : Type 0} (test : X → Bool) (xs : List X) : Type 0 where
  pub member : X
  pub there : Contains xs member
  pub passes : test member ≡ true

pub list_any-found : {X : Type 0} (test : X → Bool) (xs : List X) → list_any test xs ≡ true → SomePass test xs
list_any-found test xs some = let it = Any-from_list_any test xs some in record { member = it.1; there = (it.0, it.2, it.3); passes = it.4 }

-- ---- lists without repeats

abbrev pub AreDifferent : {X : Type 0} → List X → Type 0
AreDifferent xs = AllPairs (λ x y. x ≢ y) xs

-- the first with each later one, and the later ones by themselves
pub AllPairs-first : {X : Type 0} (R : X → X → Type 0) (x : X) (xs : List X) → ((y : X) → Contains xs y → R x y) → AllPairs R xs → AllPairs R (x ∷ xs)
AllPairs-first R x xs first later = AllPairs-cons R x xs (λ k d h. first (slice_index_or xs k d) (Contains-get_or xs k d h)) later

pub AllPairs-head : {X : Type 0} (R : X → X → Type 0) (x : X) (xs : List X) (y : X) → AllPairs R (x ∷ xs) → Contains xs y → R x y
AllPairs-head R x xs y all c = subst (λ z. R x z) c.2 (all 0 (suc c.0) y (omega arith) (omega arith))

pub AllPairs-tail : {X : Type 0} (R : X → X → Type 0) (x : X) (xs : List X) → AllPairs R (x ∷ xs) → AllPairs R xs
AllPairs-tail R x xs all = λ i j d l h. all (suc i) (suc j) d (omega arith) (omega arith)

pub AreDifferent-range : (low n : ℕ) → AreDifferent (range_with_len low n)
AreDifferent-range low zero = λ i j d l h. absurd (omega arith)
AreDifferent-range low (suc n) = AllPairs-first (λ x y. x ≢ y) low (range_with_len (low + 1) n) (λ y c e. let within = range_within (low + 1) n y c in omega arith) (AreDifferent-range (low + 1) n)

pub AreDifferent-filter : {X : Type 0} (test : X → Bool) (xs : List X) → AreDifferent xs → AreDifferent (filter test xs)
AreDifferent-filter test xs different = AllPairs-filter (λ x y. x ≢ y) test xs different

pub AreDifferent-map : {X Y : Type 0} (f : X → Y) (xs : List X) → ((x y : X) → Contains xs x → Contains xs y → f x ≡ f y → x ≡ y) → AreDifferent xs
    → AreDifferent (map f xs)
AreDifferent-map f [] one different = λ i j d l h. absurd (omega arith)
AreDifferent-map f (x ∷ xs) one different =
    AllPairs-first (λ a b. a ≢ b) (f x) (map f xs)
    (λ y c e. let it = map_has f xs y c in
    AllPairs-head (λ a b. a ≢ b) x xs it.member different it.there
    (one x it.member (Contains-first x xs) (Contains-later x xs it.member it.there) (e ∙ sym it.is)))
    (AreDifferent-map f xs (λ a b p q. one a b (Contains-later x xs a p) (Contains-later x xs b q)) (AllPairs-tail (λ a b. a ≢ b) x xs different))

pub AreDifferent-append : {X : Type 0} (xs ys : List X) → AreDifferent xs → AreDifferent ys → ((x : X) → Contains xs x → Contains ys x → ⊥)
    → AreDifferent (xs ++ ys)
AreDifferent-append [] ys left right apart = right
AreDifferent-append (x ∷ xs) ys left right apart =
    AllPairs-first (λ a b. a ≢ b) x (xs ++ ys)
    (λ y c e. elim (Contains-append_cases xs ys y c) [
      | inl here ↦ AllPairs-head (λ a b. a ≢ b) x xs y left here e
      | inr there ↦ apart y (0, omega arith, e) there
    ])
    (AreDifferent-append xs ys (AllPairs-tail (λ a b. a ≢ b) x xs left) right (λ z p q. apart z (Contains-later x xs z p) q))

pub AreDifferent-flat_map : {X Y : Type 0} (f : X → List Y) (xs : List X) → AreDifferent xs → ((x : X) → Contains xs x → AreDifferent (f x))
    → ((x y : X) (z : Y) → Contains xs x → Contains xs y → Contains (f x) z → Contains (f y) z → x ≡ y) → AreDifferent (flat_map f xs)
AreDifferent-flat_map f [] different each one = λ i j d l h. absurd (omega arith)
AreDifferent-flat_map f (x ∷ xs) different each one =
    AreDifferent-append (f x) (flat_map f xs) (each x (Contains-first x xs))
    (AreDifferent-flat_map f xs (AllPairs-tail (λ a b. a ≢ b) x xs different) (λ y c. each y (Contains-later x xs y c))
    (λ a b z p q. one a b z (Contains-later x xs a p) (Contains-later x xs b q)))
    (λ z p q. let it = flat_map_has f xs z q in
    AllPairs-head (λ a b. a ≢ b) x xs it.member different it.there
    (one x it.member z (Contains-first x xs) (Contains-later x xs it.member it.there) p it.in_image))

-- each member with each later one, from a law of different members
pub AllPairs-map : {X Y : Type 0} (R : Y → Y → Type 0) (f : X → Y) (xs : List X) → AreDifferent xs
    → ((x y : X) → Contains xs x → Contains xs y → x ≢ y → R (f x) (f y)) → AllPairs R (map f xs)
AllPairs-map R f [] different law = λ i j d l h. absurd (omega arith)
AllPairs-map R f (x ∷ xs) different law =
    AllPairs-first R (f x) (map f xs)
    (λ y c. let it = map_has f xs y c in
    subst (λ z. R (f x) z) it.is
    (law x it.member (Contains-first x xs) (Contains-later x xs it.member it.there) (AllPairs-head (λ a b. a ≢ b) x xs it.member different it.there)))
    (AllPairs-map R f xs (AllPairs-tail (λ a b. a ≢ b) x xs different) (λ a b p q. law a b (Contains-later x xs a p) (Contains-later x xs b q)))

-- two members are one, or the relation holds of them in one order or the other
pub AllPairs-members : {X : Type 0} (R : X → X → Type 0) (xs : List X) (x y : X) → AllPairs R xs → Contains xs x → Contains xs y
    → (x ≡ y) ⊎ (R x y ⊎ R y x)
AllPairs-members R xs x y all in_x in_y = elim (cases_order in_x.0 in_y.0) [
  | inl same ↦ inl (sym in_x.2 ∙ get_or_default xs in_x.0 x y in_x.1 ∙ ap (λ k. slice_index_or xs k y) same ∙ in_y.2)
  | inr apart ↦ elim apart [
    | inl before ↦ inr (inl (rw (in_x.2, get_or_default xs in_y.0 x y in_y.1 ∙ in_y.2) at (all in_x.0 in_y.0 x before in_y.1)))
    | inr after ↦ inr (inr (rw (in_x.2, get_or_default xs in_y.0 x y in_y.1 ∙ in_y.2) at (all in_y.0 in_x.0 x after in_x.1)))
  ]
]

-- ---- how many pass a test

pub how_many_pass : {X : Type 0} (test : X → Bool) (xs : List X) (x : X) → Contains xs x → test x ≡ true → 1 ≤ how_many test xs
how_many_pass test [] x c passes = absurd (Contains-nil x c)
how_many_pass test (y ∷ ys) x c passes = elim ((Contains-cons y ys x).0 c) [
  | inl e ↦ let here : test y ≡ true = ap test e ∙ passes in rw here (omega arith)
  | inr later ↦ omega (arith, how_many_pass test ys x later passes)
]

two_pass : {X : Type 0} (test : X → Bool) (x : X) (xs : List X) (y : X) → how_many test (x ∷ xs) ≤ 1 → test x ≡ true → Contains xs y → test y ≡ true → ⊥
two_pass test x xs y few first later passes =
    let few_later : 1 + how_many test xs ≤ 1 = rw first at few in
    omega (arith, how_many_pass test xs y later passes)

pub at_most_one : {X : Type 0} (test : X → Bool) (xs : List X) (x y : X) → how_many test xs ≤ 1 → Contains xs x → Contains xs y
    → test x ≡ true → test y ≡ true → x ≡ y
at_most_one test [] x y few in_x in_y passes_x passes_y = absurd (Contains-nil x in_x)
at_most_one test (z ∷ zs) x y few in_x in_y passes_x passes_y = elim ((Contains-cons z zs x).0 in_x) [
  | inl x_first ↦ elim ((Contains-cons z zs y).0 in_y) [
    | inl y_first ↦ sym x_first ∙ y_first
    | inr y_later ↦ absurd (two_pass test z zs y few (ap test x_first ∙ passes_x) y_later passes_y)
  ]
  | inr x_later ↦ elim ((Contains-cons z zs y).0 in_y) [
    | inl y_first ↦ absurd (two_pass test z zs x few (ap test y_first ∙ passes_y) x_later passes_x)
    | inr y_later ↦ at_most_one test zs x y (omega arith) x_later y_later passes_x passes_y
  ]
]

pub how_many_fail : {X : Type 0} (test : X → Bool) (xs : List X) → ((x : X) → Contains xs x → test x ≡ false) → how_many test xs ≡ 0
how_many_fail test [] fail = refl
how_many_fail test (x ∷ xs) fail = rw (fail x (Contains-first x xs)) (omega (arith, how_many_fail test xs (λ y c. fail y (Contains-later x xs y c))))

pub at_most_one-from : {X : Type 0} (test : X → Bool) (xs : List X) → AreDifferent xs
    → ((x y : X) → Contains xs x → Contains xs y → test x ≡ true → test y ≡ true → x ≡ y) → how_many test xs ≤ 1
at_most_one-from test [] different one = omega arith
at_most_one-from test (x ∷ xs) different one = elim (cases_Bool (test x)) [
  | inl passes ↦
      let none : how_many test xs ≡ 0 = how_many_fail test xs (λ y c. false_from_ne_true (test y) (λ p.
      AllPairs-head (λ a b. a ≢ b) x xs y different c (one x y (Contains-first x xs) (Contains-later x xs y c) passes p))) in
      rw (passes, none) (omega arith)
  | inr fails ↦
      let few : how_many test xs ≤ 1 = at_most_one-from test xs (AllPairs-tail (λ a b. a ≢ b) x xs different) (λ a b p q. one a b (Contains-later x xs a p) (Contains-later x xs b q)) in
      rw fails (omega arith)
]

pub exactly_one : {X : Type 0} (test : X → Bool) (xs : List X) (x : X) → how_many test xs ≤ 1 → Contains xs x → test x ≡ true → how_many test xs ≡ 1
exactly_one test xs x few c passes = omega (arith, how_many_pass test xs x c passes)

pub how_many-map : {X Y : Type 0} (test : Y → Bool) (f : X → Y) (xs : List X) → how_many test (map f xs) ≡ how_many (λ x. test (f x)) xs
how_many-map test f [] = refl
how_many-map test f (x ∷ xs) = ap (λ n. cond (test (f x)) 1 0 + n) (how_many-map test f xs)

pub how_many-append : {X : Type 0} (test : X → Bool) (xs ys : List X) → how_many test (xs ++ ys) ≡ how_many test xs + how_many test ys
how_many-append test [] ys = omega arith
how_many-append test (x ∷ xs) ys = omega (arith, how_many-append test xs ys)

pub how_many-filter : {X : Type 0} (test : X → Bool) (xs : List X) → how_many test xs ≡ length (filter test xs)
how_many-filter test [] = refl
how_many-filter test (x ∷ xs) = elim (cases_Bool (test x)) [
  | inl passes ↦ rw passes (omega (arith, how_many-filter test xs))
  | inr fails ↦ rw fails (omega (arith, how_many-filter test xs))
]

-- no fewer pass a test that is met wherever the other is
pub how_many-weaker : {X : Type 0} (test other : X → Bool) (xs : List X) → ((x : X) → Contains xs x → test x ≡ true → other x ≡ true)
    → how_many test xs ≤ how_many other xs
how_many-weaker test other [] weaker = omega arith
how_many-weaker test other (x ∷ xs) weaker =
    let later : how_many test xs ≤ how_many other xs = how_many-weaker test other xs (λ y c. weaker y (Contains-later x xs y c)) in
    elim (cases_Bool (test x)) [
      | inl passes ↦ rw (passes, weaker x (Contains-first x xs) passes) (omega arith)
      | inr fails ↦ rw fails (omega arith)
    ]

pub how_many-none : {X : Type 0} (test : X → Bool) (xs : List X) → list_any test xs ≡ false → how_many test xs ≡ 0
how_many-none test [] none = refl
how_many-none test (x ∷ xs) none = let parts = or_parts (test x) (list_any test xs) none in rw parts.0 (omega (arith, how_many-none test xs parts.1))

pub how_many-some : {X : Type 0} (test : X → Bool) (xs : List X) → 1 ≤ how_many test xs → list_any test xs ≡ true
how_many-some test xs some = elim (cases_Bool (list_any test xs)) [
  | inl is ↦ is
  | inr none ↦ absurd (omega (arith, how_many-none test xs none))
]

pub how_many_any : {X : Type 0} (test : X → Bool) (xs : List X) → list_any test xs ≡ true → 1 ≤ how_many test xs
how_many_any test xs some = let it = list_any-found test xs some in how_many_pass test xs it.member it.there it.passes

how_many-sum : {X : Type 0} (test : X → Bool) (xs : List X) → sum_by (λ x. cond (test x) 1 0) xs ≡ how_many test xs
how_many-sum test [] = refl
how_many-sum test (x ∷ xs) = omega (arith, sum_by-cons (λ x. cond (test x) 1 0) x xs, how_many-sum test xs)

pub how_many-permutation : {X : Type 0} (test : X → Bool) (xs ys : List X) → IsPermutation xs ys → how_many test ys ≡ how_many test xs
how_many-permutation test xs ys moved =
    sym (how_many-sum test ys) ∙ sum_by-IsPermutation (λ x. cond (test x) 1 0) xs ys moved ∙ how_many-sum test xs

-- tests of which no member passes both
pub how_many-either : {X : Type 0} (test other : X → Bool) (xs : List X) → ((x : X) → test x ≡ true → other x ≡ false)
    → how_many (λ x. test x || other x) xs ≡ how_many test xs + how_many other xs
how_many-either test other [] apart = refl
how_many-either test other (x ∷ xs) apart =
    let later = how_many-either test other xs apart in
    elim (cases_Bool (test x)) [
      | inl passes ↦ rw (passes, apart x passes) (omega (arith, later))
      | inr fails ↦ rw fails (omega (arith, later))
    ]

pub how_many_within : {X : Type 0} (test : X → Bool) (xs : List X) → how_many test xs ≤ length xs
how_many_within test [] = omega arith
how_many_within test (x ∷ xs) = elim (cases_Bool (test x)) [
  | inl passes ↦ rw passes (omega (arith, how_many_within test xs))
  | inr fails ↦ rw fails (omega (arith, how_many_within test xs))
]

-- all members pass
pub how_many_all : {X : Type 0} (test : X → Bool) (xs : List X) → ((x : X) → Contains xs x → test x ≡ true) → how_many test xs ≡ length xs
how_many_all test [] all = refl
how_many_all test (x ∷ xs) all =
    let later : how_many test xs ≡ length xs = how_many_all test xs (λ y c. all y (Contains-later x xs y c)) in
    rw (all x (Contains-first x xs)) (omega arith)

pub filter_all : {X : Type 0} (test : X → Bool) (xs : List X) → ((x : X) → Contains xs x → test x ≡ true) → filter test xs ≡ xs
filter_all test [] all = refl
filter_all test (x ∷ xs) all = rw (all x (Contains-first x xs)) (ap (λ l. x ∷ l) (filter_all test xs (λ y c. all y (Contains-later x xs y c))))

pub filter_none : {X : Type 0} (test : X → Bool) (xs : List X) → ((x : X) → Contains xs x → test x ≡ false) → filter test xs ≡ []
filter_none test [] none = refl
filter_none test (x ∷ xs) none = rw (none x (Contains-first x xs)) (filter_none test xs (λ y c. none y (Contains-later x xs y c)))
