-- Lists of links, and how they change.
use Rattle.std.proofs.Common.{◌≡◌, ◌≢◌, ℕ, zero, suc, ◌+◌, ◌-◌, ◌*◌, ◌/◌, ◌%◌, ◌<◌, List, [], ◌∷◌, ◌++◌, ◌⊎◌, inl, inr, Option, Some, None, length, set, refl, sym, ap, ◌∙◌, subst, arith, append_assoc, length-append, length-set}
use Rattle.std.specs.Prelude.{slice_get}
use Rattle.std.proofs.lemmas.Option.{slice_get_within}
use Rattle.std.proofs.lemmas.Bool.{cases_eq, cases_lt, ne_eqb}
use Rattle.sat_base.specs.Literal.{Literal}
use Rattle.sat_base.proofs.Sets.{cases_literal}
use Rattle.watch_lists.specs.Watched.{Watched, OccursBetween, IsAdded, EachLinkOnce, list_of}
use Rattle.watch_lists.specs.Chains.{IsIn, Follows}
use Rattle.cdcl.specs.Linked.{IsTied, other_link}

-- ---- items of lists

pub get_left : {X : Type 0} (xs ys : List X) (k : ℕ) (x : X) → slice_get xs k ≡ Some x → slice_get (xs ++ ys) k ≡ Some x
get_left [] ys k x e = absurd cc
get_left (y ∷ xs) ys zero x e = e
get_left (y ∷ xs) ys (suc k) x e = get_left xs ys k x e

pub get_within : {X : Type 0} (xs ys : List X) (k : ℕ) (x : X) → k < length xs → slice_get (xs ++ ys) k ≡ Some x → slice_get xs k ≡ Some x
get_within [] ys k x less e = absurd (omega arith)
get_within (y ∷ xs) ys zero x less e = e
get_within (y ∷ xs) ys (suc k) x less e = get_within xs ys k x (omega arith) e

pub get_past : {X : Type 0} (xs ys : List X) (k j : ℕ) → k ≡ length xs + j → slice_get (xs ++ ys) k ≡ slice_get ys j
get_past [] ys k j e = let same : k ≡ j = omega arith in ap (slice_get ys) same
get_past (x ∷ xs) ys zero j e = absurd (omega arith)
get_past (x ∷ xs) ys (suc k) j e = get_past xs ys k j (omega arith)

pub get_there : {X : Type 0} (xs : List X) (k : ℕ) → k < length xs → (x : X) × (slice_get xs k ≡ Some x)
get_there [] k less = absurd (omega arith)
get_there (x ∷ xs) zero less = (x, refl)
get_there (x ∷ xs) (suc k) less = get_there xs k (omega arith)

pub get_set_same : {X : Type 0} (xs : List X) (k : ℕ) (x : X) → k < length xs → slice_get (set xs k x) k ≡ Some x
get_set_same [] k x less = absurd (omega arith)
get_set_same (y ∷ xs) zero x less = refl
get_set_same (y ∷ xs) (suc k) x less = get_set_same xs k x (omega arith)

pub get_set_other : {X : Type 0} (xs : List X) (k j : ℕ) (x : X) → j ≢ k → slice_get (set xs k x) j ≡ slice_get xs j
get_set_other [] k j x ne = refl
get_set_other (y ∷ xs) zero zero x ne = absurd (ne refl)
get_set_other (y ∷ xs) zero (suc j) x ne = refl
get_set_other (y ∷ xs) (suc k) zero x ne = refl
get_set_other (y ∷ xs) (suc k) (suc j) x ne = get_set_other xs k j x (λ e. ne (ap suc e))

-- ---- the other link

pub other_cases : (link : ℕ) → ((link % 2 ≡ 0) × (other_link link ≡ link + 1)) ⊎ ((link % 2 ≡ 1) × (other_link link ≡ link - 1))
other_cases link = elim (cases_eq (link % 2) 0) [
  | inl even ↦ inl (even, rw even refl)
  | inr odd ↦ inr (omega arith, rw (ne_eqb (link % 2) 0 odd) refl)
]

pub other_half : (link : ℕ) → other_link link / 2 ≡ link / 2
other_half link = elim (other_cases link) [
  | inl e ↦ let parity = e.0 in let is = e.1 in omega arith
  | inr e ↦ let parity = e.0 in let is = e.1 in omega arith
]

pub other_other : (link : ℕ) → other_link (other_link link) ≡ link
other_other link = elim (other_cases link) [
  | inl e ↦ let parity = e.0 in let is = e.1 in elim (other_cases (other_link link)) [
    | inl f ↦ let more = f.0 in absurd (omega arith)
    | inr f ↦ let more = f.1 in omega arith
  ]
  | inr e ↦ let parity = e.0 in let is = e.1 in elim (other_cases (other_link link)) [
    | inl f ↦ let more = f.1 in omega arith
    | inr f ↦ let more = f.0 in absurd (omega arith)
  ]
]

pub other_differs : (link : ℕ) → other_link link ≢ link
other_differs link same = elim (other_cases link) [
  | inl e ↦ let parity = e.0 in let is = e.1 in omega arith
  | inr e ↦ let parity = e.0 in let is = e.1 in omega arith
]

pub other_within : (link n : ℕ) → link < 2 * n → other_link link < 2 * n
other_within link n less = elim (other_cases link) [
  | inl e ↦ let parity = e.0 in let is = e.1 in omega arith
  | inr e ↦ let parity = e.0 in let is = e.1 in omega arith
]

-- ---- members of a list

pub IsIn_middle : (front back : List ℕ) (link : ℕ) → IsIn link (front ++ link ∷ back)
IsIn_middle [] back link = inl refl
IsIn_middle (x ∷ front) back link = inr (IsIn_middle front back link)

pub around : (xs : List ℕ) (link : ℕ) → IsIn link xs → (front : List ℕ) × ((back : List ℕ) × (xs ≡ front ++ link ∷ back))
around [] link is = absurd is
around (x ∷ xs) link (inl e) = ([], (xs, ap (λ (y : ℕ). y ∷ xs) e))
around (x ∷ xs) link (inr later) = let h = around xs link later in (x ∷ h.0, (h.1.0, ap (λ (ys : List ℕ). x ∷ ys) h.1.1))

pub IsIn-append : (xs ys : List ℕ) (link : ℕ) → IsIn link (xs ++ ys) → IsIn link xs ⊎ IsIn link ys
IsIn-append [] ys link is = inr is
IsIn-append (x ∷ xs) ys link (inl e) = inl (inl e)
IsIn-append (x ∷ xs) ys link (inr later) = elim (IsIn-append xs ys link later) [ inl h ↦ inl (inr h) | inr h ↦ inr h ]

pub IsIn-left : (xs ys : List ℕ) (link : ℕ) → IsIn link xs → IsIn link (xs ++ ys)
IsIn-left [] ys link is = absurd is
IsIn-left (x ∷ xs) ys link (inl e) = inl e
IsIn-left (x ∷ xs) ys link (inr later) = inr (IsIn-left xs ys link later)

pub IsIn-right : (xs ys : List ℕ) (link : ℕ) → IsIn link ys → IsIn link (xs ++ ys)
IsIn-right [] ys link is = is
IsIn-right (x ∷ xs) ys link is = inr (IsIn-right xs ys link is)

pub no_item : (xs : List ℕ) → slice_get xs 0 ≡ None → xs ≡ []
no_item [] e = refl
no_item (x ∷ xs) e = absurd cc

pub begins : (xs : List ℕ) (link : ℕ) → slice_get xs 0 ≡ Some link → (rest : List ℕ) × (xs ≡ link ∷ rest)
begins [] link e = absurd cc
begins (x ∷ xs) link e = (xs, ap (λ (o : Option ℕ). (elim o as (λ _. List ℕ) [ Some y ↦ y ∷ xs | None ↦ [] ])) e)

-- ---- a link is in the list of its literal alone

-- two decompositions of a list around a link that is in it once
pub once_in : (watched : Watched) (literal : Literal) (link : ℕ) (front back : List ℕ) → EachLinkOnce watched → OccursBetween watched link literal front back → (IsIn link front → ⊥) × (IsIn link back → ⊥)
once_in watched literal link front back once occurs = (before, after)
  where
    before : IsIn link front → ⊥
    before is =
        let h = around front link is in
        let again : list_of watched literal ≡ h.0 ++ link ∷ (h.1.0 ++ link ∷ back) = occurs.1 ∙ ap (λ (xs : List ℕ). xs ++ link ∷ back) h.1.1 ∙ append_assoc h.0 (link ∷ h.1.0) (link ∷ back) in
        let same = ap length (once.once link literal literal front back h.0 (h.1.0 ++ link ∷ back) occurs (occurs.0, again)).1 in
        let lengths = ap length h.1.1 in
        omega (arith, length-append h.0 (link ∷ h.1.0), length-append h.1.0 (link ∷ back))

    after : IsIn link back → ⊥
    after is =
        let h = around back link is in
        let again : list_of watched literal ≡ (front ++ link ∷ h.0) ++ link ∷ h.1.0 = occurs.1 ∙ ap (λ (xs : List ℕ). front ++ link ∷ xs) h.1.1 ∙ sym (append_assoc front (link ∷ h.0) (link ∷ h.1.0)) in
        let same = ap length (once.once link literal literal front back (front ++ link ∷ h.0) h.1.0 occurs (occurs.0, again)).1 in
        omega (arith, length-append front (link ∷ h.0))

no_middle : (front back : List ℕ) (link : ℕ) → front ++ link ∷ back ≡ [] → ⊥
no_middle [] back link e = cc
no_middle (x ∷ front) back link e = cc

-- more variables have empty lists
pub tied_vars : (old new : Watched) (literals : List Literal) → IsTied old literals → new.clauses ≡ old.clauses → ((literal : Literal) → old.vars < literal.var → list_of new literal ≡ [])
    → ((literal : Literal) → IsAdded old literal → list_of new literal ≡ list_of old literal) → IsTied new literals
tied_vars old new literals tied clauses empty others = record {
  count = tied.count ∙ ap (λ (n : ℕ). 2 * n) (sym clauses);
  own = λ link literal front back occurs. elim (cases_lt old.vars literal.var) [
    | inl beyond ↦ absurd (no_middle front back link (sym occurs.1 ∙ empty literal beyond))
    | inr within ↦
        let added : IsAdded old literal = (occurs.0.0, within) in
        tied.own link literal front back (added, sym (others literal added) ∙ occurs.1)
  ];
}

put_first_cases : (first link : ℕ) (xs front back : List ℕ) → first ∷ xs ≡ front ++ link ∷ back → (link ≡ first) ⊎ ((before : List ℕ) × (xs ≡ before ++ link ∷ back))
put_first_cases first link xs [] back e = inl cc
put_first_cases first link xs (x ∷ front) back e = inr (front, cc)

-- two links more
pub tied_pair : (old new : Watched) (literals : List Literal) (a b : Literal) → IsTied old literals → new.clauses ≡ old.clauses + 1 → new.vars ≡ old.vars → a ≢ b
    → list_of new a ≡ 2 * old.clauses ∷ list_of old a → list_of new b ≡ (2 * old.clauses + 1) ∷ list_of old b
    → ((other : Literal) → IsAdded old other → other ≢ a → other ≢ b → list_of new other ≡ list_of old other) → IsTied new (literals ++ a ∷ b ∷ [])
tied_pair old new literals a b tied clauses vars ne first second others = record {
  count = let n = tied.count in omega (arith, length-append literals (a ∷ b ∷ []));
  own = λ link literal front back occurs.
      let n = tied.count in
      let added : IsAdded old literal = (occurs.0.0, omega (arith, occurs.0.1)) in
      elim (cases_literal literal a) [
        | inl e ↦ elim (put_first_cases (2 * old.clauses) link (list_of old a) front back (sym first ∙ ap (list_of new) (sym e) ∙ occurs.1)) [
          | inl here ↦ get_past literals (a ∷ b ∷ []) link 0 (omega arith) ∙ ap Some (sym e)
          | inr later ↦ get_left literals (a ∷ b ∷ []) link literal (tied.own link literal later.0 back (added, ap (list_of old) e ∙ later.1))
        ]
        | inr not_a ↦ elim (cases_literal literal b) [
          | inl e ↦ elim (put_first_cases (2 * old.clauses + 1) link (list_of old b) front back (sym second ∙ ap (list_of new) (sym e) ∙ occurs.1)) [
            | inl here ↦ get_past literals (a ∷ b ∷ []) link 1 (omega arith) ∙ ap Some (sym e)
            | inr later ↦ get_left literals (a ∷ b ∷ []) link literal (tied.own link literal later.0 back (added, ap (list_of old) e ∙ later.1))
          ]
          | inr not_b ↦ get_left literals (a ∷ b ∷ []) link literal (tied.own link literal front back (added, sym (others literal added not_a not_b) ∙ occurs.1))
        ]
      ];
}

-- the two parts of a list around a link that was taken out
parts_again : (front back start rest : List ℕ) (link : ℕ) → front ++ back ≡ start ++ link ∷ rest → (taken : ℕ)
    → (f : List ℕ) × ((b : List ℕ) × (front ++ taken ∷ back ≡ f ++ link ∷ b))
parts_again front back start rest link e taken =
    elim (IsIn-append front back link (subst (IsIn link) (sym e) (IsIn_middle start rest link))) [
      | inl h ↦ around (front ++ taken ∷ back) link (IsIn-left front (taken ∷ back) link h)
      | inr h ↦ around (front ++ taken ∷ back) link (IsIn-right front (taken ∷ back) link (inr h))
    ]

-- a link moves to another list
pub tied_moved : (old new : Watched) (literals : List Literal) (literal to : Literal) (link : ℕ) (front back : List ℕ) → IsTied old literals → EachLinkOnce old → new.clauses ≡ old.clauses → new.vars ≡ old.vars → literal ≢ to
    → IsAdded old literal → IsAdded old to → list_of old literal ≡ front ++ link ∷ back → list_of new literal ≡ front ++ back → list_of new to ≡ link ∷ list_of old to
    → ((other : Literal) → IsAdded old other → other ≢ literal → other ≢ to → list_of new other ≡ list_of old other) → IsTied new (set literals link to)
tied_moved old new literals literal to link front back tied once clauses vars ne here there split left right others =
    let mine : OccursBetween old link literal front back = (here, split) in
    let at : slice_get literals link ≡ Some literal = tied.own link literal front back mine in
    let within = slice_get_within literals link literal at in
    let alone = once_in old literal link front back once mine in
    record {
      count = length-set literals link to ∙ tied.count ∙ ap (λ (n : ℕ). 2 * n) (sym clauses);
      own = λ x q f b occurs.
          let added : IsAdded old q = (occurs.0.0, omega (arith, occurs.0.1)) in
          elim (cases_literal q literal) [
            | inl e ↦
                let short : front ++ back ≡ f ++ x ∷ b = sym left ∙ ap (list_of new) (sym e) ∙ occurs.1 in
                let again = parts_again front back f b x short link in
                let old_occurs : OccursBetween old x q again.0 again.1.0 = (added, ap (list_of old) e ∙ split ∙ again.1.1) in
                let apart : x ≢ link = λ same. elim (IsIn-append front back link (subst (IsIn link) (sym short) (subst (λ (y : ℕ). IsIn link (f ++ y ∷ b)) (sym same) (IsIn_middle f b link)))) [ inl h ↦ alone.0 h | inr h ↦ alone.1 h ] in
                get_set_other literals link x to apart ∙ tied.own x q again.0 again.1.0 old_occurs
            | inr not_here ↦ elim (cases_literal q to) [
              | inl e ↦ elim (put_first_cases link x (list_of old to) f b (sym right ∙ ap (list_of new) (sym e) ∙ occurs.1)) [
                | inl same ↦ subst (λ (y : ℕ). slice_get (set literals link to) y ≡ Some q) (sym same) (get_set_same literals link to within ∙ ap Some (sym e))
                | inr later ↦
                    let old_occurs : OccursBetween old x q later.0 b = (added, ap (list_of old) e ∙ later.1) in
                    let apart : x ≢ link = λ same. not_here (once.once link q literal later.0 b front back (subst (λ (y : ℕ). OccursBetween old y q later.0 b) same old_occurs) mine).0 in
                    get_set_other literals link x to apart ∙ tied.own x q later.0 b old_occurs
              ]
              | inr not_there ↦
                  let old_occurs : OccursBetween old x q f b = (added, sym (others q added not_here not_there) ∙ occurs.1) in
                  let apart : x ≢ link = λ same. not_here (once.once link q literal f b front back (subst (λ (y : ℕ). OccursBetween old y q f b) same old_occurs) mine).0 in
                  get_set_other literals link x to apart ∙ tied.own x q f b old_occurs
            ]
          ];
    }

-- a link that comes after another one, or first, is in the list
pub follows_split : (before : Option ℕ) (link : ℕ) (xs : List ℕ) → Follows before link xs → (front : List ℕ) × ((back : List ℕ) × (xs ≡ front ++ link ∷ back))
follows_split None link xs follows = ([], follows)
follows_split (Some b) link xs follows = (follows.0 ++ b ∷ [], (follows.1.0, follows.1.1 ∙ sym (append_assoc follows.0 (b ∷ []) (link ∷ follows.1.0))))
