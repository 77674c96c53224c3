-- The walk through all choices of a list. A choice is open while literals are added to it: it has the literals so
-- far and their positions.
use Rattle.std.proofs.Common.{◌≡◌, ◌≢◌, true, false, ℕ, zero, suc, ◌+◌, ◌-◌, ◌<◌, ◌≤◌, List, [], ◌∷◌, ◌++◌, Option, None, Some, length, map, drop, get_or, refl, sym, ap, ◌∙◌, arith, append_assoc, length-drop}
use Rattle.std.specs.Prelude.{IsSome}
use Rattle.std.specs.Option.{option_to_list}
use Rattle.std.proofs.lemmas.List.{append-nil, map-id, map-append, drop_more, length_push}
use Rattle.sat_base.specs.Literal.{Literal}
use Rattle.sat_base.specs.Clauses.{NameOnly, HasDistinctVariables, HaveDistinctVariables}
use Rattle.sat_base.proofs.Clauses.{HaveDistinctVariables-append}
use Rattle.at_most.specs.Pairwise.{choices}
use Rattle.at_most.proofs.Chosen.{choices_name}

-- the choices of that size that begin with these literals and continue after that position
abbrev pub beginning : List Literal → ℕ → List Literal → ℕ → List (List Literal)
beginning xs size clause from = map (λ rest. clause ++ rest) (choices (size - length clause) (drop from xs))

-- those that were left out where the open choice took a position, the latest first
abbrev pub left_out : List Literal → ℕ → List Literal → List ℕ → List Literal → List (List Literal)
left_out xs size before [] clause = []
left_out xs size before (p ∷ positions) [] = []
left_out xs size before (p ∷ positions) (x ∷ clause) =
    left_out xs size (before ++ x ∷ []) positions clause ++ beginning xs size before (p + 1)

-- what is still to come
abbrev pub to_come : List Literal → ℕ → List Literal → ℕ → List ℕ → List (List Literal)
to_come xs size clause from positions = beginning xs size clause from ++ left_out xs size [] positions clause

choices_short : (size : ℕ) (xs : List Literal) → length xs < size → choices size xs ≡ []
choices_short zero xs h = absurd (omega arith)
choices_short (suc size) [] h = refl
choices_short (suc size) (x ∷ xs) h = rw (choices_short size xs (omega arith), choices_short (suc size) xs (omega arith)) refl

map-same : {X Y : Type 0} (f g : X → Y) (xs : List X) → ((x : X) → f x ≡ g x) → map f xs ≡ map g xs
map-same f g [] same = refl
map-same f g (x ∷ xs) same = rw (same x, map-same f g xs same) refl

map-map : {X Y Z : Type 0} (f : Y → Z) (g : X → Y) (xs : List X) → map f (map g xs) ≡ map (λ x. f (g x)) xs
map-map f g [] = refl
map-map f g (x ∷ xs) = rw (map-map f g xs) refl

-- a full choice is the next one
pub to_come-full : (xs : List Literal) (size : ℕ) (clause : List Literal) (from : ℕ) (positions : List ℕ) → length clause ≡ size → to_come xs size clause from positions ≡ clause ∷ left_out xs size [] positions clause
to_come-full xs size clause from positions full =
    let none : size - length clause ≡ 0 = omega arith in
    rw (none, append-nil clause) refl

-- no choice has too few positions left
pub to_come-short : (xs : List Literal) (size : ℕ) (clause : List Literal) (from : ℕ) (positions : List ℕ) → length xs - from < size - length clause → to_come xs size clause from positions ≡ left_out xs size [] positions clause
to_come-short xs size clause from positions short =
    let few : length (drop from xs) < size - length clause = rw length-drop short in
    rw (choices_short (size - length clause) (drop from xs) few) refl

left_out-push : (xs : List Literal) (size : ℕ) (before : List Literal) (positions : List ℕ) (clause : List Literal) (p : ℕ) (x : Literal) → length positions ≡ length clause
    → left_out xs size before (positions ++ p ∷ []) (clause ++ x ∷ []) ≡ beginning xs size (before ++ clause) (p + 1) ++ left_out xs size before positions clause
left_out-push xs size before [] [] p x same = rw (append-nil before, append-nil (beginning xs size before (p + 1))) refl
left_out-push xs size before [] (y ∷ clause) p x same = cc
left_out-push xs size before (q ∷ positions) [] p x same = cc
left_out-push xs size before (q ∷ positions) (y ∷ clause) p x same =
    let len : length positions ≡ length clause = omega arith in
    rw (left_out-push xs size (before ++ y ∷ []) positions clause p x len, append_assoc before (y ∷ []) clause)
    (append_assoc (beginning xs size (before ++ y ∷ clause) (p + 1)) (left_out xs size (before ++ y ∷ []) positions clause) (beginning xs size before (q + 1)))

-- going back: the last position is left out
pub left_out-back : (xs : List Literal) (size : ℕ) (positions : List ℕ) (clause : List Literal) (p : ℕ) (x : Literal) → length positions ≡ length clause
    → left_out xs size [] (positions ++ p ∷ []) (clause ++ x ∷ []) ≡ to_come xs size clause (p + 1) positions
left_out-back xs size positions clause p x same = left_out-push xs size [] positions clause p x same

-- the walk begins before all choices
pub to_come-start : (xs : List Literal) (size : ℕ) → choices size xs ≡ to_come xs size [] 0 []
to_come-start xs size = let e : size - 0 ≡ size = omega arith in rw e (sym (append-nil (map (λ rest. rest) (choices size xs)) ∙ map-id (choices size xs)))

-- after the last element has left both lists
pub step_back : (xs : List Literal) (size : ℕ) (positions positions' : List ℕ) (clause clause' : List Literal) (p : ℕ) (last : Option Literal)
    → length positions ≡ length clause → positions ≡ positions' ++ p ∷ [] → clause ≡ clause' ++ option_to_list last → (0 < length clause → IsSome last)
    → (left_out xs size [] positions clause ≡ to_come xs size clause' (p + 1) positions') × (length positions' ≡ length clause') × (length clause' ≤ length clause)
step_back xs size positions positions' clause clause' p None same ps cs some =
    let some_left : 0 < length clause = rw (← same, ps, length_push positions' p) (omega arith) in
    absurd (let none : false ≡ true = some some_left in cc)
step_back xs size positions positions' clause clause' p (Some x) same ps cs some =
    let len : length positions' ≡ length clause' =
    let e : length (positions' ++ p ∷ []) ≡ length (clause' ++ x ∷ []) = rw (ps, cs) at same in
    let f : length positions' + 1 ≡ length clause' + 1 = rw (length_push positions' p, length_push clause' x) at e in omega arith in
    (rw (ps, cs) (left_out-back xs size positions' clause' p x len), len, rw (cs, length_push clause' x) (omega arith))

-- going on: the next position is taken, and r further literals are missing
go_on : (xs : List Literal) (size : ℕ) (clause : List Literal) (from : ℕ) (positions : List ℕ) (x : Literal) (r : ℕ) → length positions ≡ length clause → size - length clause ≡ suc r → from < length xs → x ≡ get_or xs from x
    → to_come xs size clause from positions ≡ to_come xs size (clause ++ x ∷ []) (from + 1) (positions ++ from ∷ [])
go_on xs size clause from positions x r same now within found =
    let t : List Literal = drop (from + 1) xs in
    let l : List (List Literal) = left_out xs size [] positions clause in
    let then : size - length (clause ++ x ∷ []) ≡ r = rw (length_push clause x) (omega arith) in
    let here : drop from xs ≡ x ∷ t = drop_more xs from x within ∙ ap (λ y. y ∷ t) (sym found) in
    let taken : map (λ rest. clause ++ rest) (map (λ choice. x ∷ choice) (choices r t)) ≡ map (λ rest. (clause ++ x ∷ []) ++ rest) (choices r t) =
    map-map (λ rest. clause ++ rest) (λ choice. x ∷ choice) (choices r t)
    ∙ map-same (λ choice. clause ++ x ∷ choice) (λ rest. (clause ++ x ∷ []) ++ rest) (choices r t) (λ rest. sym (append_assoc clause (x ∷ []) rest)) in
    rw (left_out-back xs size positions clause from x same, here, then, now)
    (ap (λ y. y ++ l) (map-append (λ rest. clause ++ rest) (map (λ choice. x ∷ choice) (choices r t)) (choices (suc r) t))
    ∙ append_assoc (map (λ rest. clause ++ rest) (map (λ choice. x ∷ choice) (choices r t))) (map (λ rest. clause ++ rest) (choices (suc r) t)) l
    ∙ ap (λ y. y ++ (map (λ rest. clause ++ rest) (choices (suc r) t) ++ l)) taken)

pub to_come-on : (xs : List Literal) (size : ℕ) (clause : List Literal) (from : ℕ) (positions : List ℕ) (x : Literal) → length positions ≡ length clause → length clause < size → from < length xs → x ≡ get_or xs from x
    → to_come xs size clause from positions ≡ to_come xs size (clause ++ x ∷ []) (from + 1) (positions ++ from ∷ [])
to_come-on xs size clause from positions x same room within found =
    go_on xs size clause from positions x (size - length clause - 1) same (omega arith) within found

HaveDistinctVariables-first : (x : Literal) (clauses : List (List Literal)) → NameOnly (λ var. var ≢ x.var) clauses → HaveDistinctVariables clauses → HaveDistinctVariables (map (λ choice. x ∷ choice) clauses)
HaveDistinctVariables-first x [] apart each = tt
HaveDistinctVariables-first x (clause ∷ clauses) apart each = ((apart.0, each.0), HaveDistinctVariables-first x clauses apart.1 each.1)

-- a choice of literals with distinct variables has distinct variables
pub HaveDistinctVariables-choices : (size : ℕ) (xs : List Literal) → HasDistinctVariables xs → HaveDistinctVariables (choices size xs)
HaveDistinctVariables-choices zero xs distinct = (tt, tt)
HaveDistinctVariables-choices (suc size) [] distinct = tt
HaveDistinctVariables-choices (suc size) (x ∷ xs) distinct =
    HaveDistinctVariables-append (map (λ choice. x ∷ choice) (choices size xs)) (choices (suc size) xs)
    (HaveDistinctVariables-first x (choices size xs) (choices_name (λ var. var ≢ x.var) size xs distinct.0) (HaveDistinctVariables-choices size xs distinct.1))
    (HaveDistinctVariables-choices (suc size) xs distinct.1)

-- how much work is left, at most: the tree of all choices from a position on
abbrev pub tree : ℕ → ℕ
tree zero = 1
tree (suc height) = tree height + tree height + tree height

abbrev pub work_at : ℕ → ℕ → ℕ
work_at n from = tree (n - from)

abbrev pub work_left : ℕ → List ℕ → ℕ
work_left n [] = 0
work_left n (p ∷ positions) = work_at n (p + 1) + work_left n positions

pub work_left-push : (n : ℕ) (positions : List ℕ) (p : ℕ) → work_left n (positions ++ p ∷ []) ≡ work_left n positions + work_at n (p + 1)
work_left-push n [] p = omega arith
work_left-push n (q ∷ positions) p = rw (work_left-push n positions p) (omega arith)

some_work : (height : ℕ) → 0 < tree height
some_work zero = omega arith
some_work (suc height) = let h = some_work height in omega arith

pub some_work_at : (n from : ℕ) → 0 < work_at n from
some_work_at n from = some_work (n - from)

pub less_work : (n from : ℕ) → from < n → work_at n (from + 1) + work_at n (from + 1) < work_at n from
less_work n from within =
    let d : n - from ≡ suc (n - (from + 1)) = omega arith in
    rw d (let h = some_work (n - (from + 1)) in omega arith)

-- each position is within the list
abbrev pub AreWithin : ℕ → List ℕ → Type 0
AreWithin n [] = Unit {0}
AreWithin n (p ∷ positions) = (p < n) × AreWithin n positions

pub AreWithin-push : (n : ℕ) (positions : List ℕ) (p : ℕ) → AreWithin n positions → p < n → AreWithin n (positions ++ p ∷ [])
AreWithin-push n [] p within h = (h, tt)
AreWithin-push n (q ∷ positions) p within h = (within.0, AreWithin-push n positions p within.1 h)

pub AreWithin-of_push : (n : ℕ) (positions : List ℕ) (p : ℕ) → AreWithin n (positions ++ p ∷ []) → AreWithin n positions × (p < n)
AreWithin-of_push n [] p within = (tt, within.0)
AreWithin-of_push n (q ∷ positions) p within = let r = AreWithin-of_push n positions p within.1 in ((within.0, r.0), r.1)

pub back_is_less : (n from : ℕ) (positions positions' : List ℕ) (p : ℕ) → positions ≡ positions' ++ p ∷ [] → work_at n (p + 1) + work_left n positions' < work_at n from + work_left n positions
back_is_less n from positions positions' p ps = rw (ps, work_left-push n positions' p) (let h = some_work_at n from in omega arith)

pub on_is_less : (n from : ℕ) (positions positions' : List ℕ) → from < n → positions' ≡ positions ++ from ∷ [] → work_at n (from + 1) + work_left n positions' < work_at n from + work_left n positions
on_is_less n from positions positions' within ps = rw (ps, work_left-push n positions from) (let h = less_work n from within in omega arith)
