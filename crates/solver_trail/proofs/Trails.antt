-- Trails: values, order and levels.
use Rattle.std.proofs.Common.{◌≡◌, ◌≢◌, ℕ, zero, suc, ◌+◌, ◌-◌, ◌<◌, ◌≤◌, Bool, true, false, not, cond, eqb, List, [], ◌∷◌, ◌++◌, ◌⊎◌, inl, inr, Option, Some, None, length, map, get_or, set, take, drop, refl, sym, ap, ◌∙◌, subst, arith, length-append, length-set, get_or-set_same, get_or-set_other, append_assoc}
use Rattle.std.specs.Prelude.{slice_get, slice_index}
use Rattle.std.proofs.lemmas.List.{get_or_append_left, get_or_default, take_more, take-append-drop, length-map}
use Rattle.std.proofs.lemmas.Option.{same_Some, slice_get_within}
use Rattle.std.proofs.lemmas.Bool.{cases_lt, both_ways, eq-eqb, eqb-true, ne_eqb, le-leb}
use Rattle.std.proofs.lemmas.Bool.Decides.{leb_tells}
use Rattle.std.proofs.Math.Dec.{leb}
use Rattle.std.proofs.lemmas.Map.Steps.{length-le_from_distinct_below}
use Rattle.std.proofs.lemmas.Map.Keys.{IsDistinct-from_apart}
use Rattle.std.proofs.lemmas.Map.Views.{Contains-from_any}
use Rattle.sat_base.specs.Literal.{Literal, negated}
use Rattle.sat_base.specs.Clauses.{Has, EachVariable}
use Rattle.sat_base.specs.Fresh.{IsConsistent}
use Rattle.solver_trail.specs.Status.{HasTruth}
use mathlib.Core.Bool.{beq}
use Rattle.sat_base.proofs.Clauses.{EachVariable-has}
use Rattle.derivation_log.specs.declared.line_id.LineId.{LineId}
use Rattle.solver_trail.specs.declared.values.Assigned.{Assigned}
use Rattle.solver_trail.specs.Trail.{literals_of, up_to, value_in, last_level, level_after, IsNext, AreInOrder, IsFalseAt}
use Rattle.solver_trail.specs.Storing.{ArePlaced}

-- ---- values

-- the place of an assigned variable
pub record Standing (entries : List Assigned) (literal : Literal) : Type 0 where
  pub place : ℕ
  pub entry : Assigned
  pub at : slice_get entries place ≡ Some entry
  pub is : entry.literal ≡ literal

abbrev standing_later : (first : Assigned) (entries : List Assigned) (literal : Literal) → Standing entries literal → Standing (first ∷ entries) literal
standing_later first entries literal s = record { place = suc s.place; entry = s.entry; at = s.at; is = s.is }

pub value_found : (entries : List Assigned) (var : ℕ) (b : Bool) → value_in entries var ≡ Some b → Standing entries (record { var = var; positive = b })
value_found [] var b is = absurd cc
value_found (first ∷ entries) var b is = go (eqb first.literal.var var) refl (value_found entries var b) is
  where
    go : (t : Bool) → eqb first.literal.var var ≡ t → (value_in entries var ≡ Some b → Standing entries (record { var = var; positive = b })) → cond t (Some first.literal.positive) (value_in entries var) ≡ Some b → Standing (first ∷ entries) (record { var = var; positive = b })
    go true same later is = record { place = 0; entry = first; at = refl; is = rw (← eqb-true _ _ same, ← same_Some _ _ is) refl }
    go false other later is = standing_later first entries _ (later is)

pub value_none : (entries : List Assigned) (var : ℕ) → value_in entries var ≡ None → EachVariable (λ other. other ≢ var) (literals_of entries)
value_none [] var is = tt
value_none (first ∷ entries) var is = go (eqb first.literal.var var) refl (value_none entries var) is
  where
    go : (t : Bool) → eqb first.literal.var var ≡ t → (value_in entries var ≡ None → EachVariable (λ other. other ≢ var) (literals_of entries)) → cond t (Some first.literal.positive) (value_in entries var) ≡ None → EachVariable (λ other. other ≢ var) (literals_of (first ∷ entries))
    go true same later is = absurd cc
    go false other later is = (λ e. both_ways _ other (eq-eqb _ _ e), later is)

pub value_open : (entries : List Assigned) (var : ℕ) → EachVariable (λ other. other ≢ var) (literals_of entries) → value_in entries var ≡ None
value_open [] var each = refl
value_open (first ∷ entries) var each = rw (ne_eqb first.literal.var var each.0) (value_open entries var each.1)

pub Has-standing : (entries : List Assigned) (literal : Literal) → Standing entries literal → Has (literals_of entries) literal
Has-standing entries literal s = go entries s.place s.at
  where
    go : (xs : List Assigned) (place : ℕ) → slice_get xs place ≡ Some s.entry → Has (literals_of xs) literal
    go [] place at = absurd cc
    go (x ∷ xs) zero at = inl (ap (λ (e : Assigned). e.literal) (same_Some x s.entry at) ∙ s.is)
    go (x ∷ xs) (suc place) at = inr (go xs place at)

pub standing_of : (entries : List Assigned) (literal : Literal) → Has (literals_of entries) literal → Standing entries literal
standing_of [] literal has = absurd has
standing_of (x ∷ entries) literal (inl e) = record { place = 0; entry = x; at = refl; is = e }
standing_of (x ∷ entries) literal (inr has) = standing_later x entries literal (standing_of entries literal has)

-- the place of a literal is the one in the table
pub place_is : (entries : List Assigned) (places : List ℕ) (literal : Literal) (s : Standing entries literal) → ArePlaced entries places → slice_index places (literal.var - 1) ≡ s.place
place_is entries places literal s placed = ap (λ (l : Literal). slice_index places (l.var - 1)) (sym s.is) ∙ placed.at s.place s.entry s.at

-- what is at the place of a variable is its value
pub value_at : (entries : List Assigned) (places : List ℕ) (var place : ℕ) (entry : Assigned) → ArePlaced entries places → slice_get entries place ≡ Some entry → entry.literal.var ≡ var → value_in entries var ≡ Some entry.literal.positive
value_at entries places var place entry placed at same = go (value_in entries var) refl
  where
    go : (v : Option Bool) → value_in entries var ≡ v → value_in entries var ≡ Some entry.literal.positive
    go None none =
        absurd (EachVariable-has (λ other. other ≢ var) (literals_of entries) entry.literal (value_none entries var none)
        (Has-standing entries entry.literal (record { place = place; entry = entry; at = at; is = refl })) same)
    go (Some b) some =
        let s = value_found entries var b some in
        let one : s.place ≡ place = sym (place_is entries places _ s placed) ∙ ap (λ (v : ℕ). slice_index places (v - 1)) (sym same) ∙ placed.at place entry at in
        let e : s.entry ≡ entry = same_Some s.entry entry (sym s.at ∙ ap (slice_get entries) one ∙ at) in
        some ∙ ap (λ (l : Literal). Some l.positive) (sym s.is ∙ ap (λ (x : Assigned). x.literal) e)

-- a variable whose place has another literal, or none, has no value
pub no_value_beyond : (entries : List Assigned) (places : List ℕ) (var : ℕ) → ArePlaced entries places → length entries ≤ slice_index places (var - 1) → value_in entries var ≡ None
no_value_beyond entries places var placed beyond = go (value_in entries var) refl
  where
    go : (v : Option Bool) → value_in entries var ≡ v → value_in entries var ≡ None
    go None none = none
    go (Some b) some =
        let s = value_found entries var b some in
        let here = place_is entries places _ s placed in
        let inside = slice_get_within entries s.place s.entry s.at in
        absurd (omega arith)

pub no_value_other : (entries : List Assigned) (places : List ℕ) (var : ℕ) (entry : Assigned) → ArePlaced entries places → slice_get entries (slice_index places (var - 1)) ≡ Some entry → entry.literal.var ≢ var → value_in entries var ≡ None
no_value_other entries places var entry placed at other = go (value_in entries var) refl
  where
    go : (v : Option Bool) → value_in entries var ≡ v → value_in entries var ≡ None
    go None none = none
    go (Some b) some =
        let s = value_found entries var b some in
        let here = place_is entries places _ s placed in
        let e : s.entry ≡ entry = same_Some s.entry entry (sym s.at ∙ ap (slice_get entries) (sym here) ∙ at) in
        absurd (other (ap (λ (x : Assigned). x.literal.var) (sym e) ∙ ap (λ (l : Literal). l.var) s.is))

-- ---- reading

pub read_is : (xs : List ℕ) (k x : ℕ) → x ≡ get_or xs k x → k < length xs → slice_index xs k ≡ x
read_is [] k x is within = absurd (omega arith)
read_is (y ∷ xs) zero x is within = sym is
read_is (y ∷ xs) (suc k) x is within = read_is xs k x is (omega arith)

pub read_at : (entries : List Assigned) (k : ℕ) (entry : Assigned) → entry ≡ get_or entries k entry → k < length entries → slice_get entries k ≡ Some entry
read_at [] k entry is within = absurd (omega arith)
read_at (x ∷ entries) zero entry is within = ap (λ (e : Assigned). Some e) (sym is)
read_at (x ∷ entries) (suc k) entry is within = read_at entries k entry is (omega arith)

-- the table has room for the variable of a literal of the trail
pub slot_within : (entries : List Assigned) (places : List ℕ) (literal : Literal) → Has (literals_of entries) literal → ArePlaced entries places → (1 ≤ literal.var) × (literal.var ≤ length places)
slot_within entries places literal has placed =
    let s = standing_of entries literal has in
    subst (λ (l : Literal). (1 ≤ l.var) × (l.var ≤ length places)) s.is (placed.within s.place s.entry s.at)

-- ---- how many entries there are

-- an element of a longer list
pub get_pushed : {X : Type 0} (xs : List X) (k : ℕ) (x y : X) → slice_get (xs ++ y ∷ []) k ≡ Some x → (slice_get xs k ≡ Some x) ⊎ ((k ≡ length xs) × (y ≡ x))
get_pushed [] zero x y is = inr (refl, same_Some y x is)
get_pushed [] (suc k) x y is = absurd cc
get_pushed (a ∷ xs) zero x y is = inl is
get_pushed (a ∷ xs) (suc k) x y is = elim (get_pushed xs k x y is) [ inl h ↦ inl h | inr h ↦ inr (ap suc h.0, h.1) ]

pub get_before : {X : Type 0} (xs ys : List X) (k : ℕ) (x : X) → slice_get xs k ≡ Some x → slice_get (xs ++ ys) k ≡ Some x
get_before [] ys k x is = absurd cc
get_before (a ∷ xs) ys zero x is = is
get_before (a ∷ xs) ys (suc k) x is = get_before xs ys k x is

abbrev slots : List Assigned → List ℕ
slots entries = map (λ (entry : Assigned). entry.literal.var - 1) entries

slot_at : (entries : List Assigned) (i d : ℕ) → i < length (slots entries) → (entry : Assigned) × ((slice_get entries i ≡ Some entry) × (get_or (slots entries) i d ≡ entry.literal.var - 1))
slot_at [] i d within = absurd (omega arith)
slot_at (x ∷ entries) zero d within = (x, (refl, refl))
slot_at (x ∷ entries) (suc i) d within = slot_at entries i d (omega arith)

-- numbers below n, each at one place
distinct_below : (xs : List ℕ) (n : ℕ) → ((i j d : ℕ) → i < j → j < length xs → get_or xs i d ≢ get_or xs j d) → ((i : ℕ) → i < length xs → get_or xs i 0 < n) → length xs ≤ n
distinct_below xs n apart below =
    length-le_from_distinct_below xs n
    (IsDistinct-from_apart eqb xs (λ i j d less within. ne_eqb (get_or xs i d) (get_or xs j d) (apart i j d less within)))
    (λ q is. let found = Contains-from_any (λ x y. eqb-true x y) q xs is in let e : get_or xs found.0 0 ≡ q = get_or_default xs found.0 0 q found.1 ∙ found.2 in subst (λ (k : ℕ). k < n) e (below found.0 found.1))

slots_apart : (entries : List Assigned) (places : List ℕ) → ArePlaced entries places → (i j d : ℕ) → i < j → j < length (slots entries) → get_or (slots entries) i d ≢ get_or (slots entries) j d
slots_apart entries places placed i j d less within same =
    let (x, x_there) = slot_at entries i d (omega arith) in
    let (y, y_there) = slot_at entries j d within in
    let e : i ≡ j = sym (placed.at i x x_there.0) ∙ ap (slice_index places) (sym x_there.1 ∙ same ∙ y_there.1) ∙ placed.at j y y_there.0 in
    omega arith

slots_below : (entries : List Assigned) (places : List ℕ) → ArePlaced entries places → (i d : ℕ) → i < length (slots entries) → get_or (slots entries) i d < length places
slots_below entries places placed i d within =
    let (x, x_there) = slot_at entries i d within in
    let h = placed.within i x x_there.0 in
    omega (arith, h.0, h.1)

length-slots : (entries : List Assigned) → length (slots entries) ≡ length entries
length-slots entries = length-map entries (λ (entry : Assigned). entry.literal.var - 1)

pub few_entries : (entries : List Assigned) (places : List ℕ) → ArePlaced entries places → length entries ≤ length places
few_entries entries places placed =
    let h = distinct_below (slots entries) (length places) (slots_apart entries places placed) (λ i. slots_below entries places placed i 0) in
    omega (arith, length-slots entries)

-- the slot of an unassigned variable and those of the assigned ones
more_apart : (entries : List Assigned) (places : List ℕ) (var : ℕ) → ArePlaced entries places → 1 ≤ var → value_in entries var ≡ None → (i j d : ℕ) → i < j → j < length ((var - 1) ∷ slots entries) → get_or ((var - 1) ∷ slots entries) i d ≢ get_or ((var - 1) ∷ slots entries) j d
more_apart entries places var placed from_1 none i zero d less within same = omega arith
more_apart entries places var placed from_1 none zero (suc j) d less within same =
    let (y, y_there) = slot_at entries j d (omega arith) in
    let h = placed.within j y y_there.0 in
    let new = EachVariable-has (λ other. other ≢ var) (literals_of entries) y.literal (value_none entries var none) (Has-standing entries y.literal (record { place = j; entry = y; at = y_there.0; is = refl })) in
    new (omega (arith, h.0))
more_apart entries places var placed from_1 none (suc i) (suc j) d less within same = slots_apart entries places placed i j d (omega arith) (omega arith) same

more_below : (entries : List Assigned) (places : List ℕ) (var : ℕ) → ArePlaced entries places → 1 ≤ var → var ≤ length places → (i : ℕ) → i < length ((var - 1) ∷ slots entries) → get_or ((var - 1) ∷ slots entries) i 0 < length places
more_below entries places var placed from_1 in_table zero within = omega arith
more_below entries places var placed from_1 in_table (suc i) within = slots_below entries places placed i 0 (omega arith)

pub fewer_entries : (entries : List Assigned) (places : List ℕ) (var : ℕ) → ArePlaced entries places → 1 ≤ var → var ≤ length places → value_in entries var ≡ None → length entries < length places
fewer_entries entries places var placed from_1 within none =
    let h = distinct_below ((var - 1) ∷ slots entries) (length places) (more_apart entries places var placed from_1 none) (more_below entries places var placed from_1 within) in
    omega (arith, length-slots entries)

-- ---- order and levels

pub last_level-push : (entries : List Assigned) (entry : Assigned) → last_level (entries ++ entry ∷ []) ≡ entry.level
last_level-push [] entry = refl
last_level-push (x ∷ []) entry = refl
last_level-push (x ∷ y ∷ entries) entry = last_level-push (y ∷ entries) entry

pub level_after-within : (level : ℕ) (reason : Option LineId) → (level ≤ level_after level reason) × (level_after level reason ≤ level + 1)
level_after-within level None = (omega arith, omega arith)
level_after-within level (Some line) = (omega arith, omega arith)

pub append_none : (entries : List Assigned) → entries ++ [] ≡ entries
append_none [] = refl
append_none (x ∷ entries) = ap (λ (xs : List Assigned). x ∷ xs) (append_none entries)

pub level_rises : (before entries : List Assigned) → AreInOrder before entries → last_level before ≤ last_level (before ++ entries)
level_rises before [] order = rw (append_none before) (omega arith)
level_rises before (x ∷ entries) order =
    let later = level_rises (before ++ x ∷ []) entries order.1 in
    let here = last_level-push before x in
    let next = level_after-within (last_level before) x.reason in
    let is = order.0.level in
    let all : last_level (before ++ x ∷ []) ≤ last_level (before ++ (x ∷ entries)) = subst (λ (xs : List Assigned). last_level (before ++ x ∷ []) ≤ last_level xs) (append_assoc before (x ∷ []) entries) later in
    omega (arith, next.0)

pub level_few : (before entries : List Assigned) → AreInOrder before entries → last_level before ≤ length before → last_level (before ++ entries) ≤ length (before ++ entries)
level_few before [] order few = rw (append_none before) few
level_few before (x ∷ entries) order few =
    let here = last_level-push before x in
    let next = level_after-within (last_level before) x.reason in
    let is = order.0.level in
    let now : last_level (before ++ x ∷ []) ≤ length (before ++ x ∷ []) = omega (arith, next.1, length-append before (x ∷ [])) in
    subst (λ (xs : List Assigned). last_level xs ≤ length xs) (append_assoc before (x ∷ []) entries) (level_few (before ++ x ∷ []) entries order.1 now)

pub AreInOrder-push : (before entries : List Assigned) (entry : Assigned) → AreInOrder before entries → IsNext (before ++ entries) entry → AreInOrder before (entries ++ entry ∷ [])
AreInOrder-push before [] entry order next = (subst (λ (xs : List Assigned). IsNext xs entry) (append_none before) next, tt)
AreInOrder-push before (x ∷ entries) entry order next =
    (order.0, AreInOrder-push (before ++ x ∷ []) entries entry order.1 (subst (λ (xs : List Assigned). IsNext xs entry) (sym (append_assoc before (x ∷ []) entries)) next))

pub AreInOrder-parts : (before entries more : List Assigned) → AreInOrder before (entries ++ more) → AreInOrder before entries × AreInOrder (before ++ entries) more
AreInOrder-parts before [] more order = (tt, subst (λ (xs : List Assigned). AreInOrder xs more) (sym (append_none before)) order)
AreInOrder-parts before (x ∷ entries) more order =
    let rest = AreInOrder-parts (before ++ x ∷ []) entries more order.1 in
    ((order.0, rest.0), subst (λ (xs : List Assigned). AreInOrder xs more) (append_assoc before (x ∷ []) entries) rest.1)

-- ---- growing and shrinking

pub ArePlaced-push : (entries : List Assigned) (places : List ℕ) (entry : Assigned) → ArePlaced entries places → 1 ≤ entry.literal.var → entry.literal.var ≤ length places → value_in entries entry.literal.var ≡ None → ArePlaced (entries ++ entry ∷ []) (set places (entry.literal.var - 1) (length entries))
ArePlaced-push entries places entry placed from_1 within none = record {
  within = λ place other is. elim (get_pushed entries place other entry is) [
    | inl h ↦ let inside = placed.within place other h in (inside.0, rw length-set inside.1)
    | inr h ↦ subst (λ (e : Assigned). (1 ≤ e.literal.var) × (e.literal.var ≤ length (set places (entry.literal.var - 1) (length entries)))) h.1 (from_1, rw length-set within)
  ];
  at = λ place other is. elim (get_pushed entries place other entry is) [
    | inl h ↦
        let inside = placed.within place other h in
        let new = EachVariable-has (λ var. var ≢ entry.literal.var) (literals_of entries) other.literal (value_none entries entry.literal.var none)
        (Has-standing entries other.literal (record { place = place; entry = other; at = h; is = refl })) in
        let ne : other.literal.var - 1 ≢ entry.literal.var - 1 = λ e. new (omega (arith, inside.0)) in
        get_or-set_other places (entry.literal.var - 1) (other.literal.var - 1) (length entries) 0 ne ∙ placed.at place other h
    | inr h ↦ rw (← h.1, h.0) (get_or-set_same places (entry.literal.var - 1) (length entries) 0 (omega arith))
  ];
}

pub ArePlaced-shorter : (entries more : List Assigned) (places : List ℕ) → ArePlaced (entries ++ more) places → ArePlaced entries places
ArePlaced-shorter entries more places placed = record {
  within = λ place entry is. placed.within place entry (get_before entries more place entry is);
  at = λ place entry is. placed.at place entry (get_before entries more place entry is);
}

pub ArePlaced-longer : (entries : List Assigned) (places more : List ℕ) → ArePlaced entries places → ArePlaced entries (places ++ more)
ArePlaced-longer entries places more placed = record {
  within = λ place entry is. let h = placed.within place entry is in (h.0, omega (arith, length-append places more, h.1));
  at = λ place entry is. let h = placed.within place entry is in get_or_append_left places more 0 (entry.literal.var - 1) (omega (arith, h.0, h.1)) ∙ placed.at place entry is;
}

-- ---- up to a level

pub up_to_keeps : (level : ℕ) (x : Assigned) (entries : List Assigned) → x.level ≤ level → up_to level (x ∷ entries) ≡ x ∷ up_to level entries
up_to_keeps level x entries h = rw (le-leb _ _ h) refl

pub up_to_drops : (level : ℕ) (x : Assigned) (entries : List Assigned) → level < x.level → up_to level (x ∷ entries) ≡ up_to level entries
up_to_drops level x entries h = rw (leb_false _ _ h) refl
  where
    leb_false : (a b : ℕ) → b < a → leb a b ≡ false
    leb_false a b less = elim (leb_tells a b) [ inl h ↦ absurd (let le = h.1 in omega arith) | inr h ↦ h.0 ]

-- without a last entry above the level the rest is the same
pub up_to-push : (level : ℕ) (entries : List Assigned) (x : Assigned) → level < x.level → up_to level (entries ++ x ∷ []) ≡ up_to level entries
up_to-push level [] x above = up_to_drops level x [] above
up_to-push level (y ∷ entries) x above =
    elim (cases_lt level y.level) [
      | inl h ↦ up_to_drops level y (entries ++ x ∷ []) h ∙ up_to-push level entries x above ∙ sym (up_to_drops level y entries h)
      | inr h ↦ up_to_keeps level y (entries ++ x ∷ []) h ∙ ap (λ (xs : List Assigned). y ∷ xs) (up_to-push level entries x above) ∙ sym (up_to_keeps level y entries h)
    ]

-- where the last entry is not above the level, none is
pub up_to-all : (level : ℕ) (before entries : List Assigned) → AreInOrder before entries → last_level (before ++ entries) ≤ level → up_to level entries ≡ entries
up_to-all level before [] order within = refl
up_to-all level before (x ∷ entries) order within =
    let same = append_assoc before (x ∷ []) entries in
    let rises = level_rises (before ++ x ∷ []) entries order.1 in
    let here = last_level-push before x in
    let all : last_level ((before ++ x ∷ []) ++ entries) ≤ level = subst (λ (xs : List Assigned). last_level xs ≤ level) (sym same) within in
    up_to_keeps level x entries (omega arith) ∙ ap (λ (xs : List Assigned). x ∷ xs) (up_to-all level (before ++ x ∷ []) entries order.1 all)

-- ---- truth

pub not_own_negation : (literal : Literal) → literal ≢ negated literal
not_own_negation literal e = no_fixed literal.positive (ap (λ (l : Literal). l.positive) e)
  where
    no_fixed : (b : Bool) → b ≢ not b
    no_fixed true is = cc
    no_fixed false is = cc

-- a variable is at one place
pub one_entry : (entries : List Assigned) (places : List ℕ) (a b : Literal) (s : Standing entries a) (t : Standing entries b) → ArePlaced entries places → a.var ≡ b.var → s.entry ≡ t.entry
one_entry entries places a b s t placed same =
    let one : s.place ≡ t.place = sym (place_is entries places a s placed) ∙ ap (λ (v : ℕ). slice_index places (v - 1)) same ∙ place_is entries places b t placed in
    same_Some s.entry t.entry (sym s.at ∙ ap (slice_get entries) one ∙ t.at)

pub placed_consistent : (entries : List Assigned) (places : List ℕ) → ArePlaced entries places → IsConsistent (literals_of entries)
placed_consistent entries places placed literal has against =
    let s = standing_of entries literal has in
    let t = standing_of entries (negated literal) against in
    let e = one_entry entries places literal (negated literal) s t placed refl in
    not_own_negation literal (sym s.is ∙ ap (λ (x : Assigned). x.literal) e ∙ t.is)

truth_cases : (entries : List Assigned) (literal : Literal) (value positive : Bool) → literal.positive ≡ positive → value_in entries literal.var ≡ Some value → HasTruth (literals_of entries) literal (Some (beq value positive))
truth_cases entries literal true true sign is = subst (λ (b : Bool). Has (literals_of entries) (record { var = literal.var; positive = b })) (sym sign) (Has-standing entries _ (value_found entries literal.var true is))
truth_cases entries literal false false sign is = subst (λ (b : Bool). Has (literals_of entries) (record { var = literal.var; positive = b })) (sym sign) (Has-standing entries _ (value_found entries literal.var false is))
truth_cases entries literal true false sign is = subst (λ (b : Bool). Has (literals_of entries) (record { var = literal.var; positive = not b })) (sym sign) (Has-standing entries _ (value_found entries literal.var true is))
truth_cases entries literal false true sign is = subst (λ (b : Bool). Has (literals_of entries) (record { var = literal.var; positive = not b })) (sym sign) (Has-standing entries _ (value_found entries literal.var false is))

pub truth_of : (entries : List Assigned) (literal : Literal) (value positive : Bool) → positive ≡ literal.positive → value_in entries literal.var ≡ Some value → HasTruth (literals_of entries) literal (Some (beq value positive))
truth_of entries literal value positive sign = truth_cases entries literal value positive (sym sign)

-- ---- false at a level

pub standing_false : (entries : List Assigned) (level : ℕ) (literal : Literal) → IsFalseAt entries level literal → (s : Standing entries (negated literal)) × (s.entry.level ≡ level)
standing_false [] level literal false_at = absurd false_at
standing_false (x ∷ entries) level literal (inl h) = (record { place = 0; entry = x; at = refl; is = h.0 }, h.1)
standing_false (x ∷ entries) level literal (inr h) = let (s, l) = standing_false entries level literal h in (standing_later x entries (negated literal) s, l)

pub false_standing : (entries : List Assigned) (literal : Literal) (s : Standing entries (negated literal)) → IsFalseAt entries s.entry.level literal
false_standing entries literal s = go entries s.place s.at
  where
    go : (xs : List Assigned) (place : ℕ) → slice_get xs place ≡ Some s.entry → IsFalseAt xs s.entry.level literal
    go [] place at = absurd cc
    go (x ∷ xs) zero at = let e = same_Some x s.entry at in inl (ap (λ (y : Assigned). y.literal) e ∙ s.is, ap (λ (y : Assigned). y.level) e)
    go (x ∷ xs) (suc place) at = inr (go xs place at)

pub one_level : (entries : List Assigned) (places : List ℕ) (literal : Literal) (level other : ℕ) → ArePlaced entries places → IsFalseAt entries level literal → IsFalseAt entries other literal → level ≡ other
one_level entries places literal level other placed here there =
    let (s, s_level) = standing_false entries level literal here in
    let (t, t_level) = standing_false entries other literal there in
    sym s_level ∙ ap (λ (x : Assigned). x.level) (one_entry entries places (negated literal) (negated literal) s t placed refl) ∙ t_level

pub Has-false : (entries : List Assigned) (level : ℕ) (literal : Literal) → IsFalseAt entries level literal → Has (literals_of entries) (negated literal)
Has-false entries level literal false_at = Has-standing entries (negated literal) (standing_false entries level literal false_at).0

-- ---- going back

pub up_to-none : (level : ℕ) (before entries : List Assigned) → AreInOrder before entries → level < last_level before → up_to level entries ≡ []
up_to-none level before [] order above = refl
up_to-none level before (x ∷ entries) order above =
    let next = level_after-within (last_level before) x.reason in
    let is = order.0.level in
    let here = last_level-push before x in
    up_to_drops level x entries (omega (arith, next.0)) ∙ up_to-none level (before ++ x ∷ []) entries order.1 (omega (arith, next.0))

-- each level up to the last one has an entry
last_up_to : (level : ℕ) (before entries : List Assigned) → AreInOrder before entries → last_level before ≤ level → level ≤ last_level (before ++ entries) → last_level (before ++ up_to level entries) ≡ level
last_up_to level before [] order low high =
    let same = append_none before in
    let h : level ≤ last_level before = subst (λ (xs : List Assigned). level ≤ last_level xs) same high in
    ap last_level same ∙ omega arith
last_up_to level before (x ∷ entries) order low high =
    let same = append_assoc before (x ∷ []) entries in
    let here = last_level-push before x in
    let next = level_after-within (last_level before) x.reason in
    let is = order.0.level in
    elim (cases_lt level x.level) [
      | inl h ↦
          let rest = up_to_drops level x entries h ∙ up_to-none level (before ++ x ∷ []) entries order.1 (omega arith) in
          rw (rest, append_none before) (omega (arith, next.1))
      | inr h ↦
          let now : last_level (before ++ x ∷ []) ≤ level = omega arith in
          let later : level ≤ last_level ((before ++ x ∷ []) ++ entries) = subst (λ (xs : List Assigned). level ≤ last_level xs) (sym same) high in
          ap (λ (xs : List Assigned). last_level (before ++ xs)) (up_to_keeps level x entries h)
          ∙ ap last_level (sym (append_assoc before (x ∷ []) (up_to level entries)))
          ∙ last_up_to level (before ++ x ∷ []) entries order.1 now later
    ]

pub last_level-up_to : (level : ℕ) (entries : List Assigned) → AreInOrder [] entries → level ≤ last_level entries → last_level (up_to level entries) ≡ level
last_level-up_to level entries order within = last_up_to level [] entries order (omega arith) within

pub AreInOrder-take : (entries : List Assigned) (k : ℕ) → AreInOrder [] entries → AreInOrder [] (take k entries)
AreInOrder-take entries k order = (AreInOrder-parts [] (take k entries) (drop k entries) (rw (take-append-drop k entries) order)).0

-- one entry fewer, where it is above the level
pub up_to-fewer : (entries : List Assigned) (kept level : ℕ) (entry : Assigned) → 0 < kept → kept ≤ length entries → entry ≡ get_or entries (kept - 1) entry → level < entry.level → up_to level (take kept entries) ≡ up_to level (take (kept - 1) entries)
up_to-fewer entries kept level entry some within is above =
    let one : kept - 1 + 1 ≡ kept = omega arith in
    let more : take kept entries ≡ take (kept - 1) entries ++ entry ∷ [] = ap (λ (k : ℕ). take k entries) (sym one) ∙ take_more entries (kept - 1) entry (omega arith) ∙ ap (λ (x : Assigned). take (kept - 1) entries ++ x ∷ []) (sym is) in
    ap (up_to level) more ∙ up_to-push level (take (kept - 1) entries) entry above

pub up_to-reached : (entries : List Assigned) (kept level : ℕ) (entry : Assigned) → AreInOrder [] entries → 0 < kept → kept ≤ length entries → entry ≡ get_or entries (kept - 1) entry → entry.level ≤ level → up_to level (take kept entries) ≡ take kept entries
up_to-reached entries kept level entry order some within is low =
    let one : kept - 1 + 1 ≡ kept = omega arith in
    let more : take kept entries ≡ take (kept - 1) entries ++ entry ∷ [] = ap (λ (k : ℕ). take k entries) (sym one) ∙ take_more entries (kept - 1) entry (omega arith) ∙ ap (λ (x : Assigned). take (kept - 1) entries ++ x ∷ []) (sym is) in
    let last : last_level (take kept entries) ≡ entry.level = ap last_level more ∙ last_level-push (take (kept - 1) entries) entry in
    up_to-all level [] (take kept entries) (AreInOrder-take entries kept order) (omega arith)

-- a fact of the variable of each literal
pub each_entry : (P : ℕ → Type 0) (entries : List Assigned) → ((place : ℕ) (entry : Assigned) → slice_get entries place ≡ Some entry → P entry.literal.var) → EachVariable P (literals_of entries)
each_entry P [] each = tt
each_entry P (x ∷ entries) each = (each 0 x refl, each_entry P entries (λ place entry is. each (suc place) entry is))

pub named_entries : (entries : List Assigned) (places : List ℕ) → ArePlaced entries places → EachVariable (λ var. (1 ≤ var) × (var ≤ length places)) (literals_of entries)
named_entries entries places placed = each_entry (λ var. (1 ≤ var) × (var ≤ length places)) entries placed.within
