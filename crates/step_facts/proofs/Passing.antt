-- Ions that pass from one list into another: which are there then, and in which order.
use Rattle.std.proofs.Common.{◌≡◌, ◌≢◌, ℕ, ◌-◌, Bool, true, false, not, ◌&&◌, ◌||◌, List, [], ◌++◌, length, take, drop, reverse, arith, sym, ap, subst, ◌∙◌}
use Rattle.std.specs.Prelude.{filter, IsTrue, if◌then◌else◌}
use Rattle.std.proofs.lemmas.Bool.{both_ways, or_right, false_from_ne_true}
use Rattle.std.proofs.lemmas.List.{take-append-drop}
use Rattle.qc_base.specs.declared.ids.Ion.{Ion}
use Rattle.qc_base.specs.declared.ids.End.{End}
use Rattle.qc_base.specs.declared.ids.End.TheVariants.{A, B}
use Rattle.qc_base.specs.Counting.{how_many}
use Rattle.trap_parts.specs.Joins.{same_end}
use Rattle.ion_chain.specs.Passing.{outward, leaving, left, joined}
use Rattle.ion_chain.proofs.Passed.{outward-outward, length-outward, IsPermutation-outward}
use Rattle.step_vars.specs.Lists.{is_there, is_before}
use Rattle.step_facts.specs.Agreement.{AreDistinct}
use Rattle.step_facts.proofs.Lists.{how_many-permutation}
use Rattle.step_facts.proofs.IonLists.{IsClosed, there-append, there-reverse, there-outward, there-filter, distinct-left, distinct-right, distinct-apart, distinct-outward, before-turned, before-append_left, before-append_right, before-append_across, before-reverse, before-take, before-drop, drop_closed, last_pass, first_fail}

-- ---- the list that they leave

pub there-parted : (i : ℕ) (end : End) (count : ℕ) (xs : List Ion) → is_there i xs ≡ (is_there i (left end count xs) || is_there i (leaving end count xs))
there-parted i end count xs =
    let o : List Ion = outward end xs in
    let m : ℕ = length xs - count in
    sym (ap (λ b. b || is_there i (drop m o)) (there-outward i end (take m o)) ∙ sym (there-append i (take m o) (drop m o))
    ∙ ap (is_there i) (take-append-drop m o) ∙ there-outward i end xs)

-- none is twice in the two parts of the list as it is read
outward_parts : (end : End) (m : ℕ) (xs : List Ion) → AreDistinct xs → AreDistinct (take m (outward end xs) ++ drop m (outward end xs))
outward_parts end m xs distinct = subst AreDistinct (sym (take-append-drop m (outward end xs))) (distinct-outward end xs distinct)

pub left_not_leaving : (i : ℕ) (end : End) (count : ℕ) (xs : List Ion) → AreDistinct xs → IsTrue (is_there i (left end count xs)) → is_there i (leaving end count xs) ≡ false
left_not_leaving i end count xs distinct stays =
    let o : List Ion = outward end xs in
    let m : ℕ = length xs - count in
    distinct-apart i (take m o) (drop m o) (outward_parts end m xs distinct) (sym (there-outward i end (take m o)) ∙ stays)

pub before-left : (i j : ℕ) (end : End) (count : ℕ) (xs : List Ion) → AreDistinct xs → IsTrue (is_there i (left end count xs)) → IsTrue (is_there j (left end count xs))
    → is_before i j (left end count xs) ≡ is_before i j xs
before-left i j A count xs distinct stays_i stays_j =
    let o : List Ion = reverse xs in
    let m : ℕ = length xs - count in
    let there_i : IsTrue (is_there i (take m o)) = sym (there-reverse i (take m o)) ∙ stays_i in
    let there_j : IsTrue (is_there j (take m o)) = sym (there-reverse j (take m o)) ∙ stays_j in
    before-reverse i j (take m o) (distinct-left (take m o) (drop m o) (outward_parts A m xs distinct))
    ∙ before-take j i m o (distinct-outward A xs distinct) there_j there_i ∙ before-reverse j i xs distinct
before-left i j B count xs distinct stays_i stays_j = before-take i j (length xs - count) xs distinct stays_i stays_j

-- with an ion leave all that are nearer to the exit
pub leaving_closed : (i j : ℕ) (end : End) (count : ℕ) (xs : List Ion) → AreDistinct xs → IsTrue (is_before i j (outward end xs))
    → IsTrue (is_there i (leaving end count xs)) → IsTrue (is_there j (leaving end count xs))
leaving_closed i j end count xs distinct before leaves = drop_closed i j (length xs - count) (outward end xs) (distinct-outward end xs distinct) before leaves

pub leaving_all : (end : End) (xs : List Ion) → leaving end (length xs) xs ≡ outward end xs
leaving_all end xs = let none : length xs - length xs ≡ 0 = omega arith in ap (λ n. drop n (outward end xs)) none

pub left_none : (end : End) (xs : List Ion) → left end (length xs) xs ≡ []
left_none A xs = let none : length xs - length xs ≡ 0 = omega arith in ap (λ n. reverse (take n (reverse xs))) none
left_none B xs = let none : length xs - length xs ≡ 0 = omega arith in ap (λ n. take n xs) none

outward_many : (end : End) (test : ℕ → Bool) (xs : List Ion) → how_many (λ (ion : Ion). test ion.0) (outward end xs) ≡ how_many (λ (ion : Ion). test ion.0) xs
outward_many end test xs = how_many-permutation (λ (ion : Ion). test ion.0) xs (outward end xs) (IsPermutation-outward end xs)

-- where all that are nearer to the exit pass a test too, as many as pass leave, and they are those that pass
pub leaving_passing : (end : End) (test : ℕ → Bool) (xs : List Ion) → AreDistinct xs → IsClosed test (outward end xs)
    → leaving end (how_many (λ (ion : Ion). test ion.0) xs) xs ≡ filter (λ (ion : Ion). test ion.0) (outward end xs)
leaving_passing end test xs distinct closed =
    let long : length (outward end xs) ≡ length xs = length-outward end xs in
    let many : how_many (λ (ion : Ion). test ion.0) (outward end xs) ≡ how_many (λ (ion : Ion). test ion.0) xs = outward_many end test xs in
    rw (long, many) at (last_pass test (outward end xs) (distinct-outward end xs distinct) closed)

pub there-leaving : (i : ℕ) (end : End) (test : ℕ → Bool) (xs : List Ion) → AreDistinct xs → IsClosed test (outward end xs)
    → is_there i (leaving end (how_many (λ (ion : Ion). test ion.0) xs) xs) ≡ (is_there i xs && test i)
there-leaving i end test xs distinct closed =
    ap (is_there i) (leaving_passing end test xs distinct closed) ∙ there-filter i test (outward end xs) ∙ ap (λ b. b && test i) (there-outward i end xs)

pub there-left : (i : ℕ) (end : End) (test : ℕ → Bool) (xs : List Ion) → AreDistinct xs → IsClosed test (outward end xs)
    → is_there i (left end (how_many (λ (ion : Ion). test ion.0) xs) xs) ≡ (is_there i xs && not (test i))
there-left i end test xs distinct closed =
    let o : List Ion = outward end xs in
    let long : length (outward end xs) ≡ length xs = length-outward end xs in
    let many : how_many (λ (ion : Ion). test ion.0) (outward end xs) ≡ how_many (λ (ion : Ion). test ion.0) xs = outward_many end test xs in
    let stay : take (length xs - how_many (λ (ion : Ion). test ion.0) xs) o ≡ filter (λ (ion : Ion). not (test ion.0)) o =
    rw (long, many) at (first_fail test o (distinct-outward end xs distinct) closed) in
    there-outward i end (take (length xs - how_many (λ (ion : Ion). test ion.0) xs) o) ∙ ap (is_there i) stay
    ∙ there-filter i (λ k. not (test k)) o ∙ ap (λ b. b && not (test i)) (there-outward i end xs)

-- ---- the list that they join

pub there-joined : (i : ℕ) (end : End) (coming xs : List Ion) → is_there i (joined end coming xs) ≡ (is_there i xs || is_there i coming)
there-joined i end coming xs =
    there-outward i end (outward end xs ++ reverse coming) ∙ there-append i (outward end xs) (reverse coming)
    ∙ ap (λ b. b || is_there i (reverse coming)) (there-outward i end xs) ∙ ap (λ b. is_there i xs || b) (there-reverse i coming)

joined_parts : (end : End) (coming xs : List Ion) → AreDistinct (joined end coming xs) → AreDistinct (outward end xs ++ reverse coming)
joined_parts end coming xs joins =
    subst AreDistinct (outward-outward end (outward end xs ++ reverse coming)) (distinct-outward end (joined end coming xs) joins)

-- the two were there
pub before-joined_old : (i j : ℕ) (end : End) (coming xs : List Ion) → AreDistinct xs → AreDistinct (joined end coming xs) → IsTrue (is_there i xs) → IsTrue (is_there j xs)
    → is_before i j (joined end coming xs) ≡ is_before i j xs
before-joined_old i j A coming xs distinct joins there_i there_j =
    let whole : AreDistinct (reverse xs ++ reverse coming) = joined_parts A coming xs joins in
    let in_i : IsTrue (is_there i (reverse xs)) = there-reverse i xs ∙ there_i in
    let in_j : IsTrue (is_there j (reverse xs)) = there-reverse j xs ∙ there_j in
    before-reverse i j (reverse xs ++ reverse coming) whole
    ∙ before-append_left j i (reverse xs) (reverse coming) (distinct-apart i (reverse xs) (reverse coming) whole in_i) in_j ∙ before-reverse j i xs distinct
before-joined_old i j B coming xs distinct joins there_i there_j =
    before-append_left i j xs (reverse coming) (distinct-apart j xs (reverse coming) joins there_j) there_i

-- the one was there, and the other comes: it is nearer to the end by which it comes
pub before-joined_across : (i j : ℕ) (end : End) (coming xs : List Ion) → IsTrue (is_there i xs) → IsTrue (is_there j coming)
    → is_before i j (outward end (joined end coming xs)) ≡ true
before-joined_across i j end coming xs there_i comes_j =
    ap (is_before i j) (outward-outward end (outward end xs ++ reverse coming))
    ∙ before-append_across i j (outward end xs) (reverse coming) (there-outward i end xs ∙ there_i) (there-reverse j coming ∙ comes_j)

leaving_distinct : (end : End) (count : ℕ) (xs : List Ion) → AreDistinct xs → AreDistinct (leaving end count xs)
leaving_distinct end count xs distinct =
    let m : ℕ = length xs - count in
    distinct-right (take m (outward end xs)) (drop m (outward end xs)) (outward_parts end m xs distinct)

leaving_there : (i : ℕ) (end : End) (count : ℕ) (xs : List Ion) → IsTrue (is_there i (leaving end count xs)) → IsTrue (is_there i xs)
leaving_there i end count xs leaves = there-parted i end count xs ∙ or_right (is_there i (left end count xs)) (is_there i (leaving end count xs)) leaves

before-leaving : (i j : ℕ) (end : End) (count : ℕ) (xs : List Ion) → AreDistinct xs → IsTrue (is_there i (leaving end count xs)) → IsTrue (is_there j (leaving end count xs))
    → is_before i j (leaving end count xs) ≡ is_before i j (outward end xs)
before-leaving i j end count xs distinct leaves_i leaves_j = before-drop i j (length xs - count) (outward end xs) (distinct-outward end xs distinct) leaves_i leaves_j

-- an ion that comes was not there
joined_apart : (i : ℕ) (end : End) (coming xs : List Ion) → AreDistinct (joined end coming xs) → IsTrue (is_there i coming) → is_there i (outward end xs) ≡ false
joined_apart i end coming xs joins comes = false_from_ne_true (is_there i (outward end xs)) (λ old. both_ways (is_there i (reverse coming))
    (distinct-apart i (outward end xs) (reverse coming) (joined_parts end coming xs joins) old) (there-reverse i coming ∙ comes))

-- those that come in by end a are in the order in which they left, and by end b in the other
before-coming_a : (i j : ℕ) (coming xs : List Ion) → AreDistinct coming → AreDistinct (joined A coming xs) → IsTrue (is_there i coming) → IsTrue (is_there j coming)
    → is_before i j (joined A coming xs) ≡ is_before i j coming
before-coming_a i j coming xs distinct joins comes_i comes_j =
    before-reverse i j (reverse xs ++ reverse coming) (joined_parts A coming xs joins)
    ∙ before-append_right j i (reverse xs) (reverse coming) (joined_apart j A coming xs joins comes_j) ∙ before-reverse j i coming distinct

before-coming_b : (i j : ℕ) (coming xs : List Ion) → AreDistinct coming → AreDistinct (joined B coming xs) → IsTrue (is_there i coming)
    → is_before i j (joined B coming xs) ≡ is_before j i coming
before-coming_b i j coming xs distinct joins comes_i = before-append_right i j xs (reverse coming) (joined_apart i B coming xs joins comes_i) ∙ before-reverse i j coming distinct

-- both come: seen from end a their order turns where they left and came by the same end
pub before-joined_new : (i j : ℕ) (from_end to_end : End) (count : ℕ) (xs ys : List Ion) → AreDistinct xs → AreDistinct (joined to_end (leaving from_end count xs) ys) → i ≢ j
    → IsTrue (is_there i (leaving from_end count xs)) → IsTrue (is_there j (leaving from_end count xs))
    → is_before i j (joined to_end (leaving from_end count xs) ys) ≡ (if same_end from_end to_end then not (is_before i j xs) else is_before i j xs)
before-joined_new i j A A count xs ys distinct joins differ leaves_i leaves_j =
    before-coming_a i j (leaving A count xs) ys (leaving_distinct A count xs distinct) joins leaves_i leaves_j
    ∙ before-leaving i j A count xs distinct leaves_i leaves_j ∙ before-reverse i j xs distinct
    ∙ before-turned j i xs distinct (λ e. differ (sym e)) (leaving_there j A count xs leaves_j) (leaving_there i A count xs leaves_i)
before-joined_new i j B B count xs ys distinct joins differ leaves_i leaves_j =
    before-coming_b i j (leaving B count xs) ys (leaving_distinct B count xs distinct) joins leaves_i
    ∙ before-leaving j i B count xs distinct leaves_j leaves_i
    ∙ before-turned j i xs distinct (λ e. differ (sym e)) (leaving_there j B count xs leaves_j) (leaving_there i B count xs leaves_i)
before-joined_new i j A B count xs ys distinct joins differ leaves_i leaves_j =
    before-coming_b i j (leaving A count xs) ys (leaving_distinct A count xs distinct) joins leaves_i
    ∙ before-leaving j i A count xs distinct leaves_j leaves_i ∙ before-reverse j i xs distinct
before-joined_new i j B A count xs ys distinct joins differ leaves_i leaves_j =
    before-coming_a i j (leaving B count xs) ys (leaving_distinct B count xs distinct) joins leaves_i leaves_j
    ∙ before-leaving i j B count xs distinct leaves_i leaves_j
