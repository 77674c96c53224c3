-- Sound logs, and how they grow.
use Rattle.std.proofs.Common.{◌≡◌, ◌≢◌, ℕ, zero, suc, ◌+◌, ◌-◌, ◌<◌, ◌≤◌, Bool, true, false, cond, List, [], ◌∷◌, ◌++◌, inl, inr, length, drop, slice_index_or, refl, sym, ap, ◌∙◌, subst, arith, append_assoc, length-append}
use Rattle.std.specs.Prelude.{◌↔◌, All, Contains, ◌==◌, eqb, IsPermutation}
use Rattle.std.specs.List.{IsDistinct, AllByRecursion}
use Rattle.std.specs.List.Sorted.{IsNonDecreasingBy}
use Rattle.std.proofs.lemmas.List.{get_or_append_left, length-map, map-append, drop_more, drop_all, get_or-map}
use Rattle.std.proofs.lemmas.List.Sorted.{Contains-permutation, IsPermutation-sym}
use Rattle.std.proofs.lemmas.Map.Keys.{IsDistinct-IsPermutation}
use Rattle.std.proofs.lemmas.Bool.{ne_eqb, eqb-false}
use Rattle.sat_base.specs.Literal.{Literal}
use Rattle.sat_base.specs.Clauses.{Has, SameLiterals, EachVariable, HasDistinctVariables, clause_at}
use Rattle.sat_base.specs.Resolution.{SoFar, Leads, ResolveTo, Resolve, Begins, Joins, IsRefused}
use Rattle.sat_base.specs.Derivation.{IsAscending}
use Rattle.sat_base.specs.Fresh.{IsConsistent}
use Rattle.sat_base.proofs.Clauses.{HaveDistinctVariables-append, HasDistinctVariables-at}
use Rattle.sat_base.proofs.Sets.{IsConsistent-distinct, HasDistinctVariables-ascending}
use Rattle.derivation_log.specs.declared.line_id.LineId.{LineId}
use Rattle.derivation_log.specs.Log.{Derived, Lines, log_of, clauses_of, IsLine, clause_of, chain_of, Follows, AreSound, IsSound}

-- ---- lines stay as the log grows

clause_at-more : (clauses more : List (List Literal)) (number : ℕ) → 1 ≤ number → number ≤ length clauses → clause_at (clauses ++ more) number ≡ clause_at clauses number
clause_at-more clauses more number counted within = get_or_append_left clauses more [] (number - 1) (omega arith)

clause_in_more : (axioms more : List (List Literal)) (before later : List Derived) (derived : Bool) (number : ℕ) → 1 ≤ number → number ≤ cond derived (length before) (length axioms)
    → clause_at (cond derived (clauses_of (before ++ later)) (axioms ++ more)) number ≡ clause_at (cond derived (clauses_of before) axioms) number
clause_in_more axioms more before later true number counted within =
    let len : length (clauses_of before) ≡ length before = length-map before (λ (line : Derived). line.clause) in
    ap (λ (clauses : List (List Literal)). clause_at clauses number) (map-append (λ (line : Derived). line.clause) before later)
    ∙ clause_at-more (clauses_of before) (clauses_of later) number counted (omega arith)
clause_in_more axioms more before later false number counted within = clause_at-more axioms more number counted within

pub clause_of-more : (axioms more : List (List Literal)) (before later : List Derived) (line : LineId) → IsLine (log_of axioms before) line → clause_of (log_of (axioms ++ more) (before ++ later)) line ≡ clause_of (log_of axioms before) line
clause_of-more axioms more before later line is = clause_in_more axioms more before later line.derived line.number is.counted is.within

within_more : (axioms more : List (List Literal)) (before later : List Derived) (derived : Bool) (number : ℕ) → number ≤ cond derived (length before) (length axioms) → number ≤ cond derived (length (before ++ later)) (length (axioms ++ more))
within_more axioms more before later true number h = omega (arith, length-append before later)
within_more axioms more before later false number h = omega (arith, length-append axioms more)

pub IsLine-more : (axioms more : List (List Literal)) (before later : List Derived) (line : LineId) → IsLine (log_of axioms before) line → IsLine (log_of (axioms ++ more) (before ++ later)) line
IsLine-more axioms more before later line is = record { counted = is.counted; within = within_more axioms more before later line.derived line.number is.within }

pub chain_of-more : (axioms more : List (List Literal)) (before later : List Derived) (chain : List LineId) → All (IsLine (log_of axioms before)) chain → chain_of (log_of (axioms ++ more) (before ++ later)) chain ≡ chain_of (log_of axioms before) chain
chain_of-more axioms more before later [] named = refl
chain_of-more axioms more before later (line ∷ chain) named =
    let first : clause_of (log_of (axioms ++ more) (before ++ later)) line ≡ clause_of (log_of axioms before) line = clause_of-more axioms more before later line (named 0 line (omega arith)) in
    let rest : chain_of (log_of (axioms ++ more) (before ++ later)) chain ≡ chain_of (log_of axioms before) chain = chain_of-more axioms more before later chain (λ k d h. named (suc k) d (omega arith)) in
    rw (first, rest) refl

pub Follows-more : (axioms more : List (List Literal)) (before later : List Derived) (line : Derived) → Follows (log_of axioms before) line → Follows (log_of (axioms ++ more) (before ++ later)) line
Follows-more axioms more before later line follows =
    record {
      ascending = follows.ascending;
      named = λ k d h. IsLine-more axioms more before later (slice_index_or line.hints k d) (follows.named k d h);
      resolve = rw (chain_of-more axioms more before later line.hints follows.named) follows.resolve;
    }

append_none : {X : Type 0} (xs : List X) → xs ++ [] ≡ xs
append_none [] = refl
append_none (x ∷ xs) = ap (λ (ys : List _). x ∷ ys) (append_none xs)

AreSound-more : (axioms more : List (List Literal)) (before lines : List Derived) → AreSound axioms before lines → AreSound (axioms ++ more) before lines
AreSound-more axioms more before [] sound = tt
AreSound-more axioms more before (line ∷ lines) sound = (
  subst (λ (xs : List Derived). Follows (log_of (axioms ++ more) xs) line) (append_none before) (Follows-more axioms more before [] line sound.0),
  AreSound-more axioms more (before ++ line ∷ []) lines sound.1,
)

pub IsSound-axiom : (axioms : List (List Literal)) (derived : List Derived) (clause : List Literal) → IsSound (log_of axioms derived) → HasDistinctVariables clause → IsSound (log_of (axioms ++ clause ∷ []) derived)
IsSound-axiom axioms derived clause sound distinct =
    record {
      distinct = HaveDistinctVariables-append axioms (clause ∷ []) sound.distinct (distinct, tt);
      sound = AreSound-more axioms (clause ∷ []) [] derived sound.sound;
    }

AreSound-push : (axioms : List (List Literal)) (before lines : List Derived) (line : Derived) → AreSound axioms before lines → Follows (log_of axioms (before ++ lines)) line → AreSound axioms before (lines ++ line ∷ [])
AreSound-push axioms before [] line sound follows = (subst (λ (xs : List Derived). Follows (log_of axioms xs) line) (append_none before) follows, tt)
AreSound-push axioms before (first ∷ lines) line sound follows =
    (sound.0, AreSound-push axioms (before ++ first ∷ []) lines line sound.1 (subst (λ (xs : List Derived). Follows (log_of axioms xs) line) (sym (append_assoc before (first ∷ []) lines)) follows))

pub IsSound-derived : (axioms : List (List Literal)) (derived : List Derived) (line : Derived) → IsSound (log_of axioms derived) → Follows (log_of axioms derived) line → IsSound (log_of axioms (derived ++ line ∷ []))
IsSound-derived axioms derived line sound follows =
    record { distinct = sound.distinct; sound = AreSound-push axioms [] derived line sound.sound follows }

-- ---- no clause of a log has a literal beside its negation

ascending_at : (axioms : List (List Literal)) (before lines : List Derived) (k : ℕ) → AreSound axioms before lines → IsAscending (slice_index_or (clauses_of lines) k [])
ascending_at axioms before [] k sound = tt
ascending_at axioms before (line ∷ lines) zero sound = sound.0.ascending
ascending_at axioms before (line ∷ lines) (suc k) sound = ascending_at axioms (before ++ line ∷ []) lines k sound.1

distinct_in : (axioms : List (List Literal)) (derived : List Derived) (is_derived : Bool) (number : ℕ) → IsSound (log_of axioms derived) → HasDistinctVariables (clause_at (cond is_derived (clauses_of derived) axioms) number)
distinct_in axioms derived true number sound = HasDistinctVariables-ascending (clause_at (clauses_of derived) number) (ascending_at axioms [] derived (number - 1) sound.sound)
distinct_in axioms derived false number sound = HasDistinctVariables-at axioms number sound.distinct

pub distinct_of : (log : Lines) (line : LineId) → IsSound log → HasDistinctVariables (clause_of log line)
distinct_of log line sound = distinct_in log.axioms log.derived line.derived line.number sound

pub consistent_of : (log : Lines) (line : LineId) → IsSound log → IsConsistent (clause_of log line)
consistent_of log line sound = IsConsistent-distinct (clause_of log line) (distinct_of log line sound)

-- ---- the chain from an index on

pub chain_from : (log : Lines) (chain : List LineId) (i : ℕ) (d : LineId) → i < length chain → drop i (chain_of log chain) ≡ clause_of log (slice_index_or chain i d) ∷ drop (i + 1) (chain_of log chain)
chain_from log chain i d within =
    let len : length (chain_of log chain) ≡ length chain = length-map chain (clause_of log) in
    drop_more (chain_of log chain) i [] (omega arith)
    ∙ ap (λ (clause : List Literal). clause ∷ drop (i + 1) (chain_of log chain)) (get_or-map (clause_of log) chain i d [] within)

-- ---- literals in the order of their variables

has_from : (xs : List Literal) (literal : Literal) → Has xs literal → Contains xs literal
has_from [] literal has = absurd has
has_from (x ∷ xs) literal (inl e) = (0, omega arith, e)
has_from (x ∷ xs) literal (inr h) = let c = has_from xs literal h in (suc c.0, omega (arith, c.1), c.2)

from_contains : (xs : List Literal) (literal : Literal) (k : ℕ) → k < length xs → slice_index_or xs k literal ≡ literal → Has xs literal
from_contains [] literal k within is = absurd (omega arith)
from_contains (x ∷ xs) literal zero within is = inl is
from_contains (x ∷ xs) literal (suc k) within is = inr (from_contains xs literal k (omega arith) is)

moved_literals : (xs ys : List Literal) → IsPermutation xs ys → (literal : Literal) → Has xs literal → Has ys literal
moved_literals xs ys moved literal has = let c = Contains-permutation xs ys literal moved (has_from xs literal has) in from_contains ys literal c.0 c.1 c.2

pub same_literals : (xs ys : List Literal) → IsPermutation xs ys → SameLiterals xs ys
same_literals xs ys moved = (moved_literals xs ys moved, moved_literals ys xs (IsPermutation-sym xs ys moved))

-- two literals have one variable
abbrev shares_variable : Literal → Literal → Bool
shares_variable a b = a.var == b.var

differ : (x : Literal) (xs : List Literal) → EachVariable (λ var. var ≢ x.var) xs → AllByRecursion (λ y. shares_variable x y ≡ false) xs
differ x [] each = tt
differ x (y ∷ xs) each = (ne_eqb x.var y.var (λ e. each.0 (sym e)), differ x xs each.1)

from_distinct : (xs : List Literal) → HasDistinctVariables xs → IsDistinct shares_variable xs
unfolding IsDistinct
from_distinct [] distinct = tt
from_distinct (x ∷ xs) distinct = (differ x xs distinct.0, from_distinct xs distinct.1)

rises : (x : Literal) (xs : List Literal) → AllByRecursion (λ y. shares_variable x y ≡ false) xs → ((k : ℕ) (d : Literal) → k < length xs → x.var ≤ (slice_index_or xs k d).var) → EachVariable (λ var. x.var < var) xs
rises x [] differs above = tt
rises x (y ∷ xs) differs above = (
  let low = above 0 y (omega arith) in let ne = eqb-false x.var y.var differs.0 in omega arith,
  rises x xs differs.1 (λ k d h. above (suc k) d (omega arith)),
)

ascends : (xs : List Literal) → IsDistinct shares_variable xs → IsNonDecreasingBy (λ (l : Literal). l.var) xs → IsAscending xs
unfolding IsDistinct
ascends [] distinct up = tt
ascends (x ∷ xs) distinct up = (
  rises x xs distinct.0 (λ k d h. up 0 (suc k) d (omega arith) (omega arith)),
  ascends xs distinct.1 (λ i j d le h. up (suc i) (suc j) d (omega arith) (omega arith)),
)

flips : (a b : ℕ) → eqb a b ≡ eqb b a
flips a b = grind arith

pub sorted_ascends : (xs ys : List Literal) → HasDistinctVariables xs → IsPermutation xs ys → IsNonDecreasingBy (λ (l : Literal). l.var) ys → IsAscending ys
sorted_ascends xs ys distinct moved up = ascends ys (IsDistinct-IsPermutation shares_variable (λ a b. flips a.var b.var) xs ys moved (from_distinct xs distinct)) up

-- ---- resolving a chain

pub some_line : (log : Lines) (chain : List LineId) → Resolve (chain_of log chain) → 0 < length chain
some_line log [] resolves = absurd resolves.1
some_line log (line ∷ chain) resolves = omega arith

pub begins : (log : Lines) (chain : List LineId) (d : LineId) (first : List Literal) (so_far : SoFar) → Resolve (chain_of log chain) → first ≡ clause_of log (slice_index_or chain 0 d)
    → Begins first so_far
    → (clause : List Literal) → ResolveTo (chain_of log chain) clause ↔ Leads so_far (drop 1 (chain_of log chain)) clause
begins log chain d first so_far resolves is leads clause =
    let whole : chain_of log chain ≡ first ∷ drop 1 (chain_of log chain) = chain_from log chain 0 d (some_line log chain resolves) ∙ ap (λ (c : List Literal). c ∷ drop 1 (chain_of log chain)) (sym is) in
    subst (λ (clauses : List (List Literal)). ResolveTo clauses clause ↔ Leads so_far (drop 1 (chain_of log chain)) clause) (sym whole) (leads (drop 1 (chain_of log chain)) clause)

pub continues : (log : Lines) (chain : List LineId) (i : ℕ) (d : LineId) (hint : List Literal) (so_far next : SoFar) → i < length chain → hint ≡ clause_of log (slice_index_or chain i d)
    → Joins so_far hint next
    → ((clause : List Literal) → ResolveTo (chain_of log chain) clause ↔ Leads so_far (drop i (chain_of log chain)) clause)
    → (clause : List Literal) → ResolveTo (chain_of log chain) clause ↔ Leads next (drop (i + 1) (chain_of log chain)) clause
continues log chain i d hint so_far next within is leads before clause =
    let rest : drop i (chain_of log chain) ≡ hint ∷ drop (i + 1) (chain_of log chain) = chain_from log chain i d within ∙ ap (λ (c : List Literal). c ∷ drop (i + 1) (chain_of log chain)) (sym is) in
    let both = leads (drop (i + 1) (chain_of log chain)) clause in (
      λ h. both.0 (subst (λ (clauses : List (List Literal)). Leads so_far clauses clause) rest ((before clause).0 h)),
      λ h. (before clause).1 (subst (λ (clauses : List (List Literal)). Leads so_far clauses clause) (sym rest) (both.1 h)),
    )

pub cannot_stop : (log : Lines) (chain : List LineId) (i : ℕ) (d : LineId) (hint : List Literal) (so_far : SoFar) → i < length chain → hint ≡ clause_of log (slice_index_or chain i d)
    → IsRefused so_far hint
    → ((clause : List Literal) → ResolveTo (chain_of log chain) clause ↔ Leads so_far (drop i (chain_of log chain)) clause)
    → Resolve (chain_of log chain) → ⊥
cannot_stop log chain i d hint so_far within is stuck before resolves =
    let rest : drop i (chain_of log chain) ≡ hint ∷ drop (i + 1) (chain_of log chain) = chain_from log chain i d within ∙ ap (λ (c : List Literal). c ∷ drop (i + 1) (chain_of log chain)) (sym is) in
    stuck (drop (i + 1) (chain_of log chain)) resolves.0 (subst (λ (clauses : List (List Literal)). Leads so_far clauses resolves.0) rest ((before resolves.0).0 resolves.1))

pub ended : (log : Lines) (chain : List LineId) (i : ℕ) (so_far : SoFar) → length chain ≤ i
    → ((clause : List Literal) → ResolveTo (chain_of log chain) clause ↔ Leads so_far (drop i (chain_of log chain)) clause)
    → (clause : List Literal) → ResolveTo (chain_of log chain) clause ↔ SameLiterals so_far.clause clause
ended log chain i so_far over before clause =
    let len : length (chain_of log chain) ≡ length chain = length-map chain (clause_of log) in
    let none : drop i (chain_of log chain) ≡ [] = drop_all i (chain_of log chain) (omega arith) in
    subst (λ (clauses : List (List Literal)). ResolveTo (chain_of log chain) clause ↔ Leads so_far clauses clause) none (before clause)

-- what resolving gave, with its literals in order, follows
pub follows_from : (log : Lines) (chain : List LineId) (so_far clause : List Literal) → All (IsLine log) chain → ((other : List Literal) → ResolveTo (chain_of log chain) other ↔ SameLiterals so_far other) → SameLiterals so_far clause → IsAscending clause → Follows log (record { clause = clause; hints = chain })
follows_from log chain so_far clause named resolved same up = record { ascending = up; named = named; resolve = (resolved clause).1 same }
