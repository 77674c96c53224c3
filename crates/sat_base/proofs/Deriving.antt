-- What good and fresh lines say.
use Rattle.std.proofs.Common.{◌≢◌, ℕ, zero, suc, ◌-◌, ◌<◌, ◌≤◌, List, [], ◌∷◌, ◌++◌, ◌⊎◌, inl, inr, length, map, slice_index_or, refl, sym, ap, ◌∙◌, subst, arith, append_assoc}
use Rattle.std.specs.Prelude.{IsTrue, All, Contains, AllPairs}
use Rattle.std.proofs.lemmas.List.Elements.{All-contains, Contains-append_left, Contains-append_right, Contains-push}
use Rattle.sat_base.specs.Literal.{Literal, negated}
use Rattle.sat_base.specs.Clauses.{Has, IsSubclause, SameLiterals, clause_at}
use Rattle.sat_base.specs.Truth.{Valuation, is_true, SatisfiesClause, Satisfies}
use Rattle.sat_base.specs.Derivation.{Line, clauses_of, AreDerived, AreGood, AnyRefutes}
use Rattle.sat_base.specs.Fresh.{IsConsistent, IsOpen, HasTrue, HasTwoOpen, AssumesAllButOne, IsFreshOver, Parts, clauses_up_to, IsFresh, AreFresh}
use Rattle.sat_base.proofs.Clauses.{EachVariable-has}
use Rattle.sat_base.proofs.Truth.{some_true, Satisfies-append, Satisfies-of_append}
use Rattle.sat_base.proofs.Resolving.{follows, not_both_signs}

satisfied_at : (values : Valuation) (clauses : List (List Literal)) (k : ℕ) (d : List Literal) → k < length clauses → Satisfies values clauses → SatisfiesClause values (slice_index_or clauses k d)
satisfied_at values [] k d within all = absurd (omega arith)
satisfied_at values (c ∷ clauses) zero d within all = all.0
satisfied_at values (c ∷ clauses) (suc k) d within all = satisfied_at values clauses k d (omega arith) all.1

satisfied_named : (values : Valuation) (clauses : List (List Literal)) (hints : List ℕ) → All (λ hint. (1 ≤ hint) × (hint ≤ length clauses)) hints → Satisfies values clauses → Satisfies values (map (clause_at clauses) hints)
satisfied_named values clauses [] named all = tt
satisfied_named values clauses (hint ∷ hints) named all =
    let first = named 0 0 (omega arith) in (
      satisfied_at values clauses (hint - 1) [] (omega (arith, first)) all,
      satisfied_named values clauses hints (λ k d h. named (suc k) d (omega arith)) all,
    )

pub lines_follow : (values : Valuation) (clauses : List (List Literal)) (lines : List Line) → AreDerived clauses lines → Satisfies values clauses → Satisfies values (clauses ++ clauses_of lines)
lines_follow values clauses [] derived all = Satisfies-append values clauses [] all tt
lines_follow values clauses (line ∷ lines) derived all =
    let next = follows values (map (clause_at clauses) line.hints) line.clause derived.0.resolve (satisfied_named values clauses line.hints derived.0.named all) in
    let grown : Satisfies values (clauses ++ line.clause ∷ []) = Satisfies-append values clauses (line.clause ∷ []) all (next, tt) in
    subst (Satisfies values) (append_assoc clauses (line.clause ∷ []) (clauses_of lines)) (lines_follow values (clauses ++ line.clause ∷ []) lines derived.1 grown)

pub lines_refute : (values : Valuation) (formula : List (List Literal)) (lines : List Line) (goal : Literal) → AreDerived formula lines → AnyRefutes goal (clauses_of lines) → Satisfies values formula → IsTrue (is_true values goal) → ⊥
lines_refute values formula lines goal derived (k, clause, within, is, refutes) all on =
    let every = (Satisfies-of_append values formula (clauses_of lines) (lines_follow values formula lines derived all)).1 in
    let found = some_true values clause (subst (SatisfiesClause values) is (satisfied_at values (clauses_of lines) k clause within every)) in
    not_both_signs values goal on (subst (λ (l : Literal). IsTrue (is_true values l)) (refutes found.0 found.1.0) found.1.1)

pub AreDerived-good : (vars : ℕ) (clauses : List (List Literal)) (lines : List Line) → AreGood vars clauses lines → AreDerived clauses lines
AreDerived-good vars clauses [] good = tt
AreDerived-good vars clauses (line ∷ lines) good = (good.0.derived, AreDerived-good vars (clauses ++ line.clause ∷ []) lines good.1)

-- ---- fresh lines

open_not_in : (set : List Literal) (literal other : Literal) → IsOpen set literal → Has set other → other.var ≢ literal.var
open_not_in set literal other free has = EachVariable-has (λ var. var ≢ literal.var) set other free has

-- a literal of the line is denied by the set, or is the last one
denied : (set line : List Literal) (assumes : AssumesAllButOne set line) (literal : Literal) → Has line literal → IsConsistent set → Has set literal → ⊥
denied set line assumes literal is_in consistent holds =
    let other : literal ≢ assumes.last = λ same. open_not_in set assumes.last literal assumes.last_open holds (ap (λ (l : Literal). l.var) same) in
    consistent literal holds (assumes.others literal is_in other)

-- an open literal of the line is not another one than the last
only_last : (set line : List Literal) (assumes : AssumesAllButOne set line) (literal : Literal) → Has line literal → IsOpen set literal → literal ≢ assumes.last → ⊥
only_last set line assumes literal is_in free other = open_not_in set literal (negated literal) free (assumes.others literal is_in other) refl

two_open : (set line : List Literal) (assumes : AssumesAllButOne set line) (first second : Literal) → Has line first → Has line second → IsOpen set first → IsOpen set second → first ≢ second → ⊥
two_open set line assumes first second has_first has_second first_open second_open different =
    only_last set line assumes first has_first first_open (λ same.
    only_last set line assumes second has_second second_open (λ again. different (same ∙ sym again)))

pub fresh_is_new : (clauses : List (List Literal)) (line clause : List Literal) → IsFreshOver clauses line → Contains clauses clause → IsSubclause clause line → ⊥
fresh_is_new clauses line clause fresh is_in within =
    elim (All-contains (λ clause. HasTrue fresh.set clause ⊎ HasTwoOpen fresh.set clause) clauses clause fresh.closed is_in) [
      | inl h ↦ denied fresh.set line fresh.assumes h.literal (within h.literal h.has) fresh.consistent h.holds
      | inr h ↦ two_open fresh.set line fresh.assumes h.first h.second (within h.first h.has_first) (within h.second h.has_second) h.first_open h.second_open h.different
    ]

-- a fresh line has other literals than each earlier clause
fresh_differs : (parts : Parts) (last : ℕ) (earlier : List (List Literal)) (line : Line) (clause : List Literal) → IsFresh parts last earlier line → Contains earlier clause → SameLiterals clause line.clause → ⊥
fresh_differs parts last earlier line clause fresh is_in same =
    elim fresh.new [
      | inl first ↦ first.first (is_in.0, clause, is_in.1, is_in.2, λ literal has. first.refutes literal (same.0 literal has))
      | inr over ↦
          let before = clauses_up_to parts fresh.bound in
          fresh_is_new (before ++ earlier) line.clause clause over (Contains-append_right before earlier clause is_in) same.0
    ]

later_differ : (parts : Parts) (last : ℕ) (earlier : List (List Literal)) (lines : List Line) (clause : List Literal) (k : ℕ) (d : Line) → AreFresh parts last earlier lines → Contains earlier clause → k < length lines → SameLiterals clause (slice_index_or lines k d).clause → ⊥
later_differ parts last earlier [] clause k d fresh is_in within same = absurd (omega arith)
later_differ parts last earlier (line ∷ lines) clause zero d fresh is_in within same = fresh_differs parts last earlier line clause fresh.0 is_in same
later_differ parts last earlier (line ∷ lines) clause (suc k) d fresh is_in within same =
    later_differ parts last (earlier ++ line.clause ∷ []) lines clause k d fresh.1 (Contains-append_left earlier (line.clause ∷ []) clause is_in) (omega arith) same

pub all_differ : (parts : Parts) (last : ℕ) (earlier : List (List Literal)) (lines : List Line) → AreFresh parts last earlier lines → AllPairs (λ (line other : Line). SameLiterals line.clause other.clause → ⊥) lines
all_differ parts last earlier [] fresh i j d before within same = absurd (omega arith)
all_differ parts last earlier (line ∷ lines) fresh i zero d before within same = absurd (omega arith)
all_differ parts last earlier (line ∷ lines) fresh zero (suc j) d before within same =
    later_differ parts last (earlier ++ line.clause ∷ []) lines line.clause j d fresh.1 (Contains-push earlier line.clause) (omega arith) same
all_differ parts last earlier (line ∷ lines) fresh (suc i) (suc j) d before within same =
    all_differ parts last (earlier ++ line.clause ∷ []) lines fresh.1 i j d (omega arith) (omega arith) same
