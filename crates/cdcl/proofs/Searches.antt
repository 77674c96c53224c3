-- What the search keeps.
use Rattle.std.proofs.Common.{◌≡◌, ◌≢◌, ℕ, zero, suc, ◌+◌, ◌≤◌, List, [], ◌∷◌, ◌++◌, ◌⊎◌, inl, inr, length, refl, sym, ap, ◌∙◌, subst, arith, append_assoc, length-append}
use Rattle.std.proofs.lemmas.List.{map-append}
use Rattle.sat_base.specs.Literal.{Literal}
use Rattle.sat_base.specs.Derivation.{Refutes, AnyRefutes}
use Rattle.sat_base.specs.Fresh.{IsFreshOver}
use Rattle.derivation_log.specs.declared.line_id.LineId.{LineId}
use Rattle.derivation_log.specs.Log.{Derived, Lines, log_of, clauses_of, IsLine, clause_of}
use Rattle.cdcl.specs.Clauses.{clauses_in}
use Rattle.cdcl.specs.Solver.{SolverState, AreLearnt, Learns, IsRefuting}
use Rattle.cdcl.specs.Searching.{ChangesTrailOnly, IsAssumed, AddsLine, IsLearnt}
use Rattle.cdcl.proofs.Learning.{added_clause, new_line_is_line}

-- ---- learnt lines

no_more : {X : Type 0} (xs : List X) → xs ++ [] ≡ xs
no_more [] = refl
no_more (x ∷ xs) = ap (λ (rest : List _). x ∷ rest) (no_more xs)

-- one more, where none refutes the goal so far
pub AreLearnt-push : (clauses : List (List Literal)) (goal : Literal) (lines : List (List Literal)) (line : List Literal) → AreLearnt clauses goal lines → (AnyRefutes goal lines → ⊥) → IsFreshOver (clauses ++ lines) line ⊎ Refutes goal line → AreLearnt clauses goal (lines ++ line ∷ [])
AreLearnt-push clauses goal [] line learnt none new = (subst (λ (cs : List (List Literal)). IsFreshOver cs line ⊎ Refutes goal line) (no_more clauses) new, (λ refutes. refl), tt)
AreLearnt-push clauses goal (x ∷ lines) line learnt none new = (
  learnt.0,
  (λ refutes. absurd (none (0, x, omega arith, refl, refutes))),
  AreLearnt-push (clauses ++ x ∷ []) goal lines line learnt.2 (λ (k, y, within, is, refutes). none (suc k, y, omega arith, is, refutes))
      (subst (λ (cs : List (List Literal)). IsFreshOver cs line ⊎ Refutes goal line) (sym (append_assoc clauses (x ∷ []) lines)) new),
)

any_right : (goal : Literal) (xs ys : List (List Literal)) → AnyRefutes goal ys → AnyRefutes goal (xs ++ ys)
any_right goal [] ys any = any
any_right goal (x ∷ xs) ys any = let (k, y, within, is, refutes) = any_right goal xs ys any in (suc k, y, omega arith, is, refutes)

any_left : (goal : Literal) (xs ys : List (List Literal)) → AnyRefutes goal xs → AnyRefutes goal (xs ++ ys)
any_left goal [] ys (k, y, within, is, refutes) = absurd (omega arith)
any_left goal (x ∷ xs) ys (zero, y, within, is, refutes) = (0, y, omega arith, is, refutes)
any_left goal (x ∷ xs) ys (suc k, y, within, is, refutes) = let (j, z, inside, same, also) = any_left goal xs ys (k, y, omega arith, is, refutes) in (suc j, z, omega arith, same, also)

any_pushed : (goal : Literal) (xs : List (List Literal)) (x : List Literal) → AnyRefutes goal (xs ++ x ∷ []) → AnyRefutes goal xs ⊎ Refutes goal x
any_pushed goal [] x (zero, y, within, is, refutes) = inr (subst (Refutes goal) (sym is) refutes)
any_pushed goal [] x (suc k, y, within, is, refutes) = absurd (omega arith)
any_pushed goal (z ∷ xs) x (zero, y, within, is, refutes) = inl (0, y, omega arith, is, refutes)
any_pushed goal (z ∷ xs) x (suc k, y, within, is, refutes) =
    elim (any_pushed goal xs x (k, y, omega arith, is, refutes)) [
      | inl h ↦ inl (suc h.0, h.1, omega (arith, h.2), h.3, h.4)
      | inr h ↦ inr h
    ]

-- ---- the log of the search

pub record Searched (old now : Lines) (goal : Literal) (budget : ℕ) : Type 0 where
  pub learns : Learns old now goal
  pub none : AnyRefutes goal (clauses_of now.derived) → ⊥
  pub within : length now.derived ≤ budget

pub Learns-none : (log : Lines) (goal : Literal) → Learns log log goal
Learns-none log goal = record { lines = []; added = ap (log_of log.axioms) (sym (no_more log.derived)); learnt = tt; needed = λ any. refl }

pub searched_start : (log : Lines) (goal : Literal) (budget : ℕ) → (AnyRefutes goal (clauses_of log.derived) → ⊥) → length log.derived ≤ budget → Searched log log goal budget
searched_start log goal budget none within = record { learns = Learns-none log goal; none = none; within = within }

clauses_after : (old now : Lines) (lines : List Derived) → now ≡ log_of old.axioms (old.derived ++ lines) → clauses_in now ≡ clauses_in old ++ clauses_of lines
clauses_after old now lines added =
    ap clauses_in added ∙ ap (λ (cs : List (List Literal)). old.axioms ++ cs) (map-append (λ (d : Derived). d.clause) old.derived lines)
    ∙ sym (append_assoc old.axioms (clauses_of old.derived) (clauses_of lines))

-- the log after a further line
pub learns_line : (old now new : Lines) (goal : Literal) (budget : ℕ) (line : LineId) → Searched old now goal budget → AddsLine now new line → IsLearnt now goal (clause_of new line) → Learns old new goal
learns_line old now new goal budget line searched adds learnt =
    let learns = searched.learns in
    let d = adds.derived in
    let clause = added_clause now new d line adds.added adds.is in
    let grown : new ≡ log_of old.axioms (old.derived ++ (learns.lines ++ d ∷ [])) =
    adds.added ∙ ap (λ (log : Lines). log_of log.axioms (log.derived ++ d ∷ [])) learns.added ∙ ap (log_of old.axioms) (append_assoc old.derived learns.lines (d ∷ [])) in
    let none : AnyRefutes goal (clauses_of learns.lines) → ⊥ = λ any.
    searched.none (subst (AnyRefutes goal) (sym (ap (λ (log : Lines). clauses_of log.derived) learns.added ∙ map-append (λ (x : Derived). x.clause) old.derived learns.lines)) (any_right goal (clauses_of old.derived) (clauses_of learns.lines) any)) in
    let over = clauses_after old now learns.lines learns.added in
    let fresh : IsFreshOver (clauses_in old ++ clauses_of learns.lines) d.clause ⊎ Refutes goal d.clause =
    subst (λ (cs : List (List Literal)). IsFreshOver cs d.clause ⊎ Refutes goal d.clause) over (subst (IsLearnt now goal) clause learnt) in
    record {
      lines = learns.lines ++ d ∷ [];
      added = grown;
      learnt = subst (AreLearnt (clauses_in old) goal) (sym (map-append (λ (x : Derived). x.clause) learns.lines (d ∷ [])))
          (AreLearnt-push (clauses_in old) goal (clauses_of learns.lines) d.clause learns.learnt none fresh);
      needed = λ any. absurd (searched.none (subst (AnyRefutes goal)
          (sym (ap (λ (log : Lines). clauses_of log.derived) learns.added ∙ map-append (λ (x : Derived). x.clause) old.derived learns.lines))
          (any_left goal (clauses_of old.derived) (clauses_of learns.lines) any)));
    }

pub length_line : (now new : Lines) (line : LineId) → AddsLine now new line → length new.derived ≡ length now.derived + 1
length_line now new line adds = ap (λ (log : Lines). length log.derived) adds.added ∙ length-append now.derived (adds.derived ∷ [])

pub searched_line : (old now new : Lines) (goal : Literal) (budget : ℕ) (line : LineId) → Searched old now goal budget → AddsLine now new line → IsLearnt now goal (clause_of new line) → (Refutes goal (clause_of new line) → ⊥) → length now.derived ≢ budget → Searched old new goal budget
searched_line old now new goal budget line searched adds learnt open_goal short = record {
  learns = learns_line old now new goal budget line searched adds learnt;
  none = λ any.
      let d = adds.derived in
      let clause = added_clause now new d line adds.added adds.is in
      elim (any_pushed goal (clauses_of now.derived) d.clause
      (subst (AnyRefutes goal) (ap (λ (log : Lines). clauses_of log.derived) adds.added ∙ map-append (λ (x : Derived). x.clause) now.derived (d ∷ [])) any)) [
        | inl h ↦ searched.none h
        | inr h ↦ open_goal (subst (Refutes goal) (sym clause) h)
      ];
  within = let len = length_line now new line adds in let low = searched.within in omega arith;
}

pub refuted_line : (now new : Lines) (goal : Literal) (line : LineId) → AddsLine now new line → Refutes goal (clause_of new line) → IsRefuting new goal line
refuted_line now new goal line adds refutes = record {
  derived = ap (λ (id : LineId). id.derived) adds.is;
  is_line = subst (λ (log : Lines). IsLine log line) (sym adds.added) (subst (IsLine (log_of now.axioms (now.derived ++ adds.derived ∷ []))) (sym adds.is) (new_line_is_line now adds.derived));
  refutes = refutes;
}

-- ---- the solver during the search

pub record Searches (old now : SolverState) (goal : Literal) (budget : ℕ) : Type 0 where
  pub log : Searched old.log now.log goal budget
  pub vars : now.trail.vars ≡ old.trail.vars
  pub failed : now.failed ≡ old.failed
  pub assumed : IsAssumed goal now.trail

-- one iteration
pub searches_on : (old before mid now : SolverState) (goal : Literal) (budget : ℕ) (line : LineId) → Searches old before goal budget → ChangesTrailOnly before mid → AddsLine mid.log now.log line → IsLearnt mid.log goal (clause_of now.log line) → (Refutes goal (clause_of now.log line) → ⊥) → length mid.log.derived ≢ budget → now.trail.vars ≡ mid.trail.vars → now.failed ≡ mid.failed → IsAssumed goal now.trail
    → Searches old now goal budget
searches_on old before mid now goal budget line searches down adds learnt open_goal short vars failed assumed = record {
  log = searched_line old.log mid.log now.log goal budget line (subst (λ (log : Lines). Searched old.log log goal budget) (sym down.log) searches.log) adds learnt open_goal short;
  vars = vars ∙ down.vars ∙ searches.vars;
  failed = failed ∙ down.failed ∙ searches.failed;
  assumed = assumed;
}

-- a restart
pub searches_back : (old now back : SolverState) (goal : Literal) (budget : ℕ) → Searches old now goal budget → back.log ≡ now.log → back.trail.vars ≡ now.trail.vars → back.failed ≡ now.failed → back.trail.level ≡ 0 → Searches old back goal budget
searches_back old now back goal budget searches log vars failed base = record {
  log = subst (λ (l : Lines). Searched old.log l goal budget) (sym log) searches.log;
  vars = vars ∙ searches.vars;
  failed = failed ∙ searches.failed;
  assumed = λ high. absurd (omega arith);
}
