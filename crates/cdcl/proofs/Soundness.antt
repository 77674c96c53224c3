-- What the calls of the solver keep.
use Rattle.std.proofs.Common.{◌≡◌, ◌≢◌, ℕ, suc, ◌+◌, ◌-◌, ◌<◌, ◌≤◌, Bool, true, false, not, cond, List, [], ◌∷◌, ◌++◌, ◌⊎◌, inl, inr, Option, Some, None, length, get_or, refl, sym, ap, ◌∙◌, subst, arith, append_assoc, length-append}
use Rattle.std.specs.Prelude.{All, IsSome}
use Rattle.std.proofs.lemmas.List.{map-append, length-map, get_or_append_left}
use Rattle.std.proofs.lemmas.Bool.{cases_lt}
use Rattle.sat_base.specs.Literal.{Literal, negated}
use Rattle.sat_base.specs.Clauses.{Has, EachVariable, NameOnly}
use Rattle.sat_base.specs.Fresh.{IsOpen}
use Rattle.sat_base.proofs.Clauses.{NameOnly-weaken, NameOnly-append}
use Rattle.sat_base.proofs.Resolving.{negated-negated}
use Rattle.derivation_log.specs.declared.line_id.LineId.{LineId}
use Rattle.derivation_log.specs.Log.{Derived, Lines, log_of, clauses_of, IsLine, clause_of}
use Rattle.derivation_log.proofs.Logs.{IsLine-more, clause_of-more}
use Rattle.cdcl.specs.Clauses.{clauses_in}
use Rattle.solver_trail.specs.declared.values.Assigned.{Assigned}
use Rattle.solver_trail.specs.Trail.{Trail, literals_of, up_to, last_level, AreInOrder, Forces, IsClosed, IsForced, AreForced, assigned, IsFalseAt}
use Rattle.cdcl.specs.Solver.{IsSound, Propagates}
use Rattle.solver_trail.proofs.Trails.{append_none, up_to_keeps, up_to_drops, up_to-push, up_to-all}
use Rattle.cdcl.proofs.Propagating.{AreForced-append}
use Rattle.cdcl.proofs.Walking.{AreForced-parts, Has-negated_at, order_one_level, order_consistent}
use Rattle.cdcl.proofs.Lines.{NameOnly-parts}

-- ---- literals of one variable

signs : (p q : Bool) → (p ≡ q) ⊎ (p ≡ not q)
signs true true = inl refl
signs true false = inr refl
signs false true = inr refl
signs false false = inl refl

pub same_variable : (a b : Literal) → a.var ≡ b.var → (a ≡ b) ⊎ (a ≡ negated b)
same_variable a b e =
    elim (signs a.positive b.positive) [
      | inl same ↦ inl (λ i. record { var = e i; positive = same i })
      | inr other ↦ inr (λ i. record { var = e i; positive = other i })
    ]

-- ---- up to a level

-- what is left up to a level is left up to a lower one
pub up_to-lower : (lower level : ℕ) (entries : List Assigned) → lower ≤ level → up_to lower (up_to level entries) ≡ up_to lower entries
up_to-lower lower level [] low = refl
up_to-lower lower level (x ∷ entries) low =
    elim (cases_lt level x.level) [
      | inl h ↦ ap (up_to lower) (up_to_drops level x entries h) ∙ up_to-lower lower level entries low ∙ sym (up_to_drops lower x entries (omega arith))
      | inr h ↦
          ap (up_to lower) (up_to_keeps level x entries h)
          ∙ elim (cases_lt lower x.level) [
            | inl k ↦ up_to_drops lower x (up_to level entries) k ∙ up_to-lower lower level entries low ∙ sym (up_to_drops lower x entries k)
            | inr k ↦ up_to_keeps lower x (up_to level entries) k ∙ ap (λ (xs : List Assigned). x ∷ xs) (up_to-lower lower level entries low) ∙ sym (up_to_keeps lower x entries k)
          ]
    ]

-- entries of a higher level change nothing
pub up_to-higher : (lower level : ℕ) (entries added : List Assigned) → lower < level → All (λ (entry : Assigned). (entry.level ≡ level) × IsSome entry.reason) added → up_to lower (entries ++ added) ≡ up_to lower entries
up_to-higher lower level entries [] low all = ap (up_to lower) (append_none entries)
up_to-higher lower level entries (x ∷ added) low all =
    let here = (all 0 x (omega arith)).0 in
    ap (up_to lower) (sym (append_assoc entries (x ∷ []) added))
    ∙ up_to-higher lower level (entries ++ x ∷ []) added low (λ k d within. all (suc k) d (omega arith))
    ∙ up_to-push lower entries x (omega arith)

pub Has-up_to : (level : ℕ) (entries : List Assigned) (literal : Literal) → Has (literals_of (up_to level entries)) literal → (lower : ℕ) × ((lower ≤ level) × IsFalseAt entries lower (negated literal))
Has-up_to level [] literal has = absurd has
Has-up_to level (x ∷ entries) literal has =
    elim (cases_lt level x.level) [
      | inl h ↦
          let rest = Has-up_to level entries literal (subst (λ (xs : List Assigned). Has (literals_of xs) literal) (up_to_drops level x entries h) has) in
          (rest.0, (rest.1.0, inr rest.1.1))
      | inr h ↦
          elim (cons_has (subst (λ (xs : List Assigned). Has (literals_of xs) literal) (up_to_keeps level x entries h) has)) [
            | inl e ↦ (x.level, (h, inl (e ∙ sym (negated-negated literal), refl)))
            | inr later ↦ let rest = Has-up_to level entries literal later in (rest.0, (rest.1.0, inr rest.1.1))
          ]
    ]
  where
    cons_has : Has (literals_of (x ∷ up_to level entries)) literal → (x.literal ≡ literal) ⊎ Has (literals_of (up_to level entries)) literal
    cons_has h = h

-- what is false at a higher level is open up to the level
pub open_up_to : (level higher : ℕ) (entries : List Assigned) (literal : Literal) → AreInOrder [] entries → IsFalseAt entries higher literal → level < higher → IsOpen (literals_of (up_to level entries)) literal
open_up_to level higher entries literal order at less = each (literals_of (up_to level entries)) (λ other has same.
    let lower = Has-up_to level entries other has in
    elim (same_variable other literal same) [
      | inl e ↦ order_consistent [] entries order literal
          (subst (Has (literals_of entries)) (negated-negated literal) (Has-negated_at entries lower.0 (negated literal) (subst (λ (l : Literal). IsFalseAt entries lower.0 (negated l)) e lower.1.1)))
          (Has-negated_at entries higher literal at)
      | inr e ↦
          let false_low : IsFalseAt entries lower.0 literal = subst (IsFalseAt entries lower.0) (ap negated e ∙ negated-negated literal) lower.1.1 in
          let one = order_one_level [] entries lower.0 higher literal order false_low at in
          let low = lower.1.0 in
          omega arith
    ])
  where
    each : (clause : List Literal) → ((other : Literal) → Has clause other → other.var ≢ literal.var) → EachVariable (λ var. var ≢ literal.var) clause
    each [] all = tt
    each (x ∷ clause) all = (all x (inl refl), each clause (λ other has. all other (inr has)))

-- ---- clauses of a log

-- what holds of all clauses holds of each line
pub all_line : (P : List Literal → Type 0) (log : Lines) (line : LineId) → IsLine log line → All P (clauses_in log) → P (clause_of log line)
all_line P log line is_line all = go log.axioms (clauses_of log.derived) (length log.derived) line.derived line.number is_line.counted is_line.within (length-map log.derived (λ (d : Derived). d.clause)) all
  where
    left : (xs ys : List (List Literal)) → All P (xs ++ ys) → All P xs
    left xs ys h k d within = subst P (get_or_append_left xs ys d k within) (h k d (omega (arith, length-append xs ys)))

    right : (xs ys : List (List Literal)) → All P (xs ++ ys) → All P ys
    right [] ys h = h
    right (x ∷ xs) ys h = right xs ys (λ k d within. h (suc k) d (omega arith))

    go : (axioms lines : List (List Literal)) (count : ℕ) (derived : Bool) (number : ℕ) → 1 ≤ number → number ≤ cond derived count (length axioms) → length lines ≡ count → All P (axioms ++ lines) → P (get_or (cond derived lines axioms) (number - 1) [])
    go axioms lines count true number counted within len h = right axioms lines h (number - 1) [] (omega arith)
    go axioms lines count false number counted within len h = left axioms lines h (number - 1) [] (omega arith)

-- ---- what each call keeps

pub sound_vars : (log : Lines) (trail : Trail) (n : ℕ) → IsSound log trail → IsSound log (record trail { vars = trail.vars + n })
sound_vars log trail n sound = record {
  named = NameOnly-weaken (λ var. var ≤ trail.vars) (λ var. var ≤ trail.vars + n) (clauses_in log) (λ var h. omega arith) sound.named;
  counted = sound.counted;
  forced = sound.forced;
  closed = sound.closed;
}

pub sound_back : (log : Lines) (trail : Trail) (level : ℕ) (rest : List Assigned) → IsSound log trail → level ≤ trail.level → trail.entries ≡ up_to level trail.entries ++ rest → IsSound log (record trail { level = level; entries = up_to level trail.entries })
sound_back log trail level rest sound low front = record {
  named = sound.named;
  counted = sound.counted;
  forced = (AreForced-parts log [] (up_to level trail.entries) rest (subst (AreForced log []) front sound.forced)).0;
  closed = λ lower less. subst (λ (xs : List Assigned). IsClosed (literals_of xs) (clauses_in log)) (sym (up_to-lower lower level trail.entries (omega arith))) (sound.closed lower (omega arith));
}

pub sound_propagated : (log : Lines) (old new : Trail) → IsSound log old → Propagates log old new → IsSound log new
sound_propagated log old new sound propagates = subst (IsSound log) (sym propagates.grows) (record {
  named = sound.named;
  counted = sound.counted;
  forced = AreForced-append log [] old.entries propagates.added sound.forced propagates.forced;
  closed = λ lower less. subst (λ (xs : List Assigned). IsClosed (literals_of xs) (clauses_in log)) (sym (up_to-higher lower old.level old.entries propagates.added less propagates.current)) (sound.closed lower less);
})

pub sound_decided : (log : Lines) (trail : Trail) (literal : Literal) → IsSound log trail → AreInOrder [] trail.entries → trail.level ≡ last_level trail.entries → IsClosed (literals_of trail.entries) (clauses_in log) → IsSound log (assigned trail literal None)
sound_decided log trail literal sound order last closed = record {
  named = sound.named;
  counted = sound.counted;
  forced = AreForced-append log [] trail.entries (record { literal = literal; level = trail.level + 1; reason = None } ∷ []) sound.forced (tt, tt);
  closed = λ lower less.
      let entry : Assigned = record { literal = literal; level = trail.level + 1; reason = None } in
      let same = up_to-push lower trail.entries entry less in
      subst (λ (xs : List Assigned). IsClosed (literals_of xs) (clauses_in log)) (sym same)
      (elim (cases_lt lower trail.level) [
        | inl h ↦ sound.closed lower h
        | inr h ↦ subst (λ (xs : List Assigned). IsClosed (literals_of xs) (clauses_in log)) (sym (up_to-all lower [] trail.entries order (omega arith))) closed
      ]);
}

-- ---- a log that grows

no_more : {X : Type 0} (xs : List X) → xs ++ [] ≡ xs
no_more [] = refl
no_more (x ∷ xs) = ap (λ (rest : List _). x ∷ rest) (no_more xs)

IsForced-more : (axioms more : List (List Literal)) (derived later : List Derived) (before : List Assigned) (literal : Literal) (reason : Option LineId) → IsForced (log_of axioms derived) before literal reason → IsForced (log_of (axioms ++ more) (derived ++ later)) before literal reason
IsForced-more axioms more derived later before literal None forced = tt
IsForced-more axioms more derived later before literal (Some line) forced = (
  IsLine-more axioms more derived later line forced.0,
  subst (λ (clause : List Literal). Forces (literals_of before) clause literal) (sym (clause_of-more axioms more derived later line forced.0)) forced.1,
)

AreForced-more : (axioms more : List (List Literal)) (derived later : List Derived) (before entries : List Assigned) → AreForced (log_of axioms derived) before entries → AreForced (log_of (axioms ++ more) (derived ++ later)) before entries
AreForced-more axioms more derived later before [] forced = tt
AreForced-more axioms more derived later before (x ∷ entries) forced =
    (IsForced-more axioms more derived later before x.literal x.reason forced.0, AreForced-more axioms more derived later (before ++ x ∷ []) entries forced.1)

pub forced_with_axiom : (log : Lines) (clause : List Literal) (entries : List Assigned) → AreForced log [] entries → AreForced (log_of (log.axioms ++ clause ∷ []) log.derived) [] entries
forced_with_axiom log clause entries forced =
    subst (λ (derived : List Derived). AreForced (log_of (log.axioms ++ clause ∷ []) derived) [] entries) (no_more log.derived) (AreForced-more log.axioms (clause ∷ []) log.derived [] [] entries forced)

pub forced_with_line : (log : Lines) (line : Derived) (entries : List Assigned) → AreForced log [] entries → AreForced (log_of log.axioms (log.derived ++ line ∷ [])) [] entries
forced_with_line log line entries forced =
    subst (λ (axioms : List (List Literal)). AreForced (log_of axioms (log.derived ++ line ∷ [])) [] entries) (no_more log.axioms) (AreForced-more log.axioms [] log.derived (line ∷ []) [] entries forced)

-- the clauses of a log with a further line
pub clauses_with_line : (log : Lines) (line : Derived) → clauses_in (log_of log.axioms (log.derived ++ line ∷ [])) ≡ clauses_in log ++ line.clause ∷ []
clauses_with_line log line =
    ap (λ (lines : List (List Literal)). log.axioms ++ lines) (map-append (λ (d : Derived). d.clause) log.derived (line ∷ []))
    ∙ sym (append_assoc log.axioms (clauses_of log.derived) (line.clause ∷ []))

-- a further axiom, at level 0
pub sound_axiom : (log : Lines) (trail : Trail) (clause : List Literal) → IsSound log trail → trail.level ≡ 0 → EachVariable (λ var. var ≤ trail.vars) clause → EachVariable (λ var. 1 ≤ var) clause → IsSound (log_of (log.axioms ++ clause ∷ []) log.derived) trail
sound_axiom log trail clause sound base named counted =
    let P : ℕ → Type 0 = λ var. var ≤ trail.vars in
    let parts = NameOnly-parts P log.axioms (clauses_of log.derived) sound.named in
    let Q : ℕ → Type 0 = λ var. 1 ≤ var in
    let others = NameOnly-parts Q log.axioms (clauses_of log.derived) sound.counted in
    record {
      named = NameOnly-append P (log.axioms ++ clause ∷ []) (clauses_of log.derived) (NameOnly-append P log.axioms (clause ∷ []) parts.0 (named, tt)) parts.1;
      counted = NameOnly-append Q (log.axioms ++ clause ∷ []) (clauses_of log.derived) (NameOnly-append Q log.axioms (clause ∷ []) others.0 (counted, tt)) others.1;
      forced = forced_with_axiom log clause trail.entries sound.forced;
      closed = λ level less. absurd (omega arith);
    }

-- a further line, at level 0
pub sound_line : (log : Lines) (trail : Trail) (line : Derived) → IsSound log trail → trail.level ≡ 0 → EachVariable (λ var. var ≤ trail.vars) line.clause → EachVariable (λ var. 1 ≤ var) line.clause → IsSound (log_of log.axioms (log.derived ++ line ∷ [])) trail
sound_line log trail line sound base named counted =
    let P : ℕ → Type 0 = λ var. var ≤ trail.vars in
    let Q : ℕ → Type 0 = λ var. 1 ≤ var in
    record {
      named = subst (NameOnly P) (sym (clauses_with_line log line)) (NameOnly-append P (clauses_in log) (line.clause ∷ []) sound.named (named, tt));
      counted = subst (NameOnly Q) (sym (clauses_with_line log line)) (NameOnly-append Q (clauses_in log) (line.clause ∷ []) sound.counted (counted, tt));
      forced = forced_with_line log line trail.entries sound.forced;
      closed = λ level less. absurd (omega arith);
    }
