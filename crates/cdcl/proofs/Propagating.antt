-- How propagation adds to the trail.
use Rattle.std.proofs.Common.{◌≡◌, ℕ, zero, suc, ◌≤◌, true, false, List, [], ◌∷◌, ◌++◌, ◌⊎◌, Some, None, refl, sym, ap, ◌∙◌, subst, arith, append_assoc}
use Rattle.std.specs.Prelude.{All, IsSome}
use Rattle.sat_base.specs.Literal.{Literal}
use Rattle.sat_base.specs.Clauses.{NameOnly}
use Rattle.sat_base.specs.Fresh.{HasTrue, HasTwoOpen}
use Rattle.sat_base.proofs.Clauses.{EachVariable-has}
use Rattle.derivation_log.specs.declared.line_id.LineId.{LineId}
use Rattle.derivation_log.specs.Log.{Lines, clauses_of, IsLine, clause_of}
use Rattle.cdcl.specs.Clauses.{clauses_of_kind, clauses_in}
use Rattle.solver_trail.specs.declared.values.Assigned.{Assigned}
use Rattle.solver_trail.specs.Trail.{Trail, literals_of, value_in, AreForced, IsClosed, assigned}
use Rattle.solver_trail.specs.Status.{IsUnit}
use Rattle.cdcl.specs.Solver.{Propagates}
use Rattle.solver_trail.proofs.Trails.{append_none, value_open}
use Rattle.cdcl.proofs.Lines.{named_line}

pub AreForced-append : (log : Lines) (before xs ys : List Assigned) → AreForced log before xs → AreForced log (before ++ xs) ys → AreForced log before (xs ++ ys)
AreForced-append log before [] ys forced more = subst (λ (zs : List Assigned). AreForced log zs ys) (append_none before) more
AreForced-append log before (x ∷ xs) ys forced more =
    (forced.0, AreForced-append log (before ++ x ∷ []) xs ys forced.1 (subst (λ (zs : List Assigned). AreForced log zs ys) (sym (append_assoc before (x ∷ []) xs)) more))

pub Propagates-none : (log : Lines) (trail : Trail) → Propagates log trail trail
Propagates-none log trail = record {
  added = [];
  grows = ap (λ (entries : List Assigned). record { vars = trail.vars; level = trail.level; entries = entries }) (sym (append_none trail.entries));
  current = λ k d within. absurd (omega arith);
  forced = tt;
}

All-cons : {X : Type 0} (P : X → Type 0) (x : X) (xs : List X) → P x → All P xs → All P (x ∷ xs)
All-cons P x xs first rest zero d within = first
All-cons P x xs first rest (suc k) d within = rest k d (omega arith)

pub All-append : {X : Type 0} (P : X → Type 0) (xs ys : List X) → All P xs → All P ys → All P (xs ++ ys)
All-append P [] ys all more = more
All-append P (x ∷ xs) ys all more = All-cons P x (xs ++ ys) (all 0 x (omega arith)) (All-append P xs ys (λ k d within. all (suc k) d (omega arith)) more)

pub Propagates-trans : (log : Lines) (old mid new : Trail) → Propagates log old mid → Propagates log mid new → Propagates log old new
Propagates-trans log old mid new first second =
    let entries : mid.entries ≡ old.entries ++ first.added = ap (λ (t : Trail). t.entries) first.grows in
    let level : mid.level ≡ old.level = ap (λ (t : Trail). t.level) first.grows in
    let vars : mid.vars ≡ old.vars = ap (λ (t : Trail). t.vars) first.grows in
    record {
      added = first.added ++ second.added;
      grows = second.grows ∙ rw (entries, level, vars, append_assoc old.entries first.added second.added) refl;
      current = All-append (λ (entry : Assigned). (entry.level ≡ old.level) × IsSome entry.reason) first.added second.added first.current
          (subst (λ (l : ℕ). All (λ (entry : Assigned). (entry.level ≡ l) × IsSome entry.reason) second.added) level second.current);
      forced = AreForced-append log old.entries first.added second.added first.forced (subst (λ (xs : List Assigned). AreForced log xs second.added) entries second.forced);
    }

pub Propagates-one : (log : Lines) (trail : Trail) (literal : Literal) (line : LineId) → IsLine log line → IsUnit (literals_of trail.entries) (clause_of log line) literal → Propagates log trail (assigned trail literal (Some line))
Propagates-one log trail literal line is_line unit = record {
  added = record { literal = literal; level = trail.level; reason = Some line } ∷ [];
  grows = refl;
  current = one;
  forced = ((is_line, unit.forces), tt);
}
  where
    one : All (λ (entry : Assigned). (entry.level ≡ trail.level) × IsSome entry.reason) (record { literal = literal; level = trail.level; reason = Some line } ∷ [])
    one zero d within = (refl, refl)
    one (suc k) d within = absurd (omega arith)

-- a literal that is forced next may be assigned
pub unit_unassigned : (log : Lines) (trail : Trail) (line : LineId) (literal : Literal) → NameOnly (λ var. var ≤ trail.vars) (clauses_in log) → IsUnit (literals_of trail.entries) (clause_of log line) literal → (literal.var ≤ trail.vars) × (value_in trail.entries literal.var ≡ None)
unit_unassigned log trail line literal named unit =
    (EachVariable-has (λ var. var ≤ trail.vars) (clause_of log line) literal (named_line _ log line named) unit.forces.has, value_open trail.entries literal.var unit.unassigned)

pub closed_both : (log : Lines) (set : List Literal) → IsClosed set (clauses_of_kind log false) → IsClosed set (clauses_of_kind log true) → IsClosed set (clauses_in log)
closed_both log set axioms derived = All-append (λ clause. HasTrue set clause ⊎ HasTwoOpen set clause) log.axioms (clauses_of log.derived) axioms derived

-- the variables stay
pub named_after : (log : Lines) (old new : Trail) → Propagates log old new → NameOnly (λ var. var ≤ old.vars) (clauses_in log) → NameOnly (λ var. var ≤ new.vars) (clauses_in log)
named_after log old new propagates = subst (λ (vars : ℕ). NameOnly (λ var. var ≤ vars) (clauses_in log)) (sym (ap (λ (t : Trail). t.vars) propagates.grows))
