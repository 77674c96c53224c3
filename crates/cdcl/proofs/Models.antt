-- When the trail is a model.
use Rattle.std.proofs.Common.{◌≡◌, ◌≢◌, ℕ, suc, ◌≤◌, Bool, true, false, not, cond, eqb, List, [], ◌∷◌, ◌++◌, ◌⊎◌, inl, inr, Some, refl, ap, subst, arith}
use Rattle.std.specs.Prelude.{All, IsTrue}
use Rattle.std.specs.Option.{unwrap_or}
use Rattle.std.proofs.lemmas.Bool.{eq-eqb, ne_eqb}
use Rattle.std.proofs.lemmas.List.{get_or_append_left}
use Rattle.std.proofs.Common.{length-append}
use Rattle.sat_base.specs.Literal.{Literal}
use Rattle.sat_base.specs.Clauses.{Has, NameOnly}
use Rattle.sat_base.specs.Truth.{Valuation, is_true, Satisfies}
use Rattle.sat_base.specs.Fresh.{HasTrue, HasTwoOpen}
use Rattle.sat_base.proofs.Clauses.{EachVariable-has}
use Rattle.sat_base.proofs.Truth.{SatisfiesClause-has}
use Rattle.derivation_log.specs.Log.{clauses_of}
use Rattle.cdcl.specs.Clauses.{clauses_in}
use Rattle.solver_trail.specs.declared.values.Assigned.{Assigned}
use Rattle.solver_trail.specs.Trail.{Trail, literals_of, value_in, values_of, AreInOrder, IsClosed, IsUnassigned}
use Rattle.cdcl.specs.Solver.{SolverState, IsSound, IsModel}
use Rattle.solver_trail.proofs.Trails.{value_open}
use Rattle.cdcl.proofs.Lines.{NameOnly-parts}
use Rattle.cdcl.proofs.Walking.{apart_after, Has-after}

-- an unassigned variable counts as false
pub value_or_false : (entries : List Assigned) (var : ℕ) → unwrap_or (value_in entries var) false ≡ values_of entries var
value_or_false [] var = refl
value_or_false (x ∷ entries) var = go (eqb x.literal.var var) (value_or_false entries var)
  where
    go : (t : Bool) → unwrap_or (value_in entries var) false ≡ values_of entries var → unwrap_or (cond t (Some x.literal.positive) (value_in entries var)) false ≡ cond t x.literal.positive (values_of entries var)
    go true rest = refl
    go false rest = rest

-- the value of a true literal
value_of_true : (before entries : List Assigned) (literal : Literal) → AreInOrder before entries → Has (literals_of entries) literal → values_of entries literal.var ≡ literal.positive
value_of_true before [] literal order has = absurd has
value_of_true before (x ∷ entries) literal order (inl e) =
    let same : x.literal.var ≡ literal.var = ap (λ (l : Literal). l.var) e in
    rw (eq-eqb _ _ same) (ap (λ (l : Literal). l.positive) e)
value_of_true before (x ∷ entries) literal order (inr has) =
    let other : x.literal.var ≢ literal.var = apart_after (before ++ x ∷ []) entries x.literal literal order.1 (Has-after before (x ∷ []) x.literal (inl refl)) has in
    rw (ne_eqb x.literal.var literal.var other) (value_of_true (before ++ x ∷ []) entries literal order.1 has)

true_by : (values : Valuation) (var : ℕ) (positive : Bool) → values var ≡ positive → IsTrue (cond positive (values var) (not (values var)))
true_by values var true is = is
true_by values var false is = rw is refl

pub true_on : (entries : List Assigned) (literal : Literal) → AreInOrder [] entries → Has (literals_of entries) literal → IsTrue (is_true (values_of entries) literal)
true_on entries literal order has = true_by (values_of entries) literal.var literal.positive (value_of_true [] entries literal order has)

satisfied : (trail : Trail) (clauses : List (List Literal)) → AreInOrder [] trail.entries → NameOnly (λ var. var ≤ trail.vars) clauses → NameOnly (λ var. 1 ≤ var) clauses → ((var : ℕ) → IsUnassigned trail var → ⊥) → IsClosed (literals_of trail.entries) clauses → Satisfies (values_of trail.entries) clauses
satisfied trail [] order named counted none closed = tt
satisfied trail (clause ∷ clauses) order named counted none closed = (
  elim (closed 0 clause (omega arith)) [
    | inl t ↦ SatisfiesClause-has (values_of trail.entries) clause t.literal t.has (true_on trail.entries t.literal order t.holds)
    | inr two ↦ absurd (none two.first.var (record {
      from_1 = EachVariable-has (λ var. 1 ≤ var) clause two.first counted.0 two.has_first;
      within = EachVariable-has (λ var. var ≤ trail.vars) clause two.first named.0 two.has_first;
      none = value_open trail.entries two.first.var two.first_open;
    }))
  ],
  satisfied trail clauses order named.1 counted.1 none (λ k d within. closed (suc k) d (omega arith)),
)

all_left : (P : List Literal → Type 0) (xs ys : List (List Literal)) → All P (xs ++ ys) → All P xs
all_left P xs ys h k d within = subst P (get_or_append_left xs ys d k within) (h k d (omega (arith, length-append xs ys)))

pub model_of : (solver : SolverState) (goal : Literal) → IsSound solver.log solver.trail → AreInOrder [] solver.trail.entries → ((var : ℕ) → IsUnassigned solver.trail var → ⊥) → IsClosed (literals_of solver.trail.entries) (clauses_in solver.log) → Has (literals_of solver.trail.entries) goal → IsModel solver goal
model_of solver goal sound order none closed holds =
    let axioms = solver.log.axioms in
    let lines = clauses_of solver.log.derived in
    record {
      clauses = satisfied solver.trail axioms order (NameOnly-parts (λ var. var ≤ solver.trail.vars) axioms lines sound.named).0 (NameOnly-parts (λ var. 1 ≤ var) axioms lines sound.counted).0 none
          (all_left (λ clause. HasTrue (literals_of solver.trail.entries) clause ⊎ HasTwoOpen (literals_of solver.trail.entries) clause) axioms lines closed);
      goal = true_on solver.trail.entries goal order holds;
    }
