-- Whether clauses refute a goal.
use Rattle.std.proofs.Common.{◌≡◌, ℕ, zero, suc, ◌+◌, ◌-◌, ◌<◌, ◌≤◌, List, [], ◌∷◌, length, drop, refl, sym, subst, arith}
use Rattle.std.specs.Prelude.{◌↔◌}
use Rattle.std.proofs.lemmas.List.{drop_more, drop_all}
use Rattle.sat_base.specs.Literal.{Literal}
use Rattle.sat_base.specs.Clauses.{clause_at}
use Rattle.sat_base.specs.Derivation.{Refutes, AnyRefutes}

any_cons : (goal : Literal) (clause : List Literal) (clauses : List (List Literal)) → (Refutes goal clause → ⊥) → AnyRefutes goal (clause ∷ clauses) → AnyRefutes goal clauses
any_cons goal clause clauses other (zero, found, within, is, refutes) = absurd (other (subst (Refutes goal) (sym is) refutes))
any_cons goal clause clauses other (suc k, found, within, is, refutes) = (k, found, omega arith, is, refutes)

any_after : (goal : Literal) (clause : List Literal) (clauses : List (List Literal)) → AnyRefutes goal clauses → AnyRefutes goal (clause ∷ clauses)
any_after goal clause clauses (k, found, within, is, refutes) = (suc k, found, omega arith, is, refutes)

next : (clauses : List (List Literal)) (k : ℕ) → k < length clauses → drop k clauses ≡ clause_at clauses (k + 1) ∷ drop (k + 1) clauses
next clauses k within = let e : k + 1 - 1 ≡ k = omega arith in rw e (drop_more clauses k [] within)

pub any_later : (goal : Literal) (clauses : List (List Literal)) (axioms k : ℕ) → k < length clauses → (Refutes goal (clause_at clauses (k + 1)) → ⊥) → AnyRefutes goal (drop axioms clauses) ↔ AnyRefutes goal (drop k clauses) → AnyRefutes goal (drop axioms clauses) ↔ AnyRefutes goal (drop (k + 1) clauses)
any_later goal clauses axioms k within other both =
    let rest = next clauses k within in (
      λ h. any_cons goal (clause_at clauses (k + 1)) (drop (k + 1) clauses) other (subst (AnyRefutes goal) rest (both.0 h)),
      λ h. both.1 (subst (AnyRefutes goal) (sym rest) (any_after goal (clause_at clauses (k + 1)) (drop (k + 1) clauses) h)),
    )

pub any_found : (goal : Literal) (clauses : List (List Literal)) (axioms k : ℕ) → k < length clauses → Refutes goal (clause_at clauses (k + 1)) → AnyRefutes goal (drop axioms clauses) ↔ AnyRefutes goal (drop k clauses) → AnyRefutes goal (drop axioms clauses)
any_found goal clauses axioms k within refutes both =
    both.1 (subst (AnyRefutes goal) (sym (next clauses k within)) (0, clause_at clauses (k + 1), omega arith, refl, refutes))

pub any_none : (goal : Literal) (clauses : List (List Literal)) (axioms k : ℕ) → length clauses ≤ k → AnyRefutes goal (drop axioms clauses) ↔ AnyRefutes goal (drop k clauses) → AnyRefutes goal (drop axioms clauses) → ⊥
any_none goal clauses axioms k over both h =
    let (i, found, within, is, refutes) = subst (AnyRefutes goal) (drop_all k clauses over) (both.0 h) in omega arith
