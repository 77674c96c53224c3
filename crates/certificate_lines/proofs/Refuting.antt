-- Whether a clause refutes a goal, literal by literal.
use Rattle.std.proofs.Common.{◌≡◌, ◌≢◌, ℕ, ◌+◌, ◌<◌, ◌≤◌, List, inl, inr, length, get_or, take, sym, ◌∙◌, subst}
use Rattle.std.proofs.lemmas.List.{take_all}
use Rattle.sat_base.specs.Literal.{Literal, negated}
use Rattle.sat_base.specs.Clauses.{Has}
use Rattle.sat_base.specs.Derivation.{Refutes}
use Rattle.sat_base.proofs.Sets.{Has-push, Has-get_or, more_literals}

pub refutes_more : (goal : Literal) (clause : List Literal) (k : ℕ) (x : Literal) → k < length clause → x ≡ get_or clause k x → x ≡ negated goal → Refutes goal (take k clause) → Refutes goal (take (k + 1) clause)
refutes_more goal clause k x within is same before literal has =
    elim (Has-push (take k clause) x literal (subst (λ (xs : List Literal). Has xs literal) (more_literals clause k x within is) has)) [
      | inl h ↦ before literal h
      | inr e ↦ sym e ∙ same
    ]

pub refutes_not : (goal : Literal) (clause : List Literal) (k : ℕ) (x : Literal) → k < length clause → x ≡ get_or clause k x → x ≢ negated goal → Refutes goal clause → ⊥
refutes_not goal clause k x within is other refutes = other (refutes x (Has-get_or clause k x within is))

pub refutes_all : (goal : Literal) (clause : List Literal) (k : ℕ) → length clause ≤ k → Refutes goal (take k clause) → Refutes goal clause
refutes_all goal clause k over refutes = subst (Refutes goal) (take_all k clause over) refutes
