-- Clauses that are read literal by literal.
use Rattle.std.proofs.Common.{◌≡◌, ◌≢◌, ℕ, ◌+◌, ◌<◌, List, [], ◌∷◌, ◌++◌, length, take, get_or, sym, subst}
use Rattle.sat_base.specs.Literal.{Literal}
use Rattle.sat_base.specs.Clauses.{EachVariable, HasDistinctVariables}
use Rattle.sat_base.proofs.Clauses.{EachVariable-append}
use Rattle.sat_base.proofs.Sets.{more_literals}

-- the fact holds of one literal more
pub each_more : (P : ℕ → Type 0) (lits : List Literal) (k : ℕ) (lit : Literal) → k < length lits → lit ≡ get_or lits k lit → EachVariable P (take k lits) → P lit.var → EachVariable P (take (k + 1) lits)
each_more P lits k lit low is each one =
    subst (EachVariable P) (sym (more_literals lits k lit low is)) (EachVariable-append P (take k lits) (lit ∷ []) each (one, tt))

-- a literal of a further variable is put at the end
push_distinct : (taken : List Literal) (lit : Literal) → HasDistinctVariables taken → EachVariable (λ var. var ≢ lit.var) taken → HasDistinctVariables (taken ++ lit ∷ [])
push_distinct [] lit distinct other = (tt, tt)
push_distinct (x ∷ taken) lit distinct other =
    (EachVariable-append (λ var. var ≢ x.var) taken (lit ∷ []) distinct.0 ((λ e. other.0 (sym e)), tt), push_distinct taken lit distinct.1 other.1)

-- the variables stay distinct with one literal more
pub distinct_more : (lits : List Literal) (k : ℕ) (lit : Literal) → k < length lits → lit ≡ get_or lits k lit → HasDistinctVariables (take k lits) → EachVariable (λ var. var ≢ lit.var) (take k lits) → HasDistinctVariables (take (k + 1) lits)
distinct_more lits k lit low is distinct other =
    subst HasDistinctVariables (sym (more_literals lits k lit low is)) (push_distinct (take k lits) lit distinct other)
