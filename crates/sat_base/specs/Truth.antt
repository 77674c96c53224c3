-- What an assignment makes true.
use Rattle.std.specs.Prelude.{◌≡◌, ℕ, ◌+◌, ◌<◌, ◌≤◌, Bool, not, if◌then◌else◌, IsTrue, List, [], ◌∷◌, ◌⊎◌}
use Rattle.sat_base.specs.Literal.{Literal}

-- an assignment: a truth value for each variable
abbrev pub Valuation : Type 0
Valuation = ℕ → Bool

-- the truth value of a literal
abbrev pub is_true : Valuation → Literal → Bool
is_true values literal = if literal.positive then values literal.var else not (values literal.var)

-- some literal of the clause is true
abbrev pub SatisfiesClause : Valuation → List Literal → Type 0
SatisfiesClause values [] = ⊥
SatisfiesClause values (literal ∷ rest) = IsTrue (is_true values literal) ⊎ SatisfiesClause values rest

-- each clause of the list is satisfied
abbrev pub Satisfies : Valuation → List (List Literal) → Type 0
Satisfies values [] = Unit {0}
Satisfies values (clause ∷ rest) = SatisfiesClause values clause × Satisfies values rest

-- no assignment satisfies the formula and makes the goal true
abbrev pub HasNoModel : List (List Literal) → Literal → Type 0
HasNoModel formula goal = (values : Valuation) → Satisfies values formula → IsTrue (is_true values goal) → ⊥

-- how many of the literals are true
abbrev pub true_count : Valuation → List Literal → ℕ
true_count values [] = 0
true_count values (literal ∷ rest) = (if is_true values literal then 1 else 0) + true_count values rest

-- the two give each variable the same value, but for those that are at least from and below end
pub record AgreeExcept (from end : ℕ) (values other : Valuation) : Type 0 where
  pub below : (var : ℕ) → var < from → values var ≡ other var
  pub above : (var : ℕ) → end ≤ var → values var ≡ other var
