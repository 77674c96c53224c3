-- Expressions in a gate's parameters.
use Rattle.std.specs.Prelude.{ℕ, ◌+◌, List, [], ◌∷◌, if◌then◌else◌, Option, Some, None, Result, Ok}
use Rattle.std.specs.Str.{bytes_eq}
use Rattle.qasm_read.specs.declared.exp.Exp.{Exp, fold-Exp}
use Rattle.qasm_read.specs.declared.exp.Exp.TheOpen.{Exp-F}
use Rattle.gate_names.specs.declared.term.Term.{Term, roll-Term}
use Rattle.gate_names.specs.declared.term.Term.TheOpen.{Term-F}
use Rattle.gate_names.specs.declared.cause.Cause.{Cause}
use Rattle.gate_names.specs.declared.cause.Cause.TheVariants.{Undeclared}
use Rattle.gate_names.specs.Causes.{◌>>=◌, each, found_or}

-- the position of a name among others, counted from a number on
abbrev pub position_from : ℕ → List (List ℕ) → List ℕ → Option ℕ
position_from k [] name = None
position_from k (other ∷ names) name = if bytes_eq name other then Some k else position_from (k + 1) names name

-- the position of a name among others
abbrev pub position_of : List (List ℕ) → List ℕ → Option ℕ
position_of = position_from 0

-- ---- names of parameters as their positions

abbrev pub term_step : List (List ℕ) → Exp-F (Result Term Cause) → Result Term Cause
term_step params (Exp-F.Real text) = Ok (roll-Term (Term-F.Real text))
term_step params (Exp-F.Int n) = Ok (roll-Term (Term-F.Int n))
term_step params Exp-F.Pi = Ok (roll-Term Term-F.Pi)
term_step params (Exp-F.Neg a) = a >>= λ x. Ok (roll-Term (Term-F.Neg x))
term_step params (Exp-F.Bin op a b) = a >>= λ x. b >>= λ y. Ok (roll-Term (Term-F.Bin op x y))
term_step params (Exp-F.Fun f a) = a >>= λ x. Ok (roll-Term (Term-F.Fun f x))
term_step params (Exp-F.Id name) =
    found_or (position_of params name) Undeclared >>= λ k. Ok (roll-Term (Term-F.Param k))

-- an expression in these parameters; another name in it is undeclared
abbrev pub term_of : List (List ℕ) → Exp → Result Term Cause
term_of params = fold-Exp (Result Term Cause) (term_step params)

abbrev pub terms_of : List (List ℕ) → List Exp → Result (List Term) Cause
terms_of params = each (term_of params)
