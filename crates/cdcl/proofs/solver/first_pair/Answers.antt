use Rattle.std.proofs.Common.{◌≡◌, ◌<◌, List, [], ◌∷◌, inl, inr, length, sym, ◌∙◌, arith}
use Rattle.sat_base.specs.Literal.{Literal}
use Rattle.sat_base.specs.Clauses.{Has}
use Rattle.cdcl.proofs.solver.first_pair.Goals as goal

one_literal : (clause : List Literal) → length clause < 2 → (a b : Literal) → Has clause a → Has clause b → a ≡ b
one_literal [] few a b has other = absurd has
one_literal (x ∷ []) few a b (inl e) (inl f) = sym e ∙ f
one_literal (x ∷ []) few a b (inl e) (inr f) = absurd f
one_literal (x ∷ []) few a b (inr e) other = absurd e
one_literal (x ∷ y ∷ clause) few a b has other = absurd (omega arith)

pub returns-then-lits-lt2 : goal.returns-then-lits-lt2
returns-then-lits-lt2 c = one_literal c.args.lits.now (omega arith)
