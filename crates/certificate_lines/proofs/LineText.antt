-- The parts of the text of a line.
use Rattle.std.proofs.Common.{◌≡◌, ℕ, ◌≤◌, Bool, true, false, not, List, [], ◌∷◌, ◌++◌, Option, Some, None, length, sym, ap, ◌∙◌, subst, arith, append_assoc}
use Rattle.std.specs.Prelude.{◌↔◌, IsTrue, IfSome, IsSomeAnd, codes, decimal, ◌==◌}
use Rattle.std.proofs.lemmas.List.{nil_from_length}
use Rattle.std.proofs.lemmas.Bool.{eqb-true, eqb-false, ne_eqb, not-true, not_from_false}
use Rattle.sat_base.specs.Derivation.{Line}
use Rattle.sat_base.specs.Certificate.{literals_text, hints_text, line_text}

-- what stands after the number
abbrev pub after_number : Line → List ℕ
after_number line = literals_text line.clause ++ codes "0 " ++ (hints_text line.hints ++ codes "0\n")

pub line_parts : (number : ℕ) (line : Line) → line_text number line ≡ decimal number ++ 32 ∷ after_number line
line_parts number line = grouped (decimal number) (codes " ") (literals_text line.clause) (codes "0 ") (hints_text line.hints) (codes "0\n")
  where
    grouped : (a b c d e f : List ℕ) → a ++ b ++ c ++ d ++ e ++ f ≡ a ++ (b ++ (c ++ d ++ (e ++ f)))
    grouped a b c d e f = simp append_assoc

pub at_found : {X : Type 0} (o : Option X) (x : X) (P : X → Type 0) → o ≡ Some x → IfSome o P → P x
at_found o x P is h = subst (λ (o : Option _). IfSome o P) is h

pub at_some : {X : Type 0} (o : Option X) (x : X) (P : X → Type 0) → o ≡ Some x → IsSomeAnd o P → P x
at_some o x P is h = subst (λ (o : Option _). IsSomeAnd o P) is h

pub at_none : {X : Type 0} (o : Option X) (P : X → Type 0) → o ≡ None → IsSomeAnd o P → ⊥
at_none o P is h = subst (λ (o : Option _). IsSomeAnd o P) is h

pub ends_by : (rest : List ℕ) (hints : List ℕ) (r s : Bool) → r ≡ (length rest == 0) → r ≡ true → s ≡ (length hints == 0) → IsTrue (not s) ↔ ((rest ≡ []) × (1 ≤ length hints))
ends_by rest hints r s is on other = (
  λ h. (nil_from_length rest (eqb-true _ _ (sym is ∙ on)), let ne = eqb-false (length hints) 0 (sym other ∙ not-true s h) in omega arith),
  λ h. not_from_false s (other ∙ ne_eqb (length hints) 0 (λ e. let some = h.1 in omega arith)),
)

pub not_ended : (rest : List ℕ) (hints : List ℕ) (r : Bool) → r ≡ (length rest == 0) → r ≡ false → (rest ≡ []) × (1 ≤ length hints) → ⊥
not_ended rest hints r is off h = eqb-false (length rest) 0 (sym is ∙ off) (ap length h.0)
