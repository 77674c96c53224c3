-- Lines, one after another.
use Rattle.std.proofs.Common.{◌≡◌, ℕ, suc, ◌+◌, List, [], ◌∷◌, ◌++◌, length, sym, ap, ◌∙◌, subst, arith, append_assoc}
use Rattle.std.proofs.lemmas.List.{append-nil}
use Rattle.sat_base.specs.Literal.{Literal}
use Rattle.sat_base.specs.Derivation.{Line, clauses_of, IsGood, AreGood}
use Rattle.sat_base.specs.Certificate.{line_text, lines_text, HasForm, HaveForm}

pub lines_text-push : (first : ℕ) (lines : List Line) (line : Line) → lines_text first (lines ++ line ∷ []) ≡ lines_text first lines ++ line_text (first + length lines) line
lines_text-push first [] line = let e : first + 0 ≡ first = omega arith in append-nil (line_text first line) ∙ ap (λ (n : ℕ). line_text n line) (sym e)
lines_text-push first (x ∷ lines) line =
    let e : first + 1 + length lines ≡ first + suc (length lines) = omega arith in
    ap (λ (text : List ℕ). line_text first x ++ text) (lines_text-push (first + 1) lines line ∙ ap (λ (n : ℕ). lines_text (first + 1) lines ++ line_text n line) e)
    ∙ sym (append_assoc (line_text first x) (lines_text (first + 1) lines) (line_text (first + suc (length lines)) line))

-- a line of the form more
pub HaveForm-push : (vars number : ℕ) (lines : List Line) (line : Line) → HaveForm vars number lines → HasForm vars (number + length lines) line → HaveForm vars number (lines ++ line ∷ [])
HaveForm-push vars number [] line all form = let e : number + 0 ≡ number = omega arith in (subst (λ (n : ℕ). HasForm vars n line) e form, tt)
HaveForm-push vars number (x ∷ lines) line all form =
    let e : number + suc (length lines) ≡ number + 1 + length lines = omega arith in
    (all.0, HaveForm-push vars (number + 1) lines line all.1 (subst (λ (n : ℕ). HasForm vars n line) e form))

-- a good line more
pub AreGood-push : (vars : ℕ) (clauses : List (List Literal)) (lines : List Line) (line : Line) → AreGood vars clauses lines → IsGood vars (clauses ++ clauses_of lines) line → AreGood vars clauses (lines ++ line ∷ [])
AreGood-push vars clauses [] line all good = (subst (λ (cs : List (List Literal)). IsGood vars cs line) (append-nil clauses) good, tt)
AreGood-push vars clauses (x ∷ lines) line all good =
    (all.0, AreGood-push vars (clauses ++ x.clause ∷ []) lines line all.1 (subst (λ (cs : List (List Literal)). IsGood vars cs line) (sym (append_assoc clauses (x.clause ∷ []) (clauses_of lines))) good))
