-- Accepted lines have the form and are good, and so they follow.
use Rattle.std.proofs.Common.{◌≡◌, ℕ, ◌+◌, List, [], ◌∷◌, ◌++◌, length, sym, ap, subst, length-append}
use Rattle.sat_base.specs.Literal.{Literal}
use Rattle.sat_base.specs.Truth.{HasNoModel}
use Rattle.sat_base.specs.Derivation.{Line, AreGood}
use Rattle.sat_base.specs.Certificate.{HaveForm}
use Rattle.sat_base.proofs.Deriving.{lines_refute, AreDerived-good}
use Rattle.derivation_check.specs.Faults.{Task, AreAccepted, IsRefutation}

pub AreGood-accepted : (vars : ℕ) (clauses : List (List Literal)) (lines : List Line) → AreAccepted vars clauses lines → AreGood vars clauses lines
AreGood-accepted vars clauses [] all = tt
AreGood-accepted vars clauses (line ∷ lines) all = (all.1, AreGood-accepted vars (clauses ++ line.clause ∷ []) lines all.2)

pub refutation_refutes : (task : Task) (bytes : List ℕ) (goal : Literal) (count : ℕ) → IsRefutation task bytes goal count → HasNoModel task.formula goal
refutation_refutes task bytes goal count refutation values all on =
    lines_refute values task.formula refutation.lines goal
    (AreDerived-good task.vars task.formula refutation.lines (AreGood-accepted task.vars task.formula refutation.lines refutation.accepted.reads.accepted)) refutation.refutes all on

grown : (clauses : List (List Literal)) (line : Line) → length (clauses ++ line.clause ∷ []) + 1 ≡ length clauses + 1 + 1
grown clauses line = ap (λ (n : ℕ). n + 1) (length-append clauses (line.clause ∷ []))

pub HaveForm-accepted : (vars : ℕ) (clauses : List (List Literal)) (lines : List Line) → AreAccepted vars clauses lines → HaveForm vars (length clauses + 1) lines
HaveForm-accepted vars clauses [] all = tt
HaveForm-accepted vars clauses (line ∷ lines) all =
    (all.0, subst (λ (n : ℕ). HaveForm vars n lines) (grown clauses line) (HaveForm-accepted vars (clauses ++ line.clause ∷ []) lines all.2))

pub AreAccepted-good : (vars : ℕ) (clauses : List (List Literal)) (lines : List Line) → HaveForm vars (length clauses + 1) lines → AreGood vars clauses lines → AreAccepted vars clauses lines
AreAccepted-good vars clauses [] form good = tt
AreAccepted-good vars clauses (line ∷ lines) form good =
    (form.0, good.0, AreAccepted-good vars (clauses ++ line.clause ∷ []) lines (subst (λ (n : ℕ). HaveForm vars n lines) (sym (grown clauses line)) form.1) good.1)
