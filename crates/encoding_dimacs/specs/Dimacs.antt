-- The DIMACS text that the program writes.
use Rattle.std.specs.Prelude.{◌≡◌, ℕ, ◌+◌, List, [], ◌∷◌, ◌++◌, length, codes, decimal}
use Rattle.std.specs.List.{flat_map}
use Rattle.sat_base.specs.Literal.{Literal}
use Rattle.sat_base.specs.Certificate.{literals_text}
use Rattle.step_rules.specs.Setting.{SettingValue, setting_of}
use Rattle.step_rules.specs.Placement.{IsPlacement}
use Rattle.step_vars.specs.declared.encoding.Encoding.{Encoding}
use Rattle.step_vars.specs.Numbering.{before}
use Rattle.step_vars.specs.Encoding.{VarsValue, IsSmall, vars_of, numbering_of, encoding_of, goal_literal}
use Rattle.encoding_dimacs.specs.declared.inputs.Inputs.{Inputs}

-- the literals of a clause, a space after each, and the 0 that ends it
abbrev pub clause_text : List Literal → List ℕ
clause_text clause = literals_text clause ++ codes "0\n"

-- the line with the numbers of variables and of clauses
abbrev pub head_text : ℕ → ℕ → List ℕ
head_text vars clauses = codes "p cnf " ++ decimal vars ++ codes " " ++ decimal clauses ++ codes "\n"

-- that line and the clauses
abbrev pub dimacs_text : ℕ → List (List Literal) → List ℕ
dimacs_text vars clauses = head_text vars (length clauses) ++ flat_map clause_text clauses

-- the clauses of the parts 0 to t, and the unit clause of the last goal
abbrev pub question_of : SettingValue → Encoding → ℕ → List (List Literal)
question_of setting encoding t = encoding_of setting encoding t ++ (goal_literal setting encoding t ∷ []) ∷ []

-- the text of these
abbrev pub question_text : SettingValue → Encoding → ℕ → List ℕ
question_text setting encoding t =
    dimacs_text (before (numbering_of setting encoding) (t + 1)) (question_of setting encoding t)

-- ---- working notions of private functions

abbrev pub setting_in : Inputs → SettingValue
setting_in inputs = setting_of inputs.trap inputs.circuit inputs.placement

-- the placement is one of the circuit in the trap, within the limits of exact mode
pub record AreReady (inputs : Inputs) : Type 0 where
  pub placement : IsPlacement inputs.trap inputs.circuit inputs.placement
  pub small : IsSmall (setting_in inputs) 48

-- the variables are those of the inputs
pub record AreVarsOf (inputs : Inputs) (vars : VarsValue) : Type 0 where
  pub ready : AreReady inputs
  pub steps : IsSmall (setting_in inputs) vars.steps
  pub same : vars ≡ vars_of (setting_in inputs) vars.encoding vars.steps
