-- The text of a formula in DIMACS, the format of the SAT competitions: a line with the numbers of variables and of
-- clauses, and then a line for each clause.
use Rattle.std.specs.Prelude.{ℕ, List, ◌++◌, length, codes, decimal}
use Rattle.std.specs.List.{flat_map}
use Rattle.sat_base.specs.Literal.{Literal}
use Rattle.sat_base.specs.Certificate.{literals_text}

-- a clause: its literals, and 0
abbrev pub clause_text : List Literal → List ℕ
clause_text clause = literals_text clause ++ codes "0\n"

-- the first line, with the numbers of variables and of clauses
abbrev pub problem_text : ℕ → ℕ → List ℕ
problem_text vars clauses = codes "p cnf " ++ decimal vars ++ codes " " ++ decimal clauses ++ codes "\n"

-- the whole text
abbrev pub dimacs_text : List (List Literal) → ℕ → List ℕ
dimacs_text formula vars = problem_text vars (length formula) ++ flat_map clause_text formula
