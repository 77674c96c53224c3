-- Working notions of private functions: derived lines whose clauses and hints are kept in two lists.
use Rattle.std.specs.Prelude.{List, [], ◌∷◌}
use Rattle.sat_base.specs.Literal.{Literal}
use Rattle.derivation_log.specs.declared.line_id.LineId.{LineId}
use Rattle.derivation_log.specs.Log.{Derived}

-- the lines, each of which has its clause from the one list and its hints from the other
abbrev pub lines_of : List (List Literal) → List (List LineId) → List Derived
lines_of [] chains = []
lines_of (clause ∷ clauses) [] = []
lines_of (clause ∷ clauses) (hints ∷ chains) = record { clause = clause; hints = hints } ∷ lines_of clauses chains
