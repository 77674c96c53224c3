-- All clauses of a log.
use Rattle.std.specs.Prelude.{if◌then◌else◌, Bool, List, ◌++◌}
use Rattle.sat_base.specs.Literal.{Literal}
use Rattle.derivation_log.specs.Log.{Lines, clauses_of}

-- the axioms, and then the clauses of the derived lines
abbrev pub clauses_in : Lines → List (List Literal)
clauses_in log = log.axioms ++ clauses_of log.derived

-- ---- working notions of private functions

-- the clauses of one kind: those of the derived lines, or the axioms
abbrev pub clauses_of_kind : Lines → Bool → List (List Literal)
clauses_of_kind log derived = if derived then clauses_of log.derived else log.axioms
