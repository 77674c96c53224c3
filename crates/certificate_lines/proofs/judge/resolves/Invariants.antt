use Rattle.std.proofs.Common.{List, drop, map}
use Rattle.std.specs.Prelude.{◌↔◌}
use Rattle.sat_base.specs.Literal.{Literal}
use Rattle.sat_base.specs.Clauses.{clause_at}
use Rattle.sat_base.specs.Resolution.{Leads, ResolveTo}
use Rattle.certificate_lines.proofs.judge.resolves.Given as goal

abbrev pub invariant-loop-i : goal.invariant-loop-i
invariant-loop-i l = (clause : List Literal) → ResolveTo (map (clause_at l.formula) l.hints) clause ↔ Leads l.resolution (drop l.i (map (clause_at l.formula) l.hints)) clause
