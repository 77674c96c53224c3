use Rattle.std.proofs.Common.{drop}
use Rattle.std.specs.Prelude.{◌↔◌}
use Rattle.sat_base.specs.Derivation.{IsAscending}
use Rattle.certificate_lines.proofs.Ascending.{AscendFrom}
use Rattle.certificate_lines.proofs.line.ascends.Given as goal

abbrev pub invariant-loop-lit : goal.invariant-loop-lit
invariant-loop-lit l = IsAscending l.lits ↔ AscendFrom l.above (drop l.lit-index l.lits)
