use Rattle.std.proofs.Common.{◌≡◌, map, take}
use Rattle.sat_base.specs.Literal.{negated}
use Rattle.sat_base.specs.Clauses.{HasDistinctVariables}
use Rattle.lrat_out.proofs.reading.assume.Given as goal

abbrev pub invariant-loop-lit : goal.invariant-loop-lit
invariant-loop-lit l = record {
  distinct : HasDistinctVariables (take l.lit-index l.clause);
  trues : l.trues ≡ map negated (take l.lit-index l.clause);
}
