use Rattle.std.proofs.Common.{drop}
use Rattle.at_most.proofs.Emitted.{Emitted}
use Rattle.step_vars.specs.Encoding.{clauses_of}
use Rattle.clause_families.specs.Encoded.{AreEncodedClauses}
use Rattle.clause_families.proofs.emit.push_clauses.Given as goal

abbrev pub invariant-loop-clause : goal.invariant-loop-clause
invariant-loop-clause l = record {
  emitted : Emitted l.fn.out l.out (clauses_of l.vars.numbering l.clauses) (clauses_of l.vars.numbering (drop l.clause-index l.clauses));
  rest : AreEncodedClauses l.vars (drop l.clause-index l.clauses);
}
