use Rattle.std.proofs.Common.{◌≡◌, [], take}
use Rattle.derivation_log.specs.Log.{log_of}
use Rattle.derivation_log.proofs.from_text.copy_formula.Given as goal

abbrev pub invariant-loop-k : goal.invariant-loop-k
invariant-loop-k l = record {
  log : l.log ≡ log_of (take l.k l.formula) [];
  clauses : l.clauses ≡ take l.k l.formula;
}
