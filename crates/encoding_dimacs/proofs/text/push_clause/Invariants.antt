use Rattle.std.proofs.Common.{◌≡◌, ◌++◌, drop}
use Rattle.sat_base.specs.Certificate.{literals_text}
use Rattle.encoding_dimacs.proofs.text.push_clause.Given as goal

abbrev pub invariant-loop-lit : goal.invariant-loop-lit
invariant-loop-lit l = l.text.items ++ literals_text (drop l.lit-index l.clause) ≡ l.fn.text.items ++ literals_text l.clause
