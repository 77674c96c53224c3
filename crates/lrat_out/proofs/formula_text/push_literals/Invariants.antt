use Rattle.std.proofs.Common.{◌≡◌, ◌++◌, take}
use Rattle.sat_base.specs.Certificate.{literals_text}
use Rattle.lrat_out.proofs.formula_text.push_literals.Given as goal

abbrev pub invariant-loop-lit : goal.invariant-loop-lit
invariant-loop-lit l = l.out.items ≡ l.fn.out.items ++ literals_text (take l.lit-index l.lits)
