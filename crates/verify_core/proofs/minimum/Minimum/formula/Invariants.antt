use Rattle.std.proofs.Common.{◌≡◌}
use Rattle.verify_core.specs.Reading.{encoding_before}
use Rattle.verify_core.proofs.minimum.Minimum.formula.Given as goal

-- the clauses are those of the parts before t
abbrev pub invariant-loop-t : goal.invariant-loop-t
invariant-loop-t l = l.formula ≡ encoding_before l.self.setting l.vars.encoding l.t
