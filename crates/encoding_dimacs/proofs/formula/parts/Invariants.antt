use Rattle.std.proofs.Common.{◌≡◌}
use Rattle.step_vars.specs.Encoding.{encoding_of}
use Rattle.encoding_dimacs.specs.Dimacs.{setting_in}
use Rattle.encoding_dimacs.proofs.formula.parts.Given as goal

abbrev pub invariant-loop-before : goal.invariant-loop-before
invariant-loop-before l = l.formula ≡ encoding_of (setting_in l.inputs) l.vars.encoding l.before
