use Rattle.std.proofs.Common.{◌≡◌}
use Rattle.step_vars.specs.Encoding.{encoding_of}
use Rattle.exact_tests.proofs.tests.schedules.clauses.Given as goal

abbrev pub invariant-loop-time : goal.invariant-loop-time
invariant-loop-time l = l.formula ≡ encoding_of l.setting l.vars.encoding l.time
