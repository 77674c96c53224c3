use Rattle.std.proofs.Common.{arith}
use Rattle.step_vars.proofs.Numbers.{before_next}
use Rattle.step_vars.proofs.Inverse.{number_before_helpers}
use Rattle.step_vars.proofs.laws.helpers_are_in_their_part.Goals as goal

pub returns : goal.returns
returns c = record {
  above = λ n t. omega arith;
  within = λ n t. omega (arith, before_next n t);
  after = number_before_helpers;
}
