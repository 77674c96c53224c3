use Rattle.std.proofs.Common.{◌≤◌, length, arith}
use Rattle.derivation_log.proofs.FromText.{none_refutes}
use Rattle.derivation_log.proofs.log.Log.refuting.Goals as goal

pub returns-clause-none : goal.returns-clause-none
returns-clause-none c =
    let over : length c.args.self.now.derived ≤ c.loop-k.k = omega (arith, c.loop-k-test.false, c.derived-k-end.ensures) in
    none_refutes c.args.self.now c.args.goal c.loop-k.k over c.loop-k.invariant
