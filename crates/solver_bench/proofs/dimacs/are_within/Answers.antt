use Rattle.std.proofs.Common.{◌≤◌, arith}
use Rattle.solver_bench.proofs.Clauses.{each_more}
use Rattle.solver_bench.proofs.dimacs.are_within.Goals as goal

pub loop-lit-preserved : goal.loop-lit-preserved
loop-lit-preserved c =
    let lit = c.lit-item.result in
    each_more (λ var. var ≤ c.args.vars) c.args.lits.now c.loop-lit.lit-index lit c.loop-lit-test.true c.lit-item.is c.loop-lit.invariant (omega arith)
