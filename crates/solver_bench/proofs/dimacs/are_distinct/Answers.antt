use Rattle.std.proofs.Common.{◌≢◌, ℕ, take, subst}
use Rattle.sat_base.specs.Clauses.{EachVariable}
use Rattle.solver_bench.proofs.Clauses.{distinct_more}
use Rattle.solver_bench.proofs.dimacs.are_distinct.Goals as goal

pub loop-index-preserved : goal.loop-index-preserved
loop-index-preserved c =
    let lits = c.args.lits.now in
    let index = c.loop-index.index in
    let lacks = c.lacks.ensures c.if-not-lacks.false in
    let other = subst (λ (v : ℕ). EachVariable (λ var. var ≢ v) (take index lits)) c.var-var.ensures.var lacks in
    distinct_more lits index c.index-lits-index.result c.loop-index-test.true c.index-lits-index.is c.loop-index.invariant other
