use Rattle.std.proofs.Common.{◌≤◌, arith}
use Rattle.sat_base.proofs.Clauses.{EachVariable-weaken}
use Rattle.solver_bench.proofs.dimacs.add.Goals as goal

pub add_clause-requires-clause-named : goal.add_clause-requires-clause-named
add_clause-requires-clause-named c =
    let vars = c.args.vars in
    let has = c.args.solver.now.trail.vars in
    let within = c.are_within.ensures c.if-not-are_within.false in
    let few : vars ≤ has = omega arith in
    EachVariable-weaken (λ var. var ≤ vars) (λ var. var ≤ has) c.args.lits.now (λ var low. omega arith) within
