use Rattle.std.proofs.Common.{◌≡◌, ◌+◌, ◌-◌, subst, arith}
use Rattle.solver_trail.specs.Trail.{IsUnassigned}
use Rattle.solver_trail.proofs.recent.first_unassigned.Goals as goal

pub returns-clause-none : goal.returns-clause-none
returns-clause-none c = λ var unassigned.
    let end = c.vars-index-end.ensures.vars in
    let test = c.loop-index-test.false in
    let low = unassigned.from_1 in
    let high = unassigned.within in
    let one : var ≡ var - 1 + 1 = omega arith in
    c.loop-index.invariant (var - 1) (omega arith) (subst (IsUnassigned c.args.values.now) one unassigned)
