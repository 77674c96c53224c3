use Rattle.std.proofs.Common.{sym, arith}
use Rattle.step_vars.proofs.Numbers.{few_swaps}
use Rattle.step_vars.proofs.vars.Vars.swap_index.Goals as goal

pub overflow_mul-result : goal.overflow_mul-result
overflow_mul-result c =
    let few = few_swaps c.self.inside.pairs.members c.self.inside.zones c.args.first.0 c.args.second.0 c.args.zone.0 c.in-Some.rank c.self.invariant.1.pairs c.self.invariant.1.zones c.if-zone-self.false (sym c.in-Some.ensures) in
    omega (arith, few)

pub overflow_add-result : goal.overflow_add-result
overflow_add-result c =
    let few = few_swaps c.self.inside.pairs.members c.self.inside.zones c.args.first.0 c.args.second.0 c.args.zone.0 c.in-Some.rank c.self.invariant.1.pairs c.self.invariant.1.zones c.if-zone-self.false (sym c.in-Some.ensures) in
    omega (arith, few)
