use Rattle.std.proofs.Common.{sym, arith}
use Rattle.step_rules.specs.Setting.{setting_of}
use Rattle.exact_search.proofs.Limits.{within_limits, too_large_answer}
use Rattle.exact_search.proofs.exact.least.Goals as goal

pub returns-in-Some : goal.returns-in-Some
returns-in-Some c =
    let setting = setting_of c.args.trap.now c.args.circuit.now c.args.placement.now in
    too_large_answer setting c.args.max c.args.budget c.in-Some.fault (sym (c.in-Some.ensures.excess c.args.placement.now))

pub overflow_cast-max : goal.overflow_cast-max
overflow_cast-max c =
    let setting = setting_of c.args.trap.now c.args.circuit.now c.args.placement.now in
    let small = within_limits setting c.args.max (sym (c.in-None.ensures.excess c.args.placement.now)) in
    omega (arith, small.time)

pub search-requires-clause-small : goal.search-requires-clause-small
search-requires-clause-small c =
    let setting = setting_of c.args.trap.now c.args.circuit.now c.args.placement.now in
    within_limits setting c.args.max (sym (c.in-None.ensures.excess c.args.placement.now))

pub returns-in_ok-found-in-None : goal.returns-in_ok-found-in-None
returns-in_ok-found-in-None c = (sym (c.in-None.ensures.excess c.args.placement.now), c.in_ok-found-in-None.ensures)
