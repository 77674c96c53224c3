use Rattle.std.proofs.Common.{arith}
use Rattle.sat_base.specs.Valuation.{valuation_of}
use Rattle.solver_trail.specs.Trail.{values_of}
use Rattle.exact_search.proofs.Tasks.{goal_is_last, vars_grow, model_by}
use Rattle.exact_search.proofs.Bounds.{is_least}
use Rattle.exact_search.proofs.search.Search.schedule.Goals as goal

pub schedule-requires-clause-model : goal.schedule-requires-clause-model
schedule-requires-clause-model c =
    let setting = c.args.task.now.setting in
    let count = c.vars_up_to.ensures.count in
    model_by setting c.args.bound (values_of c.args.self.now.solver.trail.entries) (valuation_of c.in_ok-values.values) c.vars_up_to.ensures.names (goal_is_last c.args.task.now c.args.bound)
    (omega (arith, vars_grow setting c.args.bound)) (λ var low high. c.in_ok-values.ensures.same var low (omega (arith, high, count))) c.requires.model.model

pub returns-clause-least : goal.returns-clause-least
returns-clause-least c =
    let setting = c.args.task.now.setting in
    let model = c.requires.model in
    let within = c.requires.within in
    let found = c.in_ok-schedule.ensures in
    is_least setting c.args.bound c.args.self.now.solver.log c.args.self.now.shown.axioms c.args.self.now.shown.lines c.in_ok-schedule.schedule
    (λ bound less. c.fits.ensures bound (omega (arith, less, within))) model.fewer found.plays found.long
