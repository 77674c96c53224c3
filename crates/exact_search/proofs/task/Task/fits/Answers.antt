use Rattle.std.proofs.Common.{subst}
use Rattle.step_vars.specs.declared.encoding.Encoding.TheVariants.{Counter}
use Rattle.step_vars.proofs.OfSetting.{small_before}
use Rattle.exact_search.specs.Searching.{IsTask}
use Rattle.exact_search.proofs.task.Task.fits.Goals as goal

pub returns : goal.returns
returns c = λ bound within.
    let task = c.args.self.now in
    let is : IsTask task = subst IsTask c.self.view_is c.self.invariant in
    c.every_schedule_fits.ensures task.setting Counter bound is.sound (small_before task.setting task.vars.steps bound within is.small)
