use Rattle.std.proofs.Common.{ap, ◌∙◌, arith}
use Rattle.step_vars.specs.declared.sizes.Sizes.{Sizes}
use Rattle.step_vars.specs.Numbering.{part_size}
use Rattle.step_vars.proofs.Numbers.{before_at}
use Rattle.step_vars.proofs.vars.Vars.before.Goals as goal

pub returns-else-time-eq0-clause-before : goal.returns-else-time-eq0-clause-before
returns-else-time-eq0-clause-before c =
    let first = c.size.ensures ∙ ap (λ (s : Sizes). part_size s) c.sizes.ensures.sizes in
    let later = c.size-else-time-eq0.ensures ∙ ap (λ (s : Sizes). part_size s) c.sizes-else-time-eq0.ensures.sizes in
    rw (first, later) (before_at c.args.self.now.numbering c.args.time (omega arith))
