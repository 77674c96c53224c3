use Rattle.std.proofs.Common.{rules}
use Rattle.step_vars.proofs.Ranks.{ranks_pushed}
use Rattle.step_vars.proofs.cells.Cells.push.Goals as goal

pub invariant_of-self-2 : goal.invariant_of-self-2
invariant_of-self-2 c =
    let before = rw (← c.self.view_is) at c.requires.new in
    let row = rw (← c.self.view_is) at c.requires.row in
    let col = rw (← c.self.view_is) at c.requires.col in
    ranks_pushed _ _ _ _ _ _ _ _ c.self.invariant before row col (search rules) (search rules)
