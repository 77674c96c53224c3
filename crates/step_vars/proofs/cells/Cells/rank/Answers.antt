use Rattle.std.proofs.Common.{sym}
use Rattle.step_vars.proofs.Ranks.{rank_outside_rows, rank_outside_cols}
use Rattle.step_vars.proofs.cells.Cells.rank.Goals as goal

pub returns-then-row-self : goal.returns-then-row-self
returns-then-row-self c =
    rw (← c.self.view_is) (sym (rank_outside_rows c.self.inside.rows c.self.inside.cols c.args.row c.args.col c.self.inside.members.items c.self.invariant.within c.if-row-self.true))

pub returns-then-col-self : goal.returns-then-col-self
returns-then-col-self c =
    rw (← c.self.view_is) (sym (rank_outside_cols c.self.inside.rows c.self.inside.cols c.args.row c.args.col c.self.inside.members.items c.self.invariant.within c.if-col-self.true))
