use Rattle.std.proofs.Common.{rules, ◌≡◌, ◌*◌, None}
use Rattle.std.specs.Prelude.{replicate}
use Rattle.step_vars.proofs.Ranks.{ranks_none}
use Rattle.step_vars.proofs.cells.Cells.new.Goals as goal

pub invariant_of-result : goal.invariant_of-result
invariant_of-result c =
    let ranks : c.in_ok-ranks.ranks.items ≡ replicate (c.args.rows * c.args.cols) None = search rules in
    rw c.new.ensures.items (ranks_none c.args.rows c.args.cols c.in_ok-ranks.ranks.items ranks)
