use Rattle.std.proofs.Common.{arith, length}
use Rattle.gate_names.proofs.declarations.item_of.Goals as goal

pub returns-in_ok-positions-in-U-clause-below : goal.returns-in_ok-positions-in-U-clause-below
returns-in_ok-positions-in-U-clause-below c = c.call_of.ensures.below (length c.args.table.now.gates) (omega arith)

pub returns-in_ok-positions-in-Cx-clause-below : goal.returns-in_ok-positions-in-Cx-clause-below
returns-in_ok-positions-in-Cx-clause-below c = c.call_of-in-Cx.ensures.below (length c.args.table.now.gates) (omega arith)
