use Rattle.step_rules.specs.Placement.{IsPlacement}
use Rattle.schedule_text.proofs.Placing.{opens_full}
use Rattle.step_rules.proofs.Accepted.{placement_is}
use Rattle.schedule_text.proofs.Accepted.{placed_unless}
use Rattle.schedule_text.proofs.reader.placed.Goals as goal

pub unreachable-requires : goal.unreachable-requires
unreachable-requires c =
    let full : IsPlacement c.args.trap.now c.args.circuit.now c.args.lists.items = opens_full c.args.trap.now c.args.circuit.now c.args.lists.items c.requires.opened c.requires.all in
    placed_unless _ c.in-Err.fault (rw (placement_is c.args.trap.now c.args.circuit.now c.args.lists.items full) at c.in-Err.ensures.answer) c.in_default.not-NoMemory
