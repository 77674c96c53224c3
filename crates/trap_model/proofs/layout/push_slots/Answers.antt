use Rattle.trap_model.specs.Trap.{slot}
use Rattle.trap_model.proofs.Pieces.{after_map_more}
use Rattle.trap_model.proofs.layout.push_slots.Goals as goal

pub loop-index-preserved : goal.loop-index-preserved
loop-index-preserved c =
    rw c.in_ok-push.ensures.items (after_map_more (slot c.args.segment) c.args.slots.now.items c.loop-index.slots.items c.loop-index.index c.loop-index.invariant)
