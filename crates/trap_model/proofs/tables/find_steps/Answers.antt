use Rattle.trap_model.specs.Tables.{steps_of}
use Rattle.trap_model.proofs.Pieces.{map_more}
use Rattle.trap_model.proofs.tables.find_steps.Goals as goal

pub loop-place-preserved : goal.loop-place-preserved
loop-place-preserved c =
    rw (c.in_ok-push.ensures.items, c.move_number.ensures, c.move_number-in-loop-place.ensures) (map_more (steps_of c.args.channels.now) c.loop-place.steps.items c.loop-place.place c.loop-place.invariant)
