use Rattle.trap_model.specs.Tables.{doors_of}
use Rattle.trap_model.proofs.Pieces.{map_more}
use Rattle.trap_model.proofs.tables.find_doors.Goals as goal

pub loop-zone-preserved : goal.loop-zone-preserved
loop-zone-preserved c =
    rw (c.in_ok-push.ensures.items, c.find_door.ensures, c.find_door-in-loop-zone.ensures) (map_more (doors_of c.args.channels.now) c.loop-zone.doors.items c.loop-zone.zone c.loop-zone.invariant)
