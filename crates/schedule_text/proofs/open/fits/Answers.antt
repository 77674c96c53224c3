use Rattle.std.proofs.Common.{ap, arith}
use Rattle.schedule_text.specs.Progress.{capacity}
use Rattle.schedule_text.proofs.Opening.{small_room}
use Rattle.schedule_text.proofs.open.fits.Goals as goal

pub room-requires : goal.room-requires
room-requires c = omega (arith, small_room c.args.trap.now 0 c.zones.ensures.trap, ap capacity c.zones.ensures.zones)
