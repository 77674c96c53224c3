use Rattle.std.proofs.Common.{arith, ◌≡◌, ◌+◌}
use Rattle.trap_parts.specs.Parts.{lists}
use Rattle.trap_model.specs.Channels.{crossings_of}
use Rattle.trap_model.proofs.Pieces.{after_pieces_more}
use Rattle.trap_model.proofs.layout.push_crossings.Goals as goal

pub loop-junction-preserved : goal.loop-junction-preserved
loop-junction-preserved c =
    let more = after_pieces_more (crossings_of (lists c.args.parts.now)) c.args.channels.now.items c.loop-junction.channels.items 0 c.loop-junction.junction c.loop-junction.invariant in
    let number : 0 + c.loop-junction.junction ≡ c.loop-junction.junction = omega arith in
    rw (c.in_ok-push_junction.ensures, c.as_slice.ensures.value, c.in_ok-arms.ensures) (rw number at more)
