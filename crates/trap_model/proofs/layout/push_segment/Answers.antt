use Rattle.std.proofs.Common.{append_assoc}
use Rattle.trap_model.specs.Channels.{move_channels}
use Rattle.trap_model.proofs.Pieces.{after_pieces_more}
use Rattle.trap_model.proofs.layout.push_segment.Goals as goal

pub loop-k-preserved : goal.loop-k-preserved
loop-k-preserved c =
    let more = after_pieces_more move_channels c.args.channels.now.items c.loop-k.channels.items c.args.place c.loop-k.k c.loop-k.invariant in
    rw (c.in_ok-push-2.ensures.items, c.in_ok-push.ensures.items, c.channel.ensures, c.channel-in-loop-k.ensures, append_assoc) more
