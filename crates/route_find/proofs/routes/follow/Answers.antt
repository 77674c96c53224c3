use Rattle.std.proofs.Common.{sym, ◌∙◌}
use Rattle.route_find.proofs.Following.{next_within, followed_more_at, followed_falls, followed_end}
use Rattle.route_find.proofs.routes.follow.Goals as goal

pub bounds-channels-number : goal.bounds-channels-number
bounds-channels-number c = next_within c.args.trap.now c.args.distances.now c.loop-number.place.0 c.in-Some.number c.channels.result.now c.requires.distances (sym c.in-Some.ensures) c.channels.ensures.channels

pub loop-number-smaller : goal.loop-number-smaller
loop-number-smaller c = followed_falls c.args.trap.now c.args.distances.now c.loop-number.place.0 c.in-Some.number c.channels.result.now _ c.requires.distances (sym c.in-Some.ensures) c.channels.ensures.channels

pub loop-number-preserved : goal.loop-number-preserved
loop-number-preserved c =
    rw c.in_ok-push.ensures.items
    (followed_more_at c.args.trap.now c.args.distances.now c.args.from.0 c.loop-number.place.0 c.in-Some.number c.loop-number.route.items c.channels.result.now _ c.requires.distances c.loop-number.invariant (sym c.in-Some.ensures) c.channels.ensures.channels)

pub returns : goal.returns
returns c =
    rw c.from_vec.ensures
    (followed_end c.args.trap.now c.args.distances.now c.args.from.0 c.loop-number.place.0 c.loop-number.route.items c.requires.distances c.loop-number.invariant (sym c.next.ensures ∙ c.in_default.is))
