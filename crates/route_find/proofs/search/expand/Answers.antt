use Rattle.std.proofs.Common.{◌≡◌, ◌+◌, ◌<◌, length, sym, ap, subst, arith}
use Rattle.std.specs.Prelude.{slice_index, not}
use Rattle.std.proofs.lemmas.Option.{slice_get_within}
use Rattle.route_find.specs.Search.{first, AreBelow}
use Rattle.route_find.proofs.Expanding.{expanding_old_at, expanding_new_at, expanding_end, number_at, row_here}
use Rattle.route_find.proofs.search.expand.Goals as goal
use Rattle.route_find.proofs.search.expand.Goals.{then-is_none+in_ok-push, else-is_none}

pub bounds-channels-number : goal.bounds-channels-number
bounds-channels-number c =
    let some : c.args.head < length c.args.queue.now.items = omega (arith, c.requires.head, c.args.queue.now.ok.0) in
    let row = row_here c.args.channels.now (first c.args.queue.now.items) c.args.head c.index-place.result.now (length c.args.rows.now) c.args.queue.now.items c.args.rows.now c.args.ends.now c.index-ends-place.result c.items-number-items.result.now
    c.requires.search some c.requires.ends.len c.index-place.ensures c.index-ends-place.is c.items-number-items.ensures in
    let ends = number_at c.args.channels.now (length c.args.rows.now) (length c.args.channels.now) c.args.ends.now (slice_index c.args.queue.now.items c.args.head) c.loop-number.number-index c.items-number-items.result.now c.requires.ends row c.loop-number-test.true in
    slice_get_within c.args.channels.now (slice_index c.items-number-items.result.now c.loop-number.number-index) ends.channel ends.there

pub loop-number-preserved : goal.loop-number-preserved
loop-number-preserved c =
    let some : c.args.head < length c.args.queue.now.items = omega (arith, c.requires.head, c.args.queue.now.ok.0) in
    let row = row_here c.args.channels.now (first c.args.queue.now.items) c.args.head c.index-place.result.now (length c.args.rows.now) c.args.queue.now.items c.args.rows.now c.args.ends.now c.index-ends-place.result c.items-number-items.result.now
    c.requires.search some c.requires.ends.len c.index-place.ensures c.index-ends-place.is c.items-number-items.ensures in
    let ends = number_at c.args.channels.now (length c.args.rows.now) (length c.args.channels.now) c.args.ends.now (slice_index c.args.queue.now.items c.args.head) c.loop-number.number-index c.items-number-items.result.now c.requires.ends row c.loop-number-test.true in
    let below = subst (λ n. AreBelow n c.args.channels.now) (sym c.loop-number.auto.rows) c.requires.channels in
    elim c.if-is_none.branch [
      | then-is_none+in_ok-push w ↦ rw (w.queue-is, w.rows-is, w.in_ok-push.ensures.items)
          (expanding_new_at c.args.channels.now c.args.queue.now.items c.args.head (c.distance_of-distance.result + 1) c.loop-number.queue.items c.loop-number.rows c.items-number-items.result.now c.loop-number.number-index _ _ c.loop-number.invariant ends below (ap (λ b. not b) w.if-is_none.ensures))
      | else-is_none w ↦ rw (w.queue-is, w.rows-is)
          (expanding_old_at c.args.channels.now c.args.queue.now.items c.args.head (c.distance_of-distance.result + 1) c.loop-number.queue.items c.loop-number.rows c.items-number-items.result.now c.loop-number.number-index _ _ c.loop-number.invariant ends below (ap (λ b. not b) w.if-is_none.ensures))
    ]

pub returns-clause-search : goal.returns-clause-search
returns-clause-search c =
    let some : c.args.head < length c.args.queue.now.items = omega (arith, c.requires.head, c.args.queue.now.ok.0) in
    let row = row_here c.args.channels.now (first c.args.queue.now.items) c.args.head c.index-place.result.now (length c.args.rows.now) c.args.queue.now.items c.args.rows.now c.args.ends.now c.index-ends-place.result c.items-number-items.result.now
    c.requires.search some c.requires.ends.len c.index-place.ensures c.index-ends-place.is c.items-number-items.ensures in
    let all : c.loop-number.number-index ≡ length c.items-number-items.result.now = omega arith in
    expanding_end c.args.channels.now c.args.queue.now.items c.args.head (c.distance_of-distance.result + 1) (length c.args.rows.now) c.loop-number.queue.items c.loop-number.rows c.items-number-items.result.now c.args.ends.now
    (rw (← all) c.loop-number.invariant) c.requires.ends row
