use Rattle.std.proofs.Common.{◌-◌, ◌<◌, length, arith, length-append, length-take, take}
use Rattle.qc_base.proofs.Reading.{placed_before, front_continues, front_is_whole, longer, reads_on, counts_on}
use Rattle.qc_base.proofs.shelf.read_by.Goals as goal

pub returns-then-count-eq0-clause-whole : goal.returns-then-count-eq0-clause-whole
returns-then-count-eq0-clause-whole g c =
    let facts = g.S.Shelf.facts in
    let bytes = c.loop-count.bytes.items in
    let old = facts c.args.shelf.now in
    let placed = rw (c.len.ensures, c.loop-count.bytes.ok.0) at c.in-Ok.ensures.placed in
    let seen = placed_before old (facts c.loop-count.shelf) c.args.name.now (length bytes) c.in-Ok.count c.read.new.buf c.loop-count.invariant.reads placed in
    front_is_whole old c.args.name.now bytes c.read.new.buf c.in-Ok.count c.loop-count.invariant.front c.if-count-eq0.true (omega arith) seen

pub returns-then-limit-len-clause-long : goal.returns-then-limit-len-clause-long
returns-then-limit-len-clause-long g c = λ error.
    let facts = g.S.Shelf.facts in
    let bytes = c.loop-count.bytes.items in
    let old = facts c.args.shelf.now in
    let over : c.args.limit - length bytes < c.in-Ok.count = omega (arith, c.loop-count.bytes.ok.0) in
    let placed = rw (c.len.ensures, c.loop-count.bytes.ok.0) at c.in-Ok.ensures.placed in
    let seen = placed_before old (facts c.loop-count.shelf) c.args.name.now (length bytes) c.in-Ok.count c.read.new.buf c.loop-count.invariant.reads placed in
    longer old c.args.name.now bytes c.read.new.buf c.args.limit c.in-Ok.count c.loop-count.invariant.within over c.in-Ok.ensures.bound seen

pub loop-count-preserved : goal.loop-count-preserved
loop-count-preserved g c =
    let facts = g.S.Shelf.facts in
    let bytes = c.loop-count.bytes.items in
    let old = facts c.args.shelf.now in
    let mid = facts c.loop-count.shelf in
    let now = facts c.read.new.self in
    let grown = c.in-Ok-extend_from_slice.ensures.items in
    let placed = rw (c.len.ensures, c.loop-count.bytes.ok.0) at c.in-Ok.ensures.placed in
    let seen = placed_before old mid c.args.name.now (length bytes) c.in-Ok.count c.read.new.buf c.loop-count.invariant.reads placed in
    record {
      front = rw grown (front_continues old c.args.name.now bytes c.read.new.buf c.in-Ok.count c.loop-count.invariant.front c.in-Ok.ensures.bound seen);
      within = rw grown (omega (arith, length-append c.loop-count.bytes.items (take c.in-Ok.count c.read.new.buf), length-take c.in-Ok.count c.read.new.buf));
      stays = counts_on old mid now c.loop-count.invariant.stays c.in-Ok.ensures.stays;
      reads = reads_on old mid now c.loop-count.invariant.reads c.in-Ok.ensures.reads;
    }
