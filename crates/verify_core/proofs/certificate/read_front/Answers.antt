use Rattle.std.proofs.Common.{length, take, arith, inl, ◌++◌}
use Rattle.qc_base.proofs.Reading.{placed_before, front_continues, front_is_whole, reads_on, counts_on}
use Rattle.verify_core.proofs.Contents.{front_begins}
use Rattle.verify_core.proofs.certificate.read_front.Goals as goal

pub returns-then-count-eq0-clause-begins : goal.returns-then-count-eq0-clause-begins
returns-then-count-eq0-clause-begins g c =
    let facts = g.S.Shelf.facts in
    let bytes = c.loop-count.front.items in
    let old = facts c.args.shelf.now in
    let placed = rw (c.len.ensures, c.loop-count.front.ok.0) at c.in-Ok.ensures.placed in
    let told = placed_before old (facts c.loop-count.shelf) c.args.name.now (length bytes) c.in-Ok.count c.read.new.buf c.loop-count.invariant.reads placed in
    front_begins old c.args.name.now bytes (length bytes) c.in-Ok.count c.read.new.buf c.loop-count.invariant.front told

pub returns-then-count-eq0-clause-enough : goal.returns-then-count-eq0-clause-enough
returns-then-count-eq0-clause-enough g c =
    let facts = g.S.Shelf.facts in
    let bytes = c.loop-count.front.items in
    let old = facts c.args.shelf.now in
    let placed = rw (c.len.ensures, c.loop-count.front.ok.0) at c.in-Ok.ensures.placed in
    let told = placed_before old (facts c.loop-count.shelf) c.args.name.now (length bytes) c.in-Ok.count c.read.new.buf c.loop-count.invariant.reads placed in
    inl (front_is_whole old c.args.name.now bytes c.read.new.buf c.in-Ok.count c.loop-count.invariant.front c.if-count-eq0.true (omega arith) told)

pub returns-then-len-ge-FRONT-clause-begins : goal.returns-then-len-ge-FRONT-clause-begins
returns-then-len-ge-FRONT-clause-begins g c =
    let facts = g.S.Shelf.facts in
    let bytes = c.loop-count.front.items in
    let old = facts c.args.shelf.now in
    let grown = c.in_ok-extend_from_slice.ensures.items in
    let placed = rw (c.len.ensures, c.loop-count.front.ok.0) at c.in-Ok.ensures.placed in
    let told = placed_before old (facts c.loop-count.shelf) c.args.name.now (length bytes) c.in-Ok.count c.read.new.buf c.loop-count.invariant.reads placed in
    let more = bytes ++ take c.in-Ok.count c.read.new.buf in
    rw grown (front_begins old c.args.name.now more (length bytes) c.in-Ok.count c.read.new.buf
    (front_continues old c.args.name.now bytes c.read.new.buf c.in-Ok.count c.loop-count.invariant.front c.in-Ok.ensures.bound told) told)

pub loop-count-preserved : goal.loop-count-preserved
loop-count-preserved g c =
    let facts = g.S.Shelf.facts in
    let bytes = c.loop-count.front.items in
    let old = facts c.args.shelf.now in
    let mid = facts c.loop-count.shelf in
    let now = facts c.read.new.self in
    let grown = c.in_ok-extend_from_slice.ensures.items in
    let placed = rw (c.len.ensures, c.loop-count.front.ok.0) at c.in-Ok.ensures.placed in
    let told = placed_before old mid c.args.name.now (length bytes) c.in-Ok.count c.read.new.buf c.loop-count.invariant.reads placed in
    record {
      front = rw grown (front_continues old c.args.name.now bytes c.read.new.buf c.in-Ok.count c.loop-count.invariant.front c.in-Ok.ensures.bound told);
      short = omega (arith, c.if-len-ge-FRONT.false, c.len-in-loop-count.ensures, c.extend_from_slice.new.self.ok.0);
      stays = counts_on old mid now c.loop-count.invariant.stays c.in-Ok.ensures.stays;
      reads = reads_on old mid now c.loop-count.invariant.reads c.in-Ok.ensures.reads;
    }
