use Rattle.std.proofs.Common.{◌∙◌, arith, ap, refl, Some, ◌+◌}
use Rattle.qc_base.proofs.Reading.{placed_before, reads_on, counts_on}
use Rattle.verify_core.proofs.Contents.{feeds_more, feeds_all, feeds_fault}
use Rattle.verify_core.proofs.Checking.{handed_on, of_reading}
use Rattle.verify_core.proofs.certificate.feed_rest.Goals as goal

pub returns-then-count-eq0-clause-ok : goal.returns-then-count-eq0-clause-ok
returns-then-count-eq0-clause-ok g c = λ task head bytes is.
    let facts = g.S.Shelf.facts in
    let old = facts c.args.shelf.now in
    let told = placed_before old (facts c.loop-from.shelf) c.args.name.now c.loop-from.from c.in-Ok.count c.read.new.buf c.loop-from.invariant.reads c.in-Ok.ensures.placed in
    feeds_all old c.args.name.now task head bytes c.loop-from.checker c.loop-from.from c.in-Ok.count c.read.new.buf (c.loop-from.invariant.feeds task head bytes is) c.if-count-eq0.true (omega arith) told

pub returns-in_err-feed-clause-cert : goal.returns-in_err-feed-clause-cert
returns-in_err-feed-clause-cert g c = λ fault is_fault task head bytes is.
    let facts = g.S.Shelf.facts in
    let old = facts c.args.shelf.now in
    let told = placed_before old (facts c.loop-from.shelf) c.args.name.now c.loop-from.from c.in-Ok.count c.read.new.buf c.loop-from.invariant.reads c.in-Ok.ensures.placed in
    let same = handed_on c.from_residual.result c.in_err-feed.field-0.0 fault c.from_residual.ensures.1 is_fault in
    feeds_fault old c.args.name.now task head bytes c.loop-from.checker c.feed.new.self c.loop-from.from c.in-Ok.count c.read.new.buf fault (c.loop-from.invariant.feeds task head bytes is) c.in-Ok.ensures.bound told
    (λ before. c.in_err-feed.ensures.fed task before) (c.in_err-feed.ensures.err ∙ ap Some same)

pub loop-from-preserved : goal.loop-from-preserved
loop-from-preserved g c =
    let facts = g.S.Shelf.facts in
    let old = facts c.args.shelf.now in
    let mid = facts c.loop-from.shelf in
    let now = facts c.read.new.self in
    let told = placed_before old mid c.args.name.now c.loop-from.from c.in-Ok.count c.read.new.buf c.loop-from.invariant.reads c.in-Ok.ensures.placed in
    record {
      feeds = λ task head bytes is.
          feeds_more old c.args.name.now task head bytes c.loop-from.checker c.feed.new.self c.loop-from.from (c.loop-from.from + c.in-Ok.count) c.in-Ok.count c.read.new.buf (c.loop-from.invariant.feeds task head bytes is)
          c.in-Ok.ensures.bound told (λ before. c.in_ok-feed.ensures.fed task before) c.in_ok-feed.ensures.ok refl;
      stays = counts_on old mid now c.loop-from.invariant.stays c.in-Ok.ensures.stays;
      reads = reads_on old mid now c.loop-from.invariant.reads c.in-Ok.ensures.reads;
    }

pub returns-in_err-feed-clause-fault : goal.returns-in_err-feed-clause-fault
returns-in_err-feed-clause-fault g c = of_reading c.from_residual.result c.in_err-feed.field-0.0 c.from_residual.ensures.1
