use Rattle.std.proofs.Common.{◌<◌, ◌-◌, length}
use Rattle.qc_base.specs.Shelf.{OnlyReads, SameCounts}
use Rattle.qc_base.proofs.Reading.{IsFront}
use Rattle.verify_core.specs.declared.certificate.TheConstants.{FRONT}
use Rattle.verify_core.proofs.certificate.read_front.Given as goal

-- what was read is the front of the content, and nothing of the shelf changed
abbrev pub invariant-loop-count : goal.invariant-loop-count
invariant-loop-count g l =
    let facts = g.S.Shelf.facts in
    record {
      front : IsFront (facts l.fn.shelf) l.name l.front.items;
      short : length l.front.items < FRONT;
      stays : SameCounts (facts l.fn.shelf) (facts l.shelf);
      reads : OnlyReads (facts l.fn.shelf) (facts l.shelf);
    }

abbrev pub decreases-loop-count : goal.decreases-loop-count
decreases-loop-count g l = FRONT - length l.front.items
