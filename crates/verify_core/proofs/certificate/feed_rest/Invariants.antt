use Rattle.std.proofs.Common.{◌+◌, ◌-◌, ℕ, List}
use Rattle.qc_base.specs.Shelf.{OnlyReads, SameCounts}
use Rattle.derivation_check.specs.Faults.{Task}
use Rattle.verify_core.specs.declared.verification.TheConstants.{LIMIT}
use Rattle.verify_core.specs.Reading.{IsFeeding}
use Rattle.verify_core.proofs.Contents.{FeedsOn}
use Rattle.verify_core.proofs.certificate.feed_rest.Given as goal

-- the checker was fed more bytes of the content, and nothing of the shelf changed
abbrev pub invariant-loop-from : goal.invariant-loop-from
invariant-loop-from g l =
    let facts = g.S.Shelf.facts in
    record {
      feeds : (task : Task) (head bytes : List ℕ) → IsFeeding (facts l.fn.shelf) l.name task head bytes l.fn.checker l.fn.start
          → FeedsOn (facts l.fn.shelf) l.name task head bytes l.checker l.from;
      stays : SameCounts (facts l.fn.shelf) (facts l.shelf);
      reads : OnlyReads (facts l.fn.shelf) (facts l.shelf);
    }

abbrev pub decreases-loop-from : goal.decreases-loop-from
decreases-loop-from g l = LIMIT + 1 - l.from
