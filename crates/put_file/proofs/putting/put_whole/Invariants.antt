use Rattle.std.proofs.Common.{length, ◌-◌, ◌≤◌, take}
use Rattle.qc_base.specs.Shelf.{OnlyPuts, SameCounts}
use Rattle.put_file.proofs.Pieces.{HasBytes}
use Rattle.put_file.proofs.putting.put_whole.Given as goal

-- the bytes up to here are the content, and no other changed
abbrev pub invariant-loop-done : goal.invariant-loop-done
invariant-loop-done g l =
    let facts = g.S.Shelf.facts in
    record {
      in_range : l.done ≤ length l.bytes;
      has : HasBytes (facts l.fn.shelf) (facts l.shelf) l.name (take l.done l.bytes);
      stays : SameCounts (facts l.fn.shelf) (facts l.shelf);
      keeps : OnlyPuts l.name (facts l.fn.shelf) (facts l.shelf);
    }

abbrev pub decreases-loop-done : goal.decreases-loop-done
decreases-loop-done g l = length l.bytes - l.done
