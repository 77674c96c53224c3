use Rattle.std.proofs.Common.{◌≡◌, length, ◌≤◌, take, drop}
use Rattle.qc_base.specs.Shelf.{OnlyPuts, SameCounts}
use Rattle.put_file.proofs.Pieces.{HasBytes}
use Rattle.put_file.proofs.putting.put_printed.Given as goal

-- the bytes that were printed are the content, once there are some, and no other changed
abbrev pub invariant-loop-piece : goal.invariant-loop-piece
invariant-loop-piece g l =
    let facts = g.S.Shelf.facts in
    record {
      in_text : l.done ≤ length l.fn.printer;
      left : l.printer ≡ drop l.done l.fn.printer;
      has : 1 ≤ l.done → HasBytes (facts l.fn.shelf) (facts l.shelf) l.name (take l.done l.fn.printer);
      stays : SameCounts (facts l.fn.shelf) (facts l.shelf);
      keeps : OnlyPuts l.name (facts l.fn.shelf) (facts l.shelf);
    }

abbrev pub decreases-loop-piece : goal.decreases-loop-piece
decreases-loop-piece g l = length l.printer
