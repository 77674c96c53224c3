use Rattle.std.proofs.Common.{◌≡◌, ◌++◌, [], drop, ◌∙◌, sym, arith}
use Rattle.derivation_log.specs.Pieces.{IsPiece}
use Rattle.put_file.proofs.Pieces.{next_printed, all_printed, piece_left, piece_within, puts_on, same_on}
use Rattle.put_file.proofs.putting.put_printed.Goals as goal

-- src/putting.rt:40:9
pub overflow_add-done : goal.overflow_add-done
overflow_add-done g c =
    let left = c.next.follows.lender-at-none in
    let taken : IsPiece c.loop-piece.printer c.in-Some.piece.now left = rw c.in-Some.is at c.next.follows.holds-at-none in
    let before = c.loop-piece.invariant in
    let parts : drop c.loop-piece.done c.args.printer.now ≡ c.in-Some.piece.now ++ left = sym before.left ∙ taken.parts in
    omega (arith, piece_within c.args.printer.now c.in-Some.piece.now left c.loop-piece.done before.in_text parts, c.requires.few)

-- src/putting.rt:38:5
pub loop-piece-preserved : goal.loop-piece-preserved
loop-piece-preserved g c =
    let facts = g.S.Shelf.facts in
    let old = facts c.args.shelf.now in
    let mid = facts c.loop-piece.shelf in
    let now = facts c.put.new.self in
    let name = c.args.name.now in
    let text = c.args.printer.now in
    let piece = c.in-Some.piece.now in
    let left = c.next.follows.lender-at-none in
    let done = c.loop-piece.done in
    let taken : IsPiece c.loop-piece.printer piece left = rw c.in-Some.is at c.next.follows.holds-at-none in
    let before = c.loop-piece.invariant in
    let parts : drop done text ≡ piece ++ left = sym before.left ∙ taken.parts in
    record {
      in_text = piece_within text piece left done before.in_text parts;
      left = piece_left text piece left done parts;
      has = λ some. next_printed old mid now name text piece left done before.in_text before.keeps before.has parts c.in_ok-put.ensures.puts;
      stays = same_on old mid now before.stays c.in_ok-put.ensures.stays;
      keeps = puts_on name old mid now before.keeps c.in_ok-put.ensures.keeps;
    }

-- src/putting.rt:28:1
pub returns : goal.returns
returns g c =
    let facts = g.S.Shelf.facts in
    let old = facts c.args.shelf.now in
    let now = facts c.loop-piece.shelf in
    let before = c.loop-piece.invariant in
    let ended : (c.loop-piece.printer ≡ []) × (c.next.follows.lender-at-none ≡ []) = rw c.in_default.is at c.next.follows.holds-at-none in
    record {
      puts = all_printed old now c.args.name.now c.args.printer.now c.loop-piece.done c.requires.some before.in_text (sym before.left ∙ ended.0) before.has;
      failed = λ err. absurd (cc err);
      memory = λ err. absurd (cc err);
      stays = before.stays;
      keeps = before.keeps;
    }
