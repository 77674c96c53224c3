use Rattle.std.proofs.Common.{arith, ◌≤◌}
use Rattle.put_file.proofs.Pieces.{next_bytes, puts_on, same_on}
use Rattle.put_file.proofs.putting.put_whole.Goals as goal

pub loop-done-preserved : goal.loop-done-preserved
loop-done-preserved g c =
    let facts = g.S.Shelf.facts in
    let old = facts c.args.shelf.now in
    let mid = facts c.loop-done.shelf in
    let now = facts c.put-in-loop-done.new.self in
    let name = c.args.name.now in
    let before = c.loop-done.invariant in
    let further : c.loop-done.done ≤ c.min-end.result = omega (arith, c.min-end.ensures, c.loop-done-test.true) in
    record {
      in_range = omega (arith, c.min-end.ensures);
      has = next_bytes old mid now name c.args.bytes.now c.loop-done.done c.min-end.result before.in_range further before.keeps before.has c.in_ok-put-2.ensures.puts;
      stays = same_on old mid now before.stays c.in_ok-put-2.ensures.stays;
      keeps = puts_on name old mid now before.keeps c.in_ok-put-2.ensures.keeps;
    }
