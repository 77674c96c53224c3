use Rattle.std.proofs.Common.{◌≡◌, take, map}
use Rattle.run_answers.specs.Line.{printable}
use Rattle.run_answers.proofs.piece.put_name.Given as goal

abbrev pub invariant-loop-place : goal.invariant-loop-place
invariant-loop-place l = take l.place l.buffer ≡ map printable (take l.place l.name)
