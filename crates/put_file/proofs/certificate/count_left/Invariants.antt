use Rattle.std.proofs.Common.{◌≡◌, length, ◌+◌}
use Rattle.put_file.proofs.certificate.count_left.Given as goal

-- what was counted, and what is left
abbrev pub invariant-loop-piece : goal.invariant-loop-piece
invariant-loop-piece l = l.count + length l.printer ≡ length l.initial.printer

abbrev pub decreases-loop-piece : goal.decreases-loop-piece
decreases-loop-piece l = length l.printer
