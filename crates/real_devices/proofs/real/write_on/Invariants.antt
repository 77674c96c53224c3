use Rattle.std.proofs.Common.{◌≤◌, length}
use Rattle.std.specs.Prelude.{IfOk}
use Rattle.std.specs.Io.KnownBytes.{WriteAppends}
use Rattle.real_devices.proofs.real.write_on.Given as goal

-- the last call is all that was written
abbrev pub invariant-loop : goal.invariant-loop
invariant-loop g l = record {
  bound : IfOk l.outcome (λ count. count ≤ length l.piece);
  bytes : WriteAppends (g.W.Write.contents l.fn.writer) (g.W.Write.contents l.writer) l.outcome l.piece;
}
