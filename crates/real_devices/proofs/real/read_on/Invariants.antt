use Rattle.std.proofs.Common.{◌≤◌, length}
use Rattle.std.specs.Prelude.{IfOk}
use Rattle.std.specs.Io.KnownBytes.{ReadConsumes}
use Rattle.real_devices.proofs.real.read_on.Given as goal

-- the last call is all that was read
abbrev pub invariant-loop : goal.invariant-loop
invariant-loop g l = record {
  bound : IfOk l.outcome (λ count. count ≤ length l.buf);
  bytes : ReadConsumes (g.F.Read.remaining l.fn.file) (g.F.Read.remaining l.file) l.outcome l.buf;
}
