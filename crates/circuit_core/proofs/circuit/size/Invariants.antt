use Rattle.std.proofs.Common.{◌≡◌, ◌+◌, drop}
use Rattle.circuit_core.specs.Circuit.{size_of}
use Rattle.circuit_core.proofs.circuit.size.Given as goal

abbrev pub invariant-loop-reg : goal.invariant-loop-reg
invariant-loop-reg l = l.size + size_of (drop l.reg-index l.regs) ≡ size_of l.regs
