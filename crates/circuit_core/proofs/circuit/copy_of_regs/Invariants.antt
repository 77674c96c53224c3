use Rattle.std.proofs.Common.{◌≡◌, take}
use Rattle.circuit_core.proofs.circuit.copy_of_regs.Given as goal

abbrev pub invariant-loop-reg : goal.invariant-loop-reg
invariant-loop-reg l = l.copy.items ≡ take l.reg-index l.regs
