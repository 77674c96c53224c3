use Rattle.std.proofs.Common.{◌≤◌, subst, sym, arith}
use Rattle.circuit_core.specs.Circuit.{size_of}
use Rattle.circuit_core.proofs.Registers.{size_of-take}
use Rattle.circuit_core.proofs.circuit.Circuit.first_bit.Goals as goal

pub size-requires : goal.size-requires
size-requires c =
    let regs = c.cregs-regs.result.now in
    let small : size_of regs ≤ 4096 = subst (λ regs. size_of regs ≤ 4096) (sym c.cregs-regs.ensures.cregs) c.cregs-regs.ensures.circuit.bits in
    omega (arith, size_of-take regs c.min-count.result, small)
