use Rattle.std.proofs.Common.{◌≡◌, ◌+◌, ◌≤◌, length, take, Some, refl, ap, sym, ◌∙◌, arith}
use Rattle.std.specs.Prelude.{slice_get}
use Rattle.std.proofs.lemmas.Option.{slice_get_read}
use Rattle.circuit_core.specs.Circuit.{size_of}
use Rattle.circuit_core.proofs.Registers.{register_fits}
use Rattle.circuit_core.proofs.Wires.{tested_at}
use Rattle.circuit_core.proofs.bits.tested.Goals as goal

pub overflow_add-result : goal.overflow_add-result
overflow_add-result c =
    let regs = c.cregs.result.now in
    let creg = c.in_ok-cond.cond.creg.0 in
    let reg = c.in_ok-reg.reg.now in
    let at : slice_get c.args.circuit.now.cregs c.in_ok-cond.cond.creg.0 ≡ Some c.in_ok-reg.reg.now =
    ap (λ regs. slice_get regs c.in_ok-cond.cond.creg.0) (sym c.cregs.ensures.cregs) ∙ slice_get_read c.cregs.result.now (length c.cregs.result.now) c.in_ok-cond.cond.creg.0 c.in_ok-reg.reg.now refl c.in_ok-reg.ensures.lookup.3.0 c.in_ok-reg.ensures.lookup.1 in
    let fits : size_of (take creg c.args.circuit.now.cregs) + reg.size ≤ size_of c.args.circuit.now.cregs = register_fits c.args.circuit.now.cregs creg reg at in
    let same = c.first_bit-from.ensures in
    omega (arith, c.requires.bits)

pub returns : goal.returns
returns c =
    let at : slice_get c.args.circuit.now.cregs c.in_ok-cond.cond.creg.0 ≡ Some c.in_ok-reg.reg.now =
    ap (λ regs. slice_get regs c.in_ok-cond.cond.creg.0) (sym c.cregs.ensures.cregs) ∙ slice_get_read c.cregs.result.now (length c.cregs.result.now) c.in_ok-cond.cond.creg.0 c.in_ok-reg.reg.now refl c.in_ok-reg.ensures.lookup.3.0 c.in_ok-reg.ensures.lookup.1 in
    tested_at c.args.circuit.now c.args.op.now c.in_ok-cond.cond c.in_ok-reg.reg.now c.first_bit-from.result c.in_ok-cond.ensures at c.first_bit-from.ensures
