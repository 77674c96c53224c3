use Rattle.std.proofs.Common.{[], sym, ◌∙◌}
use Rattle.circuit_core.specs.Op.{qubits_of}
use Rattle.circuit_core.specs.Deciding.{have_common, share_bit}
use Rattle.circuit_core.specs.QubitSet.{AreFlags}
use Rattle.circuit_core.proofs.Wires.{or_first, or_second}
use Rattle.circuit_core.proofs.order.share_wire.Goals as goal

pub returns-then-meets : goal.returns-then-meets
returns-then-meets c =
    let are : AreFlags c.add.new.self (qubits_of c.args.first.now) = c.add.ensures [] c.empty-set.ensures in
    or_first (have_common (qubits_of c.args.first.now) (qubits_of c.args.second.now)) (share_bit c.args.circuit.now c.args.first.now c.args.second.now) c.meets.result c.if-meets.true (sym (c.meets.ensures _ are) ∙ c.if-meets.true)

pub returns-else-meets : goal.returns-else-meets
returns-else-meets c =
    let are : AreFlags c.add.new.self (qubits_of c.args.first.now) = c.add.ensures [] c.empty-set.ensures in
    or_second (have_common (qubits_of c.args.first.now) (qubits_of c.args.second.now)) (share_bit c.args.circuit.now c.args.first.now c.args.second.now) c.share_bit.result c.share_bit.ensures (sym (c.meets.ensures _ are) ∙ c.if-meets.false)
