use Rattle.std.proofs.Common.{[], sym, ◌∙◌}
use Rattle.circuit_core.specs.Op.{qubits_of}
use Rattle.circuit_core.specs.Deciding.{have_common, reached, share_bit}
use Rattle.circuit_core.specs.QubitSet.{AreFlags}
use Rattle.circuit_core.proofs.Wires.{or_second}
use Rattle.circuit_core.proofs.order.comes_first.Goals as goal

pub returns-else-share_bit : goal.returns-else-share_bit
returns-else-share_bit c =
    let are : AreFlags c.add.new.self (qubits_of c.args.first.now) = c.add.ensures [] c.empty-set.ensures in
    let reach : AreFlags c.reach.new.self (reached (qubits_of c.args.first.now) c.args.middle.now) = c.reach.ensures (qubits_of c.args.first.now) are in
    or_second (share_bit c.args.circuit.now c.args.first.now c.args.second.now) (have_common (reached (qubits_of c.args.first.now) c.args.middle.now) (qubits_of c.args.second.now)) c.meets.result (c.meets.ensures _ reach) (sym c.share_bit.ensures ∙ c.if-share_bit.false)
