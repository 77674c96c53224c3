use Rattle.std.proofs.Common.{subst}
use Rattle.circuit_core.specs.Order.{IsWire}
use Rattle.compact.specs.Levels.{AreRaised, WiresValue, wire_level}
use Rattle.compact.proofs.WireLevels.{wires_raised}
use Rattle.compact.proofs.wires.Wires.raise.Goals as goal

pub returns : goal.returns
returns c =
    subst (λ (v : WiresValue). AreRaised (IsWire c.args.circuit.now c.args.op.now) (wire_level v) (wire_level (record { qubits = c.raise_qubits.new.levels; bits = c.raise_bits-2.new.levels })) c.args.level) c.self.view_is
    (wires_raised c.args.circuit.now c.args.op.now c.self.inside.qubits c.raise_qubits.new.levels c.self.inside.bits c.raise_bits.new.levels c.raise_bits-2.new.levels c.written.result c.tested.result c.args.level c.written.ensures.bits c.tested.ensures.bits
    c.in_ok-raise_qubits.ensures c.in_ok-raise_bits.ensures c.in_ok-raise_bits-2.ensures)
