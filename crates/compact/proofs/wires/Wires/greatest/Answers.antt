use Rattle.std.proofs.Common.{◌≡◌, max, subst, arith}
use Rattle.circuit_core.specs.Order.{IsWire}
use Rattle.compact.specs.Levels.{IsGreatest, WiresValue, wire_level}
use Rattle.compact.proofs.WireLevels.{greatest_wires}
use Rattle.compact.proofs.wires.Wires.greatest.Goals as goal

pub returns : goal.returns
returns c =
    let levels : WiresValue = record { qubits = c.self.inside.qubits; bits = c.self.inside.bits } in
    let all : c.max-2.result ≡ max (max c.greatest_of_qubits-qubits.result c.greatest_of_bits-written.result) c.greatest_of_bits-tested.result = omega arith in
    subst (λ (v : WiresValue). IsGreatest (IsWire c.args.circuit.now c.args.op.now) (wire_level v) c.max-2.result) c.self.view_is
    (greatest_wires c.args.circuit.now c.args.op.now levels c.written.result c.tested.result c.greatest_of_qubits-qubits.result c.greatest_of_bits-written.result c.greatest_of_bits-tested.result c.max-2.result c.written.ensures.bits c.tested.ensures.bits
    c.greatest_of_qubits-qubits.ensures c.greatest_of_bits-written.ensures c.greatest_of_bits-tested.ensures all)
