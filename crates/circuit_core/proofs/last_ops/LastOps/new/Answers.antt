use Rattle.std.proofs.Common.{◌∙◌, ap}
use Rattle.std.proofs.Math.ListN.{replicate}
use Rattle.circuit_core.specs.declared.last_ops.LastOps.{LastOps}
use Rattle.circuit_core.proofs.Noted.{no_op, no_tables}
use Rattle.circuit_core.proofs.last_ops.LastOps.new.Goals as goal

pub returns : goal.returns
returns c =
    let last : LastOps = record { on_qubit = c.in_ok-empty_table.field-0; writing = c.in_ok-empty_table-2.field-0; testing = c.in_ok-empty_table-3.field-0 } in
    no_tables c.args.circuit.now last
    (c.in_ok-empty_table.ensures ∙ ap (λ n. replicate n no_op) c.qubits.ensures)
    (c.in_ok-empty_table-2.ensures ∙ ap (λ n. replicate n no_op) c.bits-bits.ensures)
    (c.in_ok-empty_table-3.ensures ∙ ap (λ n. replicate n no_op) c.bits-bits.ensures)
