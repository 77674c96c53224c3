use Rattle.std.proofs.Common.{◌∙◌, ap, length}
use Rattle.circuit_core.proofs.Registers.{range_tested}
use Rattle.circuit_core.proofs.last_ops.LastOps.right_before.Goals as goal

pub push_on_bits-requires-2-clause-writing : goal.push_on_bits-requires-2-clause-writing
push_on_bits-requires-2-clause-writing c = range_tested c.args.circuit.now c.args.op.now (length c.deref-4.result.now) c.tested.result c.requires.circuit (ap length c.deref-4.ensures.value ∙ c.requires.tables.written) c.tested.ensures

pub push_on_bits-requires-2-clause-testing : goal.push_on_bits-requires-2-clause-testing
push_on_bits-requires-2-clause-testing c = range_tested c.args.circuit.now c.args.op.now (length c.deref-5.result.now) c.tested.result c.requires.circuit (ap length c.deref-5.ensures.value ∙ c.requires.tables.tested) c.tested.ensures
