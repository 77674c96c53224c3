use Rattle.std.proofs.Common.{◌∙◌, ap, length}
use Rattle.circuit_core.proofs.Registers.{range_tested}
use Rattle.circuit_core.proofs.last_ops.LastOps.note.Goals as goal

pub note_on_bits-requires-2 : goal.note_on_bits-requires-2
note_on_bits-requires-2 c = range_tested c.args.circuit.now c.args.op.now (length c.deref_mut-3.result.now) c.tested.result c.requires.circuit (ap length c.deref_mut-3.ensures.value ∙ c.requires.tables.tested) c.tested.ensures
