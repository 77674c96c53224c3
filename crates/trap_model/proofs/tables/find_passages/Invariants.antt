use Rattle.trap_model.specs.Tables.{ArePassages}
use Rattle.trap_model.proofs.tables.find_passages.Given as goal

-- the passages of the junctions below
abbrev pub invariant-loop-junction : goal.invariant-loop-junction
invariant-loop-junction l = ArePassages l.channels l.junction l.passages.items
