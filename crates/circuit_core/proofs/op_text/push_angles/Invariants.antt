use Rattle.std.proofs.Common.{◌≡◌, ◌++◌, drop}
use Rattle.std.specs.Prelude.{map}
use Rattle.circuit_core.specs.Angle.{text_of}
use Rattle.circuit_core.specs.OpText.{with_commas}
use Rattle.circuit_core.proofs.Commas.{commas_from}
use Rattle.circuit_core.proofs.op_text.push_angles.Given as goal

abbrev pub invariant-loop-index : goal.invariant-loop-index
invariant-loop-index l = l.out.items ++ commas_from l.index (map text_of (drop l.index l.angles)) ≡ l.fn.out.items ++ with_commas (map text_of l.angles)
