use Rattle.std.proofs.lemmas.List.Elements.{All-contains}
use Rattle.circuit_core.specs.Circuit.{IsOpOf}
use Rattle.circuit_core.proofs.Lines.{op_line}
use Rattle.circuit_core.proofs.laws.operations_are_lines.Goals as goal

pub returns : goal.returns
returns c = λ circuit op is among. op_line circuit op is (All-contains (IsOpOf circuit) circuit.ops op is.ops among)
