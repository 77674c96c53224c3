use Rattle.std.proofs.Common.{◌≡◌, drop}
use Rattle.gate_names.specs.Causes.{each, after}
use Rattle.gate_expand.specs.Arguments.{qubits_of}
use Rattle.gate_expand.proofs.checks.all_qubits_of.Given as goal

abbrev pub invariant-loop-arg : goal.invariant-loop-arg
invariant-loop-arg l = after l.all.items (each (qubits_of l.table) (drop l.arg-index l.args)) ≡ each (qubits_of l.table) l.args
