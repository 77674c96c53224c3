use Rattle.std.proofs.Common.{◌≡◌, ◌==◌, drop}
use Rattle.std.specs.List.{list_any}
use Rattle.circuit_core.specs.Op.{qubits_of}
use Rattle.step_rules.specs.Placement.{ion_of}
use Rattle.clause_families.proofs.lists.carries.Given as goal

abbrev pub invariant-loop-index : goal.invariant-loop-index
invariant-loop-index l = list_any (λ qubit. l.ion == (ion_of l.placement qubit).0) (qubits_of l.op) ≡ list_any (λ qubit. l.ion == (ion_of l.placement qubit).0) (drop l.index (qubits_of l.op))
