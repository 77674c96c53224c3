use Rattle.std.proofs.Common.{◌≡◌, drop}
use Rattle.std.specs.List.{list_all}
use Rattle.circuit_core.specs.Op.{qubits_of}
use Rattle.step_rules.specs.Guards.{is_among}
use Rattle.step_rules.proofs.rules.are_all_among.Given as goal

abbrev pub invariant-loop-index : goal.invariant-loop-index
invariant-loop-index l =
    list_all (is_among l.placement l.ions) (drop l.index (qubits_of l.op)) ≡ list_all (is_among l.placement l.ions) (qubits_of l.op)
