use Rattle.std.proofs.Common.{◌≡◌, ◌-◌, ◌++◌}
use Rattle.load_setup.specs.Setup.{gates_from}
use Rattle.load_setup.proofs.circuit.gates.Given as goal

abbrev pub invariant-loop-made : goal.invariant-loop-made
invariant-loop-made l = l.ops.items ++ gates_from (l.count - l.made) l.words ≡ gates_from l.count l.seed
