use Rattle.std.proofs.Common.{◌≡◌, ◌+◌, ◌≤◌, ◌++◌, length, drop}
use Rattle.ion_chain.specs.ChainValue.{ions_of, room_of}
use Rattle.step_rules.specs.Placement.{ions_from}
use Rattle.step_rules.proofs.config.chain_of.Given as goal

-- what was made and what is still to be made are the whole
abbrev pub invariant-loop-k : goal.invariant-loop-k
invariant-loop-k l = record {
  made : ions_of l.chain ++ ions_from (l.first + l.k) (drop l.k l.qubits) ≡ ions_from l.first l.qubits;
  count : length (ions_of l.chain) ≡ l.k;
  room : l.room ≤ room_of l.chain;
}
