use Rattle.std.proofs.Common.{◌≡◌, drop}
use Rattle.gate_names.specs.Terms.{position_from, position_of}
use Rattle.gate_names.proofs.term.position.Given as goal

abbrev pub invariant-loop-k : goal.invariant-loop-k
invariant-loop-k l = position_from l.k (drop l.k l.names) l.name ≡ position_of l.names l.name
