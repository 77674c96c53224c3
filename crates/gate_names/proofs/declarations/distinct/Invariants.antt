use Rattle.std.proofs.Common.{◌≡◌, [], fold, drop}
use Rattle.gate_names.specs.Declarations.{with_position}
use Rattle.gate_names.proofs.declarations.distinct.Given as goal

abbrev pub invariant-loop-k : goal.invariant-loop-k
invariant-loop-k l = fold with_position l.distinct.items (drop l.k-index l.positions) ≡ fold with_position [] l.positions
