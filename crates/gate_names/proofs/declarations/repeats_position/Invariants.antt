use Rattle.std.proofs.Common.{◌≡◌, drop}
use Rattle.gate_names.specs.Declarations.{repeats_position}
use Rattle.gate_names.proofs.declarations.repeats_position.Given as goal

abbrev pub invariant-loop-i : goal.invariant-loop-i
invariant-loop-i l = repeats_position (drop l.i l.positions) ≡ repeats_position l.positions
