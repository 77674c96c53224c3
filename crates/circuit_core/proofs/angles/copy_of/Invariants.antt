use Rattle.std.proofs.Common.{◌≡◌, take}
use Rattle.circuit_core.proofs.angles.copy_of.Given as goal

abbrev pub invariant-loop-angle : goal.invariant-loop-angle
invariant-loop-angle l = l.items.items ≡ take l.angle-index l.angles
