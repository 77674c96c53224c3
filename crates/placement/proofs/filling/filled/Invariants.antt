use Rattle.std.proofs.Common.{◌≡◌, ◌++◌, drop}
use Rattle.placement.specs.Filling.{filled}
use Rattle.placement.proofs.filling.filled.Given as goal

-- the lists so far, and those of the other zones from what is left
abbrev pub invariant-loop-zone : goal.invariant-loop-zone
invariant-loop-zone l = l.lists.items ++ filled (drop l.zone-index l.zones) l.rest ≡ filled l.zones l.fn.qubits
