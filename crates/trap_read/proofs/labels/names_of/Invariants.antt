use Rattle.std.proofs.Common.{take}
use Rattle.trap_read.specs.Labels.{AreNamesOf}
use Rattle.trap_read.proofs.labels.names_of.Given as goal

abbrev pub invariant-loop-zone : goal.invariant-loop-zone
invariant-loop-zone l = AreNamesOf (take l.zone-index l.zones) l.names
