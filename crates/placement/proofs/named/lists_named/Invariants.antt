use Rattle.std.proofs.Common.{◌≡◌, drop}
use Rattle.placement.specs.Named.{lists_named}
use Rattle.placement.proofs.Labels.{with_front}
use Rattle.placement.proofs.named.lists_named.Given as goal

abbrev pub invariant-loop-zone : goal.invariant-loop-zone
invariant-loop-zone l = with_front l.lists.items (lists_named l.circuit l.zone (drop l.zone l.table)) ≡ lists_named l.circuit 0 l.table
