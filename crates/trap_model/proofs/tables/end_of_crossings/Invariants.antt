use Rattle.std.proofs.Common.{◌≡◌, ◌≤◌, drop, length, false}
use Rattle.std.specs.List.{list_any}
use Rattle.trap_model.specs.Channels.{is_through}
use Rattle.trap_model.proofs.tables.end_of_crossings.Given as goal

-- none of the channels from there on is one
abbrev pub invariant-loop-end : goal.invariant-loop-end
invariant-loop-end l = record {
  within : l.«end» ≤ length l.channels;
  none : list_any (is_through l.junction) (drop l.«end» l.channels) ≡ false;
}

abbrev pub decreases-loop-end : goal.decreases-loop-end
decreases-loop-end l = l.«end»
