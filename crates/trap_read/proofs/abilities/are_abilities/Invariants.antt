use Rattle.std.proofs.Common.{◌≡◌, drop}
use Rattle.trap_read.specs.Keys.{are_abilities}
use Rattle.trap_read.proofs.abilities.are_abilities.Given as goal

abbrev pub invariant-loop-k : goal.invariant-loop-k
invariant-loop-k l = are_abilities (drop l.k l.words) ≡ are_abilities l.words
