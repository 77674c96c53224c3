use Rattle.std.proofs.Common.{◌≡◌, ◌+◌, drop, []}
use Rattle.trap_parts.specs.Parts.{lists}
use Rattle.trap_parts.specs.Build.{joins_from}
use Rattle.trap_parts.proofs.parts.TrapParts.links.Given as goal

-- the joins so far, and the rest after them
abbrev pub invariant-loop-k : goal.invariant-loop-k
invariant-loop-k l = joins_from (lists l.self) (l.k + 1) l.links.items (drop l.k l.self.joins.items) ≡ joins_from (lists l.self) 1 [] l.self.joins.items
