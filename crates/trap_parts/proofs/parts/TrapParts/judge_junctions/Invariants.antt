use Rattle.std.proofs.Common.{◌≡◌, drop}
use Rattle.trap_parts.specs.Build.{are_armed}
use Rattle.trap_parts.proofs.parts.TrapParts.judge_junctions.Given as goal

-- the junctions before pass
abbrev pub invariant-loop-k : goal.invariant-loop-k
invariant-loop-k l = are_armed l.links l.k (drop l.k l.self.junctions.items) ≡ are_armed l.links 0 l.self.junctions.items
