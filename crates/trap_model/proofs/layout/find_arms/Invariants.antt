use Rattle.std.proofs.Common.{◌≡◌, ◌++◌, drop}
use Rattle.std.specs.List.{filter_map}
use Rattle.trap_parts.specs.Parts.{lists}
use Rattle.trap_parts.specs.Joins.{arm_at}
use Rattle.trap_model.proofs.layout.find_arms.Given as goal

-- the arms so far, and the rest
abbrev pub invariant-loop-link : goal.invariant-loop-link
invariant-loop-link l = l.arms.items ++ filter_map (arm_at (lists l.parts) l.junction) (drop l.link-index l.links) ≡ filter_map (arm_at (lists l.parts) l.junction) l.links
