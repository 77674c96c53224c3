use Rattle.std.proofs.Common.{◌≡◌, drop}
use Rattle.trap_parts.specs.Build.{hold_ions}
use Rattle.trap_parts.proofs.parts.TrapParts.judge_zones.Given as goal

-- the zones before pass
abbrev pub invariant-loop-zone : goal.invariant-loop-zone
invariant-loop-zone l = hold_ions (drop l.zone-index l.self.zones.items) ≡ hold_ions l.self.zones.items
