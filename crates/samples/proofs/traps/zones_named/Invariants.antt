use Rattle.std.proofs.Common.{ℕ, ◌<◌, get_or, IsTrue}
use Rattle.trap_parts.specs.Names.{is_name}
use Rattle.trap_parts.specs.declared.parts.ZonePart.{ZonePart}
use Rattle.samples.proofs.traps.zones_named.Given as goal

-- the names before have the form
abbrev pub invariant-loop-zone : goal.invariant-loop-zone
invariant-loop-zone l =
    (k : ℕ) (d : ZonePart) → k < l.zone-index → IsTrue (is_name (get_or l.zones k d).name)
