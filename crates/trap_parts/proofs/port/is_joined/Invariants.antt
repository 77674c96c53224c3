use Rattle.std.proofs.Common.{◌≡◌, drop}
use Rattle.std.specs.List.{list_any, flat_map}
use Rattle.trap_parts.specs.Joins.{ends_of}
use Rattle.trap_parts.specs.Build.{same_port}
use Rattle.trap_parts.proofs.port.is_joined.Given as goal

-- none of the joins before takes it
abbrev pub invariant-loop-link : goal.invariant-loop-link
invariant-loop-link l = list_any (same_port l.«end») (flat_map ends_of (drop l.link-index l.links)) ≡ list_any (same_port l.«end») (flat_map ends_of l.links)
