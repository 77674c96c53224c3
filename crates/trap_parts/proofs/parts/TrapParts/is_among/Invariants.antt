use Rattle.std.proofs.Common.{◌≡◌, take, false}
use Rattle.std.specs.List.{list_any}
use Rattle.std.specs.Str.{bytes_eq}
use Rattle.trap_parts.specs.Parts.{lists, names_of}
use Rattle.trap_parts.proofs.parts.TrapParts.is_among.Given as goal

-- none of the names before is it
abbrev pub invariant-loop-k : goal.invariant-loop-k
invariant-loop-k l = list_any (bytes_eq l.name) (take l.k (names_of (lists l.self))) ≡ false
