use Rattle.std.proofs.Common.{◌≡◌, take, drop, []}
use Rattle.trap_parts.specs.Parts.{lists, names_of}
use Rattle.trap_parts.specs.Build.{first_double}
use Rattle.trap_parts.proofs.parts.TrapParts.first_double.Given as goal

-- the first double among the names that are left, after those before
abbrev pub invariant-loop-k : goal.invariant-loop-k
invariant-loop-k l = first_double (take l.k (names_of (lists l.self))) (drop l.k (names_of (lists l.self))) ≡ first_double [] (names_of (lists l.self))
