use Rattle.std.proofs.Common.{ℕ, ◌<◌, List, get_or, IsTrue}
use Rattle.trap_parts.specs.Names.{is_name}
use Rattle.samples.proofs.traps.junctions_named.Given as goal

-- the names before have the form
abbrev pub invariant-loop-junction : goal.invariant-loop-junction
invariant-loop-junction l =
    (k : ℕ) (d : List ℕ) → k < l.junction-index → IsTrue (is_name (get_or l.junctions k d))
