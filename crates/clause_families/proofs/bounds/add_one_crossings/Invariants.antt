use Rattle.std.proofs.Common.{◌≡◌, ◌++◌, drop, map}
use Rattle.clause_families.specs.Bounds.{crossed}
use Rattle.clause_families.proofs.bounds.add_one_crossings.Given as goal

abbrev pub invariant-loop-junction : goal.invariant-loop-junction
invariant-loop-junction l = l.out.items ++ map (crossed l.time l.channels) (drop l.junction-index l.junctions) ≡ l.fn.out.items ++ map (crossed l.time l.channels) l.junctions
