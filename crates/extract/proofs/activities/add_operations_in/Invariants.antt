use Rattle.std.proofs.Common.{◌≡◌, ◌++◌, map, drop}
use Rattle.extract.specs.Reading.{seen, operations_in}
use Rattle.extract.proofs.activities.add_operations_in.Given as goal

abbrev pub invariant-loop-cell : goal.invariant-loop-cell
invariant-loop-cell l =
    map seen l.out.items ++ operations_in l.setting (drop l.cell-index l.ops) l.zone
    ≡ map seen l.fn.out.items ++ operations_in l.setting l.ops l.zone
