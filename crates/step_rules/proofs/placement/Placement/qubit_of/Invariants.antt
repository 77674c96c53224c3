use Rattle.std.proofs.Common.{◌≡◌, ◌<◌, length, drop}
use Rattle.std.specs.Prelude.{slice_get}
use Rattle.step_rules.specs.Placement.{reading_order}
use Rattle.step_rules.proofs.placement.Placement.qubit_of.Given as goal

-- the qubit is still to come
abbrev pub invariant-loop-list : goal.invariant-loop-list
invariant-loop-list l =
    let rest = reading_order (drop l.list-index l.list-items) in
    record {
      there : l.before < length rest;
      same : slice_get rest l.before ≡ slice_get (reading_order l.fn.self) l.fn.ion.0;
    }
