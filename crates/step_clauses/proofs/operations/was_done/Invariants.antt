use Rattle.std.proofs.Common.{◌≡◌, ◌++◌, drop, map}
use Rattle.step_vars.specs.Items.{so, act_item}
use Rattle.step_clauses.specs.Operations.{was_or_acts}
use Rattle.step_clauses.proofs.operations.was_done.Given as goal

abbrev pub invariant-loop-zone : goal.invariant-loop-zone
invariant-loop-zone l = l.claims.items ++ map (λ z. so (act_item l.op z l.times.time)) (drop l.zone-index l.zones) ≡ was_or_acts l.times.before l.times.time l.zones l.op
