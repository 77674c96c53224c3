use Rattle.std.proofs.Common.{take}
use Rattle.std.specs.Prelude.{All}
use Rattle.step_rules.specs.declared.action.Action.{Action}
use Rattle.compact.specs.Orders.{Precedes}
use Rattle.schedule_tests.proofs.tests.tight.none_before.Given as goal

abbrev pub invariant-loop-action : goal.invariant-loop-action
invariant-loop-action l = All (λ (action : Action). Precedes l.circuit l.op.0 action → ⊥) (take l.action-index l.rest)
