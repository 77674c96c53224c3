use Rattle.std.proofs.Common.{◌≡◌, [], ◌∷◌, ◌++◌, take}
use Rattle.extract.proofs.schedule.add_step.Given as goal

abbrev pub invariant-loop-action : goal.invariant-loop-action
invariant-loop-action l = l.schedule ≡ l.fn.schedule ++ take l.action-index l.actions ∷ []
