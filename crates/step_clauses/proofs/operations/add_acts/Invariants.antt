use Rattle.std.proofs.Common.{◌≡◌, ◌++◌, drop}
use Rattle.std.specs.List.{flat_map}
use Rattle.step_vars.specs.Families.{act_does}
use Rattle.step_clauses.proofs.operations.add_acts.Given as goal

abbrev pub invariant-loop-it : goal.invariant-loop-it
invariant-loop-it l = l.out ++ flat_map (act_does l.times.before l.times.time) (drop l.it-index l.acts) ≡ l.fn.out ++ flat_map (act_does l.times.before l.times.time) l.acts
