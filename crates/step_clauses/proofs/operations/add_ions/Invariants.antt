use Rattle.std.proofs.Common.{◌≡◌, ◌++◌, drop, map}
use Rattle.step_clauses.specs.Operations.{ion_in_zone}
use Rattle.step_clauses.proofs.operations.add_ions.Given as goal

abbrev pub invariant-loop-ion : goal.invariant-loop-ion
invariant-loop-ion l = l.out ++ map (ion_in_zone l.times.before l.times.time l.op l.zone) (drop l.ion-index l.ions) ≡ l.fn.out ++ map (ion_in_zone l.times.before l.times.time l.op l.zone) l.ions
