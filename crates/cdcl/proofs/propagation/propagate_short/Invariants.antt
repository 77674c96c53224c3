use Rattle.std.proofs.Common.{take}
use Rattle.cdcl.specs.Solver.{Propagates}
use Rattle.solver_trail.specs.Trail.{literals_of}
use Rattle.cdcl.specs.Watching.{ShortAreTrue}
use Rattle.cdcl.proofs.propagation.propagate_short.Given as goal

abbrev pub invariant-loop-slot : goal.invariant-loop-slot
invariant-loop-slot l = record {
  propagates : Propagates l.log l.fn.values l.values;
  so_far : ShortAreTrue (literals_of l.values.entries) l.log (take l.slot-index l.short);
}
