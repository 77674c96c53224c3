use Rattle.std.proofs.Common.{◌≡◌, ◌-◌}
use Rattle.cdcl.specs.Solver.{Propagates}
use Rattle.cdcl.specs.Watching.{AreWatched, kept_of}
use Rattle.cdcl.proofs.propagation.propagate_rest.Given as goal

abbrev pub invariant-loop-watching : goal.invariant-loop-watching
invariant-loop-watching l = record {
  propagates : Propagates l.log l.fn.values l.values;
  watched : AreWatched l.log l.values (kept_of l.watching);
  short : l.watching.short ≡ l.fn.watching.short;
}

abbrev pub decreases-loop-watching : goal.decreases-loop-watching
decreases-loop-watching l = l.values.vars - l.watching.done
