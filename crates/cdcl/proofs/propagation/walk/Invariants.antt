use Rattle.watch_lists.specs.Watched.{IsAdded, list_of}
use Rattle.cdcl.specs.Solver.{Propagates}
use Rattle.solver_trail.specs.Trail.{literals_of}
use Rattle.cdcl.specs.Watching.{AreWatched, MovesLinks, kept_of}
use Rattle.cdcl.proofs.Stepping.{Walked, left}
use Rattle.cdcl.proofs.propagation.walk.Given as goal

abbrev pub invariant-loop-next : goal.invariant-loop-next
invariant-loop-next l = record {
  propagates : Propagates l.log l.fn.values l.values;
  watched : AreWatched l.log l.values (kept_of l.watching);
  rest : MovesLinks l.fn.watching l.watching;
  added : IsAdded l.watching.linked.watched l.falsified;
  walked : Walked (kept_of l.watching) (list_of l.watching.linked.watched l.falsified) (literals_of l.values.entries) l.falsified l.before l.next;
}

abbrev pub decreases-loop-next : goal.decreases-loop-next
decreases-loop-next l = left (list_of l.watching.linked.watched l.falsified) l.next
