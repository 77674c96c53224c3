use Rattle.std.proofs.Common.{◌≡◌, ◌<◌, ◌*◌, length, slice_get}
use Rattle.std.specs.Option.{IfSome}
use Rattle.watch_lists.specs.Watched.{IsAdded, list_of}
use Rattle.solver_tests.proofs.tests.watches.move_all.Given as goal

abbrev pub invariant-loop-next : goal.invariant-loop-next
invariant-loop-next l = (l.next ≡ slice_get (list_of l.watches l.lit) 0) × IfSome l.next (λ link. link < 2 * l.watches.clauses) × IsAdded l.watches l.lit × IsAdded l.watches l.to × (l.watches.vars ≡ l.fn.watches.vars)

abbrev pub decreases-loop-next : goal.decreases-loop-next
decreases-loop-next l = length (list_of l.watches l.lit)
