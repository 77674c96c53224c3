use Rattle.std.proofs.Common.{◌≡◌, ◌+◌, ◌≤◌, drop}
use Rattle.std.specs.List.{AllByRecursion}
use Rattle.at_most.proofs.Emitted.{Emitted}
use Rattle.step_vars.specs.Encoding.{bounds_of, helper_count}
use Rattle.clause_families.specs.Encoded.{IsEncodedBound}
use Rattle.clause_families.proofs.emit.push_bounds.Given as goal

abbrev pub invariant-loop-it : goal.invariant-loop-it
invariant-loop-it l = record {
  emitted : Emitted l.fn.out l.out (bounds_of l.vars.numbering l.vars.encoding l.first l.bounds) (bounds_of l.vars.numbering l.vars.encoding l.next (drop l.it-index l.bounds));
  each : AllByRecursion (IsEncodedBound l.vars l.first) (drop l.it-index l.bounds);
  count : l.next + helper_count l.vars.encoding (drop l.it-index l.bounds) ≡ l.first + helper_count l.vars.encoding l.bounds;
  from : l.first ≤ l.next;
}
