use Rattle.std.proofs.Common.{◌≤◌, List, length, take, sym, ap, subst}
use Rattle.solver_trail.specs.declared.values.Assigned.{Assigned}
use Rattle.solver_trail.specs.Trail.{literals_of}
use Rattle.cdcl.specs.Learning.{HasNoTrue}
use Rattle.cdcl.proofs.Walking.{order_consistent}
use Rattle.cdcl.proofs.Learning.{resolved_start, false_none_true, same_named, take_whole, asserting_left}
use Rattle.cdcl.proofs.analysis.Analysis.conflict.Goals as goal

pub reduce-requires-clause-resolved : goal.reduce-requires-clause-resolved
reduce-requires-clause-resolved c = resolved_start c.args.log.now (literals_of (take (length c.entries-end.result.now) c.args.values.now.entries)) c.args.falsified c.start.new.self c.requires.is_line c.in_ok-start.ensures.clause c.in_ok-start.ensures.chain

pub reduce-requires-clause-none_true : goal.reduce-requires-clause-none_true
reduce-requires-clause-none_true c =
    let entries = c.args.values.now.entries in
    let whole = take_whole (length c.entries-end.result.now) entries (ap length (sym c.entries-end.ensures.entries)) in
    subst (λ (xs : List Assigned). HasNoTrue (literals_of xs) c.start.new.self.clause) (sym whole)
    (false_none_true (literals_of entries) c.start.new.self.clause (order_consistent _ entries c.entries-end.ensures.order)
    (λ literal has. c.requires.falsified literal (c.in_ok-start.ensures.clause.0 literal has)))

pub reduce-requires-clause-literals : goal.reduce-requires-clause-literals
reduce-requires-clause-literals c = same_named (λ var. var ≤ c.args.values.now.vars) c.args.log.now c.args.falsified c.start.new.self.clause c.requires.sound.named c.in_ok-start.ensures.clause

pub target-requires-clause-asserting : goal.target-requires-clause-asserting
target-requires-clause-asserting c =
    let trail = c.args.values.now in
    let whole = take_whole (length c.entries-end.result.now) trail.entries (ap length (sym c.entries-end.ensures.entries)) in
    asserting_left c.args.log.now trail c.args.falsified (take (length c.entries-end.result.now) trail.entries) c.start.new.self.clause c.reduce.new.self c.requires.sound c.entries-end.ensures.order c.entries-end.ensures.level c.requires.level c.requires.is_line c.requires.falsified
    c.in_ok-start.ensures.clause whole c.in_ok-reduce.ensures
