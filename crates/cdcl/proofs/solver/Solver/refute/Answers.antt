use Rattle.std.proofs.Common.{◌≤◌, None, take, sym, ap, ◌∙◌, subst}
use Rattle.derivation_log.specs.Log.{Derived, Lines, IsLine, clause_of}
use Rattle.solver_trail.specs.Trail.{literals_of}
use Rattle.cdcl.specs.Searching.{IsRest, HasOneLeft}
use Rattle.cdcl.specs.Solver.{SolverState, IsSound}
use Rattle.cdcl.specs.Watching.{kept_of, AreWatched}
use Rattle.cdcl.proofs.Learning.{resolved_start, same_named, derived_same, added_clause, what_is_left, sound_left}
use Rattle.cdcl.proofs.Adding.{watched_short, watched_prepared, adds_derived, rest_is_short}
use Rattle.cdcl.proofs.solver.Solver.refute.Goals as goal

pub reduce-requires-clause-resolved : goal.reduce-requires-clause-resolved
reduce-requires-clause-resolved g c =
    resolved_start c.self.inside.log (literals_of (take c.args.end c.self.inside.values.entries)) c.args.line c.start.new.self (subst (λ (s : SolverState). IsLine s.log c.args.line) (sym c.self.view_is) c.requires.is_line) c.in_ok-start.ensures.clause c.in_ok-start.ensures.chain

pub reduce-requires-clause-literals : goal.reduce-requires-clause-literals
reduce-requires-clause-literals g c = same_named (λ var. var ≤ c.self.inside.values.vars) c.self.inside.log c.args.line c.start.new.self.clause c.self.invariant.0.named c.in_ok-start.ensures.clause

pub invariant_of-self-in_err-new : goal.invariant_of-self-in_err-new
invariant_of-self-in_err-new g c =
    let log = c.self.inside.log in
    let trail = c.self.inside.values in
    let kept = kept_of c.self.inside.watching in
    let same = c.in_err-new.ensures.err in (
      subst (λ (l : Lines). IsSound l trail) (sym same) c.self.invariant.0,
      subst (λ (l : Lines). AreWatched l trail (kept_of c.prepare.new.self)) (sym same)
          (subst (AreWatched log trail) (sym c.in_ok-prepare.ensures.ok) (watched_prepared log trail kept None c.self.invariant.1)),
    )

pub invariant_of-self-2 : goal.invariant_of-self-2
invariant_of-self-2 g c =
    let log = c.self.inside.log in
    let trail = c.self.inside.values in
    let kept = kept_of c.self.inside.watching in
    let adds = c.in_ok-new.ensures.added in
    let line : Derived = record { clause = adds.clause; hints = c.chain.result.now } in
    let same = derived_same log c.reduce.new.self c.chain.result.now adds.clause c.chain.ensures c.in_ok-reduce.ensures.resolve adds.resolve in
    let base = ap (λ (s : SolverState). s.trail.level) c.self.view_is ∙ c.requires.level in
    let left = what_is_left log trail c.args.end c.start.new.self.clause (clause_of log c.args.line) adds.clause c.reduce.new.self c.entries-order.ensures.order c.entries-order.ensures.level base c.in_ok-start.ensures.clause c.in_ok-reduce.ensures same in
    let one = subst (λ (s : SolverState). HasOneLeft (literals_of (take c.args.end s.trail.entries)) (clause_of s.log c.args.line)) (sym c.self.view_is) c.requires.one in
    let short = rest_is_short (literals_of (take c.args.end trail.entries)) (clause_of log c.args.line) adds.clause one left in
    let new = c.derive.new.self in (
      subst (λ (l : Lines). IsSound l trail) (sym adds.added) (sound_left log trail c.args.line line (literals_of (take c.args.end trail.entries)) c.self.invariant.0 base left),
      subst (AreWatched new trail) (sym (c.commit.ensures kept c.in_ok-prepare.ensures.ok))
          (watched_short log new trail kept c.in_ok-new.new adds.clause (adds_derived log new line c.in_ok-new.new adds.added c.in_ok-new.ensures.line) short base c.self.invariant.1),
    )

pub returns-clause-left : goal.returns-clause-left
returns-clause-left g c =
    let log = c.self.inside.log in
    let trail = c.self.inside.values in
    let adds = c.in_ok-new.ensures.added in
    let line : Derived = record { clause = adds.clause; hints = c.chain.result.now } in
    let same = derived_same log c.reduce.new.self c.chain.result.now adds.clause c.chain.ensures c.in_ok-reduce.ensures.resolve adds.resolve in
    let base = ap (λ (s : SolverState). s.trail.level) c.self.view_is ∙ c.requires.level in
    let left = what_is_left log trail c.args.end c.start.new.self.clause (clause_of log c.args.line) adds.clause c.reduce.new.self c.entries-order.ensures.order c.entries-order.ensures.level base c.in_ok-start.ensures.clause c.in_ok-reduce.ensures same in
    let read = added_clause log c.derive.new.self line c.in_ok-new.new adds.added c.in_ok-new.ensures.line in
    subst (λ (s : SolverState). IsRest (literals_of (take c.args.end s.trail.entries)) (clause_of s.log c.args.line) (clause_of c.derive.new.self c.in_ok-new.new)) c.self.view_is
    (subst (IsRest (literals_of (take c.args.end trail.entries)) (clause_of log c.args.line)) (sym read) left)
