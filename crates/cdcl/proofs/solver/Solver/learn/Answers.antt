use Rattle.std.proofs.Common.{◌≡◌, ℕ, ◌+◌, ◌≤◌, List, [], ◌∷◌, ◌++◌, Some, None, length, sym, ap, ◌∙◌, subst, arith}
use Rattle.sat_base.specs.Literal.{negated}
use Rattle.sat_base.specs.Fresh.{IsFreshOver}
use Rattle.sat_base.proofs.Clauses.{EachVariable-has}
use Rattle.derivation_log.specs.declared.line_id.LineId.{LineId}
use Rattle.derivation_log.specs.Log.{Derived, Lines, log_of, derived_id, clause_of}
use Rattle.cdcl.specs.Clauses.{clauses_in}
use Rattle.solver_trail.specs.declared.values.Assigned.{Assigned}
use Rattle.solver_trail.specs.Trail.{Trail, literals_of, up_to, value_in, assigned}
use Rattle.cdcl.specs.Searching.{IsAssumed}
use Rattle.cdcl.specs.Solver.{SolverState, IsSound}
use Rattle.solver_trail.proofs.Trails.{value_open}
use Rattle.std.specs.Prelude.{min}
use Rattle.cdcl.specs.Watching.{Kept, kept_of, AreWatched, with_slot, with_done}
use Rattle.cdcl.proofs.Adding.{can_watch, watched_prepared, watched_learnt, adds_derived, pair_same_literals, done_slot}
use Rattle.cdcl.proofs.Learning.{Found, asserted_open, learnt_fresh, sound_learnt, derived_same, added_clause, assumed_learnt}
use Rattle.cdcl.proofs.solver.Solver.learn.Goals as goal

pub prepare-requires : goal.prepare-requires
prepare-requires g c =
    let trail = c.self.inside.values in
    let vars = c.self.invariant.1.vars in
    can_watch c.conflict.new.self.clause (kept_of c.self.inside.watching).vars c.pair-watched.result
    (λ literal has.
    let h = EachVariable-has (λ var. (1 ≤ var) × (var ≤ trail.vars)) (literals_of trail.entries) (negated literal) c.entries-order.ensures.named (c.in_ok-asserted.ensures.resolvent.falsified literal has) in
    (h.0, omega (arith, h.1, vars)))
    c.pair-watched.ensures.pair

pub invariant_of-self-in_err-line : goal.invariant_of-self-in_err-line
invariant_of-self-in_err-line g c =
    let log = c.self.inside.log in
    let trail = c.self.inside.values in
    let kept = kept_of c.self.inside.watching in
    let same = c.in_err-line.ensures.err in (
      subst (λ (l : Lines). IsSound l trail) (sym same) c.self.invariant.0,
      subst (λ (l : Lines). AreWatched l trail (kept_of c.prepare.new.self)) (sym same)
          (subst (AreWatched log trail) (sym c.in_ok-prepare.ensures.ok) (watched_prepared log trail kept c.pair-watched.result c.self.invariant.1)),
    )

pub assign-requires-clause-within : goal.assign-requires-clause-within
assign-requires-clause-within g c =
    let trail = c.self.inside.values in
    let literal = c.in_ok-asserted.asserted in
    let h = EachVariable-has (λ var. (1 ≤ var) × (var ≤ trail.vars)) (literals_of trail.entries) (negated literal) c.entries-order.ensures.named
    (c.in_ok-asserted.ensures.resolvent.falsified literal c.in_ok-asserted.ensures.target.asserting.has) in
    subst (λ (n : ℕ). literal.var ≤ n) (sym (ap (λ (t : Trail). t.vars) c.backjump.ensures.trail)) h.1

pub assign-requires-clause-unassigned : goal.assign-requires-clause-unassigned
assign-requires-clause-unassigned g c =
    let trail = c.self.inside.values in
    let found : Found c.self.inside.log trail c.conflict.new.self.clause c.in_ok-asserted.asserted c.in_ok-asserted.target =
    record { sound = c.self.invariant.0; order = c.entries-order.ensures.order; last = c.entries-order.ensures.level; is = c.in_ok-asserted.ensures.target } in
    let free = asserted_open c.self.inside.log trail c.conflict.new.self.clause c.in_ok-asserted.asserted c.in_ok-asserted.target found in
    subst (λ (xs : List Assigned). value_in xs c.in_ok-asserted.asserted.var ≡ None) (sym (ap (λ (t : Trail). t.entries) c.backjump.ensures.trail))
    (value_open (up_to c.in_ok-asserted.target trail.entries) c.in_ok-asserted.asserted.var free)

pub invariant_of-self-2 : goal.invariant_of-self-2
invariant_of-self-2 g c =
    let log = c.self.inside.log in
    let trail = c.self.inside.values in
    let literal = c.in_ok-asserted.asserted in
    let target = c.in_ok-asserted.target in
    let clause = c.conflict.new.self.clause in
    let found : Found log trail clause literal target =
    record { sound = c.self.invariant.0; order = c.entries-order.ensures.order; last = c.entries-order.ensures.level; is = c.in_ok-asserted.ensures.target } in
    let adds = c.in_ok-line.ensures.added in
    let line : Derived = record { clause = adds.clause; hints = c.chain-lines.result.now } in
    let same = derived_same log c.conflict.new.self c.chain-lines.result.now adds.clause c.chain-lines.ensures c.in_ok-asserted.ensures.resolvent.resolve adds.resolve in
    let (rest, front) = c.backjump.ensures.front in
    let parts = front ∙ ap (λ (t : Trail). t.entries ++ rest) c.backjump.ensures.trail in
    let learnt = sound_learnt log trail clause line literal target rest found c.in_ok-asserted.ensures.resolvent.falsified same c.entries-order.ensures.named parts in
    let back : Trail = record trail { level = target; entries = up_to target trail.entries } in
    let now : c.assign.new.self ≡ assigned back literal (Some (derived_id (length log.derived + 1))) =
    c.assign.ensures ∙ ap (λ (t : Trail). assigned t literal (Some c.in_ok-line.line)) c.backjump.ensures.trail ∙ ap (λ (id : LineId). assigned back literal (Some id)) c.in_ok-line.ensures.line in
    let kept = kept_of c.self.inside.watching in
    let watched = c.pair-watched.result in
    let id = c.in_ok-line.line in
    let new = c.derive.new.self in
    let slot = with_slot kept watched (Some id) in
    let count : length c.entries-kept.result.now ≡ length (up_to target trail.entries) = ap length (c.entries-kept.ensures.entries ∙ ap (λ (t : Trail). t.entries) c.backjump.ensures.trail) in
    let committed : kept_of c.commit.new.self ≡ slot = c.commit.ensures kept c.in_ok-prepare.ensures.ok in
    let cut : kept_of c.cut.new.self ≡ with_done slot (min kept.done (length (up_to target trail.entries))) =
    c.cut.ensures ∙ ap (λ (k : Kept). with_done k (min k.done (length c.entries-kept.result.now))) committed
    ∙ ap (λ (n : ℕ). with_done slot (min n (length c.entries-kept.result.now))) (done_slot kept watched (Some id)) ∙ ap (λ (n : ℕ). with_done slot (min kept.done n)) count in
    let here : c.assign.new.self ≡ assigned back literal (Some id) = c.assign.ensures ∙ ap (λ (t : Trail). assigned t literal (Some id)) c.backjump.ensures.trail in
    let of = pair_same_literals clause adds.clause watched same c.pair-watched.ensures.pair in
    let kept_on = watched_learnt log new trail kept clause adds.clause literal target watched id found c.pair-watched.ensures.watches (adds_derived log new line id adds.added c.in_ok-line.ensures.line) of c.self.invariant.1 in (
      subst (λ (l : Lines). IsSound l c.assign.new.self) (sym adds.added) (subst (IsSound (log_of log.axioms (log.derived ++ line ∷ []))) (sym now) learnt),
      subst (AreWatched new c.assign.new.self) (sym cut) (subst (λ (t : Trail). AreWatched new t (with_done slot (min kept.done (length (up_to target trail.entries))))) (sym here) kept_on),
    )

pub returns-clause-fresh : goal.returns-clause-fresh
returns-clause-fresh g c =
    let log = c.self.inside.log in
    let trail = c.self.inside.values in
    let literal = c.in_ok-asserted.asserted in
    let target = c.in_ok-asserted.target in
    let clause = c.conflict.new.self.clause in
    let found : Found log trail clause literal target =
    record { sound = c.self.invariant.0; order = c.entries-order.ensures.order; last = c.entries-order.ensures.level; is = c.in_ok-asserted.ensures.target } in
    let adds = c.in_ok-line.ensures.added in
    let line : Derived = record { clause = adds.clause; hints = c.chain-lines.result.now } in
    let same = derived_same log c.conflict.new.self c.chain-lines.result.now adds.clause c.chain-lines.ensures c.in_ok-asserted.ensures.resolvent.resolve adds.resolve in
    let fresh = learnt_fresh log trail clause adds.clause literal target found same in
    let read = added_clause log c.derive.new.self line c.in_ok-line.line adds.added c.in_ok-line.ensures.line in
    subst (λ (s : SolverState). IsFreshOver (clauses_in s.log) (clause_of c.derive.new.self c.in_ok-line.line)) c.self.view_is
    (subst (IsFreshOver (clauses_in log)) (sym read) fresh)

pub returns-clause-assumed : goal.returns-clause-assumed
returns-clause-assumed g c = λ goal_literal assumed.
    let trail = c.self.inside.values in
    let literal = c.in_ok-asserted.asserted in
    let target = c.in_ok-asserted.target in
    let now = c.assign.ensures ∙ ap (λ (t : Trail). assigned t literal (Some c.in_ok-line.line)) c.backjump.ensures.trail in
    subst (IsAssumed goal_literal) (sym now)
    (assumed_learnt trail goal_literal literal target c.in_ok-line.line c.in_ok-asserted.ensures.target.below (subst (λ (s : SolverState). IsAssumed goal_literal s.trail) (sym c.self.view_is) assumed))
