use Rattle.std.proofs.Common.{sym, subst}
use Rattle.solver_trail.specs.Trail.{Trail}
use Rattle.cdcl.specs.Searching.{IsAssumed}
use Rattle.cdcl.specs.Solver.{SolverState, IsSound}
use Rattle.cdcl.specs.Watching.{AreWatched, kept_of}
use Rattle.solver_trail.proofs.Trails.{value_open}
use Rattle.cdcl.proofs.Soundness.{sound_propagated, sound_decided}
use Rattle.cdcl.proofs.Models.{model_of}
use Rattle.cdcl.proofs.Descending.{assumed_propagated, chosen_assumed, denied}
use Rattle.cdcl.proofs.Guards.{short_at_base, watched_decided}
use Rattle.cdcl.proofs.solver.Solver.deepen.Goals as goal

pub propagate_all-requires-clause-short : goal.propagate_all-requires-clause-short
propagate_all-requires-clause-short g c = short_at_base c.self.inside.log c.self.inside.values (kept_of c.self.inside.watching) c.self.invariant.0 c.self.invariant.1.stored

pub invariant_of-self : goal.invariant_of-self
invariant_of-self g c = (sound_propagated c.self.inside.log c.self.inside.values c.propagate_all.new.values c.self.invariant.0 c.propagate_all.ensures.propagates, c.propagate_all.ensures.watched)

pub invariant_of-self-in-Denied : goal.invariant_of-self-in-Denied
invariant_of-self-in-Denied g c = (sound_propagated c.self.inside.log c.self.inside.values c.propagate_all.new.values c.self.invariant.0 c.propagate_all.ensures.propagates, c.propagate_all.ensures.watched)

pub invariant_of-self-in-Nothing : goal.invariant_of-self-in-Nothing
invariant_of-self-in-Nothing g c = (sound_propagated c.self.inside.log c.self.inside.values c.propagate_all.new.values c.self.invariant.0 c.propagate_all.ensures.propagates, c.propagate_all.ensures.watched)

pub assign-requires-clause-unassigned : goal.assign-requires-clause-unassigned
assign-requires-clause-unassigned g c = value_open c.propagate_all.new.values.entries c.in-Decided.literal.var c.in-Decided.ensures.0

pub invariant_of-self-in-Decided : goal.invariant_of-self-in-Decided
invariant_of-self-in-Decided g c =
    let log = c.self.inside.log in
    let mid = c.propagate_all.new.values in
    let literal = c.in-Decided.literal in
    let order = c.entries-order.ensures in
    let ends = c.in_default.ensures in
    let sound = sound_propagated log c.self.inside.values mid c.self.invariant.0 c.propagate_all.ensures.propagates in (
      subst (IsSound log) (sym c.assign.ensures) (sound_decided log mid literal sound order.order order.level ends.closed),
      subst (λ (t : Trail). AreWatched log t (kept_of c.propagate_all.new.watching)) (sym c.assign.ensures) (watched_decided log mid literal (kept_of c.propagate_all.new.watching) ends.done order.order order.level c.propagate_all.ensures.watched),
    )

pub returns-in-Some-clause-assumed : goal.returns-in-Some-clause-assumed
returns-in-Some-clause-assumed g c = assumed_propagated c.self.inside.log c.self.inside.values c.propagate_all.new.values c.args.assumption c.propagate_all.ensures.propagates (subst (λ (s : SolverState). IsAssumed c.args.assumption s.trail) (sym c.self.view_is) c.requires.assumed)

pub returns-in-Denied-clause-assumed : goal.returns-in-Denied-clause-assumed
returns-in-Denied-clause-assumed g c = assumed_propagated c.self.inside.log c.self.inside.values c.propagate_all.new.values c.args.assumption c.propagate_all.ensures.propagates (subst (λ (s : SolverState). IsAssumed c.args.assumption s.trail) (sym c.self.view_is) c.requires.assumed)

pub returns-in-Denied-clause-comes : goal.returns-in-Denied-clause-comes
returns-in-Denied-clause-comes g c =
    let mid = c.propagate_all.new.values in
    let assumed = assumed_propagated c.self.inside.log c.self.inside.values mid c.args.assumption c.propagate_all.ensures.propagates (subst (λ (s : SolverState). IsAssumed c.args.assumption s.trail) (sym c.self.view_is) c.requires.assumed) in
    denied mid c.args.assumption assumed c.entries-order.ensures.order c.in-Denied.ensures

pub returns-in-Nothing-clause-assumed : goal.returns-in-Nothing-clause-assumed
returns-in-Nothing-clause-assumed g c = assumed_propagated c.self.inside.log c.self.inside.values c.propagate_all.new.values c.args.assumption c.propagate_all.ensures.propagates (subst (λ (s : SolverState). IsAssumed c.args.assumption s.trail) (sym c.self.view_is) c.requires.assumed)

pub returns-in-Nothing-clause-comes : goal.returns-in-Nothing-clause-comes
returns-in-Nothing-clause-comes g c =
    let mid = c.propagate_all.new.values in
    let now : SolverState = record { log = c.self.inside.log; trail = mid; failed = c.self.inside.failed } in
    let sound = sound_propagated c.self.inside.log c.self.inside.values mid c.self.invariant.0 c.propagate_all.ensures.propagates in
    model_of now c.args.assumption sound c.entries-order.ensures.order c.in-Nothing.ensures.1 c.in_default.ensures.closed c.in-Nothing.ensures.0

pub returns-in-Decided-clause-assumed : goal.returns-in-Decided-clause-assumed
returns-in-Decided-clause-assumed g c =
    let mid = c.propagate_all.new.values in
    let assumed = assumed_propagated c.self.inside.log c.self.inside.values mid c.args.assumption c.propagate_all.ensures.propagates (subst (λ (s : SolverState). IsAssumed c.args.assumption s.trail) (sym c.self.view_is) c.requires.assumed) in
    let choice = c.in-Decided.ensures in
    subst (IsAssumed c.args.assumption) (sym c.assign.ensures) (chosen_assumed mid c.args.assumption c.in-Decided.literal assumed c.entries-order.ensures.order c.entries-order.ensures.level choice.0 choice.2)
