use Rattle.std.proofs.Common.{◌+◌, sym, subst, arith}
use Rattle.solver_trail.specs.Trail.{Trail}
use Rattle.cdcl.specs.Solver.{IsSound}
use Rattle.cdcl.specs.Watching.{AreWatched, kept_of}
use Rattle.cdcl.proofs.Soundness.{sound_vars}
use Rattle.cdcl.proofs.Guards.{watched_vars}
use Rattle.cdcl.proofs.solver.Solver.add_vars.Goals as goal

pub invariant_of-self-in_err-grow-2 : goal.invariant_of-self-in_err-grow-2
invariant_of-self-in_err-grow-2 g c =
    let trail = c.self.inside.values in
    let kept = kept_of c.self.inside.watching in
    let now = kept_of c.grow-2.new.self in
    let more = c.in_err-grow-2.ensures.more in
    let had = c.self.invariant.1.vars in
    (c.self.invariant.0, watched_vars c.self.inside.log trail trail.vars kept now (omega arith) c.in_err-grow-2.ensures.rest c.self.invariant.1)

pub invariant_of-self-in_err-add_vars : goal.invariant_of-self-in_err-add_vars
invariant_of-self-in_err-add_vars g c =
    let trail = c.self.inside.values in
    let kept = kept_of c.self.inside.watching in
    let now = kept_of c.grow-2.new.self in
    let more = c.in_ok-grow-2.ensures.more in
    let had = c.self.invariant.1.vars in
    let same = c.in_err-add_vars.ensures.err in (
      subst (IsSound c.self.inside.log) (sym same) c.self.invariant.0,
      subst (λ (t : Trail). AreWatched c.self.inside.log t now) (sym same) (watched_vars c.self.inside.log trail trail.vars kept now (omega arith) c.in_ok-grow-2.ensures.rest c.self.invariant.1),
    )

pub invariant_of-self-2 : goal.invariant_of-self-2
invariant_of-self-2 g c =
    let trail = c.self.inside.values in
    let kept = kept_of c.self.inside.watching in
    let now = kept_of c.grow-2.new.self in
    let grown = c.in_ok-grow-2.ensures.grown in
    let vars = c.vars.ensures.vars in
    let same = c.in_ok-add_vars.ensures.ok in (
      subst (IsSound c.self.inside.log) (sym same) (sound_vars c.self.inside.log trail c.args.n c.self.invariant.0),
      subst (λ (t : Trail). AreWatched c.self.inside.log t now) (sym same) (watched_vars c.self.inside.log trail (trail.vars + c.args.n) kept now (omega arith) c.in_ok-grow-2.ensures.rest c.self.invariant.1),
    )
