use Rattle.std.proofs.Common.{◌≡◌, ℕ, ◌≤◌, ◌++◌, sym, ap, ◌∙◌, subst, arith}
use Rattle.sat_base.specs.Clauses.{EachVariable}
use Rattle.sat_base.proofs.Clauses.{EachVariable-has}
use Rattle.derivation_log.specs.Log.{Lines}
use Rattle.solver_trail.specs.Trail.{Trail}
use Rattle.cdcl.specs.Solver.{SolverState, IsSound}
use Rattle.cdcl.specs.Watching.{Kept, kept_of, AreWatched, with_done}
use Rattle.cdcl.proofs.Soundness.{sound_back, sound_axiom}
use Rattle.cdcl.proofs.Adding.{watched_prepared, watched_at_base, adds_axiom, can_watch}
use Rattle.cdcl.proofs.solver.Solver.add_clause.Goals as goal

pub prepare-requires : goal.prepare-requires
prepare-requires g c =
    let lits = c.args.lits.now in
    let vars = c.self.invariant.1.vars in
    let view = ap (λ (s : SolverState). s.trail.vars) c.self.view_is in
    can_watch lits (kept_of c.self.inside.watching).vars c.first_pair-watched.result
    (λ literal has.
    let low = EachVariable-has (λ var. 1 ≤ var) lits literal c.count_from_1.ensures has in
    let high = EachVariable-has (λ var. var ≤ c.args.self.now.trail.vars) lits literal c.requires.named has in
    (low, omega arith))
    c.first_pair-watched.ensures

pub invariant_of-self-in_err-line : goal.invariant_of-self-in_err-line
invariant_of-self-in_err-line g c =
    let log = c.self.inside.log in
    let trail = c.self.inside.values in
    let kept = kept_of c.self.inside.watching in
    let same = c.in_err-line.ensures.err in (
      subst (λ (l : Lines). IsSound l trail) (sym same) c.self.invariant.0,
      subst (λ (l : Lines). AreWatched l trail (kept_of c.prepare.new.self)) (sym same)
          (subst (AreWatched log trail) (sym c.in_ok-prepare.ensures.ok) (watched_prepared log trail kept c.first_pair-watched.result c.self.invariant.1)),
    )

pub invariant_of-self-2 : goal.invariant_of-self-2
invariant_of-self-2 g c =
    let trail = c.self.inside.values in
    let log = c.self.inside.log in
    let (rest, front) = c.backjump.ensures.front in
    let now = c.backjump.new.self in
    let back = subst (IsSound log) (sym c.backjump.ensures.trail)
    (sound_back log trail 0 rest c.self.invariant.0 (omega arith) (front ∙ ap (λ (t : Trail). t.entries ++ rest) c.backjump.ensures.trail)) in
    let base : now.level ≡ 0 = ap (λ (t : Trail). t.level) c.backjump.ensures.trail in
    let same : now.vars ≡ trail.vars = ap (λ (t : Trail). t.vars) c.backjump.ensures.trail in
    let vars : c.args.self.now.trail.vars ≡ now.vars = sym (ap (λ (s : SolverState). s.trail.vars) c.self.view_is) ∙ sym same in
    let new = c.axiom.new.self in
    let kept = kept_of c.self.inside.watching in
    let committed = c.commit.ensures kept c.in_ok-prepare.ensures.ok in
    let restarted = c.restart.ensures ∙ ap (λ (k : Kept). with_done k 0) committed in (
      subst (λ (l : Lines). IsSound l now) (sym c.in_ok-line.ensures.added)
          (sound_axiom log now c.args.lits.now back base (subst (λ (n : ℕ). EachVariable (λ var. var ≤ n) c.args.lits.now) vars c.requires.named) c.count_from_1.ensures),
      subst (AreWatched new now) (sym restarted)
          (watched_at_base log new trail now kept c.first_pair-watched.result c.in_ok-line.line c.args.lits.now (adds_axiom log new c.args.lits.now c.in_ok-line.line c.in_ok-line.ensures.added c.in_ok-line.ensures.line) c.first_pair-watched.ensures base same c.self.invariant.1),
    )
