use Rattle.std.proofs.Common.{◌≡◌, ℕ, ◌≤◌, ◌++◌, length, sym, ap, ◌∙◌, subst}
use Rattle.std.specs.Prelude.{min}
use Rattle.solver_trail.specs.Trail.{Trail, up_to}
use Rattle.cdcl.specs.Solver.{SolverState, IsSound}
use Rattle.cdcl.specs.Watching.{Kept, kept_of, AreWatched, with_done}
use Rattle.cdcl.proofs.Soundness.{sound_back}
use Rattle.cdcl.proofs.Guards.{watched_back}
use Rattle.cdcl.proofs.solver.Solver.backjump.Goals as goal

pub invariant_of-self : goal.invariant_of-self
invariant_of-self g c =
    let log = c.self.inside.log in
    let trail = c.self.inside.values in
    let kept = kept_of c.self.inside.watching in
    let (rest, front) = c.backjump.ensures.front in
    let low = subst (λ (s : SolverState). c.args.level ≤ s.trail.level) (sym c.self.view_is) c.requires in
    let before = c.entries-before.ensures in
    let count : length c.entries-order.result.now ≡ length (up_to c.args.level trail.entries) = ap length (c.entries-order.ensures.entries ∙ ap (λ (t : Trail). t.entries) c.backjump.ensures.trail) in
    let cut = c.cut.ensures ∙ ap (λ (n : ℕ). with_done kept (min kept.done n)) count in (
      subst (IsSound log) (sym c.backjump.ensures.trail)
          (sound_back log trail c.args.level rest c.self.invariant.0 low (front ∙ ap (λ (t : Trail). t.entries ++ rest) c.backjump.ensures.trail)),
      subst (λ (k : Kept). AreWatched log c.backjump.new.self k) (sym cut) (subst (λ (t : Trail). AreWatched log t (with_done kept (min kept.done (length (up_to c.args.level trail.entries))))) (sym c.backjump.ensures.trail)
          (watched_back log trail c.args.level kept low before.order before.level c.self.invariant.1)),
    )
