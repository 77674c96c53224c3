use Rattle.std.proofs.Common.{◌≡◌, ◌≢◌, ℕ, ◌+◌, List, [], ◌∷◌, ◌++◌, take, sym, ◌∙◌, subst, arith}
use Rattle.std.proofs.lemmas.List.{take_all}
use Rattle.sat_base.specs.Literal.{Literal}
use Rattle.sat_base.proofs.Sets.{Has-get_or, Has-take, more_literals}
use Rattle.cdcl.proofs.Targets.{TargetSoFar, target_asserting, target_lower, target_end}
use Rattle.cdcl.proofs.analysis.target_of.Goals.{then-level, else-level}
use Rattle.cdcl.proofs.analysis.target_of.Goals as goal
use Rattle.solver_trail.specs.Trail.{IsFalseAt}

pub level_of-level-requires : goal.level_of-level-requires
level_of-level-requires c = c.requires.falsified c.literal-item.result (Has-get_or c.args.clause.now c.loop-literal.literal-index c.literal-item.result c.loop-literal-test.true c.literal-item.is)

pub loop-literal-preserved : goal.loop-literal-preserved
loop-literal-preserved c =
    let entries = c.args.values.now.entries in
    let current = c.args.values.now.level in
    let clause = c.args.clause.now in
    let i = c.loop-literal.literal-index in
    let literal = c.literal-item.result in
    let is_line = Has-get_or clause i literal c.loop-literal-test.true c.literal-item.is in
    let more : take (i + 1) clause ≡ take i clause ++ literal ∷ [] = more_literals clause i literal c.loop-literal-test.true c.literal-item.is in
    let at = c.level_of-level.ensures.at in
    let order = c.entries-order.ensures.order in
    subst (λ (before : List Literal). TargetSoFar entries current before c.if-level.asserted c.if-level.target) (sym more)
    (elim c.if-level.branch [
      | then-level w ↦
          let same : c.level_of-level.result ≡ current = w.if-level.true ∙ c.level.ensures in
          rw (w.asserted-is, w.target-is)
          (target_asserting entries current clause (take i clause) c.loop-literal.asserted literal c.loop-literal.target c.loop-literal.invariant c.requires.asserting (Has-take clause i) is_line
          (subst (λ (l : ℕ). IsFalseAt entries l literal) same at) order)
      | else-level w ↦
          let ne : c.level_of-level.result ≢ current = λ e. w.if-level.false (e ∙ sym c.level.ensures) in
          rw (w.asserted-is, w.target-is)
          (target_lower entries current (take i clause) c.loop-literal.asserted literal c.loop-literal.target c.level_of-level.result w.larger-target.result c.loop-literal.invariant at ne c.entries-order.ensures.level order w.larger-target.ensures)
    ])

pub returns : goal.returns
returns c =
    let clause = c.args.clause.now in
    let test = c.loop-literal-test.false in
    let so_far = subst (λ (before : List Literal). TargetSoFar c.args.values.now.entries c.args.values.now.level before c.loop-literal.asserted c.loop-literal.target) (take_all c.loop-literal.literal-index clause (omega arith)) c.loop-literal.invariant in
    target_end c.args.values.now.entries c.args.values.now.level clause c.loop-literal.asserted c.loop-literal.target so_far c.requires.asserting c.requires.falsified c.entries-order.ensures.order
