use Rattle.std.proofs.Common.{◌≡◌, ℕ, ◌+◌, List, [], ◌∷◌, ◌++◌, inl, inr, take, sym, ◌∙◌, subst}
use Rattle.sat_base.specs.Literal.{Literal}
use Rattle.sat_base.specs.Clauses.{Has}
use Rattle.sat_base.proofs.Sets.{Has-get_or, Has-push, more_literals}
use Rattle.sat_base.proofs.LitSets.{different_literals, equal_literals}
use Rattle.cdcl.proofs.analysis.other_at.Goals.{then-level_of-level+else-ne, else-level_of-level}
use Rattle.cdcl.proofs.analysis.other_at.Goals as goal
use Rattle.solver_trail.specs.Trail.{IsFalseAt}

pub level_of-requires : goal.level_of-requires
level_of-requires c = c.requires c.other-item.result (Has-get_or c.args.clause.now c.loop-other.other-index c.other-item.result c.loop-other-test.true c.other-item.is)

pub returns-then-ne-clause-some : goal.returns-then-ne-clause-some
returns-then-ne-clause-some c =
    let other = c.other-item.result in (
      Has-get_or c.args.clause.now c.loop-other.other-index other c.loop-other-test.true c.other-item.is,
      different_literals other c.args.literal c.ne.result c.ne.ensures c.if-ne.true,
      subst (λ (n : ℕ). IsFalseAt c.args.values.now.entries n other) c.if-level_of-level.true c.level_of.ensures.at,
    )

pub loop-other-preserved : goal.loop-other-preserved
loop-other-preserved c = λ other has different false_at.
    let clause = c.args.clause.now in
    let item = c.other-item.result in
    let more : take (c.loop-other.other-index + 1) clause ≡ take c.loop-other.other-index clause ++ item ∷ [] = more_literals clause c.loop-other.other-index item c.loop-other-test.true c.other-item.is in
    elim (Has-push (take c.loop-other.other-index clause) item other (subst (λ (xs : List Literal). Has xs other) more has)) [
      | inl h ↦ c.loop-other.invariant other h different false_at
      | inr e ↦ elim c.if-level_of-level.branch [
        | then-level_of-level+else-ne w ↦ different (sym e ∙ equal_literals item c.args.literal w.ne.result w.ne.ensures w.if-ne.false)
        | else-level_of-level w ↦ w.if-level_of-level.false (sym (c.level_of.ensures.only c.args.level (subst (IsFalseAt c.args.values.now.entries c.args.level) (sym e) false_at)))
      ]
    ]
