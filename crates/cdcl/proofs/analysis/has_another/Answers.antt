use Rattle.std.proofs.Common.{◌≡◌, ◌+◌, List, [], ◌∷◌, ◌++◌, inl, inr, take, refl, sym, ◌∙◌, subst}
use Rattle.sat_base.specs.Literal.{Literal}
use Rattle.sat_base.specs.Clauses.{Has}
use Rattle.sat_base.proofs.Sets.{Has-get_or, Has-push, more_literals}
use Rattle.sat_base.proofs.LitSets.{different_literals, equal_literals}
use Rattle.cdcl.specs.Learning.{HasAnotherAt}
use Rattle.std.proofs.lemmas.Bool.{both_ways}
use Rattle.cdcl.proofs.analysis.has_another.Goals.{then-is_false_at+else-ne, else-is_false_at}
use Rattle.cdcl.proofs.analysis.has_another.Goals as goal
use Rattle.solver_trail.specs.Trail.{IsFalseAt}

pub is_false_at-requires : goal.is_false_at-requires
is_false_at-requires c = c.requires c.other-item.result (Has-get_or c.args.clause.now c.loop-other.other-index c.other-item.result c.loop-other-test.true c.other-item.is)

pub returns-then-ne : goal.returns-then-ne
returns-then-ne c =
    let other = c.other-item.result in
    let found : HasAnotherAt c.args.values.now.entries c.args.level c.args.clause.now c.args.literal = record {
      other = other;
      has = Has-get_or c.args.clause.now c.loop-other.other-index other c.loop-other-test.true c.other-item.is;
      different = different_literals other c.args.literal c.ne.result c.ne.ensures c.if-ne.true;
      at = c.is_false_at.ensures.0 c.if-is_false_at.true;
    } in
    (λ on. found, λ h. refl)

pub loop-other-preserved : goal.loop-other-preserved
loop-other-preserved c = λ other has different false_at.
    let clause = c.args.clause.now in
    let item = c.other-item.result in
    let more : take (c.loop-other.other-index + 1) clause ≡ take c.loop-other.other-index clause ++ item ∷ [] = more_literals clause c.loop-other.other-index item c.loop-other-test.true c.other-item.is in
    elim (Has-push (take c.loop-other.other-index clause) item other (subst (λ (xs : List Literal). Has xs other) more has)) [
      | inl h ↦ c.loop-other.invariant other h different false_at
      | inr e ↦ elim c.if-is_false_at.branch [
        | then-is_false_at+else-ne w ↦ different (sym e ∙ equal_literals item c.args.literal w.ne.result w.ne.ensures w.if-ne.false)
        | else-is_false_at w ↦
            let on = c.is_false_at.ensures.1 (subst (IsFalseAt c.args.values.now.entries c.args.level) (sym e) false_at) in
            both_ways c.is_false_at.result w.if-is_false_at.false on
      ]
    ]
