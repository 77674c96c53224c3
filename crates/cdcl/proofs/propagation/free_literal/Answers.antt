use Rattle.std.proofs.Common.{◌≡◌, ◌≤◌, ◌+◌, List, [], ◌∷◌, ◌++◌, inl, inr, take, sym, ◌∙◌, subst}
use Rattle.sat_base.specs.Literal.{Literal, negated}
use Rattle.sat_base.specs.Clauses.{Has}
use Rattle.sat_base.proofs.Clauses.{EachVariable-has}
use Rattle.sat_base.proofs.Sets.{Has-get_or, Has-push, more_literals}
use Rattle.sat_base.proofs.LitSets.{different_literals, equal_literals}
use Rattle.std.proofs.lemmas.Bool.{both_ways}
use Rattle.solver_trail.specs.Trail.{literals_of}
use Rattle.cdcl.proofs.propagation.free_literal.Goals.{then-not-is_true+else-ne, else-not-is_true}
use Rattle.cdcl.proofs.propagation.free_literal.Goals as goal

pub is_true-requires : goal.is_true-requires
is_true-requires c =
    let clause = c.args.clause.now in
    let item = c.literal-item.result in
    subst (λ (l : Literal). l.var ≤ c.args.values.now.vars) (sym c.negated.ensures) (EachVariable-has (λ var. var ≤ c.args.values.now.vars) clause item c.requires (Has-get_or clause c.loop-literal.literal-index item c.loop-literal-test.true c.literal-item.is))

pub returns-then-ne-clause-some : goal.returns-then-ne-clause-some
returns-then-ne-clause-some c =
    let clause = c.args.clause.now in
    let set = literals_of c.args.values.now.entries in
    let item = c.literal-item.result in
    record {
      has = Has-get_or clause c.loop-literal.literal-index item c.loop-literal-test.true c.literal-item.is;
      different = different_literals item c.args.except c.ne.result c.ne.ensures c.if-ne.true;
      not_false = λ denied. both_ways c.is_true.result c.if-not-is_true.true (c.is_true.ensures.1 (subst (Has set) (sym c.negated.ensures) denied));
    }

pub loop-literal-preserved : goal.loop-literal-preserved
loop-literal-preserved c = λ other has different.
    let clause = c.args.clause.now in
    let set = literals_of c.args.values.now.entries in
    let item = c.literal-item.result in
    let i = c.loop-literal.literal-index in
    let more : take (i + 1) clause ≡ take i clause ++ item ∷ [] = more_literals clause i item c.loop-literal-test.true c.literal-item.is in
    elim (Has-push (take i clause) item other (subst (λ (xs : List Literal). Has xs other) more has)) [
      | inl h ↦ c.loop-literal.invariant other h different
      | inr e ↦ elim c.if-not-is_true.branch [
        | then-not-is_true+else-ne w ↦ absurd (different (sym e ∙ equal_literals item c.args.except w.ne.result w.ne.ensures w.if-ne.false))
        | else-not-is_true w ↦ subst (λ (l : Literal). Has set (negated l)) e (subst (Has set) c.negated.ensures (c.is_true.ensures.0 w.if-not-is_true.false))
      ]
    ]
