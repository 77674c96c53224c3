use Rattle.std.proofs.Common.{◌≡◌, refl, sym, ap, ◌∙◌, subst}
use Rattle.std.proofs.lemmas.Bool.{both_ways}
use Rattle.sat_base.specs.Literal.{Literal}
use Rattle.sat_base.specs.Clauses.{Has}
use Rattle.lrat_out.proofs.Assuming.{repeats, more_distinct, more_assumed}
use Rattle.lrat_out.proofs.reading.assume.Goals as goal

pub returns-then-has : goal.returns-then-has
returns-then-has c =
    repeats c.loop-lit.trues c.args.clause.now c.loop-lit.lit-index c.lit-item.result c.lit-item.result c.loop-lit-test.true c.lit-item.is c.loop-lit.invariant.trues (c.has.ensures.0 c.if-has.true) refl

pub returns-then-has-2 : goal.returns-then-has-2
returns-then-has-2 c =
    repeats c.loop-lit.trues c.args.clause.now c.loop-lit.lit-index c.lit-item.result c.negated.result c.loop-lit-test.true c.lit-item.is c.loop-lit.invariant.trues (c.has-in-loop-lit.ensures.0 c.if-has-2.true) (ap (λ (l : Literal). l.var) c.negated.ensures)

pub loop-lit-preserved : goal.loop-lit-preserved
loop-lit-preserved c =
    let trues = c.loop-lit.trues in
    let again : c.negated.result ≡ c.negated-in-loop-lit.result = c.negated.ensures ∙ sym c.negated-in-loop-lit.ensures in
    record {
      distinct = more_distinct trues c.args.clause.now c.loop-lit.lit-index c.lit-item.result c.loop-lit-test.true c.lit-item.is c.loop-lit.invariant.trues
          (λ has. both_ways _ c.if-has.false (c.has.ensures.1 has)) (λ has. both_ways _ c.if-has-2.false (c.has-in-loop-lit.ensures.1 (subst (Has trues) (sym c.negated.ensures) has))) c.loop-lit.invariant.distinct;
      trues = more_assumed trues c.insert.new.self c.args.clause.now c.loop-lit.lit-index c.lit-item.result c.negated-in-loop-lit.result c.loop-lit-test.true c.lit-item.is c.loop-lit.invariant.trues c.negated-in-loop-lit.ensures
          (λ has. both_ways _ c.if-has-2.false (c.has-in-loop-lit.ensures.1 (subst (Has trues) (sym again) has))) c.in_ok-insert.ensures.ok;
    }
