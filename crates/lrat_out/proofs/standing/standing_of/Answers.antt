use Rattle.std.proofs.Common.{◌+◌, sym, subst}
use Rattle.std.proofs.lemmas.Bool.{both_ways}
use Rattle.sat_base.specs.Clauses.{Has}
use Rattle.lrat_out.specs.declared.standing.Standing.{Standing}
use Rattle.lrat_out.proofs.Stances.{StandsSoFar, finds_true, finds_false, finds_open}
use Rattle.lrat_out.proofs.standing.standing_of.Goals.{then-not-has, else-not-has}
use Rattle.lrat_out.proofs.standing.standing_of.Goals as goal

pub returns-then-has : goal.returns-then-has
returns-then-has c = finds_true c.args.trues.now c.args.clause.now c.loop-lit.lit-index c.lit-item.result c.loop-lit.so_far c.loop-lit-test.true c.lit-item.is c.loop-lit.invariant (c.has.ensures.0 c.if-has.true)

pub loop-lit-preserved : goal.loop-lit-preserved
loop-lit-preserved c =
    let trues = c.args.trues.now in
    elim c.if-not-has.branch [
      | then-not-has w ↦ rw w.so_far-is (subst (λ (s : Standing). StandsSoFar trues c.args.clause.now (c.loop-lit.lit-index + 1) s) (sym w.with_open-so_far.ensures)
          (finds_open trues c.args.clause.now c.loop-lit.lit-index c.lit-item.result c.loop-lit.so_far c.loop-lit-test.true c.lit-item.is c.loop-lit.invariant
          (λ has. both_ways _ c.if-has.false (c.has.ensures.1 has)) (λ has. both_ways _ w.if-not-has.true (c.has-in-loop-lit.ensures.1 (subst (Has trues) (sym c.negated.ensures) has)))))
      | else-not-has w ↦ rw w.so_far-is
          (finds_false trues c.args.clause.now c.loop-lit.lit-index c.lit-item.result c.loop-lit.so_far c.loop-lit-test.true c.lit-item.is c.loop-lit.invariant
          (λ has. both_ways _ c.if-has.false (c.has.ensures.1 has)) (subst (Has trues) c.negated.ensures (c.has-in-loop-lit.ensures.0 w.if-not-has.false)))
    ]
