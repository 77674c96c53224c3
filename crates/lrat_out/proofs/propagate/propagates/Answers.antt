use Rattle.std.proofs.Common.{◌+◌, List, sym, subst, refl}
use Rattle.sat_base.specs.Literal.{Literal}
use Rattle.sat_base.specs.Fresh.{IsConsistent}
use Rattle.lrat_out.proofs.Judging.{SameFrom, fails, holds, more_open, grown, one_open, still_consistent, none_left}
use Rattle.lrat_out.proofs.propagate.propagates.Goals as goal

pub returns-in-Fails : goal.returns-in-Fails
returns-in-Fails c = (
  λ h. fails c.args.proof.now c.args.hints.now c.args.trues.now c.loop-hint.trues c.loop-hint.hint-index 0 _ c.in-Some.clause.now c.standing_of.result c.loop-hint-test.true refl c.in-Some.ensures.clause c.in-Some.ensures.distinct c.standing_of.ensures c.in-Fails.is c.loop-hint.invariant.same,
  λ h. refl,
)

pub returns-in-Holds : goal.returns-in-Holds
returns-in-Holds c = (
  λ h. absurd cc,
  λ h. absurd (holds c.args.proof.now c.args.hints.now c.args.trues.now c.loop-hint.trues c.loop-hint.hint-index 0 _ c.in-Some.clause.now c.standing_of.result c.loop-hint-test.true refl c.in-Some.ensures.clause c.in-Some.ensures.distinct c.standing_of.ensures c.in-Holds.is c.loop-hint.invariant.consistent c.loop-hint.invariant.same h),
)

pub returns-in-MoreOpen : goal.returns-in-MoreOpen
returns-in-MoreOpen c = (
  λ h. absurd cc,
  λ h. absurd (more_open c.args.proof.now c.args.hints.now c.args.trues.now c.loop-hint.trues c.loop-hint.hint-index 0 _ c.in-Some.clause.now c.standing_of.result c.loop-hint-test.true refl c.in-Some.ensures.clause c.in-Some.ensures.distinct c.standing_of.ensures c.in-MoreOpen.is c.loop-hint.invariant.same h),
)

pub loop-hint-preserved : goal.loop-hint-preserved
loop-hint-preserved c =
    let proof = c.args.proof.now in
    let hints = c.args.hints.now in
    let trues = c.loop-hint.trues in
    let unit = c.in-OneOpen.lit in
    let added = grown trues c.insert.new.self c.in-Some.clause.now unit c.standing_of.result c.in-Some.ensures.distinct c.standing_of.ensures c.in-OneOpen.is c.in_ok-insert-in-OneOpen.ensures.ok in
    record {
      same = subst (λ (next : List Literal). SameFrom proof hints c.args.trues.now (c.loop-hint.hint-index + 1) next) (sym added)
          (one_open proof hints c.args.trues.now trues c.loop-hint.hint-index 0 _ c.in-Some.clause.now unit c.standing_of.result c.loop-hint-test.true refl c.in-Some.ensures.clause c.in-Some.ensures.distinct c.standing_of.ensures c.in-OneOpen.is c.loop-hint.invariant.same);
      consistent = subst IsConsistent (sym added) (still_consistent trues c.in-Some.clause.now unit c.standing_of.result c.in-Some.ensures.distinct c.standing_of.ensures c.in-OneOpen.is c.loop-hint.invariant.consistent);
    }

pub returns : goal.returns
returns c = (
  λ h. absurd cc,
  λ h. absurd (none_left c.args.proof.now c.args.hints.now c.args.trues.now c.loop-hint.trues c.loop-hint.hint-index c.loop-hint-test.false c.loop-hint.invariant.same h),
)
