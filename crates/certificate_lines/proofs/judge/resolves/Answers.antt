use Rattle.std.proofs.lemmas.Bool.{MatchBool-at_true, MatchBool-at_false}
use Rattle.certificate_lines.proofs.Resolved.{begins, takes_next, stops, ends}
use Rattle.certificate_lines.proofs.judge.resolves.Goals as goal

pub loop-i-init : goal.loop-i-init
loop-i-init c = begins c.args.formula.now c.args.hints.now _ c.clause.result.now c.start.new.self c.requires.some c.clause.ensures.clause c.in_ok-start.ensures.begins

pub returns-then-not-branch : goal.returns-then-not-branch
returns-then-not-branch c = (
  λ h. absurd cc,
  λ h. absurd (stops c.args.formula.now c.args.hints.now c.loop-i.i _ c.clause-in-loop-i.result.now c.loop-i.resolution c.loop-i-test.true c.clause-in-loop-i.ensures.clause (MatchBool-at_false _ _ c.if-not-branch.true c.in_ok-join.ensures.joins) c.loop-i.invariant c.args.clause.now h),
)

pub loop-i-preserved : goal.loop-i-preserved
loop-i-preserved c = takes_next c.args.formula.now c.args.hints.now c.loop-i.i _ c.clause-in-loop-i.result.now c.loop-i.resolution c.join.new.self c.loop-i-test.true c.clause-in-loop-i.ensures.clause
    (MatchBool-at_true _ _ c.if-not-branch.false c.in_ok-join.ensures.joins) c.loop-i.invariant

pub returns : goal.returns
returns c =
    let both = ends c.args.formula.now c.args.hints.now c.loop-i.i c.loop-i.resolution c.loop-i-test.false c.loop-i.invariant c.args.clause.now in
    (λ h. both.1 (c.gives.ensures.0 h), λ h. c.gives.ensures.1 (both.0 h))
