use Rattle.std.proofs.Common.{sym, subst}
use Rattle.std.proofs.lemmas.Bool.{MatchBool-at_true, MatchBool-at_false}
use Rattle.sat_base.specs.Fresh.{IsConsistent}
use Rattle.derivation_log.specs.Log.{log_of}
use Rattle.derivation_log.proofs.Logs.{consistent_of, begins, continues, cannot_stop}
use Rattle.derivation_log.proofs.log.resolve.Goals as goal

pub loop-i-init : goal.loop-i-init
loop-i-init c = record {
  leads = begins (log_of c.args.axioms.now c.args.derived.now) c.args.chain.now _ c.clause_in.result.now c.start.new.self c.requires.resolves c.clause_in.ensures c.in_ok-start.ensures.begins;
  consistent = c.in_ok-start.ensures.consistent (subst IsConsistent (sym c.clause_in.ensures) (consistent_of (log_of c.args.axioms.now c.args.derived.now) _ c.requires.sound));
}

pub unreachable-requires : goal.unreachable-requires
unreachable-requires c = cannot_stop (log_of c.args.axioms.now c.args.derived.now) c.args.chain.now c.loop-i.i _ c.clause_in-in-loop-i.result.now c.loop-i.resolution c.loop-i-test.true c.clause_in-in-loop-i.ensures
    (MatchBool-at_false _ _ c.if-not-branch.true c.in_ok-join.ensures.joins) c.loop-i.invariant.leads c.requires.resolves

pub loop-i-preserved : goal.loop-i-preserved
loop-i-preserved c = record {
  leads = continues (log_of c.args.axioms.now c.args.derived.now) c.args.chain.now c.loop-i.i _ c.clause_in-in-loop-i.result.now c.loop-i.resolution c.join.new.self c.loop-i-test.true c.clause_in-in-loop-i.ensures
      (MatchBool-at_true _ _ c.if-not-branch.false c.in_ok-join.ensures.joins) c.loop-i.invariant.leads;
  consistent = c.in_ok-join.ensures.consistent c.if-not-branch.false c.loop-i.invariant.consistent (subst IsConsistent (sym c.clause_in-in-loop-i.ensures) (consistent_of (log_of c.args.axioms.now c.args.derived.now) _ c.requires.sound));
}
