use Rattle.std.proofs.Common.{sym, subst}
use Rattle.std.specs.Prelude.{All}
use Rattle.std.proofs.lemmas.Bool.{MatchBool-at_false}
use Rattle.sat_base.specs.Clauses.{HasDistinctVariables}
use Rattle.derivation_log.specs.Log.{derived_id, IsLine}
use Rattle.derivation_log.proofs.Logs.{distinct_of}
use Rattle.lrat_out.specs.Proof.{NumbersFit}
use Rattle.lrat_out.proofs.Writing.{hints_named, hints_fit}
use Rattle.lrat_out.proofs.proof_text.push_derived.Goals as goal

pub unreachable-requires : goal.unreachable-requires
unreachable-requires c =
    let distinct = subst HasDistinctVariables (sym c.clause-clause.ensures) (distinct_of c.args.log.now (derived_id c.args.number) c.axioms.ensures.sound) in
    MatchBool-at_false _ _ c.if-not-branch.true c.in_ok-assume.ensures distinct

pub push_hints-requires-clause-named : goal.push_hints-requires-clause-named
push_hints-requires-clause-named c =
    subst (All (IsLine c.args.log.now)) (sym c.hints.ensures) (hints_named c.args.log.now c.args.number c.axioms.ensures.sound c.requires.line)

pub push_hints-requires-clause-fit : goal.push_hints-requires-clause-fit
push_hints-requires-clause-fit c =
    subst (NumbersFit c.args.log.now) (sym c.hints.ensures) (hints_fit c.args.log.now c.args.number c.axioms.ensures.sound c.requires.line c.requires.fits)
