use Rattle.std.proofs.Common.{ℕ, ◌+◌, ◌<◌, ◌^◌, [], ◌∷◌, ◌++◌, length, sym, ap, ◌∙◌, subst, arith}
use Rattle.std.specs.Prelude.{All, decimal, codes}
use Rattle.derivation_log.specs.declared.line_id.LineId.{LineId}
use Rattle.derivation_log.specs.Log.{IsLine, clause_of}
use Rattle.derivation_log.specs.Printing.{number_of}
use Rattle.derivation_log.proofs.Logs.{distinct_of}
use Rattle.lrat_out.specs.Standing.{standing}
use Rattle.lrat_out.specs.Proof.{NumbersFit}
use Rattle.lrat_out.proofs.Judging.{grown}
use Rattle.lrat_out.proofs.Writing.{All-front, All-last, leaves_out, keeps_unit, keeps_open}
use Rattle.lrat_out.proofs.proof_text.push_hints.Goals as goal

pub overflow_add-clauses : goal.overflow_add-clauses
overflow_add-clauses c = omega (arith, c.requires.clauses, c.axioms-clauses.ensures.axioms)

pub number_after-number-requires : goal.number_after-number-requires
number_after-number-requires c =
    let hint = c.in-Some.hint.now in
    let fit = subst (NumbersFit c.args.log.now) c.in-Some.ensures.cases.0 c.loop-hint.invariant.fit in
    subst (λ (n : ℕ). number_of (n + 1) hint < 2 ^ 64) (sym c.axioms-clauses.ensures.axioms)
    (All-last (λ (hint : LineId). number_of (length c.args.log.now.axioms + 1) hint < 2 ^ 64) c.in-Some.before.now hint fit)

pub clause-requires : goal.clause-requires
clause-requires c =
    let named = subst (All (IsLine c.args.log.now)) c.in-Some.ensures.cases.0 c.loop-hint.invariant.named in
    All-last (IsLine c.args.log.now) c.in-Some.before.now c.in-Some.hint.now named

pub loop-hint-preserved-in-Holds : goal.loop-hint-preserved-in-Holds
loop-hint-preserved-in-Holds c =
    let log = c.args.log.now in
    let hint = c.in-Some.hint.now in
    let before = c.in-Some.before.now in
    let trues = c.loop-hint.trues in
    let parts = c.in-Some.ensures.cases.0 in
    let stands = c.standing_of.ensures ∙ ap (standing trues) c.clause.ensures in
    record {
      text = leaves_out log trues c.loop-hint.left.now before hint c.standing_of.result c.loop-hint.out.items _ parts stands c.in-Holds.is c.loop-hint.invariant.text;
      named = All-front (IsLine log) before (hint ∷ []) (subst (All (IsLine log)) parts c.loop-hint.invariant.named);
      fit = All-front (λ (hint : LineId). number_of (length log.axioms + 1) hint < 2 ^ 64) before (hint ∷ []) (subst (NumbersFit log) parts c.loop-hint.invariant.fit);
    }

pub loop-hint-preserved-in_ok-insert-in-OneOpen : goal.loop-hint-preserved-in_ok-insert-in-OneOpen
loop-hint-preserved-in_ok-insert-in-OneOpen c =
    let log = c.args.log.now in
    let hint = c.in-Some.hint.now in
    let before = c.in-Some.before.now in
    let trues = c.loop-hint.trues in
    let parts = c.in-Some.ensures.cases.0 in
    let stands = c.standing_of.ensures ∙ ap (standing trues) c.clause.ensures in
    let distinct = distinct_of log hint c.axioms-clauses.ensures.sound in
    let added = grown trues c.insert.new.self (clause_of log hint) c.in-OneOpen.lit c.standing_of.result distinct stands c.in-OneOpen.is c.in_ok-insert-in-OneOpen.ensures.ok in
    let number = c.number_after-number.ensures ∙ ap (λ (n : ℕ). number_of (n + 1) hint) c.axioms-clauses.ensures.axioms in
    let written = c.in_ok-push_word-in-OneOpen.ensures ∙ ap (λ (n : ℕ). c.loop-hint.out.items ++ (decimal n ++ codes " ")) number in
    record {
      text = keeps_unit log trues c.insert.new.self c.loop-hint.left.now before hint c.standing_of.result c.in-OneOpen.lit c.loop-hint.out.items c.push_word-in-OneOpen.new.out.items _ parts stands c.in-OneOpen.is added written c.loop-hint.invariant.text;
      named = All-front (IsLine log) before (hint ∷ []) (subst (All (IsLine log)) parts c.loop-hint.invariant.named);
      fit = All-front (λ (hint : LineId). number_of (length log.axioms + 1) hint < 2 ^ 64) before (hint ∷ []) (subst (NumbersFit log) parts c.loop-hint.invariant.fit);
    }

pub loop-hint-preserved : goal.loop-hint-preserved
loop-hint-preserved c =
    let log = c.args.log.now in
    let hint = c.in-Some.hint.now in
    let before = c.in-Some.before.now in
    let trues = c.loop-hint.trues in
    let parts = c.in-Some.ensures.cases.0 in
    let stands = c.standing_of.ensures ∙ ap (standing trues) c.clause.ensures in
    let number = c.number_after-number.ensures ∙ ap (λ (n : ℕ). number_of (n + 1) hint) c.axioms-clauses.ensures.axioms in
    let written = c.in_ok-push_word-in-MoreOpen.ensures ∙ ap (λ (n : ℕ). c.loop-hint.out.items ++ (decimal n ++ codes " ")) number in
    record {
      text = keeps_open log trues c.loop-hint.left.now before hint c.standing_of.result c.loop-hint.out.items c.push_word-in-MoreOpen.new.out.items _ parts stands c.in-MoreOpen.is written c.loop-hint.invariant.text;
      named = All-front (IsLine log) before (hint ∷ []) (subst (All (IsLine log)) parts c.loop-hint.invariant.named);
      fit = All-front (λ (hint : LineId). number_of (length log.axioms + 1) hint < 2 ^ 64) before (hint ∷ []) (subst (NumbersFit log) parts c.loop-hint.invariant.fit);
    }
