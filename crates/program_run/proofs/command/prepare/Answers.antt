use Rattle.std.proofs.Common.{subst, sym, ap, Err}
use Rattle.request_words.specs.Request.{texts}
use Rattle.request_words.specs.Seen.{asked_of}
use Rattle.program_run.specs.declared.command.Refusal.{Refusal}
use Rattle.run_stages.specs.Found.{name_in}
use Rattle.run_stages.specs.Prepare.{Prepares}
use Rattle.program_run.specs.Preparing.{Prepared, answer_in}
use Rattle.program_run.proofs.Prepared.{prepared_by, counts_by, refused_by_words, is_request}
use Rattle.program_run.proofs.command.prepare.Goals as goal

pub returns-in-None-clause-prepared : goal.returns-in-None-clause-prepared
returns-in-None-clause-prepared g c =
    let before = g.S.Shelf.facts c.args.shelf.now in
    let words = texts c.args.words.now in
    subst (λ (r : Refusal). Prepared (name_in words) (λ found. Prepares found words) before before (Err r)) (sym c.early.ensures)
    (refused_by_words before before words (sym c.in-None.ensures))

pub returns-in-Some-clause-prepared : goal.returns-in-Some-clause-prepared
returns-in-Some-clause-prepared g c =
    prepared_by (g.S.Shelf.facts c.args.shelf.now) (g.S.Shelf.facts c.prepare_request.new.shelf) (texts c.args.words.now) (asked_of c.in-Some.request) c.prepare_request.result (sym c.in-Some.ensures) c.prepare_request.ensures.prepared

pub returns-in-Some-clause-counts : goal.returns-in-Some-clause-counts
returns-in-Some-clause-counts g c =
    counts_by (g.S.Shelf.facts c.args.shelf.now) (g.S.Shelf.facts c.prepare_request.new.shelf) (texts c.args.words.now) (asked_of c.in-Some.request) (answer_in c.prepare_request.result) (sym c.in-Some.ensures) c.prepare_request.ensures.counts

pub returns-in-None-clause-words : goal.returns-in-None-clause-words
returns-in-None-clause-words g c = λ none. ap (λ (r : Refusal). Err r.answer) c.early.ensures

pub returns-in-Some-clause-words : goal.returns-in-Some-clause-words
returns-in-Some-clause-words g c = λ none. absurd (is_request (texts c.args.words.now) (asked_of c.in-Some.request) (sym c.in-Some.ensures) none)
