use Rattle.std.proofs.Common.{subst, sym, Err, Some, None, refl}
use Rattle.request_words.specs.declared.file.File.TheVariants as files
use Rattle.request_words.specs.Request.{named}
use Rattle.program_run.specs.declared.command.Refusal.{Refusal}
use Rattle.run_stages.specs.declared.ending.Ending.{Ending}
use Rattle.run_stages.specs.Loading.{CountsAll, two_names}
use Rattle.run_stages.specs.Judging.{as_work}
use Rattle.program_run.proofs.Prepared.{check_ok, check_late, check_early, CheckPrepared}
use Rattle.run_stages.proofs.Reading.{counts_with, counts_as, counts_after, no_fault}
use Rattle.run_stages.proofs.Named.{two_of_check}
use Rattle.program_run.proofs.command.checked.Goals as goal

pub returns-in-Ok-judged_file-clause-prepared : goal.returns-in-Ok-judged_file-clause-prepared
returns-in-Ok-judged_file-clause-prepared g c =
    check_ok (as_work c.args.saying) (g.S.Shelf.facts c.args.shelf.now) (g.S.Shelf.facts c.load_inputs.new.shelf) (g.S.Shelf.facts c.judged_file.new.shelf) c.args.circuit.now c.args.trap.now c.args.schedule.now c.in-Ok.inputs c.in-Ok-judged_file.ending
    c.in-Ok.ensures.reads c.in-Ok-judged_file.ensures.reads c.in-Ok.ensures.loads c.in-Ok-judged_file.ensures.judges

pub returns-in-Err-judged_file-clause-prepared : goal.returns-in-Err-judged_file-clause-prepared
returns-in-Err-judged_file-clause-prepared g c =
    subst (λ (r : Refusal). CheckPrepared (as_work c.args.saying) (g.S.Shelf.facts c.args.shelf.now) (g.S.Shelf.facts c.judged_file.new.shelf) c.args.circuit.now c.args.trap.now c.args.schedule.now (Err r)) (sym c.late.ensures)
    (check_late (as_work c.args.saying) (g.S.Shelf.facts c.args.shelf.now) (g.S.Shelf.facts c.load_inputs.new.shelf) (g.S.Shelf.facts c.judged_file.new.shelf) c.args.circuit.now c.args.trap.now c.args.schedule.now c.in-Ok.inputs c.in-Err-judged_file.answer
    c.in-Ok.ensures.reads c.in-Err-judged_file.ensures.reads c.in-Ok.ensures.loads c.in-Err-judged_file.ensures.judges)

pub returns-in-Err-judged_file-clause-counts : goal.returns-in-Err-judged_file-clause-counts
returns-in-Err-judged_file-clause-counts g c =
    let names = named c.args.circuit.now c.args.trap.now (Some c.args.schedule.now) None in
    let same = c.in-Ok.ensures.counts.stays (λ file. no_fault c.in-Ok.inputs file) in
    subst (λ (r : Refusal). CountsAll {X = Ending} names (g.S.Shelf.facts c.args.shelf.now) (g.S.Shelf.facts c.judged_file.new.shelf) (Err r.answer)) (sym c.late.ensures)
    (counts_after {X = Ending} {Y = Ending} names (g.S.Shelf.facts c.args.shelf.now) (g.S.Shelf.facts c.load_inputs.new.shelf) (g.S.Shelf.facts c.judged_file.new.shelf) c.in-Err-judged_file.answer same
    (counts_as {Y = Ending} names files.Schedule c.args.schedule.now (g.S.Shelf.facts c.load_inputs.new.shelf) (g.S.Shelf.facts c.judged_file.new.shelf) c.in-Err-judged_file.answer refl c.in-Err-judged_file.ensures.counts))

pub returns-in-Err-clause-prepared : goal.returns-in-Err-clause-prepared
returns-in-Err-clause-prepared g c =
    subst (λ (r : Refusal). CheckPrepared (as_work c.args.saying) (g.S.Shelf.facts c.args.shelf.now) (g.S.Shelf.facts c.load_inputs.new.shelf) c.args.circuit.now c.args.trap.now c.args.schedule.now (Err r)) (sym c.early.ensures)
    (check_early (as_work c.args.saying) (g.S.Shelf.facts c.args.shelf.now) (g.S.Shelf.facts c.load_inputs.new.shelf) c.args.circuit.now c.args.trap.now c.args.schedule.now c.in-Err.answer c.in-Err.ensures.loads c.in-Err.ensures.refusal.plain)

pub returns-in-Err-clause-counts : goal.returns-in-Err-clause-counts
returns-in-Err-clause-counts g c =
    subst (λ (r : Refusal). CountsAll {X = Ending} (named c.args.circuit.now c.args.trap.now (Some c.args.schedule.now) None) (g.S.Shelf.facts c.args.shelf.now) (g.S.Shelf.facts c.load_inputs.new.shelf) (Err r.answer)) (sym c.early.ensures)
    (counts_with (two_names c.args.circuit.now c.args.trap.now) (named c.args.circuit.now c.args.trap.now (Some c.args.schedule.now) None) (g.S.Shelf.facts c.args.shelf.now) (g.S.Shelf.facts c.load_inputs.new.shelf) c.in-Err.answer
    (two_of_check c.args.circuit.now c.args.trap.now c.args.schedule.now) c.in-Err.ensures.counts)
