use Rattle.std.proofs.Common.{subst, sym, Err, Some, refl}
use Rattle.request_words.specs.Request.{verify, file_of}
use Rattle.program_run.specs.declared.command.Refusal.{Refusal}
use Rattle.run_stages.specs.declared.ending.Ending.{Ending}
use Rattle.run_stages.specs.Loading.{CountsAll, two_names, judged_names}
use Rattle.program_run.proofs.Prepared.{verify_ok, verify_late, verify_early, VerifyPrepared}
use Rattle.run_stages.proofs.Reading.{counts_with, counts_after, no_fault}
use Rattle.run_stages.proofs.Named.{two_of_verify, judged_of_verify}
use Rattle.program_run.proofs.command.verified.Goals as goal

pub returns-in-Ok-verified_file-clause-prepared : goal.returns-in-Ok-verified_file-clause-prepared
returns-in-Ok-verified_file-clause-prepared g c =
    verify_ok (g.S.Shelf.facts c.args.shelf.now) (g.S.Shelf.facts c.load_inputs.new.shelf) (g.S.Shelf.facts c.verified_file.new.shelf) c.args.circuit.now c.args.trap.now c.args.schedule.now c.args.cert.now c.in-Ok.inputs c.in-Ok-verified_file.ending
    c.in-Ok.ensures.reads c.in-Ok-verified_file.ensures.reads c.in-Ok.ensures.loads c.in-Ok-verified_file.ensures.verifies

pub returns-in-Err-verified_file-clause-prepared : goal.returns-in-Err-verified_file-clause-prepared
returns-in-Err-verified_file-clause-prepared g c =
    subst (λ (r : Refusal). VerifyPrepared (g.S.Shelf.facts c.args.shelf.now) (g.S.Shelf.facts c.verified_file.new.shelf) c.args.circuit.now c.args.trap.now c.args.schedule.now c.args.cert.now (Err r)) (sym c.late.ensures)
    (verify_late (g.S.Shelf.facts c.args.shelf.now) (g.S.Shelf.facts c.load_inputs.new.shelf) (g.S.Shelf.facts c.verified_file.new.shelf) c.args.circuit.now c.args.trap.now c.args.schedule.now c.args.cert.now c.in-Ok.inputs c.in-Err-verified_file.answer
    c.in-Ok.ensures.reads c.in-Err-verified_file.ensures.reads c.in-Ok.ensures.loads c.in-Err-verified_file.ensures.verifies)

pub returns-in-Err-verified_file-clause-counts : goal.returns-in-Err-verified_file-clause-counts
returns-in-Err-verified_file-clause-counts g c =
    let names = file_of (verify c.args.circuit.now c.args.trap.now c.args.schedule.now c.args.cert.now) in
    let same = c.in-Ok.ensures.counts.stays (λ file. no_fault c.in-Ok.inputs file) in
    subst (λ (r : Refusal). CountsAll {X = Ending} names (g.S.Shelf.facts c.args.shelf.now) (g.S.Shelf.facts c.verified_file.new.shelf) (Err r.answer)) (sym c.late.ensures)
    (counts_after {X = Ending} {Y = Ending} names (g.S.Shelf.facts c.args.shelf.now) (g.S.Shelf.facts c.load_inputs.new.shelf) (g.S.Shelf.facts c.verified_file.new.shelf) c.in-Err-verified_file.answer same
    (counts_with {Y = Ending} (judged_names c.args.schedule.now c.args.cert.now) names (g.S.Shelf.facts c.load_inputs.new.shelf) (g.S.Shelf.facts c.verified_file.new.shelf) c.in-Err-verified_file.answer
    (judged_of_verify c.args.circuit.now c.args.trap.now c.args.schedule.now c.args.cert.now) c.in-Err-verified_file.ensures.counts))

pub returns-in-Err-clause-prepared : goal.returns-in-Err-clause-prepared
returns-in-Err-clause-prepared g c =
    subst (λ (r : Refusal). VerifyPrepared (g.S.Shelf.facts c.args.shelf.now) (g.S.Shelf.facts c.load_inputs.new.shelf) c.args.circuit.now c.args.trap.now c.args.schedule.now c.args.cert.now (Err r)) (sym c.early.ensures)
    (verify_early (g.S.Shelf.facts c.args.shelf.now) (g.S.Shelf.facts c.load_inputs.new.shelf) c.args.circuit.now c.args.trap.now c.args.schedule.now c.args.cert.now c.in-Err.answer c.in-Err.ensures.loads c.in-Err.ensures.refusal.plain)

pub returns-in-Err-clause-counts : goal.returns-in-Err-clause-counts
returns-in-Err-clause-counts g c =
    let names = file_of (verify c.args.circuit.now c.args.trap.now c.args.schedule.now c.args.cert.now) in
    subst (λ (r : Refusal). CountsAll {X = Ending} names (g.S.Shelf.facts c.args.shelf.now) (g.S.Shelf.facts c.load_inputs.new.shelf) (Err r.answer)) (sym c.early.ensures)
    (counts_with (two_names c.args.circuit.now c.args.trap.now) names (g.S.Shelf.facts c.args.shelf.now) (g.S.Shelf.facts c.load_inputs.new.shelf) c.in-Err.answer
    (two_of_verify c.args.circuit.now c.args.trap.now c.args.schedule.now c.args.cert.now) c.in-Err.ensures.counts)
