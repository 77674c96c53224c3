use Rattle.std.proofs.Common.{refl, None}
use Rattle.std.specs.Option.{option_map}
use Rattle.request_words.specs.Request.{texts}
use Rattle.program_run.specs.Run.{sink_facts, devices}
use Rattle.program_run.specs.Preparing.{names_of}
use Rattle.program_run.proofs.Settled.{settled_err, concludes_err, ran_ok, settles_ok, keeps_ok, keeps_out_ok, files_ok, no_usage, no_read_fault, last_of, end_of}
use Rattle.program_run.proofs.Prepared.{has_names, line_with, came_to_work}
use Rattle.program_run.proofs.command.run.Goals as goal

pub returns-in-Ok-clause-ran : goal.returns-in-Ok-clause-ran
returns-in-Ok-clause-ran g c =
    let words = texts c.args.words.now in
    let before = devices (g.S.Shelf.facts c.args.shelf.now) (sink_facts (g.O.Sink.taken c.args.out.now) (g.O.Sink.faults c.args.out.now)) (sink_facts (g.E.Sink.taken c.args.err.now) (g.E.Sink.faults c.args.err.now)) in
    let middle = devices (g.S.Shelf.facts c.prepare.new.shelf) before.out before.err in
    let now = devices (g.S.Shelf.facts c.finish-answer.new.shelf) (sink_facts (g.O.Sink.taken c.finish-answer.new.out) (g.O.Sink.faults c.finish-answer.new.out)) (sink_facts (g.E.Sink.taken c.report_fault.new.err) (g.E.Sink.faults c.report_fault.new.err)) in
    let came = came_to_work words before middle now c.in-Ok.ending c.finish-answer.result (option_map (λ name. name.now) c.put_name.result) c.in-Ok.ensures.prepared c.in-Ok.ensures.reads c.in-Ok.ensures.counts refl c.put_name.ensures
    (c.finish-answer.ensures before.err now.err) in
    ran_ok words before middle now c.in-Ok.ending c.finish-answer.result came c.report_fault.ensures

pub returns-in-Ok-clause-settled : goal.returns-in-Ok-clause-settled
returns-in-Ok-clause-settled g c =
    let words = texts c.args.words.now in
    let before = devices (g.S.Shelf.facts c.args.shelf.now) (sink_facts (g.O.Sink.taken c.args.out.now) (g.O.Sink.faults c.args.out.now)) (sink_facts (g.E.Sink.taken c.args.err.now) (g.E.Sink.faults c.args.err.now)) in
    let middle = devices (g.S.Shelf.facts c.prepare.new.shelf) before.out before.err in
    let now = devices (g.S.Shelf.facts c.finish-answer.new.shelf) (sink_facts (g.O.Sink.taken c.finish-answer.new.out) (g.O.Sink.faults c.finish-answer.new.out)) (sink_facts (g.E.Sink.taken c.report_fault.new.err) (g.E.Sink.faults c.report_fault.new.err)) in
    let came = came_to_work words before middle now c.in-Ok.ending c.finish-answer.result (option_map (λ name. name.now) c.put_name.result) c.in-Ok.ensures.prepared c.in-Ok.ensures.reads c.in-Ok.ensures.counts refl c.put_name.ensures
    (c.finish-answer.ensures before.err now.err) in
    settles_ok words before middle now c.in-Ok.ending c.finish-answer.result came

pub returns-in-Ok-clause-keeps : goal.returns-in-Ok-clause-keeps
returns-in-Ok-clause-keeps g c =
    let words = texts c.args.words.now in
    let before = devices (g.S.Shelf.facts c.args.shelf.now) (sink_facts (g.O.Sink.taken c.args.out.now) (g.O.Sink.faults c.args.out.now)) (sink_facts (g.E.Sink.taken c.args.err.now) (g.E.Sink.faults c.args.err.now)) in
    let middle = devices (g.S.Shelf.facts c.prepare.new.shelf) before.out before.err in
    let now = devices (g.S.Shelf.facts c.finish-answer.new.shelf) (sink_facts (g.O.Sink.taken c.finish-answer.new.out) (g.O.Sink.faults c.finish-answer.new.out)) (sink_facts (g.E.Sink.taken c.report_fault.new.err) (g.E.Sink.faults c.report_fault.new.err)) in
    let came = came_to_work words before middle now c.in-Ok.ending c.finish-answer.result (option_map (λ name. name.now) c.put_name.result) c.in-Ok.ensures.prepared c.in-Ok.ensures.reads c.in-Ok.ensures.counts refl c.put_name.ensures
    (c.finish-answer.ensures before.err now.err) in
    keeps_ok words before middle now c.in-Ok.ending c.finish-answer.result came

pub returns-in-Ok-clause-keeps_out : goal.returns-in-Ok-clause-keeps_out
returns-in-Ok-clause-keeps_out g c =
    let words = texts c.args.words.now in
    let before = devices (g.S.Shelf.facts c.args.shelf.now) (sink_facts (g.O.Sink.taken c.args.out.now) (g.O.Sink.faults c.args.out.now)) (sink_facts (g.E.Sink.taken c.args.err.now) (g.E.Sink.faults c.args.err.now)) in
    let middle = devices (g.S.Shelf.facts c.prepare.new.shelf) before.out before.err in
    let now = devices (g.S.Shelf.facts c.finish-answer.new.shelf) (sink_facts (g.O.Sink.taken c.finish-answer.new.out) (g.O.Sink.faults c.finish-answer.new.out)) (sink_facts (g.E.Sink.taken c.report_fault.new.err) (g.E.Sink.faults c.report_fault.new.err)) in
    let came = came_to_work words before middle now c.in-Ok.ending c.finish-answer.result (option_map (λ name. name.now) c.put_name.result) c.in-Ok.ensures.prepared c.in-Ok.ensures.reads c.in-Ok.ensures.counts refl c.put_name.ensures
    (c.finish-answer.ensures before.err now.err) in
    keeps_out_ok words before middle now c.in-Ok.ending c.finish-answer.result came

pub returns-in-Ok-clause-files : goal.returns-in-Ok-clause-files
returns-in-Ok-clause-files g c =
    let words = texts c.args.words.now in
    let before = devices (g.S.Shelf.facts c.args.shelf.now) (sink_facts (g.O.Sink.taken c.args.out.now) (g.O.Sink.faults c.args.out.now)) (sink_facts (g.E.Sink.taken c.args.err.now) (g.E.Sink.faults c.args.err.now)) in
    let middle = devices (g.S.Shelf.facts c.prepare.new.shelf) before.out before.err in
    let now = devices (g.S.Shelf.facts c.finish-answer.new.shelf) (sink_facts (g.O.Sink.taken c.finish-answer.new.out) (g.O.Sink.faults c.finish-answer.new.out)) (sink_facts (g.E.Sink.taken c.report_fault.new.err) (g.E.Sink.faults c.report_fault.new.err)) in
    let came = came_to_work words before middle now c.in-Ok.ending c.finish-answer.result (option_map (λ name. name.now) c.put_name.result) c.in-Ok.ensures.prepared c.in-Ok.ensures.reads c.in-Ok.ensures.counts refl c.put_name.ensures
    (c.finish-answer.ensures before.err now.err) in
    files_ok words before middle now c.in-Ok.ending c.finish-answer.result came

pub returns-in-Ok-clause-usage : goal.returns-in-Ok-clause-usage
returns-in-Ok-clause-usage g c = λ e.
    let quiet = sink_facts None 0 in
    let done = c.in-Ok.ensures.prepared.finishes in
    absurd (no_usage c.finish-answer.result (last_of done.work c.in-Ok.ending c.finish-answer.result done.ends (c.finish-answer.ensures quiet quiet).either) e)

pub returns-in-Ok-clause-read_fault : goal.returns-in-Ok-clause-read_fault
returns-in-Ok-clause-read_fault g c = λ file e.
    let quiet = sink_facts None 0 in
    let done = c.in-Ok.ensures.prepared.finishes in
    absurd (no_read_fault c.finish-answer.result file (last_of done.work c.in-Ok.ending c.finish-answer.result done.ends (c.finish-answer.ensures quiet quiet).either) e)

pub finish-answer-requires-clause-answer : goal.finish-answer-requires-clause-answer
finish-answer-requires-clause-answer g c =
    let done = c.in-Ok.ensures.prepared.finishes in
    end_of done.work c.in-Ok.ending.answer c.in-Ok.ending done.ends

pub returns-in-Err-clause-settled : goal.returns-in-Err-clause-settled
returns-in-Err-clause-settled g c = λ outcome known held none.
    let prepared = c.in-Err.ensures.prepared in
    settled_err (g.S.Shelf.facts c.args.shelf.now) (g.S.Shelf.facts c.prepare.new.shelf) (texts c.args.words.now) prepared.found c.in-Err.refusal.answer outcome prepared.is_found prepared.only known held none.reads

pub returns-in-Err-clause-ran : goal.returns-in-Err-clause-ran
returns-in-Err-clause-ran g c =
    let prepared = c.in-Err.ensures.prepared in
    record {
      found = prepared.found;
      is_found = prepared.is_found;
      concludes = concludes_err prepared.found (texts c.args.words.now) _ _ c.in-Err.refusal.answer prepared.finishes c.in-Err.ensures.refusal (record { contents = c.in-Err.ensures.reads.same; out = refl });
      names = names_of c.in-Err.refusal.inputs;
      named = has_names prepared.found c.in-Err.refusal (λ cites. prepared.named c.in-Err.refusal refl cites);
      line = line_with _ _ c.in-Err.refusal.answer _ c.in-Err.refusal.inputs c.as_ref.ensures.value c.report_fault-in-Err.ensures;
    }
