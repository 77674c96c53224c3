use Rattle.std.proofs.Common.{Err, ap}
use Rattle.std.specs.Option.{option_map}
use Rattle.put_file.specs.declared.put_fault.PutFault.{PutFault}
use Rattle.program_run.specs.Run.{sink_facts}
use Rattle.program_run.proofs.Finishing.{finished_ok, finished_err}
use Rattle.program_run.proofs.command.finish.Goals as goal

pub returns-in-Ok : goal.returns-in-Ok
returns-in-Ok g c = λ err err_now.
    let put = c.in-Ok.ensures in
    finished_ok (option_map (λ name. name.now) c.args.name) c.args.ending (g.S.Shelf.facts c.args.shelf.now) (g.S.Shelf.facts c.put_under.new.shelf)
    (sink_facts (g.O.Sink.taken c.args.out.now) (g.O.Sink.faults c.args.out.now)) (sink_facts (g.O.Sink.taken c.written.new.out) (g.O.Sink.faults c.written.new.out)) err err_now c.written.result
    put.holds put.counts put.files c.requires.answer c.written.ensures

pub returns-in-Err-Failed : goal.returns-in-Err-Failed
returns-in-Err-Failed g c = λ err err_now.
    finished_err (option_map (λ name. name.now) c.args.name) c.args.ending (g.S.Shelf.facts c.args.shelf.now) (g.S.Shelf.facts c.put_under.new.shelf)
    (sink_facts (g.O.Sink.taken c.args.out.now) (g.O.Sink.faults c.args.out.now)) err err_now (c.in-Err-Failed.ensures.failed (ap (λ (fault : PutFault). Err fault) c.in-Err-Failed.field-0-is)) c.in-Err-Failed.ensures.files
