use Rattle.std.proofs.Common.{List, ℕ, subst}
use Rattle.std.specs.Prelude.{codes, OnOk, OnErr}
use Rattle.std.specs.List.{flat_map}
use Rattle.qc_base.specs.Sink.{Took, TookPart}
use Rattle.run_answers.proofs.Writing.{on_fault, on_both, on_second, part_of_first, texts_are}
use Rattle.run_answers.proofs.line.Line.write_front.Goals as goal

pub returns-in_err-write_all-clause-err : goal.returns-in_err-write_all-clause-err
returns-in_err-write_all-clause-err g c =
    let sink = g.K.Sink in
    on_fault c.from_residual.result
    (part_of_first (sink.taken c.args.sink.now) (sink.taken c.write_all.new.sink) (codes "qccd: ") (flat_map (λ (t : List ℕ). t) c.args.self.now) c.in_err-write_all.ensures.err)

pub returns-clause-ok : goal.returns-clause-ok
returns-clause-ok g c =
    let sink = g.K.Sink in
    let texts = texts_are c.self.inside.pieces.items c.as_slice.result.now c.args.self.now c.as_slice.ensures.value c.self.view_is in
    on_both c.write_pieces.result (sink.taken c.args.sink.now) (sink.taken c.write_all.new.sink) (sink.taken c.write_pieces.new.sink) (codes "qccd: ") (flat_map (λ (t : List ℕ). t) c.args.self.now) c.in_ok-write_all.ensures.ok
    (subst (λ (l : List ℕ). OnOk c.write_pieces.result (Took (sink.taken c.write_all.new.sink) (sink.taken c.write_pieces.new.sink) l)) texts c.write_pieces.ensures.ok)

pub returns-clause-err : goal.returns-clause-err
returns-clause-err g c =
    let sink = g.K.Sink in
    let texts = texts_are c.self.inside.pieces.items c.as_slice.result.now c.args.self.now c.as_slice.ensures.value c.self.view_is in
    on_second c.write_pieces.result (sink.taken c.args.sink.now) (sink.taken c.write_all.new.sink) (sink.taken c.write_pieces.new.sink) (codes "qccd: ") (flat_map (λ (t : List ℕ). t) c.args.self.now) c.in_ok-write_all.ensures.ok
    (subst (λ (l : List ℕ). OnErr c.write_pieces.result (TookPart (sink.taken c.write_all.new.sink) (sink.taken c.write_pieces.new.sink) l)) texts c.write_pieces.ensures.err)
