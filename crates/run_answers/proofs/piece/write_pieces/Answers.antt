use Rattle.std.proofs.Common.{[]}
use Rattle.run_answers.specs.declared.piece.Piece.TheVariants.{Text}
use Rattle.run_answers.specs.Line.{piece_text}
use Rattle.run_answers.proofs.Writing.{on_fault, part_of_pieces}
use Rattle.run_answers.proofs.piece.write_pieces.Goals as goal

pub returns-in_err-write_to-clause-err : goal.returns-in_err-write_to-clause-err
returns-in_err-write_to-clause-err g c =
    let sink = g.K.Sink in
    on_fault c.from_residual.result (part_of_pieces piece_text c.args.pieces.now c.loop-piece.piece-index (Text (record { ref_ptr = (0, 0); now = [] }))
    (sink.taken c.args.sink.now) (sink.taken c.loop-piece.sink) (sink.taken c.write_to.new.sink) c.loop-piece-test.true c.loop-piece.invariant.took c.in_err-write_to.ensures.err)
