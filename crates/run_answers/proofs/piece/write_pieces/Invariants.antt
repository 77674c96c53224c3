use Rattle.std.proofs.Common.{◌≡◌, take}
use Rattle.std.specs.List.{flat_map}
use Rattle.qc_base.specs.Sink.{Took}
use Rattle.run_answers.specs.Line.{piece_text}
use Rattle.run_answers.proofs.piece.write_pieces.Given as goal

-- the texts of the pieces up to here were taken, and nothing else
abbrev pub invariant-loop-piece : goal.invariant-loop-piece
invariant-loop-piece g l =
    let sink = g.K.Sink in
    record {
      took : Took (sink.taken l.fn.sink) (sink.taken l.sink) (flat_map piece_text (take l.piece-index l.pieces));
      stays : sink.faults l.sink ≡ sink.faults l.fn.sink;
    }
