use Rattle.certificate_lines.proofs.LineText.{at_found}
use Rattle.lrat_out.proofs.Judging.{consistent_negated}
use Rattle.lrat_out.proofs.checking.take_line.Goals as goal

pub propagates-requires-clause-consistent : goal.propagates-requires-clause-consistent
propagates-requires-clause-consistent c =
    let form = at_found c.in_ok-read.read _ _ c.in-Some.is c.in_ok-read.ensures.form in
    let trues = at_found c.in_ok-read.read _ _ c.in-Some.is c.in_ok-read.ensures.trues in
    consistent_negated c.read_line.new.trues c.read_line.new.lits.items trues form.distinct
