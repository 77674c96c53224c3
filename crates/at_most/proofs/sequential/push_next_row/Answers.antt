use Rattle.std.proofs.Common.{◌+◌, ◌-◌, [], ◌∷◌, ◌++◌}
use Rattle.sat_base.specs.Literal.{positive_of, negative_of, negated}
use Rattle.at_most.specs.AtMost.{AddsPrefix}
use Rattle.at_most.specs.Sequential.{carried, no_more, next_row}
use Rattle.at_most.proofs.Emitted.{emitted_none, emitted_within, on_err}
use Rattle.at_most.proofs.sequential.push_next_row.Goals as goal

pub returns-in_err-push_both-clause-err : goal.returns-in_err-push_both-clause-err
returns-in_err-push_both-clause-err c =
    let here = c.args.row + c.args.k in
    let all = next_row c.args.lit c.args.row here c.args.k in
    let two = (negated c.args.lit ∷ positive_of here ∷ []) ∷ (negative_of c.args.row ∷ positive_of here ∷ []) ∷ [] in
    let rest = carried c.args.lit c.args.row here (c.args.k - 1) ++ no_more c.args.lit c.args.row c.args.k ∷ [] in
    let part = rw (c.negated.ensures, c.new.ensures, c.new-one.ensures) at c.in_err-push_both.ensures.err in
    on_err c.from_residual.result (AddsPrefix c.args.out.now c.push_both.new.out all)
    (emitted_within c.args.out.now c.args.out.now c.push_both.new.out all two rest (emitted_none c.args.out.now all) part)
