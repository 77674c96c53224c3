use Rattle.std.proofs.Common.{◌∙◌, ap, Err, arith}
use Rattle.std.proofs.lemmas.Result.{err_from_is_err_and}
use Rattle.verify_core.proofs.Judging.{refused, not_played, few_actions}
use Rattle.verify_core.proofs.judge.check.Goals as goal

pub returns-in_err-placement-clause-judged : goal.returns-in_err-placement-clause-judged
returns-in_err-placement-clause-judged c =
    let p = err_from_is_err_and c.from_residual.result c.from_residual.ensures.1 in
    refused c.args.trap.now c.args.circuit.now c.args.text.now c.in_err-placement.field-0.0 c.from_residual.result c.in_err-placement.ensures.fault (p.1 ∙ ap Err p.2)

pub returns-in_err-play-clause-judged : goal.returns-in_err-play-clause-judged
returns-in_err-play-clause-judged c =
    let p = err_from_is_err_and c.from_residual-in_err-play.result c.from_residual-in_err-play.ensures.1 in
    let read = c.in_ok-placement in
    not_played c.args.trap.now c.args.circuit.now c.args.text.now read.placement read.schedule c.in_err-play.field-0.0 c.from_residual-in_err-play.result
    (record { spells = read.ensures.found; only = read.ensures.only }) c.in_err-play.ensures.fault (p.1 ∙ ap Err p.2)

pub returns-clause-judged : goal.returns-clause-judged
returns-clause-judged c =
    let read = c.in_ok-placement in
    record { text = record { spells = read.ensures.found; only = read.ensures.only }; plays = c.in_ok-play.ensures.plays }

pub returns-clause-few : goal.returns-clause-few
returns-clause-few c =
    omega (arith, few_actions c.args.trap.now c.args.circuit.now c.in_ok-placement.placement c.in_ok-placement.schedule c.args.text.now c.in_ok-placement.ensures.found)
