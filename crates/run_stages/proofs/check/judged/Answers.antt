use Rattle.run_stages.proofs.Judgements.{judged_ok}
use Rattle.run_stages.proofs.check.judged.Goals as goal

pub returns-in-Ok-said-clause-done : goal.returns-in-Ok-said-clause-done
returns-in-Ok-said-clause-done c =
    judged_ok c.args.inputs.now c.args.bytes.now c.args.saying c.in-Ok.checked c.in-Ok-said.text c.written.result c.in-Ok.ensures.judged c.in-Ok-said.ensures c.written.ensures
