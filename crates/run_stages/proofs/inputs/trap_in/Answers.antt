use Rattle.run_stages.proofs.Refusals.{labels_fit}
use Rattle.run_stages.proofs.inputs.trap_in.Goals as goal

pub returns-in-Ok-clause-fits : goal.returns-in-Ok-clause-fits
returns-in-Ok-clause-fits c = labels_fit c.args.bytes.now c.in-Ok.file c.in-Ok.ensures
