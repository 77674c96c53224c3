use Rattle.trap_model.proofs.Count.{few_channels}
use Rattle.clause_families.proofs.tables.channels_of.Goals as goal

pub returns-clause-few : goal.returns-clause-few
returns-clause-few c = rw c.channels.ensures.channels (few_channels c.args.trap.now c.channels.ensures.trap)
