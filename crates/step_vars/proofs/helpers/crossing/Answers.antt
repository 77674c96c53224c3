use Rattle.trap_model.proofs.Count.{few_channels}
use Rattle.step_vars.proofs.helpers.crossing.Goals as goal

pub count-requires : goal.count-requires
count-requires c = rw c.channels.ensures.channels (few_channels c.args.trap.now c.channels.ensures.trap)
