use Rattle.trap_read.proofs.Answered.{labels_for_each}
use Rattle.trap_read.proofs.laws.labels_for_each_zone.Goals as goal

pub returns : goal.returns
returns c = labels_for_each
