use Rattle.trap_parts.specs.Parts.{lists}
use Rattle.trap_model.proofs.Within.{channels_within}
use Rattle.trap_model.proofs.trap.Trap.channels.Goals as goal

pub returns-clause-within : goal.returns-clause-within
returns-clause-within c = rw (← c.self.view_is, c.as_slice.ensures.value, c.self.invariant.all_channels) (channels_within (lists c.self.inside.parts) c.self.invariant.sound)
