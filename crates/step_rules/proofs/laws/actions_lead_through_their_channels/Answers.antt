use Rattle.step_rules.proofs.Leading.{leads_through}
use Rattle.step_rules.proofs.laws.actions_lead_through_their_channels.Goals as goal

pub returns : goal.returns
returns c trap number count channel sound at = leads_through trap number count channel sound at
