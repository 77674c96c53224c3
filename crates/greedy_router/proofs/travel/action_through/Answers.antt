use Rattle.std.proofs.Common.{sym, ap, subst, ◌∙◌}
use Rattle.step_rules.specs.ActionChannel.{channel_for}
use Rattle.greedy_router.specs.Serial.{IsSingle}
use Rattle.greedy_router.specs.Traffic.{carries}
use Rattle.greedy_router.proofs.Carrying.{leads_read, carries_by, single_by}
use Rattle.greedy_router.proofs.travel.action_through.Goals as goal

pub returns-clause-channel : goal.returns-clause-channel
returns-clause-channel c = ap (channel_for c.args.trap.now) c.through.ensures ∙ leads_read c.args.trap.now c.args.number c.channels.result.now _ c.channels.ensures.trap c.channels.ensures.channels c.requires

pub returns-clause-carries : goal.returns-clause-carries
returns-clause-carries c = ap carries c.through.ensures ∙ carries_by _ _ _

pub returns-clause-single : goal.returns-clause-single
returns-clause-single c = subst IsSingle (sym c.through.ensures) (single_by _ _ _)
