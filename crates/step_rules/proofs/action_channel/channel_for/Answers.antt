use Rattle.std.proofs.Common.{sym, ap, ◌∙◌}
use Rattle.step_rules.specs.ActionChannel.{channel_for}
use Rattle.step_rules.proofs.action_channel.channel_for.Goals as goal

pub returns-in-Split-clause-channel : goal.returns-in-Split-clause-channel
returns-in-Split-clause-channel c = c.numbered.ensures.channel ∙ c.split_at.ensures.leads ∙ sym (ap (channel_for c.args.trap.now) c.in-Split.is)

pub returns-in-Merge-clause-channel : goal.returns-in-Merge-clause-channel
returns-in-Merge-clause-channel c = c.numbered-in-Merge.ensures.channel ∙ c.merge_at.ensures.leads ∙ sym (ap (channel_for c.args.trap.now) c.in-Merge.is)
