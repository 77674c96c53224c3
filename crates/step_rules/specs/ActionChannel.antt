-- The channel that the ions of an action go through, what is at its two ends, and the action of a channel.
use Rattle.std.specs.Prelude.{ℕ, ◌<◌, List, [], length, Option, None, Some}
use Rattle.std.specs.Option.{option_map_or}
use Rattle.qc_base.specs.declared.ids.Ion.{Ion}
use Rattle.qc_base.specs.declared.ids.JunctionId.{JunctionId}
use Rattle.trap_parts.specs.Parts.{TrapValue}
use Rattle.trap_model.specs.Trap.{limit_of, place_count}
use Rattle.trap_model.specs.Channels.{split_channel, move_channel, cross_channel, merge_channel}
use Rattle.trap_model.specs.declared.channel.Channel.{Channel}
use Rattle.trap_model.specs.declared.channel.Kind.{Kind}
use Rattle.trap_model.specs.declared.channel.Kind.TheVariants.{Split, Move, Cross, Merge}
use Rattle.ion_chain.specs.declared.transfer.Transfer.{Transfer}
use Rattle.ion_chain.specs.Transfer.{list_at}
use Rattle.step_rules.specs.declared.action.Action.{Action}
use Rattle.step_rules.specs.declared.action.Action.TheVariants as actions

-- the channel; a swap and an operation have none
abbrev pub channel_for : TrapValue → Action → Option Channel
channel_for trap (actions.Split zone end count) = split_channel trap zone.0 end
channel_for trap (actions.Move from to) = move_channel trap from.0 to.0
channel_for trap (actions.Cross junction from to) = cross_channel trap junction.0 from.0 to.0
channel_for trap (actions.Merge zone end) = merge_channel trap zone.0 end
channel_for trap (actions.Swap zone index) = None
channel_for trap (actions.Op zone op) = None

-- the action that passes so many ions through a channel of that kind; only a crossing has a junction
abbrev pub action_by : Kind → Option JunctionId → Channel → ℕ → Action
action_by Split junction channel count = actions.Split channel.from channel.from_end count
action_by Move junction channel count = actions.Move channel.from channel.to
action_by Cross (Some junction) channel count = actions.Cross junction channel.from channel.to
action_by Cross None channel count = actions.Move channel.from channel.to
action_by Merge junction channel count = actions.Merge channel.to channel.to_end

abbrev pub action_through : Channel → ℕ → Action
action_through channel count = action_by channel.kind channel.junction channel count

-- the ions of the place where the channel begins
abbrev pub source : List (List Ion) → Option Channel → List Ion
source config channel = option_map_or (λ (it : Channel). list_at config it.from.0) channel []

-- the ions of the place where it ends
abbrev pub target : List (List Ion) → Option Channel → List Ion
target config channel = option_map_or (λ (it : Channel). list_at config it.to.0) channel []

-- the most ions that the place holds where it ends
abbrev pub target_limit : TrapValue → Option Channel → ℕ
target_limit trap channel = option_map_or (λ (it : Channel). limit_of trap it.to.0) channel 0

-- how many of the source's ions the action passes: a split its count, the others all
abbrev pub passing : Action → List Ion → ℕ
passing (actions.Split zone end count) ions = count
passing _ ions = length ions

-- so many ions go through the channel
abbrev pub transfer : Channel → ℕ → Transfer
transfer channel count =
    record {
      from = channel.from;
      from_end = channel.from_end;
      to = channel.to;
      to_end = channel.to_end;
      count = count;
    }

-- both its places are there
pub record IsWithin (trap : TrapValue) (channel : Channel) : Type 0 where
  pub from : channel.from.0 < place_count trap
  pub to : channel.to.0 < place_count trap
