-- The action of a channel leads through it.
use Rattle.std.proofs.Common.{◌≡◌, ℕ, None, Some, sym, ap, ◌∙◌}
use Rattle.std.specs.Prelude.{Option, slice_get}
use Rattle.qc_base.specs.declared.ids.JunctionId.{JunctionId}
use Rattle.trap_parts.specs.Parts.{TrapValue}
use Rattle.trap_parts.specs.Build.{IsTrap}
use Rattle.trap_model.specs.Channels.{channels_of, channel_at, number_by}
use Rattle.trap_model.specs.declared.channel.Channel.{Channel}
use Rattle.trap_model.specs.declared.channel.Kind.{Kind}
use Rattle.trap_model.specs.declared.channel.Kind.TheVariants.{Split, Move, Cross, Merge}
use Rattle.trap_model.proofs.Docks.{split_leads, merge_leads}
use Rattle.trap_model.proofs.Moves.{move_leads}
use Rattle.trap_model.proofs.Crosses.{cross_leads}
use Rattle.trap_model.proofs.Numbers.{own_number}
use Rattle.step_rules.specs.ActionChannel.{channel_for, action_by, action_through}

leads_by : (trap : TrapValue) (kind : Kind) (crossed : Option JunctionId) (channel : Channel) (count number : ℕ) → number_by trap kind crossed channel ≡ Some number
    → channel_for trap (action_by kind crossed channel count) ≡ channel_at trap (Some number)
leads_by trap Split crossed channel count number is = sym (split_leads trap channel.from.0 channel.from_end) ∙ ap (channel_at trap) is
leads_by trap Move crossed channel count number is = sym (move_leads trap channel.from.0 channel.to.0) ∙ ap (channel_at trap) is
leads_by trap Cross None channel count number is = absurd cc
leads_by trap Cross (Some crossed) channel count number is = sym (cross_leads trap crossed.0 channel.from.0 channel.to.0) ∙ ap (channel_at trap) is
leads_by trap Merge crossed channel count number is = sym (merge_leads trap channel.to.0 channel.to_end) ∙ ap (channel_at trap) is

pub leads_through : (trap : TrapValue) (number count : ℕ) (channel : Channel) → IsTrap trap → slice_get (channels_of trap) number ≡ Some channel
    → channel_for trap (action_through channel count) ≡ Some channel
leads_through trap number count channel sound at = leads_by trap channel.kind channel.junction channel count number (own_number trap number channel sound at) ∙ at
