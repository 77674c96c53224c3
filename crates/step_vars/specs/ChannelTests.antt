-- Tests of channels by where they lead.
use Rattle.std.specs.Prelude.{Bool, nat_lt, not}
use Rattle.trap_model.specs.Channels.{is_through, splits, merges}
use Rattle.trap_model.specs.declared.channel.Channel.{Channel}
use Rattle.step_vars.specs.Lists.{begins_at, ends_at, touches}
use Rattle.step_vars.specs.declared.channel_test.ChannelTest.{ChannelTest}
use Rattle.step_vars.specs.declared.channel_test.ChannelTest.TheVariants.{From, Into, Touching, Through, FromSlot, IntoSlot, Splits, Merges}

abbrev pub passes : ChannelTest → Channel → Bool
passes (From place) = begins_at place.0
passes (Into place) = ends_at place.0
passes (Touching place) = touches place.0
passes (Through junction) = is_through junction.0
passes (FromSlot zones) = λ channel. not (nat_lt channel.from.0 zones)
passes (IntoSlot zones) = λ channel. not (nat_lt channel.to.0 zones)
passes Splits = λ channel. splits channel.kind
passes Merges = λ channel. merges channel.kind
