use Rattle.std.proofs.Common.{◌≡◌, ◌≤◌, length, take}
use Rattle.std.specs.Prelude.{filter}
use Rattle.step_vars.specs.ChannelTests.{passes}
use Rattle.step_vars.proofs.channel_test.ChannelTest.count.Given as goal

abbrev pub invariant-loop-channel : goal.invariant-loop-channel
invariant-loop-channel l = record {
  counted : l.count ≡ length (filter (passes l.self) (take l.channel-index l.channels));
  few : l.count ≤ l.channel-index;
}
