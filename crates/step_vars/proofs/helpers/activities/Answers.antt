use Rattle.std.proofs.Common.{ap, sym, length, ◌<◌, ◌≤◌, ◌∙◌, arith}
use Rattle.std.specs.Prelude.{filter}
use Rattle.trap_model.specs.Channels.{channels_of}
use Rattle.trap_model.proofs.Count.{few_channels}
use Rattle.step_rules.specs.Setting.{SettingValue}
use Rattle.step_vars.specs.Lists.{touches}
use Rattle.step_vars.proofs.Limited.{zone_counted, slot_counted}
use Rattle.step_vars.proofs.helpers.activities.Goals as goal

pub count-passing-requires : goal.count-passing-requires
count-passing-requires c = rw c.channels.ensures.channels (few_channels c.setting.inside.trap.now c.channels.ensures.trap)

pub returns-then-place-zones-clause-count : goal.returns-then-place-zones-clause-count
returns-then-place-zones-clause-count c =
    let passing = rw c.channels.ensures.channels at c.count-passing.ensures.count in
    let touched = passing ∙ ap (λ (s : SettingValue). length (filter (touches c.args.place.0) (channels_of s.trap))) c.setting.view_is in
    let zones = ap (λ (s : SettingValue). length s.trap.zones) c.setting.view_is in
    let inside : c.args.place.0 < length c.args.setting.now.trap.zones = omega (arith, ap length c.zones.ensures.zones, zones) in
    omega (arith, touched, c.requires.pairs, c.able_ops.ensures.count, zone_counted c.args.setting.now 1 c.args.place.0 inside)

pub returns-else-place-zones-clause-count : goal.returns-else-place-zones-clause-count
returns-else-place-zones-clause-count c =
    let passing = rw c.channels.ensures.channels at c.count-passing.ensures.count in
    let touched = passing ∙ ap (λ (s : SettingValue). length (filter (touches c.args.place.0) (channels_of s.trap))) c.setting.view_is in
    let zones = ap (λ (s : SettingValue). length s.trap.zones) c.setting.view_is in
    let past : length c.args.setting.now.trap.zones ≤ c.args.place.0 = omega (arith, ap length c.zones.ensures.zones, zones) in
    touched ∙ sym (slot_counted c.args.setting.now 1 c.args.place.0 past)
