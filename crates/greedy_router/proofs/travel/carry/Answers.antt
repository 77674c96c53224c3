use Rattle.std.proofs.Common.{◌≡◌, ◌<◌, length, ap, sym, ◌∙◌}
use Rattle.trap_model.specs.Channels.{channels_of}
use Rattle.step_rules.specs.Setting.{SettingValue}
use Rattle.route_find.proofs.Following.{next_within, followed_falls}
use Rattle.greedy_router.proofs.Carrying.{goes_through, next_carries, next_reached, at_target}
use Rattle.std.proofs.Common.{refl}
use Rattle.greedy_router.proofs.travel.carry.Goals as goal

pub pass-requires-clause-there : goal.pass-requires-clause-there
pass-requires-clause-there c =
    next_within c.args.setting.now.trap c.args.distances.now c.loop-number.place.0 c.in-Some.number (channels_of c.args.setting.now.trap) c.requires.distances (sym c.in-Some.ensures) refl

pub pass-requires-clause-free : goal.pass-requires-clause-free
pass-requires-clause-free c =
    goes_through c.args.setting.now c.args.played.now c.loop-number.played c.args.distances.now c.args.ion.0 c.args.from.0 c.loop-number.place.0 c.in-Some.number c.requires.trap c.requires.played c.requires.calm
    c.requires.present c.requires.free c.requires.distances (sym c.in-Some.ensures) c.loop-number.invariant.carries

pub bounds-channels-number : goal.bounds-channels-number
bounds-channels-number c =
    let same : c.channels.result.now ≡ channels_of c.args.setting.now.trap = c.channels.ensures.channels ∙ ap (λ (s : SettingValue). channels_of s.trap) c.setting.view_is in
    next_within c.args.setting.now.trap c.args.distances.now c.loop-number.place.0 c.in-Some.number c.channels.result.now c.requires.distances (sym c.in-Some.ensures) same

pub loop-number-smaller : goal.loop-number-smaller
loop-number-smaller c =
    let same : c.channels.result.now ≡ channels_of c.args.setting.now.trap = c.channels.ensures.channels ∙ ap (λ (s : SettingValue). channels_of s.trap) c.setting.view_is in
    followed_falls c.args.setting.now.trap c.args.distances.now c.loop-number.place.0 c.in-Some.number c.channels.result.now _ c.requires.distances (sym c.in-Some.ensures) same

pub loop-number-preserved : goal.loop-number-preserved
loop-number-preserved c =
    let same : c.channels.result.now ≡ channels_of c.args.setting.now.trap = c.channels.ensures.channels ∙ ap (λ (s : SettingValue). channels_of s.trap) c.setting.view_is in
    let within : c.in-Some.number < length (channels_of c.args.setting.now.trap) =
    next_within c.args.setting.now.trap c.args.distances.now c.loop-number.place.0 c.in-Some.number (channels_of c.args.setting.now.trap) c.requires.distances (sym c.in-Some.ensures) refl in
    record {
      carries = next_carries c.args.setting.now c.args.played.now c.loop-number.played c.pass.new.played c.args.distances.now c.args.ion.0 c.args.from.0 c.loop-number.place.0 c.in-Some.number c.channels.result.now _
          c.requires.distances (sym c.in-Some.ensures) same within c.loop-number.invariant.carries c.in_ok-pass.ensures;
      reached = next_reached c.args.setting.now.trap c.args.distances.now c.loop-number.place.0 c.in-Some.number c.channels.result.now _ c.requires.distances (sym c.in-Some.ensures) same within;
    }

pub returns : goal.returns
returns c =
    at_target c.args.setting.now c.args.played.now c.loop-number.played c.args.distances.now c.args.ion.0 c.args.from.0 c.loop-number.place.0 c.requires.distances c.loop-number.invariant.reached
    (sym c.next.ensures ∙ c.in_default.is) c.loop-number.invariant.carries
