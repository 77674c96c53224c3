use Rattle.std.proofs.Common.{◌≡◌, ◌≤◌, List, length, Some, sym, ap, subst, ◌∙◌, arith}
use Rattle.std.specs.Prelude.{slice_get}
use Rattle.qc_base.specs.declared.ids.PlaceId.{PlaceId}
use Rattle.step_rules.specs.Setting.{SettingValue}
use Rattle.step_rules.specs.Placement.{start_of}
use Rattle.greedy_router.specs.Places.{AreHomes}
use Rattle.greedy_router.proofs.Beginning.{homes_start, length-homes}
use Rattle.greedy_router.proofs.Rounds.{homes_step, homes_done}
use Rattle.greedy_router.proofs.homes.homes.Goals as goal

pub loop-zone-preserved : goal.loop-zone-preserved
loop-zone-preserved c =
    let there : slice_get c.args.setting.now.placement c.loop-zone.zone ≡ Some c.list.result.now = ap (λ (s : SettingValue). slice_get s.placement c.loop-zone.zone) (sym c.setting.view_is) ∙ c.list.ensures in
    homes_step c.args.setting.now.placement c.loop-zone.homes.items c.settle.new.homes.items c.loop-zone.zone c.list.result.now there c.in_ok-settle.ensures c.loop-zone.invariant

pub returns-clause-homes : goal.returns-clause-homes
returns-clause-homes c =
    let zones : length c.zones.result.now ≡ length c.args.setting.now.trap.zones = ap length c.zones.ensures.zones ∙ ap (λ (s : SettingValue). length s.trap.zones) c.setting.view_is in
    let past : length c.args.setting.now.placement ≤ c.loop-zone.zone = omega (arith, c.requires.zones, zones, c.loop-zone-test.false) in
    let done = homes_done c.args.setting.now.placement c.loop-zone.homes.items c.loop-zone.zone c.loop-zone.invariant past in
    subst (λ (homes : List PlaceId). AreHomes c.args.setting.now.trap (start_of c.args.setting.now.trap c.args.setting.now.placement) homes) (sym done) (homes_start c.args.setting.now c.requires)

pub returns-clause-len : goal.returns-clause-len
returns-clause-len c =
    let zones : length c.zones.result.now ≡ length c.args.setting.now.trap.zones = ap length c.zones.ensures.zones ∙ ap (λ (s : SettingValue). length s.trap.zones) c.setting.view_is in
    let past : length c.args.setting.now.placement ≤ c.loop-zone.zone = omega (arith, c.requires.zones, zones, c.loop-zone-test.false) in
    let done = homes_done c.args.setting.now.placement c.loop-zone.homes.items c.loop-zone.zone c.loop-zone.invariant past in
    ap length done ∙ length-homes 0 c.args.setting.now.placement
