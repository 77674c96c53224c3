use Rattle.std.proofs.Common.{◌≡◌, ℕ, length, sym, ap, subst, ◌∙◌, below_more, arith}
use Rattle.std.specs.Prelude.{Option, IsSome}
use Rattle.route_find.specs.Walks.{IsReachable}
use Rattle.step_rules.specs.Setting.{SettingValue}
use Rattle.greedy_router.proofs.Rounds.{zone_apart, zone_reached, none_from}
use Rattle.greedy_router.proofs.has_room.unreached.Goals as goal

pub returns-then-is_none : goal.returns-then-is_none
returns-then-is_none c =
    let zones : length c.zones.result.now ≡ length c.args.setting.now.trap.zones = ap length c.zones.ensures.zones ∙ ap (λ (s : SettingValue). length s.trap.zones) c.setting.view_is in
    zone_apart c.args.setting.now c.args.distances.now c.loop-zone.zone c.requires.distances c.requires.target (omega arith) (sym c.distance.ensures ∙ none_from c.distance.result c.if-is_none.ensures)
    c.loop-zone.invariant

pub loop-zone-preserved : goal.loop-zone-preserved
loop-zone-preserved c =
    below_more (λ (k : ℕ). IsReachable c.args.setting.now.trap 0 k) c.loop-zone.zone c.loop-zone.invariant
    (zone_reached c.args.setting.now.trap c.args.distances.now c.loop-zone.zone c.requires.distances c.requires.target (subst (λ (found : Option ℕ). IsSome found) c.distance.ensures c.if-is_none.ensures))
