use Rattle.std.proofs.Common.{◌≡◌, ℕ, length, Some, refl, ap, sym, subst, ◌∙◌}
use Rattle.std.specs.Prelude.{IsSome, slice_get}
use Rattle.std.proofs.lemmas.Option.{slice_get_read}
use Rattle.route_find.specs.Distances.{distance_at}
use Rattle.step_rules.specs.Setting.{SettingValue}
use Rattle.greedy_router.specs.Routing.{MapValue}
use Rattle.greedy_router.specs.Places.{home_of}
use Rattle.greedy_router.specs.Traffic.{Carries}
use Rattle.greedy_router.proofs.Routes.{distance_known}
use Rattle.greedy_router.proofs.Carrying.{travelled}
use Rattle.greedy_router.proofs.traffic.Traffic.travel.Goals as goal

pub carry-requires-clause-reached : goal.carry-requires-clause-reached
carry-requires-clause-reached c =
    let len : length c.args.map.now.setting.trap.zones ≡ length c.map.inside.zone_distances.items = sym c.requires.map.zone_distances.len ∙ sym (ap (λ (m : MapValue). length m.zone_distances) c.map.view_is) in
    let there : slice_get c.args.map.now.zone_distances c.args.to.0 ≡ Some c.index-distances.result.now =
    ap (λ (m : MapValue). slice_get m.zone_distances c.args.to.0) (sym c.map.view_is)
    ∙ slice_get_read c.map.inside.zone_distances.items (length c.args.map.now.setting.trap.zones) c.args.to.0 c.index-distances.result.now len c.requires.to c.index-distances.ensures in
    subst (λ (place : ℕ). IsSome (distance_at c.index-distances.result.now place)) (sym c.home-from.ensures)
    (distance_known c.args.map.now c.index-distances.result.now (home_of c.args.self.now.homes.items c.args.ion.0) c.args.to.0 c.requires.map ((c.requires.traffic.homes.present c.args.ion.0 c.requires.ion).there) c.requires.to there)

pub returns : goal.returns
returns c =
    let len : length c.args.map.now.setting.trap.zones ≡ length c.map.inside.zone_distances.items = sym c.requires.map.zone_distances.len ∙ sym (ap (λ (m : MapValue). length m.zone_distances) c.map.view_is) in
    let there : slice_get c.args.map.now.zone_distances c.args.to.0 ≡ Some c.index-distances.result.now =
    ap (λ (m : MapValue). slice_get m.zone_distances c.args.to.0) (sym c.map.view_is)
    ∙ slice_get_read c.map.inside.zone_distances.items (length c.args.map.now.setting.trap.zones) c.args.to.0 c.index-distances.result.now len c.requires.to c.index-distances.ensures in
    let target : c.index-distances.result.now.target ≡ c.args.to.0 = (c.requires.map.zone_distances.each c.args.to.0 c.index-distances.result.now there).1 in
    let home : ℕ = home_of c.args.self.now.homes.items c.args.ion.0 in
    let did : Carries c.args.map.now.setting c.args.self.now.played c.carry.new.played c.args.ion.0 home c.args.to.0 =
    subst (λ (s : SettingValue). Carries s c.args.self.now.played c.carry.new.played c.args.ion.0 home c.args.to.0) (ap (λ (m : MapValue). m.setting) c.map.view_is)
    (subst (λ (place : ℕ). Carries c.map.inside.setting.now c.args.self.now.played c.carry.new.played c.args.ion.0 place c.args.to.0) c.home-from.ensures
    (subst (λ (place : ℕ). Carries c.map.inside.setting.now c.args.self.now.played c.carry.new.played c.args.ion.0 c.home-from.result.0 place) target c.in_ok-carry.ensures)) in
    travelled c.args.map.now.setting c.args.self.now _ c.args.ion.0 c.args.to c.requires.traffic c.requires.ion c.requires.to did refl
