use Rattle.std.proofs.Common.{◌≡◌, ℕ, ◌<◌, length, sym, ap, subst, ◌∙◌}
use Rattle.std.specs.Prelude.{Option, IsSome}
use Rattle.trap_parts.specs.Parts.{TrapValue}
use Rattle.trap_model.specs.Channels.{channels_of}
use Rattle.greedy_router.specs.Routing.{MapValue}
use Rattle.greedy_router.proofs.Routes.{route_begins}
use Rattle.greedy_router.proofs.Rounds.{distances_to, first_channel, place_apart}
use Rattle.greedy_router.proofs.map.Map.exit.Goals as goal

pub unwrap-number-requires : goal.unwrap-number-requires
unwrap-number-requires c =
    subst (λ (found : Option ℕ). IsSome found) (sym c.next.ensures)
    (route_begins c.args.self.now c.index.result.now c.args.from.0 c.args.to.0 c.requires.map c.requires.from c.requires.to (place_apart c.args.from c.args.to c.requires.apart)
    (distances_to c.args.self.now c.self.inside.zone_distances.items c.args.to.0 c.index.result.now c.requires.map (ap (λ (m : MapValue). m.zone_distances) c.self.view_is) c.requires.to c.index.ensures))

pub bounds-channels-number : goal.bounds-channels-number
bounds-channels-number c =
    let len : length c.channels.result.now ≡ length (channels_of c.args.self.now.setting.trap) =
    ap length c.channels.ensures.channels ∙ ap (λ (t : TrapValue). length (channels_of t)) c.trap.ensures in
    subst (λ (n : ℕ). c.unwrap-number.result < n) (sym len)
    (first_channel c.args.self.now c.index.result.now c.args.from.0 c.args.to.0 c.unwrap-number.result c.requires.map
    (distances_to c.args.self.now c.self.inside.zone_distances.items c.args.to.0 c.index.result.now c.requires.map (ap (λ (m : MapValue). m.zone_distances) c.self.view_is) c.requires.to c.index.ensures)
    (sym c.next.ensures ∙ c.unwrap-number.ensures))
