use Rattle.std.proofs.Common.{ℕ, sym, ap, subst}
use Rattle.std.specs.Prelude.{Option, IsSome}
use Rattle.greedy_router.specs.Routing.{MapValue}
use Rattle.greedy_router.proofs.Routes.{distance_known}
use Rattle.greedy_router.proofs.Rounds.{distances_to}
use Rattle.greedy_router.proofs.map.Map.length.Goals as goal

pub unwrap-requires : goal.unwrap-requires
unwrap-requires c =
    subst (λ (found : Option ℕ). IsSome found) (sym c.distance.ensures)
    (distance_known c.args.self.now c.index.result.now c.args.from.0 c.args.to.0 c.requires.map c.requires.from c.requires.to
    (distances_to c.args.self.now c.self.inside.zone_distances.items c.args.to.0 c.index.result.now c.requires.map (ap (λ (m : MapValue). m.zone_distances) c.self.view_is) c.requires.to c.index.ensures))
