use Rattle.std.proofs.Common.{length, arith, ap, subst}
use Rattle.trap_model.specs.declared.channel.Channel.{Channel}
use Rattle.std.specs.Prelude.{List}
use Rattle.trap_model.proofs.Count.{few_channels}
use Rattle.route_find.specs.Search.{IsFound}
use Rattle.route_find.proofs.Walking.{found_distances}
use Rattle.route_find.proofs.distances.Distances.to.Goals as goal

pub search-requires-clause-few : goal.search-requires-clause-few
search-requires-clause-few c = omega (arith, ap (λ (l : List Channel). length l) c.channels.ensures.channels, few_channels c.args.trap.now c.channels.ensures.trap)

pub returns-clause-distances : goal.returns-clause-distances
returns-clause-distances c =
    found_distances c.args.trap.now c.args.target.0 c.in_ok-rows.rows.items
    (subst (λ (l : List Channel). IsFound l c.args.target.0 c.in_ok-rows.rows.items) c.channels.ensures.channels c.in_ok-rows.ensures)
