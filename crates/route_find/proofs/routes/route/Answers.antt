use Rattle.std.proofs.Common.{◌∙◌, arith, inl, inr, eq-eqb}
use Rattle.std.proofs.lemmas.Bool.{false≢true}
use Rattle.trap_model.proofs.Within.{channels_within}
use Rattle.route_find.proofs.Following.{ends_within}
use Rattle.route_find.proofs.routes.route.Goals as goal

pub returns-then-to-places-clause-route : goal.returns-then-to-places-clause-route
returns-then-to-places-clause-route c = λ reached. elim (ends_within c.args.trap.now reached.0 c.args.from.0 c.args.to.0 (channels_within c.args.trap.now c.places.ensures.trap) reached.1) [
  | inl same ↦ absurd (false≢true (c.if-eq.ensures ∙ eq-eqb c.args.from.0 c.args.to.0 same))
  | inr below ↦ absurd (omega (arith, below, c.places.ensures.places, c.if-to-places.true))
]
