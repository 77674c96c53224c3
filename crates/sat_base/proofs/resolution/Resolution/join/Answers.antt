use Rattle.std.proofs.Common.{subst}
use Rattle.sat_base.specs.Literal.{Literal}
use Rattle.sat_base.specs.LitSet.{Loses}
use Rattle.sat_base.specs.Resolution.{SoFar, Step}
use Rattle.sat_base.proofs.Sets.{step_by}
use Rattle.sat_base.proofs.Resolving.{leads_after}
use Rattle.sat_base.proofs.resolution.Resolution.join.Goals as goal

pub returns-clause-joins : goal.returns-clause-joins
returns-clause-joins c = λ hints clause.
    let hint = c.args.hint.now in
    let before : SoFar = record { clause = c.self.inside.clause; taken = c.self.inside.taken } in
    let after : SoFar = record { clause = c.add_others.new.self; taken = c.insert.new.self } in
    let loses = subst (λ (l : Literal). Loses c.self.inside.clause l c.remove.new.self) c.negated.ensures c.remove.ensures in
    let step : Step before hint after = step_by before hint c.remove.new.self after.clause after.taken c.in-Some.pivot c.in-Some.ensures.found (c.is_open.ensures.0 c.if-not-is_open.false) c.in_ok-insert.ensures.ok loses c.in_ok-add_others.ensures in
    leads_after c.args.self.now after hint hints clause (subst (λ (s : SoFar). Step s hint after) c.self.view_is step)
