use Rattle.std.proofs.Common.{sym, subst}
use Rattle.sat_base.proofs.Sets.{HasDistinctVariables-ascending}
use Rattle.derivation_log.specs.Log.{Lines, Derived, Follows}
use Rattle.derivation_log.proofs.Logs.{IsSound-derived}
use Rattle.derivation_log.proofs.log.Log.add.Goals as goal

pub push-requires : goal.push-requires
push-requires c = HasDistinctVariables-ascending c.args.clause.now c.requires.ascending

pub invariant_of-self-2 : goal.invariant_of-self-2
invariant_of-self-2 c =
    let line : Derived = record { clause = c.args.clause.now; hints = c.args.hints.now } in
    let follows = subst (λ (log : Lines). Follows log line) (sym c.self.view_is) c.requires in
    rw c.in_ok-push.ensures.ok (IsSound-derived c.self.inside.axioms c.self.inside.derived line c.self.invariant follows)
