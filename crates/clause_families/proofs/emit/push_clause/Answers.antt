use Rattle.std.proofs.Common.{sym, subst, ◌∙◌}
use Rattle.sat_base.specs.Clauses.{HasDistinctVariables}
use Rattle.clause_families.proofs.Literals.{distinct_clause}
use Rattle.clause_families.proofs.emit.push_clause.Goals as goal

pub push-requires : goal.push-requires
push-requires c =
    subst HasDistinctVariables (sym (c.deref.ensures.value ∙ c.in_ok-lits.ensures)) (distinct_clause c.args.vars.now c.args.claims.now c.requires)
