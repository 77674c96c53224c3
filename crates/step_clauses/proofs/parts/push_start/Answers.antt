use Rattle.std.proofs.Common.{ap, sym, subst, ◌++◌, ◌∙◌}
use Rattle.step_vars.specs.Encoding.{start_clauses}
use Rattle.clause_families.specs.Encoded.{AreEncodedClauses}
use Rattle.step_clauses.proofs.Ready.{start_ready}
use Rattle.step_clauses.proofs.parts.push_start.Goals as goal

pub push_clauses-requires : goal.push_clauses-requires
push_clauses-requires c =
    let v = c.args.vars.now in
    let s = c.args.setting.now in
    subst (AreEncodedClauses v) (sym (c.items.ensures ∙ c.in_ok-add_start.ensures ∙ ap (λ xs. xs ++ start_clauses s) c.new-clauses.ensures)) (start_ready v s c.requires.vars c.requires.tables.within)
