use Rattle.std.proofs.Common.{ap, sym, subst, ◌++◌, ◌∙◌}
use Rattle.at_most.proofs.Emitted.{on_ok_also, on_err_also}
use Rattle.std.proofs.Common.{map}
use Rattle.step_rules.specs.Setting.{setting_of}
use Rattle.step_vars.specs.Encoding.{clauses_of}
use Rattle.clause_families.specs.Clauses.{row_of}
use Rattle.step_clauses.specs.Operations.{goal_needs}
use Rattle.clause_families.specs.Encoded.{AreEncodedClauses}
use Rattle.clause_families.proofs.KeptLists.{ops_are}
use Rattle.step_clauses.proofs.Same.{goal_said}
use Rattle.step_clauses.proofs.Prefixes.{prefix_same, goal_is}
use Rattle.step_clauses.proofs.Ready.{goal_ready}
use Rattle.step_clauses.proofs.parts.goal.Goals as goal

pub push_clauses-requires : goal.push_clauses-requires
push_clauses-requires c =
    let v = c.args.vars.now in
    let s = setting_of c.args.trap.now c.args.circuit.now c.args.placement.now in
    let t = c.args.t in
    let ops = c.deref.ensures.value ∙ c.in_ok-ops.ensures ∙ ap (map row_of) c.ops.ensures ∙ ops_are s v c.requires.vars in
    let all = c.items.ensures ∙ c.in_ok-add_goal.ensures ∙ ap (λ xs. xs ++ map (goal_needs t) c.deref.result.now) c.new-clauses.ensures ∙ goal_said s t _ ops in
    subst (AreEncodedClauses v) (sym all) (goal_ready v s t c.requires.vars c.requires.t)

pub returns-clause-ok : goal.returns-clause-ok
returns-clause-ok c =
    let v = c.args.vars.now in
    let s = setting_of c.args.trap.now c.args.circuit.now c.args.placement.now in
    let t = c.args.t in
    let ops = c.deref.ensures.value ∙ c.in_ok-ops.ensures ∙ ap (map row_of) c.ops.ensures ∙ ops_are s v c.requires.vars in
    let all = c.items.ensures ∙ c.in_ok-add_goal.ensures ∙ ap (λ xs. xs ++ map (goal_needs t) c.deref.result.now) c.new-clauses.ensures ∙ goal_said s t _ ops in
    on_ok_also c.push_clauses.result _ _ (λ e. e ∙ ap (λ xs. c.args.out.now ++ xs) (ap (clauses_of v.numbering) all ∙ goal_is v s t c.requires.vars)) c.push_clauses.ensures.ok

pub returns-clause-err : goal.returns-clause-err
returns-clause-err c =
    let v = c.args.vars.now in
    let s = setting_of c.args.trap.now c.args.circuit.now c.args.placement.now in
    let t = c.args.t in
    let ops = c.deref.ensures.value ∙ c.in_ok-ops.ensures ∙ ap (map row_of) c.ops.ensures ∙ ops_are s v c.requires.vars in
    let all = c.items.ensures ∙ c.in_ok-add_goal.ensures ∙ ap (λ xs. xs ++ map (goal_needs t) c.deref.result.now) c.new-clauses.ensures ∙ goal_said s t _ ops in
    on_err_also c.push_clauses.result _ _ (prefix_same _ _ _ _ (ap (clauses_of v.numbering) all ∙ goal_is v s t c.requires.vars)) c.push_clauses.ensures.err
