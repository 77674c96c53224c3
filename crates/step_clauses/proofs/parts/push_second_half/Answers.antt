use Rattle.std.proofs.Common.{List, ap, sym, subst, ◌++◌, ◌∙◌}
use Rattle.step_vars.specs.declared.item.Bound.{Bound}
use Rattle.step_vars.specs.Encoding.{order_clauses, operation_clauses}
use Rattle.clause_families.specs.Encoded.{AreEncodedBounds, AreEncodedClauses}
use Rattle.step_clauses.proofs.Ready.{activities_ready, others_ready}
use Rattle.step_clauses.proofs.parts.push_second_half.Goals as goal

pub push_half-requires-clause-bounds : goal.push_half-requires-clause-bounds
push_half-requires-clause-bounds c =
    let v = c.args.vars.now in
    let s = c.args.setting.now in
    let t = c.args.times.time in
    let ready = activities_ready v s c.args.times.before t c.args.next c.requires.vars c.requires.tables.trap c.requires.tables.within c.requires.step c.requires.room c.requires.next in
    subst (λ (bs : List Bound). AreEncodedBounds v c.args.next bs) (sym (c.deref.ensures.value ∙ c.in_ok-bounds.ensures)) ready

pub push_half-requires-clause-clauses : goal.push_half-requires-clause-clauses
push_half-requires-clause-clauses c =
    let v = c.args.vars.now in
    let s = c.args.setting.now in
    let r = c.args.times.before in
    let t = c.args.times.time in
    subst (AreEncodedClauses v) (sym (c.in_ok-add_operations.ensures ∙ ap (λ xs. xs ++ operation_clauses s r t) (c.in_ok-add_order.ensures ∙ ap (λ xs. xs ++ order_clauses s r t) c.new-clauses.ensures))) (others_ready v s r t c.requires.vars c.requires.tables.within c.requires.step)
