use Rattle.std.proofs.Common.{ℕ, List, ap, sym, subst, ◌++◌, ◌∙◌}
use Rattle.step_vars.specs.declared.item.Bound.{Bound}
use Rattle.step_vars.specs.Encoding.{place_bounds, passing_clauses}
use Rattle.clause_families.specs.Encoded.{AreEncodedBounds, AreEncodedClauses}
use Rattle.step_clauses.proofs.Ready.{places_ready, passing_ready}
use Rattle.step_clauses.proofs.parts.push_first_half.Goals as goal

pub push_half-requires-clause-bounds : goal.push_half-requires-clause-bounds
push_half-requires-clause-bounds c =
    let v = c.args.vars.now in
    let s = c.args.setting.now in
    let t = c.args.times.time in
    let ready = places_ready v s c.args.times.before t c.requires.vars c.requires.tables.trap c.requires.tables.within c.requires.step c.requires.room in
    subst (λ (bs : List Bound). AreEncodedBounds v c.args.first bs) (sym (c.deref.ensures.value ∙ c.in_ok-bounds.ensures)) (subst (λ (k : ℕ). AreEncodedBounds v k (place_bounds s t)) (sym c.requires.first) ready)

pub push_half-requires-clause-clauses : goal.push_half-requires-clause-clauses
push_half-requires-clause-clauses c =
    let v = c.args.vars.now in
    let s = c.args.setting.now in
    let r = c.args.times.before in
    let t = c.args.times.time in
    subst (AreEncodedClauses v) (sym (c.in_ok-add_passing.ensures ∙ ap (λ xs. xs ++ passing_clauses s r t) c.new-clauses.ensures)) (passing_ready v s r t c.requires.vars c.requires.tables.within c.requires.step)
