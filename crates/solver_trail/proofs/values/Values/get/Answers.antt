use Rattle.std.proofs.Common.{◌≡◌, ◌≢◌, ◌-◌, List, Bool, Some, None, sym, ap, ◌∙◌, subst, arith}
use Rattle.std.specs.Prelude.{slice_get, slice_index}
use Rattle.solver_trail.specs.Trail.{Trail, value_in}
use Rattle.solver_trail.specs.declared.values.Assigned.{Assigned}
use Rattle.solver_trail.proofs.Trails.{value_at, no_value_beyond, no_value_other, read_is, read_at}
use Rattle.solver_trail.proofs.values.Values.get.Goals as goal

pub returns-then-place-len : goal.returns-then-place-len
returns-then-place-len c =
    let places = c.self.inside.places.items in
    let entries = c.self.inside.entries.items in
    let len = c.self.inside.entries.ok.0 in
    let vars = ap (λ (t : Trail). t.vars) c.self.view_is in
    let at = read_is places (c.args.var - 1) c.index-place.result.now c.index-place.ensures (omega arith) in
    sym (subst (λ (xs : List Assigned). value_in xs c.args.var ≡ None) (ap (λ (t : Trail). t.entries) c.self.view_is)
    (no_value_beyond entries places c.args.var c.self.invariant.placed (omega arith)))

pub returns-then-var : goal.returns-then-var
returns-then-var c =
    let places = c.self.inside.places.items in
    let entries = c.self.inside.entries.items in
    let len = c.self.inside.entries.ok.0 in
    let there = read_at entries c.index-place.result.now c.index.result.now c.index.ensures (omega arith) in
    let value = value_at entries places c.args.var c.index-place.result.now c.index.result.now c.self.invariant.placed there (sym c.var.ensures.var ∙ c.if-var.true) in
    sym (subst (λ (xs : List Assigned). value_in xs c.args.var ≡ Some c.positive.result) (ap (λ (t : Trail). t.entries) c.self.view_is)
    (value ∙ ap (λ (b : Bool). Some b) (sym c.positive.ensures)))

pub returns-else-var : goal.returns-else-var
returns-else-var c =
    let places = c.self.inside.places.items in
    let entries = c.self.inside.entries.items in
    let len = c.self.inside.entries.ok.0 in
    let vars = ap (λ (t : Trail). t.vars) c.self.view_is in
    let place = c.index-place.result.now in
    let at : slice_index places (c.args.var - 1) ≡ place = read_is places (c.args.var - 1) place c.index-place.ensures (omega arith) in
    let there = read_at entries place c.index.result.now c.index.ensures (omega arith) in
    let other : c.index.result.now.literal.var ≢ c.args.var = λ e. c.if-var.false (c.var.ensures.var ∙ e) in
    sym (subst (λ (xs : List Assigned). value_in xs c.args.var ≡ None) (ap (λ (t : Trail). t.entries) c.self.view_is)
    (no_value_other entries places c.args.var c.index.result.now c.self.invariant.placed (ap (slice_get entries) at ∙ there) other))
