use Rattle.std.proofs.Common.{◌≡◌, ℕ, ◌-◌, List, Some, sym, ap, ◌∙◌, subst, arith}
use Rattle.std.specs.Prelude.{slice_get, slice_index}
use Rattle.sat_base.specs.Clauses.{Has}
use Rattle.solver_trail.specs.Trail.{Trail, literals_of}
use Rattle.solver_trail.specs.declared.values.Assigned.{Assigned}
use Rattle.solver_trail.proofs.Trails.{standing_of, place_is, read_is, slot_within}
use Rattle.solver_trail.proofs.values.Values.place.Goals as goal

pub index-requires : goal.index-requires
index-requires c =
    let entries = c.self.inside.entries.items in
    let has = subst (λ (xs : List Assigned). Has (literals_of xs) c.args.literal) (sym (ap (λ (t : Trail). t.entries) c.self.view_is)) c.requires in
    let h = slot_within entries c.self.inside.places.items c.args.literal has c.self.invariant.placed in
    let len = c.self.inside.places.ok.0 in
    let var = c.var.ensures.var in
    omega arith

pub returns : goal.returns
returns c =
    let entries = c.self.inside.entries.items in
    let places = c.self.inside.places.items in
    let view = ap (λ (t : Trail). t.entries) c.self.view_is in
    let has = subst (λ (xs : List Assigned). Has (literals_of xs) c.args.literal) (sym view) c.requires in
    let h = slot_within entries places c.args.literal has c.self.invariant.placed in
    let s = standing_of entries c.args.literal has in
    let var = c.var.ensures.var in
    let at : slice_index places (c.var.result - 1) ≡ c.index.result.now = read_is places (c.var.result - 1) c.index.result.now c.index.ensures (omega arith) in
    let here : s.place ≡ c.index.result.now = sym (place_is entries places c.args.literal s c.self.invariant.placed) ∙ ap (λ (v : ℕ). slice_index places (v - 1)) (sym var) ∙ at in
    (s.entry, (subst (λ (xs : List Assigned). slice_get xs c.index.result.now ≡ Some s.entry) view (ap (slice_get entries) (sym here) ∙ s.at), s.is))
