use Rattle.std.proofs.Common.{◌≡◌, List, Some, sym, ap, ◌∙◌, subst}
use Rattle.std.specs.Prelude.{slice_get}
use Rattle.std.proofs.lemmas.Option.{same_Some, slice_get_within}
use Rattle.solver_trail.specs.Trail.{Trail, IsFalseAt}
use Rattle.solver_trail.specs.declared.values.Assigned.{Assigned}
use Rattle.solver_trail.proofs.Trails.{read_at, false_standing, one_level}
use Rattle.solver_trail.proofs.values.Values.level_of.Goals as goal

pub returns : goal.returns
returns c =
    let now = c.args.self.now.entries in
    let entries = c.self.inside.entries.items in
    let view = ap (λ (t : Trail). t.entries) c.self.view_is in
    let (entry, there) = c.place.ensures in
    let at : slice_get entries c.place.result ≡ Some entry = ap (λ (xs : List Assigned). slice_get xs c.place.result) view ∙ there.0 in
    let read = read_at entries c.place.result c.index.result.now c.index.ensures (slice_get_within entries c.place.result entry at) in
    let same : entry ≡ c.index.result.now = same_Some entry c.index.result.now (sym at ∙ read) in
    let false_at : IsFalseAt entries c.index.result.now.level c.args.literal =
    subst (λ (x : Assigned). IsFalseAt entries x.level c.args.literal) same
    (false_standing entries c.args.literal (record { place = c.place.result; entry = entry; at = at; is = there.1 ∙ c.negated.ensures })) in
    record {
      at = subst (λ (xs : List Assigned). IsFalseAt xs c.index.result.now.level c.args.literal) view false_at;
      only = λ level other. one_level entries c.self.inside.places.items c.args.literal level c.index.result.now.level c.self.invariant.placed
          (subst (λ (xs : List Assigned). IsFalseAt xs level c.args.literal) (sym view) other) false_at;
    }
