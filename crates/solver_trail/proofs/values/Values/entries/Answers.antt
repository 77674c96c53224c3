use Rattle.std.proofs.Common.{◌≡◌, ◌≤◌, [], length, ap, ◌∙◌, subst}
use Rattle.solver_trail.specs.Trail.{Trail, literals_of, last_level, AreInOrder}
use Rattle.sat_base.specs.Clauses.{EachVariable}
use Rattle.solver_trail.proofs.Trails.{few_entries, named_entries}
use Rattle.solver_trail.proofs.values.Values.entries.Goals as goal

pub returns : goal.returns
returns c =
    let view = c.self.view_is in
    let stored = c.self.invariant in
    let entries = c.self.inside.entries.items in
    let places = c.self.inside.places.items in
    record {
      entries = c.deref.ensures.value ∙ ap (λ (t : Trail). t.entries) view;
      few = subst (λ (t : Trail). length t.entries ≤ t.vars) view (few_entries entries places stored.placed);
      named = subst (λ (t : Trail). EachVariable (λ var. (1 ≤ var) × (var ≤ t.vars)) (literals_of t.entries)) view (named_entries entries places stored.placed);
      order = subst (λ (t : Trail). AreInOrder [] t.entries) view stored.order;
      level = subst (λ (t : Trail). t.level ≡ last_level t.entries) view stored.level;
    }
