use Rattle.std.proofs.Common.{◌≡◌, ℕ, ◌≤◌, List, [], ◌++◌, take, drop, sym, ap, ◌∙◌, subst}
use Rattle.std.proofs.lemmas.List.{take-append-drop}
use Rattle.solver_trail.specs.declared.values.Assigned.{Assigned}
use Rattle.solver_trail.specs.Trail.{Trail, up_to, last_level, AreInOrder}
use Rattle.solver_trail.specs.Storing.{ArePlaced}
use Rattle.solver_trail.proofs.Trails.{AreInOrder-take, ArePlaced-shorter, last_level-up_to}
use Rattle.solver_trail.proofs.values.Values.backjump.Goals as goal

pub invariant_of-self : goal.invariant_of-self
invariant_of-self c =
    let stored = c.self.invariant in
    let entries = c.self.inside.entries.items in
    let places = c.self.inside.places.items in
    let kept = c.count_up_to-kept.result in
    let same = subst (λ (xs : List Assigned). take kept xs ≡ up_to c.args.level xs) c.deref.ensures.value c.count_up_to-kept.ensures in
    let items : c.truncate.new.self.items ≡ take kept entries = c.truncate.ensures.items in
    let level : c.args.level ≤ last_level entries = subst (λ (l : ℕ). c.args.level ≤ l) (sym (ap (λ (t : Trail). t.level) c.self.view_is) ∙ stored.level) c.requires in
    let room = stored.room in
    let capacity = c.truncate.ensures.capacity in
    record {
      few = stored.few;
      room = rw capacity room;
      signs = stored.signs;
      order = subst (AreInOrder []) (sym items) (AreInOrder-take entries kept stored.order);
      level = sym (ap last_level (items ∙ same) ∙ last_level-up_to c.args.level entries stored.order level);
      placed = subst (λ (xs : List Assigned). ArePlaced xs places) (sym items)
          (ArePlaced-shorter (take kept entries) (drop kept entries) places (subst (λ (xs : List Assigned). ArePlaced xs places) (sym (take-append-drop kept entries)) stored.placed));
    }

pub returns-clause-front : goal.returns-clause-front
returns-clause-front c =
    let entries = c.self.inside.entries.items in
    let kept = c.count_up_to-kept.result in (
      drop kept entries,
      sym (ap (λ (t : Trail). t.entries) c.self.view_is) ∙ sym (take-append-drop kept entries) ∙ ap (λ (xs : List Assigned). xs ++ drop kept entries) (sym c.truncate.ensures.items),
    )
