use Rattle.std.proofs.Common.{◌≡◌, ℕ, ◌-◌, ◌≤◌, List, [], ◌∷◌, ◌++◌, None, length, set, sym, ap, ◌∙◌, subst, arith, length-set}
use Rattle.solver_trail.specs.declared.values.Assigned.{Assigned}
use Rattle.solver_trail.specs.Trail.{Trail, value_in, last_level, level_after, IsNext, AreInOrder}
use Rattle.solver_trail.specs.Storing.{ArePlaced}
use Rattle.solver_trail.proofs.Trails.{value_none, few_entries, fewer_entries, level_few, last_level-push, AreInOrder-push, ArePlaced-push}
use Rattle.solver_trail.proofs.values.Values.assign.Goals as goal

pub level_after-level-requires : goal.level_after-level-requires
level_after-level-requires c =
    let stored = c.self.invariant in
    let entries = c.self.inside.entries.items in
    let few = few_entries entries c.self.inside.places.items stored.placed in
    let levels = level_few [] entries stored.order (omega arith) in
    let level = stored.level in
    let below = stored.few in
    omega arith

pub push_reserved-requires : goal.push_reserved-requires
push_reserved-requires c =
    let stored = c.self.invariant in
    let entries = c.self.inside.entries.items in
    let places = c.self.inside.places.items in
    let vars = ap (λ (t : Trail). t.vars) c.self.view_is in
    let slot_is = c.var.ensures.var in
    let first = c.var.ensures.from_1 in
    let one : 1 ≤ c.args.literal.var = omega arith in
    let within = c.requires.within in
    let none : value_in entries c.args.literal.var ≡ None = subst (λ (xs : List Assigned). value_in xs c.args.literal.var ≡ None) (sym (ap (λ (t : Trail). t.entries) c.self.view_is)) c.requires.unassigned in
    let fewer = fewer_entries entries places c.args.literal.var stored.placed one (omega arith) none in
    let len = c.self.inside.entries.ok.0 in
    let room = stored.room in
    omega arith

pub invariant_of-self : goal.invariant_of-self
invariant_of-self c =
    let stored = c.self.invariant in
    let entries = c.self.inside.entries.items in
    let places = c.self.inside.places.items in
    let entry : Assigned = record { literal = c.args.literal; level = c.level_after-level.result; reason = c.args.reason } in
    let view = ap (λ (t : Trail). t.entries) c.self.view_is in
    let vars = ap (λ (t : Trail). t.vars) c.self.view_is in
    let slot_is = c.var.ensures.var in
    let first = c.var.ensures.from_1 in
    let one : 1 ≤ c.args.literal.var = omega arith in
    let within = c.requires.within in
    let none : value_in entries c.args.literal.var ≡ None = subst (λ (xs : List Assigned). value_in xs c.args.literal.var ≡ None) (sym view) c.requires.unassigned in
    let items : c.push_reserved.new.self.items ≡ entries ++ entry ∷ [] = c.push_reserved.ensures.items in
    let next : IsNext entries entry = record {
      new_variable = value_none entries c.args.literal.var none;
      level = c.level_after-level.ensures ∙ ap (λ (l : ℕ). level_after l c.args.reason) stored.level;
    } in
    let slot : c.var.result ≡ c.args.literal.var = c.var.ensures.var in
    let place : c.len.result ≡ length entries = c.len.ensures ∙ c.self.inside.entries.ok.0 in
    let placed = ArePlaced-push entries places entry stored.placed one (omega arith) none in
    let few = stored.few in
    let room = stored.room in
    let signs = stored.signs in
    let capacity = c.push_reserved.ensures.capacity in
    record {
      few = rw length-set few;
      room = rw (length-set, capacity) room;
      signs = simp length-set signs;
      order = subst (AreInOrder []) (sym items) (AreInOrder-push [] entries entry stored.order next);
      level = sym (ap last_level items ∙ last_level-push entries entry);
      placed = subst (λ (xs : List Assigned). ArePlaced xs (set places (c.var.result - 1) c.len.result)) (sym items)
          (rw (slot, place) placed);
    }
