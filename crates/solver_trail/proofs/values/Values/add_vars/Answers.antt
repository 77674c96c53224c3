use Rattle.std.proofs.Common.{◌≡◌, ℕ, ◌+◌, ◌-◌, List, [], ◌++◌, length, replicate, sym, ap, ◌∙◌, subst, arith}
use Rattle.std.specs.Prelude.{vec_len}
use Rattle.std.proofs.lemmas.List.{take_all}
use Rattle.solver_trail.specs.Trail.{Trail, last_level, AreInOrder}
use Rattle.solver_trail.proofs.Trails.{few_entries, ArePlaced-longer}
use Rattle.solver_trail.proofs.values.Values.add_vars.Goals as goal

pub overflow_sub-vars : goal.overflow_sub-vars
overflow_sub-vars c =
    let few = few_entries c.self.inside.entries.items c.self.inside.places.items c.self.invariant.placed in
    let one = c.self.inside.entries.ok.0 in
    let two = c.self.inside.places.ok.0 in
    omega arith

pub invariant_of-self-2 : goal.invariant_of-self-2
invariant_of-self-2 c =
    let stored = c.self.invariant in
    let entries = c.self.inside.entries.items in
    let places = c.self.inside.places.items in
    let vars = c.len.result + c.args.n in
    let old = ap (λ (t : Trail). t.vars) c.self.view_is in
    let below = c.requires in
    let len : c.len.result ≡ length places = c.len.ensures ∙ c.self.inside.places.ok.0 in
    let used : c.len-2.result ≡ length entries = c.len-2.ensures ∙ c.self.inside.entries.ok.0 in
    let few = few_entries entries places stored.placed in
    let items = c.in_ok-reserve.ensures.items in
    let kept : c.resize-2.new.self.items ≡ places ++ replicate (vars - vec_len c.self.inside.places) 0 =
    c.in_ok-resize-2.ensures.items ∙ ap (λ (xs : List ℕ). xs ++ replicate (vars - vec_len c.self.inside.places) 0) (take_all vars places (omega arith)) in
    let now : length c.resize-2.new.self.items ≡ vars = sym c.resize-2.new.self.ok.0 ∙ c.in_ok-resize-2.ensures.len in
    let signs : length c.resize.new.self.items ≡ vars = sym c.resize.new.self.ok.0 ∙ c.in_ok-resize.ensures.len in
    let room = c.in_ok-reserve.ensures.ok in
    let held : vec_len c.reserve.new.self ≡ length entries = c.in_ok-reserve.ensures.len ∙ c.self.inside.entries.ok.0 in
    record {
      few = omega arith;
      room = omega arith;
      signs = omega arith;
      order = subst (AreInOrder []) (sym items) stored.order;
      level = stored.level ∙ ap last_level (sym items);
      placed = rw (items, kept) (ArePlaced-longer entries places (replicate (vars - vec_len c.self.inside.places) 0) stored.placed);
    }
