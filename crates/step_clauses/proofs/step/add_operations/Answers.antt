use Rattle.std.proofs.Common.{ap, ◌++◌, ◌∙◌}
use Rattle.at_most.proofs.Emitted.{on_ok_also}
use Rattle.step_clauses.proofs.Same.{then_part, in_zones_are, acts_said, done_said, orders_said}
use Rattle.step_clauses.proofs.step.add_operations.Goals as goal

pub returns : goal.returns
returns c =
    let s = c.args.setting.now in
    let r = c.args.times.before in
    let t = c.args.times.time in
    let zones = c.in_ok-add_ions_in_zones.ensures ∙ ap (λ xs. c.args.out.now ++ xs) (in_zones_are s r t _ _ (c.deref.ensures.value ∙ c.requires.ions) (c.deref-2.ensures.value ∙ c.requires.ops)) in
    let acts = c.in_ok-add_acts.ensures ∙ ap (λ xs. c.add_ions_in_zones.new.out ++ xs) (acts_said s r t _ c.requires.acts) in
    let done = c.in_ok-add_all_done.ensures ∙ ap (λ xs. c.add_acts.new.out ++ xs) (done_said s r t _ (c.deref-3.ensures.value ∙ c.requires.ops)) in
    on_ok_also c.add_orders.result _ _
    (λ e. then_part _ _ _ _ _ (then_part _ _ _ _ _ (then_part _ _ _ _ _ zones acts) done) (e ∙ ap (λ xs. c.add_all_done.new.out ++ xs) (orders_said s r t _ c.requires.orders)))
    c.add_orders.ensures
