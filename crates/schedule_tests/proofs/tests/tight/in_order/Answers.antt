use Rattle.std.proofs.Common.{◌≡◌, ℕ, ◌<◌, rules, subst, sym, inl, inr, arith}
use Rattle.std.proofs.lemmas.Bool.{cases_lt}
use Rattle.compact.specs.Orders.{IsPerformedAt}
use Rattle.schedule_tests.proofs.Testing.{in_order_of}
use Rattle.schedule_tests.proofs.tests.tight.in_order.Goals as goal

pub loop-place-preserved : goal.loop-place-preserved
loop-place-preserved c = λ i j p q forced of_i of_j h. elim (cases_lt q c.loop-place.place) [
  | inl before ↦ c.loop-place.invariant i j p q forced of_i of_j before
  | inr after ↦ (let same : q ≡ c.loop-place.place = omega arith in
      subst (λ (n : ℕ). p < n) (sym same) (c.stands_well.ensures (search rules) i j p forced of_i (subst (IsPerformedAt c.args.actions.now j) same of_j)))
]

pub returns : goal.returns
returns c = λ holds. in_order_of c.args.circuit.now c.args.actions.now c.loop-place.place (omega arith) c.loop-place.invariant
