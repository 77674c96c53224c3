use Rattle.std.proofs.Common.{◌≡◌, ℕ, ◌+◌, ◌≤◌, List, [], ◌∷◌, length, sym, ap, subst, ◌∙◌, arith, length-append}
use Rattle.qc_base.specs.declared.ids.OpId.{OpId}
use Rattle.circuit_core.specs.Nearest.{IsListed, AreNearest}
use Rattle.schedule_play.specs.Ready.{settled_after}
use Rattle.schedule_play.proofs.ReadySteps.{near_within, ready_more}
use Rattle.schedule_play.proofs.ready.ready_steps.Goals as goal

pub all_settled_after-requires-clause-listed : goal.all_settled_after-requires-clause-listed
all_settled_after-requires-clause-listed c =
    let near : List OpId = c.of-before.result.now in
    let nearest : AreNearest c.args.circuit.now c.loop-number.number near = c.in_ok-nearest.ensures.each c.loop-number.number near c.of-before.ensures in
    near_within c.args.circuit.now near c.loop-number.number (length c.deref-in-loop-number.result.now) nearest (omega (arith, ap length c.deref-in-loop-number.ensures.value, c.loop-number.invariant.count))

pub loop-number-preserved : goal.loop-number-preserved
loop-number-preserved c =
    let near : List OpId = c.of-before.result.now in
    let number : ℕ = c.loop-number.number in
    let nearest : AreNearest c.args.circuit.now number near = c.in_ok-nearest.ensures.each number near c.of-before.ensures in
    let grown = c.in_ok-push.ensures.items in
    let settled : (op : ℕ) → IsListed near op → settled_after c.args.circuit.now c.in_ok-firsts.firsts.items c.loop-number.ready.items op ≤ c.all_settled_after.result =
    subst (λ (l : List ℕ). (op : ℕ) → IsListed near op → settled_after c.args.circuit.now l c.loop-number.ready.items op ≤ c.all_settled_after.result) c.deref.ensures.value
    (subst (λ (l : List ℕ). (op : ℕ) → IsListed near op → settled_after c.args.circuit.now c.deref.result.now l op ≤ c.all_settled_after.result) c.deref-in-loop-number.ensures.value c.all_settled_after.ensures) in
    let within : number ≤ length c.in_ok-firsts.firsts.items = omega (arith, c.loop-number-test.true, ap length c.ops.ensures.ops, c.in_ok-firsts.ensures.len) in
    record {
      count = omega (arith, ap length grown, length-append c.loop-number.ready.items (c.all_settled_after.result ∷ []), c.loop-number.invariant.count);
      after = ready_more c.args.circuit.now c.args.steps.now c.in_ok-firsts.firsts.items c.loop-number.ready.items c.push.new.self.items near number c.all_settled_after.result
          c.in_ok-firsts.ensures.done c.loop-number.invariant.after c.loop-number.invariant.count within nearest settled grown;
    }
