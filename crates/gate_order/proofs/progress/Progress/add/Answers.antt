use Rattle.std.proofs.Common.{rules, ◌≡◌, ◌≢◌, ℕ, true, false, refl, sym, ◌∙◌, inl, inr, length, arith, List}
use Rattle.std.proofs.lemmas.Bool.{cases_Bool}
use Rattle.qc_base.specs.declared.ids.OpId.{OpId}
use Rattle.circuit_core.specs.Circuit.{CircuitValue}
use Rattle.gate_order.specs.declared.progress.Progress.{Progress}
use Rattle.circuit_core.specs.Order.{is_performed}
use Rattle.gate_order.specs.Keeping.{op, IsFull, IsStateOf, IsStateButOf}
use Rattle.gate_order.specs.Changes.{Settles, Puts}
use Rattle.gate_order.proofs.States.{ready_room, still_open}
use Rattle.gate_order.proofs.Changed.{more_of, seen_none, settled_of, put_of, row_empty, row_some}
use Rattle.gate_order.proofs.progress.Progress.add.Goals as goal

pub arrive-requires-clause-ready : goal.arrive-requires-clause-ready
arrive-requires-clause-ready c =
    let mid : Progress = record { seen = c.push.new.self; flags = c.push-2.new.self; settled = c.args.self.now.settled; ready = c.args.self.now.ready } in
    let but : IsStateButOf c.args.circuit.now c.args.nearest.now mid c.args.op.0 =
    more_of c.args.circuit.now c.args.nearest.now c.args.op.0 c.args.self.now mid c.requires.state (omega arith) c.requires.op c.in_ok-push.ensures.items c.in_ok-push-2.ensures.items refl refl in
    omega (arith, ready_room c.args.circuit.now c.args.nearest.now mid.seen.items mid.flags.items mid.settled.items mid.ready.items c.args.op.0 but, c.requires.room.ready, c.args.self.now.ready.ok.0)

arrived : (circuit : CircuitValue) (near : List (List OpId)) (x : ℕ) (old new : Progress) → IsStateButOf circuit near old x → IsFull near old.seen.items x
    → (is_performed circuit x ≡ false → Settles (op x) old new) → (is_performed circuit x ≡ true → Puts (op x) old new) → IsStateOf circuit near new
arrived circuit near x old new but full barrier performed = elim (cases_Bool (is_performed circuit x)) [
  | inl is ↦ put_of circuit near x old new but full is (performed is)
  | inr isnt ↦ settled_of circuit near x old new but full (barrier isnt)
]

pub returns-then-is_empty-clause-state : goal.returns-then-is_empty-clause-state
returns-then-is_empty-clause-state c =
    let mid : Progress = record { seen = c.push.new.self; flags = c.push-2.new.self; settled = c.args.self.now.settled; ready = c.args.self.now.ready } in
    let next : c.args.op.0 ≡ length c.args.self.now.flags.items = omega (arith, c.requires.next, c.args.self.now.flags.ok.0) in
    let but : IsStateButOf c.args.circuit.now c.args.nearest.now mid c.args.op.0 =
    more_of c.args.circuit.now c.args.nearest.now c.args.op.0 c.args.self.now mid c.requires.state next c.requires.op c.in_ok-push.ensures.items c.in_ok-push-2.ensures.items refl refl in
    let none : length c.of.result.now ≡ 0 = search (rules, c.if-is_empty.ensures, c.if-is_empty.true, c.is_empty.ensures) in
    let full : IsFull c.args.nearest.now mid.seen.items c.args.op.0 =
    seen_none c.args.circuit.now c.args.nearest.now c.args.op.0 c.args.self.now mid c.requires.state next c.in_ok-push.ensures.items ∙ sym (row_empty c.args.nearest.now c.args.op.0 c.of.result.now c.of.ensures none) in
    arrived c.args.circuit.now c.args.nearest.now c.args.op.0 mid c.arrive.new.self but full c.arrive.ensures.barrier c.arrive.ensures.performed

pub returns-else-is_empty-clause-state : goal.returns-else-is_empty-clause-state
returns-else-is_empty-clause-state c =
    let mid : Progress = record { seen = c.push.new.self; flags = c.push-2.new.self; settled = c.args.self.now.settled; ready = c.args.self.now.ready } in
    let next : c.args.op.0 ≡ length c.args.self.now.flags.items = omega (arith, c.requires.next, c.args.self.now.flags.ok.0) in
    let but : IsStateButOf c.args.circuit.now c.args.nearest.now mid c.args.op.0 =
    more_of c.args.circuit.now c.args.nearest.now c.args.op.0 c.args.self.now mid c.requires.state next c.requires.op c.in_ok-push.ensures.items c.in_ok-push-2.ensures.items refl refl in
    let some : length c.of.result.now ≢ 0 = search (rules, c.if-is_empty.ensures, c.if-is_empty.false, c.is_empty.ensures) in
    still_open c.args.circuit.now c.args.nearest.now mid.seen.items mid.flags.items mid.settled.items mid.ready.items c.args.op.0 but
    (λ full. row_some c.args.nearest.now c.args.op.0 c.of.result.now c.of.ensures some
    (sym full ∙ seen_none c.args.circuit.now c.args.nearest.now c.args.op.0 c.args.self.now mid c.requires.state next c.in_ok-push.ensures.items))
