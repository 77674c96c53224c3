use Rattle.std.proofs.Common.{◌≡◌, [], ℕ, sym, ap, ◌∙◌, length, arith, List}
use Rattle.std.proofs.lemmas.Option.{get_or_from_slice_get}
use Rattle.std.specs.Prelude.{slice_get, Some}
use Rattle.qc_base.specs.declared.ids.OpId.{OpId}
use Rattle.gate_order.specs.declared.progress.Progress.{Progress}
use Rattle.gate_order.specs.Keeping.{row}
use Rattle.gate_order.proofs.Changed.{Advances, with_seen, advances, arrive_settled, arrive_ready, arrives_kept, arrives_visited, waits_kept, waits_visited}
use Rattle.gate_order.proofs.Rows.{row_below}
use Rattle.gate_order.proofs.progress.Progress.visit.Goals as goal

-- the row as it was read
row_length : (near : List (List OpId)) (x : ℕ) (list : List OpId) → slice_get near x ≡ Some list → length list ≡ length (row near x)
row_length near x list at = sym (ap (λ (l : List OpId). length l) (get_or_from_slice_get near x list [] at))

pub settled_front-front-requires-clause-within : goal.settled_front-front-requires-clause-within
settled_front-front-requires-clause-within c k d within =
    omega (arith, row_below c.args.circuit.now c.args.nearest.now c.args.op.0 c.of-near.result.now c.requires.kept.table c.of-near.ensures k d within, c.requires.kept.all, c.deref.ensures.len, c.args.self.now.flags.ok.0)

pub arrive-requires-clause-settled : goal.arrive-requires-clause-settled
arrive-requires-clause-settled c =
    let mid : Progress = with_seen c.args.self.now c.args.op.0 c.settled_front-front.result in
    let is : Advances c.args.nearest.now c.args.op.0 c.settled_front-front.result c.args.self.now mid =
    advances c.args.circuit.now c.args.nearest.now c.args.op.0 c.settled_front-front.result c.index-seen.result.now c.of-near.result.now c.deref.result.now c.args.self.now c.requires.kept c.requires.op
    c.of-near.ensures c.settled_front-front.ensures c.deref.ensures.value c.index-seen.ensures c.if-seen-near.false in
    omega (arith, arrive_settled c.args.circuit.now c.args.nearest.now c.args.op.0 c.settled_front-front.result c.args.self.now mid c.requires.kept c.requires.op is, c.args.self.now.settled.ok.0)

pub arrive-requires-clause-ready : goal.arrive-requires-clause-ready
arrive-requires-clause-ready c =
    let mid : Progress = with_seen c.args.self.now c.args.op.0 c.settled_front-front.result in
    let is : Advances c.args.nearest.now c.args.op.0 c.settled_front-front.result c.args.self.now mid =
    advances c.args.circuit.now c.args.nearest.now c.args.op.0 c.settled_front-front.result c.index-seen.result.now c.of-near.result.now c.deref.result.now c.args.self.now c.requires.kept c.requires.op
    c.of-near.ensures c.settled_front-front.ensures c.deref.ensures.value c.index-seen.ensures c.if-seen-near.false in
    omega (arith, arrive_ready c.args.circuit.now c.args.nearest.now c.args.op.0 c.settled_front-front.result c.args.self.now mid c.requires.kept c.requires.op is, c.args.self.now.ready.ok.0)

pub returns-then-front-near-clause-kept : goal.returns-then-front-near-clause-kept
returns-then-front-near-clause-kept c =
    let mid : Progress = with_seen c.args.self.now c.args.op.0 c.settled_front-front.result in
    let is : Advances c.args.nearest.now c.args.op.0 c.settled_front-front.result c.args.self.now mid =
    advances c.args.circuit.now c.args.nearest.now c.args.op.0 c.settled_front-front.result c.index-seen.result.now c.of-near.result.now c.deref.result.now c.args.self.now c.requires.kept c.requires.op
    c.of-near.ensures c.settled_front-front.ensures c.deref.ensures.value c.index-seen.ensures c.if-seen-near.false in
    arrives_kept c.args.circuit.now c.args.nearest.now c.args.op.0 c.settled_front-front.result c.args.self.now mid c.arrive.new.self c.requires.kept c.requires.op is (c.if-front-near.true ∙ row_length c.args.nearest.now c.args.op.0 c.of-near.result.now c.of-near.ensures) c.arrive.ensures.barrier c.arrive.ensures.performed

pub returns-then-front-near-clause-visited : goal.returns-then-front-near-clause-visited
returns-then-front-near-clause-visited c =
    let mid : Progress = with_seen c.args.self.now c.args.op.0 c.settled_front-front.result in
    let is : Advances c.args.nearest.now c.args.op.0 c.settled_front-front.result c.args.self.now mid =
    advances c.args.circuit.now c.args.nearest.now c.args.op.0 c.settled_front-front.result c.index-seen.result.now c.of-near.result.now c.deref.result.now c.args.self.now c.requires.kept c.requires.op
    c.of-near.ensures c.settled_front-front.ensures c.deref.ensures.value c.index-seen.ensures c.if-seen-near.false in
    arrives_visited c.args.circuit.now c.args.nearest.now c.args.op.0 c.settled_front-front.result c.args.self.now mid c.arrive.new.self c.requires.kept c.requires.op is (c.if-front-near.true ∙ row_length c.args.nearest.now c.args.op.0 c.of-near.result.now c.of-near.ensures) c.arrive.ensures.barrier c.arrive.ensures.performed

pub returns-else-front-near-clause-kept : goal.returns-else-front-near-clause-kept
returns-else-front-near-clause-kept c =
    let mid : Progress = with_seen c.args.self.now c.args.op.0 c.settled_front-front.result in
    let is : Advances c.args.nearest.now c.args.op.0 c.settled_front-front.result c.args.self.now mid =
    advances c.args.circuit.now c.args.nearest.now c.args.op.0 c.settled_front-front.result c.index-seen.result.now c.of-near.result.now c.deref.result.now c.args.self.now c.requires.kept c.requires.op
    c.of-near.ensures c.settled_front-front.ensures c.deref.ensures.value c.index-seen.ensures c.if-seen-near.false in
    waits_kept c.args.circuit.now c.args.nearest.now c.args.op.0 c.settled_front-front.result c.args.self.now mid c.requires.kept c.requires.op is (λ same. c.if-front-near.false (same ∙ sym (row_length c.args.nearest.now c.args.op.0 c.of-near.result.now c.of-near.ensures)))

pub returns-else-front-near-clause-visited : goal.returns-else-front-near-clause-visited
returns-else-front-near-clause-visited c =
    let mid : Progress = with_seen c.args.self.now c.args.op.0 c.settled_front-front.result in
    let is : Advances c.args.nearest.now c.args.op.0 c.settled_front-front.result c.args.self.now mid =
    advances c.args.circuit.now c.args.nearest.now c.args.op.0 c.settled_front-front.result c.index-seen.result.now c.of-near.result.now c.deref.result.now c.args.self.now c.requires.kept c.requires.op
    c.of-near.ensures c.settled_front-front.ensures c.deref.ensures.value c.index-seen.ensures c.if-seen-near.false in
    waits_visited c.args.circuit.now c.args.nearest.now c.args.op.0 c.settled_front-front.result c.args.self.now mid c.requires.kept c.requires.op is
