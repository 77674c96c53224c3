use Rattle.std.proofs.Common.{◌≡◌, List, [], ◌∷◌, ◌++◌, Some, Ok, ap, sym, ◌∙◌, slice_get, subst, Result}
use Rattle.qc_base.specs.declared.ids.Qubit.{Qubit}
use Rattle.circuit_core.specs.declared.angle.Angle.{Angle}
use Rattle.circuit_core.specs.declared.op.Op.TheVariants as op
use Rattle.gate_names.specs.declared.cause.Cause.{Cause}
use Rattle.gate_names.specs.declared.gate.Item.TheVariants.{Call, Barrier}
use Rattle.gate_expand.specs.Expansion.{performed, qubits_at}
use Rattle.gate_expand.specs.Making.{MadeValue, counted, with_op}
use Rattle.gate_expand.specs.Angles.{put_all}
use Rattle.gate_expand.specs.WorkList.{FrameValue, body_of, advanced, frames_made, entered_first, LeavesWork}
use Rattle.gate_expand.proofs.Working.{item_read, step_refused, step_done, step_call, work_left_on, work_given_on, uncounted, too_large}
use Rattle.gate_expand.proofs.work.step.Goals as goal

pub returns-in_err-push-in-Barrier-clause-made : goal.returns-in_err-push-in-Barrier-clause-made
returns-in_err-push-in-Barrier-clause-made c =
    let h : slice_get (body_of (slice_get c.args.gates.now c.args.frame.gate)) c.args.frame.next ≡ Some (Barrier c.in-Barrier.qubits) =
    item_read c.args.gates.now c.items.result.now c.args.frame c.frame.inside.gate c.frame.inside.next (Barrier c.in-Barrier.qubits) c.items.ensures.items
    (ap (λ (f : FrameValue). f.gate) c.frame.view_is) (ap (λ (f : FrameValue). f.next) c.frame.view_is) (ap Some (sym c.in-Barrier.is) ∙ c.in-Some.ensures.item) in
    let d : c.deref.result.now ≡ c.args.frame.qubits = c.deref.ensures.value ∙ ap (λ (f : FrameValue). f.qubits) c.frame-2.view_is in
    let q : c.from_vec-qubits.result ≡ qubits_at c.args.frame.qubits c.in-Barrier.qubits =
    c.from_vec-qubits.ensures ∙ c.in_ok-qubits_at-in-Barrier.ensures ∙ (λ i. qubits_at (d i) (c.items-in-Barrier.ensures i)) in
    work_left_on c.args.gates.now c.args.cond c.from_residual-in_err-push-in-Barrier.result c.in_err-push-in-Barrier.field-0.0 c.push.new.self c.push.new.self c.args.frames.now.items
    (with_op (op.Barrier c.from_vec-qubits.result) c.args.made.now) (frames_made c.args.gates.now c.args.cond (c.args.frames.now.items ++ c.args.frame ∷ []) c.args.made.now)
    c.from_residual-in_err-push-in-Barrier.ensures.1 c.in_err-push-in-Barrier.ensures
    (λ e. step_refused c.args.gates.now c.args.cond c.args.frame c.args.frames.now.items c.args.made.now (Barrier c.in-Barrier.qubits) c.in_err-push-in-Barrier.field-0.0 h
    (sym (ap (λ (l : List Qubit). with_op (op.Barrier l) c.args.made.now) q) ∙ e))

pub returns-in_err-count-in-Call-clause-made : goal.returns-in_err-count-in-Call-clause-made
returns-in_err-count-in-Call-clause-made c =
    let h : slice_get (body_of (slice_get c.args.gates.now c.args.frame.gate)) c.args.frame.next ≡ Some (Call c.in-Call.gate c.in-Call.params c.in-Call.qubits) =
    item_read c.args.gates.now c.items.result.now c.args.frame c.frame.inside.gate c.frame.inside.next (Call c.in-Call.gate c.in-Call.params c.in-Call.qubits) c.items.ensures.items
    (ap (λ (f : FrameValue). f.gate) c.frame.view_is) (ap (λ (f : FrameValue). f.next) c.frame.view_is) (ap Some (sym c.in-Call.is) ∙ c.in-Some.ensures.item) in
    work_left_on c.args.gates.now c.args.cond c.from_residual-in_err-count-in-Call.result c.in_err-count-in-Call.field-0.0 c.count.new.self c.count.new.self c.args.frames.now.items
    (counted c.args.made.now) (frames_made c.args.gates.now c.args.cond (c.args.frames.now.items ++ c.args.frame ∷ []) c.args.made.now)
    c.from_residual-in_err-count-in-Call.ensures.1 c.in_err-count-in-Call.ensures
    (λ e. step_refused c.args.gates.now c.args.cond c.args.frame c.args.frames.now.items c.args.made.now (Call c.in-Call.gate c.in-Call.params c.in-Call.qubits) c.in_err-count-in-Call.field-0.0 h
    (uncounted (performed c.args.gates.now c.args.cond c.args.frame.gate) c.args.frame.angles c.args.frame.qubits c.in-Call.gate c.in-Call.params c.in-Call.qubits c.args.made.now c.in_err-count-in-Call.field-0.0 e))

pub returns-in_err-put_all-in-Call-clause-made : goal.returns-in_err-put_all-in-Call-clause-made
returns-in_err-put_all-in-Call-clause-made c =
    let h : slice_get (body_of (slice_get c.args.gates.now c.args.frame.gate)) c.args.frame.next ≡ Some (Call c.in-Call.gate c.in-Call.params c.in-Call.qubits) =
    item_read c.args.gates.now c.items.result.now c.args.frame c.frame.inside.gate c.frame.inside.next (Call c.in-Call.gate c.in-Call.params c.in-Call.qubits) c.items.ensures.items
    (ap (λ (f : FrameValue). f.gate) c.frame.view_is) (ap (λ (f : FrameValue). f.next) c.frame.view_is) (ap Some (sym c.in-Call.is) ∙ c.in-Some.ensures.item) in
    let a : c.deref-in-Call.result.now ≡ c.args.frame.angles = c.deref-in-Call.ensures.value ∙ ap (λ (f : FrameValue). f.angles) c.frame-2.view_is in
    work_given_on c.args.gates.now c.args.cond c.from_residual-in_err-put_all-in-Call.result c.in_err-put_all-in-Call.field-0.0 (λ (l : List Angle). l) c.count.new.self c.args.frames.now.items
    (put_all c.deref-in-Call.result.now c.items-in-Call.result.now) (frames_made c.args.gates.now c.args.cond (c.args.frames.now.items ++ c.args.frame ∷ []) c.args.made.now)
    c.from_residual-in_err-put_all-in-Call.ensures.1 c.in_err-put_all-in-Call.ensures.angles
    (λ e. step_refused c.args.gates.now c.args.cond c.args.frame c.args.frames.now.items c.args.made.now (Call c.in-Call.gate c.in-Call.params c.in-Call.qubits) c.in_err-put_all-in-Call.field-0.0 h
    (too_large (performed c.args.gates.now c.args.cond c.args.frame.gate) c.args.frame.angles c.args.frame.qubits c.in-Call.gate c.in-Call.params c.in-Call.qubits c.args.made.now
    c.count.new.self c.in_err-put_all-in-Call.field-0.0 c.in_ok-count-in-Call.ensures ((λ i. put_all (sym a i) (sym c.items-in-Call.ensures i)) ∙ e)))

pub returns-in_ok-push-in-Barrier-2-clause-made : goal.returns-in_ok-push-in-Barrier-2-clause-made
returns-in_ok-push-in-Barrier-2-clause-made c =
    let h : slice_get (body_of (slice_get c.args.gates.now c.args.frame.gate)) c.args.frame.next ≡ Some (Barrier c.in-Barrier.qubits) =
    item_read c.args.gates.now c.items.result.now c.args.frame c.frame.inside.gate c.frame.inside.next (Barrier c.in-Barrier.qubits) c.items.ensures.items
    (ap (λ (f : FrameValue). f.gate) c.frame.view_is) (ap (λ (f : FrameValue). f.next) c.frame.view_is) (ap Some (sym c.in-Barrier.is) ∙ c.in-Some.ensures.item) in
    let d : c.deref.result.now ≡ c.args.frame.qubits = c.deref.ensures.value ∙ ap (λ (f : FrameValue). f.qubits) c.frame-2.view_is in
    let q : c.from_vec-qubits.result ≡ qubits_at c.args.frame.qubits c.in-Barrier.qubits =
    c.from_vec-qubits.ensures ∙ c.in_ok-qubits_at-in-Barrier.ensures ∙ (λ i. qubits_at (d i) (c.items-in-Barrier.ensures i)) in
    let l : c.push-in-Barrier.new.self.items ≡ c.args.frames.now.items ++ advanced c.args.frame ∷ [] =
    c.in_ok-push-in-Barrier-2.ensures.items ∙ ap (λ (f : FrameValue). c.args.frames.now.items ++ advanced f ∷ []) c.frame-2.view_is in
    step_done c.args.gates.now c.args.cond c.args.frame c.args.frames.now.items c.args.made.now (Barrier c.in-Barrier.qubits) c.push.new.self h
    (sym (ap (λ (l : List Qubit). with_op (op.Barrier l) c.args.made.now) q) ∙ c.in_ok-push-in-Barrier.ensures)
    ∙ sym (ap (λ (l : List FrameValue). frames_made c.args.gates.now c.args.cond l c.push.new.self) l)

pub returns-in_ok-push-in-Call-clause-made : goal.returns-in_ok-push-in-Call-clause-made
returns-in_ok-push-in-Call-clause-made c =
    let h : slice_get (body_of (slice_get c.args.gates.now c.args.frame.gate)) c.args.frame.next ≡ Some (Call c.in-Call.gate c.in-Call.params c.in-Call.qubits) =
    item_read c.args.gates.now c.items.result.now c.args.frame c.frame.inside.gate c.frame.inside.next (Call c.in-Call.gate c.in-Call.params c.in-Call.qubits) c.items.ensures.items
    (ap (λ (f : FrameValue). f.gate) c.frame.view_is) (ap (λ (f : FrameValue). f.next) c.frame.view_is) (ap Some (sym c.in-Call.is) ∙ c.in-Some.ensures.item) in
    let a : c.deref-in-Call.result.now ≡ c.args.frame.angles = c.deref-in-Call.ensures.value ∙ ap (λ (f : FrameValue). f.angles) c.frame-2.view_is in
    let d : c.deref-in-Call-2.result.now ≡ c.args.frame.qubits = c.deref-in-Call-2.ensures.value ∙ ap (λ (f : FrameValue). f.qubits) c.frame-2.view_is in
    let q : c.in_ok-qubits_at-in-Call.field-0.items ≡ qubits_at c.args.frame.qubits c.in-Call.qubits =
    c.in_ok-qubits_at-in-Call.ensures ∙ (λ i. qubits_at (d i) (c.items-in-Call-2.ensures i)) in
    let p : put_all c.args.frame.angles c.in-Call.params ≡ Ok c.in_ok-put_all-in-Call.field-0.items =
    (λ i. put_all (sym a i) (sym c.items-in-Call.ensures i)) ∙ c.in_ok-put_all-in-Call.ensures.angles in
    let l : c.push-in-Call.new.self.items ≡ c.args.frames.now.items ++ advanced c.args.frame ∷ [] =
    c.in_ok-push-in-Call.ensures.items ∙ ap (λ (f : FrameValue). c.args.frames.now.items ++ advanced f ∷ []) c.frame-2.view_is in
    subst (λ (r : Result MadeValue Cause). LeavesWork c.args.gates.now c.args.cond c.enter.result c.enter.new.frames.items c.enter.new.made r)
    (sym (step_call c.args.gates.now c.args.cond c.args.frame c.args.frames.now.items c.args.made.now c.in-Call.gate c.in-Call.params c.in-Call.qubits
    c.in_ok-put_all-in-Call.field-0.items c.count.new.self c.items.ensures.in_order h c.in_ok-count-in-Call.ensures p
    ∙ (λ i. entered_first c.args.gates.now c.args.cond
    (record { gate = c.in-Call.gate; next = 0; angles = c.in_ok-put_all-in-Call.field-0.items; qubits = sym q i }) (sym l i) c.count.new.self)))
    c.enter.ensures.made
