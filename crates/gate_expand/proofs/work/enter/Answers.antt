use Rattle.std.proofs.Common.{List, ap, sym, ◌∙◌, slice_get}
use Rattle.gate_expand.specs.WorkList.{FrameValue, frames_made}
use Rattle.gate_expand.proofs.Working.{enter_body, enter_made}
use Rattle.gate_expand.proofs.work.enter.Goals as goal

pub returns-then-has_body-clause-made : goal.returns-then-has_body-clause-made
returns-then-has_body-clause-made c =
    enter_body c.args.gates.now c.args.cond c.args.frame c.args.frames.now.items c.args.made.now c.in-Some.gate.now
    (ap (λ (f : FrameValue). slice_get c.args.gates.now f.gate) (sym c.frame.view_is) ∙ sym c.in-Some.ensures)
    (sym c.has_body.ensures ∙ c.if-has_body.true) c.requires
    ∙ sym (ap (λ (l : List FrameValue). frames_made c.args.gates.now c.args.cond l c.args.made.now)
    c.in_ok-push.ensures.items)

pub returns-clause-made : goal.returns-clause-made
returns-clause-made c =
    enter_made c.args.gates.now c.args.cond c.args.frame c.args.frames.now.items c.args.made.now c.in-Some.gate.now c.frame.inside.angles.items c.deref.result.now
    c.make_op.result c.make_op.new.made
    (ap (λ (f : FrameValue). slice_get c.args.gates.now f.gate) (sym c.frame.view_is) ∙ sym c.in-Some.ensures)
    (sym c.has_body.ensures ∙ c.if-has_body.false)
    (ap (λ (f : FrameValue). f.angles) (sym c.frame.view_is))
    (ap (λ (f : FrameValue). f.qubits) (sym c.frame.view_is) ∙ sym c.deref.ensures.value)
    c.make_op.ensures
