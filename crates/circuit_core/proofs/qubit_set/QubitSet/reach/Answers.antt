use Rattle.std.proofs.Common.{◌∙◌, Bool, List, subst, sym, arith}
use Rattle.circuit_core.proofs.Flags.{Steps, step_joined, step_apart, step_passed, reached_more, reached_all}
use Rattle.circuit_core.proofs.qubit_set.QubitSet.reach.Goals.{then-is_barrier+then-meets, else-is_barrier, else-is_barrier-via-then-is_barrier+else-meets, else-is_barrier-via-else-is_barrier}
use Rattle.circuit_core.proofs.qubit_set.QubitSet.reach.Goals as goal

pub loop-op-preserved : goal.loop-op-preserved
loop-op-preserved c =
    let old = c.loop-op.self in
    let op = c.op-item.result in
    let steps : Steps c.loop-op.self c.if-is_barrier.self c.op-item.result = elim c.if-is_barrier.branch [
      | then-is_barrier+then-meets w ↦ subst (λ (flags : List Bool). Steps old flags op) (sym w.self-is) (step_joined old w.add.new.self op w.meets.result (sym c.is_barrier.ensures ∙ w.if-is_barrier.true) w.if-meets.true w.meets.ensures w.add.ensures)
      | else-is_barrier w ↦ subst (λ (flags : List Bool). Steps old flags op) (sym w.self-is) (elim w.else-is_barrier.branch [
        | else-is_barrier-via-then-is_barrier+else-meets w' ↦ step_apart old op w'.meets.result w'.if-meets.false w'.meets.ensures
        | else-is_barrier-via-else-is_barrier w' ↦ step_passed old op (sym c.is_barrier.ensures ∙ w'.if-is_barrier.false)
      ])
    ] in
    reached_more c.args.self.now old c.if-is_barrier.self c.args.ops.now c.loop-op.op-index op (omega arith) c.op-item.is steps c.loop-op.invariant

pub returns : goal.returns
returns c = reached_all c.args.self.now c.loop-op.self c.args.ops.now c.loop-op.op-index (omega arith) c.loop-op.invariant
