use Rattle.std.proofs.Common.{◌≡◌, ℕ, ◌<◌, ◌++◌, List, length, get_or, take, false, subst, ◌∙◌, arith}
use Rattle.std.proofs.lemmas.List.{length-set, take_all}
use Rattle.qc_base.specs.declared.ids.Qubit.{Qubit}
use Rattle.circuit_core.specs.Deciding.{is_listed}
use Rattle.step_rules.specs.Flags.{AreFlags}
use Rattle.step_rules.proofs.Reading.{repeated_later, flags_grown, flag_says}
use Rattle.step_rules.proofs.placement.mark.Goals as goal

pub loop-qubit-preserved : goal.loop-qubit-preserved
loop-qubit-preserved c =
    let list : List Qubit = c.args.list.now in
    let i : ℕ = c.loop-qubit.qubit-index in
    let d : Qubit = record { 0 = 0 } in
    let flags = c.loop-qubit.flags.items in
    let h : i < length list = c.loop-qubit-test.true in
    let within : (get_or list i d).0 < length flags = omega (arith, c.requires.there i d h, c.loop-qubit.invariant.len) in
    let new : (before : List Qubit) → AreFlags c.args.flags.now.items before → is_listed (get_or list i d).0 (before ++ take i list) ≡ false =
    λ before are. flag_says flags (before ++ take i list) (get_or list i d).0 c.index.result.now within c.index.ensures (c.loop-qubit.invariant.marked before are) ∙ c.if-index.false in
    record {
      len = length-set flags (get_or list i d).0 _ ∙ c.loop-qubit.invariant.len;
      so_far = λ before are. c.loop-qubit.invariant.so_far before are ∙ repeated_later before list i d h (new before are);
      marked = λ before are. flags_grown flags before list i d h within (c.loop-qubit.invariant.marked before are);
    }

pub returns-clause-marked : goal.returns-clause-marked
returns-clause-marked c before are none =
    let list : List Qubit = c.args.list.now in
    subst (λ (l : List Qubit). AreFlags c.loop-qubit.flags.items (before ++ l)) (take_all c.loop-qubit.qubit-index list (omega (arith, c.loop-qubit-test.false))) (c.loop-qubit.invariant.marked before are)
