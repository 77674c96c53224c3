use Rattle.std.proofs.Common.{ℕ, ◌<◌, ◌++◌, List, length, get_or, take, subst, ◌∙◌, arith}
use Rattle.std.proofs.lemmas.List.{length-set, take_all}
use Rattle.qc_base.specs.declared.ids.Qubit.{Qubit}
use Rattle.step_rules.proofs.Reading.{flag_says}
use Rattle.schedule_text.specs.ZoneLists.{AreMarked}
use Rattle.schedule_text.proofs.Opening.{marked_more, stands_twice}
use Rattle.schedule_text.proofs.open.mark.Goals as goal

pub returns-then-index-clause-marked : goal.returns-then-index-clause-marked
returns-then-index-clause-marked c before are =
    let list : List Qubit = c.args.list.now in
    let i : ℕ = c.loop-qubit.qubit-index in
    let d : Qubit = record { 0 = 0 } in
    let h : i < length list = c.loop-qubit-test.true in
    let within : (get_or list i d).0 < length c.loop-qubit.flags.items = omega (arith, c.requires.there i d h, c.loop-qubit.invariant.len) in
    stands_twice before list i d h (flag_says c.loop-qubit.flags.items (before ++ take i list) (get_or list i d).0 c.index.result.now within c.index.ensures (c.loop-qubit.invariant.marked before are).flags ∙ c.if-index.true)

pub loop-qubit-preserved : goal.loop-qubit-preserved
loop-qubit-preserved c =
    let list : List Qubit = c.args.list.now in
    let i : ℕ = c.loop-qubit.qubit-index in
    let d : Qubit = record { 0 = 0 } in
    let marks = c.loop-qubit.flags.items in
    let h : i < length list = c.loop-qubit-test.true in
    let within : (get_or list i d).0 < length marks = omega (arith, c.requires.there i d h, c.loop-qubit.invariant.len) in
    record {
      len = length-set marks (get_or list i d).0 _ ∙ c.loop-qubit.invariant.len;
      marked = λ before are.
          let so_far : AreMarked marks (before ++ take i list) = c.loop-qubit.invariant.marked before are in
          marked_more marks before list i d h within so_far (flag_says marks (before ++ take i list) (get_or list i d).0 c.index.result.now within c.index.ensures so_far.flags ∙ c.if-index.false);
    }

pub returns-clause-marked : goal.returns-clause-marked
returns-clause-marked c before are =
    let list : List Qubit = c.args.list.now in
    subst (λ (l : List Qubit). AreMarked c.loop-qubit.flags.items (before ++ l)) (take_all c.loop-qubit.qubit-index list (omega (arith, c.loop-qubit-test.false))) (c.loop-qubit.invariant.marked before are)
