use Rattle.std.proofs.Common.{◌≡◌, true, subst}
use Rattle.std.specs.Prelude.{All}
use Rattle.std.proofs.lemmas.List.{take_all}
use Rattle.std.proofs.lemmas.List.Elements.{All-more}
use Rattle.qc_base.specs.declared.ids.End.TheVariants.{A}
use Rattle.step_rules.specs.declared.action.Action.{Action}
use Rattle.step_rules.specs.declared.action.Action.TheVariants as kinds
use Rattle.compact.specs.Orders.{Precedes}
use Rattle.schedule_tests.proofs.tests.tight.none_before.Goals as goal

abbrev no_action : Action
no_action = kinds.Split (record { 0 = 0 }) A 0

pub loop-action-preserved : goal.loop-action-preserved
loop-action-preserved c =
    let P : Action → Type 0 = λ action. Precedes c.args.circuit.now c.args.op.0 action → ⊥ in
    All-more P c.args.rest.now c.loop-action.action-index no_action c.loop-action-test.true c.loop-action.invariant
    (λ it. let yes_it : c.comes_before.result ≡ true = c.comes_before.ensures.1 it in cc)

pub returns : goal.returns
returns c = λ holds.
    let P : Action → Type 0 = λ action. Precedes c.args.circuit.now c.args.op.0 action → ⊥ in
    subst (All P) (take_all c.loop-action.action-index c.args.rest.now c.loop-action-test.false) c.loop-action.invariant
