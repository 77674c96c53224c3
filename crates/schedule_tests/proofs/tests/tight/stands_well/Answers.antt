use Rattle.std.proofs.Common.{drop, get_or, subst}
use Rattle.std.specs.Prelude.{All}
use Rattle.std.proofs.lemmas.Option.{slice_get-get_or}
use Rattle.std.proofs.lemmas.List.{take_rest}
use Rattle.qc_base.specs.declared.ids.End.TheVariants.{A}
use Rattle.step_rules.specs.declared.action.Action.{Action}
use Rattle.step_rules.specs.declared.action.Action.TheVariants as kinds
use Rattle.compact.specs.Orders.{Precedes}
use Rattle.schedule_tests.proofs.Testing.{before_place, not_performed}
use Rattle.schedule_tests.proofs.tests.tight.stands_well.Goals as goal

abbrev no_action : Action
no_action = kinds.Split (record { 0 = 0 }) A 0

pub returns-in_default : goal.returns-in_default
returns-in_default c = λ holds i j p forced of_i of_j. absurd (not_performed c.args.actions.now j c.args.place no_action c.in_default.not-Op of_j)

pub returns : goal.returns
returns c = λ holds i j p forced of_i of_j.
    let P : Action → Type 0 = λ action. Precedes c.args.circuit.now c.in-Op.op.0 action → ⊥ in
    let given : Action = get_or c.args.actions.now c.args.place no_action in
    let none : All P (drop c.args.place c.args.actions.now) = subst (All P) (take_rest c.args.actions.now c.args.place) (c.none_before.ensures holds) in
    before_place c.args.circuit.now c.args.actions.now c.args.place i j p c.in-Op.zone c.in-Op.op given c.in-Op.is (slice_get-get_or c.args.actions.now c.args.place no_action c.requires) none forced of_i of_j
