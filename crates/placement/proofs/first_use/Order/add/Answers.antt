use Rattle.std.proofs.Common.{◌≡◌, ◌++◌, ◌∷◌, [], List, false, set, true, sym, subst, ◌∙◌}
use Rattle.qc_base.specs.declared.ids.Qubit.{Qubit}
use Rattle.circuit_core.specs.Deciding.{is_listed}
use Rattle.step_rules.proofs.Reading.{flag_says}
use Rattle.placement.specs.Orders.{AreUsed}
use Rattle.placement.proofs.Uses.{added_again, added_new}
use Rattle.placement.proofs.first_use.Order.add.Goals as goal

pub returns-then-index-clause-added : goal.returns-then-index-clause-added
returns-then-index-clause-added c uses are =
    let q : Qubit = c.args.qubit in
    let flags = c.args.self.now.used.items in
    added_again c.args.self.now.qubits.items flags uses q (flag_says flags uses q.0 c.index.result.now c.requires c.index.ensures are.flagged ∙ c.if-index.true) are

pub returns-clause-added : goal.returns-clause-added
returns-clause-added c uses are =
    let q : Qubit = c.args.qubit in
    let flags = c.args.self.now.used.items in
    let new : is_listed q.0 uses ≡ false = flag_says flags uses q.0 c.index.result.now c.requires c.index.ensures are.flagged ∙ c.if-index.false in
    subst (λ (l : List Qubit). AreUsed l (set flags q.0 true) (uses ++ q ∷ [])) (sym c.in_ok-push.ensures.items) (added_new c.args.self.now.qubits.items flags uses q c.requires new are)
