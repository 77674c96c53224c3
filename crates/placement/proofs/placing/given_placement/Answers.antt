use Rattle.std.proofs.Common.{◌≡◌, Ok, sym, ap, subst, ◌∙◌}
use Rattle.placement.specs.Faults.{Gives}
use Rattle.placement.specs.Named.{lists_named}
use Rattle.placement.specs.Placing.{Table}
use Rattle.placement.proofs.Labels.{are_named}
use Rattle.placement.proofs.Placed.{given_same}
use Rattle.placement.proofs.placing.given_placement.Goals as goal

pub judged-requires-clause-zones : goal.judged-requires-clause-zones
judged-requires-clause-zones c =
    let is = sym (ap (λ (t : Table). lists_named c.args.circuit.now 0 t) c.items.ensures) ∙ c.in_ok-lists.ensures in
    (are_named c.args.circuit.now 0 c.args.table.now c.in_ok-lists.lists.items is).zones ∙ c.requires

pub judged-requires-clause-qubits : goal.judged-requires-clause-qubits
judged-requires-clause-qubits c =
    let is = sym (ap (λ (t : Table). lists_named c.args.circuit.now 0 t) c.items.ensures) ∙ c.in_ok-lists.ensures in
    (are_named c.args.circuit.now 0 c.args.table.now c.in_ok-lists.lists.items is).below

pub returns-clause-answer : goal.returns-clause-answer
returns-clause-answer c =
    let is = sym (ap (λ (t : Table). lists_named c.args.circuit.now 0 t) c.items.ensures) ∙ c.in_ok-lists.ensures in
    subst (Gives (λ placement. placement) c.judged.result) (given_same c.args.trap.now c.args.circuit.now c.args.table.now c.in_ok-lists.lists.items is) c.judged.ensures.answer
