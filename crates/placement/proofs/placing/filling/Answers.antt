use Rattle.std.proofs.Common.{◌≡◌, ◌<◌, ◌≤◌, List, length, sym, ap, subst, ◌∙◌, arith}
use Rattle.std.specs.Prelude.{All}
use Rattle.qc_base.specs.declared.ids.Qubit.{Qubit}
use Rattle.circuit_core.specs.Circuit.{qubit_count}
use Rattle.trap_parts.specs.declared.parts.ZonePart.{ZonePart}
use Rattle.step_rules.specs.Placement.{reading_order}
use Rattle.placement.specs.Faults.{Gives}
use Rattle.placement.specs.Filling.{filled, room}
use Rattle.placement.proofs.Filled.{is_filled, room_small}
use Rattle.placement.proofs.Placed.{filling_same}
use Rattle.placement.proofs.placing.filling.Goals as goal

pub room-room-requires : goal.room-room-requires
room-room-requires c = omega (arith, room_small c.args.trap.now c.zones-zones.ensures.trap, ap room c.zones-zones.ensures.zones)

pub judged-requires-clause-zones : goal.judged-requires-clause-zones
judged-requires-clause-zones c =
    let fits : qubit_count c.args.circuit.now ≤ room c.args.trap.now.zones = omega (arith, ap room c.zones-zones.ensures.zones) in
    let are = c.in_ok-lists.ensures ∙ ap (λ (z : List ZonePart). filled z c.args.qubits.now) c.zones-zones.ensures.zones in
    ap length are ∙ (is_filled c.args.trap.now c.args.circuit.now c.args.qubits.now c.requires fits).zones

pub judged-requires-clause-qubits : goal.judged-requires-clause-qubits
judged-requires-clause-qubits c =
    let fits : qubit_count c.args.circuit.now ≤ room c.args.trap.now.zones = omega (arith, ap room c.zones-zones.ensures.zones) in
    let are = c.in_ok-lists.ensures ∙ ap (λ (z : List ZonePart). filled z c.args.qubits.now) c.zones-zones.ensures.zones in
    subst (λ (l : List (List Qubit)). All (λ (q : Qubit). q.0 < qubit_count c.args.circuit.now) (reading_order l)) (sym are)
    (is_filled c.args.trap.now c.args.circuit.now c.args.qubits.now c.requires fits).qubits

pub returns-clause-answer : goal.returns-clause-answer
returns-clause-answer c =
    let fits : qubit_count c.args.circuit.now ≤ room c.args.trap.now.zones = omega (arith, ap room c.zones-zones.ensures.zones) in
    let are = c.in_ok-lists.ensures ∙ ap (λ (z : List ZonePart). filled z c.args.qubits.now) c.zones-zones.ensures.zones in
    subst (Gives (λ placement. placement) c.judged.result) (filling_same c.args.trap.now c.args.circuit.now c.args.qubits.now c.in_ok-lists.lists.items c.requires fits are) c.judged.ensures.answer
