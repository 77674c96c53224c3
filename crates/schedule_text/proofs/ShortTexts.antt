-- How long the lines of a schedule are, and the whole text of one that plays.
use Rattle.std.proofs.Common.{◌≡◌, ℕ, zero, suc, ◌+◌, ◌*◌, ◌≤◌, ◌^◌, true, false, List, [], ◌∷◌, ◌++◌, length, map, Option, Some, None, arith, length-append}
use Rattle.std.specs.Prelude.{All, IsTrue, IfSome, codes, decimal, not, slice_get}
use Rattle.std.specs.List.{flat_map}
use Rattle.std.specs.Option.{option_map_or}
use Rattle.std.proofs.lemmas.Bool.{not-true}
use Rattle.std.proofs.lemmas.List.Elements.{All-head, All-tail}
use Rattle.qc_base.specs.declared.ids.Qubit.{Qubit}
use Rattle.qc_base.specs.declared.ids.Ion.{Ion}
use Rattle.qc_base.specs.declared.ids.End.{End}
use Rattle.qc_base.specs.declared.ids.End.TheVariants.{A, B}
use Rattle.circuit_core.specs.declared.op.Op.{Op}
use Rattle.circuit_core.specs.Circuit.{CircuitValue, IsCircuit, IsOpOf, nodes_in, qubit_count}
use Rattle.circuit_core.specs.Label.{label}
use Rattle.circuit_core.specs.Op.{angles_of, is_barrier}
use Rattle.circuit_core.specs.Order.{is_performed}
use Rattle.trap_parts.specs.declared.parts.ZonePart.{ZonePart}
use Rattle.trap_parts.specs.Names.{is_name}
use Rattle.trap_parts.specs.Parts.{TrapValue}
use Rattle.trap_model.specs.Trap.{place_count, place_text}
use Rattle.trap_parts.specs.Build.{IsTrap}
use Rattle.step_rules.specs.declared.action.Action.{Action}
use Rattle.step_rules.specs.declared.action.Action.TheVariants as actions
use Rattle.step_rules.specs.Guards.{Passes}
use Rattle.step_rules.specs.Placement.{IsPlacement, reading_order, start_of}
use Rattle.step_rules.specs.Play.{AreLegal, Plays, actions_of}
use Rattle.step_rules.specs.Setting.{SettingValue, setting_of}
use Rattle.step_rules.specs.Steps.{after_step}
use Rattle.step_rules.proofs.Counted.{counted}
use Rattle.schedule_text.specs.Text.{labels_text, place_lines, at, op_line, end_text, action_line, step_lines, schedule_text}
use Rattle.schedule_text.proofs.WeightSums.{sum_over, sum_append}
use Rattle.schedule_text.proofs.TextSizes.{AreNamed, are_named, decimal_size, name_size, qubit_size, place_size, junction_size, op_line_size}
use Rattle.schedule_text.proofs.StepActions.{first_passes, few_actions}
use Rattle.schedule_text.proofs.PerformedNodes.{performed_nodes, performed_within}

-- ---- actions

end_size : (end : End) → length (end_text end) ≤ 1
end_size A = omega arith
end_size B = omega arith

each_there : {X : Type 0} (P : X → Type 0) (xs : List X) (k : ℕ) → All P xs → IfSome (slice_get xs k) P
each_there P [] k each = tt
each_there P (x ∷ xs) zero each = All-head P x xs each
each_there P (x ∷ xs) (suc k) each = each_there P xs k (All-tail P x xs each)

op_part_size : (circuit : CircuitValue) (placement : List (List Qubit)) (number : ℕ) (op : Option Op) → IsCircuit circuit → IfSome op (IsOpOf circuit) → option_map_or (λ (o : Op). not (is_barrier o)) op false ≡ true
    → length (option_map_or (op_line circuit placement number) op []) ≤ 801 + 65 * option_map_or (λ (o : Op). nodes_in (angles_of o)) op 0
op_part_size circuit placement number None c is performed = omega arith
op_part_size circuit placement number (Some op) c is performed = op_line_size circuit placement number op c is (not-true (is_barrier op) performed)

performed_size : (place rest : List ℕ) (n : ℕ) → length place ≤ 81 → length rest ≤ n → length (codes "op " ++ place ++ codes " " ++ rest) ≤ 85 + n
performed_size place rest n short fits = simp length-append (omega arith)

action_size : (setting : SettingValue) (config : List (List Ion)) (action : Action) → AreNamed setting.trap → IsCircuit setting.circuit → Passes setting config action
    → length (action_line setting action) ≤ 1000 + 65 * performed_nodes setting.circuit.ops action
action_size setting config (actions.Split zone end count) named c passes =
    simp length-append (omega (arith, place_size setting.trap zone.0 named, end_size end, decimal_size count))
action_size setting config (actions.Move from to) named c passes =
    simp length-append (omega (arith, place_size setting.trap from.0 named, place_size setting.trap to.0 named))
action_size setting config (actions.Cross junction from to) named c passes =
    simp length-append (omega (arith, junction_size setting.trap.junctions junction.0 named.junctions, place_size setting.trap from.0 named, place_size setting.trap to.0 named))
action_size setting config (actions.Merge zone end) named c passes =
    simp length-append (omega (arith, place_size setting.trap zone.0 named, end_size end))
action_size setting config (actions.Swap zone index) named c passes =
    simp length-append (omega (arith, place_size setting.trap zone.0 named, decimal_size index))
action_size setting config (actions.Op zone op) named c passes =
    let performed : is_performed setting.circuit op.0 ≡ true = (first_passes _ _ _ (first_passes _ _ _ passes).1).0 in
    let circuit = setting.circuit in
    omega (
      arith,
      performed_size (place_text setting.trap zone.0) (at (op_line circuit setting.placement op.0) circuit.ops op.0) _ (place_size setting.trap zone.0 named)
          (op_part_size circuit setting.placement op.0 (slice_get circuit.ops op.0) c (each_there (IsOpOf circuit) circuit.ops op.0 c.ops) performed),
    )

-- ---- steps

actions_size : (setting : SettingValue) (config : List (List Ion)) (step : List Action) → AreNamed setting.trap → IsCircuit setting.circuit → All (Passes setting config) step
    → length (flat_map (action_line setting) step) ≤ 1000 * length step + 65 * sum_over (performed_nodes setting.circuit.ops) step
actions_size setting config [] named c passes = omega arith
actions_size setting config (action ∷ step) named c passes =
    omega (
      arith,
      action_size setting config action named c (All-head (Passes setting config) action step passes),
      actions_size setting config step named c (All-tail (Passes setting config) action step passes),
      length-append (action_line setting action) (flat_map (action_line setting) step),
    )

step_parts : (number lines rest : List ℕ) (n m : ℕ) → length number ≤ 64 → length lines ≤ n → length rest ≤ m → length (codes "step " ++ number ++ codes "\n" ++ lines ++ rest) ≤ 70 + n + m
step_parts number lines rest n m a b c = simp length-append (omega arith)

steps_size : (setting : SettingValue) (config : List (List Ion)) (number : ℕ) (steps : List (List Action)) → AreNamed setting.trap → IsCircuit setting.circuit → place_count setting.trap ≤ 48 → AreLegal setting config steps
    → length (step_lines setting number steps) ≤ 48070 * length steps + 65 * sum_over (performed_nodes setting.circuit.ops) (actions_of steps)
steps_size setting config number [] named c few legal = omega arith
steps_size setting config number (step ∷ steps) named c few legal =
    let nodes = performed_nodes setting.circuit.ops in
    omega (
      arith,
      step_parts (decimal number) (flat_map (action_line setting) step) (step_lines setting (number + 1) steps) _ _ (decimal_size number)
          (actions_size setting config step named c legal.0.passes) (steps_size setting (after_step setting.trap config step) (number + 1) steps named c few legal.1),
      few_actions setting config step legal.0,
      sum_append nodes step (actions_of steps),
    )

-- ---- the placement

labels_size : (circuit : CircuitValue) (qubits : List Qubit) → IsCircuit circuit → length (labels_text circuit qubits) ≤ 131 * length qubits
labels_size circuit [] c = omega arith
labels_size circuit (qubit ∷ qubits) c =
    omega (arith, qubit_size circuit qubit c, labels_size circuit qubits c, length-append (codes " " ++ label circuit qubit) (labels_text circuit qubits))

place_parts : (name labels rest : List ℕ) (n m : ℕ) → length name ≤ 16 → length labels ≤ n → length rest ≤ m → length (codes "place " ++ name ++ labels ++ codes "\n" ++ rest) ≤ 23 + n + m
place_parts name labels rest n m a b c = simp length-append (omega arith)

places_size : (circuit : CircuitValue) (zones : List ZonePart) (lists : List (List Qubit)) → IsCircuit circuit → All (λ text. IsTrue (is_name text)) (map (λ (zone : ZonePart). zone.name) zones)
    → length (place_lines circuit zones lists) ≤ 23 * length zones + 131 * length (reading_order lists)
places_size circuit [] lists c named = omega arith
places_size circuit (zone ∷ zones) [] c named = omega arith
places_size circuit (zone ∷ zones) (list ∷ lists) c named =
    let P : List ℕ → Type 0 = λ text. IsTrue (is_name text) in
    let names = map (λ (z : ZonePart). z.name) zones in
    omega (
      arith,
      place_parts zone.name (labels_text circuit list) (place_lines circuit zones lists) _ _ (name_size zone.name (All-head P zone.name names named)) (labels_size circuit list c)
          (places_size circuit zones lists c (All-tail P zone.name names named)),
      length-append list (reading_order lists),
    )

-- ---- the whole text

text_parts : (places number lines : List ℕ) (n m : ℕ) → length places ≤ n → length number ≤ 64 → length lines ≤ m
    → length (codes "qccd schedule 1\n" ++ places ++ codes "steps " ++ number ++ codes "\n" ++ lines ++ codes "end\n") ≤ 91 + n + m
text_parts places number lines n m a b c = simp length-append (omega arith)

pub short_text : (trap : TrapValue) (circuit : CircuitValue) (placement : List (List Qubit)) (steps : List (List Action)) → IsTrap trap → IsCircuit circuit → IsPlacement trap circuit placement
    → Plays (setting_of trap circuit placement) steps → place_count trap ≤ 48 → length circuit.ops ≤ 200 → length steps ≤ 48 → length (schedule_text (setting_of trap circuit placement) steps) ≤ 2 ^ 30
short_text trap circuit placement steps t c placed plays few_places few_ops few_steps =
    let setting = setting_of trap circuit placement in
    let named = are_named trap t in
    omega (
      arith,
      text_parts (place_lines circuit trap.zones placement) (decimal (length steps)) (step_lines setting 1 steps) _ _ (places_size circuit trap.zones placement c named.zones) (decimal_size (length steps))
          (steps_size setting (start_of trap placement) 1 steps named c few_places plays.legal),
      counted (qubit_count circuit) (reading_order placement) placed.qubits placed.once,
      performed_within circuit steps plays.performed,
      c.qubits,
      c.nodes,
      t.zones,
    )
