-- The nodes of all operations that a schedule performs are at most those of the circuit.
use Rattle.std.proofs.Common.{◌≡◌, ℕ, ◌+◌, ◌≤◌, ◌⊎◌, Bool, true, false, List, [], ◌∷◌, length, Option, Some, None, refl, ap, ◌∙◌, inl, inr, arith}
use Rattle.std.specs.Prelude.{All, not, slice_get}
use Rattle.std.specs.Option.{option_map_or}
use Rattle.std.proofs.lemmas.Bool.{cases_lt, eq-eqb}
use Rattle.std.proofs.lemmas.Option.{slice_get_past}
use Rattle.qc_base.specs.Counting.{how_many}
use Rattle.circuit_core.specs.declared.op.Op.{Op}
use Rattle.circuit_core.specs.declared.op.Op.TheVariants.{U, Cx, Opaque, Measure, Reset, Barrier}
use Rattle.circuit_core.specs.Circuit.{CircuitValue, all_nodes, nodes_in}
use Rattle.circuit_core.specs.Op.{angles_of, is_barrier}
use Rattle.step_rules.specs.declared.action.Action.{Action}
use Rattle.step_rules.specs.declared.action.Action.TheVariants as actions
use Rattle.step_rules.specs.Play.{performs, actions_of, Performs}
use Rattle.schedule_text.proofs.WeightSums.{sum_over, sum_within, all_weights, weights_of, weights_within, weight_within, first_weight}

-- the nodes of the operation of that number
abbrev pub nodes_at : List Op → ℕ → ℕ
nodes_at ops number = option_map_or (λ (op : Op). nodes_in (angles_of op)) (slice_get ops number) 0

-- the nodes of the operation that an action performs
abbrev pub performed_nodes : List Op → Action → ℕ
performed_nodes ops (actions.Split zone end count) = 0
performed_nodes ops (actions.Move from to) = 0
performed_nodes ops (actions.Cross junction from to) = 0
performed_nodes ops (actions.Merge zone end) = 0
performed_nodes ops (actions.Swap zone index) = 0
performed_nodes ops (actions.Op zone op) = nodes_at ops op.0

nodes_together : (ops : List Op) → all_weights (nodes_at ops) (length ops) ≡ all_nodes ops
nodes_together [] = refl
nodes_together (op ∷ ops) = first_weight (nodes_at (op ∷ ops)) (length ops) ∙ ap (λ (n : ℕ). nodes_in (angles_of op) + n) (nodes_together ops)

none_there : (ops : List Op) (number : ℕ) → length ops ≤ number → nodes_at ops number ≡ 0
none_there ops number past = ap (λ (op : Option Op). option_map_or (λ (op : Op). nodes_in (angles_of op)) op 0) (slice_get_past ops number past)

op_within : (ops : List Op) (action : Action) (number : ℕ) → performs number action ≡ true → nodes_at ops number ≤ weights_of performs (nodes_at ops) (length ops) action
op_within ops action number is = elim (cases_lt number (length ops)) [
  | inl there ↦ weight_within performs (nodes_at ops) (length ops) action number there is
  | inr past ↦ omega (arith, none_there ops number past)
]

action_within : (ops : List Op) (action : Action) → performed_nodes ops action ≤ weights_of performs (nodes_at ops) (length ops) action
action_within ops (actions.Split zone end count) = omega arith
action_within ops (actions.Move from to) = omega arith
action_within ops (actions.Cross junction from to) = omega arith
action_within ops (actions.Merge zone end) = omega arith
action_within ops (actions.Swap zone index) = omega arith
action_within ops (actions.Op zone op) = op_within ops (actions.Op zone op) op.0 (eq-eqb op.0 op.0 refl)

-- a barrier has no angles
no_nodes : (op : Op) → is_barrier op ≡ true → nodes_in (angles_of op) ≡ 0
no_nodes (U theta phi lambda qubit cond) e = absurd cc
no_nodes (Cx control target cond) e = absurd cc
no_nodes (Opaque name params first second cond) e = absurd cc
no_nodes (Measure qubit bit cond) e = absurd cc
no_nodes (Reset qubit cond) e = absurd cc
no_nodes (Barrier qubits) e = refl

performed_or_none : (op : Option Op) → (option_map_or (λ (o : Op). not (is_barrier o)) op false ≡ true) ⊎ (option_map_or (λ (o : Op). nodes_in (angles_of o)) op 0 ≡ 0)
performed_or_none None = inr refl
performed_or_none (Some op) = by (is_barrier op) refl
  where
    by : (b : Bool) → is_barrier op ≡ b → (not (is_barrier op) ≡ true) ⊎ (nodes_in (angles_of op) ≡ 0)
    by true e = inr (no_nodes op e)
    by false e = inl (ap not e)

once_or_none : (circuit : CircuitValue) (steps : List (List Action)) (number : ℕ) → Performs circuit steps → (how_many (performs number) (actions_of steps) ≤ 1) ⊎ (nodes_at circuit.ops number ≡ 0)
once_or_none circuit steps number performed = elim (performed_or_none (slice_get circuit.ops number)) [
  | inl is ↦ inl (omega (arith, performed.once number is))
  | inr none ↦ inr none
]

pub performed_within : (circuit : CircuitValue) (steps : List (List Action)) → Performs circuit steps → sum_over (performed_nodes circuit.ops) (actions_of steps) ≤ all_nodes circuit.ops
performed_within circuit steps performed =
    let ops = circuit.ops in
    let each : All (λ action. performed_nodes ops action ≤ weights_of performs (nodes_at ops) (length ops) action) (actions_of steps) = λ k d h. action_within ops _ in
    omega (
      arith,
      sum_within (performed_nodes ops) (weights_of performs (nodes_at ops) (length ops)) (actions_of steps) each,
      weights_within performs (nodes_at ops) (length ops) (actions_of steps) (λ k h. once_or_none circuit steps k performed),
      nodes_together ops,
    )
