-- What is made after other operations is what is made by itself.
use Rattle.std.proofs.Common.{◌≡◌, ℕ, zero, suc, ◌+◌, ◌<◌, ◌≤◌, List, [], ◌∷◌, ◌++◌, length, slice_get, Bool, true, false, cond, Option, Some, None, Result, Ok, refl, ap, sym, ◌∙◌, subst, arith, length-append, append_assoc}
use Rattle.std.specs.Prelude.{◌==◌, nat_le, nat_lt}
use Rattle.std.proofs.lemmas.Bool.{ltb-false, leb-false}
use Rattle.std.proofs.lemmas.Bool.Decides.{nat_tests}
use Rattle.qc_base.specs.declared.ids.Qubit.{Qubit}
use Rattle.circuit_core.specs.declared.angle.Angle.{Angle}
use Rattle.circuit_core.specs.declared.op.Cond.{Cond}
use Rattle.circuit_core.specs.declared.op.Op.{Op}
use Rattle.circuit_core.specs.declared.op.Op.TheVariants as op
use Rattle.circuit_core.specs.Circuit.{all_nodes}
use Rattle.gate_names.specs.declared.cause.Cause.{Cause}
use Rattle.gate_names.specs.declared.cause.Cause.TheVariants.{TooMany}
use Rattle.gate_names.specs.declared.cause.Counted.TheVariants.{Applications, Ops, Nodes}
use Rattle.gate_names.specs.declared.gate.Gate.{Gate}
use Rattle.gate_names.specs.declared.gate.Gate.TheVariants.{Universal, ControlledNot, Opaque, Body}
use Rattle.gate_names.specs.declared.gate.Item.{Item}
use Rattle.gate_names.specs.declared.gate.Item.TheVariants.{Call, Barrier}
use Rattle.gate_names.specs.declared.term.Term.{Term}
use Rattle.gate_names.specs.Causes.{◌>>=◌, ◌>>◌, refuse_if}
use Rattle.gate_expand.specs.Angles.{put_all}
use Rattle.gate_expand.specs.Making.{MadeValue, Maker, counted, with_op}
use Rattle.gate_expand.specs.Expansion.{Performing, op_of, with_made, op_made, qubits_at, applied, item_made, items_made, gate_made, gate_at_made, performed, application_made}
use Rattle.gate_expand.proofs.SoundSteps.{same_Ok, then_ok, next_ok, passed, passed_last}

-- what was made, and then more
abbrev pub with_more : MadeValue → MadeValue → MadeValue
with_more made more = record { ops = made.ops ++ more.ops; applications = made.applications + more.applications }

-- what it makes after other operations, it makes without them
abbrev pub Adds : Maker → Type 0
Adds maker =
    (front made now : MadeValue) → maker (with_more front made) ≡ Ok now
    → (more : MadeValue) × (now ≡ with_more front more) × (maker made ≡ Ok more)

-- ---- one step

nodes_append : (ops more : List Op) → all_nodes (ops ++ more) ≡ all_nodes ops + all_nodes more
nodes_append [] more = omega arith
nodes_append (first ∷ ops) more = omega (arith, nodes_append ops more)

pub nothing_adds : Adds Ok
nothing_adds front made now h = (made, sym (same_Ok (with_more front made) now h), refl)

pub counted_adds : Adds counted
counted_adds front made now h =
    let all : ℕ = front.applications + made.applications in
    let then : MadeValue = record { ops = front.ops ++ made.ops; applications = all + 1 } in
    let more : MadeValue = record { ops = made.ops; applications = made.applications + 1 } in
    let first = passed (nat_le 100000 all) (TooMany Applications) (Ok then) now h in
    let few : all < 100000 = leb-false 100000 all first.0 in
    let below : nat_le 100000 made.applications ≡ false = grind (arith, nat_tests) in
    let sum : all + 1 ≡ front.applications + (made.applications + 1) = omega arith in
    let same : then ≡ with_more front more = (λ i. record { ops = front.ops ++ made.ops; applications = sum i }) in (
      more,
      sym (same_Ok then now first.1) ∙ same,
      ap (λ (b : Bool). refuse_if b (TooMany Applications) >> Ok more) below,
    )

pub with_op_adds : (it : Op) → Adds (with_op it)
with_op_adds it front made now h =
    let ops : List Op = front.ops ++ made.ops in
    let then : MadeValue = record { ops = ops ++ it ∷ []; applications = front.applications + made.applications } in
    let more : MadeValue = record { ops = made.ops ++ it ∷ []; applications = made.applications } in
    let both = next_ok (refuse_if (nat_le 10000 (length ops)) (TooMany Ops) >> refuse_if (nat_lt 1000000 (all_nodes (ops ++ it ∷ []))) (TooMany Nodes)) (Ok then) now h in
    let first = passed (nat_le 10000 (length ops)) (TooMany Ops) (refuse_if (nat_lt 1000000 (all_nodes (ops ++ it ∷ []))) (TooMany Nodes)) both.0.0 both.0.1 in
    let few : length ops < 10000 = leb-false 10000 (length ops) first.0 in
    let nodes : all_nodes (ops ++ it ∷ []) ≤ 1000000 = ltb-false 1000000 (all_nodes (ops ++ it ∷ [])) (passed_last (nat_lt 1000000 (all_nodes (ops ++ it ∷ []))) (TooMany Nodes) both.0.0 first.1) in
    let long = length-append front.ops made.ops in
    let joined : ops ++ it ∷ [] ≡ front.ops ++ (made.ops ++ it ∷ []) = append_assoc front.ops made.ops (it ∷ []) in
    let sum : all_nodes (ops ++ it ∷ []) ≡ all_nodes front.ops + all_nodes (made.ops ++ it ∷ []) = ap all_nodes joined ∙ nodes_append front.ops (made.ops ++ it ∷ []) in
    let fewer : length made.ops < 10000 = omega (arith, few, long) in
    let less : all_nodes (made.ops ++ it ∷ []) ≤ 1000000 = omega (arith, nodes, sum) in
    let below : nat_le 10000 (length made.ops) ≡ false = grind (arith, nat_tests) in
    let small : nat_lt 1000000 (all_nodes (made.ops ++ it ∷ [])) ≡ false = grind (arith, nat_tests) in
    let same : then ≡ with_more front more = (λ i. record { ops = joined i; applications = front.applications + made.applications }) in (
      more,
      sym (same_Ok then now both.1) ∙ same,
      (λ i. refuse_if (below i) (TooMany Ops) >> refuse_if (small i) (TooMany Nodes) >> Ok more),
    )

-- ---- one step after another

pub then_adds : (first second : Maker) → Adds first → Adds second → Adds (λ made. first made >>= second)
then_adds first second a b front made now h =
    let one = then_ok (first (with_more front made)) second now h in
    let left = a front made one.0 one.1 in
    let two = b front left.0 now (subst (λ (m : MadeValue). second m ≡ Ok now) left.1 one.2) in
    (two.0, two.1, ap (λ (r : Result MadeValue Cause). r >>= second) left.2 ∙ two.2)

-- one of two
chosen_adds : (b : Bool) (first second : Maker) → Adds first → Adds second → Adds (λ made. cond b (first made) (second made))
chosen_adds true first second left right = left
chosen_adds false first second left right = right

-- a step of a value that may be refused
pub given_adds : {X : Type 0} (r : Result X Cause) (step : X → Maker) → ((x : X) → r ≡ Ok x → Adds (step x)) → Adds (λ made. r >>= λ x. step x made)
given_adds {X} r step each front made now h =
    let one = then_ok r (λ (x : X). step x (with_more front made)) now h in
    let two = each one.0 one.1 front made now one.2 in
    (two.0, two.1, ap (λ (r : Result X Cause). r >>= λ (x : X). step x made) one.1 ∙ two.2)

-- ---- applications

said_adds : (said : Option Op) → Adds (with_made said)
said_adds None = nothing_adds
said_adds (Some it) = with_op_adds it

op_adds : (condition : Option Cond) (gate : Gate) (angles : List Angle) (qubits : List Qubit) → Adds (op_made condition gate angles qubits)
op_adds condition gate angles qubits = given_adds (op_of condition gate angles qubits) with_made (λ said e. said_adds said)

abbrev PerformsAdding : Performing → Type 0
PerformsAdding perform = (gate : ℕ) (angles : List Angle) (qubits : List Qubit) → Adds (perform gate angles qubits)

module _ (perform : Performing) (performs : PerformsAdding perform) where
  applied_adds : (gate : ℕ) (params : List Term) (angles : List Angle) (qubits : List Qubit) → Adds (applied perform gate params angles qubits)
  applied_adds gate params angles qubits =
      then_adds counted (λ now. put_all angles params >>= λ actual. perform gate actual qubits now) counted_adds
      (given_adds (put_all angles params) (λ actual. perform gate actual qubits) (λ actual e. performs gate actual qubits))

  module _ (angles : List Angle) (qubits : List Qubit) where
    item_adds : (item : Item) → Adds (item_made perform angles qubits item)
    item_adds (Call gate params positions) = applied_adds gate params angles (qubits_at qubits positions)
    item_adds (Barrier positions) = with_op_adds (op.Barrier (qubits_at qubits positions))

    items_add : (items : List Item) → Adds (items_made perform angles qubits items)
    items_add [] = nothing_adds
    items_add (item ∷ items) =
        then_adds (item_made perform angles qubits item) (items_made perform angles qubits items) (item_adds item) (items_add items)

    gate_adds : (condition : Option Cond) (gate : Gate) → Adds (gate_made perform condition gate angles qubits)
    gate_adds condition (Body params width items) = items_add items
    gate_adds condition Universal = op_adds condition Universal angles qubits
    gate_adds condition ControlledNot = op_adds condition ControlledNot angles qubits
    gate_adds condition (Opaque name params width) = op_adds condition (Opaque name params width) angles qubits

    there_adds : (condition : Option Cond) (gate : Option Gate) → Adds (gate_at_made perform condition gate angles qubits)
    there_adds condition None = nothing_adds
    there_adds condition (Some gate) = gate_adds condition gate

module _ (gates : List Gate) (condition : Option Cond) where
  performed_adds : (bound : ℕ) → PerformsAdding (performed gates condition bound)
  unfolding performed
  performed_adds zero gate angles qubits = nothing_adds
  performed_adds (suc last) gate angles qubits =
      chosen_adds (gate == last) (gate_at_made (performed gates condition last) condition (slice_get gates gate) angles qubits)
      (performed gates condition last gate angles qubits)
      (there_adds (performed gates condition last) (performed_adds last) angles qubits condition (slice_get gates gate))
      (performed_adds last gate angles qubits)

  pub application_adds : (gate : ℕ) (params : List Term) (qubits : List Qubit) → Adds (application_made gates condition gate params qubits)
  application_adds gate params qubits = applied_adds (performed gates condition (length gates)) (performed_adds (length gates)) gate params [] qubits
