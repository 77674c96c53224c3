-- What an application of a gate makes: its body's items with angles put for parameters and qubits for formal qubits,
-- down to U, CX and opaque gates.
use Rattle.std.specs.Prelude.{ℕ, suc, zero, List, [], ◌∷◌, map, length, slice_get, slice_index_or, Option, Some, None, Result, Ok, Err, ◌==◌, if◌then◌else◌}
use Rattle.qc_base.specs.declared.ids.Qubit.{Qubit}
use Rattle.circuit_core.specs.declared.angle.Angle.{Angle}
use Rattle.circuit_core.specs.declared.op.Cond.{Cond}
use Rattle.circuit_core.specs.declared.op.Op.{Op}
use Rattle.circuit_core.specs.declared.op.Op.TheVariants as op
use Rattle.gate_names.specs.declared.gate.Gate.{Gate}
use Rattle.gate_names.specs.declared.gate.Gate.TheVariants.{Universal, ControlledNot, Opaque, Body}
use Rattle.gate_names.specs.declared.gate.Item.{Item}
use Rattle.gate_names.specs.declared.gate.Item.TheVariants.{Call, Barrier}
use Rattle.gate_names.specs.declared.term.Term.{Term}
use Rattle.gate_names.specs.declared.cause.Cause.{Cause}
use Rattle.gate_names.specs.declared.cause.Cause.TheVariants.{WideOp}
use Rattle.gate_names.specs.Causes.{◌>>=◌}
use Rattle.gate_expand.specs.Angles.{put_all}
use Rattle.gate_expand.specs.Making.{Maker, counted, with_op}

-- the operation of a gate without a body
abbrev pub op_of : Option Cond → Gate → List Angle → List Qubit → Result (Option Op) Cause
op_of cond Universal (theta ∷ phi ∷ lambda ∷ []) (qubit ∷ []) = Ok (Some (op.U theta phi lambda qubit cond))
op_of cond ControlledNot angles (control ∷ target ∷ []) = Ok (Some (op.Cx control target cond))
op_of cond (Opaque name params qubits) angles (first ∷ []) = Ok (Some (op.Opaque name angles first None cond))
op_of cond (Opaque name params qubits) angles (first ∷ second ∷ []) =
    Ok (Some (op.Opaque name angles first (Some second) cond))
op_of cond (Opaque name params qubits) angles (first ∷ second ∷ third ∷ more) = Err WideOp
op_of cond gate angles qubits = Ok None

-- makes it, where there is one
abbrev pub with_made : Option Op → Maker
with_made None made = Ok made
with_made (Some op) made = with_op op made

-- what a gate without a body makes
abbrev pub op_made : Option Cond → Gate → List Angle → List Qubit → Maker
op_made cond gate angles qubits made = op_of cond gate angles qubits >>= λ op. with_made op made

-- the qubits at those positions
abbrev pub qubits_at : List Qubit → List ℕ → List Qubit
qubits_at qubits positions = map (λ k. slice_index_or qubits k (record { 0 = 0 })) positions

-- an application of the gate of a number, to angles and qubits
abbrev pub Performing : Type 0
Performing = ℕ → List Angle → List Qubit → Maker

-- An application with expressions for angles: it is counted, the angles are put for the parameters, and it is
-- performed.
abbrev pub applied : Performing → ℕ → List Term → List Angle → List Qubit → Maker
applied perform gate params angles qubits made =
    counted made >>= λ now. put_all angles params >>= λ actual. perform gate actual qubits now

-- an item of a body; a barrier has no condition
abbrev pub item_made : Performing → List Angle → List Qubit → Item → Maker
item_made perform angles qubits (Call gate params positions) =
    applied perform gate params angles (qubits_at qubits positions)
item_made perform angles qubits (Barrier positions) = with_op (op.Barrier (qubits_at qubits positions))

-- the items of a body in order
abbrev pub items_made : Performing → List Angle → List Qubit → List Item → Maker
items_made perform angles qubits [] made = Ok made
items_made perform angles qubits (item ∷ items) made =
    item_made perform angles qubits item made >>= items_made perform angles qubits items

-- what a gate makes, where the gates that its body calls are performed so
abbrev pub gate_made : Performing → Option Cond → Gate → List Angle → List Qubit → Maker
gate_made perform cond (Body params count items) angles qubits made = items_made perform angles qubits items made
gate_made perform cond gate angles qubits made = op_made cond gate angles qubits made

abbrev pub gate_at_made : Performing → Option Cond → Option Gate → List Angle → List Qubit → Maker
gate_at_made perform cond None angles qubits made = Ok made
gate_at_made perform cond (Some gate) angles qubits made = gate_made perform cond gate angles qubits made

-- Performing the gates below that number. A body calls gates of lower numbers than its own.
unfoldable pub performed : List Gate → Option Cond → ℕ → Performing
performed gates cond zero gate angles qubits made = Ok made
performed gates cond (suc last) gate angles qubits made =
    if gate == last
    then gate_at_made (performed gates cond last) cond (slice_get gates gate) angles qubits made
    else performed gates cond last gate angles qubits made

-- an application in the file, to as many angles as are written
abbrev pub application_made : List Gate → Option Cond → ℕ → List Term → List Qubit → Maker
application_made gates cond gate params qubits = applied (performed gates cond (length gates)) gate params [] qubits
