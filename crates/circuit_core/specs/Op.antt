-- What an operation acts on, and when it is one.
use Rattle.std.specs.Prelude.{◌≡◌, ◌≢◌, ℕ, ◌+◌, ◌<◌, ◌≤◌, Bool, true, false, IsTrue, List, [], ◌∷◌, ◌++◌, length, All, AllPairs, Option, None, Some, IfSome}
use Rattle.qc_base.specs.declared.ids.Qubit.{Qubit}
use Rattle.qc_base.specs.declared.ids.Bit.{Bit}
use Rattle.circuit_core.specs.declared.angle.Angle.{Angle}
use Rattle.circuit_core.specs.declared.op.Cond.{Cond}
use Rattle.circuit_core.specs.declared.op.Op.{Op}
use Rattle.circuit_core.specs.declared.op.Op.TheVariants.{U, Cx, Opaque, Measure, Reset, Barrier}
use Rattle.circuit_core.specs.Identifier.{is_identifier}
use Rattle.circuit_core.specs.Reals.{IsShortReal}
use Rattle.circuit_core.specs.Angle.{nodes_of, reals_of}

abbrev pub one_or_two : Qubit → Option Qubit → List Qubit
one_or_two first None = first ∷ []
one_or_two first (Some second) = first ∷ second ∷ []

-- its qubits, in order
abbrev pub qubits_of : Op → List Qubit
qubits_of (U theta phi lambda qubit cond) = qubit ∷ []
qubits_of (Cx control target cond) = control ∷ target ∷ []
qubits_of (Opaque name params first second cond) = one_or_two first second
qubits_of (Measure qubit bit cond) = qubit ∷ []
qubits_of (Reset qubit cond) = qubit ∷ []
qubits_of (Barrier qubits) = qubits

-- the bit that it writes
abbrev pub bit_of : Op → Option Bit
bit_of (U theta phi lambda qubit cond) = None
bit_of (Cx control target cond) = None
bit_of (Opaque name params first second cond) = None
bit_of (Measure qubit bit cond) = Some bit
bit_of (Reset qubit cond) = None
bit_of (Barrier qubits) = None

-- its condition; a barrier has none
abbrev pub cond_of : Op → Option Cond
cond_of (U theta phi lambda qubit cond) = cond
cond_of (Cx control target cond) = cond
cond_of (Opaque name params first second cond) = cond
cond_of (Measure qubit bit cond) = cond
cond_of (Reset qubit cond) = cond
cond_of (Barrier qubits) = None

-- its angles, in order
abbrev pub angles_of : Op → List Angle
angles_of (U theta phi lambda qubit cond) = theta ∷ phi ∷ lambda ∷ []
angles_of (Cx control target cond) = []
angles_of (Opaque name params first second cond) = params
angles_of (Measure qubit bit cond) = []
angles_of (Reset qubit cond) = []
angles_of (Barrier qubits) = []

-- each of its angles has at most 1,000 nodes
abbrev pub HasSmallAngles : Op → Type 0
HasSmallAngles op = All (λ (angle : Angle). nodes_of angle ≤ 1000) (angles_of op)

-- a barrier orders other operations and isn't performed itself
abbrev pub is_barrier : Op → Bool
is_barrier (U theta phi lambda qubit cond) = false
is_barrier (Cx control target cond) = false
is_barrier (Opaque name params first second cond) = false
is_barrier (Measure qubit bit cond) = false
is_barrier (Reset qubit cond) = false
is_barrier (Barrier qubits) = true

-- ---- when it is one

-- an angle of at most 1,000 nodes, whose reals are real literals
pub record IsAngle (angle : Angle) : Type 0 where
  pub small : nodes_of angle ≤ 1000
  pub reals : All IsShortReal (reals_of angle)

-- an opaque gate's name is an identifier, and it has at most 16 parameters and qubits together
abbrev pub IsGate : Op → Type 0
IsGate (Opaque name params first second cond) =
    IsTrue (is_identifier name) × (length params + length (one_or_two first second) ≤ 16)
IsGate op = Unit {0}

-- An operation on so many qubits, bits and classical registers: what it names is there, and its qubits differ.
pub record IsOp (qubit_count bit_count creg_count : ℕ) (op : Op) : Type 0 where
  pub some : 1 ≤ length (qubits_of op)
  pub qubits : All (λ (qubit : Qubit). qubit.0 < qubit_count) (qubits_of op)
  pub differ : AllPairs (λ (qubit other : Qubit). qubit ≢ other) (qubits_of op)
  pub bit : IfSome (bit_of op) (λ (bit : Bit). bit.0 < bit_count)
  pub cond : IfSome (cond_of op) (λ (cond : Cond). cond.creg.0 < creg_count)
  pub angles : All IsAngle (angles_of op)
  pub gate : IsGate op
