-- How an operation is written, as a circuit file has it (OpenQASM 2.0, arXiv:1707.03429).
use Rattle.std.specs.Prelude.{ℕ, nat_lt, if◌then◌else◌, List, [], ◌∷◌, ◌++◌, map, codes, decimal, slice_get, Option, None, Some}
use Rattle.std.specs.Option.{option_map_or}
use Rattle.qc_base.specs.declared.ids.Qubit.{Qubit}
use Rattle.circuit_core.specs.declared.angle.Angle.{Angle}
use Rattle.circuit_core.specs.declared.circuit.Reg.{Reg}
use Rattle.circuit_core.specs.declared.op.Cond.{Cond}
use Rattle.circuit_core.specs.declared.op.Op.{Op}
use Rattle.circuit_core.specs.declared.op.Op.TheVariants.{U, Cx, Opaque, Measure, Reset, Barrier}
use Rattle.circuit_core.specs.Angle.{text_of}
use Rattle.circuit_core.specs.Circuit.{CircuitValue}
use Rattle.circuit_core.specs.Label.{label, bit_label}
use Rattle.circuit_core.specs.Op.{qubits_of, cond_of}

-- texts with commas between them
abbrev pub with_commas : List (List ℕ) → List ℕ
with_commas [] = []
with_commas (text ∷ []) = text
with_commas (text ∷ next ∷ texts) = text ++ codes "," ++ with_commas (next ∷ texts)

-- the labels of qubits
abbrev pub qubits_text : CircuitValue → List Qubit → List ℕ
qubits_text circuit qubits = with_commas (map (label circuit) qubits)

-- angles in parentheses, or nothing where there are none
abbrev pub params_text : List Angle → List ℕ
params_text [] = []
params_text (angle ∷ angles) = codes "(" ++ with_commas (map text_of (angle ∷ angles)) ++ codes ")"

-- the name of a classical register, nothing where the circuit has fewer
abbrev pub reg_name : CircuitValue → ℕ → List ℕ
reg_name circuit creg = option_map_or (λ (reg : Reg). reg.name) (slice_get circuit.cregs creg) []

-- what is written before an operation with a condition
abbrev pub cond_text : CircuitValue → Option Cond → List ℕ
cond_text circuit None = []
cond_text circuit (Some cond) =
    codes "if(" ++ reg_name circuit cond.creg.0 ++ codes "==" ++ decimal cond.value ++ codes ") "

-- what is done: a gate with its angles, a measurement, a reset or a barrier
abbrev pub verb_text : Op → List ℕ
verb_text (U theta phi lambda qubit cond) = codes "U" ++ params_text (theta ∷ phi ∷ lambda ∷ [])
verb_text (Cx control target cond) = codes "CX"
verb_text (Opaque name params first second cond) = name ++ params_text params
verb_text (Measure qubit bit cond) = codes "measure"
verb_text (Reset qubit cond) = codes "reset"
verb_text (Barrier qubits) = codes "barrier"

-- where a measurement's result goes
abbrev pub target_text : CircuitValue → Op → List ℕ
target_text circuit (Measure qubit bit cond) = codes " -> " ++ bit_label circuit bit
target_text circuit op = []

-- an operation: its condition, what is done, its qubits
abbrev pub op_text : CircuitValue → Op → List ℕ
op_text circuit op =
    cond_text circuit (cond_of op) ++ verb_text op ++ codes " " ++ qubits_text circuit (qubits_of op)
    ++ target_text circuit op ++ codes ";"

-- ---- working notions of private functions

-- what is written before each text of a list: nothing before the first
abbrev pub comma_before : ℕ → List ℕ
comma_before index = if nat_lt 0 index then codes "," else []
