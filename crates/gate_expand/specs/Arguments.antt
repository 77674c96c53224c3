-- Arguments of operations: single qubits or bits, or whole registers, over which an operation is spread.
use Rattle.std.specs.Prelude.{ℕ, zero, suc, ◌+◌, List, [], ◌∷◌, ◌++◌, fold, Bool, false, ◌||◌, ◌==◌, nat_lt, if◌then◌else◌, Option, Some, None, Result, Ok, Err, unwrap_or}
use Rattle.std.specs.List.{list_any}
use Rattle.qc_base.specs.declared.ids.Qubit.{Qubit}
use Rattle.qasm_read.specs.declared.arg.Arg.{Arg}
use Rattle.gate_names.specs.declared.names.Meaning.{Meaning}
use Rattle.gate_names.specs.declared.names.Meaning.TheVariants.{Quantum, Classical, Gate}
use Rattle.gate_expand.specs.declared.wires.Wires.{Wires}
use Rattle.gate_expand.specs.declared.wires.Wires.TheVariants.{One, Each}
use Rattle.gate_names.specs.declared.cause.Cause.{Cause}
use Rattle.gate_names.specs.declared.cause.Cause.TheVariants.{Undeclared, Kind, Index, Sizes}
use Rattle.gate_names.specs.Entries.{Table}
use Rattle.gate_names.specs.Causes.{◌>>=◌, each, found_or}
use Rattle.gate_names.specs.Names.{meaning_of}

-- a register, or one of it by its index
abbrev pub wires_in : ℕ → ℕ → Option ℕ → Result Wires Cause
wires_in first size None = Ok (Each first size)
wires_in first size (Some index) = if nat_lt index size then Ok (One (first + index)) else Err Index

abbrev pub qubits_in : Option ℕ → Meaning → Result Wires Cause
qubits_in index (Quantum first size) = wires_in first size index
qubits_in index (Classical creg first size) = Err Kind
qubits_in index (Gate number) = Err Kind

-- the qubits of an argument
unfoldable pub qubits_of : Table → Arg → Result Wires Cause
qubits_of table arg = found_or (meaning_of table arg.name) Undeclared >>= qubits_in arg.index

-- the qubits of each, from left to right
abbrev pub all_qubits_of : Table → List Arg → Result (List Wires) Cause
all_qubits_of table = each (qubits_of table)

abbrev pub bits_in : Option ℕ → Meaning → Result (ℕ × Wires) Cause
bits_in index (Classical creg first size) = wires_in first size index >>= λ wires. Ok (creg, wires)
bits_in index (Quantum first size) = Err Kind
bits_in index (Gate number) = Err Kind

-- the bits of an argument, with the number of their register
unfoldable pub bits_of : Table → Arg → Result (ℕ × Wires) Cause
bits_of table arg = found_or (meaning_of table arg.name) Undeclared >>= bits_in arg.index

-- ---- spreading

-- the one size of the whole registers, none where there is no whole register
abbrev pub size_after : Option ℕ → List Wires → Result (Option ℕ) Cause
size_after size [] = Ok size
size_after size (One number ∷ wires) = size_after size wires
size_after None (Each first size ∷ wires) = size_after (Some size) wires
size_after (Some size) (Each first other ∷ wires) = if other == size then size_after (Some size) wires else Err Sizes

-- how often an operation on these is made: once for each index, or once where there is no whole register
abbrev pub times_of : List Wires → Result ℕ Cause
times_of wires = size_after None wires >>= λ size. Ok (unwrap_or size 1)

-- the number at that index; single ones are repeated
abbrev pub wire_at : ℕ → Wires → ℕ
wire_at index (One number) = number
wire_at index (Each first size) = first + index

abbrev pub qubit_at : ℕ → Wires → Qubit
qubit_at index wires = record { 0 = wire_at index wires }

abbrev pub has_number : ℕ → List Wires → ℕ → Bool
has_number index [] number = false
has_number index (wires ∷ more) number = wire_at index wires == number || has_number index more number

-- whether two of them are one number at that index
abbrev pub repeats_at : ℕ → List Wires → Bool
repeats_at index [] = false
repeats_at index (wires ∷ more) = has_number index more (wire_at index wires) || repeats_at index more

-- whether they are at one of so many indices from that on
abbrev pub repeats_from : ℕ → ℕ → List Wires → Bool
repeats_from index zero wires = false
repeats_from index (suc count) wires = repeats_at index wires || repeats_from (index + 1) count wires

-- ---- all of them together

abbrev pub each_from : ℕ → ℕ → List Qubit
each_from first zero = []
each_from first (suc size) = record { 0 = first } ∷ each_from (first + 1) size

abbrev pub all_in : Wires → List Qubit
all_in (One number) = record { 0 = number } ∷ []
all_in (Each first size) = each_from first size

abbrev pub is_qubit : Qubit → Qubit → Bool
is_qubit a b = a.0 == b.0

-- a qubit more, unless it is there
abbrev pub with_qubit : List Qubit → Qubit → List Qubit
with_qubit qubits qubit = if list_any (is_qubit qubit) qubits then qubits else qubits ++ qubit ∷ []

-- the qubits of these after others, repeats dropped
abbrev pub with_all : List Qubit → List Wires → List Qubit
with_all qubits [] = qubits
with_all qubits (wires ∷ more) = with_all (fold with_qubit qubits (all_in wires)) more

-- all qubits in order, repeats dropped
abbrev pub distinct_qubits : List Wires → List Qubit
distinct_qubits wires = with_all [] wires
