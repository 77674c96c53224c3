-- Which operations share a wire, and which have to come before which, as truth values.
use Rattle.std.specs.Prelude.{ℕ, ◌+◌, ◌-◌, ◌==◌, nat_lt, max, min, Bool, false, ◌&&◌, ◌||◌, if◌then◌else◌, List, [], ◌∷◌, ◌++◌, take, drop, slice_get, Option, Some, None}
use Rattle.std.specs.List.{list_any}
use Rattle.std.specs.Option.{option_map, option_and_then, option_map_or}
use Rattle.qc_base.specs.declared.ids.Bit.{Bit}
use Rattle.qc_base.specs.declared.ids.Qubit.{Qubit}
use Rattle.circuit_core.specs.declared.bits.BitRange.{BitRange}
use Rattle.circuit_core.specs.declared.circuit.Reg.{Reg}
use Rattle.circuit_core.specs.declared.op.Cond.{Cond}
use Rattle.circuit_core.specs.declared.op.Op.{Op}
use Rattle.circuit_core.specs.Circuit.{CircuitValue, first_bit}
use Rattle.circuit_core.specs.Op.{qubits_of, bit_of, cond_of, is_barrier}

-- so many bits from there on
abbrev pub bits_at : ℕ → ℕ → BitRange
bits_at from count = record { from = from; end = from + count }

-- the bit that an operation writes
abbrev pub written : Op → Option BitRange
written op = option_map (λ (bit : Bit). bits_at bit.0 1) (bit_of op)

-- all bits of a condition's register
abbrev pub tested_by : CircuitValue → Cond → Option BitRange
tested_by circuit cond =
    option_map (λ (reg : Reg). bits_at (first_bit circuit cond.creg.0) reg.size)
    (slice_get circuit.cregs cond.creg.0)

abbrev pub tested : CircuitValue → Op → Option BitRange
tested circuit op = option_and_then (tested_by circuit) (cond_of op)

-- both have a bit
abbrev pub do_overlap : Option BitRange → Option BitRange → Bool
do_overlap None b = false
do_overlap (Some a) None = false
do_overlap (Some a) (Some b) = nat_lt (max a.from b.from) (min a.end b.end)

-- the qubit of that number is among these
abbrev pub is_listed : ℕ → List Qubit → Bool
is_listed number qubits = list_any (λ (qubit : Qubit). qubit.0 == number) qubits

-- a qubit of the one list is in the other
abbrev pub have_common : List Qubit → List Qubit → Bool
have_common qubits others = list_any (λ (qubit : Qubit). is_listed qubit.0 qubits) others

-- both act on one bit
abbrev pub share_bit : CircuitValue → Op → Op → Bool
share_bit circuit first second =
    do_overlap (written first) (written second)
    || (do_overlap (written first) (tested circuit second)
    || (do_overlap (tested circuit first) (written second)
    || do_overlap (tested circuit first) (tested circuit second)))

-- both act on one qubit or one bit
abbrev pub share_wire : CircuitValue → Op → Op → Bool
share_wire circuit first second =
    have_common (qubits_of first) (qubits_of second) || share_bit circuit first second

-- the operations of these numbers share a wire
abbrev pub is_shared : CircuitValue → ℕ → ℕ → Bool
is_shared circuit i j =
    option_map_or (λ first. option_map_or (share_wire circuit first) (slice_get circuit.ops j) false)
    (slice_get circuit.ops i) false

-- the qubits together with those of each barrier among the operations, in order, that has one of them
abbrev pub reached : List Qubit → List Op → List Qubit
reached qubits [] = qubits
reached qubits (op ∷ ops) =
    if is_barrier op && have_common qubits (qubits_of op) then reached (qubits ++ qubits_of op) ops
    else reached qubits ops

-- the operations after the one number and before the other
abbrev pub between : List Op → ℕ → ℕ → List Op
between ops i j = take (j - (i + 1)) (drop (i + 1) ops)

-- the two share a bit, or the second has a qubit of the first or of a barrier that the first reaches
abbrev pub comes_first : CircuitValue → List Op → Op → Op → Bool
comes_first circuit middle first second =
    share_bit circuit first second || have_common (reached (qubits_of first) middle) (qubits_of second)

-- operation i has to come before operation j
abbrev pub is_forced : CircuitValue → ℕ → ℕ → Bool
is_forced circuit i j = nat_lt i j
    && option_map_or
    (λ first. option_map_or (comes_first circuit (between circuit.ops i j) first) (slice_get circuit.ops j)
    false) (slice_get circuit.ops i) false
