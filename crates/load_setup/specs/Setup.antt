-- The trap and the circuits of a load.
use Rattle.std.specs.Prelude.{ℕ, suc, zero, ◌+◌, ◌*◌, ◌%◌, nat_le, true, if◌then◌else◌, List, [], ◌∷◌, ◌++◌, map, codes, Some, None}
use Rattle.std.specs.List.{flat_map, range_with_len}
use Rattle.qc_base.specs.declared.ids.End.{End}
use Rattle.qc_base.specs.declared.ids.End.TheVariants.{A, B}
use Rattle.qc_base.specs.declared.ids.Qubit.{Qubit}
use Rattle.circuit_core.specs.declared.circuit.Reg.{Reg}
use Rattle.circuit_core.specs.declared.op.Op.{Op}
use Rattle.circuit_core.specs.declared.op.Op.TheVariants.{Cx}
use Rattle.circuit_core.specs.Circuit.{CircuitValue}
use Rattle.trap_parts.specs.declared.parts.ZonePart.{ZonePart}
use Rattle.trap_parts.specs.declared.parts.SegmentPart.{SegmentPart}
use Rattle.trap_parts.specs.declared.parts.EndName.{EndName}
use Rattle.trap_parts.specs.declared.parts.JoinPart.{JoinPart}
use Rattle.trap_parts.specs.Parts.{TrapValue}
use Rattle.placement.specs.Filling.{qubit_of}
use Rattle.load_setup.specs.Words.{next_state, word_after}

-- ---- the trap

-- the digit of a number below ten
abbrev pub digit : ℕ → List ℕ
digit number = (48 + number) ∷ []

abbrev pub zone_name : ℕ → List ℕ
zone_name number = codes "Z" ++ digit number

abbrev pub segment_name : ℕ → List ℕ
segment_name number = codes "s" ++ digit number

-- a zone for twelve ions, with all abilities
abbrev pub zone_part : ℕ → ZonePart
zone_part number = record { name = zone_name number; capacity = 12; one = true; two = true; read = true }

-- a segment of one slot for one ion
abbrev pub segment_part : ℕ → SegmentPart
segment_part number = record { name = segment_name number; slots = 1; load = 1 }

abbrev pub end_of : List ℕ → End → EndName
end_of name end = record { name = name; end = Some end }

-- a segment's joins, with the zone of its number and with the next
abbrev pub joins_at : ℕ → List JoinPart
joins_at number =
    record { first = end_of (zone_name number) B; second = end_of (segment_name number) A }
    ∷ record { first = end_of (segment_name number) B; second = end_of (zone_name (number + 1)) A }
    ∷ []

-- so many segments, and one more zones, in a row
abbrev pub row_of : ℕ → TrapValue
row_of segments = record {
  zones = map zone_part (range_with_len 0 (segments + 1));
  segments = map segment_part (range_with_len 0 segments);
  junctions = [];
  joins = flat_map joins_at (range_with_len 0 segments);
}

-- the trap of each load: six zones in a row
abbrev pub generated_trap : TrapValue
generated_trap = row_of 5

-- ---- the circuits

-- a qubit by a word, out of all sixty
abbrev pub control_of : ℕ → ℕ
control_of word = word % 60

-- the number, past that one
abbrev pub past : ℕ → ℕ → ℕ
past other number = if nat_le other number then number + 1 else number

-- a qubit by a word, out of all but that one
abbrev pub target_of : ℕ → ℕ → ℕ
target_of control word = past control (word % 59)

abbrev pub cx : ℕ → ℕ → Op
cx control target = Cx (record { 0 = control }) (record { 0 = target }) None

-- CX by two words
unfoldable pub gate_of : ℕ → ℕ → Op
gate_of word next = cx (control_of word) (target_of (control_of word) next)

-- so many gates, each by the next two words after the state
unfoldable pub gates_from : ℕ → ℕ → List Op
gates_from zero state = []
gates_from (suc count) state =
    gate_of (word_after state) (word_after (next_state state))
    ∷ gates_from count (next_state (next_state state))

abbrev pub sixty_qubits : Reg
sixty_qubits = record { name = codes "q"; size = 60 }

-- the circuit of a seed: sixty qubits, and 2,000 gates
abbrev pub generated_circuit : ℕ → CircuitValue
generated_circuit seed = record { qregs = sixty_qubits ∷ []; cregs = []; ops = gates_from 2000 seed }

-- ---- where the qubits begin: in declared order, ten in each zone
abbrev pub declared_lists : List (List Qubit)
declared_lists = map (λ (zone : ℕ). map qubit_of (range_with_len (10 * zone) 10)) (range_with_len 0 6)
