-- How a qubit and a bit are written: by the register and the index there.
use Rattle.std.specs.Prelude.{ℕ, ◌-◌, ◌==◌, nat_lt, Bool, ◌||◌, if◌then◌else◌, List, [], ◌∷◌, ◌++◌, codes, decimal, find, Option}
use Rattle.std.specs.List.{range_with_len}
use Rattle.std.specs.Str.{bytes_eq}
use Rattle.qc_base.specs.declared.ids.Bit.{Bit}
use Rattle.qc_base.specs.declared.ids.Qubit.{Qubit}
use Rattle.circuit_core.specs.declared.circuit.Reg.{Reg}
use Rattle.circuit_core.specs.Circuit.{CircuitValue, qubit_count}
use Rattle.circuit_core.specs.Identifier.{is_word_byte}

-- an index in brackets
abbrev pub index_text : ℕ → List ℕ
index_text index = codes "[" ++ decimal index ++ codes "]"

-- the label of a number, counted through these registers; nothing where they have fewer
abbrev pub label_in : List Reg → ℕ → List ℕ
label_in [] index = []
label_in (reg ∷ regs) index =
    if nat_lt index reg.size then reg.name ++ index_text index else label_in regs (index - reg.size)

abbrev pub label : CircuitValue → Qubit → List ℕ
label circuit qubit = label_in circuit.qregs qubit.0

abbrev pub bit_label : CircuitValue → Bit → List ℕ
bit_label circuit bit = label_in circuit.cregs bit.0

-- the qubit that is written so
abbrev pub labelled : CircuitValue → List ℕ → Option ℕ
labelled circuit text =
    find (λ number. bytes_eq (label_in circuit.qregs number) text) (range_with_len 0 (qubit_count circuit))

-- a letter, a digit, an underscore or a bracket
abbrev pub is_label_byte : ℕ → Bool
is_label_byte byte = is_word_byte byte || byte == 91 || byte == 93
