-- The circuit of a program, or its first refusal: statements in order, with the table of names so far.
use Rattle.std.specs.Prelude.{◌≡◌, ℕ, List, [], ◌∷◌, ◌++◌, length, true, false, not, if◌then◌else◌, Some, None, Result, Ok, Err, codes}
use Rattle.std.specs.Str.{bytes_eq}
use Rattle.circuit_core.specs.declared.op.Op.TheVariants as op
use Rattle.circuit_core.specs.Circuit.{CircuitValue, size_of}
use Rattle.qasm_read.specs.declared.arg.Arg.{Arg}
use Rattle.qasm_read.specs.declared.body_item.BodyItem.{BodyItem}
use Rattle.qasm_read.specs.declared.qop.Qop.{Qop}
use Rattle.qasm_read.specs.declared.statement.Placed.{Placed}
use Rattle.qasm_read.specs.declared.statement.Statement.{Statement}
use Rattle.qasm_read.specs.declared.statement.Statement.TheVariants as statement
use Rattle.gate_expand.specs.declared.expansion.Expansion.{Expansion}
use Rattle.gate_names.specs.declared.names.Meaning.TheVariants.{Quantum, Classical}
use Rattle.gate_names.specs.declared.cause.Cause.{Cause}
use Rattle.gate_names.specs.declared.cause.Cause.TheVariants.{Include, SelfMeasure}
use Rattle.gate_names.specs.declared.cause.Counted.TheVariants.{Qubits, Bits}
use Rattle.gate_expand.specs.declared.fault.ExpandFault.{ExpandFault}
use Rattle.gate_expand.specs.declared.fault.ExpandFault.TheVariants as faults
use Rattle.gate_names.specs.Entries.{Table}
use Rattle.gate_names.specs.Causes.{◌>>=◌, ◌>>◌, refuse_if}
use Rattle.gate_expand.specs.Faults.{fault_at}
use Rattle.gate_expand.specs.Registers.{size_fits}
use Rattle.gate_names.specs.Library.{built_in}
use Rattle.gate_names.specs.Names.{fresh, creg_named, named}
use Rattle.gate_expand.specs.Arguments.{all_qubits_of, distinct_qubits}
use Rattle.gate_names.specs.Declarations.{opaque_declared, gate_declared}
use Rattle.gate_expand.specs.Making.{MadeValue, with_op}
use Rattle.gate_expand.specs.Operations.{qop_resolved, measures_into, resolved_made}

-- ---- what was declared and made so far

-- no name is declared; U, CX and the library's gates have their numbers
abbrev pub start : Expansion
start = record {
  table = record { names = []; included = false; gates = built_in };
  qregs = [];
  cregs = [];
  made = record { ops = []; applications = 0 };
}

-- how statements change what was declared and made
abbrev pub Statements : Type 0
Statements = Expansion → Result Expansion Cause

-- ---- statements

unfoldable pub included : List ℕ → Statements
included text now =
    refuse_if (not (bytes_eq text (codes "qelib1.inc"))) Include
    >> Ok (record now { table = record now.table { included = true } })

unfoldable pub qreg_declared : List ℕ → ℕ → Statements
qreg_declared name size now =
    fresh now.table name >> size_fits size (size_of now.qregs) 128 Qubits
    >> Ok (record now {
      table = named now.table name (Quantum (size_of now.qregs) size);
      qregs = now.qregs ++ record { name = name; size = size } ∷ [];
    })

unfoldable pub creg_declared : List ℕ → ℕ → Statements
creg_declared name size now =
    fresh now.table name >> size_fits size (size_of now.cregs) 4096 Bits
    >> Ok (record now {
      table = named now.table name (Classical (length now.cregs) (size_of now.cregs) size);
      cregs = now.cregs ++ record { name = name; size = size } ∷ [];
    })

abbrev pub with_table : Expansion → Table → Result Expansion Cause
with_table now table = Ok (record now { table = table })

unfoldable pub opaque_statement : List ℕ → List (List ℕ) → List (List ℕ) → Statements
opaque_statement name params qubits now = opaque_declared now.table name params qubits >>= with_table now

unfoldable pub gate_statement : List ℕ → List (List ℕ) → List (List ℕ) → List BodyItem → Statements
gate_statement name params qubits body now = gate_declared now.table name params qubits body >>= with_table now

abbrev pub with_made : Expansion → MadeValue → Result Expansion Cause
with_made now made = Ok (record now { made = made })

unfoldable pub qop_done : Qop → Statements
qop_done qop now =
    qop_resolved now.table qop >>= λ resolved.
    resolved_made now.table.gates None resolved now.made >>= with_made now

-- an operation under a condition on that classical register; it may not measure into the whole register
unfoldable pub conditional_done : ℕ → ℕ → Qop → Statements
conditional_done creg value qop now =
    qop_resolved now.table qop >>= λ resolved.
    refuse_if (measures_into creg resolved) SelfMeasure
    >> resolved_made now.table.gates (Some (record { creg = record { 0 = creg }; value = value })) resolved now.made
    >>= with_made now

-- the register is looked up first
unfoldable pub conditional_statement : List ℕ → ℕ → Qop → Statements
conditional_statement creg value qop now = creg_named now.table creg >>= λ number. conditional_done number value qop now

-- one barrier over all its qubits
unfoldable pub barrier_done : List Arg → Statements
barrier_done args now =
    all_qubits_of now.table args >>= λ wires.
    with_op (op.Barrier (distinct_qubits wires)) now.made >>= with_made now

unfoldable pub statement_done : Statement → Statements
statement_done (statement.Include text) now = included text now
statement_done (statement.Register quantum name size) now =
    if quantum then qreg_declared name size now else creg_declared name size now
statement_done (statement.Gate name params qubits body) now = gate_statement name params qubits body now
statement_done (statement.Opaque name params qubits) now = opaque_statement name params qubits now
statement_done (statement.Apply qop) now = qop_done qop now
statement_done (statement.Barrier args) now = barrier_done args now
statement_done (statement.If creg value qop) now = conditional_statement creg value qop now

-- ---- programs

-- the cause of a refusal with the place of its statement
abbrev pub placed : {A : Type 0} → ℕ → Result A Cause → Result A ExpandFault
placed at (Ok x) = Ok x
placed at (Err cause) = Err (fault_at at cause)

abbrev pub statements_done : List Placed → Expansion → Result Expansion ExpandFault
statements_done [] now = Ok now
statements_done (p ∷ program) now = placed p.at (statement_done p.statement now) >>= statements_done program

abbrev pub circuit_of : Expansion → CircuitValue
circuit_of done = record { qregs = done.qregs; cregs = done.cregs; ops = done.made.ops }

-- the circuit of a program, or its first refusal
abbrev pub expanded : List Placed → Result CircuitValue ExpandFault
expanded program = statements_done program start >>= λ done. Ok (circuit_of done)

-- what was answered is what is said, unless memory ran out
abbrev pub IsExpansion : Result CircuitValue ExpandFault → Result CircuitValue ExpandFault → Type 0
IsExpansion said (Err faults.NoMemory) = Unit {0}
IsExpansion said result = result ≡ said
