-- Operations of the file: their tests, and what they make.
use Rattle.std.specs.Prelude.{ℕ, ◌+◌, ◌==◌, zero, suc, List, [], ◌∷◌, map, length, slice_get, Bool, false, ◌&&◌, nat_le, if◌then◌else◌, Option, Some, Result, Ok, Err}
use Rattle.circuit_core.specs.declared.op.Cond.{Cond}
use Rattle.circuit_core.specs.declared.op.Op.TheVariants as op
use Rattle.qasm_read.specs.declared.arg.Arg.{Arg}
use Rattle.qasm_read.specs.declared.exp.Exp.{Exp}
use Rattle.qasm_read.specs.declared.qop.Qop.{Qop}
use Rattle.qasm_read.specs.declared.qop.Qop.TheVariants as qop
use Rattle.gate_names.specs.declared.gate.Gate.{Gate}
use Rattle.gate_names.specs.declared.gate.Gate.TheVariants.{Universal}
use Rattle.gate_expand.specs.declared.resolved.Resolved.{Resolved}
use Rattle.gate_expand.specs.declared.resolved.Resolved.TheVariants as resolved
use Rattle.gate_expand.specs.declared.wires.Wires.{Wires}
use Rattle.gate_expand.specs.declared.wires.Wires.TheVariants.{One, Each}
use Rattle.gate_names.specs.declared.cause.Cause.{Cause}
use Rattle.gate_names.specs.declared.cause.Cause.TheVariants.{Sizes, Repeated}
use Rattle.gate_names.specs.Entries.{Table}
use Rattle.gate_names.specs.Causes.{◌>>=◌, ◌>>◌, refuse_if}
use Rattle.gate_names.specs.declared.term.Term.{Term}
use Rattle.gate_names.specs.Terms.{terms_of}
use Rattle.gate_names.specs.Names.{gate_named}
use Rattle.gate_expand.specs.Arguments.{all_qubits_of, qubits_of, bits_of, times_of, repeats_from, qubit_at, wire_at}
use Rattle.gate_names.specs.Declarations.{counts_fit}
use Rattle.gate_expand.specs.Making.{Maker, with_op}
use Rattle.gate_expand.specs.Expansion.{application_made}

-- ---- the tests before expansion

-- an application of the gate of a number, whose counts fit, to these qubits; no parameter may be named
abbrev pub call_resolved : ℕ → List Exp → List Wires → Result Resolved Cause
call_resolved gate exps wires =
    times_of wires >>= λ times.
    refuse_if (repeats_from 0 times wires) Repeated >> terms_of [] exps >>= λ params.
    Ok (resolved.Application gate params wires times)

-- an application of the gate of a name
abbrev pub application_resolved : Table → List ℕ → List Exp → List Arg → Result Resolved Cause
application_resolved table name exps args =
    gate_named table name >>= λ gate.
    counts_fit (slice_get table.gates gate) (length exps) (length args)
    >> all_qubits_of table args >>= call_resolved gate exps

-- how often a qubit is measured: both are single, or both are registers of one size
abbrev pub measured_times : Wires → Wires → Result ℕ Cause
measured_times (One qubit) (One bit) = Ok 1
measured_times (One qubit) (Each first size) = Err Sizes
measured_times (Each first size) (One bit) = Err Sizes
measured_times (Each first size) (Each first_bit other) = if other == size then Ok size else Err Sizes

abbrev pub measure_resolved : Table → Arg → Arg → Result Resolved Cause
measure_resolved table source target =
    qubits_of table source >>= λ qubits. bits_of table target >>= λ bits.
    measured_times qubits bits.1 >>= λ times. Ok (resolved.Measure qubits bits.1 bits.0 times)

abbrev pub reset_resolved : Wires → Resolved
reset_resolved (One qubit) = resolved.Reset (One qubit) 1
reset_resolved (Each first size) = resolved.Reset (Each first size) size

abbrev pub qop_resolved : Table → Qop → Result Resolved Cause
qop_resolved table (qop.U exps arg) =
    counts_fit (Some Universal) (length exps) 1 >> all_qubits_of table (arg ∷ []) >>= call_resolved 0 exps
qop_resolved table (qop.Cx control target) = all_qubits_of table (control ∷ target ∷ []) >>= call_resolved 1 []
qop_resolved table (qop.Call name exps args) = application_resolved table name exps args
qop_resolved table (qop.Measure source target) = measure_resolved table source target
qop_resolved table (qop.Reset arg) = qubits_of table arg >>= λ wires. Ok (reset_resolved wires)

-- whether it measures a whole register of two or more into that register
abbrev pub measures_into : ℕ → Resolved → Bool
measures_into creg (resolved.Measure qubits (Each first size) target times) = nat_le 2 size && target == creg
measures_into creg other = false

-- ---- what they make

-- one at each of so many indices from that on
abbrev pub spread : (ℕ → Maker) → ℕ → ℕ → Maker
spread make index zero made = Ok made
spread make index (suc count) made = make index made >>= spread make (index + 1) count

abbrev pub measure_made : Option Cond → Wires → Wires → ℕ → Maker
measure_made cond qubits bits index =
    with_op (op.Measure (qubit_at index qubits) (record { 0 = wire_at index bits }) cond)

abbrev pub reset_made : Option Cond → Wires → ℕ → Maker
reset_made cond qubits index = with_op (op.Reset (qubit_at index qubits) cond)

abbrev pub call_made : List Gate → Option Cond → ℕ → List Term → List Wires → ℕ → Maker
call_made gates cond gate params wires index = application_made gates cond gate params (map (qubit_at index) wires)

-- an operation makes these, spread over its registers, each under the condition
abbrev pub resolved_made : List Gate → Option Cond → Resolved → Maker
resolved_made gates cond (resolved.Application gate params wires times) =
    spread (call_made gates cond gate params wires) 0 times
resolved_made gates cond (resolved.Measure qubits bits creg times) = spread (measure_made cond qubits bits) 0 times
resolved_made gates cond (resolved.Reset qubits times) = spread (reset_made cond qubits) 0 times
