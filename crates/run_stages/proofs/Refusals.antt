-- The answers to faults of what was read.
use Rattle.std.proofs.Common.{◌≡◌, List, ℕ, Option, Result, Ok, Err, refl, sym, subst, inl, inr, ap, ◌∙◌}
use Rattle.circuit_core.specs.Circuit.{CircuitValue}
use Rattle.qasm_read.specs.declared.fault.QasmFault.{QasmFault}
use Rattle.qasm_read.specs.declared.fault.QasmFault.TheVariants as faults
use Rattle.qasm_read.specs.declared.statement.Placed.{Placed}
use Rattle.qasm_read.specs.Program.{UnlessMemory}
use Rattle.qasm_read.specs.Read.{IsReading}
use Rattle.trap_read.specs.TrapFile.{FileValue, trap_of}
use Rattle.trap_read.proofs.Answered.{labels_for_each}
use Rattle.placement.specs.Placing.{Table, FitsZones}
use Rattle.run_answers.specs.declared.answer.Answer.{Answer}
use Rattle.run_answers.specs.declared.answer.Answer.TheVariants as answers
use Rattle.run_stages.specs.Stages.{Is, As}
use Rattle.run_stages.specs.Prepare.{or_refuse, circuit_of, CircuitIn}
use Rattle.run_stages.specs.Loading.{Reached, qasm_refusal}
use Rattle.run_stages.proofs.Stages.{reached_ok, then_err}

abbrev Read : List ℕ → Result (List Placed) Answer → Type 0
Read bytes = As (IsReading bytes) (or_refuse answers.Qasm)

pub qasm_reached : (bytes : List ℕ) (program : List Placed) (r : Result CircuitValue Answer) → IsReading bytes (Ok program) → Reached (Is (circuit_of program)) r → Reached (CircuitIn bytes) r
qasm_reached bytes program r reading reached =
    reached_ok (Read bytes) (λ program. Is (circuit_of program)) program r (inr (record { judgement = Ok program; is = reading; outcome_is = refl })) reached

-- the labels of a file are a list for each zone
pub labels_fit : (bytes : List ℕ) (file : FileValue) → trap_of bytes ≡ Ok file → FitsZones file.0 file.1
labels_fit bytes file e lists given = labels_for_each bytes file.0 lists (e ∙ ap (λ (l : Option Table). Ok (file.0, l)) given)

-- a fault of the text, which is not that memory ran out
no_program : (bytes : List ℕ) (fault : QasmFault) → IsReading bytes (Err fault) → Reached (CircuitIn bytes) (Err (answers.Qasm fault))
no_program bytes fault reading =
    inr (then_err (Read bytes) (λ program. Is (circuit_of program)) (answers.Qasm fault) (record { judgement = Err fault; is = reading; outcome_is = refl }))

refused : (bytes : List ℕ) (fault : QasmFault) → UnlessMemory (IsReading bytes) (Err fault) → Reached (CircuitIn bytes) (Err (qasm_refusal fault))
refused bytes faults.NoMemory reading = inl refl
refused bytes faults.Header reading = no_program bytes faults.Header reading
refused bytes (faults.Lex at) reading = no_program bytes (faults.Lex at) reading
refused bytes (faults.LongWord at) reading = no_program bytes (faults.LongWord at) reading
refused bytes (faults.BigNumber at) reading = no_program bytes (faults.BigNumber at) reading
refused bytes (faults.Deep at) reading = no_program bytes (faults.Deep at) reading
refused bytes (faults.Statement at) reading = no_program bytes (faults.Statement at) reading
refused bytes (faults.Large at) reading = no_program bytes (faults.Large at) reading

pub qasm_refused : (bytes : List ℕ) (fault : QasmFault) (answer : Answer) → UnlessMemory (IsReading bytes) (Err fault) → answer ≡ qasm_refusal fault → Reached (CircuitIn bytes) (Err answer)
qasm_refused bytes fault answer reading is = subst (λ (a : Answer). Reached (CircuitIn bytes) (Err a)) (sym is) (refused bytes fault reading)
