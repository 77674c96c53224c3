-- Where the operations of a circuit come from: each from one operation of the file, at one index of its spreading.
use Rattle.std.specs.Prelude.{◌≡◌, ◌⊎◌, ℕ, ◌<◌, List, [], ◌∷◌, map, take, flat_map, slice_get, Bool, false, Option, Some, None, Result, Ok, Err, All, AllPairs, Contains}
use Rattle.qc_base.specs.declared.ids.Qubit.{Qubit}
use Rattle.circuit_core.specs.declared.angle.Angle.{Angle}
use Rattle.circuit_core.specs.declared.op.Cond.{Cond}
use Rattle.circuit_core.specs.declared.op.Op.{Op}
use Rattle.circuit_core.specs.declared.op.Op.TheVariants as op
use Rattle.qasm_read.specs.declared.statement.Placed.{Placed}
use Rattle.qasm_read.specs.declared.statement.Statement.{Statement}
use Rattle.qasm_read.specs.declared.statement.Statement.TheVariants as statement
use Rattle.gate_expand.specs.declared.expansion.Expansion.{Expansion}
use Rattle.gate_names.specs.declared.gate.Gate.{Gate}
use Rattle.gate_expand.specs.declared.resolved.Resolved.{Resolved}
use Rattle.gate_expand.specs.declared.resolved.Resolved.TheVariants as resolved
use Rattle.gate_names.specs.declared.cause.Cause.{Cause}
use Rattle.gate_names.specs.Causes.{◌>>=◌}
use Rattle.gate_expand.specs.Angles.{put}
use Rattle.gate_names.specs.Gates.{has_body}
use Rattle.gate_names.specs.Names.{creg_named}
use Rattle.gate_expand.specs.Arguments.{all_qubits_of, distinct_qubits, qubit_at, wire_at}
use Rattle.gate_expand.specs.Making.{MadeValue, Maker, with_op}
use Rattle.gate_expand.specs.Expansion.{op_of}
use Rattle.gate_expand.specs.Operations.{qop_resolved, call_made, measure_made, reset_made}
use Rattle.gate_expand.specs.Program.{start, statements_done}

-- ---- what a statement says

-- An operation of the file: whether it applies a gate with a body, how often it is made, what it makes at each index,
-- and the operation that it is itself at each index.
pub record Written : Type 0 where
  pub body : Bool
  pub times : ℕ
  pub make : ℕ → Maker
  pub own : ℕ → Option Op

abbrev pub applies_body : Option Gate → Bool
applies_body (Some gate) = has_body gate
applies_body None = false

abbrev pub said_op : Result (Option Op) Cause → Option Op
said_op (Ok said) = said
said_op (Err cause) = None

-- the gate with its angles on its qubits
abbrev pub gate_op : Option Cond → Option Gate → List Angle → List Qubit → Option Op
gate_op cond (Some gate) angles qubits = said_op (op_of cond gate angles qubits)
gate_op cond None angles qubits = None

abbrev pub operation_written : List Gate → Option Cond → Resolved → Written
operation_written gates cond (resolved.Application gate params wires times) = record {
  body = applies_body (slice_get gates gate);
  times = times;
  make = call_made gates cond gate params wires;
  own = λ index. gate_op cond (slice_get gates gate) (map (put []) params) (map (qubit_at index) wires);
}
operation_written gates cond (resolved.Measure qubits bits creg times) = record {
  body = false;
  times = times;
  make = measure_made cond qubits bits;
  own = λ index. Some (op.Measure (qubit_at index qubits) (record { 0 = wire_at index bits }) cond);
}
operation_written gates cond (resolved.Reset qubits times) = record {
  body = false;
  times = times;
  make = reset_made cond qubits;
  own = λ index. Some (op.Reset (qubit_at index qubits) cond);
}

-- one operation that is not spread
abbrev pub once : Op → Written
once op = record { body = false; times = 1; make = λ index. with_op op; own = λ index. Some op }

-- a declaration makes nothing
abbrev pub no_operation : Written
no_operation = record { body = false; times = 0; make = λ index made. Ok made; own = λ index. None }

-- what a statement says, after what was declared before it
unfoldable pub written : Expansion → Statement → Result Written Cause
written now (statement.Apply qop) =
    qop_resolved now.table qop >>= λ it. Ok (operation_written now.table.gates None it)
written now (statement.If creg value qop) =
    creg_named now.table creg >>= λ number. qop_resolved now.table qop >>= λ it.
    Ok (operation_written now.table.gates (Some (record { creg = record { 0 = number }; value = value })) it)
written now (statement.Barrier args) =
    all_qubits_of now.table args >>= λ wires. Ok (once (op.Barrier (distinct_qubits wires)))
written now declaration = Ok no_operation

-- ---- pieces of a circuit

-- operations that come from the statement of that number in the program, at that index of its spreading
pub record Piece : Type 0 where
  pub statement : ℕ
  pub index : ℕ
  pub ops : List Op

abbrev pub ops_in : Piece → List Op
ops_in piece = piece.ops

-- in the order of the file, and of the indices
abbrev pub IsBefore : Piece → Piece → Type 0
IsBefore first second =
    (first.statement < second.statement) ⊎ ((first.statement ≡ second.statement) × (first.index < second.index))

-- nothing is made yet
abbrev pub nothing : MadeValue
nothing = record { ops = []; applications = 0 }

-- What the statement of that number makes at that index by itself, after the statements before it.
pub record IsPiece (program : List Placed) (piece : Piece) : Type 0 where
  pub said : Placed
  pub found : slice_get program piece.statement ≡ Some said
  pub now : Expansion
  pub before : statements_done (take piece.statement program) start ≡ Ok now
  pub it : Written
  pub says : written now said.statement ≡ Ok it
  pub within : piece.index < it.times
  pub made : MadeValue
  pub makes : it.make piece.index nothing ≡ Ok made
  pub whole : piece.ops ≡ made.ops

-- the piece is one operation, that of its statement itself
pub record IsOwnPiece (program : List Placed) (piece : Piece) : Type 0 where
  pub is : IsPiece program piece
  pub op : Op
  pub own : is.it.own piece.index ≡ Some op
  pub alone : piece.ops ≡ op ∷ []

-- operations one after another come from all pieces of a kind, in the order of the file
pub record ComeFrom (IsOfKind : Piece → Type 0) (ops : List Op) : Type 0 where
  pub pieces : List Piece
  pub whole : ops ≡ flat_map ops_in pieces
  pub each : All IsOfKind pieces
  pub all : (piece : Piece) → IsOfKind piece → Contains pieces piece
  pub order : AllPairs IsBefore pieces

-- no operation of the program applies a gate with a body
abbrev pub AppliesNoBody : List Placed → Type 0
AppliesNoBody program = (piece : Piece) (is : IsPiece program piece) → is.it.body ≡ false
