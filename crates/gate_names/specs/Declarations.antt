-- Declarations of gates.
use Rattle.std.specs.Prelude.{ℕ, ◌+◌, List, [], ◌∷◌, ◌++◌, fold, length, Bool, false, not, ◌||◌, ◌==◌, nat_lt, slice_get, Option, Some, None, Result, Ok, if◌then◌else◌}
use Rattle.std.specs.List.{list_any}
use Rattle.std.specs.Str.{bytes_eq}
use Rattle.qasm_read.specs.declared.body_item.BodyItem.{BodyItem}
use Rattle.qasm_read.specs.declared.body_item.BodyItem.TheVariants as item
use Rattle.qasm_read.specs.declared.exp.Exp.{Exp}
use Rattle.gate_names.specs.declared.gate.Gate.{Gate}
use Rattle.gate_names.specs.declared.gate.Gate.TheVariants as gate
use Rattle.gate_names.specs.declared.gate.Item.{Item}
use Rattle.gate_names.specs.declared.gate.Item.TheVariants.{Call, Barrier}
use Rattle.gate_names.specs.declared.cause.Cause.{Cause}
use Rattle.gate_names.specs.declared.cause.Cause.TheVariants.{Undeclared, Redeclared, Params, Args, Repeated, TooMany}
use Rattle.gate_names.specs.declared.cause.Counted.TheVariants.{Formals}
use Rattle.gate_names.specs.Entries.{Table}
use Rattle.gate_names.specs.Causes.{◌>>=◌, ◌>>◌, each, refuse_if, found_or}
use Rattle.gate_names.specs.Gates.{param_count, qubit_count}
use Rattle.gate_names.specs.Names.{fresh, gate_named, with_gate}
use Rattle.gate_names.specs.Terms.{position_of, terms_of}

-- ---- formal parameters and qubits

-- whether a name occurs twice
abbrev pub repeats_name : List (List ℕ) → Bool
repeats_name [] = false
repeats_name (name ∷ names) = list_any (λ other. bytes_eq other name) names || repeats_name names

-- no formal occurs twice, and there are at most 16
abbrev pub formals_fit : List (List ℕ) → List (List ℕ) → Result (Unit {0}) Cause
formals_fit params qubits =
    refuse_if (repeats_name (params ++ qubits)) Redeclared
    >> refuse_if (nat_lt 16 (length params + length qubits)) (TooMany Formals)

-- ---- items of a body

-- as many parameters and qubits as the gate takes
abbrev pub counts_fit : Option Gate → ℕ → ℕ → Result (Unit {0}) Cause
counts_fit None params qubits = Ok tt
counts_fit (Some gate) params qubits =
    refuse_if (not (params == param_count gate)) Params >> refuse_if (not (qubits == qubit_count gate)) Args

-- the positions of names among the formal qubits
abbrev pub positions_of : List (List ℕ) → List (List ℕ) → Result (List ℕ) Cause
positions_of formals = each (λ name. found_or (position_of formals name) Undeclared)

abbrev pub repeats_position : List ℕ → Bool
repeats_position [] = false
repeats_position (k ∷ positions) = list_any (λ other. k == other) positions || repeats_position positions

-- a position more, unless it is there
abbrev pub with_position : List ℕ → ℕ → List ℕ
with_position positions k = if list_any (λ other. k == other) positions then positions else positions ++ k ∷ []

-- a call of a gate whose counts fit: no qubit occurs twice, and only parameters are named
abbrev pub call_of : List (List ℕ) → ℕ → List Exp → List ℕ → Result Item Cause
call_of params gate exps positions =
    refuse_if (repeats_position positions) Repeated >> terms_of params exps >>= λ terms. Ok (Call gate terms positions)

-- a body's item, with gates as their numbers, and parameters and qubits as their positions
abbrev pub item_of : Table → List (List ℕ) → List (List ℕ) → BodyItem → Result Item Cause
item_of table params qubits (item.U exps arg) =
    counts_fit (Some gate.Universal) (length exps) 1 >> positions_of qubits (arg ∷ []) >>= call_of params 0 exps
item_of table params qubits (item.Cx control target) =
    positions_of qubits (control ∷ target ∷ []) >>= call_of params 1 []
item_of table params qubits (item.Call name exps args) =
    gate_named table name >>= λ gate.
    counts_fit (slice_get table.gates gate) (length exps) (length args)
    >> positions_of qubits args >>= call_of params gate exps
item_of table params qubits (item.Barrier args) =
    positions_of qubits args >>= λ positions. Ok (Barrier (fold with_position [] positions))

-- the items of a body, in order
abbrev pub items_of : Table → List (List ℕ) → List (List ℕ) → List BodyItem → Result (List Item) Cause
items_of table params qubits = each (item_of table params qubits)

-- ---- declarations

abbrev pub opaque_declared : Table → List ℕ → List (List ℕ) → List (List ℕ) → Result Table Cause
opaque_declared table name params qubits =
    fresh table name >> formals_fit params qubits
    >> Ok (with_gate table name (gate.Opaque name (length params) (length qubits)))

-- A gate is declared after its body.
abbrev pub gate_declared : Table → List ℕ → List (List ℕ) → List (List ℕ) → List BodyItem → Result Table Cause
gate_declared table name params qubits body =
    fresh table name >> formals_fit params qubits >> items_of table params qubits body >>= λ items.
    Ok (with_gate table name (gate.Body (length params) (length qubits) items))
