-- How long the texts of angles, operations and places are at most.
use Rattle.std.proofs.Common.{◌≡◌, ℕ, zero, suc, ◌+◌, ◌-◌, ◌*◌, ◌≤◌, ◌%◌, ◌/◌, false, List, [], ◌∷◌, ◌++◌, length, map, Option, Some, None, sym, subst, arith, length-append}
use Rattle.std.specs.Prelude.{All, IsTrue, codes, decimal, nat_le, nat_lt, not, ◌==◌, ◌&&◌, slice_get}
use Rattle.std.specs.Fmt.{digits, digits_onto, digit_glyph}
use Rattle.std.specs.List.{list_all, list_any}
use Rattle.std.specs.Str.{bytes_eq}
use Rattle.std.specs.Option.{option_map_or}
use Rattle.std.proofs.lemmas.Bool.{cond_both, and_parts, leb-true}
use Rattle.std.proofs.lemmas.List.Elements.{All-head, All-tail}
use Rattle.qc_base.specs.declared.ids.Qubit.{Qubit}
use Rattle.circuit_core.specs.declared.angle.Angle.{Angle, ind-Angle, fold-roll-Angle, roll-Angle, map-Angle}
use Rattle.circuit_core.specs.declared.angle.Angle.TheOpen.{Angle-F}
use Rattle.circuit_core.specs.declared.circuit.Reg.{Reg}
use Rattle.circuit_core.specs.declared.op.Cond.{Cond}
use Rattle.circuit_core.specs.declared.op.Op.{Op}
use Rattle.circuit_core.specs.declared.op.Op.TheVariants.{U, Cx, Opaque, Measure, Reset, Barrier}
use Rattle.circuit_core.specs.declared.words.BinOp.{BinOp}
use Rattle.circuit_core.specs.declared.words.BinOp.TheVariants.{Add, Sub, Mul, Div, Pow}
use Rattle.circuit_core.specs.declared.words.FunName.{FunName}
use Rattle.circuit_core.specs.declared.words.FunName.TheVariants.{Sin, Cos, Tan, Exp, Ln, Sqrt}
use Rattle.circuit_core.specs.Angle.{nodes_step, nodes_of, text_step, text_of, reals_step, reals_of, sign_of, word_of}
use Rattle.circuit_core.specs.Circuit.{CircuitValue, IsRegister, IsCircuit, IsOpOf, nodes_in}
use Rattle.circuit_core.specs.Identifier.{is_identifier, is_lower_case, is_word_byte, reserved_words}
use Rattle.circuit_core.specs.Label.{index_text, label_in, label}
use Rattle.circuit_core.specs.Op.{IsAngle, IsGate, qubits_of, angles_of, cond_of, is_barrier}
use Rattle.circuit_core.specs.OpText.{with_commas, qubits_text, params_text, cond_text, verb_text, target_text, op_text}
use Rattle.circuit_core.specs.Reals.{IsShortReal}
use Rattle.circuit_core.proofs.CircuitLabels.{all_parts, qregs_are, cregs_are}
use Rattle.trap_parts.specs.declared.parts.SegmentPart.{SegmentPart}
use Rattle.trap_parts.specs.declared.parts.ZonePart.{ZonePart}
use Rattle.trap_model.specs.declared.slot.Slot.{Slot}
use Rattle.trap_parts.specs.Names.{is_name, is_word, begins_with_letter}
use Rattle.trap_parts.specs.Parts.{TrapValue}
use Rattle.trap_model.specs.Trap.{place_text, slot_text, slot_at}
use Rattle.trap_parts.specs.Build.{IsTrap}
use Rattle.step_rules.specs.Placement.{ion_of}
use Rattle.schedule_text.specs.Text.{at, ions_text, ion_words, op_line}

-- ---- numbers

digits_size : (k n : ℕ) (acc : List ℕ) → length (digits_onto k 10 false n acc) ≤ k + length acc
digits_size zero n acc = omega arith
digits_size (suc k) n acc =
    let more : List ℕ = digit_glyph false (n % 10) ∷ acc in
    cond_both (n / 10 == 0) more (digits_onto k 10 false (n / 10) more) (λ (text : List ℕ). length text ≤ suc k + length acc) (λ e. omega arith)
    (λ e. omega (arith, digits_size k (n / 10) more))

pub decimal_size : (n : ℕ) → length (decimal n) ≤ 64
unfolding digits
decimal_size n = digits_size 64 n []

-- ---- names

pub name_size : (name : List ℕ) → IsTrue (is_name name) → length name ≤ 16
name_size name is = leb-true (length name) 16 (and_parts (begins_with_letter name) (nat_le (length name) 16) (and_parts (begins_with_letter name && nat_le (length name) 16) (list_all is_word name) is).0).1

pub identifier_size : (name : List ℕ) → IsTrue (is_identifier name) → length name ≤ 64
identifier_size [] is = omega arith
identifier_size (first ∷ rest) is =
    let start = is_lower_case first && list_all is_word_byte rest in
    let parts = and_parts (start && nat_le (length rest) 63) (not (list_any (bytes_eq (first ∷ rest)) reserved_words)) is in
    omega (arith, leb-true (length rest) 63 (and_parts start (nat_le (length rest) 63) parts.0).1)

-- ---- angles

operator_size : (op : BinOp) → length (sign_of op) ≤ 1
operator_size Add = omega arith
operator_size Sub = omega arith
operator_size Mul = omega arith
operator_size Div = omega arith
operator_size Pow = omega arith

function_size : (f : FunName) → length (word_of f) ≤ 4
function_size Sin = omega arith
function_size Cos = omega arith
function_size Tan = omega arith
function_size Exp = omega arith
function_size Ln = omega arith
function_size Sqrt = omega arith

-- with a comma at its end, at most 65 bytes for each node
abbrev IsShortAngle : Angle → Type 0
IsShortAngle a = All IsShortReal (reals_of a) → length (text_of a) + 1 ≤ 65 * nodes_of a

-- one level, with a proof beside each part
step_size : (y : Angle-F ((a : Angle) × IsShortAngle a)) → All IsShortReal (reals_step (map-Angle _ _ reals_of (map-Angle _ _ (λ e. e.0) y)))
    → length (text_step (map-Angle _ _ text_of (map-Angle _ _ (λ e. e.0) y))) + 1 ≤ 65 * nodes_step (map-Angle _ _ nodes_of (map-Angle _ _ (λ e. e.0) y))
step_size (Angle-F.Real name) h = omega (arith, (All-head IsShortReal name [] h).1)
step_size (Angle-F.Int n) h = omega (arith, decimal_size n)
step_size Angle-F.Pi h = omega arith
step_size (Angle-F.Neg a) h = omega (arith, a.1 h, length-append (text_of a.0) (codes ")"))
step_size (Angle-F.Bin op a b) h =
    let parts = all_parts IsShortReal (reals_of a.0) (reals_of b.0) h in
    simp length-append (omega (arith, a.1 parts.0, b.1 parts.1, operator_size op))
step_size (Angle-F.Fun f a) h = simp length-append (omega (arith, a.1 h, function_size f))

size_at : (y : Angle-F ((a : Angle) × IsShortAngle a)) → IsShortAngle (roll-Angle (map-Angle _ _ (λ e. e.0) y))
size_at y h =
    let x : Angle-F Angle = map-Angle _ _ (λ e. e.0) y in
    subst (λ (n : ℕ). length (text_of (roll-Angle x)) + 1 ≤ 65 * n) (sym (fold-roll-Angle ℕ nodes_step x))
    (subst (λ (text : List ℕ). length text + 1 ≤ 65 * nodes_step (map-Angle _ _ nodes_of x)) (sym (fold-roll-Angle (List ℕ) text_step x))
    (step_size y (subst (All IsShortReal) (fold-roll-Angle (List (List ℕ)) reals_step x) h)))

angle_size : (a : Angle) → IsShortAngle a
angle_size = ind-Angle IsShortAngle (λ x y is. subst (λ z. IsShortAngle (roll-Angle z)) is (size_at y))

commas_size : (angles : List Angle) → All IsAngle angles → length (with_commas (map text_of angles)) ≤ 65 * nodes_in angles
commas_size [] each = omega arith
commas_size (angle ∷ []) each = omega (arith, angle_size angle (All-head IsAngle angle [] each).reals)
commas_size (angle ∷ next ∷ angles) each =
    simp length-append (omega (arith, angle_size angle (All-head IsAngle angle (next ∷ angles) each).reals, commas_size (next ∷ angles) (All-tail IsAngle angle (next ∷ angles) each)))

params_size : (angles : List Angle) → All IsAngle angles → length (params_text angles) ≤ 2 + 65 * nodes_in angles
params_size [] each = omega arith
params_size (angle ∷ angles) each = simp length-append (omega (arith, commas_size (angle ∷ angles) each))

-- ---- operations

label_size : (regs : List Reg) (index : ℕ) → All IsRegister regs → length (label_in regs index) ≤ 130
label_size [] index each = omega arith
label_size (reg ∷ regs) index each =
    cond_both (nat_lt index reg.size) (reg.name ++ index_text index) (label_in regs (index - reg.size)) (λ (text : List ℕ). length text ≤ 130)
    (λ e. simp length-append (omega (arith, identifier_size reg.name (All-head IsRegister reg regs each).name, decimal_size index)))
    (λ e. label_size regs (index - reg.size) (All-tail IsRegister reg regs each))

pub qubit_size : (circuit : CircuitValue) (qubit : Qubit) → IsCircuit circuit → length (label circuit qubit) ≤ 130
qubit_size circuit qubit c = label_size circuit.qregs qubit.0 (qregs_are circuit c)

register_size : (regs : List Reg) (k : ℕ) → All IsRegister regs → length (option_map_or (λ (reg : Reg). reg.name) (slice_get regs k) []) ≤ 64
register_size [] k each = omega arith
register_size (reg ∷ regs) zero each = identifier_size reg.name (All-head IsRegister reg regs each).name
register_size (reg ∷ regs) (suc k) each = register_size regs k (All-tail IsRegister reg regs each)

cond_size : (circuit : CircuitValue) (cond : Option Cond) → IsCircuit circuit → length (cond_text circuit cond) ≤ 135
cond_size circuit None c = omega arith
cond_size circuit (Some cond) c = simp length-append (omega (arith, register_size circuit.cregs cond.creg.0 (cregs_are circuit c), decimal_size cond.value))

verb_size : (op : Op) → All IsAngle (angles_of op) → IsGate op → length (verb_text op) ≤ 66 + 65 * nodes_in (angles_of op)
verb_size (U theta phi lambda qubit cond) angles gate = omega (arith, params_size (theta ∷ phi ∷ lambda ∷ []) angles)
verb_size (Cx control target cond) angles gate = omega arith
verb_size (Opaque name params first second cond) angles gate = simp length-append (omega (arith, identifier_size name gate.0, params_size params angles))
verb_size (Measure qubit bit cond) angles gate = omega arith
verb_size (Reset qubit cond) angles gate = omega arith
verb_size (Barrier qubits) angles gate = omega arith

target_size : (circuit : CircuitValue) (op : Op) → IsCircuit circuit → length (target_text circuit op) ≤ 134
target_size circuit (U theta phi lambda qubit cond) c = omega arith
target_size circuit (Cx control target cond) c = omega arith
target_size circuit (Opaque name params first second cond) c = omega arith
target_size circuit (Measure qubit bit cond) c = simp length-append (omega (arith, label_size circuit.cregs bit.0 (cregs_are circuit c)))
target_size circuit (Reset qubit cond) c = omega arith
target_size circuit (Barrier qubits) c = omega arith

-- ---- places

all_named : {X : Type 0} (name : X → List ℕ) (xs : List X) (k : ℕ) → All (λ text. IsTrue (is_name text)) (map name xs) → length (option_map_or name (slice_get xs k) []) ≤ 16
all_named name [] k each = omega arith
all_named name (x ∷ xs) zero each = name_size (name x) (All-head (λ text. IsTrue (is_name text)) (name x) (map name xs) each)
all_named name (x ∷ xs) (suc k) each = all_named name xs k (All-tail (λ text. IsTrue (is_name text)) (name x) (map name xs) each)

slot_size : (trap : TrapValue) (slot : Option Slot) → All (λ text. IsTrue (is_name text)) (map (λ (segment : SegmentPart). segment.name) trap.segments) → length (option_map_or (slot_text trap) slot []) ≤ 81
slot_size trap None each = omega arith
slot_size trap (Some slot) each = simp length-append (omega (arith, all_named (λ (segment : SegmentPart). segment.name) trap.segments slot.segment each, decimal_size slot.index))

at_size : {X : Type 0} (name : X → List ℕ) (found : Option X) (other : List ℕ) (n : ℕ) → length (option_map_or name found []) ≤ n → length other ≤ n → length (option_map_or name found other) ≤ n
at_size name None other n here there = there
at_size name (Some x) other n here there = here

-- the names of the zones, of the segments and of the junctions
pub record AreNamed (trap : TrapValue) : Type 0 where
  pub zones : All (λ text. IsTrue (is_name text)) (map (λ (zone : ZonePart). zone.name) trap.zones)
  pub segments : All (λ text. IsTrue (is_name text)) (map (λ (segment : SegmentPart). segment.name) trap.segments)
  pub junctions : All (λ text. IsTrue (is_name text)) trap.junctions

pub are_named : (trap : TrapValue) → IsTrap trap → AreNamed trap
are_named trap t =
    let zones = map (λ (zone : ZonePart). zone.name) trap.zones in
    let segments = map (λ (segment : SegmentPart). segment.name) trap.segments in
    let P : List ℕ → Type 0 = λ text. IsTrue (is_name text) in
    let all = all_parts P (zones ++ segments) trap.junctions t.words in
    let places = all_parts P zones segments all.0 in
    record { zones = places.0; segments = places.1; junctions = all.1 }

pub place_size : (trap : TrapValue) (place : ℕ) → AreNamed trap → length (place_text trap place) ≤ 81
place_size trap place named =
    at_size (λ (zone : ZonePart). zone.name) (slice_get trap.zones place) (option_map_or (slot_text trap) (slot_at trap place) []) 81
    (omega (arith, all_named (λ (zone : ZonePart). zone.name) trap.zones place named.zones)) (slot_size trap (slot_at trap place) named.segments)

pub junction_size : (names : List (List ℕ)) (k : ℕ) → All (λ text. IsTrue (is_name text)) names → length (at (λ name. name) names k) ≤ 16
junction_size [] k each = omega arith
junction_size (name ∷ names) zero each = name_size name (All-head (λ text. IsTrue (is_name text)) name names each)
junction_size (name ∷ names) (suc k) each = junction_size names k (All-tail (λ text. IsTrue (is_name text)) name names each)

-- ---- operations that are performed

few_qubits : (op : Op) → is_barrier op ≡ false → length (qubits_of op) ≤ 2
few_qubits (U theta phi lambda qubit cond) e = omega arith
few_qubits (Cx control target cond) e = omega arith
few_qubits (Opaque name params first None cond) e = omega arith
few_qubits (Opaque name params first (Some second) cond) e = omega arith
few_qubits (Measure qubit bit cond) e = omega arith
few_qubits (Reset qubit cond) e = omega arith
few_qubits (Barrier qubits) e = absurd cc

few_labels : (circuit : CircuitValue) (qubits : List Qubit) → IsCircuit circuit → length qubits ≤ 2 → length (qubits_text circuit qubits) ≤ 261
few_labels circuit [] c few = omega arith
few_labels circuit (qubit ∷ []) c few = omega (arith, qubit_size circuit qubit c)
few_labels circuit (qubit ∷ other ∷ []) c few = simp length-append (omega (arith, qubit_size circuit qubit c, qubit_size circuit other c))
few_labels circuit (qubit ∷ other ∷ next ∷ more) c few = absurd (omega arith)

op_size : (circuit : CircuitValue) (op : Op) → IsCircuit circuit → IsOpOf circuit op → is_barrier op ≡ false → length (op_text circuit op) ≤ 598 + 65 * nodes_in (angles_of op)
op_size circuit op c is e =
    simp length-append (omega (arith, cond_size circuit (cond_of op) c, verb_size op is.angles is.gate, few_labels circuit (qubits_of op) c (few_qubits op e), target_size circuit op c))

few_ions : (placement : List (List Qubit)) (qubits : List Qubit) → length qubits ≤ 2 → length (ions_text placement qubits) ≤ 130
few_ions placement [] few = omega arith
few_ions placement (qubit ∷ []) few = simp length-append (omega (arith, decimal_size (ion_of placement qubit).0))
few_ions placement (qubit ∷ other ∷ []) few = simp length-append (omega (arith, decimal_size (ion_of placement qubit).0, decimal_size (ion_of placement other).0))
few_ions placement (qubit ∷ other ∷ next ∷ more) few = absurd (omega arith)

op_line_parts : (number ions text : List ℕ) (n : ℕ) → length number ≤ 64 → length ions ≤ 130 → length text ≤ 598 + n
    → length (number ++ codes " ions" ++ ions ++ codes " : " ++ text ++ codes "\n") ≤ 801 + n
op_line_parts number ions text n few_digits few short = simp length-append (omega arith)

-- the line of an operation after its zone
pub op_line_size : (circuit : CircuitValue) (placement : List (List Qubit)) (number : ℕ) (op : Op) → IsCircuit circuit → IsOpOf circuit op → is_barrier op ≡ false
    → length (op_line circuit placement number op) ≤ 801 + 65 * nodes_in (angles_of op)
op_line_size circuit placement number op c is e =
    op_line_parts (decimal number) (ion_words placement op) (op_text circuit op) (65 * nodes_in (angles_of op)) (decimal_size number) (few_ions placement (qubits_of op) (few_qubits op e)) (op_size circuit op c is e)
