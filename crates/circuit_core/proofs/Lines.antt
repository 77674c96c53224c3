-- No text of an operation has a line feed.
use Rattle.std.proofs.Common.{◌≡◌, ◌≢◌, ◌⊎◌, ℕ, zero, suc, ◌+◌, ◌<◌, ◌%◌, ◌/◌, true, false, List, [], ◌∷◌, ◌++◌, Option, Some, None, refl, sym, subst, ◌∙◌, inl, inr, arith}
use Rattle.std.specs.Prelude.{All, IsTrue, codes, decimal, nat_lt, ◌==◌, not, map, slice_get, IfSome}
use Rattle.std.specs.Char.{is_ascii_digit}
use Rattle.std.specs.Fmt.{digits, digits_onto, digit_glyph}
use Rattle.std.specs.List.{list_all}
use Rattle.std.specs.Option.{option_map_or}
use Rattle.std.proofs.lemmas.Bool.{both_ways, not-true, eqb-false, lt-ltb, cond-true, cond_both}
use Rattle.std.proofs.lemmas.List.Elements.{All-nil, All-cons, All-head, All-tail, All-append, All-map, All-weaker, All-get_or}
use Rattle.std.proofs.lemmas.List.Sums.{AllPass-from_list_all}
use Rattle.std.proofs.lemmas.Option.{slice_get_within, get_or_from_slice_get}
use Rattle.qc_base.specs.Spelling.{IsFree}
use Rattle.qc_base.specs.declared.ids.Bit.{Bit}
use Rattle.qc_base.specs.declared.ids.Qubit.{Qubit}
use Rattle.circuit_core.specs.declared.angle.Angle.{Angle, ind-Angle, fold-roll-Angle, roll-Angle, map-Angle}
use Rattle.circuit_core.specs.declared.angle.Angle.TheOpen.{Angle-F}
use Rattle.circuit_core.specs.declared.circuit.Reg.{Reg}
use Rattle.circuit_core.specs.declared.op.Cond.{Cond}
use Rattle.circuit_core.specs.declared.op.Op.{Op}
use Rattle.circuit_core.specs.declared.op.Op.TheVariants.{U, Cx, Opaque, Measure, Reset, Barrier}
use Rattle.circuit_core.specs.declared.words.BinOp.{BinOp}
use Rattle.circuit_core.specs.declared.words.BinOp.TheVariants.{Add, Sub, Mul, Div, Pow}
use Rattle.circuit_core.specs.declared.words.FunName.{FunName}
use Rattle.circuit_core.specs.declared.words.FunName.TheVariants.{Sin, Cos, Tan, Exp, Ln, Sqrt}
use Rattle.circuit_core.specs.Angle.{text_step, text_of, reals_step, reals_of, sign_of, word_of}
use Rattle.circuit_core.specs.Circuit.{CircuitValue, IsRegister, IsCircuit, IsOpOf, qubit_count, bit_count}
use Rattle.circuit_core.specs.Label.{label}
use Rattle.circuit_core.specs.Op.{IsAngle, IsGate, qubits_of, angles_of, cond_of, bit_of}
use Rattle.circuit_core.specs.OpText.{with_commas, qubits_text, params_text, reg_name, cond_text, verb_text, target_text, op_text}
use Rattle.circuit_core.specs.Reals.{Each, IsExponent, IsReal, IsShortReal}
use Rattle.circuit_core.proofs.RegisterLabels.{name_free}
use Rattle.circuit_core.proofs.CircuitLabels.{all_parts, cregs_are, label_free, bit_label_free}

-- a text without a line feed
abbrev pub IsLine : List ℕ → Type 0
IsLine text = IsFree 10 text

both : (a b : List ℕ) → IsLine a → IsLine b → IsLine (a ++ b)
both a b = All-append (λ byte. byte ≢ 10) a b

nothing : IsLine []
nothing = All-nil (λ byte. byte ≢ 10)

-- a text that is written out
written : (text : List ℕ) → list_all (λ byte. not (byte == 10)) text ≡ true → IsLine text
written text e k d h same = eqb-false _ 10 (not-true _ (AllPass-from_list_all (λ byte. not (byte == 10)) text e k d h)) same

-- ---- numbers

glyph : (d : ℕ) → d < 10 → digit_glyph false d ≢ 10
glyph d h e =
    let is : digit_glyph false d ≡ 48 + d = cond-true (nat_lt d 10) _ _ (lt-ltb d 10 h) in
    let same : 48 + d ≡ 10 = sym is ∙ e in
    omega arith

digits_line : (k n : ℕ) (acc : List ℕ) → IsLine acc → IsLine (digits_onto k 10 false n acc)
digits_line zero n acc h = h
digits_line (suc k) n acc h =
    let small : n % 10 < 10 = omega arith in
    let more : IsLine (digit_glyph false (n % 10) ∷ acc) = All-cons (λ byte. byte ≢ 10) (digit_glyph false (n % 10)) acc (glyph (n % 10) small) h in
    cond_both (n / 10 == 0) (digit_glyph false (n % 10) ∷ acc) (digits_onto k 10 false (n / 10) (digit_glyph false (n % 10) ∷ acc)) IsLine (λ e. more) (λ e. digits_line k (n / 10) _ more)

decimal_line : (n : ℕ) → IsLine (decimal n)
unfolding digits
decimal_line n = digits_line 64 n [] nothing

-- ---- reals

digit_byte : (byte : ℕ) → IsTrue (is_ascii_digit byte) → byte ≢ 10
digit_byte byte h same = both_ways (is_ascii_digit 10) refl (subst (λ (b : ℕ). is_ascii_digit b ≡ true) same h)

each_line : (text : List ℕ) → Each is_ascii_digit text → IsLine text
each_line [] h = nothing
each_line (byte ∷ text) h = All-cons (λ b. b ≢ 10) byte text (digit_byte byte h.0) (each_line text h.1)

letter_line : (letter : ℕ) → (letter ≡ 101) ⊎ (letter ≡ 69) → letter ≢ 10
letter_line letter (inl e) same = omega arith
letter_line letter (inr e) same = omega arith

sign_line : (sign : List ℕ) → (sign ≡ []) ⊎ ((sign ≡ codes "+") ⊎ (sign ≡ codes "-")) → IsLine sign
sign_line sign (inl e) = rw e nothing
sign_line sign (inr (inl e)) = rw e (written (codes "+") refl)
sign_line sign (inr (inr e)) = rw e (written (codes "-") refl)

exponent_line : (text : List ℕ) → IsExponent text → IsLine text
exponent_line text x =
    rw x.made (All-cons (λ b. b ≢ 10) x.letter (x.sign ++ x.digits) (letter_line x.letter x.is_letter) (both x.sign x.digits (sign_line x.sign x.is_sign) (each_line x.digits x.are_digits)))

perhaps_line : (text : List ℕ) → (text ≡ []) ⊎ IsExponent text → IsLine text
perhaps_line text (inl e) = rw e nothing
perhaps_line text (inr x) = exponent_line text x

real_line : (text : List ℕ) → IsReal text → IsLine text
real_line text (inl p) =
    rw p.made (both p.whole (46 ∷ (p.fraction ++ p.exponent)) (each_line p.whole p.whole_digits)
    (both (codes ".") (p.fraction ++ p.exponent) (written (codes ".") refl) (both p.fraction p.exponent (each_line p.fraction p.fraction_digits) (perhaps_line p.exponent p.perhaps))))
real_line text (inr x) = rw x.made (both x.whole x.exponent (each_line x.whole x.whole_digits) (exponent_line x.exponent x.is_exponent))

-- ---- angles

operator_line : (op : BinOp) → IsLine (sign_of op)
operator_line Add = written (codes "+") refl
operator_line Sub = written (codes "-") refl
operator_line Mul = written (codes "*") refl
operator_line Div = written (codes "/") refl
operator_line Pow = written (codes "^") refl

function_line : (f : FunName) → IsLine (word_of f)
function_line Sin = written (codes "sin") refl
function_line Cos = written (codes "cos") refl
function_line Tan = written (codes "tan") refl
function_line Exp = written (codes "exp") refl
function_line Ln = written (codes "ln") refl
function_line Sqrt = written (codes "sqrt") refl

abbrev IsLineAngle : Angle → Type 0
IsLineAngle a = All IsShortReal (reals_of a) → IsLine (text_of a)

-- one level, with a proof beside each part
step_line : (y : Angle-F ((a : Angle) × IsLineAngle a)) → All IsShortReal (reals_step (map-Angle _ _ reals_of (map-Angle _ _ (λ e. e.0) y)))
    → IsLine (text_step (map-Angle _ _ text_of (map-Angle _ _ (λ e. e.0) y)))
step_line (Angle-F.Real name) h = real_line name (All-head IsShortReal name [] h).0
step_line (Angle-F.Int n) h = decimal_line n
step_line Angle-F.Pi h = written (codes "pi") refl
step_line (Angle-F.Neg a) h = both (codes "(-" ++ text_of a.0) (codes ")") (both (codes "(-") (text_of a.0) (written (codes "(-") refl) (a.1 h)) (written (codes ")") refl)
step_line (Angle-F.Bin op a b) h =
    let parts = all_parts IsShortReal (reals_of a.0) (reals_of b.0) h in
    both (codes "(" ++ text_of a.0 ++ sign_of op ++ text_of b.0) (codes ")")
    (both (codes "(" ++ text_of a.0 ++ sign_of op) (text_of b.0)
    (both (codes "(" ++ text_of a.0) (sign_of op) (both (codes "(") (text_of a.0) (written (codes "(") refl) (a.1 parts.0)) (operator_line op)) (b.1 parts.1)) (written (codes ")") refl)
step_line (Angle-F.Fun f a) h =
    both (word_of f ++ codes "(" ++ text_of a.0) (codes ")") (both (word_of f ++ codes "(") (text_of a.0) (both (word_of f) (codes "(") (function_line f) (written (codes "(") refl)) (a.1 h)) (written (codes ")") refl)

line_at : (y : Angle-F ((a : Angle) × IsLineAngle a)) → IsLineAngle (roll-Angle (map-Angle _ _ (λ e. e.0) y))
line_at y h =
    let x : Angle-F Angle = map-Angle _ _ (λ e. e.0) y in
    subst IsLine (sym (fold-roll-Angle (List ℕ) text_step x)) (step_line y (subst (All IsShortReal) (fold-roll-Angle (List (List ℕ)) reals_step x) h))

angle_line : (a : Angle) → IsLineAngle a
angle_line = ind-Angle IsLineAngle (λ x y is. subst (λ z. IsLineAngle (roll-Angle z)) is (line_at y))

-- ---- operations

commas_line : (texts : List (List ℕ)) → All IsLine texts → IsLine (with_commas texts)
commas_line [] h = nothing
commas_line (text ∷ []) h = All-head IsLine text [] h
commas_line (text ∷ next ∷ texts) h =
    both (text ++ codes ",") (with_commas (next ∷ texts)) (both text (codes ",") (All-head IsLine text (next ∷ texts) h) (written (codes ",") refl)) (commas_line (next ∷ texts) (All-tail IsLine text (next ∷ texts) h))

params_line : (angles : List Angle) → All IsAngle angles → IsLine (params_text angles)
params_line [] h = nothing
params_line (angle ∷ angles) h =
    let all = angle ∷ angles in
    let texts = map text_of all in
    let each : All (λ a. IsLine (text_of a)) all = All-weaker IsAngle (λ a. IsLine (text_of a)) (λ a is. angle_line a is.reals) all h in
    both (codes "(" ++ with_commas texts) (codes ")") (both (codes "(") (with_commas texts) (written (codes "(") refl) (commas_line texts (All-map IsLine text_of all each))) (written (codes ")") refl)

qubits_line : (circuit : CircuitValue) (qubits : List Qubit) → IsCircuit circuit → All (λ (qubit : Qubit). qubit.0 < qubit_count circuit) qubits → IsLine (qubits_text circuit qubits)
qubits_line circuit qubits c h =
    let each : All (λ qubit. IsLine (label circuit qubit)) qubits =
    All-weaker (λ (qubit : Qubit). qubit.0 < qubit_count circuit) (λ qubit. IsLine (label circuit qubit)) (λ qubit below. label_free circuit qubit.0 10 c below refl) qubits h in
    commas_line (map (label circuit) qubits) (All-map IsLine (label circuit) qubits each)

name_line : (reg : Option Reg) → IfSome reg IsRegister → IsLine (option_map_or (λ (r : Reg). r.name) reg [])
name_line None h = nothing
name_line (Some reg) h = name_free 10 reg.name refl h.name

one_of : (reg : Option Reg) (regs : List Reg) (k : ℕ) → All IsRegister regs → slice_get regs k ≡ reg → IfSome reg IsRegister
one_of None regs k all at = tt
one_of (Some reg) regs k all at = subst IsRegister (get_or_from_slice_get regs k reg reg at) (All-get_or IsRegister regs k reg (slice_get_within regs k reg at) all)

cond_line : (circuit : CircuitValue) (cond : Option Cond) → IsCircuit circuit → IsLine (cond_text circuit cond)
cond_line circuit None c = nothing
cond_line circuit (Some cond) c =
    let name = reg_name circuit cond.creg.0 in
    let named = name_line (slice_get circuit.cregs cond.creg.0) (one_of _ circuit.cregs cond.creg.0 (cregs_are circuit c) refl) in
    both (codes "if(" ++ name ++ codes "==" ++ decimal cond.value) (codes ") ")
    (both (codes "if(" ++ name ++ codes "==") (decimal cond.value)
    (both (codes "if(" ++ name) (codes "==") (both (codes "if(") name (written (codes "if(") refl) named) (written (codes "==") refl)) (decimal_line cond.value)) (written (codes ") ") refl)

verb_line : (op : Op) → All IsAngle (angles_of op) → IsGate op → IsLine (verb_text op)
verb_line (U theta phi lambda qubit cond) angles gate = both (codes "U") (params_text (theta ∷ phi ∷ lambda ∷ [])) (written (codes "U") refl) (params_line (theta ∷ phi ∷ lambda ∷ []) angles)
verb_line (Cx control target cond) angles gate = written (codes "CX") refl
verb_line (Opaque name params first second cond) angles gate = both name (params_text params) (name_free 10 name refl gate.0) (params_line params angles)
verb_line (Measure qubit bit cond) angles gate = written (codes "measure") refl
verb_line (Reset qubit cond) angles gate = written (codes "reset") refl
verb_line (Barrier qubits) angles gate = written (codes "barrier") refl

target_line : (circuit : CircuitValue) (op : Op) → IsCircuit circuit → IfSome (bit_of op) (λ (bit : Bit). bit.0 < bit_count circuit) → IsLine (target_text circuit op)
target_line circuit (U theta phi lambda qubit cond) c h = nothing
target_line circuit (Cx control target cond) c h = nothing
target_line circuit (Opaque name params first second cond) c h = nothing
target_line circuit (Measure qubit bit cond) c h = both (codes " -> ") _ (written (codes " -> ") refl) (bit_label_free circuit bit.0 10 c h refl)
target_line circuit (Reset qubit cond) c h = nothing
target_line circuit (Barrier qubits) c h = nothing

pub op_line : (circuit : CircuitValue) (op : Op) → IsCircuit circuit → IsOpOf circuit op → IsLine (op_text circuit op)
op_line circuit op c is =
    let cond = cond_text circuit (cond_of op) in
    let verb = verb_text op in
    let qubits = qubits_text circuit (qubits_of op) in
    let target = target_text circuit op in
    both (cond ++ verb ++ codes " " ++ qubits ++ target) (codes ";")
    (both (cond ++ verb ++ codes " " ++ qubits) target
    (both (cond ++ verb ++ codes " ") qubits
    (both (cond ++ verb) (codes " ") (both cond verb (cond_line circuit (cond_of op) c) (verb_line op is.angles is.gate)) (written (codes " ") refl))
    (qubits_line circuit (qubits_of op) c is.qubits)) (target_line circuit op c is.bit)) (written (codes ";") refl)
