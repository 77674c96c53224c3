-- A token that is an identifier is one by its bytes.
use Rattle.std.proofs.Common.{◌≡◌, ℕ, ◌≤◌, Bool, true, false, ◌||◌, cond, List, [], ◌∷◌, length, Option, Some, None, refl, arith}
use Rattle.std.specs.Prelude.{IsTrue, codes}
use Rattle.std.specs.List.{list_all, list_any}
use Rattle.std.specs.Option.{option_or}
use Rattle.std.specs.Str.{bytes_eq}
use Rattle.std.proofs.lemmas.Bool.{le-leb}
use Rattle.circuit_core.specs.Identifier.{is_identifier, is_lower_case, is_word_byte as in_a_name, reserved_words}
use Rattle.qasm_tokens.specs.declared.token.Keyword.{Keyword}
use Rattle.qasm_tokens.specs.declared.token.Keyword.TheVariants as word
use Rattle.qasm_tokens.specs.Pieces.{is_word_byte}
use Rattle.circuit_core.specs.Reals.{Each}
use Rattle.qasm_tokens.specs.TokenForms.{IsWord}
use Rattle.qasm_tokens.specs.TokenKinds.{IsIdentifier}
use Rattle.qasm_tokens.specs.Tokens.{is_upper, keyword_of, upper_keyword, statement_keyword, angle_keyword}

-- ---- bytes

any_order : (digit upper lower line : Bool) → ((digit || upper) || lower) || line ≡ true → (lower || upper || digit || line) ≡ true
any_order true true true line e = refl
any_order true true false line e = refl
any_order true false true line e = refl
any_order true false false line e = refl
any_order false true true line e = refl
any_order false true false line e = refl
any_order false false true line e = refl
any_order false false false line e = e

name_bytes : (text : List ℕ) → Each is_word_byte text → list_all in_a_name text ≡ true
name_bytes [] h = refl
name_bytes (b ∷ text) h = rw (any_order _ _ _ _ h.0, name_bytes text h.1) refl

lower_left : (upper lower : Bool) → (upper || lower) ≡ true → upper ≡ false → lower ≡ true
lower_left true lower e none = absurd cc
lower_left false lower e none = e

-- ---- reserved words

neither : (a b : Option Keyword) → option_or a b ≡ None → (a ≡ None) × (b ≡ None)
neither None b e = (refl, e)
neither (Some k) b e = absurd cc

other : (same : Bool) (k : Keyword) (o : Option Keyword) → cond same (Some k) o ≡ None → (same ≡ false) × (o ≡ None)
other true k o e = absurd cc
other false k o e = (refl, e)

not_reserved : (w : List ℕ) → keyword_of w ≡ None → list_any (bytes_eq w) reserved_words ≡ false
unfolding keyword_of statement_keyword angle_keyword
not_reserved w e =
    let k = neither (upper_keyword w) _ e in
    let n = neither (statement_keyword w) (angle_keyword w) k.1 in
    let include = other (bytes_eq w (codes "include")) word.Include _ n.0 in
    let qreg = other (bytes_eq w (codes "qreg")) word.Qreg _ include.1 in
    let creg = other (bytes_eq w (codes "creg")) word.Creg _ qreg.1 in
    let gate = other (bytes_eq w (codes "gate")) word.Gate _ creg.1 in
    let opaque = other (bytes_eq w (codes "opaque")) word.Opaque _ gate.1 in
    let measure = other (bytes_eq w (codes "measure")) word.Measure _ opaque.1 in
    let reset = other (bytes_eq w (codes "reset")) word.Reset _ measure.1 in
    let barrier = other (bytes_eq w (codes "barrier")) word.Barrier _ reset.1 in
    let condition = other (bytes_eq w (codes "if")) word.If _ barrier.1 in
    let pi = other (bytes_eq w (codes "pi")) word.Pi _ n.1 in
    let sin = other (bytes_eq w (codes "sin")) word.Sin _ pi.1 in
    let cos = other (bytes_eq w (codes "cos")) word.Cos _ sin.1 in
    let tan = other (bytes_eq w (codes "tan")) word.Tan _ cos.1 in
    let exp = other (bytes_eq w (codes "exp")) word.Exp _ tan.1 in
    let ln = other (bytes_eq w (codes "ln")) word.Ln _ exp.1 in
    let sqrt = other (bytes_eq w (codes "sqrt")) word.Sqrt _ ln.1 in
    rw (include.0, qreg.0, creg.0, gate.0, opaque.0, measure.0, reset.0, barrier.0, condition.0, pi.0, sin.0, cos.0, tan.0, exp.0, ln.0, sqrt.0) refl

-- ---- the word

by_parts : (first : ℕ) (rest : List ℕ) → IsWord (first ∷ rest) → is_upper (first ∷ rest) ≡ false → keyword_of (first ∷ rest) ≡ None → length (first ∷ rest) ≤ 64 → IsTrue (is_identifier (first ∷ rest))
by_parts first rest w lower none short =
    let small : is_lower_case first ≡ true = lower_left _ _ w.0 lower in
    let few = le-leb (length rest) 63 (omega (arith, short)) in
    rw (small, name_bytes rest w.1, few, not_reserved (first ∷ rest) none) refl

pub is_name : (n : List ℕ) → IsIdentifier n → IsTrue (is_identifier n)
is_name [] h = absurd h.word
is_name (first ∷ rest) h = by_parts first rest h.word h.lower h.other h.short
