-- A piece has a length, and the text that its shape says.
use Rattle.std.proofs.Common.{◌≡◌, ℕ, suc, ◌+◌, ◌<◌, ◌≤◌, Bool, true, false, cond, List, [], ◌∷◌, length, take, drop, Some, None, refl, sym, ap, subst, arith, ◌⊎◌, ⊎_elim, inl, inr, ◌&&◌, Option, nat_lt, length-drop, codes}
use Rattle.std.specs.Char.{is_ascii_digit}
use Rattle.std.specs.List.{prefix_len}
use Rattle.std.specs.Prelude.{◌==◌}
use Rattle.std.specs.Option.{option_map}
use Rattle.std.specs.Char.{digit_value}
use Rattle.std.specs.Str.Parse.{IsNumeral, AllDigits}
use Rattle.std.proofs.lemmas.List.Sums.{prefix_len-le-length}
use Rattle.std.proofs.lemmas.Grind.{common_steps}
use Rattle.std.proofs.lemmas.List.{length-take, length-take-le}
use Rattle.std.proofs.lemmas.Str.{digit_value_digit}
use Rattle.std.specs.Cmp.Lexicographic.{same_text}
use Rattle.qasm_tokens.specs.declared.piece.Shape.{Shape}
use Rattle.qasm_tokens.specs.declared.piece.Shape.TheVariants as shapes
use Rattle.qasm_tokens.specs.declared.piece.Piece.{Piece}
use Rattle.qasm_tokens.specs.declared.token.Sign.{Sign}
use Rattle.qasm_tokens.specs.declared.token.Sign.TheVariants.{Arrow, Equals}
use Rattle.qasm_tokens.specs.Pieces.{begins, is_space, is_word_byte, is_string_byte, is_comment_byte, comment_len, word_len, integer_len, sign_len, exponent_len, fraction_len, real_len, string_len, sign_of_byte, sign_piece, piece_of_length, ◌or◌, piece_of}
use Rattle.qasm_tokens.specs.Scan.{HasShape}

-- a piece is at the front of a text
pub record IsPiece (text : List ℕ) (piece : Piece) : Type 0 where
  pub some : 0 < piece.length
  pub within : piece.length ≤ length text
  pub shape : HasShape piece.shape (take piece.length text)

-- which of two tests it was
pub chosen : {A : Type 0} (b : Bool) (x y z : A) → cond b x y ≡ z → ((b ≡ true) × (x ≡ z)) ⊎ ((b ≡ false) × (y ≡ z))
chosen true x y z e = inl (refl, e)
chosen false x y z e = inr (refl, e)

pub either_piece : (a b : Option Piece) (piece : Piece) → (a or b) ≡ Some piece → (a ≡ Some piece) ⊎ (b ≡ Some piece)
either_piece None b piece e = inr e
either_piece (Some a) b piece e = inl e

pub of_length : (shape : Shape) (n : ℕ) (piece : Piece) → piece_of_length shape n ≡ Some piece → (0 < n) × (record { shape = shape; length = n } ≡ piece)
of_length shape n piece e =
    elim (chosen (nat_lt 0 n) _ _ _ e) [
      | inl h ↦ (grind (arith, common_steps, h.0), cc (h.1))
      | inr h ↦ absurd (cc (h.1))
    ]

-- each length is within the text
comment_within : (text : List ℕ) → comment_len text ≤ length text
unfolding comment_len
comment_within text = grind (arith, common_steps, prefix_len-le-length is_comment_byte text)

word_within : (text : List ℕ) → word_len text ≤ length text
unfolding word_len
word_within [] = omega arith
word_within (b ∷ text) = grind (arith, common_steps, prefix_len-le-length is_word_byte (b ∷ text))

integer_within : (text : List ℕ) → integer_len text ≤ length text
unfolding integer_len
integer_within [] = omega arith
integer_within (b ∷ text) = grind (arith, common_steps, prefix_len-le-length is_ascii_digit (b ∷ text))

sign_within : (text : List ℕ) → sign_len text ≤ length text
unfolding sign_len
sign_within [] = omega arith
sign_within (b ∷ text) = grind (arith, common_steps)

exponent_within : (text : List ℕ) → exponent_len text ≤ length text
unfolding exponent_len
exponent_within [] = omega arith
exponent_within (b ∷ text) = grind (arith, common_steps, sign_within text, prefix_len-le-length is_ascii_digit (drop (sign_len text) text))

fraction_within : (whole : ℕ) (text : List ℕ) → fraction_len whole text ≤ length text
unfolding fraction_len
fraction_within whole [] = omega arith
fraction_within whole (b ∷ text) = grind (arith, common_steps, prefix_len-le-length is_ascii_digit text)

real_within : (text : List ℕ) → real_len text ≤ length text
unfolding real_len
real_within text =
    let whole = prefix_len is_ascii_digit text in
    let fraction = fraction_len whole (drop whole text) in
    grind (arith, common_steps, prefix_len-le-length is_ascii_digit text, fraction_within whole (drop whole text), exponent_within (drop (whole + fraction) text))

pub begins_is : (front text : List ℕ) → begins front text ≡ true → front ≡ take (length front) text
begins_is front text e = same_text _ _ (sym e)

pub begins_within : (front text : List ℕ) → begins front text ≡ true → length front ≤ length text
begins_within front text e = omega (arith, ap length (begins_is front text e), length-take (length front) text)

string_cases : (text : List ℕ) (inside : ℕ) (opened closed : Bool) → (closed ≡ true → inside + 1 ≤ length text) → cond (opened && closed) (inside + 2) 0 ≤ suc (length text)
string_cases text inside false closed h = omega arith
string_cases text inside true false h = omega arith
string_cases text inside true true h = omega (arith, h refl)

string_within : (text : List ℕ) → string_len text ≤ length text
unfolding string_len
string_within [] = omega arith
string_within (b ∷ text) =
    let inside = prefix_len is_string_byte text in
    string_cases text inside (b == 34) (begins (34 ∷ []) (drop inside text)) (λ q. omega (arith, begins_within (34 ∷ []) (drop inside text) q, length-drop inside text))

string_has_quotes : (text : List ℕ) → 0 < string_len text → 2 ≤ string_len text
unfolding string_len
string_has_quotes [] h = absurd (omega (arith, h))
string_has_quotes (b ∷ text) h = grind (arith, common_steps, h)

-- the digits at the front are digits
digit_below : (b : ℕ) → is_ascii_digit b ≡ true → digit_value b < 10
digit_below b e =
    let range : (48 ≤ b) × (b ≤ 57) = grind (arith, common_steps, e) in
    omega (arith, digit_value_digit b range)

digit_more : (b n : ℕ) (text : List ℕ) (d : Bool) → is_ascii_digit b ≡ d → AllDigits 10 (take n text) → AllDigits 10 (take (cond d (1 + n) 0) (b ∷ text))
digit_more b n text false e digits = tt
digit_more b n text true e digits = let one : 1 + n ≡ suc n = omega arith in rw one (digit_below b e, digits)

digits_at_front : (text : List ℕ) → AllDigits 10 (take (prefix_len is_ascii_digit text) text)
digits_at_front [] = tt
digits_at_front (b ∷ text) = digit_more b (prefix_len is_ascii_digit text) text (is_ascii_digit b) refl (digits_at_front text)

first_zero : (b : ℕ) (text : List ℕ) → (b == 48) ≡ true → AllDigits 10 (take 1 (b ∷ text))
first_zero b text e = (digit_below b (grind (arith, common_steps, e)), tt)

integer_cases : (b n : ℕ) (text : List ℕ) (z : Bool) → (b == 48) ≡ z → AllDigits 10 (take n (b ∷ text)) → AllDigits 10 (take (cond z 1 n) (b ∷ text))
integer_cases b n text true e digits = first_zero b text e
integer_cases b n text false e digits = digits

integer_is_numeral : (text : List ℕ) → 0 < integer_len text → IsNumeral 10 (take (integer_len text) text)
unfolding integer_len
integer_is_numeral [] h = absurd (omega (arith, h))
integer_is_numeral (b ∷ text) h = (
  omega (arith, h, length-take-le (integer_len (b ∷ text)) (b ∷ text) (integer_within (b ∷ text))),
  integer_cases b (prefix_len is_ascii_digit (b ∷ text)) text (b == 48) refl (digits_at_front (b ∷ text)),
)

made : (text : List ℕ) (shape : Shape) (n : ℕ) (piece : Piece) → 0 < n → n ≤ length text → HasShape shape (take n text) → record { shape = shape; length = n } ≡ piece → IsPiece text piece
made text shape n piece some within has e = subst (IsPiece text) e (record { some = some; within = within; shape = has })

one_sign : (b : ℕ) (text : List ℕ) (sign : Option Sign) (piece : Piece) → option_map (λ s. let p : Piece = record { shape = shapes.Sign s; length = 1 } in p) sign ≡ Some piece → IsPiece (b ∷ text) piece
one_sign b text None piece e = absurd (cc e)
one_sign b text (Some sign) piece e = made (b ∷ text) (shapes.Sign sign) 1 piece (omega arith) (omega arith) tt (cc e)

sign_stands : (text : List ℕ) (piece : Piece) → sign_piece text ≡ Some piece → IsPiece text piece
unfolding sign_piece
sign_stands [] piece e = absurd (cc e)
sign_stands (b ∷ text) piece e =
    let arrow : Option Piece = Some (record { shape = shapes.Sign Arrow; length = 2 }) in
    let equals : Option Piece = Some (record { shape = shapes.Sign Equals; length = 2 }) in
    let one : Option Piece = option_map (λ s. record { shape = shapes.Sign s; length = 1 }) (sign_of_byte b) in
    let is_equals = begins (codes "==") (b ∷ text) in
    elim (chosen (begins (codes "->") (b ∷ text)) arrow (cond is_equals equals one) (Some piece) e) [
      | inl h ↦ made (b ∷ text) (shapes.Sign Arrow) 2 piece (omega arith) (begins_within (codes "->") (b ∷ text) h.0) tt (cc (h.1))
      | inr h ↦ elim (chosen is_equals equals one (Some piece) h.1) [
        | inl i ↦ made (b ∷ text) (shapes.Sign Equals) 2 piece (omega arith) (begins_within (codes "==") (b ∷ text) i.0) tt (cc (i.1))
        | inr i ↦ one_sign b text (sign_of_byte b) piece i.1
      ]
    ]

-- a piece of this form, or one of a later form
of_form : (text : List ℕ) (shape : Shape) (n : ℕ) (rest : Option Piece) (piece : Piece) → n ≤ length text → (0 < n → HasShape shape (take n text)) → (piece_of_length shape n or rest) ≡ Some piece → IsPiece text piece ⊎ (rest ≡ Some piece)
of_form text shape n rest piece within has e = elim (either_piece (piece_of_length shape n) rest piece e) [
  | inl h ↦ let m = of_length shape n piece h in inl (made text shape n piece m.0 within (has m.0) m.1)
  | inr h ↦ inr h
]

pub piece_stands : (text : List ℕ) (piece : Piece) → piece_of text ≡ Some piece → IsPiece text piece
unfolding piece_of
piece_stands text piece e =
    ⊎_elim (λ p. p) (λ e2.
    ⊎_elim (λ p. p) (λ e3.
    ⊎_elim (λ p. p) (λ e4.
    ⊎_elim (λ p. p) (λ e5.
    ⊎_elim (λ p. p) (λ e6.
    ⊎_elim (λ p. p) (λ e7. sign_stands text piece e7)
    (of_form text shapes.Text (string_len text) _ piece (string_within text) (λ h. omega (arith, string_has_quotes text h, length-take-le (string_len text) text (string_within text))) e6))
    (of_form text shapes.Integer (integer_len text) _ piece (integer_within text) (integer_is_numeral text) e5))
    (of_form text shapes.Real (real_len text) _ piece (real_within text) (λ h. tt) e4))
    (of_form text shapes.Word (word_len text) _ piece (word_within text) (λ h. tt) e3))
    (of_form text shapes.Gap (comment_len text) _ piece (comment_within text) (λ h. tt) e2))
    (of_form text shapes.Gap (prefix_len is_space text) _ piece (prefix_len-le-length is_space text) (λ h. tt) e)
