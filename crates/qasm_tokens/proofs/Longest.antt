-- The piece at the front of a text is the longest match.
use Rattle.std.proofs.Common.{◌≡◌, ℕ, ◌<◌, ◌≤◌, Bool, true, false, cond, List, [], ◌∷◌, ◌++◌, length, take, drop, Some, None, refl, sym, ap, subst, ◌∙◌, arith, ◌⊎◌, ⊎_elim, inl, inr, Option, nat_lt, nat_le, codes, length-append, append_assoc, append-nil, ◌||◌, MatchOption}
use Rattle.std.specs.Prelude.{◌==◌}
use Rattle.std.specs.Option.{option_map}
use Rattle.std.specs.Char.{is_ascii_digit, is_ascii_alphabetic}
use Rattle.std.specs.List.{prefix_len}
use Rattle.std.proofs.lemmas.Grind.{common_steps}
use Rattle.std.proofs.lemmas.Bool.{eqb-true, lt-ltb, cases_lt}
use Rattle.std.proofs.lemmas.List.{take_at, take-append-drop, length-take-le}
use Rattle.qasm_tokens.specs.declared.token.Sign.{Sign}
use Rattle.qasm_tokens.specs.declared.token.Sign.TheVariants.{Semicolon, Comma, LeftParenthesis, RightParenthesis, LeftBracket, RightBracket, LeftBrace, RightBrace, Plus, Minus, Star, Slash, Caret, Arrow, Equals}
use Rattle.qasm_tokens.specs.declared.piece.Shape.{Shape}
use Rattle.qasm_tokens.specs.declared.piece.Shape.TheVariants as shapes
use Rattle.qasm_tokens.specs.declared.piece.Piece.{Piece}
use Rattle.qasm_tokens.specs.Pieces.{begins, is_space, comment_len, word_len, integer_len, real_len, string_len, sign_of_byte, sign_piece, piece_of_length, ◌or◌, piece_of}
use Rattle.circuit_core.specs.Reals.{Each, IsReal}
use Rattle.qasm_tokens.specs.TokenForms.{IsSpace, IsComment, IsWord, IsInteger, IsString, HasForm, sign_text, IsLongest, HasNoForm}
use Rattle.qasm_tokens.proofs.Pieces.{piece_stands, begins_is, begins_within, chosen, either_piece, of_length}
use Rattle.qasm_tokens.proofs.TokenForms.{Front, two_first, real_covers, integer_digits, digits_no_real, run_at_least, space_front, word_front, word_at_least, integer_front, integer_at_least, comment_front, comment_at_least, string_front, string_at_least, real_front, real_at_least}

-- the forms that a text may have by its first byte: 1 white space, 2 word, 3 number, 4 string, 5 comment or sign
class_of : ℕ → ℕ
class_of b = cond (nat_le b 32) 1 (cond (is_ascii_alphabetic b) 2 (cond (is_ascii_digit b || (b == 46)) 3 (cond (b == 34) 4 5)))

first_class : List ℕ → ℕ
first_class [] = 0
first_class (b ∷ text) = class_of b

space_class : (b : ℕ) → is_space b ≡ true → class_of b ≡ 1
unfolding class_of
space_class b e = grind (arith, common_steps, e)

letter_class : (b : ℕ) → is_ascii_alphabetic b ≡ true → class_of b ≡ 2
unfolding class_of
letter_class b e = grind (arith, common_steps, e)

digit_class : (b : ℕ) → is_ascii_digit b ≡ true → class_of b ≡ 3
unfolding class_of
digit_class b e = grind (arith, common_steps, e)

high_class : (b : ℕ) → 49 ≤ b → b ≤ 57 → class_of b ≡ 3
unfolding class_of
high_class b low high = grind (arith, common_steps, low, high)

-- the class of a shape's first byte, comments apart
shape_class : Shape → ℕ
shape_class shapes.Gap = 1
shape_class shapes.Word = 2
shape_class shapes.Integer = 3
shape_class shapes.Real = 3
shape_class shapes.Text = 4
shape_class (shapes.Sign sign) = 5

sign_class : (sign : Sign) → first_class (sign_text sign) ≡ 5
unfolding class_of first_class
sign_class Semicolon = refl
sign_class Comma = refl
sign_class LeftParenthesis = refl
sign_class RightParenthesis = refl
sign_class LeftBracket = refl
sign_class RightBracket = refl
sign_class LeftBrace = refl
sign_class RightBrace = refl
sign_class Plus = refl
sign_class Minus = refl
sign_class Star = refl
sign_class Slash = refl
sign_class Caret = refl
sign_class Arrow = refl
sign_class Equals = refl

sign_short : (sign : Sign) → (0 < length (sign_text sign)) × (length (sign_text sign) ≤ 2)
sign_short Semicolon = (omega arith, omega arith)
sign_short Comma = (omega arith, omega arith)
sign_short LeftParenthesis = (omega arith, omega arith)
sign_short RightParenthesis = (omega arith, omega arith)
sign_short LeftBracket = (omega arith, omega arith)
sign_short RightBracket = (omega arith, omega arith)
sign_short LeftBrace = (omega arith, omega arith)
sign_short RightBrace = (omega arith, omega arith)
sign_short Plus = (omega arith, omega arith)
sign_short Minus = (omega arith, omega arith)
sign_short Star = (omega arith, omega arith)
sign_short Slash = (omega arith, omega arith)
sign_short Caret = (omega arith, omega arith)
sign_short Arrow = (omega arith, omega arith)
sign_short Equals = (omega arith, omega arith)

-- the sign of one byte is spelled so
sign_step : (b k : ℕ) (found : Sign) (rest : Option Sign) (sign : Sign) → sign_text found ≡ k ∷ [] → (rest ≡ Some sign → sign_text sign ≡ b ∷ []) → cond (b == k) (Some found) rest ≡ Some sign → sign_text sign ≡ b ∷ []
sign_step b k found rest sign spelled later e = elim (chosen (b == k) (Some found) rest (Some sign) e) [
  | inl h ↦ let q : found ≡ sign = cc (h.1) in ap sign_text (sym q) ∙ spelled ∙ ap (λ (c : ℕ). c ∷ []) (sym (eqb-true b k h.0))
  | inr h ↦ later h.1
]

sign_byte : (b : ℕ) (sign : Sign) → sign_of_byte b ≡ Some sign → sign_text sign ≡ b ∷ []
unfolding sign_of_byte
sign_byte b sign =
    sign_step b 59 Semicolon _ sign refl (sign_step b 44 Comma _ sign refl (sign_step b 40 LeftParenthesis _ sign refl (sign_step b 41 RightParenthesis _ sign refl
    (sign_step b 91 LeftBracket _ sign refl (sign_step b 93 RightBracket _ sign refl (sign_step b 123 LeftBrace _ sign refl (sign_step b 125 RightBrace _ sign refl
    (sign_step b 43 Plus _ sign refl (sign_step b 45 Minus _ sign refl (sign_step b 42 Star _ sign refl (sign_step b 47 Slash _ sign refl
    (sign_step b 94 Caret None sign refl (λ e. absurd (cc e))))))))))))))

-- the sign at the front of a text
record SignAt (text : List ℕ) (piece : Piece) : Type 0 where
  sign : Sign
  rest : List ℕ
  made : text ≡ sign_text sign ++ rest
  is : record { shape = shapes.Sign sign; length = length (sign_text sign) } ≡ piece

one_sign : (b : ℕ) (text : List ℕ) (found : Option Sign) (piece : Piece) → ((sign : Sign) → found ≡ Some sign → sign_text sign ≡ b ∷ []) → option_map (λ s. let p : Piece = record { shape = shapes.Sign s; length = 1 } in p) found ≡ Some piece → SignAt (b ∷ text) piece
one_sign b text None piece spelled e = absurd (cc e)
one_sign b text (Some sign) piece spelled e =
    let is_byte = spelled sign refl in
    let one : length (sign_text sign) ≡ 1 = ap length is_byte in
    let q : record { shape = shapes.Sign sign; length = 1 } ≡ piece = cc e in
    record { sign = sign; rest = text; made = ap (λ (l : List ℕ). l ++ text) (sym is_byte); is = ap (λ (n : ℕ). let p : Piece = record { shape = shapes.Sign sign; length = n } in p) one ∙ q }

two_bytes : (sign : Sign) (text : List ℕ) (piece : Piece) → begins (sign_text sign) text ≡ true → Some (record { shape = shapes.Sign sign; length = length (sign_text sign) }) ≡ Some piece → SignAt text piece
two_bytes sign text piece h e = record {
  sign = sign;
  rest = drop (length (sign_text sign)) text;
  made = sym (take-append-drop (length (sign_text sign)) text) ∙ ap (λ (l : List ℕ). l ++ drop (length (sign_text sign)) text) (sym (begins_is (sign_text sign) text h));
  is = cc e;
}

sign_at : (text : List ℕ) (piece : Piece) → sign_piece text ≡ Some piece → SignAt text piece
unfolding sign_piece
sign_at [] piece e = absurd (cc e)
sign_at (b ∷ text) piece e =
    let arrow : Option Piece = Some (record { shape = shapes.Sign Arrow; length = 2 }) in
    let equals : Option Piece = Some (record { shape = shapes.Sign Equals; length = 2 }) in
    let one : Option Piece = option_map (λ s. record { shape = shapes.Sign s; length = 1 }) (sign_of_byte b) in
    let is_equals = begins (codes "==") (b ∷ text) in
    elim (chosen (begins (codes "->") (b ∷ text)) arrow (cond is_equals equals one) (Some piece) e) [
      | inl h ↦ two_bytes Arrow (b ∷ text) piece h.0 h.1
      | inr h ↦ elim (chosen is_equals equals one (Some piece) h.1) [
        | inl i ↦ two_bytes Equals (b ∷ text) piece i.0 i.1
        | inr i ↦ one_sign b text (sign_of_byte b) piece (sign_byte b) i.1
      ]
    ]

abbrev len_of : Option Piece → ℕ
len_of None = 0
len_of (Some piece) = piece.length

either_length : (x : Bool) (a b : Piece) → 1 ≤ a.length → 1 ≤ b.length → 1 ≤ len_of (cond x (Some a) (Some b))
either_length true a b p q = p
either_length false a b p q = q

sign_at_least : (sign : Sign) (rest : List ℕ) → length (sign_text sign) ≤ len_of (sign_piece (sign_text sign ++ rest))
unfolding sign_piece sign_of_byte
sign_at_least Semicolon rest = omega arith
sign_at_least Comma rest = omega arith
sign_at_least LeftParenthesis rest = omega arith
sign_at_least RightParenthesis rest = omega arith
sign_at_least LeftBracket rest = omega arith
sign_at_least RightBracket rest = omega arith
sign_at_least LeftBrace rest = omega arith
sign_at_least RightBrace rest = omega arith
sign_at_least Plus rest = omega arith
sign_at_least Minus rest = either_length (begins (codes "->") (45 ∷ rest)) (record { shape = shapes.Sign Arrow; length = 2 }) (record { shape = shapes.Sign Minus; length = 1 }) (omega arith) (omega arith)
sign_at_least Star rest = omega arith
sign_at_least Slash rest = omega arith
sign_at_least Caret rest = omega arith
sign_at_least Arrow rest = omega arith
sign_at_least Equals rest = omega arith

-- the first byte of each form
space_first : (xs rest : List ℕ) → IsSpace xs → first_class (xs ++ rest) ≡ 1
unfolding first_class
space_first [] rest e = absurd (omega (arith, e.0))
space_first (b ∷ xs) rest e = space_class b e.1.0

comment_first : (xs rest : List ℕ) → IsComment xs → first_class (xs ++ rest) ≡ 5
unfolding first_class class_of
comment_first xs rest e = let two = two_first 47 47 xs e.0 in rw two.1 refl

word_first : (xs rest : List ℕ) → IsWord xs → first_class (xs ++ rest) ≡ 2
unfolding first_class
word_first [] rest e = absurd e
word_first (b ∷ xs) rest e = letter_class b e.0

integer_first : (xs rest : List ℕ) → IsInteger xs → first_class (xs ++ rest) ≡ 3
unfolding first_class
integer_first [] rest e = absurd e
integer_first (b ∷ xs) rest (inl e) = ap class_of e.0 ∙ digit_class 48 refl
integer_first (b ∷ xs) rest (inr e) = high_class b e.0.0 e.0.1

point_first : (whole rest : List ℕ) → Each is_ascii_digit whole → first_class (whole ++ 46 ∷ rest) ≡ 3
unfolding first_class class_of
point_first [] rest e = refl
point_first (b ∷ whole) rest e = digit_class b e.0

digits_first : (whole rest : List ℕ) → Each is_ascii_digit whole → 0 < length whole → first_class (whole ++ rest) ≡ 3
unfolding first_class
digits_first [] rest e h = absurd (omega (arith, h))
digits_first (b ∷ whole) rest e h = digit_class b e.0

real_first : (xs rest : List ℕ) → IsReal xs → first_class (xs ++ rest) ≡ 3
real_first xs rest (inl e) = ap first_class (ap (λ (l : List ℕ). l ++ rest) e.made ∙ append_assoc e.whole (46 ∷ (e.fraction ++ e.exponent)) rest) ∙ point_first e.whole ((e.fraction ++ e.exponent) ++ rest) e.whole_digits
real_first xs rest (inr e) = ap first_class (ap (λ (l : List ℕ). l ++ rest) e.made ∙ append_assoc e.whole e.exponent rest) ∙ digits_first e.whole (e.exponent ++ rest) e.whole_digits e.some

string_first : (xs rest : List ℕ) → IsString xs → first_class (xs ++ rest) ≡ 4
unfolding first_class class_of
string_first xs rest e = rw e.1 refl

sign_first : (sign : Sign) (rest : List ℕ) → first_class (sign_text sign ++ rest) ≡ 5
unfolding first_class
sign_first Semicolon rest = sign_class Semicolon
sign_first Comma rest = sign_class Comma
sign_first LeftParenthesis rest = sign_class LeftParenthesis
sign_first RightParenthesis rest = sign_class RightParenthesis
sign_first LeftBracket rest = sign_class LeftBracket
sign_first RightBracket rest = sign_class RightBracket
sign_first LeftBrace rest = sign_class LeftBrace
sign_first RightBrace rest = sign_class RightBrace
sign_first Plus rest = sign_class Plus
sign_first Minus rest = sign_class Minus
sign_first Star rest = sign_class Star
sign_first Slash rest = sign_class Slash
sign_first Caret rest = sign_class Caret
sign_first Arrow rest = sign_class Arrow
sign_first Equals rest = sign_class Equals

-- the piece's text is of its form
weaker : {F G : List ℕ → Type 0} (n : ℕ) (text : List ℕ) → Front F n text → ((xs : List ℕ) → F xs → G xs) → Front G n text
weaker n text f h = record { front = f.front; rest = f.rest; made = f.made; form = h f.front f.form; len = f.len }

formed : (text : List ℕ) (shape : Shape) (n : ℕ) (rest : Option Piece) (piece : Piece) → (0 < n → Front (HasForm shape) n text) → (piece_of_length shape n or rest) ≡ Some piece → Front (HasForm piece.shape) piece.length text ⊎ (rest ≡ Some piece)
formed text shape n rest piece front e = elim (either_piece (piece_of_length shape n) rest piece e) [
  | inl h ↦ let m = of_length shape n piece h in
      let F : Piece → Type 0 = λ p. Front (HasForm p.shape) p.length text in
      inl (subst F m.1 (front m.0))
  | inr h ↦ inr h
]

sign_front : (text : List ℕ) (piece : Piece) → SignAt text piece → Front (HasForm piece.shape) piece.length text
sign_front text piece s =
    let F : Piece → Type 0 = λ p. Front (HasForm p.shape) p.length text in
    subst F s.is (record { front = sign_text s.sign; rest = s.rest; made = s.made; form = refl; len = refl })

piece_front : (text : List ℕ) (piece : Piece) → piece_of text ≡ Some piece → Front (HasForm piece.shape) piece.length text
unfolding piece_of
piece_front text piece e =
    ⊎_elim (λ f. f) (λ e2.
    ⊎_elim (λ f. f) (λ e3.
    ⊎_elim (λ f. f) (λ e4.
    ⊎_elim (λ f. f) (λ e5.
    ⊎_elim (λ f. f) (λ e6.
    ⊎_elim (λ f. f) (λ e7. sign_front text piece (sign_at text piece e7))
    (formed text shapes.Text (string_len text) _ piece (string_front text) e6))
    (formed text shapes.Integer (integer_len text) _ piece (integer_front text) e5))
    (formed text shapes.Real (real_len text) _ piece (real_front text) e4))
    (formed text shapes.Word (word_len text) _ piece (word_front text) e3))
    (formed text shapes.Gap (comment_len text) _ piece (λ h. weaker (comment_len text) text (comment_front text h) (λ xs c. inr c)) e2))
    (formed text shapes.Gap (prefix_len is_space text) _ piece (λ h. weaker (prefix_len is_space text) text (space_front text h) (λ xs c. inl c)) e)

-- the first length that isn't 0
abbrev first : ℕ → ℕ → ℕ
first a m = cond (nat_lt 0 a) a m

first_covers : (a m : ℕ) → a ≤ first a m
first_covers a m = grind (arith, common_steps)

first_later : (a m k : ℕ) → (0 < a → k ≤ a) → k ≤ m → k ≤ first a m
first_later a m k h l = ⊎_elim
    (λ some. rw (lt-ltb 0 a some) (h some))
    (λ none. let zero_is : a ≡ 0 = omega (arith, none) in rw zero_is l)
    (cases_lt 0 a)

length_cases : (shape : Shape) (n : ℕ) (rest : Option Piece) (d : Bool) → len_of (cond d (Some (record { shape = shape; length = n })) None or rest) ≡ cond d n (len_of rest)
length_cases shape n rest true = refl
length_cases shape n rest false = refl

length_or : (shape : Shape) (n : ℕ) (rest : Option Piece) → len_of (piece_of_length shape n or rest) ≡ first n (len_of rest)
length_or shape n rest = length_cases shape n rest (nat_lt 0 n)

piece_length : (text : List ℕ) → len_of (piece_of text) ≡ first (prefix_len is_space text) (first (comment_len text) (first (word_len text) (first (real_len text) (first (integer_len text) (first (string_len text) (len_of (sign_piece text)))))))
unfolding piece_of
piece_length text =
    length_or shapes.Gap (prefix_len is_space text) _
    ∙ ap (first (prefix_len is_space text)) (length_or shapes.Gap (comment_len text) _
    ∙ ap (first (comment_len text)) (length_or shapes.Word (word_len text) _
    ∙ ap (first (word_len text)) (length_or shapes.Real (real_len text) _
    ∙ ap (first (real_len text)) (length_or shapes.Integer (integer_len text) _
    ∙ ap (first (integer_len text)) (length_or shapes.Text (string_len text) _)))))

-- a length above 0 tells the first byte's class
front_class : {F : List ℕ → Type 0} (n c : ℕ) (text : List ℕ) → ((xs rest : List ℕ) → F xs → first_class (xs ++ rest) ≡ c) → Front F n text → first_class text ≡ c
front_class n c text h f = ap first_class f.made ∙ h f.front f.rest f.form

sign_some : (found : Option Piece) → 0 < len_of found → (piece : Piece) × (found ≡ Some piece)
sign_some None h = absurd (omega (arith, h))
sign_some (Some piece) h = (piece, refl)

sign_piece_class : (text : List ℕ) → 0 < len_of (sign_piece text) → first_class text ≡ 5
sign_piece_class text h =
    let found = sign_some (sign_piece text) h in
    let s = sign_at text found.0 found.1 in
    ap first_class s.made ∙ sign_first s.sign s.rest

sign_at_most : (text : List ℕ) → len_of (sign_piece text) ≤ 2
sign_at_most text = ⊎_elim
    (λ h.
    let found = sign_some (sign_piece text) h in
    let s = sign_at text found.0 found.1 in
    let short = sign_short s.sign in
    let same : len_of (sign_piece text) ≡ length (sign_text s.sign) = ap len_of found.1 ∙ ap (λ (p : Piece). p.length) (sym s.is) in
    omega (arith, same, short.1))
    (λ h. omega (arith, h))
    (cases_lt 0 (len_of (sign_piece text)))

-- two lengths above 0 need one class
apart : (a c i j t : ℕ) → (0 < a → t ≡ i) → (0 < c → t ≡ j) → (i ≡ j → ⊥) → 0 < a → c ≤ a
apart a c i j t p q differ h = ⊎_elim (λ some. absurd (differ (sym (p h) ∙ q some))) (λ none. omega (arith, none)) (cases_lt 0 c)

-- the piece is at least as long as each form's front
record Covers (text : List ℕ) : Type 0 where
  space : prefix_len is_space text ≤ len_of (piece_of text)
  comment : comment_len text ≤ len_of (piece_of text)
  word : word_len text ≤ len_of (piece_of text)
  real : real_len text ≤ len_of (piece_of text)
  integer : integer_len text ≤ len_of (piece_of text)
  string : string_len text ≤ len_of (piece_of text)
  sign : len_of (sign_piece text) ≤ len_of (piece_of text)

module _ (text : List ℕ) where
  space_is : 0 < prefix_len is_space text → first_class text ≡ 1
  space_is h = front_class (prefix_len is_space text) 1 text space_first (space_front text h)

  comment_is : 0 < comment_len text → first_class text ≡ 5
  comment_is h = front_class (comment_len text) 5 text comment_first (comment_front text h)

  word_is : 0 < word_len text → first_class text ≡ 2
  word_is h = front_class (word_len text) 2 text word_first (word_front text h)

  real_is : 0 < real_len text → first_class text ≡ 3
  real_is h = front_class (real_len text) 3 text real_first (real_front text h)

  integer_is : 0 < integer_len text → first_class text ≡ 3
  integer_is h = front_class (integer_len text) 3 text integer_first (integer_front text h)

  string_is : 0 < string_len text → first_class text ≡ 4
  string_is h = front_class (string_len text) 4 text string_first (string_front text h)

  sign_is : 0 < len_of (sign_piece text) → first_class text ≡ 5
  sign_is h = sign_piece_class text h

  comment_long : 0 < comment_len text → 2 ≤ comment_len text
  comment_long h = let f = comment_front text h in omega (arith, f.len, begins_within (codes "//") f.front f.form.0)

  covers : Covers text
  covers =
      let s = prefix_len is_space text in
      let c = comment_len text in
      let w = word_len text in
      let r = real_len text in
      let i = integer_len text in
      let q = string_len text in
      let g = len_of (sign_piece text) in
      let t = first_class text in
      let L = piece_length text in
      record {
        space = omega (arith, L, first_covers s (first c (first w (first r (first i (first q g))))));
        comment = omega (
          arith,
          L,
          first_later s (first c (first w (first r (first i (first q g))))) c (apart s c 1 5 t space_is comment_is (λ e. omega (arith, e)))
              (first_covers c (first w (first r (first i (first q g))))),
        );
        word = omega (
          arith,
          L,
          first_later s (first c (first w (first r (first i (first q g))))) w (apart s w 1 2 t space_is word_is (λ e. omega (arith, e)))
              (first_later c (first w (first r (first i (first q g)))) w (apart c w 5 2 t comment_is word_is (λ e. omega (arith, e)))
              (first_covers w (first r (first i (first q g))))),
        );
        real = omega (
          arith,
          L,
          first_later s (first c (first w (first r (first i (first q g))))) r (apart s r 1 3 t space_is real_is (λ e. omega (arith, e)))
              (first_later c (first w (first r (first i (first q g)))) r (apart c r 5 3 t comment_is real_is (λ e. omega (arith, e)))
              (first_later w (first r (first i (first q g))) r (apart w r 2 3 t word_is real_is (λ e. omega (arith, e)))
              (first_covers r (first i (first q g))))),
        );
        integer = omega (
          arith,
          L,
          first_later s (first c (first w (first r (first i (first q g))))) i (apart s i 1 3 t space_is integer_is (λ e. omega (arith, e)))
              (first_later c (first w (first r (first i (first q g)))) i (apart c i 5 3 t comment_is integer_is (λ e. omega (arith, e)))
              (first_later w (first r (first i (first q g))) i (apart w i 2 3 t word_is integer_is (λ e. omega (arith, e)))
              (first_later r (first i (first q g)) i (λ h. omega (arith, real_covers text h, integer_digits text))
              (first_covers i (first q g))))),
        );
        string = omega (
          arith,
          L,
          first_later s (first c (first w (first r (first i (first q g))))) q (apart s q 1 4 t space_is string_is (λ e. omega (arith, e)))
              (first_later c (first w (first r (first i (first q g)))) q (apart c q 5 4 t comment_is string_is (λ e. omega (arith, e)))
              (first_later w (first r (first i (first q g))) q (apart w q 2 4 t word_is string_is (λ e. omega (arith, e)))
              (first_later r (first i (first q g)) q (apart r q 3 4 t real_is string_is (λ e. omega (arith, e)))
              (first_later i (first q g) q (apart i q 3 4 t integer_is string_is (λ e. omega (arith, e)))
              (first_covers q g))))),
        );
        sign = omega (
          arith,
          L,
          first_later s (first c (first w (first r (first i (first q g))))) g (apart s g 1 5 t space_is sign_is (λ e. omega (arith, e)))
              (first_later c (first w (first r (first i (first q g)))) g (λ h. omega (arith, comment_long h, sign_at_most text))
              (first_later w (first r (first i (first q g))) g (apart w g 2 5 t word_is sign_is (λ e. omega (arith, e)))
              (first_later r (first i (first q g)) g (apart r g 3 5 t real_is sign_is (λ e. omega (arith, e)))
              (first_later i (first q g) g (apart i g 3 5 t integer_is sign_is (λ e. omega (arith, e)))
              (first_later q g g (apart q g 4 5 t string_is sign_is (λ e. omega (arith, e)))
              (let same : g ≤ g = omega arith in same)))))),
        );
      }

-- no front of any form is longer than the piece
at_most : (shape : Shape) (xs rest : List ℕ) → HasForm shape xs → length xs ≤ len_of (piece_of (xs ++ rest))
at_most shapes.Gap xs rest (inl e) = omega (arith, run_at_least is_space xs rest e.1, (covers (xs ++ rest)).space)
at_most shapes.Gap xs rest (inr e) = omega (arith, comment_at_least xs rest e, (covers (xs ++ rest)).comment)
at_most shapes.Word xs rest e = omega (arith, word_at_least xs rest e, (covers (xs ++ rest)).word)
at_most shapes.Integer xs rest e = omega (arith, integer_at_least xs rest e, (covers (xs ++ rest)).integer)
at_most shapes.Real xs rest e = omega (arith, real_at_least xs rest e, (covers (xs ++ rest)).real)
at_most shapes.Text xs rest e = omega (arith, string_at_least xs rest e, (covers (xs ++ rest)).string)
at_most (shapes.Sign sign) xs rest e =
    let F : List ℕ → Type 0 = λ l. length l ≤ len_of (piece_of (l ++ rest)) in
    subst F (sym e) (omega (arith, sign_at_least sign rest, (covers (sign_text sign ++ rest)).sign))

real_some : (xs : List ℕ) → IsReal xs → 0 < length xs
real_some xs (inl e) = omega (arith, ap length e.made, length-append e.whole (46 ∷ (e.fraction ++ e.exponent)))
real_some xs (inr e) = omega (arith, ap length e.made, length-append e.whole e.exponent, e.some)

integer_some : (xs : List ℕ) → IsInteger xs → 0 < length xs
integer_some [] e = absurd e
integer_some (b ∷ xs) e = omega arith

word_some : (xs : List ℕ) → IsWord xs → 0 < length xs
word_some [] e = absurd e
word_some (b ∷ xs) e = omega arith

-- a form has a byte at least
form_some : (shape : Shape) (xs : List ℕ) → HasForm shape xs → 0 < length xs
form_some shapes.Gap xs (inl e) = e.0
form_some shapes.Gap xs (inr e) = omega (arith, begins_within (codes "//") xs e.0)
form_some shapes.Word xs e = word_some xs e
form_some shapes.Integer xs e = integer_some xs e
form_some shapes.Real xs e = real_some xs e
form_some shapes.Text xs e = omega (arith, ap length e.1)
form_some (shapes.Sign sign) xs e = omega (arith, ap length e, (sign_short sign).0)

longest_cases : (text : List ℕ) (found : Option Piece) → piece_of text ≡ found → MatchOption found (HasNoForm text) (λ piece. IsLongest text piece)
longest_cases text None e = λ front rest shape made form.
    let some = form_some shape front form in
    let most = at_most shape front rest form in
    let none : len_of (piece_of (front ++ rest)) ≡ 0 = ap (λ (l : List ℕ). len_of (piece_of l)) (sym made) ∙ ap len_of e in
    absurd (omega (arith, some, most, none))
longest_cases text (Some piece) e =
    let f = piece_front text piece e in
    let stands = piece_stands text piece e in
    let same : take piece.length text ≡ f.front = ap (take piece.length) f.made ∙ take_at f.front f.rest piece.length f.len in
    record {
      within = stands.within;
      form = subst (HasForm piece.shape) (sym same) f.form;
      longest = λ front rest shape made form.
          let most = at_most shape front rest form in
          let len : len_of (piece_of (front ++ rest)) ≡ piece.length = ap (λ (l : List ℕ). len_of (piece_of l)) (sym made) ∙ ap len_of e in
          omega (arith, most, len);
    }

pub longest_match : (text : List ℕ) → MatchOption (piece_of text) (HasNoForm text) (λ piece. IsLongest text piece)
longest_match text = longest_cases text (piece_of text) refl

-- a text has one form at most
no_comment_sign : (sign : Sign) → begins (codes "//") (sign_text sign) ≡ false
no_comment_sign Semicolon = refl
no_comment_sign Comma = refl
no_comment_sign LeftParenthesis = refl
no_comment_sign RightParenthesis = refl
no_comment_sign LeftBracket = refl
no_comment_sign RightBracket = refl
no_comment_sign LeftBrace = refl
no_comment_sign RightBrace = refl
no_comment_sign Plus = refl
no_comment_sign Minus = refl
no_comment_sign Star = refl
no_comment_sign Slash = refl
no_comment_sign Caret = refl
no_comment_sign Arrow = refl
no_comment_sign Equals = refl

abbrev shape_found : Option Piece → Shape
shape_found None = shapes.Gap
shape_found (Some piece) = piece.shape

sign_again : (sign : Sign) → shape_found (sign_piece (sign_text sign)) ≡ shapes.Sign sign
unfolding sign_piece sign_of_byte
sign_again Semicolon = refl
sign_again Comma = refl
sign_again LeftParenthesis = refl
sign_again RightParenthesis = refl
sign_again LeftBracket = refl
sign_again RightBracket = refl
sign_again LeftBrace = refl
sign_again RightBrace = refl
sign_again Plus = refl
sign_again Minus = refl
sign_again Star = refl
sign_again Slash = refl
sign_again Caret = refl
sign_again Arrow = refl
sign_again Equals = refl

one_sign_text : (a b : Sign) (xs : List ℕ) → xs ≡ sign_text a → xs ≡ sign_text b → shapes.Sign a ≡ shapes.Sign b
one_sign_text a b xs p q = sym (sign_again a) ∙ ap (λ (l : List ℕ). shape_found (sign_piece l)) (sym p ∙ q) ∙ sign_again b

integer_each : (xs : List ℕ) → IsInteger xs → Each is_ascii_digit xs
integer_each [] e = tt
integer_each (b ∷ xs) (inl e) = let digit : is_ascii_digit b ≡ true = ap is_ascii_digit e.0 in (digit, subst (Each is_ascii_digit) (sym e.1) tt)
integer_each (b ∷ xs) (inr e) = let digit : is_ascii_digit b ≡ true = grind (arith, common_steps, e.0.0, e.0.1) in (digit, e.1)

integer_no_real : (xs : List ℕ) → IsInteger xs → IsReal xs → ⊥
integer_no_real xs i r =
    let most = real_at_least xs [] r in
    let same : xs ++ [] ≡ xs = append-nil xs in
    omega (arith, most, ap real_len same, digits_no_real xs (integer_each xs i), real_some xs r)

comment_no_sign : (xs : List ℕ) (sign : Sign) → IsComment xs → xs ≡ sign_text sign → ⊥
comment_no_sign xs sign c e = let f : false ≡ true = sym (no_comment_sign sign) ∙ ap (begins (codes "//")) (sym e) ∙ c.0 in absurd (cc f)

at_end : (xs : List ℕ) (c : ℕ) → first_class (xs ++ []) ≡ c → first_class xs ≡ c
at_end xs c e = ap first_class (sym (append-nil xs)) ∙ e

gap_class : (xs : List ℕ) → HasForm shapes.Gap xs → (first_class xs ≡ 1) ⊎ IsComment xs
gap_class xs (inl e) = inl (at_end xs 1 (space_first xs [] e))
gap_class xs (inr e) = inr e

comment_class : (xs : List ℕ) → IsComment xs → first_class xs ≡ 5
comment_class xs e = at_end xs 5 (comment_first xs [] e)

-- the classes of shapes but gaps
class_is : (shape : Shape) (xs : List ℕ) → HasForm shape xs → (shape_class shape ≡ 1) ⊎ (first_class xs ≡ shape_class shape)
unfolding shape_class
class_is shapes.Gap xs e = inl refl
class_is shapes.Word xs e = inr (at_end xs 2 (word_first xs [] e))
class_is shapes.Integer xs e = inr (at_end xs 3 (integer_first xs [] e))
class_is shapes.Real xs e = inr (at_end xs 3 (real_first xs [] e))
class_is shapes.Text xs e = inr (at_end xs 4 (string_first xs [] e))
class_is (shapes.Sign sign) xs e = inr (ap first_class e ∙ sign_class sign)

clash : (a b : Shape) (xs : List ℕ) → HasForm a xs → HasForm b xs → (shape_class a ≡ 1 → ⊥) → (shape_class b ≡ 1 → ⊥) → (shape_class a ≡ shape_class b → ⊥) → ⊥
clash a b xs p q na nb differ = ⊎_elim (λ gap. na gap) (λ ca. ⊎_elim (λ gap. nb gap) (λ cb. differ (sym ca ∙ cb)) (class_is b xs q)) (class_is a xs p)

gap_clash : (b : Shape) (xs : List ℕ) → HasForm shapes.Gap xs → HasForm b xs → (shape_class b ≡ 1 → ⊥) → (shape_class b ≡ 5 → ⊥) → ⊥
gap_clash b xs p q nb sb = ⊎_elim (λ gap. nb gap) (λ cb.
    ⊎_elim (λ space. nb (sym cb ∙ space)) (λ comment. sb (sym cb ∙ comment_class xs comment)) (gap_class xs p)) (class_is b xs q)

gap_no_sign : (sign : Sign) (xs : List ℕ) → HasForm shapes.Gap xs → xs ≡ sign_text sign → ⊥
gap_no_sign sign xs p q = ⊎_elim
    (λ space. let c : first_class xs ≡ 5 = ap first_class q ∙ sign_class sign in omega (arith, space, c))
    (λ comment. comment_no_sign xs sign comment q)
    (gap_class xs p)

one_shape : (a b : Shape) (xs : List ℕ) → HasForm a xs → HasForm b xs → a ≡ b
unfolding shape_class
one_shape shapes.Gap shapes.Gap xs p q = refl
one_shape shapes.Gap shapes.Word xs p q = absurd (gap_clash shapes.Word xs p q (λ e. omega (arith, e)) (λ e. omega (arith, e)))
one_shape shapes.Gap shapes.Integer xs p q = absurd (gap_clash shapes.Integer xs p q (λ e. omega (arith, e)) (λ e. omega (arith, e)))
one_shape shapes.Gap shapes.Real xs p q = absurd (gap_clash shapes.Real xs p q (λ e. omega (arith, e)) (λ e. omega (arith, e)))
one_shape shapes.Gap shapes.Text xs p q = absurd (gap_clash shapes.Text xs p q (λ e. omega (arith, e)) (λ e. omega (arith, e)))
one_shape shapes.Gap (shapes.Sign t) xs p q = absurd (gap_no_sign t xs p q)
one_shape shapes.Word shapes.Gap xs p q = absurd (gap_clash shapes.Word xs q p (λ e. omega (arith, e)) (λ e. omega (arith, e)))
one_shape shapes.Word shapes.Word xs p q = refl
one_shape shapes.Word shapes.Integer xs p q = absurd (clash shapes.Word shapes.Integer xs p q (λ e. omega (arith, e)) (λ e. omega (arith, e)) (λ e. omega (arith, e)))
one_shape shapes.Word shapes.Real xs p q = absurd (clash shapes.Word shapes.Real xs p q (λ e. omega (arith, e)) (λ e. omega (arith, e)) (λ e. omega (arith, e)))
one_shape shapes.Word shapes.Text xs p q = absurd (clash shapes.Word shapes.Text xs p q (λ e. omega (arith, e)) (λ e. omega (arith, e)) (λ e. omega (arith, e)))
one_shape shapes.Word (shapes.Sign t) xs p q = absurd (clash shapes.Word (shapes.Sign t) xs p q (λ e. omega (arith, e)) (λ e. omega (arith, e)) (λ e. omega (arith, e)))
one_shape shapes.Integer shapes.Gap xs p q = absurd (gap_clash shapes.Integer xs q p (λ e. omega (arith, e)) (λ e. omega (arith, e)))
one_shape shapes.Integer shapes.Word xs p q = absurd (clash shapes.Integer shapes.Word xs p q (λ e. omega (arith, e)) (λ e. omega (arith, e)) (λ e. omega (arith, e)))
one_shape shapes.Integer shapes.Integer xs p q = refl
one_shape shapes.Integer shapes.Real xs p q = absurd (integer_no_real xs p q)
one_shape shapes.Integer shapes.Text xs p q = absurd (clash shapes.Integer shapes.Text xs p q (λ e. omega (arith, e)) (λ e. omega (arith, e)) (λ e. omega (arith, e)))
one_shape shapes.Integer (shapes.Sign t) xs p q = absurd (clash shapes.Integer (shapes.Sign t) xs p q (λ e. omega (arith, e)) (λ e. omega (arith, e)) (λ e. omega (arith, e)))
one_shape shapes.Real shapes.Gap xs p q = absurd (gap_clash shapes.Real xs q p (λ e. omega (arith, e)) (λ e. omega (arith, e)))
one_shape shapes.Real shapes.Word xs p q = absurd (clash shapes.Real shapes.Word xs p q (λ e. omega (arith, e)) (λ e. omega (arith, e)) (λ e. omega (arith, e)))
one_shape shapes.Real shapes.Integer xs p q = absurd (integer_no_real xs q p)
one_shape shapes.Real shapes.Real xs p q = refl
one_shape shapes.Real shapes.Text xs p q = absurd (clash shapes.Real shapes.Text xs p q (λ e. omega (arith, e)) (λ e. omega (arith, e)) (λ e. omega (arith, e)))
one_shape shapes.Real (shapes.Sign t) xs p q = absurd (clash shapes.Real (shapes.Sign t) xs p q (λ e. omega (arith, e)) (λ e. omega (arith, e)) (λ e. omega (arith, e)))
one_shape shapes.Text shapes.Gap xs p q = absurd (gap_clash shapes.Text xs q p (λ e. omega (arith, e)) (λ e. omega (arith, e)))
one_shape shapes.Text shapes.Word xs p q = absurd (clash shapes.Text shapes.Word xs p q (λ e. omega (arith, e)) (λ e. omega (arith, e)) (λ e. omega (arith, e)))
one_shape shapes.Text shapes.Integer xs p q = absurd (clash shapes.Text shapes.Integer xs p q (λ e. omega (arith, e)) (λ e. omega (arith, e)) (λ e. omega (arith, e)))
one_shape shapes.Text shapes.Real xs p q = absurd (clash shapes.Text shapes.Real xs p q (λ e. omega (arith, e)) (λ e. omega (arith, e)) (λ e. omega (arith, e)))
one_shape shapes.Text shapes.Text xs p q = refl
one_shape shapes.Text (shapes.Sign t) xs p q = absurd (clash shapes.Text (shapes.Sign t) xs p q (λ e. omega (arith, e)) (λ e. omega (arith, e)) (λ e. omega (arith, e)))
one_shape (shapes.Sign s) shapes.Gap xs p q = absurd (gap_no_sign s xs q p)
one_shape (shapes.Sign s) shapes.Word xs p q = absurd (clash (shapes.Sign s) shapes.Word xs p q (λ e. omega (arith, e)) (λ e. omega (arith, e)) (λ e. omega (arith, e)))
one_shape (shapes.Sign s) shapes.Integer xs p q = absurd (clash (shapes.Sign s) shapes.Integer xs p q (λ e. omega (arith, e)) (λ e. omega (arith, e)) (λ e. omega (arith, e)))
one_shape (shapes.Sign s) shapes.Real xs p q = absurd (clash (shapes.Sign s) shapes.Real xs p q (λ e. omega (arith, e)) (λ e. omega (arith, e)) (λ e. omega (arith, e)))
one_shape (shapes.Sign s) shapes.Text xs p q = absurd (clash (shapes.Sign s) shapes.Text xs p q (λ e. omega (arith, e)) (λ e. omega (arith, e)) (λ e. omega (arith, e)))
one_shape (shapes.Sign s) (shapes.Sign t) xs p q = one_sign_text s t xs p q

one_longest : (text : List ℕ) (a b : Piece) → IsLongest text a → IsLongest text b → a ≡ b
one_longest text a b p q =
    let as_long = q.longest (take a.length text) (drop a.length text) a.shape (sym (take-append-drop a.length text)) p.form in
    let no_longer = p.longest (take b.length text) (drop b.length text) b.shape (sym (take-append-drop b.length text)) q.form in
    let same : a.length ≡ b.length = omega (arith, as_long, no_longer, length-take-le a.length text p.within, length-take-le b.length text q.within) in
    let form : HasForm b.shape (take a.length text) = subst (λ (n : ℕ). HasForm b.shape (take n text)) (sym same) q.form in
    let shape = one_shape a.shape b.shape (take a.length text) p.form form in
    ap (λ (s : Shape). let r : Piece = record { shape = s; length = a.length } in r) shape ∙ ap (λ (n : ℕ). let r : Piece = record { shape = b.shape; length = n } in r) same

only_cases : (text : List ℕ) (piece : Piece) (found : Option Piece) → MatchOption found (HasNoForm text) (λ q. IsLongest text q) → IsLongest text piece → found ≡ Some piece
only_cases text piece None h l = absurd (h (take piece.length text) (drop piece.length text) piece.shape (sym (take-append-drop piece.length text)) l.form)
only_cases text piece (Some q) h l = ap (λ (r : Piece). Some r) (one_longest text q piece h l)

-- there is one longest match at most
pub only_longest : (text : List ℕ) (piece : Piece) → IsLongest text piece → piece_of text ≡ Some piece
only_longest text piece l = only_cases text piece (piece_of text) (longest_match text) l
