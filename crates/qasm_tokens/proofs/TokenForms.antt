-- Each length is that of the longest front of its form.
use Rattle.std.proofs.Common.{◌≡◌, ℕ, ◌+◌, ◌<◌, ◌≤◌, Bool, true, false, cond, List, [], ◌∷◌, ◌++◌, length, drop, refl, sym, ap, subst, ◌∙◌, arith, ◌⊎◌, ⊎_elim, inl, inr, nat_lt, codes, length-append, append_assoc, ◌&&◌, ◌||◌}
use Rattle.std.specs.Prelude.{◌==◌}
use Rattle.std.specs.Char.{is_ascii_digit, is_ascii_alphabetic}
use Rattle.std.specs.Int.{IsInRange}
use Rattle.std.specs.List.{prefix_len}
use Rattle.std.proofs.lemmas.Grind.{common_steps}
use Rattle.std.proofs.lemmas.Bool.{eqb-true, ltb-true, lt-ltb, cases_lt}
use Rattle.std.proofs.lemmas.List.{drop_at, drop_all, take-append-drop, append-nil}
use Rattle.qasm_tokens.specs.Pieces.{begins, is_space, is_word_byte, is_string_byte, is_comment_byte, comment_len, word_len, integer_len, sign_len, exponent_len, fraction_len, real_len, string_len}
use Rattle.circuit_core.specs.Reals.{Each, IsExponent, IsReal}
use Rattle.qasm_tokens.specs.TokenForms.{IsSpace, IsComment, IsWord, IsInteger, IsString}
use Rattle.qasm_tokens.proofs.Pieces.{begins_is}

-- a front of that form and length
pub record Front (F : List ℕ → Type 0) (n : ℕ) (text : List ℕ) : Type 0 where
  pub front : List ℕ
  pub rest : List ℕ
  pub made : text ≡ front ++ rest
  pub form : F front
  pub len : length front ≡ n

-- runs
run_more : (p : ℕ → Bool) (b : ℕ) (text : List ℕ) (d : Bool) → p b ≡ d → Front (Each p) (prefix_len p text) text → Front (Each p) (cond d (1 + prefix_len p text) 0) (b ∷ text)
run_more p b text true e f = record { front = b ∷ f.front; rest = f.rest; made = ap (λ (l : List ℕ). b ∷ l) f.made; form = (e, f.form); len = omega (arith, f.len) }
run_more p b text false e f = record { front = []; rest = b ∷ text; made = refl; form = tt; len = refl }

pub run_front : (p : ℕ → Bool) (text : List ℕ) → Front (Each p) (prefix_len p text) text
run_front p [] = record { front = []; rest = []; made = refl; form = tt; len = refl }
run_front p (b ∷ text) = run_more p b text (p b) refl (run_front p text)

pub run_at_least : (p : ℕ → Bool) (xs rest : List ℕ) → Each p xs → length xs ≤ prefix_len p (xs ++ rest)
run_at_least p [] rest e = omega arith
run_at_least p (b ∷ xs) rest e = let passes : p b ≡ true = e.0 in rw passes (omega (arith, run_at_least p xs rest e.1))

pub run_stops : (p : ℕ → Bool) (xs : List ℕ) (b : ℕ) (rest : List ℕ) → Each p xs → p b ≡ false → prefix_len p (xs ++ b ∷ rest) ≡ length xs
run_stops p [] b rest e stops = rw stops refl
run_stops p (x ∷ xs) b rest e stops = let passes : p x ≡ true = e.0 in rw passes (omega (arith, run_stops p xs b rest e.1 stops))

-- white space
pub space_front : (text : List ℕ) → 0 < prefix_len is_space text → Front IsSpace (prefix_len is_space text) text
space_front text h = let f = run_front is_space text in record { front = f.front; rest = f.rest; made = f.made; form = (omega (arith, h, f.len), f.form); len = f.len }

-- words
letter_in_word : (b : ℕ) → is_ascii_alphabetic b ≡ true → is_word_byte b ≡ true
letter_in_word b e = grind (arith, common_steps, e)

word_cases : (b : ℕ) (text : List ℕ) (d : Bool) → is_ascii_alphabetic b ≡ d → 0 < cond d (prefix_len is_word_byte (b ∷ text)) 0 → Front IsWord (cond d (prefix_len is_word_byte (b ∷ text)) 0) (b ∷ text)
word_cases b text false e h = absurd (omega (arith, h))
word_cases b text true e h =
    let f = run_front is_word_byte text in
    record { front = b ∷ f.front; rest = f.rest; made = ap (λ (l : List ℕ). b ∷ l) f.made; form = (e, f.form); len = rw (letter_in_word b e) (omega (arith, f.len)) }

pub word_front : (text : List ℕ) → 0 < word_len text → Front IsWord (word_len text) text
unfolding word_len
word_front [] h = absurd (omega (arith, h))
word_front (b ∷ text) h = word_cases b text (is_ascii_alphabetic b) refl h

pub word_at_least : (xs rest : List ℕ) → IsWord xs → length xs ≤ word_len (xs ++ rest)
unfolding word_len
word_at_least [] rest e = absurd e
word_at_least (b ∷ xs) rest e =
    let letter : is_ascii_alphabetic b ≡ true = e.0 in
    rw (letter, letter_in_word b letter) (omega (arith, run_at_least is_word_byte xs rest e.1))

-- integers
not_zero : (b : ℕ) → (b == 48) ≡ false → is_ascii_digit b ≡ true → IsInRange 49 57 b
not_zero b z d = (grind (arith, common_steps, z, d), grind (arith, common_steps, z, d))

digits_cases : (b : ℕ) (text : List ℕ) (d : Bool) → (b == 48) ≡ false → is_ascii_digit b ≡ d → 0 < cond d (1 + prefix_len is_ascii_digit text) 0 → Front IsInteger (cond d (1 + prefix_len is_ascii_digit text) 0) (b ∷ text)
digits_cases b text false z e h = absurd (omega (arith, h))
digits_cases b text true z e h =
    let f = run_front is_ascii_digit text in
    record { front = b ∷ f.front; rest = f.rest; made = ap (λ (l : List ℕ). b ∷ l) f.made; form = inr (not_zero b z e, f.form); len = omega (arith, f.len) }

integer_cases : (b : ℕ) (text : List ℕ) (z : Bool) → (b == 48) ≡ z → 0 < cond z 1 (prefix_len is_ascii_digit (b ∷ text)) → Front IsInteger (cond z 1 (prefix_len is_ascii_digit (b ∷ text))) (b ∷ text)
integer_cases b text true e h = record { front = b ∷ []; rest = text; made = refl; form = inl (eqb-true b 48 e, refl); len = refl }
integer_cases b text false e h = digits_cases b text (is_ascii_digit b) e refl h

pub integer_front : (text : List ℕ) → 0 < integer_len text → Front IsInteger (integer_len text) text
unfolding integer_len
integer_front [] h = absurd (omega (arith, h))
integer_front (b ∷ text) h = integer_cases b text (b == 48) refl h

high_digit : (b : ℕ) → IsInRange 49 57 b → (is_ascii_digit b ≡ true) × ((b == 48) ≡ false)
high_digit b r = (grind (arith, common_steps, r.0, r.1), grind (arith, common_steps, r.0, r.1))

pub integer_at_least : (xs rest : List ℕ) → IsInteger xs → length xs ≤ integer_len (xs ++ rest)
unfolding integer_len
integer_at_least [] rest e = absurd e
integer_at_least (b ∷ xs) rest (inl e) = let is_zero : (b == 48) ≡ true = grind (arith, common_steps, e.0) in rw (is_zero, e.1) (omega arith)
integer_at_least (b ∷ xs) rest (inr e) =
    let facts = high_digit b e.0 in
    rw (facts.1, facts.0) (omega (arith, run_at_least is_ascii_digit xs rest e.1))

-- comments
pub two_first : (x y : ℕ) (text : List ℕ) → begins (x ∷ y ∷ []) text ≡ true → (rest : List ℕ) × (text ≡ x ∷ y ∷ rest)
two_first x y text e = (drop 2 text, sym (take-append-drop 2 text) ∙ ap (λ (l : List ℕ). l ++ drop 2 text) (sym (begins_is (x ∷ y ∷ []) text e)))

slashes_front : (rest : List ℕ) → Front IsComment (prefix_len is_comment_byte (47 ∷ 47 ∷ rest)) (47 ∷ 47 ∷ rest)
slashes_front rest =
    let f = run_front is_comment_byte rest in
    record { front = 47 ∷ 47 ∷ f.front; rest = f.rest; made = ap (λ (l : List ℕ). 47 ∷ 47 ∷ l) f.made; form = (refl, (refl, (refl, f.form))); len = omega (arith, f.len) }

comment_cases : (text : List ℕ) (d : Bool) → begins (codes "//") text ≡ d → 0 < cond d (prefix_len is_comment_byte text) 0 → Front IsComment (cond d (prefix_len is_comment_byte text) 0) text
comment_cases text false e h = absurd (omega (arith, h))
comment_cases text true e h =
    let two = two_first 47 47 text e in
    let F : List ℕ → Type 0 = λ l. Front IsComment (prefix_len is_comment_byte l) l in
    subst F (sym two.1) (slashes_front two.0)

pub comment_front : (text : List ℕ) → 0 < comment_len text → Front IsComment (comment_len text) text
unfolding comment_len
comment_front text h = comment_cases text (begins (codes "//") text) refl h

begins_more : (x y : ℕ) (xs rest : List ℕ) → begins (x ∷ y ∷ []) xs ≡ true → begins (x ∷ y ∷ []) (xs ++ rest) ≡ true
begins_more x y [] rest e = absurd (cc e)
begins_more x y (a ∷ []) rest e = absurd (grind (arith, common_steps, ap length (begins_is (x ∷ y ∷ []) (a ∷ []) e)))
begins_more x y (a ∷ b ∷ xs) rest e = e

pub comment_at_least : (xs rest : List ℕ) → IsComment xs → length xs ≤ comment_len (xs ++ rest)
unfolding comment_len
comment_at_least xs rest e = rw (begins_more 47 47 xs rest e.0) (run_at_least is_comment_byte xs rest e.1)

-- strings
quote_front : (text : List ℕ) → begins (34 ∷ []) (drop (prefix_len is_string_byte text) text) ≡ true → Front IsString (prefix_len is_string_byte text + 2) (34 ∷ text)
quote_front text e =
    let f = run_front is_string_byte text in
    let after : drop (prefix_len is_string_byte text) text ≡ f.rest = ap (λ (l : List ℕ). drop (prefix_len is_string_byte text) l) f.made ∙ drop_at f.front f.rest (prefix_len is_string_byte text) f.len in
    let starts : begins (34 ∷ []) f.rest ≡ true = ap (begins (34 ∷ [])) (sym after) ∙ e in
    let quote : f.rest ≡ 34 ∷ drop 1 f.rest = sym (take-append-drop 1 f.rest) ∙ ap (λ (l : List ℕ). l ++ drop 1 f.rest) (sym (begins_is (34 ∷ []) f.rest starts)) in
    record {
      front = 34 ∷ (f.front ++ 34 ∷ []);
      rest = drop 1 f.rest;
      made = ap (λ (l : List ℕ). 34 ∷ l) (f.made ∙ ap (λ (l : List ℕ). f.front ++ l) quote ∙ sym (append_assoc f.front (34 ∷ []) (drop 1 f.rest)));
      form = (f.front, refl, f.form);
      len = omega (arith, length-append f.front (34 ∷ []), f.len);
    }

string_cases : (b : ℕ) (text : List ℕ) (d e : Bool) → (b == 34) ≡ d → begins (34 ∷ []) (drop (prefix_len is_string_byte text) text) ≡ e → 0 < cond (d && e) (prefix_len is_string_byte text + 2) 0 → Front IsString (cond (d && e) (prefix_len is_string_byte text + 2) 0) (b ∷ text)
string_cases b text false e p q h = absurd (omega (arith, h))
string_cases b text true false p q h = absurd (omega (arith, h))
string_cases b text true true p q h =
    let F : ℕ → Type 0 = λ c. Front IsString (prefix_len is_string_byte text + 2) (c ∷ text) in
    subst F (sym (eqb-true b 34 p)) (quote_front text q)

pub string_front : (text : List ℕ) → 0 < string_len text → Front IsString (string_len text) text
unfolding string_len
string_front [] h = absurd (omega (arith, h))
string_front (b ∷ text) h = string_cases b text (b == 34) (begins (34 ∷ []) (drop (prefix_len is_string_byte text) text)) refl refl h

quoted_at_least : (inside rest : List ℕ) → Each is_string_byte inside → length inside + 2 ≤ string_len (34 ∷ (inside ++ 34 ∷ rest))
unfolding string_len
quoted_at_least inside rest e =
    let stops : prefix_len is_string_byte (inside ++ 34 ∷ rest) ≡ length inside = run_stops is_string_byte inside 34 rest e refl in
    let after : drop (length inside) (inside ++ 34 ∷ rest) ≡ 34 ∷ rest = drop_at inside (34 ∷ rest) (length inside) refl in
    rw (stops, after) (omega arith)

pub string_at_least : (xs rest : List ℕ) → IsString xs → length xs ≤ string_len (xs ++ rest)
string_at_least xs rest e =
    let inside = e.0 in
    let whole : xs ++ rest ≡ 34 ∷ (inside ++ 34 ∷ rest) = ap (λ (l : List ℕ). l ++ rest) e.1 ∙ ap (λ (l : List ℕ). 34 ∷ l) (append_assoc inside (34 ∷ []) rest) in
    let len : length xs ≡ length inside + 2 = omega (arith, ap length e.1, length-append inside (34 ∷ [])) in
    rw (whole, len) (quoted_at_least inside rest e.2)

-- exponents
sign_cases : (b : ℕ) (text : List ℕ) (p m : Bool) → (b == 43) ≡ p → (b == 45) ≡ m → Front (λ sign. (sign ≡ []) ⊎ ((sign ≡ codes "+") ⊎ (sign ≡ codes "-"))) (cond (p || m) 1 0) (b ∷ text)
sign_cases b text true m e f = record { front = codes "+"; rest = text; made = ap (λ (c : ℕ). c ∷ text) (eqb-true b 43 e); form = inr (inl refl); len = refl }
sign_cases b text false true e f = record { front = codes "-"; rest = text; made = ap (λ (c : ℕ). c ∷ text) (eqb-true b 45 f); form = inr (inr refl); len = refl }
sign_cases b text false false e f = record { front = []; rest = b ∷ text; made = refl; form = inl refl; len = refl }

sign_front : (text : List ℕ) → Front (λ sign. (sign ≡ []) ⊎ ((sign ≡ codes "+") ⊎ (sign ≡ codes "-"))) (sign_len text) text
unfolding sign_len
sign_front [] = record { front = []; rest = []; made = refl; form = inl refl; len = refl }
sign_front (b ∷ text) = sign_cases b text (b == 43) (b == 45) refl refl

-- the parts of an exponent after its letter
exponent_made : (b : ℕ) (text : List ℕ) → (b ≡ 101) ⊎ (b ≡ 69) → 0 < prefix_len is_ascii_digit (drop (sign_len text) text) → Front IsExponent (1 + sign_len text + prefix_len is_ascii_digit (drop (sign_len text) text)) (b ∷ text)
exponent_made b text letter h =
    let s = sign_front text in
    let after : drop (sign_len text) text ≡ s.rest = ap (λ (l : List ℕ). drop (sign_len text) l) s.made ∙ drop_at s.front s.rest (sign_len text) s.len in
    let d = run_front is_ascii_digit s.rest in
    let digits : prefix_len is_ascii_digit (drop (sign_len text) text) ≡ prefix_len is_ascii_digit s.rest = ap (prefix_len is_ascii_digit) after in
    record {
      front = b ∷ (s.front ++ d.front);
      rest = d.rest;
      made = ap (λ (l : List ℕ). b ∷ l) (s.made ∙ ap (λ (l : List ℕ). s.front ++ l) d.made ∙ sym (append_assoc s.front d.front d.rest));
      form = record { letter = b; sign = s.front; digits = d.front; made = refl; is_letter = letter; is_sign = s.form; some = omega (arith, h, digits, d.len); are_digits = d.form };
      len = omega (arith, length-append s.front d.front, s.len, d.len, digits);
    }

exponent_cases : (b : ℕ) (text : List ℕ) (x y z : Bool) → (b == 101) ≡ x → (b == 69) ≡ y → nat_lt 0 (prefix_len is_ascii_digit (drop (sign_len text) text)) ≡ z
    → 0 < cond ((x || y) && z) (1 + sign_len text + prefix_len is_ascii_digit (drop (sign_len text) text)) 0
    → Front IsExponent (cond ((x || y) && z) (1 + sign_len text + prefix_len is_ascii_digit (drop (sign_len text) text)) 0) (b ∷ text)
exponent_cases b text false false z p q r h = absurd (omega (arith, h))
exponent_cases b text true y false p q r h = absurd (omega (arith, h))
exponent_cases b text false true false p q r h = absurd (omega (arith, h))
exponent_cases b text true y true p q r h = exponent_made b text (inl (eqb-true b 101 p)) (ltb-true 0 (prefix_len is_ascii_digit (drop (sign_len text) text)) r)
exponent_cases b text false true true p q r h = exponent_made b text (inr (eqb-true b 69 q)) (ltb-true 0 (prefix_len is_ascii_digit (drop (sign_len text) text)) r)

pub exponent_front : (text : List ℕ) → 0 < exponent_len text → Front IsExponent (exponent_len text) text
unfolding exponent_len
exponent_front [] h = absurd (omega (arith, h))
exponent_front (b ∷ text) h = exponent_cases b text (b == 101) (b == 69) (nat_lt 0 (prefix_len is_ascii_digit (drop (sign_len text) text))) refl refl refl h

sign_stands : (sign digits rest : List ℕ) → (sign ≡ []) ⊎ ((sign ≡ codes "+") ⊎ (sign ≡ codes "-")) → 0 < length digits → Each is_ascii_digit digits → sign_len (sign ++ (digits ++ rest)) ≡ length sign
unfolding sign_len
sign_stands sign [] rest s h e = absurd (omega (arith, h))
sign_stands sign (d ∷ digits) rest (inl s) h e =
    let digit : is_ascii_digit d ≡ true = e.0 in
    let plus : (d == 43) ≡ false = grind (arith, common_steps, digit) in
    let minus : (d == 45) ≡ false = grind (arith, common_steps, digit) in
    rw (s, plus, minus) refl
sign_stands sign (d ∷ digits) rest (inr (inl s)) h e = rw s refl
sign_stands sign (d ∷ digits) rest (inr (inr s)) h e = rw s refl

letter_tests : (b : ℕ) → (b ≡ 101) ⊎ (b ≡ 69) → (((b == 101) || (b == 69)) ≡ true) × (is_ascii_digit b ≡ false) × ((b == 46) ≡ false)
letter_tests b (inl e) = (rw e refl, rw e refl, rw e refl)
letter_tests b (inr e) = (rw e refl, rw e refl, rw e refl)

exponent_of_parts : (letter : ℕ) (sign digits rest : List ℕ) → (letter ≡ 101) ⊎ (letter ≡ 69) → (sign ≡ []) ⊎ ((sign ≡ codes "+") ⊎ (sign ≡ codes "-")) → 0 < length digits → Each is_ascii_digit digits
    → 1 + length sign + length digits ≤ exponent_len (letter ∷ (sign ++ (digits ++ rest)))
unfolding exponent_len
exponent_of_parts letter sign digits rest l s h e =
    let signed = sign_stands sign digits rest s h e in
    let after : drop (length sign) (sign ++ (digits ++ rest)) ≡ digits ++ rest = drop_at sign (digits ++ rest) (length sign) refl in
    let many = run_at_least is_ascii_digit digits rest e in
    let some : nat_lt 0 (prefix_len is_ascii_digit (digits ++ rest)) ≡ true = lt-ltb _ _ (omega (arith, h, many)) in
    rw (signed, after, (letter_tests letter l).0, some) (omega (arith, many))

pub exponent_at_least : (xs rest : List ℕ) → IsExponent xs → length xs ≤ exponent_len (xs ++ rest)
exponent_at_least xs rest e =
    let whole : xs ++ rest ≡ e.letter ∷ (e.sign ++ (e.digits ++ rest)) = ap (λ (l : List ℕ). l ++ rest) e.made ∙ ap (λ (l : List ℕ). e.letter ∷ l) (append_assoc e.sign e.digits rest) in
    let len : length xs ≡ 1 + length e.sign + length e.digits = omega (arith, ap length e.made, length-append e.sign e.digits) in
    rw (whole, len) (exponent_of_parts e.letter e.sign e.digits rest e.is_letter e.is_sign e.some e.are_digits)

-- reals
of_parts : ℕ → ℕ → ℕ → ℕ
of_parts whole fraction exponent = cond (nat_lt 0 fraction || (nat_lt 0 whole && nat_lt 0 exponent)) (whole + fraction + exponent) 0

or_last : (b : Bool) → (b || true) ≡ true
or_last true = refl
or_last false = refl

some_parts : (w f x : ℕ) → (0 < f) ⊎ ((0 < w) × (0 < x)) → of_parts w f x ≡ w + f + x
unfolding of_parts
some_parts w f x (inl h) = rw (lt-ltb 0 f h) refl
some_parts w f x (inr h) = rw (lt-ltb 0 w h.0, lt-ltb 0 x h.1, or_last (nat_lt 0 f)) refl

positive_parts : (w f x : ℕ) → 0 < of_parts w f x → f ≤ 0 → (0 < w) × (0 < x)
unfolding of_parts
positive_parts w f x h z = (grind (arith, common_steps, h, z), grind (arith, common_steps, h, z))

real_parts : (text : List ℕ) → real_len text ≡ of_parts (prefix_len is_ascii_digit text) (fraction_len (prefix_len is_ascii_digit text) (drop (prefix_len is_ascii_digit text) text)) (exponent_len (drop (prefix_len is_ascii_digit text + fraction_len (prefix_len is_ascii_digit text) (drop (prefix_len is_ascii_digit text) text)) text))
unfolding real_len of_parts
real_parts text = refl

-- a real of these parts
real_is : (text : List ℕ) (w f : ℕ) → prefix_len is_ascii_digit text ≡ w → fraction_len w (drop w text) ≡ f → (0 < f) ⊎ ((0 < w) × (0 < exponent_len (drop (w + f) text))) → real_len text ≡ w + f + exponent_len (drop (w + f) text)
real_is text w f e1 e2 h = real_parts text ∙ rw (e1, e2) (some_parts w f (exponent_len (drop (w + f) text)) h)

-- a point and digits
record Fraction (whole : ℕ) (text : List ℕ) : Type 0 where
  digits : List ℕ
  rest : List ℕ
  made : text ≡ 46 ∷ (digits ++ rest)
  are_digits : Each is_ascii_digit digits
  some : 0 < whole + length digits
  len : 1 + length digits ≡ fraction_len whole text

fraction_cases : (whole b : ℕ) (text : List ℕ) (x y : Bool) → (b == 46) ≡ x → nat_lt 0 (whole + prefix_len is_ascii_digit text) ≡ y → 0 < cond (x && y) (1 + prefix_len is_ascii_digit text) 0
    → (fraction_len whole (b ∷ text) ≡ cond (x && y) (1 + prefix_len is_ascii_digit text) 0) → Fraction whole (b ∷ text)
fraction_cases whole b text false y p q h e = absurd (omega (arith, h))
fraction_cases whole b text true false p q h e = absurd (omega (arith, h))
fraction_cases whole b text true true p q h e =
    let d = run_front is_ascii_digit text in
    let point : b ≡ 46 = eqb-true b 46 p in
    record {
      digits = d.front;
      rest = d.rest;
      made = ap (λ (c : ℕ). c ∷ text) point ∙ ap (λ (l : List ℕ). 46 ∷ l) d.made;
      are_digits = d.form;
      some = omega (arith, ltb-true 0 (whole + prefix_len is_ascii_digit text) q, d.len);
      len = omega (arith, d.len, e);
    }

fraction_front : (whole : ℕ) (text : List ℕ) → 0 < fraction_len whole text → Fraction whole text
unfolding fraction_len
fraction_front whole [] h = absurd (omega (arith, h))
fraction_front whole (b ∷ text) h = fraction_cases whole b text (b == 46) (nat_lt 0 (whole + prefix_len is_ascii_digit text)) refl refl h refl

fraction_of : (whole : ℕ) (text : List ℕ) → 0 < whole + prefix_len is_ascii_digit text → fraction_len whole (46 ∷ text) ≡ 1 + prefix_len is_ascii_digit text
unfolding fraction_len
fraction_of whole text h = rw (lt-ltb 0 (whole + prefix_len is_ascii_digit text) h) refl

no_fraction : (whole b : ℕ) (text : List ℕ) → (b == 46) ≡ false → fraction_len whole (b ∷ text) ≡ 0
unfolding fraction_len
no_fraction whole b text e = rw e refl

-- an exponent, or none
perhaps_front : (text : List ℕ) → Front (λ l. (l ≡ []) ⊎ IsExponent l) (exponent_len text) text
perhaps_front text = ⊎_elim
    (λ some. let e = exponent_front text some in record { front = e.front; rest = e.rest; made = e.made; form = inr e.form; len = e.len })
    (λ none. record { front = []; rest = text; made = refl; form = inl refl; len = omega (arith, none) })
    (cases_lt 0 (exponent_len text))

point_front : (text : List ℕ) → 0 < fraction_len (prefix_len is_ascii_digit text) (drop (prefix_len is_ascii_digit text) text) → Front IsReal (real_len text) text
point_front text h =
    let w = prefix_len is_ascii_digit text in
    let whole = run_front is_ascii_digit text in
    let fraction = fraction_front w (drop w text) h in
    let f = fraction_len w (drop w text) in
    let after : drop w text ≡ whole.rest = ap (λ (l : List ℕ). drop w l) whole.made ∙ drop_at whole.front whole.rest w whole.len in
    let rest_is : whole.rest ≡ 46 ∷ (fraction.digits ++ fraction.rest) = sym after ∙ fraction.made in
    let split : text ≡ (whole.front ++ 46 ∷ fraction.digits) ++ fraction.rest = whole.made ∙ ap (λ (l : List ℕ). whole.front ++ l) rest_is ∙ sym (append_assoc whole.front (46 ∷ fraction.digits) fraction.rest) in
    let front_len : length (whole.front ++ 46 ∷ fraction.digits) ≡ w + f = omega (arith, length-append whole.front (46 ∷ fraction.digits), whole.len, fraction.len) in
    let left : drop (w + f) text ≡ fraction.rest = ap (λ (l : List ℕ). drop (w + f) l) split ∙ drop_at (whole.front ++ 46 ∷ fraction.digits) fraction.rest (w + f) front_len in
    let exponent = perhaps_front fraction.rest in
    record {
      front = whole.front ++ 46 ∷ (fraction.digits ++ exponent.front);
      rest = exponent.rest;
      made = whole.made ∙ ap (λ (l : List ℕ). whole.front ++ l) (rest_is ∙ ap (λ (l : List ℕ). 46 ∷ l) (ap (λ (l : List ℕ). fraction.digits ++ l) exponent.made ∙ sym (append_assoc fraction.digits exponent.front exponent.rest))) ∙ sym (append_assoc whole.front (46 ∷ (fraction.digits ++ exponent.front)) exponent.rest);
      form = inl (record {
        whole = whole.front;
        fraction = fraction.digits;
        exponent = exponent.front;
        made = refl;
        whole_digits = whole.form;
        fraction_digits = fraction.are_digits;
        some = omega (arith, whole.len, fraction.some);
        perhaps = exponent.form;
      });
      len = omega (arith, real_is text w f refl refl (inl h), ap exponent_len left, exponent.len, whole.len, fraction.len, length-append whole.front (46 ∷ (fraction.digits ++ exponent.front)), length-append fraction.digits exponent.front);
    }

plain_front : (text : List ℕ) → fraction_len (prefix_len is_ascii_digit text) (drop (prefix_len is_ascii_digit text) text) ≤ 0 → 0 < real_len text → Front IsReal (real_len text) text
plain_front text z h =
    let w = prefix_len is_ascii_digit text in
    let whole = run_front is_ascii_digit text in
    let f = fraction_len w (drop w text) in
    let parts = positive_parts w f (exponent_len (drop (w + f) text)) (omega (arith, h, real_parts text)) z in
    let left : drop (w + f) text ≡ whole.rest = ap (λ (n : ℕ). drop n text) (let e : w + f ≡ w = omega (arith, z) in e) ∙ ap (λ (l : List ℕ). drop w l) whole.made ∙ drop_at whole.front whole.rest w whole.len in
    let some : 0 < exponent_len whole.rest = omega (arith, parts.1, ap exponent_len left) in
    let exponent = exponent_front whole.rest some in
    record {
      front = whole.front ++ exponent.front;
      rest = exponent.rest;
      made = whole.made ∙ ap (λ (l : List ℕ). whole.front ++ l) exponent.made ∙ sym (append_assoc whole.front exponent.front exponent.rest);
      form = inr (record { whole = whole.front; exponent = exponent.front; made = refl; whole_digits = whole.form; some = omega (arith, whole.len, parts.0); is_exponent = exponent.form });
      len = omega (arith, real_is text w f refl refl (inr parts), ap exponent_len left, exponent.len, whole.len, z, length-append whole.front exponent.front);
    }

pub real_front : (text : List ℕ) → 0 < real_len text → Front IsReal (real_len text) text
real_front text h = ⊎_elim (λ some. point_front text some) (λ none. plain_front text none h) (cases_lt 0 (fraction_len (prefix_len is_ascii_digit text) (drop (prefix_len is_ascii_digit text) text)))

-- an exponent begins with its letter
begins_with_letter : (exponent rest : List ℕ) (e : IsExponent exponent) → exponent ++ rest ≡ e.letter ∷ ((e.sign ++ e.digits) ++ rest)
begins_with_letter exponent rest e = ap (λ (l : List ℕ). l ++ rest) e.made

point_at_least : (whole fraction exponent rest : List ℕ) → Each is_ascii_digit whole → Each is_ascii_digit fraction → 0 < length whole + length fraction → (exponent ≡ []) ⊎ IsExponent exponent
    → length whole + 1 + length fraction + length exponent ≤ real_len (whole ++ 46 ∷ (fraction ++ (exponent ++ rest)))
point_at_least whole fraction exponent rest ew ef some perhaps =
    let text = whole ++ 46 ∷ (fraction ++ (exponent ++ rest)) in
    let w = length whole in
    let d = prefix_len is_ascii_digit (fraction ++ (exponent ++ rest)) in
    let many = run_at_least is_ascii_digit fraction (exponent ++ rest) ef in
    let e1 : prefix_len is_ascii_digit text ≡ w = run_stops is_ascii_digit whole 46 (fraction ++ (exponent ++ rest)) ew refl in
    let after : drop w text ≡ 46 ∷ (fraction ++ (exponent ++ rest)) = drop_at whole (46 ∷ (fraction ++ (exponent ++ rest))) w refl in
    let e2 : fraction_len w (drop w text) ≡ 1 + d = ap (fraction_len w) after ∙ fraction_of w (fraction ++ (exponent ++ rest)) (omega (arith, some, many)) in
    let all = real_is text w (1 + d) e1 e2 (inl (omega arith)) in
    ⊎_elim
    (λ none. omega (arith, all, many, ap length none))
    (λ e.
    let first = begins_with_letter exponent rest e in
    let exact : d ≡ length fraction = ap (λ (l : List ℕ). prefix_len is_ascii_digit (fraction ++ l)) first ∙ run_stops is_ascii_digit fraction e.letter ((e.sign ++ e.digits) ++ rest) ef (letter_tests e.letter e.is_letter).1 in
    let split : text ≡ (whole ++ 46 ∷ fraction) ++ (exponent ++ rest) = sym (append_assoc whole (46 ∷ fraction) (exponent ++ rest)) in
    let left : drop (w + (1 + d)) text ≡ exponent ++ rest = ap (λ (l : List ℕ). drop (w + (1 + d)) l) split ∙ drop_at (whole ++ 46 ∷ fraction) (exponent ++ rest) (w + (1 + d)) (omega (arith, exact, length-append whole (46 ∷ fraction))) in
    omega (arith, all, exact, ap exponent_len left, exponent_at_least exponent rest e))
    perhaps

exponent_after : (whole exponent rest : List ℕ) → Each is_ascii_digit whole → 0 < length whole → IsExponent exponent → length whole + length exponent ≤ real_len (whole ++ (exponent ++ rest))
exponent_after whole exponent rest ew some e =
    let text = whole ++ (exponent ++ rest) in
    let w = length whole in
    let first = begins_with_letter exponent rest e in
    let tests = letter_tests e.letter e.is_letter in
    let e1 : prefix_len is_ascii_digit text ≡ w = ap (λ (l : List ℕ). prefix_len is_ascii_digit (whole ++ l)) first ∙ run_stops is_ascii_digit whole e.letter ((e.sign ++ e.digits) ++ rest) ew tests.1 in
    let after : drop w text ≡ exponent ++ rest = drop_at whole (exponent ++ rest) w refl in
    let e2 : fraction_len w (drop w text) ≡ 0 = ap (fraction_len w) (after ∙ first) ∙ no_fraction w e.letter ((e.sign ++ e.digits) ++ rest) tests.2 in
    let left : drop (w + 0) text ≡ exponent ++ rest = ap (λ (n : ℕ). drop n text) (let z : w + 0 ≡ w = omega arith in z) ∙ after in
    let many = exponent_at_least exponent rest e in
    let letters : 0 < length exponent = omega (arith, ap length e.made) in
    omega (arith, real_is text w 0 e1 e2 (inr (some, omega (arith, letters, many, ap exponent_len left))), many, ap exponent_len left)

pub real_at_least : (xs rest : List ℕ) → IsReal xs → length xs ≤ real_len (xs ++ rest)
real_at_least xs rest (inl e) =
    let whole : xs ++ rest ≡ e.whole ++ 46 ∷ (e.fraction ++ (e.exponent ++ rest)) = ap (λ (l : List ℕ). l ++ rest) e.made ∙ append_assoc e.whole (46 ∷ (e.fraction ++ e.exponent)) rest ∙ ap (λ (l : List ℕ). e.whole ++ 46 ∷ l) (append_assoc e.fraction e.exponent rest) in
    let len : length xs ≡ length e.whole + 1 + length e.fraction + length e.exponent = omega (arith, ap length e.made, length-append e.whole (46 ∷ (e.fraction ++ e.exponent)), length-append e.fraction e.exponent) in
    rw (whole, len) (point_at_least e.whole e.fraction e.exponent rest e.whole_digits e.fraction_digits e.some e.perhaps)
real_at_least xs rest (inr e) =
    let whole : xs ++ rest ≡ e.whole ++ (e.exponent ++ rest) = ap (λ (l : List ℕ). l ++ rest) e.made ∙ append_assoc e.whole e.exponent rest in
    let len : length xs ≡ length e.whole + length e.exponent = omega (arith, ap length e.made, length-append e.whole e.exponent) in
    rw (whole, len) (exponent_after e.whole e.exponent rest e.whole_digits e.some e.is_exponent)

-- a real continues after its first digits
pub real_covers : (text : List ℕ) → 0 < real_len text → prefix_len is_ascii_digit text ≤ real_len text
unfolding real_len
real_covers text h = grind (arith, common_steps, h)

-- an integer has digits alone
pub integer_digits : (text : List ℕ) → integer_len text ≤ prefix_len is_ascii_digit text
unfolding integer_len
integer_digits [] = omega arith
integer_digits (b ∷ text) = grind (arith, common_steps)

no_parts : (w : ℕ) → of_parts w 0 0 ≡ 0
unfolding of_parts
no_parts w = grind (arith, common_steps)

no_exponent : exponent_len [] ≡ 0
unfolding exponent_len
no_exponent = refl

nothing_after : (whole : ℕ) → fraction_len whole [] ≡ 0
unfolding fraction_len
nothing_after whole = refl

-- digits alone are no real
pub digits_no_real : (xs : List ℕ) → Each is_ascii_digit xs → real_len xs ≡ 0
digits_no_real xs e =
    let w = prefix_len is_ascii_digit xs in
    let long : length xs ≤ w = subst (λ (l : List ℕ). length xs ≤ prefix_len is_ascii_digit l) (append-nil xs) (run_at_least is_ascii_digit xs [] e) in
    let none : drop w xs ≡ [] = drop_all w xs long in
    let f : fraction_len w (drop w xs) ≡ 0 = ap (fraction_len w) none ∙ nothing_after w in
    let left : drop (w + fraction_len w (drop w xs)) xs ≡ [] = drop_all (w + fraction_len w (drop w xs)) xs (omega (arith, long)) in
    let x : exponent_len (drop (w + fraction_len w (drop w xs)) xs) ≡ 0 = ap exponent_len left ∙ no_exponent in
    real_parts xs ∙ rw (x, f) (no_parts w)
