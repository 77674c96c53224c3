-- Where digits begin no real, no later digit of them does.
use Rattle.std.proofs.Common.{◌≡◌, ℕ, zero, suc, ◌+◌, ◌-◌, ◌<◌, ◌≤◌, Bool, true, false, cond, List, [], ◌∷◌, drop, refl, sym, ap, ◌∙◌, arith, ◌&&◌, ◌||◌, nat_lt}
use Rattle.std.specs.Char.{is_ascii_digit}
use Rattle.std.specs.List.{prefix_len}
use Rattle.std.proofs.lemmas.Grind.{common_steps}
use Rattle.std.proofs.lemmas.List.{drop-drop}
use Rattle.qasm_tokens.specs.Pieces.{exponent_len, fraction_len, real_len}

-- after some of a run the rest of it stands
rest_cases : (n k r : ℕ) (b : Bool) → suc k ≤ cond b (1 + n) 0 → (k ≤ n → r ≡ n - k) → r ≡ cond b (1 + n) 0 - suc k
rest_cases n k r true h ih = omega (arith, ih (omega (arith, h)))
rest_cases n k r false h ih = absurd (omega (arith, h))

rest_of_run : (p : ℕ → Bool) (k : ℕ) (text : List ℕ) → k ≤ prefix_len p text → prefix_len p (drop k text) ≡ prefix_len p text - k
rest_of_run p zero text h = omega arith
rest_of_run p (suc k) [] h = absurd (omega (arith, h))
rest_of_run p (suc k) (b ∷ text) h = rest_cases (prefix_len p text) k (prefix_len p (drop k text)) (p b) h (rest_of_run p k text)

-- any digits before a point do
same_fraction : (a b : ℕ) (text : List ℕ) → 0 < a → 0 < b → fraction_len a text ≡ fraction_len b text
unfolding fraction_len
same_fraction a b [] ha hb = refl
same_fraction a b (c ∷ text) ha hb =
    let n = prefix_len is_ascii_digit text in
    let x : nat_lt 0 (a + n) ≡ true = grind (arith, common_steps) in
    let y : nat_lt 0 (b + n) ≡ true = grind (arith, common_steps) in
    rw (x, y) refl

-- how long a real of these parts is
abbrev of_parts : ℕ → ℕ → ℕ → ℕ
of_parts whole fraction exponent = cond (nat_lt 0 fraction || (nat_lt 0 whole && nat_lt 0 exponent)) (whole + fraction + exponent) 0

no_parts : (a fraction exponent : ℕ) → 0 < a → of_parts a fraction exponent ≡ 0 → (fraction ≡ 0) × (exponent ≡ 0)
no_parts a fraction exponent h e = (grind (arith, common_steps, e, h), grind (arith, common_steps, e, h))

none_of_parts : (a b fraction exponent : ℕ) → 0 < a → of_parts a fraction exponent ≡ 0 → of_parts b fraction exponent ≡ 0
none_of_parts a b fraction exponent h e =
    let none = no_parts a fraction exponent h e in
    grind (arith, common_steps, none.0, none.1)

pub no_later_real : (text : List ℕ) (k : ℕ) → real_len text ≡ 0 → k < prefix_len is_ascii_digit text → real_len (drop k text) ≡ 0
unfolding real_len
no_later_real text k e h =
    let whole = prefix_len is_ascii_digit text in
    let fraction = fraction_len whole (drop whole text) in
    let left : prefix_len is_ascii_digit (drop k text) ≡ whole - k = rest_of_run is_ascii_digit k text (omega (arith, h)) in
    let after_digits : drop (whole - k) (drop k text) ≡ drop whole text = drop-drop (whole - k) k text ∙ ap (λ (n : ℕ). drop n text) (omega (arith, h)) in
    let as_before : fraction_len (whole - k) (drop whole text) ≡ fraction = same_fraction (whole - k) whole (drop whole text) (omega (arith, h)) (omega (arith, h)) in
    let after_fraction : drop (whole - k + fraction) (drop k text) ≡ drop (whole + fraction) text = drop-drop (whole - k + fraction) k text ∙ ap (λ (n : ℕ). drop n text) (omega (arith, h)) in
    rw (left, after_digits, as_before, after_fraction) (none_of_parts whole (whole - k) fraction (exponent_len (drop (whole + fraction) text)) (omega (arith, h)) e)

-- the same after the bytes before
pub no_real_within : (text : List ℕ) (at place : ℕ) → real_len (drop at text) ≡ 0 → at ≤ place → place < at + prefix_len is_ascii_digit (drop at text) → real_len (drop place text) ≡ 0
no_real_within text at place e low high =
    let here : drop (place - at) (drop at text) ≡ drop place text = drop-drop (place - at) at text ∙ ap (λ (n : ℕ). drop n text) (omega (arith, low)) in
    ap real_len (sym here) ∙ no_later_real (drop at text) (place - at) e (omega (arith, low, high))
