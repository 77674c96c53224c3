-- Words before a sign, and what comes after a text.
use Rattle.std.proofs.Common.{◌≡◌, ◌≢◌, ℕ, suc, ◌+◌, ◌^◌, ◌<◌, ◌≤◌, inl, inr, Bool, true, false, ltb, List, [], ◌∷◌, ◌++◌, length, get_or, take, drop, Option, Some, None, refl, sym, ap, ◌∙◌, arith, length-append, append_assoc}
use Rattle.std.specs.Prelude.{position, ◌==◌, decimal, MatchOption, IfSome, IsSomeAnd}
use Rattle.std.specs.List.{position_or_len}
use Rattle.std.proofs.lemmas.Bool.{cond-true, lt-ltb, ne_eqb, eq-eqb, eqb-true, both_ways}
use Rattle.std.proofs.lemmas.List.{take-append-drop, get_or_at, take_at, drop_at, get_or_append_left, drop_more, get_or-take, length-take-le, get_or_default}
use Rattle.std.proofs.lemmas.List.Sums.{position_or_len_is}
use Rattle.std.proofs.lemmas.List.Quantifiers.{position-Some}
use Rattle.std.proofs.lemmas.Option.{same_Some}
use Rattle.std.proofs.lemmas.Fmt.{decimal_is_IsNumeral}
use Rattle.std.proofs.lemmas.Str.Parse.{digit_at as digit_in_text}
use Rattle.qc_base.specs.Spelling.{IsSign, IsFree}
use denote.Ref.{Bor}

-- two rests after one text are one
pub same_rest : (text a b : List ℕ) → text ++ a ≡ text ++ b → a ≡ b
same_rest [] a b e = e
same_rest (x ∷ text) a b e = same_rest text a b cc

pub prefix_found : (bytes text : List ℕ) (r : Option (Bor (List ℕ))) → MatchOption r ((rest : List ℕ) → bytes ≢ text ++ rest) (λ x. bytes ≡ text ++ x.now) → IfSome r (λ x. bytes ≡ text ++ x.now)
prefix_found bytes text None h = tt
prefix_found bytes text (Some x) h = h

pub prefix_only : (bytes text : List ℕ) (r : Option (Bor (List ℕ))) → MatchOption r ((rest : List ℕ) → bytes ≢ text ++ rest) (λ x. bytes ≡ text ++ x.now) → (rest : List ℕ) → bytes ≡ text ++ rest → IsSomeAnd r (λ x. x.now ≡ rest)
prefix_only bytes text None h rest e = absurd (h rest e)
prefix_only bytes text (Some x) h rest e = same_rest text x.now rest (sym h ∙ e)

-- a word without the sign is what is before the first sign
pub word_before : (sign : ℕ) (word other rest more : List ℕ) → IsFree sign word → IsFree sign other → word ++ sign ∷ rest ≡ other ++ sign ∷ more → (word ≡ other) × (rest ≡ more)
word_before sign [] [] rest more free also e = (refl, cc)
word_before sign [] (b ∷ other) rest more free also e = absurd (also 0 0 (omega arith) cc)
word_before sign (a ∷ word) [] rest more free also e = absurd (free 0 0 (omega arith) cc)
word_before sign (a ∷ word) (b ∷ other) rest more free also e =
    let p = word_before sign word other rest more (λ k d h. free (suc k) d (omega arith)) (λ k d h. also (suc k) d (omega arith)) cc in
    let same : word ≡ other = p.0 in
    let first : a ≡ b = cc in
    (rw (same, first) refl, p.1)

position_is : (p : ℕ → Bool) (bytes : List ℕ) (place : ℕ) → position_or_len p bytes ≡ place → place < length bytes → position p bytes ≡ Some place
position_is p bytes place e h =
    let inside : ltb (position_or_len p bytes) (length bytes) ≡ true = lt-ltb _ _ (omega arith) in
    cond-true _ _ _ inside ∙ ap (λ (k : ℕ). Some k) e

pub place_of_word : (sign : ℕ) (word rest bytes : List ℕ) → IsFree sign word → bytes ≡ word ++ sign ∷ rest → position (λ byte. byte == sign) bytes ≡ Some (length word)
place_of_word sign word rest bytes free e =
    let p : ℕ → Bool = λ byte. byte == sign in
    let all : length bytes ≡ length word + suc (length rest) = ap length e ∙ length-append word (sign ∷ rest) in
    let before : (k : ℕ) → k < length word → p (get_or bytes k 0) ≡ false =
    λ k h.
    let same : get_or bytes k 0 ≡ get_or word k 0 = ap (λ (b : List ℕ). get_or b k 0) e ∙ get_or_append_left word (sign ∷ rest) 0 k h in
    ne_eqb (get_or bytes k 0) sign (λ is. free k 0 h (sym same ∙ is)) in
    let here : p (get_or bytes (length word) 0) ≡ true = eq-eqb _ _ (ap (λ (b : List ℕ). get_or b (length word) 0) e ∙ get_or_at word sign rest 0 (length word) refl) in
    position_is p bytes (length word) (position_or_len_is p bytes (length word) 0 (omega arith) before (λ h. here)) (omega arith)

-- the bytes about the place of a sign
pub around_sign : (sign place : ℕ) (bytes : List ℕ) → position (λ byte. byte == sign) bytes ≡ Some place → bytes ≡ take place bytes ++ sign ∷ drop (place + 1) bytes
around_sign sign place bytes e =
    let p : ℕ → Bool = λ byte. byte == sign in
    let found = position-Some p bytes place 0 e in
    let is : get_or bytes place 0 ≡ sign = eqb-true _ _ found.1 in
    sym (take-append-drop place bytes) ∙ ap (λ (b : List ℕ). take place bytes ++ b) (drop_more bytes place 0 found.0 ∙ ap (λ (x : ℕ). x ∷ drop (place + 1) bytes) is)

-- the word and the rest that were read are those that are there
pub same_word : (sign place : ℕ) (word rest bytes : List ℕ) → IsFree sign word → bytes ≡ word ++ sign ∷ rest → position (λ byte. byte == sign) bytes ≡ Some place
    → (take place bytes ≡ word) × (drop (place + 1) bytes ≡ rest)
same_word sign place word rest bytes free e at =
    let here : place ≡ length word = same_Some place (length word) (sym at ∙ place_of_word sign word rest bytes free e) in
    let whole : (word ++ sign ∷ []) ++ rest ≡ word ++ sign ∷ rest = append_assoc word (sign ∷ []) rest in
    let len : length (word ++ sign ∷ []) ≡ place + 1 = omega (arith, length-append word (sign ∷ [])) in
    (ap (take place) e ∙ take_at word (sign ∷ rest) place (sym here), ap (drop (place + 1)) (e ∙ sym whole) ∙ drop_at (word ++ sign ∷ []) rest (place + 1) len)

-- before the first sign there is none
pub free_before : (sign place : ℕ) (bytes : List ℕ) → position (λ byte. byte == sign) bytes ≡ Some place → IsFree sign (take place bytes)
free_before sign place bytes e k d h same =
    let p : ℕ → Bool = λ byte. byte == sign in
    let found = position-Some p bytes place d e in
    let len : length (take place bytes) ≡ place = length-take-le place bytes (omega arith) in
    let here : get_or bytes k d ≡ sign = sym (get_or-take place bytes k d (omega arith)) ∙ same in
    both_ways (p (get_or bytes k d)) (found.2 k (omega arith)) (eq-eqb _ _ here)

-- a number has no sign
digit_at : (number k : ℕ) → number < 2 ^ 64 → k < length (decimal number) → (48 ≤ get_or (decimal number) k 0) × (get_or (decimal number) k 0 ≤ 57)
digit_at number k small h = digit_in_text (decimal number) k (decimal_is_IsNumeral number small).0.1 h

no_sign : (sign byte : ℕ) → IsSign sign → 48 ≤ byte → byte ≤ 57 → byte ≢ sign
no_sign sign byte (inl below) low high e = omega arith
no_sign sign byte (inr above) low high e = omega arith

pub free_decimal : (sign number : ℕ) → IsSign sign → number < 2 ^ 64 → IsFree sign (decimal number)
free_decimal sign number right small k d h = let digit = digit_at number k small h in let same = get_or_default (decimal number) k d 0 h in rw same (no_sign sign (get_or (decimal number) k 0) right digit.0 digit.1)
