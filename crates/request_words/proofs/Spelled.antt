-- Numbers and values of words.
use Rattle.std.proofs.Common.{◌≡◌, ℕ, ◌+◌, ◌^◌, ◌<◌, true, false, ltb, List, length, drop, Option, Some, None, refl, sym, ap, ◌∙◌, subst, inl, inr}
use Rattle.std.specs.Prelude.{MatchOption, IfSome, decimal, nat_eq}
use Rattle.std.specs.List.{starts_with}
use Rattle.std.specs.Option.{option_map}
use Rattle.std.specs.Str.{bytes_eq, IsCharBoundary}
use Rattle.std.specs.Str.Parse.{digits_value}
use Rattle.std.specs.Str.Pattern.{FindsTextPrefix}
use Rattle.std.proofs.lemmas.Bool.{lt-ltb, cases_Bool, ltb-true}
use Rattle.std.proofs.lemmas.Option.{none-some}
use Rattle.std.proofs.lemmas.Fmt.{decimal_is_IsNumeral}
use Rattle.std.proofs.lemmas.Slice.Eq.{bytes_eq-Decides}
use Rattle.std.proofs.lemmas.Str.Pattern.{starts_text}
use Rattle.request_words.specs.Request.{number_of, strip_prefix}
use denote.Ref.{Bor}

value_is : (word : List ℕ) (n : ℕ) → n < 2 ^ 64 → word ≡ decimal n → digits_value 10 word ≡ n
value_is word n small e = ap (digits_value 10) e ∙ (decimal_is_IsNumeral n small).1

number_is : (word : List ℕ) (n : ℕ) → n < 2 ^ 64 → word ≡ decimal n → number_of word ≡ Some n
number_is word n small e =
    let value = value_is word n small e in
    let below : ltb n (2 ^ 64) ≡ true = lt-ltb n (2 ^ 64) small in
    let same : bytes_eq word (decimal n) ≡ true = (bytes_eq-Decides word (decimal n)).1 e in
    rw (value, below, same) refl

number_is_none : (word : List ℕ) → ((n : ℕ) → n < 2 ^ 64 → word ≡ decimal n → ⊥) → number_of word ≡ None
number_is_none word none =
    let value = digits_value 10 word in
    elim (cases_Bool (ltb value (2 ^ 64))) [
      | inr above ↦ rw above refl
      | inl below ↦ elim (cases_Bool (bytes_eq word (decimal value))) [
        | inr other ↦ rw (below, other) refl
        | inl same ↦ absurd (none value (ltb-true value (2 ^ 64) below) ((bytes_eq-Decides word (decimal value)).0 same))
      ]
    ]

-- what was found is the number, where nothing else is spelled
pub number_found : (word : List ℕ) (r : Option ℕ) → IfSome r (λ n. word ≡ decimal n) → IfSome r (λ n. n < 2 ^ 64) → ((n : ℕ) → n < 2 ^ 64 → word ≡ decimal n → r ≡ Some n) → r ≡ number_of word
number_found word None found fits only = sym (number_is_none word (λ n small e. none-some n (only n small e)))
number_found word (Some n) found fits only = sym (number_is word n fits found)

pub prefix_is : (front word : List ℕ) (r : Option (Bor (List ℕ))) → MatchOption r (FindsTextPrefix front word None) (λ x. (n : ℕ) × FindsTextPrefix front word (Some n) × (x.now ≡ drop n word) × (length x.now + n ≡ length word))
    → option_map (λ x. x.now) r ≡ strip_prefix front word
prefix_is front word None h = let no : starts_with nat_eq word front ≡ false = sym (starts_text false front word h) in rw no refl
prefix_is front word (Some x) h =
    let found = h.1 in
    let has : starts_with nat_eq word front ≡ true = sym (starts_text true front word (h.0, found, subst (IsCharBoundary word) (sym found.0) found.2)) in
    rw (has, ← found.0) (ap (λ (l : List ℕ). Some l) h.2)
