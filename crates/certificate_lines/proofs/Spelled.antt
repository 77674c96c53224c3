-- The words of a line have one spelling.
use Rattle.std.proofs.Common.{◌≡◌, ℕ, ◌<◌, ◌≤◌, ◌^◌, Bool, true, false, List, ◌∷◌, ◌++◌, Option, Some, None, get_or, refl, sym, ap, ◌∙◌, arith, append_assoc}
use Rattle.std.specs.Prelude.{decimal, codes}
use Rattle.std.proofs.lemmas.List.{get_or_append_left, append_cancel_left}
use Rattle.std.proofs.lemmas.Fmt.{first_decimal, decimal_nonempty}
use Rattle.sat_base.specs.Literal.{Literal}
use Rattle.sat_base.specs.Certificate.{literal_text}
use Rattle.certificate_lines.specs.Items.{sign_text, literal_word, MayStand, hint_word, MayHint}

-- a number above 0 begins with a digit above 0
pub begins_above : (number byte : ℕ) (rest more : List ℕ) → 0 < number → number < 2 ^ 64 → decimal number ++ rest ≡ byte ∷ more → 48 < byte
begins_above number byte rest more some small e =
    let first : get_or (decimal number ++ rest) 0 0 ≡ get_or (decimal number) 0 0 = get_or_append_left (decimal number) rest 0 0 (decimal_nonempty number small) in
    let is : get_or (decimal number ++ rest) 0 0 ≡ byte = ap (λ (xs : List ℕ). get_or xs 0 0) e in
    omega (arith, first_decimal number some small)

-- the sign of a number
pub sign_is_minus : (digits : List ℕ) (positive : Bool) (number : ℕ) (rest : List ℕ) → 0 < number → number < 2 ^ 64 → codes "-" ++ digits ≡ sign_text positive ++ (decimal number ++ rest) → (false ≡ positive) × (digits ≡ decimal number ++ rest)
sign_is_minus digits true number rest some small e = absurd (let h = begins_above number 45 rest digits some small (sym e) in omega arith)
sign_is_minus digits false number rest some small e = (refl, append_cancel_left (codes "-") digits (decimal number ++ rest) e)

pub no_sign : (bytes : List ℕ) (positive : Bool) (number : ℕ) (rest : List ℕ) → ((more : List ℕ) → bytes ≡ codes "-" ++ more → ⊥) → bytes ≡ sign_text positive ++ (decimal number ++ rest) → (true ≡ positive) × (bytes ≡ decimal number ++ rest)
no_sign bytes true number rest none e = (refl, e)
no_sign bytes false number rest none e = absurd (none (decimal number ++ rest) e)

-- ---- literals

pub literal_parts : (literal : Literal) (rest : List ℕ) → literal_word (Some literal) ++ rest ≡ sign_text literal.positive ++ (decimal literal.var ++ (32 ∷ rest))
literal_parts literal rest =
    append_assoc (literal_text literal) (codes " ") rest ∙ append_assoc (sign_text literal.positive) (decimal literal.var) (codes " " ++ rest)

different : (a b : ℕ) → a ≡ b → 45 < a → b ≤ 45 → ⊥
different a b e above below = omega arith

begins_otherwise : (positive : Bool) (number : ℕ) (rest more : List ℕ) → 0 < number → number < 2 ^ 64 → 48 ∷ more ≡ sign_text positive ++ (decimal number ++ rest) → ⊥
begins_otherwise true number rest more some small e = let h = begins_above number 48 rest more some small (sym e) in omega arith
begins_otherwise false number rest more some small e = different 48 45 (ap (λ (xs : List ℕ). get_or xs 0 0) e) (omega arith) (omega arith)

-- where a 0 and a space stand, no literal does
pub end_of_literals : (vars : ℕ) (item : Option Literal) (bytes left rest : List ℕ) → vars < 2 ^ 31 → bytes ≡ codes "0 " ++ left → MayStand vars item → bytes ≡ literal_word item ++ rest → (None ≡ item) × (left ≡ rest)
end_of_literals vars None bytes left rest few is may e = (refl, append_cancel_left (codes "0 ") left rest (sym is ∙ e))
end_of_literals vars (Some literal) bytes left rest few is may e =
    absurd (begins_otherwise literal.positive literal.var (32 ∷ rest) (32 ∷ left) (omega (arith, may.0)) (omega (arith, may.1)) (sym is ∙ e ∙ literal_parts literal rest))

-- what stands where a literal does
pub record LiteralAt (bytes : List ℕ) (vars : ℕ) (literal : Literal) (rest : List ℕ) : Type 0 where
  pub from_1 : 1 ≤ literal.var
  pub within : literal.var ≤ vars
  pub text : bytes ≡ sign_text literal.positive ++ (decimal literal.var ++ (32 ∷ rest))

-- where no 0 and space stand, a literal does
pub literal_at : (vars : ℕ) (item : Option Literal) (bytes rest : List ℕ) → ((more : List ℕ) → bytes ≡ codes "0 " ++ more → ⊥) → MayStand vars item → bytes ≡ literal_word item ++ rest
    → (literal : Literal) × (item ≡ Some literal) × LiteralAt bytes vars literal rest
literal_at vars None bytes rest none may e = absurd (none rest e)
literal_at vars (Some literal) bytes rest none may e = (literal, refl, record { from_1 = may.0; within = may.1; text = e ∙ literal_parts literal rest })

-- what a literal reads as, once its sign is taken off
pub record ReadsAs (item : Option Literal) (vars : ℕ) (positive : Bool) (digits rest : List ℕ) : Type 0 where
  pub literal : Literal
  pub is : item ≡ Some literal
  pub from_1 : 1 ≤ literal.var
  pub within : literal.var ≤ vars
  pub sign : positive ≡ literal.positive
  pub digits_are : digits ≡ decimal literal.var ++ 32 ∷ rest

pub reads_as : (vars : ℕ) (item : Option Literal) (bytes digits rest : List ℕ) (positive : Bool) → vars < 2 ^ 31 → ((more : List ℕ) → bytes ≡ codes "0 " ++ more → ⊥)
    → ((sign : Bool) (number : ℕ) (rest : List ℕ) → 0 < number → number < 2 ^ 64 → bytes ≡ sign_text sign ++ (decimal number ++ rest) → (positive ≡ sign) × (digits ≡ decimal number ++ rest))
    → MayStand vars item → bytes ≡ literal_word item ++ rest → ReadsAs item vars positive digits rest
reads_as vars item bytes digits rest positive few none only may e =
    let (literal, is, at) = literal_at vars item bytes rest none may e in
    let from_1 = at.from_1 in
    let within = at.within in
    let read = only literal.positive literal.var (32 ∷ rest) (omega arith) (omega arith) at.text in
    record { literal = literal; is = is; from_1 = at.from_1; within = at.within; sign = read.0; digits_are = read.1 }

-- ---- hints

-- where a 0 and a line feed stand, no hint does
pub end_of_hints : (number : ℕ) (item : Option ℕ) (bytes left rest : List ℕ) → number < 2 ^ 64 → bytes ≡ codes "0\n" ++ left → MayHint number item → bytes ≡ hint_word item ++ rest → (None ≡ item) × (left ≡ rest)
end_of_hints number None bytes left rest small is may e = (refl, append_cancel_left (codes "0\n") left rest (sym is ∙ e))
end_of_hints number (Some hint) bytes left rest small is may e =
    let h = begins_above hint 48 (codes " " ++ rest) (10 ∷ left) (omega (arith, may.0)) (omega (arith, may.1)) (sym (append_assoc (decimal hint) (codes " ") rest) ∙ sym e ∙ is) in absurd (omega arith)

pub hint_at : (number : ℕ) (item : Option ℕ) (bytes rest : List ℕ) → ((more : List ℕ) → bytes ≡ codes "0\n" ++ more → ⊥) → MayHint number item → bytes ≡ hint_word item ++ rest
    → (hint : ℕ) × (item ≡ Some hint) × (1 ≤ hint) × (hint < number) × (bytes ≡ decimal hint ++ 32 ∷ rest)
hint_at number None bytes rest none may e = absurd (none rest e)
hint_at number (Some hint) bytes rest none may e = (hint, refl, may.0, may.1, e ∙ append_assoc (decimal hint) (codes " ") rest)
