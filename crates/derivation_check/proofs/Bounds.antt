-- The lines of bounds have one spelling.
use Rattle.std.proofs.Common.{◌≡◌, ℕ, ◌<◌, ◌^◌, List, ◌∷◌, ◌++◌, inr, get_or, refl, sym, ap, ◌∙◌, arith, append_assoc}
use Rattle.std.specs.Prelude.{decimal, codes}
use Rattle.std.proofs.lemmas.List.{get_or_append_left, append_cancel_left}
use Rattle.std.proofs.lemmas.Fmt.{decimal_nonempty}
use Rattle.qc_base.proofs.Words.{free_decimal}
use Rattle.sat_base.specs.declared.certificate.Bound.{Bound}
use Rattle.sat_base.specs.declared.certificate.Bound.TheVariants.{Refutes, Nothing, Open}
use Rattle.sat_base.specs.Certificate.{bound_text}
use Rattle.derivation_check.specs.HeadFaults.{IsBound}

-- a number begins with no letter
pub not_letter : (number letter : ℕ) (rest more : List ℕ) → 57 < letter → number < 2 ^ 64 → letter ∷ more ≡ decimal number ++ rest → ⊥
not_letter number letter rest more above small e =
    let some = decimal_nonempty number small in
    let first : get_or (decimal number) 0 0 ≡ letter = sym (get_or_append_left (decimal number) rest 0 0 some) ∙ ap (λ (xs : List ℕ). get_or xs 0 0) (sym e) in
    free_decimal letter number (inr above) small 0 0 some first

pub first_differs : (a b : ℕ) (xs ys : List ℕ) → a < b → a ∷ xs ≡ b ∷ ys → ⊥
first_differs a b xs ys less e = let same : a ≡ b = ap (λ (zs : List ℕ). get_or zs 0 0) e in omega arith

pub refutes_parts : (bound : ℕ) (rest : List ℕ) → bound_text (Refutes bound) ++ rest ≡ codes "refutes " ++ (decimal bound ++ 10 ∷ rest)
refutes_parts bound rest = append_assoc (codes "refutes " ++ decimal bound) (codes "\n") rest ∙ append_assoc (codes "refutes ") (decimal bound) (codes "\n" ++ rest)

pub open_parts : (bound : ℕ) (rest : List ℕ) → bound_text (Open bound) ++ rest ≡ codes "open " ++ (decimal bound ++ 10 ∷ rest)
open_parts bound rest = append_assoc (codes "open " ++ decimal bound) (codes "\n") rest ∙ append_assoc (codes "open ") (decimal bound) (codes "\n" ++ rest)

-- after `refutes ` and `nothing` stands no other bound
pub is_nothing : (bound : Bound) (bytes left after rest : List ℕ) → bytes ≡ codes "refutes " ++ left → left ≡ codes "nothing\n" ++ after → IsBound bound → bytes ≡ bound_text bound ++ rest → (Nothing ≡ bound) × (after ≡ rest)
is_nothing Nothing bytes left after rest is nothing known e =
    (refl, append_cancel_left (codes "refutes nothing\n") after rest (ap (λ (xs : List ℕ). codes "refutes " ++ xs) (sym nothing) ∙ sym is ∙ e))
is_nothing (Refutes n) bytes left after rest is nothing known e =
    absurd (not_letter n 110 (10 ∷ rest) (codes "othing\n" ++ after) (omega arith) (omega arith) (sym nothing ∙ append_cancel_left (codes "refutes ") left (decimal n ++ 10 ∷ rest) (sym is ∙ e ∙ refutes_parts n rest)))
is_nothing (Open n) bytes left after rest is nothing known e = absurd (first_differs 111 114 _ _ (omega arith) (sym (open_parts n rest) ∙ sym e ∙ is))
