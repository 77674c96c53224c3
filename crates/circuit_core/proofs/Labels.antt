-- Labels, and the first number that passes a test.
use Rattle.std.proofs.Common.{◌≡◌, ℕ, suc, ◌+◌, ◌-◌, ◌<◌, Bool, true, false, cond, List, ◌++◌, Some, sym, ap, ◌∙◌, inl, inr, arith}
use Rattle.std.specs.Prelude.{find, codes, decimal}
use Rattle.std.specs.List.{range_with_len}
use Rattle.std.specs.Str.{bytes_eq}
use Rattle.std.proofs.lemmas.Bool.{cases_Bool, false_from_ne_true, false≢true}
use Rattle.std.proofs.lemmas.Slice.Eq.{bytes_eq-Decides}
use Rattle.qc_base.proofs.Words.{same_rest}
use Rattle.circuit_core.specs.Label.{index_text}

other : (a b : List ℕ) → bytes_eq a b ≡ false → a ≡ b → ⊥
other a b not same = false≢true (sym not ∙ (bytes_eq-Decides a b).1 same)

pub same_turned : (a b : List ℕ) → bytes_eq a b ≡ bytes_eq b a
same_turned a b =
    elim (cases_Bool (bytes_eq a b)) [
      | inl is ↦ is ∙ sym ((bytes_eq-Decides b a).1 (sym ((bytes_eq-Decides a b).0 is)))
      | inr not ↦ not ∙ sym (false_from_ne_true (bytes_eq b a) (λ is. other a b not (sym ((bytes_eq-Decides b a).0 is))))
    ]

-- a text that begins so is a longer one where the rests are the same
pub front_same : (front more text rest : List ℕ) → text ≡ front ++ rest → bytes_eq more rest ≡ bytes_eq (front ++ more) text
front_same front more text rest e =
    elim (cases_Bool (bytes_eq more rest)) [
      | inl is ↦ is ∙ sym ((bytes_eq-Decides (front ++ more) text).1 (ap (λ (b : List ℕ). front ++ b) ((bytes_eq-Decides more rest).0 is) ∙ sym e))
      | inr not ↦ not ∙ sym (false_from_ne_true (bytes_eq (front ++ more) text) (λ is. other more rest not (same_rest front more rest ((bytes_eq-Decides (front ++ more) text).0 is ∙ e))))
    ]

pub front_other : (front more text : List ℕ) → ((rest : List ℕ) → text ≡ front ++ rest → ⊥) → false ≡ bytes_eq (front ++ more) text
front_other front more text none = sym (false_from_ne_true (bytes_eq (front ++ more) text) (λ is. none more (sym ((bytes_eq-Decides (front ++ more) text).0 is))))

-- the text of an index, read from its bracket on
pub index_same : (text rest digits after : List ℕ) (index : ℕ) (r : Bool) → text ≡ codes "[" ++ rest → digits ≡ decimal index → rest ≡ digits ++ after
    → r ≡ bytes_eq after (codes "]") → r ≡ bytes_eq (index_text index) text
index_same text rest digits after index r bracket number read same =
    same ∙ same_turned after (codes "]") ∙ front_same (decimal index) (codes "]") rest after (read ∙ ap (λ (d : List ℕ). d ++ after) number)
    ∙ front_same (codes "[") (decimal index ++ codes "]") text rest bracket

pub index_other : (text rest digits : List ℕ) (index : ℕ) → text ≡ codes "[" ++ rest → digits ≡ decimal index → ((after : List ℕ) → rest ≡ digits ++ after → ⊥)
    → false ≡ bytes_eq (index_text index) text
index_other text rest digits index bracket number none =
    front_other (decimal index) (codes "]") rest (λ after e. none after (e ∙ ap (λ (d : List ℕ). d ++ after) (sym number)))
    ∙ front_same (codes "[") (decimal index ++ codes "]") text rest bracket

-- a number that doesn't pass is passed over
pub find_on : (p : ℕ → Bool) (k n : ℕ) → k < n → p k ≡ false → find p (range_with_len k (n - k)) ≡ find p (range_with_len (k + 1) (n - (k + 1)))
find_on p k n h no_k =
    let e : n - k ≡ suc (n - (k + 1)) = omega arith in
    ap (λ (m : ℕ). find p (range_with_len k m)) e ∙ ap (λ (b : Bool). cond b (Some k) (find p (range_with_len (k + 1) (n - (k + 1))))) no_k

-- and one that passes is the first
pub find_here : (p : ℕ → Bool) (k n : ℕ) → k < n → p k ≡ true → find p (range_with_len k (n - k)) ≡ Some k
find_here p k n h is_k =
    let e : n - k ≡ suc (n - (k + 1)) = omega arith in
    ap (λ (m : ℕ). find p (range_with_len k m)) e ∙ ap (λ (b : Bool). cond b (Some k) (find p (range_with_len (k + 1) (n - (k + 1))))) is_k
