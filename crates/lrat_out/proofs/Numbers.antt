-- Numbered clauses in two lists, whose numbers rise.
use Rattle.std.proofs.Common.{◌≡◌, ◌≢◌, ℕ, zero, suc, ◌+◌, ◌-◌, ◌<◌, ◌≤◌, eqb, List, [], ◌∷◌, ◌++◌, inl, inr, Option, Some, None, length, get_or, slice_index_or, refl, sym, ap, ◌∙◌, arith, length-append}
use Rattle.std.specs.Prelude.{All, IfNone, slice_get, nat_le, ◌&&◌}
use Rattle.std.proofs.lemmas.Bool.{cond-true, cond-false, and_from, and_right, le-leb, lt-leb, eq-eqb, ne_eqb, cases_lt}
use Rattle.std.proofs.lemmas.List.{get_or_default}
use Rattle.std.proofs.lemmas.Option.{slice_get_within, get_or_from_slice_get}
use Rattle.sat_base.specs.Literal.{Literal}
use Rattle.sat_base.specs.Clauses.{clause_at}
use Rattle.lrat_out.specs.Lines.{Numbered, Hand, HaveNumber, clause_in, IsNumber, clause_named, last_of}
use Rattle.lrat_out.specs.Proof.{numbered, RiseAbove}

-- ---- numbers that rise

pub above_all : (above k : ℕ) (d : ℕ) (numbers : List ℕ) → RiseAbove above numbers → k < length numbers → above < get_or numbers k d
above_all above k d [] rise within = absurd (omega arith)
above_all above zero d (n ∷ numbers) rise within = rise.0
above_all above (suc k) d (n ∷ numbers) rise within = let later = above_all n k d numbers rise.1 (omega arith) in let first = rise.0 in omega arith

pub in_order : (above : ℕ) (numbers : List ℕ) → RiseAbove above numbers → (i j : ℕ) → i ≤ j → j < length numbers → get_or numbers i 0 ≤ get_or numbers j 0
in_order above [] rise i j order within = absurd (omega arith)
in_order above (n ∷ numbers) rise zero zero order within = omega arith
in_order above (n ∷ numbers) rise zero (suc j) order within = let later = above_all n j 0 numbers rise.1 (omega arith) in omega arith
in_order above (n ∷ numbers) rise (suc i) zero order within = absurd (omega arith)
in_order above (n ∷ numbers) rise (suc i) (suc j) order within = in_order n numbers rise.1 i j (omega arith) (omega arith)

pub rise_push : (above number : ℕ) (numbers : List ℕ) (clauses : List (List Literal)) → length numbers ≡ length clauses → RiseAbove above numbers → last_of above (numbered numbers clauses) < number → RiseAbove above (numbers ++ number ∷ [])
rise_push above number [] clauses same rise higher = (higher, tt)
rise_push above number (n ∷ numbers) [] same rise higher = absurd (omega arith)
rise_push above number (n ∷ numbers) (c ∷ clauses) same rise higher = (rise.0, rise_push n number numbers clauses (omega arith) rise.1 higher)

pub numbered_push : (numbers : List ℕ) (clauses : List (List Literal)) (number : ℕ) (clause : List Literal) → length numbers ≡ length clauses → numbered (numbers ++ number ∷ []) (clauses ++ clause ∷ []) ≡ numbered numbers clauses ++ record { number = number; clause = clause } ∷ []
numbered_push [] [] number clause same = refl
numbered_push [] (c ∷ clauses) number clause same = absurd (omega arith)
numbered_push (n ∷ numbers) [] number clause same = absurd (omega arith)
numbered_push (n ∷ numbers) (c ∷ clauses) number clause same = ap (λ (lines : List Numbered). record { number = n; clause = c } ∷ lines) (numbered_push numbers clauses number clause (omega arith))

-- the last number
pub last_is : (above : ℕ) (numbers : List ℕ) (clauses : List (List Literal)) (number d : ℕ) → length numbers ≡ length clauses → 0 < length numbers → number ≡ get_or numbers (length numbers - 1) d → number ≡ last_of above (numbered numbers clauses)
last_is above [] clauses number d same some is = absurd (omega arith)
last_is above (n ∷ numbers) [] number d same some is = absurd (omega arith)
last_is above (n ∷ []) (c ∷ []) number d same some is = let e : length (n ∷ []) - 1 ≡ 0 = omega arith in is ∙ ap (λ (k : ℕ). get_or (n ∷ []) k d) e
last_is above (n ∷ []) (c ∷ e ∷ clauses) number d same some is = absurd (omega arith)
last_is above (n ∷ m ∷ numbers) (c ∷ clauses) number d same some is =
    let e : length (n ∷ m ∷ numbers) - 1 ≡ suc (length (m ∷ numbers) - 1) = omega arith in
    last_is n (m ∷ numbers) clauses number d (omega arith) (omega arith) (is ∙ ap (λ (k : ℕ). get_or (n ∷ m ∷ numbers) k d) e)

pub last_none : (above : ℕ) (numbers : List ℕ) (clauses : List (List Literal)) → length numbers ≡ 0 → last_of above (numbered numbers clauses) ≡ above
last_none above [] clauses none = refl
last_none above (n ∷ numbers) clauses none = absurd (omega arith)

low_last : (above : ℕ) (numbers : List ℕ) (clauses : List (List Literal)) → RiseAbove above numbers → above ≤ last_of above (numbered numbers clauses)
low_last above [] clauses rise = omega arith
low_last above (n ∷ numbers) [] rise = omega arith
low_last above (n ∷ numbers) (c ∷ clauses) rise = let later = low_last n numbers clauses rise.1 in let first = rise.0 in omega arith

number_within : (above number : ℕ) (numbers : List ℕ) (clauses : List (List Literal)) → RiseAbove above numbers → HaveNumber (numbered numbers clauses) number → (above < number) × (number ≤ last_of above (numbered numbers clauses))
number_within above number [] clauses rise none = absurd none
number_within above number (n ∷ numbers) [] rise none = absurd none
number_within above number (n ∷ numbers) (c ∷ clauses) rise (inl e) = let later = low_last n numbers clauses rise.1 in let first = rise.0 in (omega arith, omega arith)
number_within above number (n ∷ numbers) (c ∷ clauses) rise (inr h) = let later = number_within n number numbers clauses rise.1 h in let first = rise.0 in let low = later.0 in (omega arith, later.1)

-- the hand of these parts
abbrev pub hand_with : List (List Literal) → List ℕ → List (List Literal) → Hand
hand_with formula numbers clauses = record { formula = formula; lines = numbered numbers clauses }

-- all numbers in hand are from 1 up to the last
pub all_within : (formula : List (List Literal)) (numbers : List ℕ) (clauses : List (List Literal)) (number : ℕ) → RiseAbove (length formula) numbers → IsNumber (hand_with formula numbers clauses) number → (1 ≤ number) × (number ≤ last_of (length formula) (numbered numbers clauses))
all_within formula numbers clauses number rise (inl h) = let low = low_last (length formula) numbers clauses rise in let high = h.1 in (h.0, omega arith)
all_within formula numbers clauses number rise (inr h) = let within = number_within (length formula) number numbers clauses rise h in let low = within.0 in (omega arith, within.1)

-- ---- the clause of a number

pub have_at : (numbers : List ℕ) (clauses : List (List Literal)) (index number : ℕ) (d : ℕ) → length numbers ≡ length clauses → index < length numbers → get_or numbers index d ≡ number → HaveNumber (numbered numbers clauses) number
have_at [] clauses index number d same within is = absurd (omega arith)
have_at (n ∷ numbers) [] index number d same within is = absurd (omega arith)
have_at (n ∷ numbers) (c ∷ clauses) zero number d same within is = inl is
have_at (n ∷ numbers) (c ∷ clauses) (suc index) number d same within is = inr (have_at numbers clauses index number d (omega arith) (omega arith) is)

pub clause_in-at : (above : ℕ) (numbers : List ℕ) (clauses : List (List Literal)) (index number : ℕ) (d : ℕ) → length numbers ≡ length clauses → RiseAbove above numbers → index < length numbers → get_or numbers index d ≡ number → slice_index_or clauses index [] ≡ clause_in (numbered numbers clauses) number
clause_in-at above [] clauses index number d same rise within is = absurd (omega arith)
clause_in-at above (n ∷ numbers) [] index number d same rise within is = absurd (omega arith)
clause_in-at above (n ∷ numbers) (c ∷ clauses) zero number d same rise within is = sym (cond-true (eqb n number) c (clause_in (numbered numbers clauses) number) (eq-eqb n number is))
clause_in-at above (n ∷ numbers) (c ∷ clauses) (suc index) number d same rise within is =
    let later = above_all n index d numbers rise.1 (omega arith) in
    let other : n ≢ number = λ e. omega arith in
    clause_in-at n numbers clauses index number d (omega arith) rise.1 (omega arith) is ∙ sym (cond-false (eqb n number) c (clause_in (numbered numbers clauses) number) (ne_eqb n number other))

pub have_none : (numbers : List ℕ) (clauses : List (List Literal)) (number : ℕ) → All (λ other. other ≢ number) numbers → HaveNumber (numbered numbers clauses) number → ⊥
have_none [] clauses number none have = have
have_none (n ∷ numbers) [] number none have = have
have_none (n ∷ numbers) (c ∷ clauses) number none (inl e) = none 0 0 (omega arith) e
have_none (n ∷ numbers) (c ∷ clauses) number none (inr h) = have_none numbers clauses number (λ k d within. none (suc k) d (omega arith)) h

-- the clause of a number up to that of the formula's clauses
pub named_early : (formula : List (List Literal)) (lines : List Numbered) (number : ℕ) → 1 ≤ number → number ≤ length formula → clause_at formula number ≡ clause_named (record { formula = formula; lines = lines }) number
named_early formula lines number low high =
    sym (cond-true (nat_le 1 number && nat_le number (length formula)) (clause_at formula number) (clause_in lines number) (and_from (nat_le 1 number) (nat_le number (length formula)) (le-leb 1 number low) (le-leb number (length formula) high)))

-- and of one above
pub named_late : (formula : List (List Literal)) (lines : List Numbered) (number : ℕ) → length formula < number → clause_in lines number ≡ clause_named (record { formula = formula; lines = lines }) number
named_late formula lines number high =
    sym (cond-false (nat_le 1 number && nat_le number (length formula)) (clause_at formula number) (clause_in lines number) (and_right (nat_le 1 number) (nat_le number (length formula)) (lt-leb number (length formula) high)))

pub no_number : (formula : List (List Literal)) (numbers : List ℕ) (clauses : List (List Literal)) (number : ℕ) → length formula < number → All (λ other. other ≢ number) numbers → IsNumber (hand_with formula numbers clauses) number → ⊥
no_number formula numbers clauses number high none (inl h) = let low = h.1 in omega arith
no_number formula numbers clauses number high none (inr h) = have_none numbers clauses number none h

pub not_zero : (formula : List (List Literal)) (numbers : List ℕ) (clauses : List (List Literal)) (number : ℕ) → RiseAbove (length formula) numbers → number ≡ 0 → IsNumber (hand_with formula numbers clauses) number → ⊥
not_zero formula numbers clauses number rise none is = let within = all_within formula numbers clauses number rise is in let low = within.0 in omega arith

pub if_none : {X : Type 0} (o : Option X) (P : Type 0) → P → IfNone o P
if_none None P p = p
if_none (Some x) P p = tt

-- the last number, as it was read
pub last_some : (above : ℕ) (numbers : List ℕ) (clauses : List (List Literal)) (number : ℕ) → length numbers ≡ length clauses → Some number ≡ slice_get numbers (length numbers - 1) → number ≡ last_of above (numbered numbers clauses)
last_some above numbers clauses number same is =
    let within = slice_get_within numbers (length numbers - 1) number (sym is) in
    let value = get_or_from_slice_get numbers (length numbers - 1) number 0 (sym is) in
    last_is above numbers clauses number 0 same (omega arith) (sym value)

-- a search that ends between the lower and the higher numbers found none
pub none_found : (numbers : List ℕ) (number i : ℕ) → ((k : ℕ) → k < i → get_or numbers k 0 < number) → ((k : ℕ) → i ≤ k → k < length numbers → number < get_or numbers k 0) → All (λ other. other ≢ number) numbers
none_found numbers number i below above k d h e =
    let same = get_or_default numbers k d 0 h in
    elim (cases_lt k i) [
      | inl lower ↦ let low = below k lower in omega arith
      | inr higher ↦ let high = above k higher h in omega arith
    ]

-- a number and a clause more
pub pushed : (formula : List (List Literal)) (numbers : List ℕ) (clauses : List (List Literal)) (number : ℕ) (clause : List Literal) → length numbers ≡ length clauses → RiseAbove (length formula) numbers → last_of (length formula) (numbered numbers clauses) < number
    → (length (numbers ++ number ∷ []) ≡ length (clauses ++ clause ∷ [])) × RiseAbove (length formula) (numbers ++ number ∷ [])
pushed formula numbers clauses number clause same rise higher =
    (length-append numbers (number ∷ []) ∙ ap (λ (n : ℕ). n + 1) same ∙ sym (length-append clauses (clause ∷ [])), rise_push (length formula) number numbers clauses same rise higher)
