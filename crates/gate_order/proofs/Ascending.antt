-- Ascending lists of operations.
use Rattle.std.proofs.Common.{◌≡◌, ◌≢◌, ℕ, zero, suc, ◌+◌, ◌-◌, ◌<◌, ◌≤◌, List, [], ◌∷◌, length, get_or, sym, ap, subst, ◌∙◌, inl, inr, arith}
use Rattle.std.specs.Prelude.{slice_index_or, AllPairs, ◌⊎◌, insert, remove}
use Rattle.std.proofs.lemmas.Bool.{cases_eq, cases_lt}
use Rattle.std.proofs.lemmas.List.{get_or_default}
use Rattle.std.proofs.lemmas.List.Edits.{length-insert, get_or-insert_below, get_or-insert_at, get_or-insert_above, length-remove, get_or-remove_below, get_or-remove_above}
use Rattle.std.proofs.lemmas.List.Quantifiers.{all_pairs_remove}
use Rattle.qc_base.specs.declared.ids.OpId.{OpId}
use Rattle.gate_order.specs.Ready.{IsAmong}
use Rattle.gate_order.specs.Keeping.{op, IsPlace}

abbrev pub IsAscending : List OpId → Type 0
IsAscending xs = AllPairs (λ (first second : OpId). first.0 < second.0) xs

abbrev at : List OpId → ℕ → ℕ
at xs k = (get_or xs k (op 0)).0

-- the operation at an index is among them
pub among_at : (xs : List OpId) (k number : ℕ) (d : OpId) → k < length xs → (get_or xs k d).0 ≡ number → IsAmong xs number
among_at xs k number d within is = (k, within, get_or_default xs k (op number) d within ∙ ap op is)

pub at_among : (xs : List OpId) (number : ℕ) → IsAmong xs number → (k : ℕ) × ((k < length xs) × (at xs k ≡ number))
at_among xs number (k, within, is) = (k, (within, ap (λ (it : OpId). it.0) (get_or_default xs k (op 0) (op number) within ∙ is)))

-- ---- a place among them

pub insert_among : (xs : List OpId) (place number : ℕ) → place ≤ length xs → IsAmong (insert xs place (op number)) number
insert_among xs place number within = among_at (insert xs place (op number)) place number (op 0) (omega (arith, length-insert xs place (op number) within)) (ap (λ (it : OpId). it.0) (get_or-insert_at xs place (op number) (op 0) within))

pub insert_old : (xs : List OpId) (place number other : ℕ) → place ≤ length xs → IsAmong xs other → IsAmong (insert xs place (op number)) other
insert_old xs place number other within among =
    let (k, (in_xs, is)) = at_among xs other among in
    let long = length-insert xs place (op number) within in
    elim (cases_lt k place) [
      | inl below ↦ among_at (insert xs place (op number)) k other (op 0) (omega (arith, long)) (ap (λ (it : OpId). it.0) (get_or-insert_below xs place (op number) (op 0) k below within) ∙ is)
      | inr past ↦ among_at (insert xs place (op number)) (k + 1) other (op 0) (omega (arith, long)) (ap (λ (it : OpId). it.0) (get_or-insert_above xs place (op number) (op 0) k past within) ∙ is)
    ]

pub insert_cases : (xs : List OpId) (place number other : ℕ) → place ≤ length xs → IsAmong (insert xs place (op number)) other → IsAmong xs other ⊎ (other ≡ number)
insert_cases xs place number other within among =
    let (k, (in_new, is)) = at_among (insert xs place (op number)) other among in
    let long = length-insert xs place (op number) within in
    elim (cases_lt k place) [
      | inl below ↦ inl (among_at xs k other (op 0) (omega (arith, long)) (sym (ap (λ (it : OpId). it.0) (get_or-insert_below xs place (op number) (op 0) k below within)) ∙ is))
      | inr past ↦ elim (cases_eq k place) [
        | inl here ↦ inr (sym is ∙ ap (λ i. at (insert xs place (op number)) i) here ∙ ap (λ (it : OpId). it.0) (get_or-insert_at xs place (op number) (op 0) within))
        | inr ne ↦ (let before : place ≤ k - 1 = omega arith in
            let next : k - 1 + 1 ≡ k = omega arith in
            inl (among_at xs (k - 1) other (op 0) (omega (arith, long))
            (sym (ap (λ (it : OpId). it.0) (get_or-insert_above xs place (op number) (op 0) (k - 1) before within)) ∙ ap (λ i. at (insert xs place (op number)) i) next ∙ is)))
      ]
    ]

-- the order as numbers
pub ascends : (xs : List OpId) (i j : ℕ) → IsAscending xs → i < j → j < length xs → at xs i < at xs j
ascends xs i j ascending below within = ascending i j (op 0) below within

ascending_from : (xs : List OpId) → ((i j : ℕ) → i < j → j < length xs → at xs i < at xs j) → IsAscending xs
ascending_from xs orders i j d below within =
    subst (λ (it : OpId). it.0 < (get_or xs j d).0) (get_or_default xs i (op 0) d (omega arith))
    (subst (λ (it : OpId). at xs i < it.0) (get_or_default xs j (op 0) d within) (orders i j below within))

-- all from the place on are past the operation
past_place : (xs : List OpId) (place number k : ℕ) → IsAscending xs → IsPlace xs (op number) place → (IsAmong xs number → ⊥) → place ≤ k → k < length xs → number < at xs k
past_place xs place number k ascending is out past within =
    let from : number ≤ at xs place = is.from (op 0) (omega arith) in
    let ne : at xs place ≢ number = (λ same. out (among_at xs place number (op 0) (omega arith) same)) in
    elim (cases_eq k place) [
      | inl here ↦ omega (arith, from, ne, ap (λ i. at xs i) here)
      | inr other ↦ omega (arith, from, ascends xs place k ascending (omega arith) within)
    ]

at_below : (xs : List OpId) (place number k : ℕ) → place ≤ length xs → k < place → at (insert xs place (op number)) k ≡ at xs k
at_below xs place number k within below = ap (λ (it : OpId). it.0) (get_or-insert_below xs place (op number) (op 0) k below within)

at_here : (xs : List OpId) (place number k : ℕ) → place ≤ length xs → k ≡ place → at (insert xs place (op number)) k ≡ number
at_here xs place number k within here = ap (λ i. at (insert xs place (op number)) i) here ∙ ap (λ (it : OpId). it.0) (get_or-insert_at xs place (op number) (op 0) within)

at_above : (xs : List OpId) (place number k : ℕ) → place ≤ length xs → place < k → at (insert xs place (op number)) k ≡ at xs (k - 1)
at_above xs place number k within above =
    let next : k - 1 + 1 ≡ k = omega arith in
    sym (ap (λ i. at (insert xs place (op number)) i) next) ∙ ap (λ (it : OpId). it.0) (get_or-insert_above xs place (op number) (op 0) (k - 1) (omega arith) within)

pub insert_ascending : (xs : List OpId) (place number : ℕ) → IsAscending xs → IsPlace xs (op number) place → (IsAmong xs number → ⊥) → IsAscending (insert xs place (op number))
insert_ascending xs place number ascending is out = ascending_from (insert xs place (op number)) orders where
  orders : (i j : ℕ) → i < j → j < length (insert xs place (op number)) → at (insert xs place (op number)) i < at (insert xs place (op number)) j
  orders i j below in_new =
      let long : length (insert xs place (op number)) ≡ length xs + 1 = length-insert xs place (op number) is.within in
      elim (cases_lt j place) [
        | inl j_below ↦ omega (arith, at_below xs place number i is.within (omega arith), at_below xs place number j is.within j_below, ascends xs i j ascending below (omega (arith, is.within)))
        | inr j_past ↦ elim (cases_eq j place) [
          | inl j_here ↦ omega (arith, at_below xs place number i is.within (omega arith), at_here xs place number j is.within j_here, is.below i (op 0) (omega arith))
          | inr j_other ↦ elim (cases_lt i place) [
            | inl i_below ↦ omega (arith, at_below xs place number i is.within i_below, at_above xs place number j is.within (omega arith), ascends xs i (j - 1) ascending (omega arith) (omega (arith, long)))
            | inr i_past ↦ elim (cases_eq i place) [
              | inl i_here ↦ omega (arith, at_here xs place number i is.within i_here, at_above xs place number j is.within (omega arith), past_place xs place number (j - 1) ascending is out (omega arith) (omega (arith, long)))
              | inr i_other ↦ omega (arith, at_above xs place number i is.within (omega arith), at_above xs place number j is.within (omega arith), ascends xs (i - 1) (j - 1) ascending (omega arith) (omega (arith, long)))
            ]
          ]
        ]
      ]

-- ---- no more of them than there are numbers

record IsHigh (xs : List OpId) (number k : ℕ) : Type 0 where
  low : at xs k < number → k ≤ at xs k
  high : number < at xs k → k + 1 ≤ at xs k

high_at : (xs : List OpId) (number k : ℕ) → IsAscending xs → (IsAmong xs number → ⊥) → k < length xs → IsHigh xs number k
high_at xs number zero ascending out within = record { low = λ h. omega arith; high = λ h. omega arith }
high_at xs number (suc k) ascending out within =
    let before : IsHigh xs number k = high_at xs number k ascending out (omega arith) in
    let rises : at xs k < at xs (suc k) = ascends xs k (suc k) ascending (omega arith) within in
    let ne : at xs k ≢ number = (λ same. out (among_at xs k number (op 0) (omega arith) same)) in
    record {
      low = λ h. omega (arith, before.low (omega arith));
      high = λ h. elim (cases_lt (at xs k) number) [
        | inl low ↦ omega (arith, before.low low)
        | inr past ↦ omega (arith, before.high (omega arith))
      ];
    }

pub few_ascending : (xs : List OpId) (number count : ℕ) → IsAscending xs → (IsAmong xs number → ⊥) → number < count → ((k : ℕ) → k < length xs → (get_or xs k (op 0)).0 < count) → length xs < count
few_ascending [] number count ascending out below each = omega arith
few_ascending (x ∷ xs) number count ascending out below each =
    let last : length xs < length (x ∷ xs) = omega arith in
    let high : IsHigh (x ∷ xs) number (length xs) = high_at (x ∷ xs) number (length xs) ascending out last in
    let ne : at (x ∷ xs) (length xs) ≢ number = (λ same. out (among_at (x ∷ xs) (length xs) number (op 0) last same)) in
    elim (cases_lt (at (x ∷ xs) (length xs)) number) [
      | inl low ↦ omega (arith, high.low low)
      | inr past ↦ omega (arith, high.high (omega arith), each (length xs) last)
    ]

-- ---- without one of them

pub remove_old : (xs : List OpId) (place number : ℕ) → place < length xs → IsAmong (remove xs place) number → IsAmong xs number
remove_old xs place number within among =
    let (k, (in_new, is)) = at_among (remove xs place) number among in
    let short = length-remove xs place within in
    elim (cases_lt k place) [
      | inl below ↦ among_at xs k number (op 0) (omega (arith, short)) (sym (ap (λ (it : OpId). it.0) (get_or-remove_below xs place (op 0) k below within)) ∙ is)
      | inr past ↦ among_at xs (k + 1) number (op 0) (omega (arith, short)) (sym (ap (λ (it : OpId). it.0) (get_or-remove_above xs place (op 0) k past within)) ∙ is)
    ]

pub remove_other : (xs : List OpId) (place number : ℕ) → place < length xs → at xs place ≢ number → IsAmong xs number → IsAmong (remove xs place) number
remove_other xs place number within ne among =
    let (k, (in_xs, is)) = at_among xs number among in
    let short = length-remove xs place within in
    elim (cases_lt k place) [
      | inl below ↦ among_at (remove xs place) k number (op 0) (omega (arith, short)) (ap (λ (it : OpId). it.0) (get_or-remove_below xs place (op 0) k below within) ∙ is)
      | inr past ↦ (let other : k ≢ place = (λ same. ne (ap (λ i. at xs i) (sym same) ∙ is)) in
          let before : place ≤ k - 1 = omega arith in
          let next : k - 1 + 1 ≡ k = omega arith in
          among_at (remove xs place) (k - 1) number (op 0) (omega (arith, short)) (ap (λ (it : OpId). it.0) (get_or-remove_above xs place (op 0) (k - 1) before within) ∙ ap (λ i. at xs i) next ∙ is))
    ]

pub remove_out : (xs : List OpId) (place number : ℕ) → IsAscending xs → place < length xs → at xs place ≡ number → IsAmong (remove xs place) number → ⊥
remove_out xs place number ascending within here among =
    let (k, (in_new, is)) = at_among (remove xs place) number among in
    let short = length-remove xs place within in
    elim (cases_lt k place) [
      | inl below ↦ omega (arith, ascends xs k place ascending below within, ap (λ (it : OpId). it.0) (get_or-remove_below xs place (op 0) k below within))
      | inr past ↦ omega (arith, ascends xs place (k + 1) ascending (omega arith) (omega (arith, short)), ap (λ (it : OpId). it.0) (get_or-remove_above xs place (op 0) k past within))
    ]

pub remove_ascending : (xs : List OpId) (place : ℕ) → place < length xs → IsAscending xs → IsAscending (remove xs place)
remove_ascending xs place within ascending = all_pairs_remove (λ (first second : OpId). first.0 < second.0) xs place within ascending

-- ---- the place of one of them

pub record IsFound (xs : List OpId) (it : OpId) (place : ℕ) : Type 0 where
  pub within : place < length xs
  pub is : (d : OpId) → slice_index_or xs place d ≡ it

pub found_at : (xs : List OpId) (place number : ℕ) → IsAscending xs → IsPlace xs (op number) place → IsAmong xs number → IsFound xs (op number) place
found_at xs place number ascending is among =
    let (k, (in_xs, at_k)) = at_among xs number among in
    let not_below : place ≤ k = elim (cases_lt k place) [ inl below ↦ absurd (omega (arith, is.below k (op 0) below, at_k)) | inr past ↦ past ] in
    let within : place < length xs = omega arith in
    let from : number ≤ at xs place = is.from (op 0) within in
    let here : at xs place ≡ number = elim (cases_eq k place) [
      | inl same ↦ ap (λ i. at xs i) (sym same) ∙ at_k
      | inr other ↦ absurd (omega (arith, from, at_k, ascends xs place k ascending (omega arith) in_xs))
    ] in
    record { within = within; is = λ d. get_or_default xs place d (op 0) within ∙ ap op here }
