-- Lists in which nothing occurs twice.
use Rattle.std.proofs.Common.{◌≡◌, ◌≢◌, ℕ, ◌<◌, Bool, false, List, [], ◌∷◌, ◌++◌, length, get_or, sym, ◌∙◌, append_assoc, arith, None, Some, inl, inr}
use Rattle.std.specs.Bool.{Decides}
use Rattle.std.specs.List.{AllPairs, list_any}
use Rattle.std.specs.Str.{bytes_eq}
use Rattle.std.proofs.lemmas.Bool.{both_ways, cases_Bool, cond-true, cond-false}
use Rattle.std.proofs.lemmas.List.Folds.{list_any_at}
use Rattle.std.proofs.lemmas.List.{append-nil}
use Rattle.std.proofs.lemmas.List.Quantifiers.{all_pairs_push}
use Rattle.std.proofs.lemmas.Option.{none-some}
use Rattle.std.proofs.lemmas.Slice.Eq.{bytes_eq-Decides}
use Rattle.trap_parts.specs.Build.{first_double}

-- what no member is by the test, no member is
pub differs : {X : Type 0} (same : X → X → Bool) (decides : (x y : X) → Decides (same x y) (x ≡ y)) (y : X) (xs : List X) → list_any (same y) xs ≡ false → (k : ℕ) (d : X) → k < length xs → get_or xs k d ≢ y
differs same decides y xs none k d h is =
    both_ways (list_any (same y) xs) none (list_any_at (same y) xs k d h ((decides y (get_or xs k d)).1 (sym is)))

pub all_pairs_none : {X : Type 0} (R : X → X → Type 0) → AllPairs R []
all_pairs_none R i j d below h = absurd (omega arith)

-- one more that no member is
pub distinct_more : {X : Type 0} (same : X → X → Bool) (decides : (x y : X) → Decides (same x y) (x ≡ y)) (xs : List X) (y : X) → AllPairs (λ a b. a ≢ b) xs → list_any (same y) xs ≡ false → AllPairs (λ a b. a ≢ b) (xs ++ y ∷ [])
distinct_more same decides xs y all none = all_pairs_push (λ a b. a ≢ b) xs y all (differs same decides y xs none)

-- where no name is a double, the names are distinct
pub names_distinct : (before names : List (List ℕ)) → AllPairs (λ a b. a ≢ b) before → first_double before names ≡ None → AllPairs (λ a b. a ≢ b) (before ++ names)
names_distinct before [] all e = rw (append-nil before) all
names_distinct before (name ∷ names) all e =
    elim (cases_Bool (list_any (bytes_eq name) before)) [
      | inl stands ↦ absurd (none-some name (sym (sym (cond-true (list_any (bytes_eq name) before) (Some name) (first_double (before ++ name ∷ []) names) stands) ∙ e)))
      | inr none ↦
          let rest : first_double (before ++ name ∷ []) names ≡ None = sym (cond-false (list_any (bytes_eq name) before) (Some name) (first_double (before ++ name ∷ []) names) none) ∙ e in
          let all_more : AllPairs (λ a b. a ≢ b) (before ++ name ∷ []) = distinct_more bytes_eq bytes_eq-Decides before name all none in
          rw (append_assoc before (name ∷ []) names) at (names_distinct (before ++ name ∷ []) names all_more rest)
    ]
