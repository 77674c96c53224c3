-- Of two qubits, the one that is used first comes first.
use Rattle.std.proofs.Common.{◌≡◌, ◌≢◌, ℕ, ◌+◌, ◌<◌, List, [], ◌∷◌, true, false, not, refl, sym, subst, ◌∙◌, inl, inr, arith}
use Rattle.std.specs.Prelude.{◌==◌, Bool}
use Rattle.std.specs.List.{filter}
use Rattle.std.proofs.lemmas.Bool.{eq-eqb, ne_eqb, cases_eq}
use Rattle.qc_base.specs.declared.ids.Qubit.{Qubit}
use Rattle.step_rules.specs.Placement.{place_of}
use Rattle.placement.specs.FirstUse.{is_other, without_repeats}

place_here : (a x : Qubit) (xs : List Qubit) → x.0 ≡ a.0 → place_of a (x ∷ xs) ≡ 0
place_here a x xs same = let here : (x.0 == a.0) ≡ true = eq-eqb x.0 a.0 same in rw here refl

place_later : (a x : Qubit) (xs : List Qubit) → x.0 ≢ a.0 → place_of a (x ∷ xs) ≡ 1 + place_of a xs
place_later a x xs other = let there : (x.0 == a.0) ≡ false = ne_eqb x.0 a.0 other in rw there refl

dropped : (q x : Qubit) (xs : List Qubit) → x.0 ≡ q.0 → filter (is_other q) (x ∷ xs) ≡ filter (is_other q) xs
dropped q x xs same = let here : (x.0 == q.0) ≡ true = eq-eqb x.0 q.0 same in rw here refl

kept : (q x : Qubit) (xs : List Qubit) → x.0 ≢ q.0 → filter (is_other q) (x ∷ xs) ≡ x ∷ filter (is_other q) xs
kept q x xs other = let there : (x.0 == q.0) ≡ false = ne_eqb x.0 q.0 other in rw there refl

-- both are later than the first, or the first is that one and not the other
after_first : (a b x : Qubit) (xs ys : List Qubit) → place_of a (x ∷ xs) < place_of b (x ∷ xs) → (place_of a xs < place_of b xs → place_of a ys < place_of b ys) → place_of a (x ∷ ys) < place_of b (x ∷ ys)
after_first a b x xs ys h so = elim (cases_eq x.0 b.0) [
  | inl same ↦ absurd (omega (arith, h, place_here b x xs same))
  | inr apart ↦ elim (cases_eq x.0 a.0) [
    | inl here ↦ omega (arith, place_here a x ys here, place_later b x ys apart)
    | inr other ↦ (let rest : place_of a xs < place_of b xs = omega (arith, h, place_later a x xs other, place_later b x xs apart) in
        omega (arith, so rest, place_later a x ys other, place_later b x ys apart))
  ]
]

-- without a third qubit they are in the same order
kept_order : (q a b : Qubit) (xs : List Qubit) → q.0 ≢ a.0 → q.0 ≢ b.0 → place_of a xs < place_of b xs → place_of a (filter (is_other q) xs) < place_of b (filter (is_other q) xs)
kept_order q a b [] no_a no_b h = absurd (omega (arith, h))
kept_order q a b (x ∷ xs) no_a no_b h = elim (cases_eq x.0 q.0) [
  | inl same ↦ (let rest : place_of a xs < place_of b xs = omega (arith, h, place_later a x xs (λ e. no_a (sym same ∙ e)), place_later b x xs (λ e. no_b (sym same ∙ e))) in
      subst (λ (l : List Qubit). place_of a l < place_of b l) (sym (dropped q x xs same)) (kept_order q a b xs no_a no_b rest))
  | inr other ↦ subst (λ (l : List Qubit). place_of a l < place_of b l) (sym (kept q x xs other))
      (after_first a b x xs (filter (is_other q) xs) h (kept_order q a b xs no_a no_b))
]

pub earlier : (uses : List Qubit) (a b : Qubit) → place_of a uses < place_of b uses → place_of a (without_repeats uses) < place_of b (without_repeats uses)
earlier [] a b h = absurd (omega (arith, h))
earlier (q ∷ uses) a b h = elim (cases_eq q.0 b.0) [
  | inl same ↦ absurd (omega (arith, h, place_here b q uses same))
  | inr apart ↦ elim (cases_eq q.0 a.0) [
    | inl here ↦ omega (arith, place_here a q (filter (is_other q) (without_repeats uses)) here, place_later b q (filter (is_other q) (without_repeats uses)) apart)
    | inr other ↦ (let rest : place_of a uses < place_of b uses = omega (arith, h, place_later a q uses other, place_later b q uses apart) in
        omega (
          arith,
          kept_order q a b (without_repeats uses) other apart (earlier uses a b rest),
          place_later a q (filter (is_other q) (without_repeats uses)) other,
          place_later b q (filter (is_other q) (without_repeats uses)) apart,
        ))
  ]
]
