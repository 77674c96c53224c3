-- Greatest levels, and levels that are raised one by one.
use Rattle.std.proofs.Common.{◌≡◌, ℕ, ◌+◌, ◌<◌, ◌≤◌, max, List, [], ◌∷◌, length, take, Some, refl, sym, ap, subst, ◌∙◌, inl, inr, arith}
use Rattle.std.specs.Prelude.{slice_get, slice_index, ◌⊎◌, Contains}
use Rattle.std.proofs.lemmas.Bool.{cases_eq, cases_lt, cases_order}
use Rattle.std.proofs.lemmas.List.{take_all}
use Rattle.std.proofs.lemmas.List.Elements.{Contains-append_left, Contains-push, Contains-push_cases}
use Rattle.qc_base.specs.declared.ids.Qubit.{Qubit}
use Rattle.compact.specs.Levels.{IsRaised, IsLevelOf, IsGreatest, AreRaised}
use Rattle.compact.proofs.Building.{take_next}

pub greatest_none : {W : Type 0} (on : W → Type 0) (level : W → ℕ) → ((which : W) → on which → ⊥) → IsGreatest on level 0
greatest_none on level none = record { above = λ which it. absurd (none which it); reached = inl refl }

pub greatest_same : {W : Type 0} (on now : W → Type 0) (level : W → ℕ) (greatest : ℕ) → ((which : W) → on which → now which) → ((which : W) → now which → on which) → IsGreatest on level greatest → IsGreatest now level greatest
greatest_same on now level greatest to back is = record {
  above = λ which it. is.above which (back which it);
  reached = elim is.reached [
    | inl none ↦ inl none
    | inr at ↦ (let it : IsLevelOf on level greatest = at in inr (record { which = it.which; is_on = to it.which it.is_on; is_level = it.is_level }))
  ];
}

-- of the one or the other
pub greatest_either : {W V : Type 0} (first : W → Type 0) (second : V → Type 0) (level : W → ℕ) (other : V → ℕ) (U : Type 0) (on : U → Type 0) (whole : U → ℕ) (of_first : W → U) (of_second : V → U) (g h n : ℕ)
    → ((which : W) → whole (of_first which) ≡ level which) → ((which : V) → whole (of_second which) ≡ other which)
    → ((which : W) → first which → on (of_first which)) → ((which : V) → second which → on (of_second which))
    → ((which : U) → on which → ((w : W) × first w × (of_first w ≡ which)) ⊎ ((v : V) × second v × (of_second v ≡ which)))
    → IsGreatest first level g → IsGreatest second other h → n ≡ max g h → IsGreatest on whole n
greatest_either {W} {V} first second level other U on whole of_first of_second g h n same_first same_second to_first to_second cases is_first is_second e = record {
  above = λ which it. elim (cases which it) [
    | inl a ↦ (let below : level a.0 ≤ g = is_first.above a.0 a.1 in
        let is : whole which ≡ level a.0 = ap whole (sym a.2) ∙ same_first a.0 in omega arith)
    | inr b ↦ (let below : other b.0 ≤ h = is_second.above b.0 b.1 in
        let is : whole which ≡ other b.0 = ap whole (sym b.2) ∙ same_second b.0 in omega arith)
  ];
  reached = elim (cases_lt g h) [
    | inl less ↦ elim is_second.reached [
      | inl none ↦ inl (omega arith)
      | inr at ↦ (let it : IsLevelOf second other h = at in
          inr (record { which = of_second it.which; is_on = to_second it.which it.is_on; is_level = omega (arith, same_second it.which, it.is_level) }))
    ]
    | inr more ↦ elim is_first.reached [
      | inl none ↦ inl (omega arith)
      | inr at ↦ (let it : IsLevelOf first level g = at in
          inr (record { which = of_first it.which; is_on = to_first it.which it.is_on; is_level = omega (arith, same_first it.which, it.is_level) }))
    ]
  ];
}

pub greatest_more : {W : Type 0} (on now : W → Type 0) (level : W → ℕ) (greatest this next : ℕ) (one : W) → this ≡ level one → next ≡ max this greatest → ((which : W) → on which → now which) → now one → ((which : W) → now which → on which ⊎ (one ≡ which))
    → IsGreatest on level greatest → IsGreatest now level next
greatest_more {W} on now level greatest this next one read e to new cases is = record {
  above = λ which it. elim (cases which it) [
    | inl old ↦ (let below : level which ≤ greatest = is.above which old in omega arith)
    | inr same ↦ (let at : level one ≡ level which = ap level same in omega arith)
  ];
  reached = elim (cases_lt greatest this) [
    | inl less ↦ inr (record { which = one; is_on = new; is_level = omega arith })
    | inr more ↦ elim is.reached [
      | inl none ↦ inl (omega arith)
      | inr at ↦ (let it : IsLevelOf on level greatest = at in inr (record { which = it.which; is_on = to it.which it.is_on; is_level = omega (arith, it.is_level) }))
    ]
  ];
}

-- ---- raising

pub raised_none : {W : Type 0} (on : W → Type 0) (old : W → ℕ) (level : ℕ) → ((which : W) → on which → ⊥) → AreRaised on old old level
raised_none on old level none which = inr (none which, refl)

pub raised_same : {W : Type 0} (on now : W → Type 0) (old new : W → ℕ) (level : ℕ) → ((which : W) → on which → now which) → ((which : W) → now which → on which) → AreRaised on old new level → AreRaised now old new level
raised_same on now old new level to back raised which = elim (raised which) [
  | inl up ↦ inl (to which up.0, up.1)
  | inr kept ↦ inr (λ it. kept.0 (back which it), kept.1)
]

pub raised_more : (on now : ℕ → Type 0) (old mid new : List ℕ) (level one : ℕ) → IsRaised mid new one level → ((which : ℕ) → on which → now which) → now one → ((which : ℕ) → now which → on which ⊎ (one ≡ which))
    → AreRaised on (slice_index old) (slice_index mid) level → AreRaised now (slice_index old) (slice_index new) level
raised_more on now old mid new level one is to here cases raised which = elim (cases_eq which one) [
  | inl same ↦ (let new_is : slice_index new which ≡ slice_index new one = ap (slice_index new) same in
      let mid_is : slice_index mid which ≡ slice_index mid one = ap (slice_index mid) same in
      elim (raised which) [
        | inl up ↦ inl (subst now (sym same) here, omega (arith, up.1, is.here))
        | inr kept ↦ inl (subst now (sym same) here, omega (arith, kept.1, is.here))
      ])
  | inr other ↦ (let stays : slice_index new which ≡ slice_index mid which = is.others which other in
      elim (raised which) [
        | inl up ↦ inl (to which up.0, stays ∙ up.1)
        | inr kept ↦ inr (
          λ it. elim (cases which it) [
            | inl old_one ↦ kept.0 old_one
            | inr one_is ↦ other (sym one_is)
          ],
          stays ∙ kept.1,
        )
      ])
]

-- first one list of levels, then the next
pub raised_twice : {W : Type 0} (first second on : W → Type 0) (old mid new : W → ℕ) (level : ℕ) → ((which : W) → first which → on which) → ((which : W) → second which → on which) → ((which : W) → on which → first which ⊎ second which)
    → AreRaised first old mid level → AreRaised second mid new level → AreRaised on old new level
raised_twice first second on old mid new level to_first to_second cases up down which = elim (up which) [
  | inl a ↦ elim (down which) [
    | inl b ↦ inl (to_first which a.0, omega (arith, a.1, b.1))
    | inr b ↦ inl (to_first which a.0, b.1 ∙ a.1)
  ]
  | inr a ↦ elim (down which) [
    | inl b ↦ inl (to_second which b.0, omega (arith, a.1, b.1))
    | inr b ↦ inr (
      λ it. elim (cases which it) [
        | inl one ↦ a.0 one
        | inr other ↦ b.0 other
      ],
      b.1 ∙ a.1,
    )
  ]
]

-- ---- the qubits of an operation, one by one

abbrev pub Has : List Qubit → ℕ → Type 0
Has qubits number = Contains qubits (record { 0 = number })

pub has_old : (qubits : List Qubit) (index : ℕ) (qubit : Qubit) → slice_get qubits index ≡ Some qubit → (number : ℕ) → Has (take index qubits) number → Has (take (index + 1) qubits) number
has_old qubits index qubit e number it =
    subst (λ (l : List Qubit). Has l number) (sym (take_next qubits index qubit e)) (Contains-append_left (take index qubits) (qubit ∷ []) (record { 0 = number }) it)

pub has_new : (qubits : List Qubit) (index : ℕ) (qubit : Qubit) → slice_get qubits index ≡ Some qubit → Has (take (index + 1) qubits) qubit.0
has_new qubits index qubit e = subst (λ (l : List Qubit). Has l qubit.0) (sym (take_next qubits index qubit e)) (Contains-push (take index qubits) qubit)

pub has_cases : (qubits : List Qubit) (index : ℕ) (qubit : Qubit) → slice_get qubits index ≡ Some qubit → (number : ℕ) → Has (take (index + 1) qubits) number → Has (take index qubits) number ⊎ (qubit.0 ≡ number)
has_cases qubits index qubit e number it = elim (Contains-push_cases (take index qubits) qubit (record { 0 = number }) (subst (λ (l : List Qubit). Has l number) (take_next qubits index qubit e) it)) [
  | inl old ↦ inl old
  | inr new ↦ inr (ap (λ (q : Qubit). q.0) new)
]

pub has_none : (qubits : List Qubit) (number : ℕ) → Has (take 0 qubits) number → ⊥
has_none qubits number it = omega (arith, it.1)

pub has_all : (qubits : List Qubit) (index : ℕ) → length qubits ≤ index → take index qubits ≡ qubits
has_all qubits index h = take_all index qubits h

-- ---- a range, number by number

abbrev pub IsBetween : ℕ → ℕ → ℕ → Type 0
IsBetween from end number = (from ≤ number) × (number < end)

pub between_cases : (from end number : ℕ) → from ≤ end → IsBetween from (end + 1) number → IsBetween from end number ⊎ (end ≡ number)
between_cases from end number h it = elim (cases_order number end) [
  | inl same ↦ inr (sym same)
  | inr other ↦ elim other [
    | inl less ↦ inl (it.0, less)
    | inr more ↦ absurd (omega (arith, it.1))
  ]
]
