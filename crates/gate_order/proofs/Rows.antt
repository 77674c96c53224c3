-- The rows of operations after each operation.
use Rattle.std.proofs.Common.{◌≡◌, ℕ, zero, suc, ◌+◌, ◌<◌, List, [], ◌∷◌, ◌++◌, length, get_or, refl, sym, ap, subst, ◌∙◌, inl, inr, arith}
use Rattle.std.specs.Prelude.{slice_index_or, slice_get, Some, Contains, replicate}
use Rattle.std.proofs.Math.ListN.{set, length-set}
use Rattle.std.proofs.lemmas.Bool.{cases_eq}
use Rattle.std.proofs.lemmas.List.{get_or-set_same, get_or-set_other, get_or_default, length-replicate}
use Rattle.std.proofs.lemmas.List.Elements.{Contains-append_left, Contains-push, Contains-push_cases}
use Rattle.std.proofs.lemmas.Option.{get_or_from_slice_get, slice_get_within}
use Rattle.qc_base.specs.declared.ids.OpId.{OpId}
use Rattle.circuit_core.specs.Circuit.{CircuitValue}
use Rattle.circuit_core.specs.Nearest.{IsNearestTable}
use Rattle.gate_order.specs.Keeping.{op, row, near_at, AreBelow, AreAdded, AreAfter}
use Rattle.gate_order.proofs.Order.{entry_before}

abbrev Lists : Type 0
Lists = List (List ℕ)

abbrev list_at : Lists → ℕ → List ℕ
list_at lists k = slice_index_or lists k []

abbrev nobody : List ℕ
nobody = []

pub added_none : (near : List OpId) (number : ℕ) (lists : Lists) → AreAdded near 0 number lists lists
added_none near number lists = record { len = refl; sound = λ before other has. inl has; kept = λ before other has. has; added = λ k below. absurd (omega arith) }

pub added_more : (near : List OpId) (count number place : ℕ) (old new : Lists) (list : List ℕ) → AreAdded near count number old new → place < length new → list ≡ get_or new place list → place ≡ (slice_index_or near count (op 0)).0
    → AreAdded near (count + 1) number old (set new place (list ++ number ∷ []))
added_more near count number place old new list before within read is = record {
  len = length-set new place (list ++ number ∷ []) ∙ before.len;
  sound = λ at other has. elim (cases_eq at place) [
    | inl same ↦ elim (Contains-push_cases list number other (subst (λ (l : List ℕ). Contains l other) (here at same) has)) [
      | inl was ↦ before.sound at other (subst (λ (l : List ℕ). Contains l other) (read_here at same) was)
      | inr new ↦ inr (sym new)
    ]
    | inr ne ↦ before.sound at other (subst (λ (l : List ℕ). Contains l other) (get_or-set_other new place at (list ++ number ∷ []) nobody ne) has)
  ];
  kept = λ at other has. stays at other (before.kept at other has);
  added = λ k below. elim (cases_eq k count) [
    | inl last ↦ subst (λ i. Contains (list_at (set new place (list ++ number ∷ [])) i) number) (is ∙ ap (λ i. (slice_index_or near i (op 0)).0) (sym last))
        (subst (λ (l : List ℕ). Contains l number) (sym (get_or-set_same new place (list ++ number ∷ []) nobody within)) (Contains-push list number))
    | inr other ↦ stays (slice_index_or near k (op 0)).0 number (before.added k (omega arith))
  ];
} where
  here : (at : ℕ) → at ≡ place → list_at (set new place (list ++ number ∷ [])) at ≡ list ++ number ∷ []
  here at same = ap (λ i. list_at (set new place (list ++ number ∷ [])) i) same ∙ get_or-set_same new place (list ++ number ∷ []) nobody within

  read_here : (at : ℕ) → at ≡ place → list ≡ list_at new at
  read_here at same = read ∙ get_or_default new place list nobody within ∙ ap (λ i. list_at new i) (sym same)

  stays : (at other : ℕ) → Contains (list_at new at) other → Contains (list_at (set new place (list ++ number ∷ [])) at) other
  stays at other has = elim (cases_eq at place) [
    | inl same ↦ subst (λ (l : List ℕ). Contains l other) (sym (here at same)) (Contains-append_left list (number ∷ []) other (subst (λ (l : List ℕ). Contains l other) (sym (read_here at same)) has))
    | inr ne ↦ subst (λ (l : List ℕ). Contains l other) (sym (get_or-set_other new place at (list ++ number ∷ []) nobody ne)) has
  ]

none_in : {X : Type 0} (number : ℕ) → Contains nobody number → X
none_in number (k, within, is) = absurd (omega (arith, within))

empty_at : (count k : ℕ) → list_at (replicate count nobody) k ≡ nobody
empty_at zero k = refl
empty_at (suc count) zero = refl
empty_at (suc count) (suc k) = empty_at count k

pub after_none : (near : List (List OpId)) (lists : Lists) (count : ℕ) → count ≡ length near → lists ≡ replicate count [] → AreAfter near 0 lists
after_none near lists count many is = subst (AreAfter near 0) (sym is) (record {
  len = length-replicate count nobody ∙ many;
  sound = λ before number has. none_in number (subst (λ (l : List ℕ). Contains l number) (empty_at count before) has);
  all = λ number k below. absurd (omega arith);
})

pub after_more : (near : List (List OpId)) (count : ℕ) (old new : Lists) (list : List OpId) → AreAfter near count old → count < length near → slice_get near count ≡ Some list → AreAdded list (length list) count old new → AreAfter near (count + 1) new
after_more near count old new list before within at added = record {
  len = added.len ∙ before.len;
  sound = λ earlier number has. elim (added.sound earlier number has) [
    | inl was ↦ before.sound earlier number was
    | inr same ↦ omega (arith, same, within)
  ];
  all = λ number k below in_row. elim (cases_eq number count) [
    | inl last ↦ (let is_row : row near number ≡ list = ap (λ i. row near i) last ∙ get_or_from_slice_get near count list [] at in
        subst (λ i. Contains (list_at new (near_at near number k)) i) (sym last)
        (subst (λ (l : List OpId). Contains (list_at new (slice_index_or l k (op 0)).0) count) (sym is_row) (added.added k (omega (arith, in_row, ap (λ (l : List OpId). length l) is_row)))))
    | inr other ↦ added.kept (near_at near number k) number (before.all number k (omega arith) in_row)
  ];
}

-- those right before an operation are before it
pub row_below : (circuit : CircuitValue) (near : List (List OpId)) (number : ℕ) (list : List OpId) → IsNearestTable circuit near → slice_get near number ≡ Some list → AreBelow (length near) list
row_below circuit near number list table at k d in_list =
    let is_row : row near number ≡ list = get_or_from_slice_get near number list [] at in
    let within : number < length near = slice_get_within near number list at in
    let before : near_at near number k < number = entry_before circuit near number k table within (omega (arith, in_list, ap (λ (l : List OpId). length l) is_row)) in
    let same : (slice_index_or list k d).0 ≡ near_at near number k = ap (λ (it : OpId). it.0) (get_or_default list k d (op 0) in_list) ∙ ap (λ (l : List OpId). (slice_index_or l k (op 0)).0) (sym is_row) in
    omega (arith, before, same, within)
