-- All zones together have twice as many free places as there are zones.
use Rattle.std.proofs.Common.{◌≡◌, ℕ, zero, suc, ◌+◌, ◌*◌, ◌<◌, ◌≤◌, List, [], ◌∷◌, length, refl, ap, inl, inr, arith}
use Rattle.std.proofs.lemmas.Bool.{cases_eq, cases_lt}
use Rattle.qc_base.specs.declared.ids.Ion.{Ion}
use Rattle.trap_parts.specs.Parts.{TrapValue}
use Rattle.trap_model.specs.Trap.{limit_of}
use Rattle.ion_chain.specs.Transfer.{list_at}
use Rattle.greedy_router.specs.Places.{one_if, IsMoved, IsCalm, HasFree, ions_before, limits_before}
use Rattle.greedy_router.proofs.Counts.{one_same, one_apart}

no_ions : (ions : List Ion) → length ions ≡ 0 → ions ≡ []
no_ions [] e = refl
no_ions (ion ∷ ions) e = absurd (omega arith)

-- how many of the first so many places are that one
abbrev ones_before : ℕ → ℕ → ℕ
ones_before place zero = 0
ones_before place (suc n) = ones_before place n + one_if n place

none_before : (place n : ℕ) → n ≤ place → ones_before place n ≡ 0
none_before place zero h = refl
none_before place (suc n) h = omega (arith, none_before place n (omega arith), one_apart n place (λ e. absurd (omega (arith, e, h))))

one_before : (place n : ℕ) → place < n → ones_before place n ≡ 1
one_before place zero h = absurd (omega arith)
one_before place (suc n) h = elim (cases_eq n place) [
  | inl same ↦ omega (arith, none_before place n (omega (arith, same)), one_same n place same)
  | inr other ↦ omega (arith, one_before place n (omega (arith, h, other)), one_apart n place other)
]

ions_moved : (before after : List (List Ion)) (ion from to n : ℕ) → IsMoved before after ion from to → ions_before after n + ones_before from n ≡ ions_before before n + ones_before to n
ions_moved before after ion from to zero moved = refl
ions_moved before after ion from to (suc n) moved = omega (arith, ions_moved before after ion from to n moved, moved.lengths n)

pub calm_moved : (trap : TrapValue) (before after : List (List Ion)) (ion from to : ℕ) → IsCalm trap before → IsMoved before after ion from to
    → from < length trap.zones → to < length trap.zones → IsCalm trap after
calm_moved trap before after ion from to calm moved in_from in_to =
    let zones : ℕ = length trap.zones in
    record {
      slots = λ place past. no_ions (list_at after place)
          (omega (arith, moved.lengths place, ap length (calm.slots place past), one_apart place to (λ e. absurd (omega (arith, e, past, in_to)))));
      spare = omega (arith, calm.spare, ions_moved before after ion from to zones moved, one_before from zones in_from, one_before to zones in_to);
    }

-- no more than two free places in each of these zones, and at most one in that one
few_free : (trap : TrapValue) (config : List (List Ion)) (n : ℕ) → ((other : ℕ) → other < n → ¬ HasFree trap config 3 other) → limits_before trap n ≤ ions_before config n + 2 * n
few_free trap config zero full = omega arith
few_free trap config (suc n) full = elim (cases_lt (limit_of trap n) (length (list_at config n) + 3)) [
  | inl few ↦ omega (arith, few, few_free trap config n (λ other h. full other (omega arith)))
  | inr room ↦ absurd (full n (omega arith) room)
]

fewer_free : (trap : TrapValue) (config : List (List Ion)) (zone n : ℕ) → zone < n → limit_of trap zone < length (list_at config zone) + 2 → ((other : ℕ) → other < n → ¬ HasFree trap config 3 other)
    → limits_before trap n < ions_before config n + 2 * n
fewer_free trap config zone zero h crowded full = absurd (omega arith)
fewer_free trap config zone (suc n) h crowded full = elim (cases_eq n zone) [
  | inl same ↦
      omega (arith, crowded, few_free trap config n (λ other h. full other (omega arith)), ap (limit_of trap) same, ap (λ (p : ℕ). length (list_at config p)) same)
  | inr other ↦ elim (cases_lt (limit_of trap n) (length (list_at config n) + 3)) [
    | inl few ↦ omega (arith, few, fewer_free trap config zone n (omega (arith, h, other)) crowded (λ o h. full o (omega arith)))
    | inr room ↦ absurd (full n (omega arith) room)
  ]
]

-- where one zone has fewer than two free places, another has at least three
pub another_roomy : (trap : TrapValue) (config : List (List Ion)) (zone : ℕ) → IsCalm trap config → ((other : ℕ) → other < length trap.zones → length (list_at config other) ≤ limit_of trap other)
    → zone < length trap.zones → limit_of trap zone < length (list_at config zone) + 2 → ((other : ℕ) → other < length trap.zones → ¬ HasFree trap config 3 other) → ⊥
another_roomy trap config zone calm within there crowded full = absurd (omega (arith, calm.spare, fewer_free trap config zone (length trap.zones) there crowded full))
