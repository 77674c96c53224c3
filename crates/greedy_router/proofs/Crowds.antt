-- Free places before and after a travel.
use Rattle.std.proofs.Common.{◌≡◌, ℕ, ◌+◌, ◌≤◌, cond, List, ap, inl, inr, arith}
use Rattle.std.specs.Prelude.{◌==◌}
use Rattle.std.proofs.lemmas.Bool.{cases_Bool}
use Rattle.qc_base.specs.declared.ids.Ion.{Ion}
use Rattle.trap_parts.specs.Parts.{TrapValue}
use Rattle.greedy_router.specs.Places.{one_if, IsMoved, HasFree, OthersHaveFree}
use Rattle.greedy_router.proofs.Counts.{one_apart}

-- no zone but the one where the ion went has fewer
pub others_free : (trap : TrapValue) (before after : List (List Ion)) (ion from to count : ℕ) → IsMoved before after ion from to → OthersHaveFree trap before count to → OthersHaveFree trap after count to
others_free trap before after ion from to count moved free other there apart =
    let none : one_if other to ≡ 0 = one_apart other to apart in
    let was : HasFree trap before count other = free other there apart in
    omega (arith, none, was, moved.lengths other)

one_at_most : (a b : ℕ) → one_if a b ≤ 1
one_at_most a b = elim (cases_Bool (a == b)) [
  | inl same ↦ omega (arith, ap (λ b. cond {A = ℕ} b 1 0) same)
  | inr other ↦ omega (arith, ap (λ b. cond {A = ℕ} b 1 0) other)
]

-- the one where it went has at most one fewer
pub one_fewer : (trap : TrapValue) (before after : List (List Ion)) (ion from to count : ℕ) → IsMoved before after ion from to → HasFree trap before (count + 1) to → HasFree trap after count to
one_fewer trap before after ion from to count moved free = omega (arith, free, moved.lengths to, one_at_most to to)
