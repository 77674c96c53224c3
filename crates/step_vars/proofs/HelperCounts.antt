-- How many helpers lists have.
use Rattle.std.proofs.Common.{◌≡◌, ℕ, ◌+◌, ◌-◌, ◌*◌, ◌/◌, ◌<◌, ◌≤◌, cond, List, [], ◌∷◌, ◌++◌, length, map, min, zero, suc, sym, ap, ◌∙◌, arith, inl, inr, zero-add, add-zero}
use Rattle.std.specs.Prelude.{nat_le, nat_lt, ◌==◌}
use Rattle.std.specs.List.{range_with_len}
use Rattle.std.proofs.lemmas.Bool.{cond_both, cases_lt, lt-ltb, le-ltb}
use Rattle.std.proofs.Math.Nat.{mul-le-mul_left, mul-le-mul_right, mul-add}
use Rattle.at_most.specs.Sequential.{sequential_count}
use Rattle.at_most.specs.Totalizer.{output_count, totalizer_count}
use Rattle.step_vars.specs.declared.encoding.Encoding.{Encoding}
use Rattle.step_vars.specs.declared.encoding.Encoding.TheVariants as encodings
use Rattle.step_vars.specs.declared.item.Bound.{Bound}
use Rattle.step_vars.specs.Limits.{fresh_for, count_by}
use Rattle.step_vars.specs.Encoding.{helper_count}
use Rattle.step_vars.proofs.Ranges.{map_more}

pub helper_count-append : (encoding : Encoding) (xs ys : List Bound) → helper_count encoding (xs ++ ys) ≡ helper_count encoding xs + helper_count encoding ys
helper_count-append encoding [] ys = sym (zero-add (helper_count encoding ys))
helper_count-append encoding (x ∷ xs) ys =
    ap (λ n. fresh_for encoding (length x.items) x.limit + n) (helper_count-append encoding xs ys) ∙ omega arith

-- one list more
pub helpers_more : (encoding : Encoding) (f : ℕ → Bound) (n : ℕ) → helper_count encoding (map f (range_with_len 0 (n + 1))) ≡ helper_count encoding (map f (range_with_len 0 n)) + fresh_for encoding (length (f n).items) (f n).limit
helpers_more encoding f n =
    let split : helper_count encoding (map f (range_with_len 0 (n + 1))) ≡ helper_count encoding (map f (range_with_len 0 n) ++ f (0 + n) ∷ []) = ap (helper_count encoding) (map_more f 0 n) in
    split ∙ helper_count-append encoding (map f (range_with_len 0 n)) (f (0 + n) ∷ [])
    ∙ ap (λ k. helper_count encoding (map f (range_with_len 0 n)) + (fresh_for encoding (length (f k).items) (f k).limit + 0)) (zero-add n)
    ∙ ap (λ k. helper_count encoding (map f (range_with_len 0 n)) + k) (add-zero (fresh_for encoding (length (f n).items) (f n).limit))

pub helpers_step : (encoding : Encoding) (f : ℕ → Bound) (count n fresh j : ℕ) → count ≡ helper_count encoding (map f (range_with_len 0 j)) → fresh ≡ fresh_for encoding n (f j).limit → n ≡ length (f j).items
    → count + fresh ≡ helper_count encoding (map f (range_with_len 0 (j + 1)))
helpers_step encoding f count n fresh j e is same =
    ap (λ k. k + fresh) e
    ∙ ap (λ k. helper_count encoding (map f (range_with_len 0 j)) + k) (is ∙ ap (λ k. fresh_for encoding k (f j).limit) same)
    ∙ sym (helpers_more encoding f j)

halves : (n : ℕ) → n / 2 ≤ n
halves n = omega arith

split_product : (h a b n : ℕ) → a + b ≡ n → h * a + h * b ≡ h * n
split_product h a b n e = sym (mul-add h a b) ∙ ap (λ m. h * m) e

few_outputs : (halvings n k : ℕ) → output_count halvings n k ≤ halvings * n
few_outputs zero n k = omega arith
few_outputs (suc halvings) n k =
    let half = n / 2 in
    let split : halvings * half + halvings * (n - half) ≡ halvings * n = split_product halvings half (n - half) n (omega (arith, halves n)) in
    let whole : output_count halvings half k + output_count halvings (n - half) k + min n (k + 1) ≤ suc halvings * n =
    omega (arith, few_outputs halvings half k, few_outputs halvings (n - half) k, split) in
    cond_both (nat_le n 1) 0 (output_count halvings half k + output_count halvings (n - half) k + min n (k + 1)) (λ m. m ≤ suc halvings * n) (λ _. omega arith) (λ _. whole)

few_by_one : (encoding : Encoding) (n : ℕ) → count_by encoding n 1 ≤ n
few_by_one encodings.Pairwise n = omega arith
few_by_one encodings.Counter n = cond_both (nat_le n 4) 0 (sequential_count n 1) (λ m. m ≤ n) (λ _. omega arith) (λ _. omega arith)

pub fresh_one_few : (encoding : Encoding) (n : ℕ) → fresh_for encoding n 1 ≤ n
unfolding fresh_for
fresh_one_few encoding n = cond_both (nat_lt 1 n) (count_by encoding n 1) 0 (λ m. m ≤ n) (λ _. few_by_one encoding n) (λ _. omega arith)

few_sequential : (n k : ℕ) → k < n → sequential_count n k ≤ n * n
few_sequential n k h =
    let most : (n - 1) * k ≤ (n - 1) * n = mul-le-mul_left (n - 1) (omega arith) in
    let more : (n - 1) * n ≤ n * n = mul-le-mul_right n (omega arith) in
    omega (arith, most, more)

few_by : (encoding : Encoding) (n k : ℕ) → k < n → count_by encoding n k ≤ n * n
few_by encodings.Pairwise n k h = omega arith
few_by encodings.Counter n k h =
    cond_both (nat_le n 4) 0 (cond (k == 1) (sequential_count n k) (totalizer_count n k)) (λ m. m ≤ n * n) (λ _. omega arith)
    (λ _. cond_both (k == 1) (sequential_count n k) (totalizer_count n k) (λ m. m ≤ n * n) (λ _. few_sequential n k h) (λ _. few_outputs n n k))

pub fresh_few : (encoding : Encoding) (n k : ℕ) → n ≤ 16 → fresh_for encoding n k ≤ 256
unfolding fresh_for
fresh_few encoding n k h =
    let square : n * n ≤ 16 * 16 = omega (arith, mul-le-mul_left n h, mul-le-mul_right 16 h) in
    elim (cases_lt k n) [
      | inl below ↦ rw (lt-ltb k n below) (omega (arith, few_by encoding n k below, square))
      | inr past ↦ rw (le-ltb k n past) (omega arith)
    ]
