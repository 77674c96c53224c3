-- Lists that are made number by number.
use Rattle.std.proofs.Common.{◌≡◌, ℕ, ◌+◌, List, [], ◌∷◌, ◌++◌, zero, suc, sym, ap, ◌∙◌, append_assoc, arith, map}
use Rattle.std.proofs.lemmas.List.{append-nil}
use Rattle.std.proofs.lemmas.List.FromFn.{map-range_with_len_more}
use Rattle.std.specs.List.{flat_map, range_with_len}

-- one more number
pub map_range_more : {X : Type 0} (f : ℕ → X) (n : ℕ)
    → map f (range_with_len 0 (n + 1)) ≡ map f (range_with_len 0 n) ++ f n ∷ []
map_range_more f n = map-range_with_len_more f 0 n n (omega arith)

flat_map_more : {X : Type 0} (f : ℕ → List X) (a n : ℕ)
    → flat_map f (range_with_len a (n + 1)) ≡ flat_map f (range_with_len a n) ++ f (a + n)
flat_map_more f a zero = let e : a + 0 ≡ a = omega arith in rw e (append-nil (f a))
flat_map_more f a (suc n) =
    let e : a + suc n ≡ (a + 1) + n = omega arith in
    let t : suc n + 1 ≡ suc (n + 1) = omega arith in
    rw (t, e)
    (ap (λ rest. f a ++ rest) (flat_map_more f (a + 1) n)
    ∙ sym (append_assoc (f a) (flat_map f (range_with_len (a + 1) n)) (f ((a + 1) + n))))

pub flat_map_range_more : {X : Type 0} (f : ℕ → List X) (n : ℕ)
    → flat_map f (range_with_len 0 (n + 1)) ≡ flat_map f (range_with_len 0 n) ++ f n
flat_map_range_more f n =
    let e : 0 + n ≡ n = omega arith in
    let h : flat_map f (range_with_len 0 (n + 1)) ≡ flat_map f (range_with_len 0 n) ++ f (0 + n) = flat_map_more f 0 n in
    h ∙ ap (λ k. flat_map f (range_with_len 0 n) ++ f k) e
