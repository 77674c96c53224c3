-- Lists that are made piece by piece, for each number of a range.
use Rattle.std.proofs.Common.{◌≡◌, ℕ, ◌+◌, List, [], ◌∷◌, ◌++◌, zero, suc, refl, sym, ap, ◌∙◌, append_assoc, arith, map}
use Rattle.std.proofs.lemmas.List.{append-nil}
use Rattle.std.proofs.lemmas.List.FromFn.{map-range_with_len_more}
use Rattle.std.specs.List.{flat_map, range_with_len}

-- one more number
pub flat_map_range_more : {X : Type 0} (f : ℕ → List X) (a n : ℕ) → flat_map f (range_with_len a (n + 1)) ≡ flat_map f (range_with_len a n) ++ f (a + n)
flat_map_range_more f a zero = let e : a + 0 ≡ a = omega arith in rw e (append-nil (f a))
flat_map_range_more f a (suc n) =
    let e : a + suc n ≡ (a + 1) + n = omega arith in
    let t : suc n + 1 ≡ suc (n + 1) = omega arith in
    rw (t, e) (ap (λ rest. f a ++ rest) (flat_map_range_more f (a + 1) n) ∙ sym (append_assoc (f a) (flat_map f (range_with_len (a + 1) n)) (f ((a + 1) + n))))

pub map_range_more : {X : Type 0} (f : ℕ → X) (n : ℕ) → map f (range_with_len 0 (n + 1)) ≡ map f (range_with_len 0 n) ++ f n ∷ []
map_range_more f n = map-range_with_len_more f 0 n n (omega arith)

-- one more, after what was there before
pub after_map_more : {X : Type 0} (f : ℕ → X) (old now : List X) (n : ℕ) → now ≡ old ++ map f (range_with_len 0 n) → now ++ f n ∷ [] ≡ old ++ map f (range_with_len 0 (n + 1))
after_map_more f old now n e = rw (map_range_more f n, e) (append_assoc old (map f (range_with_len 0 n)) (f n ∷ []))

pub after_pieces_more : {X : Type 0} (f : ℕ → List X) (old now : List X) (a n : ℕ) → now ≡ old ++ flat_map f (range_with_len a n) → now ++ f (a + n) ≡ old ++ flat_map f (range_with_len a (n + 1))
after_pieces_more f old now a n e = rw (flat_map_range_more f a n, e) (append_assoc old (flat_map f (range_with_len a n)) (f (a + n)))

pub map_more : {X : Type 0} (f : ℕ → X) (now : List X) (n : ℕ) → now ≡ map f (range_with_len 0 n) → now ++ f n ∷ [] ≡ map f (range_with_len 0 (n + 1))
map_more f now n e = rw (map_range_more f n, e) refl
