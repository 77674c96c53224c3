-- Cut and changed lists.
use Rattle.std.proofs.Common.{◌≡◌, ◌≢◌, ℕ, ◌+◌, ◌-◌, ◌≤◌, List, ◌++◌, map, take, drop, slice_set, sym, ap, ◌∙◌, arith}
use Rattle.std.proofs.lemmas.List.{set-set, set_comm, map-set, take-append-drop, drop-take, drop-drop}

parts : {X : Type 0} (k d : ℕ) (xs : List X) → drop k (take (k + d) xs) ++ drop (k + d) xs ≡ drop k xs
parts k d xs = rw drop-take (sym (ap (λ ys. take d (drop k xs) ++ ys) (drop-drop d k xs)) ∙ take-append-drop d (drop k xs))

-- the elements from k to m, and then those from m
pub drop_in_parts : {X : Type 0} (k m : ℕ) (xs : List X) → k ≤ m → drop k (take m xs) ++ drop m xs ≡ drop k xs
drop_in_parts k m xs h =
    let e : k + (m - k) ≡ m = omega arith in
    rw e at (parts k (m - k) xs)

-- a place that is filled twice, with another between
pub set_around : {X : Type 0} (xs : List X) (i j : ℕ) (x y z : X) → i ≢ j → slice_set (slice_set (slice_set xs i x) j z) i y ≡ slice_set (slice_set xs i y) j z
set_around xs i j x y z apart =
    ap (λ ys. slice_set ys i y) (set_comm xs i j x z apart) ∙ set-set (slice_set xs j z) i x y ∙ sym (set_comm xs i j y z apart)

-- what is seen of each element, after that
pub map_around : {X Y : Type 0} (f : X → Y) (xs : List X) (i j : ℕ) (x y z : X) → i ≢ j → map f (slice_set (slice_set (slice_set xs i x) j z) i y) ≡ slice_set (slice_set (map f xs) i (f y)) j (f z)
map_around f xs i j x y z apart =
    ap (map f) (set_around xs i j x y z apart) ∙ map-set f (slice_set xs i y) j z ∙ ap (λ ys. slice_set ys j (f z)) (map-set f xs i y)

-- two pairs of writes to four places
pub sets_commute : {X : Type 0} (xs : List X) (a b c d : ℕ) (w x y z : X) → a ≢ c → a ≢ d → b ≢ c → b ≢ d → slice_set (slice_set (slice_set (slice_set xs a w) b x) c y) d z ≡ slice_set (slice_set (slice_set (slice_set xs c y) d z) a w) b x
sets_commute xs a b c d w x y z ac ad bc bd =
    ap (λ ys. slice_set ys d z) (set_comm (slice_set xs a w) b c x y bc ∙ ap (λ ys. slice_set ys b x) (set_comm xs a c w y ac))
    ∙ set_comm (slice_set (slice_set xs c y) a w) b d x z bd
    ∙ ap (λ ys. slice_set ys b x) (set_comm (slice_set xs c y) a d w z ad)
