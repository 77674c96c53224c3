-- Names that are before, and the first that does.
use Rattle.std.proofs.Common.{◌≡◌, ℕ, ◌+◌, ◌<◌, ◌≤◌, Bool, true, false, List, length, get_or, take, drop, refl, add-one, arith, drop-cons, length-take}
use Rattle.std.proofs.lemmas.List.{take_more, get_or-take}
use Rattle.std.proofs.lemmas.List.Folds.{list_any_at}
use Rattle.std.specs.List.{list_any}
use Rattle.std.specs.Str.{bytes_eq}
use Rattle.trap_parts.specs.Build.{first_double}

-- an element among the first n settles the answer
pub any_among : {X : Type 0} (p : X → Bool) (xs : List X) (i n : ℕ) (d : X) → i < n → n ≤ length xs → p (get_or xs i d) ≡ true → list_any p (take n xs) ≡ true
any_among p xs i n d h b e =
    let at : p (get_or (take n xs) i d) ≡ true = rw (get_or-take n xs i d h) e in
    list_any_at p (take n xs) i d (omega (arith, length-take n xs)) at

-- a name that isn't before is passed
pub first_double_more : (names : List (List ℕ)) (i : ℕ) (d : List ℕ) → i < length names → list_any (bytes_eq (get_or names i d)) (take i names) ≡ false
    → first_double (take (i + 1) names) (drop (i + 1) names) ≡ first_double (take i names) (drop i names)
first_double_more names i d h e =
    rw (drop-cons names i d h, e, take_more names i d h, add-one) refl
