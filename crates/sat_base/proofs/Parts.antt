-- A list that is kept as one long list and the ends of its parts.
use Rattle.std.proofs.Common.{◌≡◌, ℕ, zero, suc, ◌-◌, ◌<◌, ◌≤◌, List, [], ◌∷◌, ◌++◌, length, take, drop, slice_index_or, refl, ap, ◌∙◌, arith, length-append, length-drop, le_refl}
use Rattle.std.proofs.lemmas.List.{drop_at, drop-append-le, take-append-le, take_all}
use Rattle.sat_base.specs.Pieces.{pieces, AreEnds}

pub length-pieces : {X : Type 0} (start : ℕ) (ends : List ℕ) (xs : List X) → length (pieces start ends xs) ≡ length ends
length-pieces start [] xs = refl
length-pieces start (end ∷ ends) xs = ap suc (length-pieces end ends xs)

pub start_within : (start : ℕ) (ends : List ℕ) (whole : ℕ) → AreEnds start ends whole → start ≤ whole
start_within start [] whole same = omega arith
start_within start (end ∷ ends) whole are = let rest : end ≤ whole = start_within end ends whole are.1 in omega arith

-- what comes after the last end belongs to no part
pub pieces-append : {X : Type 0} (start : ℕ) (ends : List ℕ) (xs ys : List X) → AreEnds start ends (length xs) → pieces start ends (xs ++ ys) ≡ pieces start ends xs
pieces-append start [] xs ys are = refl
pieces-append start (end ∷ ends) xs ys are =
    let within : end ≤ length xs = start_within end ends (length xs) are.1 in
    let begins : start ≤ length xs = omega arith in
    let room : end - start ≤ length (drop start xs) = simp length-drop (omega arith) in
    rw (drop-append-le start xs ys begins, take-append-le (end - start) (drop start xs) ys room, pieces-append end ends xs ys are.1)

-- a further end adds the part from the last end to it
last_piece : {X : Type 0} (start : ℕ) (ends : List ℕ) (whole end : ℕ) (xs : List X) → AreEnds start ends whole → pieces start (ends ++ end ∷ []) xs ≡ pieces start ends xs ++ take (end - whole) (drop whole xs) ∷ []
last_piece start [] whole end xs same = rw same
last_piece start (next ∷ ends) whole end xs are = rw (last_piece next ends whole end xs are.1)

pub pieces-push : {X : Type 0} (ends : List ℕ) (xs ys : List X) → AreEnds 0 ends (length xs) → pieces 0 (ends ++ length (xs ++ ys) ∷ []) (xs ++ ys) ≡ pieces 0 ends xs ++ ys ∷ []
pieces-push ends xs ys are =
    let size : length (xs ++ ys) - length xs ≡ length ys = rw (length-append xs ys) (omega arith) in
    last_piece 0 ends (length xs) (length (xs ++ ys)) (xs ++ ys) are
    ∙ rw (pieces-append 0 ends xs ys are, drop_at xs ys (length xs) refl, size, take_all (length ys) ys (le_refl (length ys)))

pub AreEnds-push : (start : ℕ) (ends : List ℕ) (whole end : ℕ) → AreEnds start ends whole → whole ≤ end → AreEnds start (ends ++ end ∷ []) end
AreEnds-push start [] whole end same grows = (omega arith, refl)
AreEnds-push start (next ∷ ends) whole end are grows = (are.0, AreEnds-push next ends whole end are.1 grows)

pub piece_at : {X : Type 0} (start : ℕ) (ends : List ℕ) (xs : List X) (index : ℕ) → index < length ends → slice_index_or (pieces start ends xs) index [] ≡ take (slice_index_or ends index 0 - slice_index_or (start ∷ ends) index 0) (drop (slice_index_or (start ∷ ends) index 0) xs)
piece_at start [] xs index within = absurd (omega arith)
piece_at start (end ∷ ends) xs zero within = refl
piece_at start (end ∷ ends) xs (suc index) within = piece_at end ends xs index (omega arith)

pub part_within : (start : ℕ) (ends : List ℕ) (whole index : ℕ) → AreEnds start ends whole → index < length ends → (slice_index_or (start ∷ ends) index 0 ≤ slice_index_or ends index 0) × (slice_index_or ends index 0 ≤ whole)
part_within start [] whole index are within = absurd (omega arith)
part_within start (end ∷ ends) whole zero are within = (are.0, start_within end ends whole are.1)
part_within start (end ∷ ends) whole (suc index) are within = part_within end ends whole index are.1 (omega arith)

pub after_first : (first : ℕ) (rest : List ℕ) (index : ℕ) → 0 < index → slice_index_or (first ∷ rest) index 0 ≡ slice_index_or rest (index - 1) 0
after_first first rest zero h = absurd (omega arith)
after_first first rest (suc index) h = let e : suc index - 1 ≡ index = omega arith in rw e
