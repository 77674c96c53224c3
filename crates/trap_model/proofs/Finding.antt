-- Where a list has the first member that passes a test.
use Rattle.std.proofs.Common.{◌≡◌, ℕ, ◌+◌, ◌-◌, Bool, false, cond, List, [], ◌∷◌, take, drop, None, Some, zero, suc, refl, sym, ap, ◌∙◌, arith}
use Rattle.std.proofs.lemmas.Bool.{or_parts, and_left, cond-false}
use Rattle.std.proofs.lemmas.List.{drop-drop}
use Rattle.std.specs.List.{position_from, list_any}
use Rattle.trap_model.specs.declared.channel.Channel.{Channel}
use Rattle.trap_model.specs.declared.tables.Passage.{Passage}
use Rattle.trap_model.specs.Channels.{is_cross, is_through}
use Rattle.trap_model.specs.Tables.{IsPassage}

-- p passes only where q does
abbrev pub Implies : {X : Type 0} → (X → Bool) → (X → Bool) → Type 0
Implies {X} p q = (x : X) → q x ≡ false → p x ≡ false

-- the first members that q refuses are passed over
pub position_after : {X : Type 0} (p q : X → Bool) → Implies p q → (n i : ℕ) (xs : List X) → list_any q (take n xs) ≡ false → position_from p i xs ≡ position_from p (i + n) (drop n xs)
position_after p q h zero i xs e = let same : i + 0 ≡ i = omega arith in rw same refl
position_after p q h (suc n) i [] e = refl
position_after p q h (suc n) i (x ∷ xs) e =
    let parts = or_parts (q x) (list_any q (take n xs)) e in
    let same : i + suc n ≡ (i + 1) + n = omega arith in
    rw same (cond-false (p x) (Some i) (position_from p (i + 1) xs) (h x parts.0) ∙ position_after p q h n (i + 1) xs parts.1)

pub position_none : {X : Type 0} (p q : X → Bool) → Implies p q → (i : ℕ) (xs : List X) → list_any q xs ≡ false → position_from p i xs ≡ None
position_none p q h i [] e = refl
position_none p q h i (x ∷ xs) e =
    let parts = or_parts (q x) (list_any q xs) e in
    cond-false (p x) (Some i) (position_from p (i + 1) xs) (h x parts.0) ∙ position_none p q h (i + 1) xs parts.1

-- and the last ones that q refuses, too
pub position_before : {X : Type 0} (p q : X → Bool) → Implies p q → (n i : ℕ) (xs : List X) → list_any q (drop n xs) ≡ false → position_from p i xs ≡ position_from p i (take n xs)
position_before p q h zero i xs e = position_none p q h i xs e
position_before p q h (suc n) i [] e = refl
position_before p q h (suc n) i (x ∷ xs) e = ap (λ o. cond (p x) (Some i) o) (position_before p q h n (i + 1) xs e)

crosses_through : (junction from to : ℕ) → Implies (is_cross junction from to) (is_through junction)
crosses_through junction from to = λ c e. and_left (is_through junction c) _ e

-- a crossing is found among those of its junction
pub cross_near : (junction from to : ℕ) (channels : List Channel) (passage : Passage) → IsPassage channels junction passage
    → position_from (is_cross junction from to) passage.first (take (passage.«end» - passage.first) (drop passage.first channels)) ≡ position_from (is_cross junction from to) 0 channels
cross_near junction from to channels passage p =
    let h = crosses_through junction from to in
    let number : passage.first + (passage.«end» - passage.first) ≡ passage.«end» = omega (arith, p.ordered) in
    let start : 0 + passage.first ≡ passage.first = omega arith in
    let rest : list_any (is_through junction) (drop (passage.«end» - passage.first) (drop passage.first channels)) ≡ false = rw (drop-drop, number) p.after in
    sym (position_after (is_cross junction from to) (is_through junction) h passage.first 0 channels p.before
    ∙ rw start (position_before (is_cross junction from to) (is_through junction) h (passage.«end» - passage.first) passage.first (drop passage.first channels) rest))
