-- Steps that may be refused: their values, or the first cause.
use Rattle.std.specs.Prelude.{◌≡◌, Bool, List, [], ◌∷◌, ◌++◌, Result, Ok, Err, Option, Some, None, if◌then◌else◌}
use Rattle.gate_names.specs.declared.cause.Cause.{Cause}
use Rattle.gate_names.specs.declared.cause.Cause.TheVariants as causes

-- one step and then another, up to the first that is refused
infixl 10 ◌>>=◌
abbrev pub ◌>>=◌ : {A B E : Type 0} → Result A E → (A → Result B E) → Result B E
(Ok x) >>= f = f x
(Err e) >>= f = Err e

infixl 10 ◌>>◌
abbrev pub ◌>>◌ : {A B E : Type 0} → Result A E → Result B E → Result B E
(Ok x) >> r = r
(Err e) >> r = Err e

-- refused where the test says so
abbrev pub refuse_if : Bool → Cause → Result (Unit {0}) Cause
refuse_if refused cause = if refused then Err cause else Ok tt

-- what is there, or the cause where nothing is
abbrev pub found_or : {A : Type 0} → Option A → Cause → Result A Cause
found_or (Some x) cause = Ok x
found_or None cause = Err cause

-- a step for each, from left to right, up to the first that is refused
abbrev pub each : {A B : Type 0} → (A → Result B Cause) → List A → Result (List B) Cause
each step [] = Ok []
each step (x ∷ xs) = step x >>= λ y. each step xs >>= λ ys. Ok (y ∷ ys)

-- ---- for private functions

-- these before what a list comes to
abbrev pub after : {B : Type 0} → List B → Result (List B) Cause → Result (List B) Cause
after front (Ok back) = Ok (front ++ back)
after front (Err e) = Err e

-- what a call answered is what is said, unless memory ran out
abbrev pub Gives : {X Y : Type 0} → (X → Y) → Result X Cause → Result Y Cause → Type 0
Gives see (Ok x) said = said ≡ Ok (see x)
Gives see (Err causes.NoMemory) said = Unit {0}
Gives see (Err e) said = said ≡ Err e

-- what a call answered and left is what is said, unless memory ran out
abbrev pub Leaves : {S : Type 0} → Result (Unit {0}) Cause → S → Result S Cause → Type 0
Leaves (Ok done) now said = said ≡ Ok now
Leaves (Err causes.NoMemory) now said = Unit {0}
Leaves (Err e) now said = said ≡ Err e
