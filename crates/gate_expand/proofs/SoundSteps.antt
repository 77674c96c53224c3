-- Steps that succeeded.
use Rattle.std.proofs.Common.{◌≡◌, ℕ, suc, List, [], ◌∷◌, length, fold, slice_get, Bool, true, false, Option, Some, None, Result, Ok, Err, All, refl, ap, subst}
use Rattle.std.proofs.lemmas.List.Elements.{All-nil, All-cons, All-head, All-tail}
use Rattle.std.proofs.lemmas.Option.{slice_get_within, get_or_from_slice_get}
use Rattle.gate_names.specs.declared.cause.Cause.{Cause}
use Rattle.gate_names.specs.Causes.{◌>>=◌, ◌>>◌, refuse_if, found_or, each}

pub same_Ok : {A E : Type 0} (x y : A) → ◌≡◌ {A = Result A E} (Ok x) (Ok y) → x ≡ y
same_Ok x y h = cc

pub never_ok : {A E : Type 0} (e : E) (y : A) → ◌≡◌ {A = Result A E} (Err e) (Ok y) → ⊥
never_ok e y h = cc

-- both steps succeeded
pub then_ok : {A B E : Type 0} (r : Result A E) (f : A → Result B E) (y : B) → r >>= f ≡ Ok y → (x : A) × (r ≡ Ok x) × (f x ≡ Ok y)
then_ok (Ok x) f y h = (x, refl, h)
then_ok (Err e) f y h = absurd (never_ok e y h)

pub next_ok : {A B E : Type 0} (r : Result A E) (s : Result B E) (y : B) → r >> s ≡ Ok y → ((x : A) × (r ≡ Ok x)) × (s ≡ Ok y)
next_ok (Ok x) s y h = ((x, refl), h)
next_ok (Err e) s y h = absurd (never_ok e y h)

-- it was not refused
pub passed : {B : Type 0} (b : Bool) (cause : Cause) (s : Result B Cause) (y : B) → refuse_if b cause >> s ≡ Ok y → (b ≡ false) × (s ≡ Ok y)
passed true cause s y h = absurd (never_ok cause y h)
passed false cause s y h = (refl, h)

-- the same of a last test
pub passed_last : (b : Bool) (cause : Cause) (u : Unit {0}) → refuse_if b cause ≡ Ok u → b ≡ false
passed_last true cause u h = absurd (never_ok cause u h)
passed_last false cause u h = refl

pub found : {A : Type 0} (o : Option A) (cause : Cause) (x : A) → found_or o cause ≡ Ok x → o ≡ Some x
found (Some y) cause x h = ap Some (same_Ok y x h)
found None cause x h = absurd (never_ok cause x h)

-- a step for each member succeeded
pub each_ok : {A B : Type 0} (step : A → Result B Cause) (P : A → Type 0) (Q : B → Type 0) → ((x : A) (y : B) → P x → step x ≡ Ok y → Q y)
    → (xs : List A) (ys : List B) → All P xs → each step xs ≡ Ok ys → All Q ys × (length ys ≡ length xs)
each_ok {A} {B} step P Q one [] ys all h =
    subst (λ (l : List B). All Q l × (length l ≡ 0)) (same_Ok [] ys h) (All-nil Q, refl)
each_ok {A} {B} step P Q one (x ∷ xs) ys all h =
    let first = then_ok (step x) (λ (y : B). each step xs >>= λ (more : List B). Ok (y ∷ more)) ys h in
    let rest = then_ok (each step xs) (λ (more : List B). Ok (first.0 ∷ more)) ys first.2 in
    let others = each_ok step P Q one xs rest.0 (All-tail P x xs all) rest.1 in
    subst (λ (l : List B). All Q l × (length l ≡ suc (length xs))) (same_Ok (first.0 ∷ rest.0) ys rest.2)
    (All-cons Q first.0 rest.0 (one x first.0 (All-head P x xs all) first.1) others.0, ap suc others.1)

-- what each step of a fold keeps
pub fold_keeps : {S X : Type 0} (P : S → Type 0) (Q : X → Type 0) (f : S → X → S) → ((s : S) (x : X) → P s → Q x → P (f s x))
    → (xs : List X) (s : S) → P s → All Q xs → P (fold f s xs)
fold_keeps P Q f step [] s h all = h
fold_keeps P Q f step (x ∷ xs) s h all = fold_keeps P Q f step xs (f s x) (step s x h (All-head Q x xs all)) (All-tail Q x xs all)

pub all_here : {X : Type 0} (P : X → Type 0) (xs : List X) (i : ℕ) (x : X) → All P xs → slice_get xs i ≡ Some x → P x
all_here P xs i x all h = subst P (get_or_from_slice_get xs i x x h) (all i x (slice_get_within xs i x h))
