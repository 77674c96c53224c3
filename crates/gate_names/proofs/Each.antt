-- A step for each member of a list, as far as a loop has come.
use Rattle.std.proofs.Common.{◌≡◌, ℕ, suc, ◌+◌, ◌<◌, List, [], ◌∷◌, ◌++◌, length, get_or, drop, Result, Ok, Err, refl, ap, sym, ◌∙◌, add-one, append_assoc}
use Rattle.std.proofs.Math.Seq.{drop-cons}
use Rattle.gate_names.specs.declared.cause.Cause.{Cause}
use Rattle.gate_names.specs.Causes.{◌>>=◌, each, after}

pub after_none : {B : Type 0} (r : Result (List B) Cause) → after [] r ≡ r
after_none (Ok back) = refl
after_none (Err e) = refl

after_push : {B : Type 0} (front : List B) (y : B) (r : Result (List B) Cause) → after (front ++ y ∷ []) r ≡ after front (r >>= λ ys. Ok (y ∷ ys))
after_push front y (Ok back) = ap Ok (append_assoc front (y ∷ []) back)
after_push front y (Err e) = refl

split : {A : Type 0} (xs : List A) (k : ℕ) (x : A) → k < length xs → x ≡ get_or xs k x → drop k xs ≡ x ∷ drop (k + 1) xs
split xs k x inside is = drop-cons xs k x inside ∙ ap (λ (y : _). y ∷ drop (suc k) xs) (sym is) ∙ ap (λ n. x ∷ drop n xs) (sym (add-one k))

module _ {A B : Type 0} (step : A → Result B Cause) (xs : List A) (k : ℕ) (x : A) (inside : k < length xs) (is : x ≡ get_or xs k x) where
  -- one more
  pub each_more : (front : List B) (y : B) → step x ≡ Ok y → after (front ++ y ∷ []) (each step (drop (k + 1) xs)) ≡ after front (each step (drop k xs))
  each_more front y e = after_push front y (each step (drop (k + 1) xs)) ∙ sym (ap (λ (l : List A). after front (each step l)) (split xs k x inside is) ∙ ap (λ (r : Result B Cause). after front (r >>= λ y. each step (drop (k + 1) xs) >>= λ ys. Ok (y ∷ ys))) e)

  -- one that is refused
  pub each_stop : (front : List B) (cause : Cause) → step x ≡ Err cause → after front (each step (drop k xs)) ≡ Err cause
  each_stop front cause e = ap (λ (l : List A). after front (each step l)) (split xs k x inside is) ∙ ap (λ (r : Result B Cause). after front (r >>= λ y. each step (drop (k + 1) xs) >>= λ ys. Ok (y ∷ ys))) e
