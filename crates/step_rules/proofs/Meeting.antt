-- Two lists that have a member in common.
use Rattle.std.proofs.Common.{◌≡◌, List, Bool, true, sym, subst, ◌∙◌}
use Rattle.std.specs.Prelude.{Contains}
use Rattle.std.specs.List.{list_any}
use Rattle.std.proofs.lemmas.List.Folds.{Any-from_list_any, list_any-from_Any}

pub met : {X : Type 0} (same : X → X → Bool) (sound : (x y : X) → same x y ≡ true → x ≡ y) (xs ys : List X) → list_any (λ x. list_any (same x) ys) xs ≡ true → (x : X) × Contains xs x × Contains ys x
met {X} same sound xs ys h =
    let one = Any-from_list_any (λ x. list_any (same x) ys) xs h in
    let other = Any-from_list_any (same one.1) ys one.4 in
    let here : Contains ys other.1 = (other.0, other.2, other.3) in
    let there : Contains ys one.1 = subst (Contains ys) (sym (sound one.1 other.1 other.4)) here in
    (one.1, (one.0, one.2, one.3), there)

pub meets : {X : Type 0} (same : X → X → Bool) (all : (x : X) → same x x ≡ true) (xs ys : List X) (x : X) → Contains xs x → Contains ys x → list_any (λ x. list_any (same x) ys) xs ≡ true
meets {X} same all xs ys x in_xs in_ys =
    let there : list_any (same x) ys ≡ true = list_any-from_Any (same x) ys (in_ys.0, x, in_ys.1, in_ys.2, all x) in
    list_any-from_Any (λ x. list_any (same x) ys) xs (in_xs.0, x, in_xs.1, in_xs.2, there)
