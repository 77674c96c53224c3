-- Steps that are filled with the actions of a list, one after another.
use Rattle.std.proofs.Common.{◌≡◌, ℕ, zero, suc, ◌+◌, ◌<◌, ◌≤◌, Bool, true, false, cond, List, [], ◌∷◌, ◌++◌, length, get_or, set, Some, refl, sym, ap, subst, ◌∙◌, inl, inr, arith}
use Rattle.std.specs.Prelude.{All, Contains, slice_get, ◌==◌}
use Rattle.std.proofs.lemmas.Bool.{eq-eqb, eqb-true, ne_eqb}
use Rattle.std.proofs.lemmas.Option.{same_Some}
use Rattle.std.proofs.lemmas.List.{append-nil, length_push}
use Rattle.std.proofs.lemmas.List.Elements.{All-head, All-tail, All-push, All-weaker, Contains-append_cases, Contains-append_right}
use Rattle.step_rules.specs.declared.action.Action.{Action}
use Rattle.compact.specs.Tightened.{with_time, AreSpread}
use Rattle.compact.specs.Latest.{IsAt, put}

-- ---- the actions of a step

head_in : (c : Bool) (other action : Action) (rest : List Action) → c ≡ true → other ≡ action → Contains (cond c (other ∷ rest) rest) action
head_in true other action rest h e = (0, omega arith, e)
head_in false other action rest h e = absurd cc

tail_in : (c : Bool) (other action : Action) (rest : List Action) → Contains rest action → Contains (cond c (other ∷ rest) rest) action
tail_in true other action rest it = Contains-append_right (other ∷ []) rest action it
tail_in false other action rest it = it

-- an action of the list is in its step
pub in_its_step : (time : ℕ) (times : List ℕ) (actions : List Action) (k : ℕ) (action : Action) → slice_get actions k ≡ Some action → slice_get times k ≡ Some time → Contains (with_time time times actions) action
in_its_step time [] actions k action e t = absurd cc
in_its_step time (first ∷ times) [] k action e t = absurd cc
in_its_step time (first ∷ times) (other ∷ actions) zero action e t =
    head_in (first == time) other action (with_time time times actions) (eq-eqb first time (same_Some first time t)) (same_Some other action e)
in_its_step time (first ∷ times) (other ∷ actions) (suc k) action e t =
    tail_in (first == time) other action (with_time time times actions) (in_its_step time times actions k action e t)

only_one : (x y : Action) → Contains (x ∷ []) y → x ≡ y
only_one x y it = let first : it.0 ≡ 0 = omega (arith, it.1) in ap (λ (n : ℕ). get_or (x ∷ []) n y) (sym first) ∙ it.2

which_in : (time first : ℕ) (other : Action) (times : List ℕ) (actions : List Action) (action : Action) (c : Bool) → (first == time) ≡ c → Contains (cond c (other ∷ with_time time times actions) (with_time time times actions)) action
    → (Contains (with_time time times actions) action → IsAt actions times action time) → IsAt (other ∷ actions) (first ∷ times) action time
which_in time first other times actions action true h it later = elim (Contains-append_cases (other ∷ []) (with_time time times actions) action it) [
  | inl here ↦ record { position = 0; is_action = ap Some (only_one other action here); is_time = ap Some (eqb-true first time h) }
  | inr there ↦ (let at : IsAt actions times action time = later there in record { position = suc at.position; is_action = at.is_action; is_time = at.is_time })
]
which_in time first other times actions action false h it later =
    let at : IsAt actions times action time = later it in
    record { position = suc at.position; is_action = at.is_action; is_time = at.is_time }

-- an action of a step is of the list
pub from_its_step : (time : ℕ) (times : List ℕ) (actions : List Action) (action : Action) → Contains (with_time time times actions) action → IsAt actions times action time
from_its_step time [] actions action it = absurd (omega (arith, it.1))
from_its_step time (first ∷ times) [] action it = absurd (omega (arith, it.1))
from_its_step time (first ∷ times) (other ∷ actions) action it =
    which_in time first other times actions action (first == time) refl it (λ there. from_its_step time times actions action there)

cond_append : (c : Bool) (other : Action) (xs ys : List Action) → cond c (other ∷ (xs ++ ys)) (xs ++ ys) ≡ cond c (other ∷ xs) xs ++ ys
cond_append true other xs ys = refl
cond_append false other xs ys = refl

-- one action more
pub with_time_push : (time now : ℕ) (times : List ℕ) (actions : List Action) (action : Action) → length times ≡ length actions
    → with_time time (times ++ now ∷ []) (actions ++ action ∷ []) ≡ with_time time times actions ++ cond (now == time) (action ∷ []) []
with_time_push time now [] [] action h = refl
with_time_push time now [] (other ∷ actions) action h = absurd (omega arith)
with_time_push time now (first ∷ times) [] action h = absurd (omega arith)
with_time_push time now (first ∷ times) (other ∷ actions) action h =
    ap (λ (w : List Action). cond (first == time) (other ∷ w) w) (with_time_push time now times actions action (omega arith))
    ∙ cond_append (first == time) other (with_time time times actions) (cond (now == time) (action ∷ []) [])

none_later : (time : ℕ) (times : List ℕ) (actions : List Action) → All (λ (t : ℕ). t < time) times → with_time time times actions ≡ []
none_later time [] actions all = refl
none_later time (first ∷ times) [] all = refl
none_later time (first ∷ times) (other ∷ actions) all =
    let before : first < time = All-head (λ (t : ℕ). t < time) first times all in
    ap (λ (c : Bool). cond c (other ∷ with_time time times actions) (with_time time times actions)) (ne_eqb first time (λ e. omega arith))
    ∙ none_later time times actions (All-tail (λ (t : ℕ). t < time) first times all)

-- ---- one action more in a step

pub data PutAt (steps : List (List Action)) (time : ℕ) (action : Action) (s : ℕ) (step : List Action) : Type 0 where
  grown : (old : List Action) → s ≡ time → slice_get steps s ≡ Some old → old ++ action ∷ [] ≡ step → PutAt steps time action s step
  new : s ≡ time → s ≡ length steps → action ∷ [] ≡ step → PutAt steps time action s step
  kept : (s ≡ time → ⊥) → slice_get steps s ≡ Some step → PutAt steps time action s step

pub put_at : (steps : List (List Action)) (time : ℕ) (action : Action) (s : ℕ) (step : List Action) → time ≤ length steps → slice_get (put steps time action) s ≡ Some step → PutAt steps time action s step
put_at [] time action zero step h e = new (omega arith) refl (same_Some (action ∷ []) step e)
put_at [] time action (suc s) step h e = absurd cc
put_at (x ∷ xs) zero action zero step h e = grown x refl refl (same_Some (x ++ action ∷ []) step e)
put_at (x ∷ xs) zero action (suc s) step h e = kept (λ z. omega arith) e
put_at (x ∷ xs) (suc time) action zero step h e = kept (λ z. omega arith) e
put_at (x ∷ xs) (suc time) action (suc s) step h e = elim (put_at xs time action s step (omega arith) e) [
  | grown old same there is ↦ grown old (ap suc same) there is
  | new same last is ↦ new (ap suc same) (ap suc last) is
  | kept other there ↦ kept (λ z. other (omega arith)) there
]

pub put_longer : (steps : List (List Action)) (time : ℕ) (action : Action) → length steps ≤ length (put steps time action)
put_longer [] time action = omega arith
put_longer (x ∷ xs) zero action = omega arith
put_longer (x ∷ xs) (suc time) action = omega (arith, put_longer xs time action)

pub put_within : (steps : List (List Action)) (time : ℕ) (action : Action) → time ≤ length steps → time < length (put steps time action)
put_within [] time action h = omega arith
put_within (x ∷ xs) zero action h = omega arith
put_within (x ∷ xs) (suc time) action h = let rest : time < length (put xs time action) = put_within xs time action (omega arith) in omega arith

pub put_inside : (steps : List (List Action)) (time : ℕ) (action : Action) (d : List Action) → time < length steps → put steps time action ≡ set steps time (get_or steps time d ++ action ∷ [])
put_inside [] time action d h = absurd (omega arith)
put_inside (x ∷ xs) zero action d h = refl
put_inside (x ∷ xs) (suc time) action d h = ap (λ (l : List (List Action)). x ∷ l) (put_inside xs time action d (omega arith))

pub put_after : (steps : List (List Action)) (time : ℕ) (action : Action) → length steps ≤ time → put steps time action ≡ steps ++ (action ∷ []) ∷ []
put_after [] time action h = refl
put_after (x ∷ xs) zero action h = absurd (omega arith)
put_after (x ∷ xs) (suc time) action h = ap (λ (l : List (List Action)). x ∷ l) (put_after xs time action (omega arith))

-- the steps of a list with one action more
pub spread_more : (actions : List Action) (times : List ℕ) (steps : List (List Action)) (time : ℕ) (action : Action) → AreSpread actions times steps → time ≤ length steps
    → AreSpread (actions ++ action ∷ []) (times ++ time ∷ []) (put steps time action)
spread_more actions times steps time action spread h =
    let pushed : (s : ℕ) → with_time s (times ++ time ∷ []) (actions ++ action ∷ []) ≡ with_time s times actions ++ cond (time == s) (action ∷ []) [] = λ s. with_time_push s time times actions action spread.len in
    let longer : length steps ≤ length (put steps time action) = put_longer steps time action in
    record {
      len = length_push times time ∙ ap (λ (n : ℕ). n + 1) spread.len ∙ sym (length_push actions action);
      within = All-push (λ (t : ℕ). t < length (put steps time action)) times time
          (All-weaker (λ (t : ℕ). t < length steps) (λ (t : ℕ). t < length (put steps time action)) (λ t below. omega arith) times spread.within) (put_within steps time action h);
      each = λ s step e. elim (put_at steps time action s step h e) [
        | grown old same there is ↦ (let here : (time == s) ≡ true = eq-eqb time s (sym same) in
            sym is ∙ ap (λ (l : List Action). l ++ action ∷ []) (spread.each s old there) ∙ sym (pushed s ∙ ap (λ (c : Bool). with_time s times actions ++ cond c (action ∷ []) []) here))
        | new same last is ↦ (let here : (time == s) ≡ true = eq-eqb time s (sym same) in
            let none : with_time s times actions ≡ [] = none_later s times actions (subst (λ (n : ℕ). All (λ (t : ℕ). t < n) times) (sym last) spread.within) in
            sym is ∙ sym (pushed s ∙ ap (λ (c : Bool). with_time s times actions ++ cond c (action ∷ []) []) here ∙ ap (λ (w : List Action). w ++ action ∷ []) none))
        | kept other there ↦ (let elsewhere : (time == s) ≡ false = ne_eqb time s (λ same. other (sym same)) in
            spread.each s step there ∙ sym (pushed s ∙ ap (λ (c : Bool). with_time s times actions ++ cond c (action ∷ []) []) elsewhere ∙ append-nil (with_time s times actions)))
      ];
    }
