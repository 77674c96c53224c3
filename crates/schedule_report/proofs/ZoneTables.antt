-- Tallies of zones, one action at a time.
use Rattle.std.proofs.Common.{◌≡◌, ◌≢◌, ℕ, suc, zero, ◌+◌, ◌<◌, ◌==◌, List, [], ◌∷◌, ◌++◌, length, map, Bool, true, false, sym, ap, refl, ◌∙◌, append_assoc, arith, Option, Some, None}
use Rattle.std.specs.Prelude.{fold, replicate, slice_set, slice_index_or}
use Rattle.std.specs.List.{range_with_len, filter}
use Rattle.std.proofs.lemmas.Bool.{eq-eqb, ne_eqb}
use Rattle.std.proofs.lemmas.List.{append-nil}
use Rattle.std.proofs.lemmas.List.Elements.{filter-append}
use Rattle.std.proofs.lemmas.List.FromFn.{get_or-map-range_with_len}
use Rattle.step_rules.specs.declared.action.Action.{Action}
use Rattle.schedule_report.specs.declared.tally.Tally.{Tally}
use Rattle.schedule_report.specs.Counts.{tally_of, zone_of, is_at, at_zone}
use Rattle.schedule_report.specs.Tables.{with_action, no_actions, with_named, table_with, zone_tallies}
use Rattle.schedule_report.proofs.Tallied.{with_push}

map_same : {X : Type 0} (f g : ℕ → X) (first n : ℕ) → ((k : ℕ) → first < k + 1 → f k ≡ g k)
    → map f (range_with_len first n) ≡ map g (range_with_len first n)
map_same f g first zero same = refl
map_same f g first (suc n) same =
    let here : f first ≡ g first = same first (omega arith) in
    let rest : map f (range_with_len (first + 1) n) ≡ map g (range_with_len (first + 1) n) =
    map_same f g (first + 1) n (λ k h. same k (omega (arith, h))) in
    rw (here, rest) refl

set_map : {X : Type 0} (f g : ℕ → X) (first n j : ℕ) (v : X) → ((k : ℕ) → k ≢ first + j → f k ≡ g k)
    → (j < n → v ≡ g (first + j)) → slice_set (map f (range_with_len first n)) j v ≡ map g (range_with_len first n)
set_map f g first zero j v same set = refl
set_map f g first (suc n) zero v same set =
    let e : first + 0 ≡ first = omega arith in
    let here : v ≡ g first = set (omega arith) ∙ ap g e in
    let rest : map f (range_with_len (first + 1) n) ≡ map g (range_with_len (first + 1) n) =
    map_same f g (first + 1) n (λ k h. same k (λ is. omega (arith, h, is))) in
    rw (here, rest) refl
set_map f g first (suc n) (suc j) v same set =
    let e : first + suc j ≡ (first + 1) + j = omega arith in
    let here : f first ≡ g first = same first (λ is. omega (arith, is)) in
    let rest : slice_set (map f (range_with_len (first + 1) n)) j v ≡ map g (range_with_len (first + 1) n) =
    set_map f g (first + 1) n j v (λ k other. same k (λ is. other (is ∙ e))) (λ h. set (omega (arith, h)) ∙ ap g e) in
    rw (here, rest) refl

-- one action more, of another zone and of this
at_other : (zone : ℕ) (before : List Action) (action : Action) → is_at zone action ≡ false
    → at_zone zone (before ++ action ∷ []) ≡ at_zone zone before
at_other zone before action other =
    let none : filter (is_at zone) (action ∷ []) ≡ [] = rw other refl in
    filter-append (is_at zone) before (action ∷ []) ∙ ap (λ (rest : List Action). at_zone zone before ++ rest) none
    ∙ append-nil (at_zone zone before)

at_same : (zone : ℕ) (before : List Action) (action : Action) → is_at zone action ≡ true
    → at_zone zone (before ++ action ∷ []) ≡ at_zone zone before ++ action ∷ []
at_same zone before action same =
    let one : filter (is_at zone) (action ∷ []) ≡ action ∷ [] = rw same refl in
    filter-append (is_at zone) before (action ∷ []) ∙ ap (λ (rest : List Action). at_zone zone before ++ rest) one

names_it : (zone : ℕ) (action : Action) → zone_of action ≡ Some zone → is_at zone action ≡ true
names_it zone action is = rw is (eq-eqb zone zone refl)

names_other : (zone k : ℕ) (action : Action) → zone_of action ≡ Some zone → zone ≢ k → is_at k action ≡ false
names_other zone k action is other = rw is (ne_eqb zone k other)

table_named : (n : ℕ) (before : List Action) (action : Action) (named : Option ℕ) → zone_of action ≡ named
    → with_named (zone_tallies n before) action named ≡ zone_tallies n (before ++ action ∷ [])
table_named n before action None is =
    map_same (λ zone. tally_of (at_zone zone before)) (λ zone. tally_of (at_zone zone (before ++ action ∷ []))) 0 n
    (λ zone h. ap tally_of (sym (at_other zone before action (rw is refl))))
table_named n before action (Some zone) is =
    let plain : zone ≡ 0 + zone = omega arith in
    let from : 0 + zone ≡ zone = omega arith in
    set_map (λ k. tally_of (at_zone k before)) (λ k. tally_of (at_zone k (before ++ action ∷ []))) 0 n zone
    (with_action (slice_index_or (zone_tallies n before) zone no_actions) action)
    (λ k other. ap tally_of (sym (at_other k before action (names_other zone k action is (λ e. other (sym e ∙ plain))))))
    (λ h. ap (λ (tally : Tally). with_action tally action) (get_or-map-range_with_len (λ k. tally_of (at_zone k before)) 0 n zone zone no_actions h from)
    ∙ with_push (at_zone zone before) action
    ∙ ap tally_of (sym (at_same zone before action (names_it zone action is)))
    ∙ ap (λ (k : ℕ). tally_of (at_zone k (before ++ action ∷ []))) plain)

pub table_push : (n : ℕ) (before : List Action) (action : Action)
    → table_with (zone_tallies n before) action ≡ zone_tallies n (before ++ action ∷ [])
table_push n before action = table_named n before action (zone_of action) refl

fold_from : (n : ℕ) (before actions : List Action) → fold table_with (zone_tallies n before) actions ≡ zone_tallies n (before ++ actions)
fold_from n before [] = ap (zone_tallies n) (sym (append-nil before))
fold_from n before (action ∷ actions) =
    ap (λ (table : List Tally). fold table_with table actions) (table_push n before action)
    ∙ fold_from n (before ++ action ∷ []) actions
    ∙ ap (zone_tallies n) (append_assoc before (action ∷ []) actions)

no_tallies : (first n : ℕ) → replicate n no_actions ≡ map (λ (zone : ℕ). tally_of (at_zone zone [])) (range_with_len first n)
no_tallies first zero = refl
no_tallies first (suc n) = ap (λ (rest : List Tally). no_actions ∷ rest) (no_tallies (first + 1) n)

pub fold_table : (n : ℕ) (actions : List Action) → fold table_with (replicate n no_actions) actions ≡ zone_tallies n actions
fold_table n actions = rw (no_tallies 0 n) (fold_from n [] actions)
