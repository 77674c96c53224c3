-- A rearrangement has the actions of the list, and plays where the list does.
use Rattle.std.proofs.Common.{◌≡◌, ℕ, zero, suc, ◌+◌, ◌<◌, ◌≤◌, Bool, true, cond, List, [], ◌∷◌, ◌++◌, length, Some, refl, sym, ap, subst, ◌∙◌, inl, inr, arith, add_assoc}
use Rattle.std.specs.Prelude.{All, Contains, slice_get, option_map, ◌↔◌}
use Rattle.std.proofs.lemmas.Option.{same_Some, slice_get-map, slice_get_within}
use Rattle.std.proofs.lemmas.List.Elements.{Contains-append_cases, Contains-append_left, Contains-append_right, All-contains, All-head, All-tail}
use Rattle.std.proofs.lemmas.Bool.{eq-eqb, eqb-true, ne_eqb, cases_order}
use Rattle.qc_base.specs.Counting.{how_many}
use Rattle.circuit_core.specs.Circuit.{CircuitValue}
use Rattle.circuit_core.specs.Order.{Forced}
use Rattle.step_rules.specs.declared.action.Action.{Action}
use Rattle.step_rules.specs.declared.action.Action.TheVariants as kinds
use Rattle.step_rules.specs.Placement.{start_of}
use Rattle.step_rules.specs.Setting.{SettingValue}
use Rattle.step_rules.specs.Play.{AreLegal, PerformsIn, Plays, performs, actions_of, one_at_a_time, AreInOrder}
use Rattle.step_rules.specs.Tight.{AreOrdered}
use Rattle.compact.specs.Tightened.{with_time, AreSpread, IsRearranged, IsSerial}
use Rattle.compact.specs.Latest.{IsAt}
use Rattle.compact.proofs.Places.{contains_at, at_contains, some_at}
use Rattle.compact.proofs.Spreading.{in_its_step, from_its_step}

-- ---- counting

-- the one more or none of a member
abbrev one_if : Bool → ℕ
one_if b = cond b 1 0

count_append : (test : Action → Bool) (xs ys : List Action) → how_many test (xs ++ ys) ≡ how_many test xs + how_many test ys
count_append test [] ys = omega arith
count_append test (x ∷ xs) ys = omega (arith, count_append test xs ys)

-- how many of the list pass the test in the steps from that one on, of which there are so many
abbrev pub from_step : (Action → Bool) → ℕ → ℕ → List ℕ → List Action → ℕ
from_step test start zero times actions = 0
from_step test start (suc count) times actions = how_many test (with_time start times actions) + from_step test (suc start) count times actions

-- the first of the list is in an earlier step
first_before : (test : Action → Bool) (start count first : ℕ) (times : List ℕ) (action : Action) (actions : List Action) → first < start
    → from_step test start count (first ∷ times) (action ∷ actions) ≡ from_step test start count times actions
first_before test start zero first times action actions h = refl
first_before test start (suc count) first times action actions h =
    let rest : from_step test (suc start) count (first ∷ times) (action ∷ actions) ≡ from_step test (suc start) count times actions = first_before test (suc start) count first times action actions (omega arith) in
    ap (λ (c : Bool). how_many test (cond c (action ∷ with_time start times actions) (with_time start times actions)) + from_step test (suc start) count (first ∷ times) (action ∷ actions)) (ne_eqb first start (λ e. omega arith))
    ∙ ap (λ (n : ℕ). how_many test (with_time start times actions) + n) rest

-- or in one of these
first_within : (test : Action → Bool) (start count first : ℕ) (times : List ℕ) (action : Action) (actions : List Action) → start ≤ first → first < start + count
    → from_step test start count (first ∷ times) (action ∷ actions) ≡ one_if (test action) + from_step test start count times actions
first_within test start zero first times action actions low high = absurd (omega arith)
first_within test start (suc count) first times action actions low high = elim (cases_order first start) [
  | inl same ↦ (let rest : from_step test (suc start) count (first ∷ times) (action ∷ actions) ≡ from_step test (suc start) count times actions = first_before test (suc start) count first times action actions (omega arith) in
      ap (λ (c : Bool). how_many test (cond c (action ∷ with_time start times actions) (with_time start times actions)) + from_step test (suc start) count (first ∷ times) (action ∷ actions)) (eq-eqb first start same)
      ∙ ap (λ (n : ℕ). (one_if (test action) + how_many test (with_time start times actions)) + n) rest
      ∙ add_assoc (one_if (test action)) (how_many test (with_time start times actions)) (from_step test (suc start) count times actions))
  | inr other ↦ elim other [
    | inl before ↦ absurd (omega arith)
    | inr after ↦ (let rest : from_step test (suc start) count (first ∷ times) (action ∷ actions) ≡ one_if (test action) + from_step test (suc start) count times actions = first_within test (suc start) count first times action actions (omega arith) (omega arith) in
        ap (λ (c : Bool). how_many test (cond c (action ∷ with_time start times actions) (with_time start times actions)) + from_step test (suc start) count (first ∷ times) (action ∷ actions)) (ne_eqb first start (λ e. omega arith))
        ∙ omega (arith, rest))
  ]
]

nothing_here : (test : Action → Bool) (start count : ℕ) (actions : List Action) → from_step test start count [] actions ≡ 0
nothing_here test start zero actions = refl
nothing_here test start (suc count) actions = omega (arith, nothing_here test (suc start) count actions)

all_counted : (test : Action → Bool) (count : ℕ) (times : List ℕ) (actions : List Action) → length times ≡ length actions → All (λ (time : ℕ). time < count) times → from_step test 0 count times actions ≡ how_many test actions
all_counted test count [] [] len all = nothing_here test 0 count []
all_counted test count [] (action ∷ actions) len all = absurd (omega arith)
all_counted test count (first ∷ times) [] len all = absurd (omega arith)
all_counted test count (first ∷ times) (action ∷ actions) len all =
    let below : first < count = All-head (λ (time : ℕ). time < count) first times all in
    first_within test 0 count first times action actions (omega arith) (omega arith)
    ∙ ap (λ (n : ℕ). one_if (test action) + n) (all_counted test count times actions (omega arith) (All-tail (λ (time : ℕ). time < count) first times all))

step_by_step : (test : Action → Bool) (start : ℕ) (steps : List (List Action)) (times : List ℕ) (actions : List Action)
    → ((s n : ℕ) (step : List Action) → start + s ≡ n → slice_get steps s ≡ Some step → step ≡ with_time n times actions) → how_many test (actions_of steps) ≡ from_step test start (length steps) times actions
step_by_step test start [] times actions each = refl
step_by_step test start (step ∷ steps) times actions each =
    count_append test step (actions_of steps)
    ∙ ap (λ (l : List Action). how_many test l + how_many test (actions_of steps)) (each 0 start step (omega arith) refl)
    ∙ ap (λ (n : ℕ). how_many test (with_time start times actions) + n) (step_by_step test (suc start) steps times actions (λ s n other e there. each (suc s) n other (omega arith) there))

pub same_counts : (setting : SettingValue) (actions : List Action) (steps : List (List Action)) (test : Action → Bool) → IsRearranged setting actions steps → how_many test (actions_of steps) ≡ how_many test actions
same_counts setting actions steps test is =
    step_by_step test 0 steps is.times actions (λ s n step e there. is.spread.each n step (subst (λ (k : ℕ). slice_get steps k ≡ Some step) (let same : s ≡ n = omega arith in same) there))
    ∙ all_counted test (length steps) is.times actions is.spread.len is.spread.within

-- ---- members

record InStep (steps : List (List Action)) (action : Action) : Type 0 where
  pub time : ℕ
  pub step : List Action
  pub there : slice_get steps time ≡ Some step
  pub inside : Contains step action

in_a_step : (steps : List (List Action)) (action : Action) → Contains (actions_of steps) action → InStep steps action
in_a_step [] action it = absurd (omega (arith, it.1))
in_a_step (step ∷ steps) action it = elim (Contains-append_cases step (actions_of steps) action it) [
  | inl here ↦ record { time = 0; step = step; there = refl; inside = here }
  | inr later ↦ (let rest : InStep steps action = in_a_step steps action later in record { time = suc rest.time; step = rest.step; there = rest.there; inside = rest.inside })
]

of_a_step : (steps : List (List Action)) (time : ℕ) (step : List Action) (action : Action) → slice_get steps time ≡ Some step → Contains step action → Contains (actions_of steps) action
of_a_step [] time step action e it = absurd cc
of_a_step (first ∷ steps) zero step action e it = Contains-append_left first (actions_of steps) action (subst (λ (l : List Action). Contains l action) (sym (same_Some first step e)) it)
of_a_step (first ∷ steps) (suc time) step action e it = Contains-append_right first (actions_of steps) action (of_a_step steps time step action e it)

to_list : (actions : List Action) (steps : List (List Action)) (times : List ℕ) (action : Action) → AreSpread actions times steps → Contains (actions_of steps) action → Contains actions action
to_list actions steps times action spread it =
    let in_step : InStep steps action = in_a_step steps action it in
    let at : IsAt actions times action in_step.time = from_its_step in_step.time times actions action (subst (λ (l : List Action). Contains l action) (spread.each in_step.time in_step.step in_step.there) in_step.inside) in
    contains_at actions at.position action at.is_action

to_steps : (actions : List Action) (steps : List (List Action)) (times : List ℕ) (action : Action) → AreSpread actions times steps → Contains actions action → Contains (actions_of steps) action
to_steps actions steps times action spread it =
    let at = at_contains actions action it in
    let timed = some_at times at.0 (omega (arith, slice_get_within actions at.0 action at.1, spread.len)) in
    let within : timed.0 < length steps = All-contains (λ (time : ℕ). time < length steps) times timed.0 spread.within (contains_at times at.0 timed.0 timed.1) in
    let step = some_at steps timed.0 within in
    of_a_step steps timed.0 step.0 action step.1
    (subst (λ (l : List Action). Contains l action) (sym (spread.each timed.0 step.0 step.1)) (in_its_step timed.0 times actions at.0 action at.1 timed.1))

pub same_members : (setting : SettingValue) (actions : List Action) (steps : List (List Action)) (action : Action) → IsRearranged setting actions steps → Contains (actions_of steps) action ↔ Contains actions action
same_members setting actions steps action is = (to_list actions steps is.times action is.spread, to_steps actions steps is.times action is.spread)

-- ---- playing

alone : (actions : List Action) → actions_of (one_at_a_time actions) ≡ actions
alone [] = refl
alone (action ∷ actions) = ap (λ (l : List Action). action ∷ l) (alone actions)

ordered : (circuit : CircuitValue) (i j : ℕ) (a b : Action) → performs i a ≡ true → performs j b ≡ true → Forced circuit i j → AreOrdered circuit a b
ordered circuit i j (kinds.Op zone k) (kinds.Op other l) is_i is_j forced =
    let first : k.0 ≡ i = eqb-true k.0 i is_i in
    let second : l.0 ≡ j = eqb-true l.0 j is_j in
    inl (subst (λ (n : ℕ). Forced circuit n l.0) (sym first) (subst (λ (n : ℕ). Forced circuit i n) (sym second) forced))
ordered circuit i j (kinds.Op zone k) b is_i is_j forced = absurd cc
ordered circuit i j a b is_i is_j forced = absurd cc

-- an action of a list is performed in the step of its place
pub alone_at : (actions : List Action) (number place : ℕ) (action : Action) → slice_get actions place ≡ Some action → performs number action ≡ true → PerformsIn (one_at_a_time actions) number place
alone_at actions number place action there is = record {
  step = action ∷ [];
  action = action;
  at_time = slice_get-map (λ (a : Action). a ∷ []) actions place ∙ ap (option_map (λ (a : Action). a ∷ [])) there;
  in_step = (0, omega arith, refl);
  is = is;
}

plays_in_order : (setting : SettingValue) (actions : List Action) (steps : List (List Action)) → AreInOrder setting.circuit (one_at_a_time actions) → IsRearranged setting actions steps → AreInOrder setting.circuit steps
plays_in_order setting actions steps in_order is i j forced s t of_i of_j =
    let first : PerformsIn steps i s = of_i in
    let second : PerformsIn steps j t = of_j in
    let p : IsAt actions is.times first.action s = from_its_step s is.times actions first.action (subst (λ (l : List Action). Contains l first.action) (is.spread.each s first.step first.at_time) first.in_step) in
    let q : IsAt actions is.times second.action t = from_its_step t is.times actions second.action (subst (λ (l : List Action). Contains l second.action) (is.spread.each t second.step second.at_time) second.in_step) in
    let before : p.position < q.position = in_order i j forced p.position q.position (alone_at actions i p.position first.action p.is_action first.is) (alone_at actions j q.position second.action q.is_action second.is) in
    is.order p.position q.position first.action second.action s t before p.is_action q.is_action p.is_time q.is_time (inr (ordered setting.circuit i j first.action second.action first.is second.is forced))

pub rearranged_plays : (setting : SettingValue) (actions : List Action) (steps : List (List Action)) → Plays setting (one_at_a_time actions) → IsRearranged setting actions steps
    → AreLegal setting (start_of setting.trap setting.placement) steps → Plays setting steps
rearranged_plays setting actions steps plays is legal = record {
  legal = legal;
  performed = record {
    once = λ number performed. same_counts setting actions steps (performs number) is ∙ sym (ap (how_many (performs number)) (alone actions)) ∙ plays.performed.once number performed;
    in_order = plays_in_order setting actions steps plays.performed.in_order is;
  };
}

pub serial_of : (setting : SettingValue) (actions : List Action) → Plays setting (one_at_a_time actions) → IsSerial setting actions
serial_of setting actions plays = record { legal = plays.legal; in_order = plays.performed.in_order }
