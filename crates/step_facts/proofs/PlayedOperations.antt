-- The facts of a schedule that plays: which operations are done.
use Rattle.std.proofs.Common.{◌≡◌, ℕ, zero, suc, ◌<◌, ◌≤◌, Bool, true, List, [], ◌∷◌, length, take, take_all, refl, sym, ap, subst, ◌∙◌, inl, inr, arith}
use Rattle.std.specs.Prelude.{Contains, IsTrue, slice_index_or, ◌==◌, ◌||◌}
use Rattle.std.specs.List.{list_all, list_any}
use Rattle.std.proofs.lemmas.Bool.{cases_eq, or_cases, or_left, or_right, and_from, and_parts, eq-eqb, eqb-true, ltb-true, false_from_ne_true}
use Rattle.std.proofs.lemmas.Option.{same_Some, get_or_from_slice_get}
use Rattle.std.proofs.lemmas.List.Elements.{All-contains}
use Rattle.std.proofs.lemmas.List.Folds.{list_any-append}
use Rattle.qc_base.specs.declared.ids.Ion.{Ion}
use Rattle.qc_base.specs.Counting.{how_many}
use Rattle.circuit_core.proofs.Forcing.{forced_iff}
use Rattle.circuit_core.specs.Order.{is_performed}
use Rattle.trap_model.specs.Trap.{is_zone}
use Rattle.step_rules.specs.declared.action.Action.{Action}
use Rattle.step_rules.specs.declared.action.Action.TheVariants as actions
use Rattle.step_rules.specs.declared.action.Rule.TheVariants as rules
use Rattle.step_rules.specs.Setting.{SettingValue}
use Rattle.step_rules.specs.Guards.{Passes, is_able_for}
use Rattle.step_rules.specs.Steps.{IsLegal}
use Rattle.step_rules.specs.Play.{Plays, PerformsIn, performs, actions_of, is_done}
use Rattle.step_vars.specs.Items.{goal_item}
use Rattle.step_vars.specs.Lists.{performed}
use Rattle.step_facts.specs.Activities.{operation, IsActivity}
use Rattle.step_facts.specs.Properties.{StartUndone, PerformedOnce, DoneByPerforming, DoneInOrder, GoalNeedsAll, IsPerformed}
use Rattle.step_facts.specs.Run.{IsSetting}
use Rattle.step_facts.specs.OfSchedule.{facts_of, config_at, step_at, performs_in}
use Rattle.step_facts.proofs.Lists.{Contains-cons, Contains-later, Contains-nil, list_any-some, list_any-found, how_many-append, how_many-some, how_many_any, Contains-first}
use Rattle.step_facts.proofs.Clauses.{there-performed}
use Rattle.step_facts.proofs.Configs.{step_next, legal_at}
use Rattle.step_facts.proofs.PassedGuards.{guard_passed}

-- ---- steps that perform an operation

-- it is done by the first step, or by a later one
done_first_or_later : (step : List Action) (steps : List (List Action)) (g : ℕ)
    → is_done (step ∷ steps) g ≡ (list_any (performs g) step || is_done steps g)
done_first_or_later step steps g = list_any-append (performs g) step (actions_of steps)

performs_first : (step : List Action) (steps : List (List Action)) (g : ℕ) → list_any (performs g) step ≡ true
    → PerformsIn (step ∷ steps) g 0
performs_first step steps g some =
    let it = list_any-found (performs g) step some in
    record { step = step; action = it.member; at_time = refl; in_step = it.there; is = it.passes }

performs_later : (step : List Action) (steps : List (List Action)) (g s : ℕ) → PerformsIn steps g s
    → PerformsIn (step ∷ steps) g (suc s)
performs_later step steps g s it = record { step = it.step; action = it.action; at_time = it.at_time; in_step = it.in_step; is = it.is }

was_first : (step : List Action) (steps : List (List Action)) (g : ℕ) → PerformsIn (step ∷ steps) g 0
    → list_any (performs g) step ≡ true
was_first step steps g it =
    let same : step ≡ it.step = same_Some step it.step it.at_time in
    rw same (list_any-some (performs g) it.step it.action it.in_step it.is)

was_later : (step : List Action) (steps : List (List Action)) (g s : ℕ) → PerformsIn (step ∷ steps) g (suc s)
    → PerformsIn steps g s
was_later step steps g s it = record { step = it.step; action = it.action; at_time = it.at_time; in_step = it.in_step; is = it.is }

-- what is done was performed in an earlier step, and the other way
pub done-performed : (steps : List (List Action)) (g t : ℕ) → IsTrue (is_done (take t steps) g)
    → (s : ℕ) × (s < t) × PerformsIn steps g s
done-performed [] g zero done = absurd cc
done-performed [] g (suc t) done = absurd cc
done-performed (step ∷ steps) g zero done = absurd cc
done-performed (step ∷ steps) g (suc t) done = elim (or_cases (list_any (performs g) step) (is_done (take t steps) g) (sym (done_first_or_later step (take t steps) g) ∙ done)) [
  | inl first ↦ (0, omega arith, performs_first step steps g first)
  | inr later ↦ let it = done-performed steps g t later in (suc it.0, omega (arith, it.1), performs_later step steps g it.0 it.2)
]

pub performed-done : (steps : List (List Action)) (g s t : ℕ) → PerformsIn steps g s → s < t
    → IsTrue (is_done (take t steps) g)
performed-done steps g s zero it before = absurd (omega arith)
performed-done [] g s (suc t) it before = let at = it.at_time in absurd cc
performed-done (step ∷ steps) g zero (suc t) it before =
    done_first_or_later step (take t steps) g ∙ or_left (list_any (performs g) step) (is_done (take t steps) g) (was_first step steps g it)
performed-done (step ∷ steps) g (suc s) (suc t) it before =
    done_first_or_later step (take t steps) g
    ∙ or_right (list_any (performs g) step) (is_done (take t steps) g) (performed-done steps g s t (was_later step steps g s it) (omega arith))

some_perform : (steps : List (List Action)) (g s : ℕ) → PerformsIn steps g s
    → 1 ≤ how_many (performs g) (actions_of steps)
some_perform [] g s it = let at = it.at_time in absurd cc
some_perform (step ∷ steps) g zero it =
    omega (arith, how_many-append (performs g) step (actions_of steps), how_many_any (performs g) step (was_first step steps g it))
some_perform (step ∷ steps) g (suc s) it =
    omega (arith, how_many-append (performs g) step (actions_of steps), some_perform steps g s (was_later step steps g s it))

-- the first step and a later one are two
first_and_later : (step : List Action) (steps : List (List Action)) (g s : ℕ)
    → how_many (performs g) (actions_of (step ∷ steps)) ≤ 1
    → PerformsIn (step ∷ steps) g 0 → PerformsIn (step ∷ steps) g (suc s) → ⊥
first_and_later step steps g s few first later =
    omega (arith, few, how_many-append (performs g) step (actions_of steps), how_many_any (performs g) step (was_first step steps g first), some_perform steps g s (was_later step steps g s later))

one_step : (steps : List (List Action)) (g s t : ℕ) → how_many (performs g) (actions_of steps) ≤ 1
    → PerformsIn steps g s → PerformsIn steps g t → s ≡ t
one_step [] g s t few one other = let at = one.at_time in absurd cc
one_step (step ∷ steps) g zero zero few one other = refl
one_step (step ∷ steps) g zero (suc t) few one other = absurd (first_and_later step steps g t few one other)
one_step (step ∷ steps) g (suc s) zero few one other = absurd (first_and_later step steps g s few other one)
one_step (step ∷ steps) g (suc s) (suc t) few one other =
    ap suc (one_step steps g s t (omega (arith, few, how_many-append (performs g) step (actions_of steps))) (was_later step steps g s one) (was_later step steps g t other))

-- no operation is performed in two steps
pub performed-one_step : (setting : SettingValue) (steps : List (List Action)) (g s t : ℕ) → Plays setting steps
    → IsTrue (is_performed setting.circuit g)
    → PerformsIn steps g s → PerformsIn steps g t → s ≡ t
performed-one_step setting steps g s t plays is one other = one_step steps g s t (omega (arith, plays.performed.once g is)) one other

-- ---- the step of a time

performs_next : (steps : List (List Action)) (g r : ℕ) → list_any (performs g) (slice_index_or steps r []) ≡ true
    → PerformsIn steps g r
performs_next [] g zero some = absurd cc
performs_next [] g (suc r) some = absurd cc
performs_next (step ∷ steps) g zero some = performs_first step steps g some
performs_next (step ∷ steps) g (suc r) some = performs_later step steps g r (performs_next steps g r some)

next_performs : (steps : List (List Action)) (g r : ℕ) (it : PerformsIn steps g r)
    → Contains (step_at steps (suc r)) it.action
next_performs steps g r it =
    let step : step_at steps (suc r) ≡ it.step = step_next steps r ∙ get_or_from_slice_get steps r it.step [] it.at_time in
    subst (λ (l : List Action). Contains l it.action) (sym step) it.in_step

-- an action that performs the operation, by its zone
performing : (g : ℕ) (action : Action) → performs g action ≡ true
    → (z : ℕ) × (action ≡ actions.Op (record { 0 = z }) (record { 0 = g }))
performing g (actions.Op zone op) is = (zone.0, ap (λ (n : ℕ). actions.Op zone (record { 0 = n })) (eqb-true op.0 g is))
performing g (actions.Split zone end count) is = absurd cc
performing g (actions.Move from to) is = absurd cc
performing g (actions.Cross crossed from to) is = absurd cc
performing g (actions.Merge zone end) is = absurd cc
performing g (actions.Swap zone index) is = absurd cc

performs_by : (g z : ℕ) (action : Action) → performs_in g z action ≡ true → performs g action ≡ true
performs_by g z (actions.Op zone op) is = (and_parts (zone.0 == z) (op.0 == g) is).1
performs_by g z (actions.Split zone end count) is = absurd cc
performs_by g z (actions.Move from to) is = absurd cc
performs_by g z (actions.Cross crossed from to) is = absurd cc
performs_by g z (actions.Merge zone end) is = absurd cc
performs_by g z (actions.Swap zone index) is = absurd cc

-- the zone is able to perform it
able_zone : (setting : SettingValue) (config : List (List Ion)) (g z : ℕ)
    → Passes setting config (actions.Op (record { 0 = z }) (record { 0 = g })) → IsActivity setting (operation g z)
able_zone setting config g z passes =
    let first = guard_passed (is_zone setting.trap z) rules.NoPlace _ passes in
    let performed = guard_passed (is_performed setting.circuit g) rules.NotOp _ first.1 in
    let able = guard_passed (is_able_for setting z g) rules.NotAble _ performed.1 in
    (performed.0, able.0, ltb-true z (length setting.trap.zones) first.0)

-- a step of a schedule that plays performs it, by the facts
is_performed_by : (setting : SettingValue) (steps : List (List Action)) (g r : ℕ) → Plays setting steps
    → PerformsIn steps g r → IsPerformed setting (facts_of setting steps) g (suc r)
is_performed_by setting steps g r plays it =
    let by = performing g it.action it.is in
    let action : Action = actions.Op (record { 0 = by.0 }) (record { 0 = g }) in
    let there : Contains (step_at steps (suc r)) action = subst (Contains (step_at steps (suc r))) by.1 (next_performs steps g r it) in
    let legal : IsLegal setting (config_at setting steps r) (step_at steps (suc r)) = legal_at setting steps r plays.legal in
    record {
      zone = by.0;
      able = able_zone setting (config_at setting steps r) g by.0 (All-contains (Passes setting (config_at setting steps r)) (step_at steps (suc r)) action legal.passes there);
      performs = list_any-some (performs_in g by.0) (step_at steps (suc r)) action there
          (and_from (by.0 == by.0) (g == g) (eq-eqb by.0 by.0 refl) (eq-eqb g g refl));
    }

-- ---- which operations are done

pub undone-facts : (setting : SettingValue) (steps : List (List Action)) → StartUndone setting (facts_of setting steps)
undone-facts setting steps g is = refl

pub once-facts : (setting : SettingValue) (steps : List (List Action)) (r : ℕ) → IsSetting setting
    → Plays setting steps → PerformedOnce setting (facts_of setting steps) r (suc r)
once-facts setting steps r sound plays g z activity performed =
    let it = list_any-found (performs_in g z) (step_at steps (suc r)) performed in
    let some : list_any (performs g) (step_at steps (suc r)) ≡ true =
    list_any-some (performs g) (step_at steps (suc r)) it.member it.there (performs_by g z it.member it.passes) in
    let now : PerformsIn steps g r = performs_next steps g r (ap (list_any (performs g)) (sym (step_next steps r)) ∙ some) in (
      false_from_ne_true (is_done (take r steps) g) (λ done.
          let earlier = done-performed steps g r done in
          omega (arith, earlier.1, performed-one_step setting steps g earlier.0 r plays activity.0 earlier.2 now)),
      performed-done steps g r (suc r) now (omega arith),
    )

pub done-facts : (setting : SettingValue) (steps : List (List Action)) (r : ℕ) → IsSetting setting
    → Plays setting steps → DoneByPerforming setting (facts_of setting steps) r (suc r)
done-facts setting steps r sound plays g is = (
  λ done. let it = done-performed steps g r done in performed-done steps g it.0 (suc r) it.2 (omega (arith, it.1)),
  λ done.
      let it = done-performed steps g (suc r) done in
      elim (cases_eq it.0 r) [
        | inl same ↦ inr (is_performed_by setting steps g r plays (subst (PerformsIn steps g) same it.2))
        | inr other ↦ inl (performed-done steps g it.0 r it.2 (omega (arith, it.1, other)))
      ],
)

-- a step that performs it
some_step : (setting : SettingValue) (steps : List (List Action)) (g : ℕ) → Plays setting steps
    → IsTrue (is_performed setting.circuit g) → (s : ℕ) × (s < length steps) × PerformsIn steps g s
some_step setting steps g plays is =
    let done : is_done steps g ≡ true = how_many-some (performs g) (actions_of steps) (omega (arith, plays.performed.once g is)) in
    done-performed steps g (length steps) (rw (take_all (length steps) steps (omega arith)) done)

pub in_order-facts : (setting : SettingValue) (steps : List (List Action)) (r : ℕ) → IsSetting setting
    → Plays setting steps → DoneInOrder setting (facts_of setting steps) r (suc r)
in_order-facts setting steps r sound plays g h g_is h_is forced done =
    let it = done-performed steps g (suc r) done in
    let earlier = some_step setting steps h plays h_is in
    let before : earlier.0 < it.0 = plays.performed.in_order h g ((forced_iff setting.circuit h g).0 forced) earlier.0 it.0 earlier.2 it.2 in
    performed-done steps h earlier.0 r earlier.2 (omega (arith, it.1))

-- ---- the goal

-- all pass the test
each_passes : {X : Type 0} (test : X → Bool) (xs : List X) (x : X) → list_all test xs ≡ true → Contains xs x
    → test x ≡ true
each_passes test [] x all there = absurd (Contains-nil x there)
each_passes test (y ∷ ys) x all there =
    let parts = and_parts (test y) (list_all test ys) all in
    elim ((Contains-cons y ys x).0 there) [
      | inl here ↦ ap test (sym here) ∙ parts.0
      | inr later ↦ each_passes test ys x parts.1 later
    ]

all_pass : {X : Type 0} (test : X → Bool) (xs : List X) → ((x : X) → Contains xs x → test x ≡ true)
    → list_all test xs ≡ true
all_pass test [] each = refl
all_pass test (x ∷ xs) each =
    and_from (test x) (list_all test xs) (each x (Contains-first x xs)) (all_pass test xs (λ y there. each y (Contains-later x xs y there)))

pub goal_needs-facts : (setting : SettingValue) (steps : List (List Action)) (t : ℕ)
    → GoalNeedsAll setting (facts_of setting steps) t
goal_needs-facts setting steps t g is goal =
    each_passes (is_done (take t steps)) (performed setting.circuit) g goal ((there-performed setting.circuit g).1 is)

pub goal-facts : (setting : SettingValue) (steps : List (List Action)) (t : ℕ) → Plays setting steps → length steps ≤ t
    → facts_of setting steps (goal_item t) ≡ true
goal-facts setting steps t plays long =
    all_pass (is_done (take t steps)) (performed setting.circuit) (λ g there.
    let it = some_step setting steps g plays ((there-performed setting.circuit g).0 there) in
    performed-done steps g it.0 t it.2 (omega (arith, it.1)))
