-- Steps with which all is well: what was performed is closed downwards, and one more step.
use Rattle.std.proofs.Common.{◌≡◌, ℕ, ◌<◌, List, [], ◌∷◌, ◌++◌, length, take, Bool, true, Some, sym, ap, subst, ◌∙◌, inl, inr, arith}
use Rattle.std.specs.Prelude.{IsTrue, slice_get}
use Rattle.std.proofs.Math.Seq.{take-append_seam}
use Rattle.std.proofs.lemmas.Bool.{cases_Bool}
use Rattle.std.proofs.lemmas.List.{take-append-le, take-take}
use Rattle.circuit_core.specs.Order.{Forced, is_performed}
use Rattle.step_rules.specs.declared.action.Action.{Action}
use Rattle.step_rules.specs.Setting.{SettingValue}
use Rattle.step_rules.specs.Play.{is_done}
use Rattle.schedule_play.specs.Judging.{Before, before_of, Owes, OwesFirst, IsWell, GoWell}
use Rattle.schedule_play.specs.Progress.{AreFlags, IsOwed, IsOwedFirst, StepIsWell}
use Rattle.schedule_play.specs.Ready.{AreClosed}
use Rattle.schedule_play.proofs.Lists.{slice_pushed, slice_taken}
use Rattle.schedule_play.proofs.Owed.{forced_within}
use Rattle.schedule_play.proofs.Done.{DoneAt, done_at, done_take}

-- ---- more steps, and fewer

pub well_none : (setting : SettingValue) → GoWell setting []
well_none setting time place step action at in_step = absurd cc

pub well_pushed : (setting : SettingValue) (steps : List (List Action)) (step : List Action) → GoWell setting steps → StepIsWell setting steps step → GoWell setting (steps ++ step ∷ [])
well_pushed setting steps step go well time place other action at in_step = elim (slice_pushed steps step other time at) [
  | inl there ↦ (let front : take time (steps ++ step ∷ []) ≡ take time steps = take-append-le time steps (step ∷ []) (omega (arith, there.0)) in
      subst (λ (l : List (List Action)). IsWell setting (before_of l (take place other)) action) (sym front) (go time place other action there.1 in_step))
  | inr last ↦ (let front : take time (steps ++ step ∷ []) ≡ steps = ap (λ (n : ℕ). take n (steps ++ step ∷ [])) last.0 ∙ take-append_seam steps (step ∷ []) in
      let here : slice_get step place ≡ Some action = ap (λ (s : List Action). slice_get s place) last.1 ∙ in_step in
      subst (λ (l : List (List Action)). IsWell setting (before_of l (take place other)) action) (sym front)
      (subst (λ (s : List Action). IsWell setting (before_of steps (take place s)) action) last.1 (well place action here)))
]

pub well_taken : (setting : SettingValue) (steps : List (List Action)) (n : ℕ) → GoWell setting steps → GoWell setting (take n steps)
well_taken setting steps n go time place step action at in_step =
    let there = slice_taken n steps step time at in
    let front : take time (take n steps) ≡ take time steps = take-take time n steps (omega (arith, there.0)) in
    subst (λ (l : List (List Action)). IsWell setting (before_of l (take place step)) action) (sym front) (go time place step action there.1 in_step)

-- ---- what has to come before what was performed was performed

pub closed_done : (setting : SettingValue) (steps : List (List Action)) (op needs : ℕ) → GoWell setting steps → is_done steps op ≡ true → IsTrue (is_performed setting.circuit needs) → Forced setting.circuit needs op → is_done steps needs ≡ true
closed_done setting steps op needs go done performed forced =
    let it : DoneAt steps op = done_at steps op done in
    let well : IsWell setting (before_of (take it.time steps) (take it.place it.step)) it.action = go it.time it.place it.step it.action it.at_time it.in_step in
    elim (cases_Bool (is_done (take it.time steps) needs)) [
      | inl before ↦ done_take it.time steps needs before
      | inr undone ↦ absurd (well.none_owed op needs it.is (record { performed = performed; forced = forced; undone = undone }))
    ]

pub closed : (setting : SettingValue) (steps : List (List Action)) → GoWell setting steps → AreClosed setting.circuit steps
closed setting steps go op done needs performed forced = closed_done setting steps op needs go done performed forced

-- ---- by the flags

pub owes_by : (setting : SettingValue) (before : Before) (flags : List Bool) (op needs : ℕ) → AreFlags setting.circuit before.steps flags → IsOwed setting.circuit flags op needs → Owes setting before op needs
owes_by setting before flags op needs are owed =
    let within : needs < length flags = omega (arith, forced_within setting.circuit needs op owed.forced, are.len) in
    record { performed = owed.performed; forced = owed.forced; undone = sym (are.each needs within) ∙ owed.undone }

pub owed_by : (setting : SettingValue) (before : Before) (flags : List Bool) (op needs : ℕ) → AreFlags setting.circuit before.steps flags → Owes setting before op needs → IsOwed setting.circuit flags op needs
owed_by setting before flags op needs are owes =
    let within : needs < length flags = omega (arith, forced_within setting.circuit needs op owes.forced, are.len) in
    record { performed = owes.performed; forced = owes.forced; undone = are.each needs within ∙ owes.undone }

pub owes_first_by : (setting : SettingValue) (before : Before) (flags : List Bool) (op needs : ℕ) → AreFlags setting.circuit before.steps flags → IsOwedFirst setting.circuit flags op needs → OwesFirst setting before op needs
owes_first_by setting before flags op needs are first =
    record { owed = owes_by setting before flags op needs are first.owed; least = λ other owes. first.least other (owed_by setting before flags op other are owes) }
