-- A schedule with which all is well plays where no operation is missing.
use Rattle.std.proofs.Common.{◌≡◌, ℕ, ◌+◌, ◌<◌, ◌≤◌, List, [], ◌∷◌, ◌++◌, length, take, get_or, Bool, true, false, Some, refl, sym, ap, subst, ◌∙◌, inl, inr, arith, append_assoc}
use Rattle.std.specs.Prelude.{IsTrue, slice_get, fold, if◌then◌else◌, ◌||◌}
use Rattle.std.proofs.Math.Seq.{take-append_seam}
use Rattle.std.proofs.lemmas.Bool.{cases_Bool, cases_lt, eqb-true}
use Rattle.std.proofs.lemmas.Option.{slice_get-get_or, slice_get_within, get_or_from_slice_get}
use Rattle.std.proofs.lemmas.List.{append-nil, take_more, take_all}
use Rattle.std.proofs.lemmas.List.Concat.{flat_map-append}
use Rattle.std.proofs.Math.Bool.{or-false}
use Rattle.std.proofs.lemmas.List.Sums.{fold-append}
use Rattle.qc_base.specs.Counting.{how_many}
use Rattle.qc_base.specs.declared.ids.Ion.{Ion}
use Rattle.circuit_core.specs.Order.{Forced, is_performed}
use Rattle.step_rules.specs.declared.action.Action.{Action}
use Rattle.step_rules.specs.declared.action.Action.TheVariants as actions
use Rattle.step_rules.specs.Placement.{start_of}
use Rattle.step_rules.specs.Setting.{SettingValue}
use Rattle.step_rules.specs.Steps.{AreApart, IsLegal, after_step}
use Rattle.step_rules.specs.Guards.{Passes, PassesTransport}
use Rattle.step_rules.specs.Play.{AreLegal, performs, actions_of, PerformsIn, Plays, after_steps, is_done}
use Rattle.schedule_play.specs.declared.fault.PlayFault.{PlayFault}
use Rattle.schedule_play.specs.declared.fault.PlayFault.TheVariants as faults
use Rattle.schedule_play.specs.Faults.{LeavesOut, Explains}
use Rattle.schedule_play.specs.Judging.{before_of, config_at, was_done, IsWell, GoWell}
use Rattle.schedule_play.specs.Progress.{AreFlags, marked, IsStateBefore, StepIsWell, ExplainsStep, IsUndone, IsMissing, MayBeTaken}
use Rattle.schedule_play.proofs.Lists.{slice_take, slice_taken, there_is}
use Rattle.step_rules.proofs.Carried.{transport_of}
use Rattle.schedule_play.proofs.Done.{DoneAt, done_at, at_done, done_append, done_none, done_more, flags_step, flags_next}
use Rattle.schedule_play.proofs.Going.{well_pushed}
use Rattle.schedule_play.proofs.Causes.{step_first, leaves_out}
use Rattle.schedule_play.proofs.Judged.{op_performed, performed_within}

-- ---- the steps are legal

pub at_seam : {X : Type 0} (xs rest : List X) (x : X) → slice_get (xs ++ x ∷ rest) (length xs) ≡ Some x
at_seam [] rest x = refl
at_seam (y ∷ ys) rest x = at_seam ys rest x

pub step_of : (setting : SettingValue) (steps rest : List (List Action)) (step : List Action) → GoWell setting (steps ++ step ∷ rest) → StepIsWell setting steps step
step_of setting steps rest step go place action at =
    let there : slice_get (steps ++ step ∷ rest) (length steps) ≡ Some step = at_seam steps rest step in
    subst (λ (l : List (List Action)). IsWell setting (before_of l (take place step)) action) (take-append_seam steps (step ∷ rest)) (go (length steps) place step action there at)

pub step_legal : (setting : SettingValue) (steps : List (List Action)) (step : List Action) → StepIsWell setting steps step → IsLegal setting (config_at setting (before_of steps [])) step
step_legal setting steps step well = record {
  passes = λ k d h. (well k (get_or step k d) (slice_get-get_or step k d h)).passes;
  apart = λ i j d before h.
      let it = well j (get_or step j d) (slice_get-get_or step j d h) in
      let there : slice_get (take j step) i ≡ Some (get_or step i d) = slice_take j step (get_or step i d) i before (slice_get-get_or step i d (omega arith)) in
      let is : get_or (take j step) i d ≡ get_or step i d = get_or_from_slice_get (take j step) i (get_or step i d) d there in
      subst (λ (a : Action). AreApart setting.trap a (get_or step j d)) is (it.apart i d (slice_get_within (take j step) i (get_or step i d) there));
}

pub may_be_taken : (setting : SettingValue) (steps : List (List Action)) (step given : List Action) (places : List (List Ion)) → given ≡ step → places ≡ config_at setting (before_of steps []) → StepIsWell setting steps step → MayBeTaken setting.trap places given
may_be_taken setting steps step given places same config well =
    let legal = step_legal setting steps step well in
    subst (MayBeTaken setting.trap places) (sym same) (record {
      passes = λ k d h. subst (λ (p : List (List Ion)). PassesTransport setting.trap p (get_or step k d)) (sym config) (transport_of setting (config_at setting (before_of steps [])) (get_or step k d) (legal.passes k d h));
      apart = legal.apart;
    })

legal_rest : (setting : SettingValue) (steps rest : List (List Action)) → GoWell setting (steps ++ rest) → AreLegal setting (after_steps setting.trap (start_of setting.trap setting.placement) steps) rest
legal_rest setting steps [] go = tt
legal_rest setting steps (step ∷ rest) go =
    let start : List (List Ion) = start_of setting.trap setting.placement in
    let more : GoWell setting ((steps ++ step ∷ []) ++ rest) = subst (GoWell setting) (sym (append_assoc steps (step ∷ []) rest)) go in (
      step_legal setting steps step (step_of setting steps rest step go),
      subst (λ (config : List (List Ion)). AreLegal setting config rest) (fold-append (after_step setting.trap) start steps (step ∷ [])) (legal_rest setting (steps ++ step ∷ []) rest more),
    )

-- ---- no operation is performed twice

abbrev pub count : ℕ → List (List Action) → ℕ
count k steps = how_many (performs k) (actions_of steps)

abbrev one : Bool → ℕ
one b = if b then 1 else 0

pub how_many-append : {A : Type 0} (test : A → Bool) (xs ys : List A) → how_many test (xs ++ ys) ≡ how_many test xs + how_many test ys
how_many-append test [] ys = omega arith
how_many-append test (x ∷ xs) ys = let more = how_many-append test xs ys in omega arith

pub actions-append : (steps more : List (List Action)) → actions_of (steps ++ more) ≡ actions_of steps ++ actions_of more
actions-append steps more = flat_map-append (λ (s : List Action). s) steps more

pub count_last : (k : ℕ) (steps : List (List Action)) (step : List Action) → count k (steps ++ step ∷ []) ≡ count k steps + how_many (performs k) step
count_last k steps step =
    ap (how_many (performs k)) (actions-append steps (step ∷ []) ∙ ap (λ (l : List Action). actions_of steps ++ l) (append-nil step)) ∙ how_many-append (performs k) (actions_of steps) step

count_more : (k : ℕ) (steps : List (List Action)) (step : List Action) (action : Action) → count k (steps ++ (step ++ action ∷ []) ∷ []) ≡ count k (steps ++ step ∷ []) + one (performs k action)
count_more k steps step action = omega (arith, count_last k steps (step ++ action ∷ []), count_last k steps step, how_many-append (performs k) step (action ∷ []))

-- how often it is performed: once if at all
abbrev AtMostOnce : ℕ → List (List Action) → Type 0
AtMostOnce k steps = count k steps ≡ one (is_done steps k)

plus-none : (n : ℕ) → n + 0 ≡ n
plus-none n = omega arith

one_more : (before now this : Bool) (counted new : ℕ) → now ≡ (before || this) → (this ≡ true → before ≡ false) → counted ≡ one before → new ≡ counted + one this → new ≡ one now
one_more before now true counted new is first so_far grown =
    let free : before ≡ false = first refl in
    let none : counted ≡ 0 = so_far ∙ ap one free in
    let done : now ≡ true = is ∙ ap (λ (b : Bool). b || true) free in
    grown ∙ ap (λ (n : ℕ). n + 1) none ∙ sym (ap one done)
one_more before now false counted new is first so_far grown =
    let same : now ≡ before = is ∙ or-false before in
    grown ∙ plus-none counted ∙ so_far ∙ sym (ap one same)

once_more : (k : ℕ) (steps : List (List Action)) (step : List Action) (action : Action) → (performs k action ≡ true → is_done (steps ++ step ∷ []) k ≡ false) → AtMostOnce k (steps ++ step ∷ []) → AtMostOnce k (steps ++ (step ++ action ∷ []) ∷ [])
once_more k steps step action first so_far =
    one_more (is_done (steps ++ step ∷ []) k) (is_done (steps ++ (step ++ action ∷ []) ∷ []) k) (performs k action) (count k (steps ++ step ∷ [])) (count k (steps ++ (step ++ action ∷ []) ∷ []))
    (done_more steps step action k) first so_far (count_more k steps step action)

once_in_step : (setting : SettingValue) (k : ℕ) (steps : List (List Action)) (step rest : List Action) → StepIsWell setting steps (step ++ rest) → AtMostOnce k (steps ++ step ∷ []) → AtMostOnce k (steps ++ (step ++ rest) ∷ [])
once_in_step setting k steps step [] well so_far = subst (λ (s : List Action). AtMostOnce k (steps ++ s ∷ [])) (sym (append-nil step)) so_far
once_in_step setting k steps step (action ∷ rest) well so_far =
    let first : performs k action ≡ true → is_done (steps ++ step ∷ []) k ≡ false = λ is.
    subst (λ (l : List Action). was_done (before_of steps l) k ≡ false) (take-append_seam step (action ∷ rest)) ((well (length step) action (at_seam step rest action)).first k is) in
    let more : StepIsWell setting steps ((step ++ action ∷ []) ++ rest) = subst (StepIsWell setting steps) (sym (append_assoc step (action ∷ []) rest)) well in
    subst (λ (s : List Action). AtMostOnce k (steps ++ s ∷ [])) (append_assoc step (action ∷ []) rest) (once_in_step setting k steps (step ++ action ∷ []) rest more (once_more k steps step action first so_far))

once_rest : (setting : SettingValue) (k : ℕ) (steps rest : List (List Action)) → GoWell setting (steps ++ rest) → AtMostOnce k steps → AtMostOnce k (steps ++ rest)
once_rest setting k steps [] go so_far = subst (AtMostOnce k) (sym (append-nil steps)) so_far
once_rest setting k steps (step ∷ rest) go so_far =
    let begin : AtMostOnce k (steps ++ [] ∷ []) = count_last k steps [] ∙ plus-none (count k steps) ∙ so_far ∙ sym (ap one (done_none steps k)) in
    let whole : AtMostOnce k (steps ++ step ∷ []) = once_in_step setting k steps [] step (step_of setting steps rest step go) begin in
    let more : GoWell setting ((steps ++ step ∷ []) ++ rest) = subst (GoWell setting) (sym (append_assoc steps (step ∷ []) rest)) go in
    subst (AtMostOnce k) (append_assoc steps (step ∷ []) rest) (once_rest setting k (steps ++ step ∷ []) rest more whole)

pub at_most_once : (setting : SettingValue) (k : ℕ) (steps : List (List Action)) → GoWell setting steps → count k steps ≡ one (is_done steps k)
at_most_once setting k steps go = once_rest setting k [] steps go refl

-- ---- in order

pub op_of : (setting : SettingValue) (places : List (List Ion)) (k : ℕ) (action : Action) → performs k action ≡ true → Passes setting places action → is_performed setting.circuit k ≡ true
op_of setting places k (actions.Split zone end count) is passes = absurd cc
op_of setting places k (actions.Move from to) is passes = absurd cc
op_of setting places k (actions.Cross junction from to) is passes = absurd cc
op_of setting places k (actions.Merge zone end) is passes = absurd cc
op_of setting places k (actions.Swap zone index) is passes = absurd cc
op_of setting places k (actions.Op zone op) is passes = subst (λ (n : ℕ). is_performed setting.circuit n ≡ true) (eqb-true op.0 k is) (op_performed setting places zone op (actions.Op zone op) refl passes)

-- what was performed in an earlier step was performed before
done_before : (setting : SettingValue) (steps : List (List Action)) (k : ℕ) (actions : List Action) → is_done steps k ≡ true → was_done (before_of steps actions) k ≡ true
done_before setting steps k actions e = done_append steps (actions ∷ []) k ∙ ap (λ (b : Bool). b || is_done (actions ∷ []) k) e

pub in_order : (setting : SettingValue) (steps : List (List Action)) (i j s t : ℕ) → GoWell setting steps → Forced setting.circuit i j → PerformsIn steps i s → PerformsIn steps j t → s < t
in_order setting steps i j s t go forced first second =
    let one_place = there_is first.step first.action first.in_step in
    let other_place = there_is second.step second.action second.in_step in
    let one_well : IsWell setting (before_of (take s steps) (take one_place.0 first.step)) first.action = go s one_place.0 first.step first.action first.at_time one_place.1 in
    let other_well : IsWell setting (before_of (take t steps) (take other_place.0 second.step)) second.action = go t other_place.0 second.step second.action second.at_time other_place.1 in
    let performed = op_of setting (config_at setting (before_of (take s steps) (take one_place.0 first.step))) i first.action first.is one_well.passes in
    elim (cases_Bool (is_done (take t steps) i)) [
      | inr undone ↦ absurd (other_well.none_owed j i second.is (record { performed = performed; forced = forced; undone = undone }))
      | inl done ↦ elim (cases_lt s t) [
        | inl before ↦ before
        | inr after ↦ (let it : DoneAt (take t steps) i = done_at (take t steps) i done in
            let there = slice_taken t steps it.step it.time it.at_time in
            let here : slice_get (take s steps) it.time ≡ Some it.step = slice_take s steps it.step it.time (omega (arith, there.0)) there.1 in
            let twice : was_done (before_of (take s steps) (take one_place.0 first.step)) i ≡ true =
            done_before setting (take s steps) i (take one_place.0 first.step) (at_done (take s steps) it.time it.place i it.step it.action here it.in_step it.is) in
            let free = one_well.first i first.is in
            absurd cc)
      ]
    ]

-- ---- the whole schedule

pub plays : (setting : SettingValue) (steps : List (List Action)) → GoWell setting steps → ((k : ℕ) → IsTrue (is_performed setting.circuit k) → is_done steps k ≡ true) → Plays setting steps
plays setting steps go all = record {
  legal = legal_rest setting [] steps go;
  performed = record {
    once = λ k performed. at_most_once setting k steps go ∙ ap one (all k performed);
    in_order = λ i j forced s t first second. in_order setting steps i j s t go forced first second;
  };
}

done_by_flag : (setting : SettingValue) (steps : List (List Action)) (flags : List Bool) (k : ℕ) → AreFlags setting.circuit (steps ++ [] ∷ []) flags → IsTrue (is_performed setting.circuit k) → get_or flags k false ≡ is_done steps k
done_by_flag setting steps flags k are performed = are.each k (omega (arith, performed_within setting.circuit k performed, are.len)) ∙ done_none steps k

done_unless : (setting : SettingValue) (steps : List (List Action)) (flags : List Bool) (k : ℕ) → AreFlags setting.circuit (steps ++ [] ∷ []) flags → IsTrue (is_performed setting.circuit k) → (IsUndone setting.circuit flags k → ⊥) → is_done steps k ≡ true
done_unless setting steps flags k are performed none = elim (cases_Bool (is_done steps k)) [
  | inl done ↦ done
  | inr undone ↦ absurd (none (record { performed = performed; undone = done_by_flag setting steps flags k are performed ∙ undone }))
]

-- what is kept at the end
pub played : (setting : SettingValue) (schedule : List (List Action)) (time : ℕ) (places : List (List Ion)) (early marks : List Bool) → length schedule ≤ time → IsStateBefore setting (before_of (take time schedule) []) places early marks []
    → ((k : ℕ) → IsUndone setting.circuit marks k → ⊥) → Plays setting schedule
played setting schedule time places early marks h state none =
    let go : GoWell setting (take time schedule) = state.well in
    subst (Plays setting) (take_all time schedule h) (plays setting (take time schedule) go (λ k performed. done_unless setting (take time schedule) marks k state.done performed (none k)))

pub lacked : (setting : SettingValue) (schedule : List (List Action)) (time : ℕ) (places : List (List Ion)) (early marks : List Bool) (op : ℕ) → length schedule ≤ time → IsStateBefore setting (before_of (take time schedule) []) places early marks []
    → IsMissing setting.circuit marks op → LeavesOut setting schedule op
lacked setting schedule time places early marks op h state missing =
    let past : List (List Action) = take time schedule in
    let undone : is_done past op ≡ false = sym (done_by_flag setting past marks op state.done missing.undone.performed) ∙ missing.undone.undone in
    let least : (other : ℕ) → other < op → IsTrue (is_performed setting.circuit other) → is_done past other ≡ true =
    λ other before performed. done_unless setting past marks other state.done performed (missing.least other before) in
    subst (λ (l : List (List Action)). LeavesOut setting l op) (take_all time schedule h) (leaves_out setting past op state.well missing.undone.performed undone least)

-- ---- one more step

pub state_next : (setting : SettingValue) (schedule : List (List Action)) (time : ℕ) (d given : List Action) (places places_now : List (List Ion)) (early marks early_now marks_now : List Bool) → time < length schedule → given ≡ get_or schedule time d
    → IsStateBefore setting (before_of (take time schedule) []) places early marks [] → StepIsWell setting (take time schedule) given → AreFlags setting.circuit (take time schedule ++ given ∷ []) marks_now
    → places_now ≡ after_step setting.trap places given → early_now ≡ fold marked early given → IsStateBefore setting (before_of (take (time + 1) schedule) []) places_now early_now marks_now []
state_next setting schedule time d given places places_now early marks early_now marks_now h same state well flags moved marked_is =
    let past : List (List Action) = take time schedule in
    let start : List (List Ion) = start_of setting.trap setting.placement in
    let front : take (time + 1) schedule ≡ past ++ given ∷ [] = take_more schedule time d h ∙ ap (λ (s : List Action). past ++ s ∷ []) (sym same) in
    subst (λ (l : List (List Action)). IsStateBefore setting (before_of l []) places_now early_now marks_now []) (sym front) (record {
      config = moved ∙ ap (λ (p : List (List Ion)). after_step setting.trap p given) state.config ∙ sym (fold-append (after_step setting.trap) start past (given ∷ []));
      earlier = subst (AreFlags setting.circuit (past ++ given ∷ [])) (sym marked_is) (flags_step setting.circuit past given early state.earlier);
      done = flags_next setting.circuit (past ++ given ∷ []) marks_now flags;
      footprints = refl;
      well = well_pushed setting past given state.well well;
    })

-- ---- a fault

pub explained : (setting : SettingValue) (schedule : List (List Action)) (time : ℕ) (step : List Action) (fault : PlayFault) → slice_get schedule time ≡ Some step → GoWell setting (take time schedule) → ExplainsStep setting (take time schedule) step fault → Explains setting schedule fault
explained setting schedule time step (faults.Broken at place rule) there go says = step_first setting schedule time step (faults.Broken at place rule) there go says
explained setting schedule time step (faults.Shared at first second) there go says = step_first setting schedule time step (faults.Shared at first second) there go says
explained setting schedule time step (faults.Early at op needs) there go says = step_first setting schedule time step (faults.Early at op needs) there go says
explained setting schedule time step (faults.Twice at op) there go says = step_first setting schedule time step (faults.Twice at op) there go says
explained setting schedule time step (faults.Missing op) there go says = absurd says.offends
explained setting schedule time step faults.NoMemory there go says = tt
