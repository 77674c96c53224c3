-- Which operations some steps perform, and flags that say it.
use Rattle.std.proofs.Common.{◌≡◌, ℕ, zero, suc, ◌<◌, List, [], ◌∷◌, ◌++◌, length, take, drop, get_or, set, Bool, true, false, Some, refl, sym, ap, subst, ◌∙◌, inl, inr, arith, append_assoc, get_or-set_same, get_or-set_other}
use Rattle.std.specs.Prelude.{◌||◌, ◌⊎◌, slice_get, fold}
use Rattle.std.specs.List.{list_any}
use Rattle.std.proofs.Math.Bool.{or-false}
use Rattle.std.proofs.lemmas.Bool.{cases_eq, eq-eqb, ne_eqb}
use Rattle.std.proofs.lemmas.Option.{none-some, slice_get_within, get_or_from_slice_get, slice_get-get_or}
use Rattle.std.proofs.lemmas.List.{append-nil, length-set, take-append-drop}
use Rattle.std.proofs.lemmas.List.Concat.{flat_map-append}
use Rattle.std.proofs.lemmas.List.Folds.{list_any-append, list_any_at, Any-from_list_any}
use Rattle.circuit_core.specs.Circuit.{CircuitValue}
use Rattle.step_rules.specs.declared.action.Action.{Action}
use Rattle.step_rules.specs.declared.action.Action.TheVariants as actions
use Rattle.step_rules.specs.Play.{performs, actions_of, is_done}
use Rattle.schedule_play.specs.Progress.{AreFlags, marked}

-- ---- more steps, and more actions of a step

pub or_true : (b : Bool) → (b || true) ≡ true
or_true true = refl
or_true false = refl

or_assoc : (a b c : Bool) → (a || (b || c)) ≡ ((a || b) || c)
or_assoc true b c = refl
or_assoc false b c = refl

pub or_cases : (a b : Bool) → (a || b) ≡ true → (a ≡ true) ⊎ (b ≡ true)
or_cases true b e = inl refl
or_cases false b e = inr e

pub done_append : (steps more : List (List Action)) (k : ℕ) → is_done (steps ++ more) k ≡ (is_done steps k || is_done more k)
done_append steps more k = ap (list_any (performs k)) (flat_map-append (λ (s : List Action). s) steps more) ∙ list_any-append (performs k) (actions_of steps) (actions_of more)

pub done_last : (steps : List (List Action)) (step : List Action) (k : ℕ) → is_done (steps ++ step ∷ []) k ≡ (is_done steps k || list_any (performs k) step)
done_last steps step k = done_append steps (step ∷ []) k ∙ ap (λ (l : List Action). is_done steps k || list_any (performs k) l) (append-nil step)

pub done_none : (steps : List (List Action)) (k : ℕ) → is_done (steps ++ [] ∷ []) k ≡ is_done steps k
done_none steps k = done_last steps [] k ∙ or-false (is_done steps k)

pub done_more : (steps : List (List Action)) (step : List Action) (action : Action) (k : ℕ) → is_done (steps ++ (step ++ action ∷ []) ∷ []) k ≡ (is_done (steps ++ step ∷ []) k || performs k action)
done_more steps step action k =
    done_last steps (step ++ action ∷ []) k
    ∙ ap (λ (b : Bool). is_done steps k || b) (list_any-append (performs k) step (action ∷ []) ∙ ap (λ (b : Bool). list_any (performs k) step || b) (or-false (performs k action)))
    ∙ or_assoc (is_done steps k) (list_any (performs k) step) (performs k action)
    ∙ ap (λ (b : Bool). b || performs k action) (sym (done_last steps step k))

pub done_take : (n : ℕ) (steps : List (List Action)) (k : ℕ) → is_done (take n steps) k ≡ true → is_done steps k ≡ true
done_take n steps k e = ap (λ (l : List (List Action)). is_done l k) (sym (take-append-drop n steps)) ∙ done_append (take n steps) (drop n steps) k ∙ ap (λ (b : Bool). b || is_done (drop n steps) k) e

-- ---- the action that performs an operation

pub record DoneAt (steps : List (List Action)) (k : ℕ) : Type 0 where
  pub time : ℕ
  pub place : ℕ
  pub step : List Action
  pub action : Action
  pub at_time : slice_get steps time ≡ Some step
  pub in_step : slice_get step place ≡ Some action
  pub is : performs k action ≡ true

pub done_at : (steps : List (List Action)) (k : ℕ) → is_done steps k ≡ true → DoneAt steps k
done_at [] k e = absurd cc
done_at (step ∷ steps) k e = elim (or_cases (list_any (performs k) step) (is_done steps k) (sym (list_any-append (performs k) step (actions_of steps)) ∙ e)) [
  | inl here ↦ (let it = Any-from_list_any (performs k) step here in
      record { time = 0; place = it.0; step = step; action = it.1; at_time = refl; in_step = slice_get-get_or step it.0 it.1 it.2 ∙ ap Some it.3; is = it.4 })
  | inr later ↦ (let it = done_at steps k later in record { time = suc it.time; place = it.place; step = it.step; action = it.action; at_time = it.at_time; in_step = it.in_step; is = it.is })
]

in_step_done : (step : List Action) (place k : ℕ) (action : Action) → slice_get step place ≡ Some action → performs k action ≡ true → list_any (performs k) step ≡ true
in_step_done step place k action at is = list_any_at (performs k) step place action (slice_get_within step place action at) (ap (performs k) (get_or_from_slice_get step place action action at) ∙ is)

pub at_done : (steps : List (List Action)) (time place k : ℕ) (step : List Action) (action : Action) → slice_get steps time ≡ Some step → slice_get step place ≡ Some action → performs k action ≡ true → is_done steps k ≡ true
at_done [] time place k step action at in_step is = absurd (none-some step at)
at_done (first ∷ steps) zero place k step action at in_step is =
    list_any-append (performs k) first (actions_of steps)
    ∙ ap (λ (b : Bool). b || is_done steps k) (in_step_done first place k action (subst (λ (s : List Action). slice_get s place ≡ Some action) (sym (get_or_from_slice_get (first ∷ steps) 0 step first at)) in_step) is)
at_done (first ∷ steps) (suc time) place k step action at in_step is =
    list_any-append (performs k) first (actions_of steps) ∙ ap (λ (b : Bool). list_any (performs k) first || b) (at_done steps time place k step action at in_step is) ∙ or_true (list_any (performs k) first)

-- ---- flags

flags_other : (circuit : CircuitValue) (steps : List (List Action)) (step : List Action) (action : Action) (flags : List Bool) → ((k : ℕ) → performs k action ≡ false) → AreFlags circuit (steps ++ step ∷ []) flags → AreFlags circuit (steps ++ (step ++ action ∷ []) ∷ []) flags
flags_other circuit steps step action flags none so_far = record {
  len = so_far.len;
  each = λ k h. so_far.each k h ∙ sym (done_more steps step action k ∙ ap (λ (b : Bool). is_done (steps ++ step ∷ []) k || b) (none k) ∙ or-false (is_done (steps ++ step ∷ []) k));
}

pub flags_marked : (circuit : CircuitValue) (steps : List (List Action)) (step : List Action) (action : Action) (flags : List Bool) → AreFlags circuit (steps ++ step ∷ []) flags → AreFlags circuit (steps ++ (step ++ action ∷ []) ∷ []) (marked flags action)
flags_marked circuit steps step (actions.Split zone end count) flags so_far = flags_other circuit steps step (actions.Split zone end count) flags (λ k. refl) so_far
flags_marked circuit steps step (actions.Move from to) flags so_far = flags_other circuit steps step (actions.Move from to) flags (λ k. refl) so_far
flags_marked circuit steps step (actions.Cross junction from to) flags so_far = flags_other circuit steps step (actions.Cross junction from to) flags (λ k. refl) so_far
flags_marked circuit steps step (actions.Merge zone end) flags so_far = flags_other circuit steps step (actions.Merge zone end) flags (λ k. refl) so_far
flags_marked circuit steps step (actions.Swap zone index) flags so_far = flags_other circuit steps step (actions.Swap zone index) flags (λ k. refl) so_far
flags_marked circuit steps step (actions.Op zone op) flags so_far = record {
  len = length-set flags op.0 true ∙ so_far.len;
  each = λ k h.
      let action : Action = actions.Op zone op in
      let before : Bool = is_done (steps ++ step ∷ []) k in
      let within : k < length flags = omega (arith, length-set flags op.0 true) in
      elim (cases_eq k op.0) [
        | inl here ↦ (let is : performs k action ≡ true = eq-eqb op.0 k (sym here) in
            ap (λ (n : ℕ). get_or (set flags op.0 true) n false) here ∙ get_or-set_same flags op.0 true false (omega (arith, here))
            ∙ sym (done_more steps step action k ∙ ap (λ (b : Bool). before || b) is ∙ or_true before))
        | inr other ↦ (let isnt : performs k action ≡ false = ne_eqb op.0 k (λ e. other (sym e)) in
            get_or-set_other flags op.0 k true false other ∙ so_far.each k within ∙ sym (done_more steps step action k ∙ ap (λ (b : Bool). before || b) isnt ∙ or-false before))
      ];
}

flags_rest : (circuit : CircuitValue) (steps : List (List Action)) (step rest : List Action) (flags : List Bool) → AreFlags circuit (steps ++ step ∷ []) flags → AreFlags circuit (steps ++ (step ++ rest) ∷ []) (fold marked flags rest)
flags_rest circuit steps step [] flags so_far = subst (λ (s : List Action). AreFlags circuit (steps ++ s ∷ []) flags) (sym (append-nil step)) so_far
flags_rest circuit steps step (action ∷ rest) flags so_far =
    subst (λ (s : List Action). AreFlags circuit (steps ++ s ∷ []) (fold marked (marked flags action) rest)) (append_assoc step (action ∷ []) rest)
    (flags_rest circuit steps (step ++ action ∷ []) rest (marked flags action) (flags_marked circuit steps step action flags so_far))

-- the flags after a whole step
pub flags_step : (circuit : CircuitValue) (steps : List (List Action)) (step : List Action) (flags : List Bool) → AreFlags circuit steps flags → AreFlags circuit (steps ++ step ∷ []) (fold marked flags step)
flags_step circuit steps step flags so_far = flags_rest circuit steps [] step flags (record { len = so_far.len; each = λ k h. so_far.each k h ∙ sym (done_none steps k) })

-- the flags where the next step begins
pub flags_next : (circuit : CircuitValue) (steps : List (List Action)) (flags : List Bool) → AreFlags circuit steps flags → AreFlags circuit (steps ++ [] ∷ []) flags
flags_next circuit steps flags so_far = record { len = so_far.len; each = λ k h. so_far.each k h ∙ sym (done_none steps k) }
