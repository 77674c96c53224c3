-- The whole list.
use Rattle.std.proofs.Common.{◌≡◌, ℕ, zero, suc, ◌+◌, ◌≤◌, List, [], ◌∷◌, ◌++◌, take, drop, Bool, true, false, cond, Some, None, refl, sym, ap, subst, ◌∙◌, inl, inr, arith}
use Rattle.std.specs.Prelude.{Option, IsSomeAnd, Contains, slice_get, ◌==◌, option_map}
use Rattle.std.proofs.lemmas.Bool.{cases_Bool, false≢true, eq-eqb, eqb-true}
use Rattle.std.proofs.lemmas.List.{take_all, take-take, take-append-drop}
use Rattle.std.proofs.lemmas.List.Elements.{Contains-append_left}
use Rattle.std.proofs.lemmas.Option.{slice_get-map, slice_get_cases}
use Rattle.qc_base.specs.Counting.{how_many}
use Rattle.qc_base.specs.declared.ids.OpId.{OpId}
use Rattle.qc_base.specs.declared.ids.PlaceId.{PlaceId}
use Rattle.circuit_core.specs.Order.{Forced, is_performed}
use Rattle.gate_order.specs.Ready.{AreReady, IsAmong}
use Rattle.gate_order.specs.Keeping.{op as op_of}
use Rattle.gate_order.proofs.Last.{all_done}
use Rattle.step_rules.specs.declared.action.Action.{Action}
use Rattle.step_rules.specs.declared.action.Action.TheVariants as kinds
use Rattle.step_rules.specs.Setting.{SettingValue}
use Rattle.step_rules.specs.Play.{Plays, PerformsIn, performs, actions_of, one_at_a_time}
use Rattle.greedy_router.specs.Serial.{ops_of, is_op, IsPossible, IsGreedy}
use Rattle.greedy_router.specs.Traffic.{IsSound, ready_after}
use Rattle.greedy_router.proofs.Turns.{ops_append}

-- ---- the operations of a list

-- the action performs the operation of that number
record IsOpOf (number : ℕ) (action : Action) : Type 0 where
  zone : PlaceId
  op : OpId
  is : action ≡ kinds.Op zone op
  same : op.0 ≡ number

op_or : (number : ℕ) (action : Action) → performs number action ≡ true → IsOpOf number action
op_or number (kinds.Op zone op) e = record { zone = zone; op = op; is = refl; same = eqb-true op.0 number e }
op_or number (kinds.Split zone end count) e = absurd (false≢true e)
op_or number (kinds.Move from to) e = absurd (false≢true e)
op_or number (kinds.Cross junction from to) e = absurd (false≢true e)
op_or number (kinds.Merge zone end) e = absurd (false≢true e)
op_or number (kinds.Swap zone index) e = absurd (false≢true e)

not_among : (number : ℕ) → IsAmong [] number → ⊥
not_among number (k, within, is) = omega (arith, within)

later : (op : OpId) (ops : List OpId) (number : ℕ) → IsAmong ops number → IsAmong (op ∷ ops) number
later op ops number (k, within, is) = (suc k, (omega (arith, within)), is)

among_later : (action : Action) (actions : List Action) (number : ℕ) → IsAmong (ops_of actions) number → IsAmong (ops_of (action ∷ actions)) number
among_later (kinds.Op zone op) actions number among = later op (ops_of actions) number among
among_later (kinds.Split zone end count) actions number among = among
among_later (kinds.Move from to) actions number among = among
among_later (kinds.Cross junction from to) actions number among = among
among_later (kinds.Merge zone end) actions number among = among
among_later (kinds.Swap zone index) actions number among = among

among_first : (number : ℕ) (action : Action) (actions : List Action) → IsOpOf number action → IsAmong (ops_of (action ∷ actions)) number
among_first number action actions it = subst (λ (first : Action). IsAmong (ops_of (first ∷ actions)) number) (sym it.is) (zero, (omega arith), ap op_of it.same)

among_longer : (actions : List Action) (n m number : ℕ) → n ≤ m → IsAmong (ops_of (take n actions)) number → IsAmong (ops_of (take m actions)) number
among_longer actions n m number h among =
    let whole : List Action = take m actions in
    let front : IsAmong (ops_of (take n whole)) number = subst (λ (list : List Action). IsAmong (ops_of list) number) (sym (take-take n m actions h)) among in
    let same : ops_of (take n whole) ++ ops_of (drop n whole) ≡ ops_of whole = sym (ops_append (take n whole) (drop n whole)) ∙ ap ops_of (take-append-drop n whole) in
    subst (λ (ops : List OpId). IsAmong ops number) same (Contains-append_left (ops_of (take n whole)) (ops_of (drop n whole)) (op_of number) front)

-- ---- how often an operation is performed

performed_none : (number : ℕ) (actions : List Action) → ((k : ℕ) (action : Action) → slice_get actions k ≡ Some action → performs number action ≡ true → ⊥) → how_many (performs number) actions ≡ 0
performed_none number [] none = refl
performed_none number (action ∷ actions) none = elim (cases_Bool (performs number action)) [
  | inl yes_ ↦ absurd (none 0 action refl yes_)
  | inr no_ ↦ rw no_ (omega (arith, performed_none number actions (λ k it e. none (suc k) it e)))
]

performed_once : (number : ℕ) (actions : List Action) → ((k : ℕ) (action : Action) → slice_get actions k ≡ Some action → performs number action ≡ true → ¬ IsAmong (ops_of (take k actions)) number)
    → how_many (performs number) actions ≤ 1
performed_once number [] new = omega arith
performed_once number (action ∷ actions) new = elim (cases_Bool (performs number action)) [
  | inl yes_ ↦ rw yes_ (omega (arith, performed_none number actions (λ k it e is. new (suc k) it e is (among_first number action (take k actions) (op_or number action yes_)))))
  | inr no_ ↦ rw no_ (omega (arith, performed_once number actions (λ k it e is among. new (suc k) it e is (among_later action (take k actions) number among))))
]

one_more : (test : Bool) (n : ℕ) → 1 ≤ n → 1 ≤ cond test 1 0 + n
one_more test n h = omega arith

performed_some : (number : ℕ) (actions : List Action) → IsAmong (ops_of actions) number → 1 ≤ how_many (performs number) actions
performed_some number [] among = absurd (not_among number among)
performed_some number (kinds.Op zone op ∷ actions) (zero, within, is) = rw (eq-eqb op.0 number (ap (λ (it : OpId). it.0) is)) (omega arith)
performed_some number (kinds.Op zone op ∷ actions) (suc k, within, is) = one_more (op.0 == number) (how_many (performs number) actions) (performed_some number actions (k, (omega (arith, within)), is))
performed_some number (kinds.Split zone end count ∷ actions) among = one_more false _ (performed_some number actions among)
performed_some number (kinds.Move from to ∷ actions) among = one_more false _ (performed_some number actions among)
performed_some number (kinds.Cross junction from to ∷ actions) among = one_more false _ (performed_some number actions among)
performed_some number (kinds.Merge zone end ∷ actions) among = one_more false _ (performed_some number actions among)
performed_some number (kinds.Swap zone index ∷ actions) among = one_more false _ (performed_some number actions among)

-- ---- one action a step

all_of : (actions : List Action) → actions_of (one_at_a_time actions) ≡ actions
all_of [] = refl
all_of (action ∷ actions) = ap (λ (list : List Action). action ∷ list) (all_of actions)

-- the operation of that number is the action at that time
record IsAt (actions : List Action) (number time : ℕ) : Type 0 where
  zone : PlaceId
  op : OpId
  there : slice_get actions time ≡ Some (kinds.Op zone op)
  same : op.0 ≡ number

one_of : (found : Option Action) (step : List Action) → option_map (λ (it : Action). it ∷ []) found ≡ Some step → (it : Action) × (found ≡ Some it) × (it ∷ [] ≡ step)
one_of None step e = absurd cc
one_of (Some it) step e = (it, refl, cc)

only_one : (it action : Action) → Contains (it ∷ []) action → it ≡ action
only_one it action (zero, within, is) = is
only_one it action (suc k, within, is) = absurd (omega (arith, within))

at_time : (actions : List Action) (number time : ℕ) → PerformsIn (one_at_a_time actions) number time → IsAt actions number time
at_time actions number time in_step =
    let found = one_of (slice_get actions time) in_step.step (sym (slice_get-map (λ (it : Action). it ∷ []) actions time) ∙ in_step.at_time) in
    let same : found.0 ≡ in_step.action = only_one found.0 in_step.action (subst (λ (step : List Action). Contains step in_step.action) (sym found.2) in_step.in_step) in
    let it = op_or number in_step.action in_step.is in
    record { zone = it.zone; op = it.op; there = found.1 ∙ ap (λ (action : Action). Some action) (same ∙ it.is); same = it.same }

-- ---- the whole list

new_at : (setting : SettingValue) (actions : List Action) (number k : ℕ) (action : Action) → IsSound setting actions → slice_get actions k ≡ Some action → performs number action ≡ true → ¬ IsAmong (ops_of (take k actions)) number
new_at setting actions number k action sound e is among =
    let it = op_or number action is in
    (sound.next k it.zone it.op (e ∙ ap (λ (other : Action). Some other) it.is)).possible.ready.waits (subst (λ (n : ℕ). IsAmong (ops_of (take k actions)) n) (sym it.same) among)

in_time : (setting : SettingValue) (actions : List Action) (i j s t : ℕ) → IsSound setting actions → Forced setting.circuit i j → IsAt actions i s → IsAt actions j t → t ≤ s → ⊥
in_time setting actions i j s t sound forced first second late =
    let before = (sound.next s first.zone first.op first.there).possible.ready in
    let after = (sound.next t second.zone second.op second.there).possible.ready in
    let performed : is_performed setting.circuit i ≡ true = subst (λ (n : ℕ). is_performed setting.circuit n ≡ true) first.same before.performed in
    let forced_here : Forced setting.circuit i second.op.0 = subst (λ (n : ℕ). Forced setting.circuit i n) (sym second.same) forced in
    before.waits (subst (λ (n : ℕ). IsAmong (ops_of (take s actions)) n) (sym first.same) (among_longer actions t s i late (after.before i forced_here performed)))

pub whole_plays : (setting : SettingValue) (actions : List Action) → IsSound setting actions → AreReady (ready_after setting actions) [] → Plays setting (one_at_a_time actions)
whole_plays setting actions sound none = record {
  legal = sound.legal;
  performed = record {
    once = λ number performed. subst (λ (list : List Action). how_many (performs number) list ≡ 1) (sym (all_of actions))
        (omega (
          arith,
          performed_some number actions (all_done (ready_after setting actions) number none performed),
          performed_once number actions (λ k action e is. new_at setting actions number k action sound e is),
        ));
    in_order = λ i j forced s t first second.
        let late : t ≤ s → ⊥ = in_time setting actions i j s t sound forced (at_time actions i s first) (at_time actions j t second) in
        omega (arith, late);
  };
}

pub whole_greedy : (setting : SettingValue) (actions : List Action) → IsSound setting actions → AreReady (ready_after setting actions) [] → IsGreedy setting actions
whole_greedy setting actions sound none = record {
  next = sound.next;
  at_once = λ k zone op turn possible. elim (slice_get_cases actions k).1 [
    | inl there ↦ subst (λ (found : Option Action). IsSomeAnd found (λ (action : Action). is_op action ≡ true)) (sym there.2) (sound.at_once k zone op there.0 there.2 turn possible)
    | inr past ↦ absurd (not_among op ((none.each op).1 (subst (λ (list : List Action). IsPossible setting list zone op) (take_all k actions past.0) possible).ready))
  ];
}
