-- One more action.
use Rattle.std.proofs.Common.{◌≡◌, ◌⊎◌, ℕ, zero, suc, ◌<◌, List, [], ◌∷◌, ◌++◌, length, take, Bool, true, false, Some, None, refl, sym, ap, subst, ◌∙◌, inl, inr, arith}
use Rattle.std.specs.Prelude.{slice_get}
use Rattle.std.proofs.lemmas.Bool.{false≢true}
use Rattle.std.proofs.lemmas.List.{append-nil, map-append, take-append-le, take_at}
use Rattle.std.proofs.lemmas.List.Elements.{All-nil, All-cons, All-push}
use Rattle.std.proofs.lemmas.List.Sums.{fold-append}
use Rattle.std.proofs.lemmas.Option.{same_Some}
use Rattle.qc_base.specs.declared.ids.Ion.{Ion}
use Rattle.qc_base.specs.declared.ids.OpId.{OpId}
use Rattle.qc_base.specs.declared.ids.PlaceId.{PlaceId}
use Rattle.circuit_core.specs.Order.{is_performed}
use Rattle.step_rules.specs.declared.action.Action.{Action}
use Rattle.step_rules.specs.declared.action.Action.TheVariants as kinds
use Rattle.step_rules.specs.Setting.{SettingValue}
use Rattle.step_rules.specs.declared.action.Rule.{Rule}
use Rattle.step_rules.specs.Placement.{start_of}
use Rattle.step_rules.specs.Guards.{guard, first_broken, Passes}
use Rattle.step_rules.specs.Steps.{IsLegal, after, after_step}
use Rattle.step_rules.specs.Play.{AreLegal, after_steps, one_at_a_time}
use Rattle.greedy_router.specs.Serial.{config_after, ops_of, is_op, is_turn, IsSingle, IsTogether, IsPossible, IsNext}
use Rattle.greedy_router.specs.Traffic.{IsSound, MayTravel, carries}

pub config_more : (setting : SettingValue) (actions : List Action) (action : Action) → config_after setting (actions ++ action ∷ []) ≡ after setting.trap (config_after setting actions) action
config_more setting actions action =
    ap (after_steps setting.trap (start_of setting.trap setting.placement)) (map-append (λ (it : Action). it ∷ []) actions (action ∷ []))
    ∙ fold-append (after_step setting.trap) (start_of setting.trap setting.placement) (one_at_a_time actions) ((action ∷ []) ∷ [])

pub ops_append : (xs ys : List Action) → ops_of (xs ++ ys) ≡ ops_of xs ++ ops_of ys
ops_append [] ys = refl
ops_append (kinds.Op zone op ∷ xs) ys = ap (λ (ops : List OpId). op ∷ ops) (ops_append xs ys)
ops_append (kinds.Split zone end count ∷ xs) ys = ops_append xs ys
ops_append (kinds.Move from to ∷ xs) ys = ops_append xs ys
ops_append (kinds.Cross junction from to ∷ xs) ys = ops_append xs ys
ops_append (kinds.Merge zone end ∷ xs) ys = ops_append xs ys
ops_append (kinds.Swap zone index ∷ xs) ys = ops_append xs ys

no_ops : (action : Action) → carries action ≡ true → ops_of (action ∷ []) ≡ []
no_ops (kinds.Op zone op) e = absurd (false≢true e)
no_ops (kinds.Split zone end count) e = refl
no_ops (kinds.Move from to) e = refl
no_ops (kinds.Cross junction from to) e = refl
no_ops (kinds.Merge zone end) e = refl
no_ops (kinds.Swap zone index) e = refl

no_op : (action : Action) → carries action ≡ true → is_op action ≡ false
no_op (kinds.Op zone op) e = absurd (false≢true e)
no_op (kinds.Split zone end count) e = refl
no_op (kinds.Move from to) e = refl
no_op (kinds.Cross junction from to) e = refl
no_op (kinds.Merge zone end) e = refl
no_op (kinds.Swap zone index) e = refl

pub ops_carry : (actions : List Action) (action : Action) → carries action ≡ true → ops_of (actions ++ action ∷ []) ≡ ops_of actions
ops_carry actions action e = ops_append actions (action ∷ []) ∙ ap (λ (ops : List OpId). ops_of actions ++ ops) (no_ops action e) ∙ append-nil (ops_of actions)

pub ops_op : (actions : List Action) (zone : PlaceId) (op : OpId) → ops_of (actions ++ kinds.Op zone op ∷ []) ≡ ops_of actions ++ op ∷ []
ops_op actions zone op = ops_append actions (kinds.Op zone op ∷ [])

pub turn_more : (actions : List Action) (action : Action) → is_turn (actions ++ action ∷ []) ≡ is_op action
turn_more actions action = fold-append (λ (before : Bool) (it : Action). is_op it) true actions (action ∷ [])

pub travels_more : (setting : SettingValue) (actions : List Action) (action : Action) → carries action ≡ true → MayTravel setting (actions ++ action ∷ [])
travels_more setting actions action e turn zone op possible = false≢true (sym (no_op action e) ∙ sym (turn_more actions action) ∙ turn)

pub sound_nothing : (setting : SettingValue) → IsSound setting []
sound_nothing setting = record {
  legal = tt;
  single = All-nil IsSingle;
  next = λ k zone op e. absurd cc;
  at_once = λ k zone op action e turn possible. absurd cc;
}

-- ---- one more legal step

legal_append : (setting : SettingValue) (config : List (List Ion)) (steps more : List (List Action)) → AreLegal setting config steps → AreLegal setting (after_steps setting.trap config steps) more → AreLegal setting config (steps ++ more)
legal_append setting config [] more front back = back
legal_append setting config (step ∷ steps) more front back = (front.0, legal_append setting (after_step setting.trap config step) steps more front.1 back)

legal_one : (setting : SettingValue) (config : List (List Ion)) (action : Action) → Passes setting config action → IsLegal setting config (action ∷ [])
legal_one setting config action passes = record {
  passes = All-cons (Passes setting config) action [] passes (All-nil (Passes setting config));
  apart = λ i j d below within. absurd (omega arith);
}

legal_more : (setting : SettingValue) (actions : List Action) (action : Action) → AreLegal setting (start_of setting.trap setting.placement) (one_at_a_time actions) → Passes setting (config_after setting actions) action
    → AreLegal setting (start_of setting.trap setting.placement) (one_at_a_time (actions ++ action ∷ []))
legal_more setting actions action legal passes =
    let start : List (List Ion) = start_of setting.trap setting.placement in
    subst (λ (steps : List (List Action)). AreLegal setting start steps) (sym (map-append (λ (it : Action). it ∷ []) actions (action ∷ [])))
    (legal_append setting start (one_at_a_time actions) ((action ∷ []) ∷ []) legal (legal_one setting (config_after setting actions) action passes, tt))

-- ---- one more sound action

-- an action of the longer list is one of the shorter, or the last
last_or : (actions : List Action) (action it : Action) (k : ℕ) → slice_get (actions ++ action ∷ []) k ≡ Some it → ((slice_get actions k ≡ Some it) × (k < length actions)) ⊎ ((length actions ≡ k) × (action ≡ it))
last_or [] action it zero e = inr (refl, same_Some action it e)
last_or [] action it (suc k) e = absurd cc
last_or (first ∷ actions) action it zero e = inl (e, omega arith)
last_or (first ∷ actions) action it (suc k) e = elim (last_or actions action it k e) [
  | inl here ↦ inl (here.0, omega (arith, here.1))
  | inr last ↦ inr (ap suc last.0, last.1)
]

sound_more : (setting : SettingValue) (actions : List Action) (action : Action) → IsSound setting actions → Passes setting (config_after setting actions) action → IsSingle action
    → ((zone : PlaceId) (op : OpId) → action ≡ kinds.Op zone op → IsNext setting actions zone.0 op.0)
    → (is_turn actions ≡ true → (zone op : ℕ) → IsPossible setting actions zone op → is_op action ≡ true) → IsSound setting (actions ++ action ∷ [])
sound_more setting actions action sound passes single next at_once = record {
  legal = legal_more setting actions action sound.legal passes;
  single = All-push IsSingle actions action sound.single single;
  next = λ k zone op e. elim (last_or actions action (kinds.Op zone op) k e) [
    | inl here ↦ subst (λ (front : List Action). IsNext setting front zone.0 op.0) (sym (take-append-le k actions (action ∷ []) (omega (arith, here.1)))) (sound.next k zone op here.0)
    | inr last ↦ subst (λ (front : List Action). IsNext setting front zone.0 op.0) (sym (take_at actions (action ∷ []) k last.0)) (next zone op last.1)
  ];
  at_once = λ k zone op it e turn possible. elim (last_or actions action it k e) [
    | inl here ↦ (let same : take k (actions ++ action ∷ []) ≡ take k actions = take-append-le k actions (action ∷ []) (omega (arith, here.1)) in
        sound.at_once k zone op it here.0 (subst (λ (front : List Action). is_turn front ≡ true) same turn) (subst (λ (front : List Action). IsPossible setting front zone op) same possible))
    | inr last ↦ (let same : take k (actions ++ action ∷ []) ≡ actions = take_at actions (action ∷ []) k last.0 in
        ap is_op (sym last.1) ∙ at_once (subst (λ (front : List Action). is_turn front ≡ true) same turn) zone op (subst (λ (front : List Action). IsPossible setting front zone op) same possible))
  ];
}

pub sound_carry : (setting : SettingValue) (actions : List Action) (action : Action) → IsSound setting actions → MayTravel setting actions → carries action ≡ true → IsSingle action
    → Passes setting (config_after setting actions) action → IsSound setting (actions ++ action ∷ [])
sound_carry setting actions action sound may carried single passes =
    sound_more setting actions action sound passes single
    (λ zone op e. absurd (false≢true (subst (λ (it : Action). carries it ≡ true) e carried)))
    (λ turn zone op possible. absurd (may turn zone op possible))

four : (a b c d : Bool) (p q r s : Rule) → a ≡ true → b ≡ true → c ≡ true → d ≡ true → first_broken (guard a p ∷ guard b q ∷ guard c r ∷ guard d s ∷ []) ≡ None
four a b c d p q r s e f g h = rw (e, f, g, h) refl

op_passes : (setting : SettingValue) (config : List (List Ion)) (zone : PlaceId) (op : OpId) → is_performed setting.circuit op.0 ≡ true → IsTogether setting config zone.0 op.0 → Passes setting config (kinds.Op zone op)
op_passes setting config zone op performed together = four _ _ _ _ _ _ _ _ together.there performed together.able together.ions

same_op : (zone other_zone : PlaceId) (op other : OpId) → kinds.Op zone op ≡ kinds.Op other_zone other → (zone.0 ≡ other_zone.0) × (op.0 ≡ other.0)
same_op zone other_zone op other e = (let same : zone ≡ other_zone = cc in ap (λ (it : PlaceId). it.0) same, let same : op ≡ other = cc in ap (λ (it : OpId). it.0) same)

pub sound_op : (setting : SettingValue) (actions : List Action) (zone : PlaceId) (op : OpId) → IsSound setting actions → IsNext setting actions zone.0 op.0 → IsSound setting (actions ++ kinds.Op zone op ∷ [])
sound_op setting actions zone op sound next =
    sound_more setting actions (kinds.Op zone op) sound (op_passes setting (config_after setting actions) zone op next.possible.ready.performed next.possible.together) tt
    (λ other_zone other e.
    let same = same_op zone other_zone op other e in
    subst (λ (number : ℕ). IsNext setting actions number other.0) same.0 (subst (λ (number : ℕ). IsNext setting actions zone.0 number) same.1 next))
    (λ turn other_zone other possible. refl)
