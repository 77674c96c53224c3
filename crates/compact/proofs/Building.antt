-- The steps of a list are built action by action.
use Rattle.std.proofs.Common.{◌≡◌, ℕ, zero, suc, ◌+◌, ◌<◌, ◌≤◌, List, [], ◌∷◌, ◌++◌, length, take, drop, Some, refl, sym, ap, subst, ◌∙◌, inl, inr, arith}
use Rattle.std.specs.Prelude.{Contains, slice_get}
use Rattle.std.proofs.lemmas.Option.{slice_get_within, get_or_from_slice_get}
use Rattle.std.proofs.lemmas.List.{take_more, map-append, length_push}
use Rattle.std.proofs.lemmas.List.Elements.{All-contains, All-contains_itself, All-weaker, All-nil}
use Rattle.qc_base.specs.declared.ids.Ion.{Ion}
use Rattle.trap_parts.specs.Parts.{TrapValue}
use Rattle.step_rules.specs.declared.action.Action.{Action}
use Rattle.step_rules.specs.Placement.{start_of}
use Rattle.step_rules.specs.Setting.{SettingValue}
use Rattle.step_rules.specs.Guards.{Passes}
use Rattle.step_rules.specs.Steps.{AreApart, after, after_step}
use Rattle.step_rules.specs.Play.{AreLegal, after_steps, one_at_a_time}
use Rattle.step_rules.specs.Tight.{Meet, Conflict}
use Rattle.compact.specs.Tightened.{with_time, AreSpread, IsSerial}
use Rattle.compact.specs.Latest.{IsAt, IsEndedBy, IsNextTime, AreTimes, AreBuilt, put}
use Rattle.compact.proofs.Places.{contains_at, after_front}
use Rattle.compact.proofs.Carrying.{IsFree, AreFree, placed, fold_push}
use Rattle.compact.proofs.Spreading.{grown, new, kept, from_its_step, put_at, spread_more}

pub take_next : {X : Type 0} (xs : List X) (k : ℕ) (x : X) → slice_get xs k ≡ Some x → take (k + 1) xs ≡ take k xs ++ x ∷ []
take_next {X} xs k x e = take_more xs k x (slice_get_within xs k x e) ∙ ap (λ (y : X). take k xs ++ y ∷ []) (get_or_from_slice_get xs k x x e)

-- an action of the list passes its guards after those before it
pub passes_at : (setting : SettingValue) (config : List (List Ion)) (actions : List Action) (k : ℕ) (action : Action) → AreLegal setting config (one_at_a_time actions) → slice_get actions k ≡ Some action
    → Passes setting (after_steps setting.trap config (one_at_a_time (take k actions))) action
passes_at setting config [] k action legal e = absurd cc
passes_at setting config (first ∷ actions) zero action legal e = All-contains (Passes setting config) (first ∷ []) action legal.0.passes (contains_at (first ∷ []) 0 action e)
passes_at setting config (first ∷ actions) (suc k) action legal e = passes_at setting (after_step setting.trap config (first ∷ [])) actions k action legal.1 e

free_of : (trap : TrapValue) (action : Action) (steps : List (List Action)) → ((s : ℕ) (step : List Action) → slice_get steps s ≡ Some step → IsFree trap action step) → AreFree trap action steps
free_of trap action [] each = tt
free_of trap action (step ∷ steps) each = (each 0 step refl, free_of trap action steps (λ s other e. each (suc s) other e))

-- no action from that step on works on a spot of the next one
free_from : (setting : SettingValue) (actions : List Action) (times : List ℕ) (steps : List (List Action)) (time : ℕ) (action : Action) → AreSpread actions times steps → IsNextTime setting actions times action time
    → AreFree setting.trap action (drop time steps)
free_from setting actions times steps time action spread next = free_of setting.trap action (drop time steps) (λ s step e.
    let there : slice_get steps (time + s) ≡ Some step = sym (after_front steps time s (time + s) refl) ∙ e in
    let is : step ≡ with_time (time + s) times actions = spread.each (time + s) step there in
    let apart : (other : Action) → Contains step other → AreApart setting.trap other action = λ other it spot in_other in_action.
    let at : IsAt actions times other (time + s) = from_its_step (time + s) times actions other (subst (λ (l : List Action). Contains l other) is it) in
    let meet : Meet setting.trap other action = record { spot = spot; of_a = in_other; of_b = in_action } in
    let before : time + s < time = next.done other (time + s) at (inl meet) in
    omega arith in
    All-weaker (Contains step) (λ (other : Action). AreApart setting.trap other action) apart step (All-contains_itself step))

within_steps : (setting : SettingValue) (actions : List Action) (times : List ℕ) (steps : List (List Action)) (time : ℕ) (action : Action) → AreSpread actions times steps → IsNextTime setting actions times action time → time ≤ length steps
within_steps setting actions times steps time action spread next = elim next.ended [
  | inl none ↦ omega arith
  | inr last ↦ (let ended : IsEndedBy (IsAt actions times) (λ (earlier : Action). Conflict setting.trap setting.circuit earlier action) time = last in
      let at : IsAt actions times ended.action ended.time = ended.is_noted in
      let below : ended.time < length steps = All-contains (λ (t : ℕ). t < length steps) times ended.time spread.within (contains_at times at.position ended.time at.is_time) in
      omega (arith, ended.is_last))
]

pub one_more_alone : (setting : SettingValue) (config : List (List Ion)) (actions : List Action) (action : Action)
    → after_steps setting.trap config (one_at_a_time (actions ++ action ∷ [])) ≡ after setting.trap (after_steps setting.trap config (one_at_a_time actions)) action
one_more_alone setting config actions action =
    ap (after_steps setting.trap config) (map-append (λ (a : Action). a ∷ []) actions (action ∷ []))
    ∙ fold_push (after_step setting.trap) config (one_at_a_time actions) (action ∷ [])

built_more : (setting : SettingValue) (actions : List Action) (times : List ℕ) (steps : List (List Action)) (time : ℕ) (action : Action) → AreBuilt setting actions times steps → IsNextTime setting actions times action time
    → Passes setting (after_steps setting.trap (start_of setting.trap setting.placement) (one_at_a_time actions)) action
    → AreBuilt setting (actions ++ action ∷ []) (times ++ time ∷ []) (put steps time action)
built_more setting actions times steps time action built next passes =
    let config : List (List Ion) = start_of setting.trap setting.placement in
    let within : time ≤ length steps = within_steps setting actions times steps time action built.spread next in
    let moved = placed setting config steps time action built.legal (free_from setting actions times steps time action built.spread next)
    (subst (λ (c : List (List Ion)). Passes setting c action) (sym built.last) passes) in
    record {
      spread = spread_more actions times steps time action built.spread within;
      some = λ s step e. elim (put_at steps time action s step within e) [
        | grown old same there is ↦ (let len : length (old ++ action ∷ []) ≡ length step = ap length is in omega (arith, length_push old action))
        | new same last is ↦ (let len : 1 ≡ length step = ap length is in omega arith)
        | kept other there ↦ built.some s step there
      ];
      legal = moved.0;
      last = moved.1 ∙ ap (λ (c : List (List Ion)). after setting.trap c action) built.last ∙ sym (one_more_alone setting config actions action);
    }

-- the next action of the list
pub built_next : (setting : SettingValue) (actions : List Action) (times : List ℕ) (k : ℕ) (steps : List (List Action)) (time : ℕ) (action : Action) → IsSerial setting actions → AreTimes setting actions times
    → slice_get actions k ≡ Some action → slice_get times k ≡ Some time → AreBuilt setting (take k actions) (take k times) steps → AreBuilt setting (take (k + 1) actions) (take (k + 1) times) (put steps time action)
built_next setting actions times k steps time action serial are at_action at_time built =
    let more : AreBuilt setting (take k actions ++ action ∷ []) (take k times ++ time ∷ []) (put steps time action) =
    built_more setting (take k actions) (take k times) steps time action built (are.each k action time at_action at_time)
    (passes_at setting (start_of setting.trap setting.placement) actions k action serial.legal at_action) in
    subst (λ (xs : List Action). AreBuilt setting xs (take (k + 1) times) (put steps time action)) (sym (take_next actions k action at_action))
    (subst (λ (ts : List ℕ). AreBuilt setting (take k actions ++ action ∷ []) ts (put steps time action)) (sym (take_next times k time at_time)) more)

-- the steps have no gap before the next action's
pub next_within : (setting : SettingValue) (actions : List Action) (times : List ℕ) (k : ℕ) (steps : List (List Action)) (time : ℕ) (action : Action) → AreTimes setting actions times
    → slice_get actions k ≡ Some action → slice_get times k ≡ Some time → AreBuilt setting (take k actions) (take k times) steps → time ≤ length steps
next_within setting actions times k steps time action are at_action at_time built =
    within_steps setting (take k actions) (take k times) steps time action built.spread (are.each k action time at_action at_time)

-- no step before the first action
pub none_built : (setting : SettingValue) → AreBuilt setting [] [] []
none_built setting = record {
  spread = record { len = refl; within = All-nil (λ (t : ℕ). t < length (let none : List (List Action) = [] in none)); each = λ time step e. absurd cc };
  some = λ time step e. absurd cc;
  legal = tt;
  last = refl;
}
