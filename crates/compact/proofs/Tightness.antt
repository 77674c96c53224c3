-- The steps of a list are tight, and pairs that conflict keep their order.
use Rattle.std.proofs.Common.{◌≡◌, ℕ, ◌+◌, List, take, Some, sym, subst, inl, inr, arith}
use Rattle.std.specs.Prelude.{Contains, slice_get}
use Rattle.step_rules.specs.declared.action.Action.{Action}
use Rattle.step_rules.specs.Setting.{SettingValue}
use Rattle.step_rules.specs.Tight.{Conflict, IsTied, IsTight}
use Rattle.compact.specs.Tightened.{with_time, AreSpread, KeepOrder, IsRearranged}
use Rattle.compact.specs.Latest.{IsAt, IsEndedBy, IsNextTime, AreTimes, AreBuilt}
use Rattle.compact.proofs.Places.{in_front, front_at}
use Rattle.compact.proofs.Spreading.{in_its_step, from_its_step}

tied : (setting : SettingValue) (actions : List Action) (times : List ℕ) (steps : List (List Action)) → AreTimes setting actions times → AreSpread actions times steps
    → (time : ℕ) (step next : List Action) (later : Action) → slice_get steps time ≡ Some step → slice_get steps (time + 1) ≡ Some next → Contains next later → IsTied setting step later
tied setting actions times steps are spread time step next later at_time at_next it =
    let there : IsAt actions times later (time + 1) = from_its_step (time + 1) times actions later (subst (λ (l : List Action). Contains l later) (spread.each (time + 1) next at_next) it) in
    let its : IsNextTime setting (take there.position actions) (take there.position times) later (time + 1) = are.each there.position later (time + 1) there.is_action there.is_time in
    elim its.ended [
      | inl none ↦ absurd (omega arith)
      | inr last ↦ (let ended : IsEndedBy (IsAt (take there.position actions) (take there.position times)) (λ (earlier : Action). Conflict setting.trap setting.circuit earlier later) (time + 1) = last in
          let at : IsAt (take there.position actions) (take there.position times) ended.action ended.time = ended.is_noted in
          let same : ended.time ≡ time = omega (arith, ended.is_last) in
          let is_action = in_front actions there.position at.position ended.action at.is_action in
          let is_time = in_front times there.position at.position ended.time at.is_time in
          let inside : Contains (with_time time times actions) ended.action =
          in_its_step time times actions at.position ended.action is_action.1 (subst (λ (t : ℕ). slice_get times at.position ≡ Some t) same is_time.1) in
          record {
            action = ended.action;
            in_step = subst (λ (l : List Action). Contains l ended.action) (sym (spread.each time step at_time)) inside;
            conflict = ended.it_matters;
          })
    ]

pub is_tight : (setting : SettingValue) (actions : List Action) (times : List ℕ) (steps : List (List Action)) → AreTimes setting actions times → AreBuilt setting actions times steps → IsTight setting steps
is_tight setting actions times steps are built = record { some = built.some; tied = tied setting actions times steps are built.spread }

keeps_order : (setting : SettingValue) (actions : List Action) (times : List ℕ) → AreTimes setting actions times → KeepOrder setting actions times
keeps_order setting actions times are i j first second s t before at_i at_j time_i time_j conflict =
    let its : IsNextTime setting (take j actions) (take j times) second t = are.each j second t at_j time_j in
    its.done first s (record { position = i; is_action = front_at actions j i first before at_i; is_time = front_at times j i s before time_i }) conflict

pub is_rearranged : (setting : SettingValue) (actions : List Action) (times : List ℕ) (steps : List (List Action)) → AreTimes setting actions times → AreBuilt setting actions times steps → IsRearranged setting actions steps
is_rearranged setting actions times steps are built = record { times = times; spread = built.spread; order = keeps_order setting actions times are }
