-- What the simulator judges of an action.
use Rattle.std.proofs.Common.{◌≡◌, ℕ, zero, suc, ◌+◌, ◌<◌, List, [], ◌∷◌, length, take, get_or, map, Bool, true, false, Some, None, refl, sym, ap, subst, ◌∙◌, inl, inr, arith}
use Rattle.std.specs.Prelude.{All, Option, slice_get, not}
use Rattle.std.specs.Option.{option_map_or}
use Rattle.std.proofs.lemmas.Bool.{cases_eq, eqb-true, eq-eqb}
use Rattle.std.proofs.lemmas.Option.{none-some, same_Some, slice_get-get_or, slice_get_within, get_or_from_slice_get}
use Rattle.std.proofs.lemmas.List.{length-take-le}
use Rattle.qc_base.specs.declared.ids.Ion.{Ion}
use Rattle.qc_base.specs.declared.ids.OpId.{OpId}
use Rattle.qc_base.specs.declared.ids.PlaceId.{PlaceId}
use Rattle.qc_base.specs.declared.ids.End.TheVariants as ends
use Rattle.circuit_core.specs.Circuit.{CircuitValue}
use Rattle.circuit_core.specs.declared.op.Op.{Op}
use Rattle.circuit_core.specs.Op.{is_barrier}
use Rattle.circuit_core.specs.Order.{is_performed}
use Rattle.trap_parts.specs.Parts.{TrapValue}
use Rattle.trap_model.specs.Trap.{is_zone}
use Rattle.ion_chain.specs.Transfer.{list_at}
use Rattle.step_rules.specs.declared.action.Rule.{Rule}
use Rattle.step_rules.specs.declared.action.Rule.TheVariants.{NoPlace, NotOp, NotAble, Absent}
use Rattle.step_rules.specs.declared.action.Action.{Action}
use Rattle.step_rules.specs.declared.action.Action.TheVariants as actions
use Rattle.step_rules.specs.declared.spots.Footprint.{Footprint}
use Rattle.step_rules.specs.Footprint.{spots}
use Rattle.step_rules.specs.Setting.{SettingValue}
use Rattle.step_rules.specs.Steps.{footprint, AreApart}
use Rattle.step_rules.specs.Guards.{Guard, guard, first_broken, Passes, is_able_for, are_among}
use Rattle.step_rules.specs.Play.{performs}
use Rattle.step_rules.proofs.Meets.{meet_iff}
use Rattle.schedule_play.specs.declared.fault.PlayFault.{PlayFault}
use Rattle.schedule_play.specs.declared.fault.PlayFault.TheVariants as faults
use Rattle.schedule_play.specs.Judging.{Before, config_at, was_done, Fits, MeetsFirst, IsWell, Owes, OwesFirst, Offends}
use Rattle.schedule_play.specs.Progress.{do_meet, NoneMeets, MeetsAt, OpIsWell, OpOffends, IsOwed, IsStateBefore}
use Rattle.schedule_play.proofs.Lists.{slice_taken}
use Rattle.schedule_play.proofs.Going.{owed_by, owes_first_by}

-- what is read where there is no action
abbrev pub no_action : Action
no_action = actions.Split (record { 0 = 0 }) ends.A 0

-- ---- footprints that were kept

pub none_more : (footprints : List Footprint) (place : ℕ) (works d : Footprint) → NoneMeets footprints place works → place < length footprints → do_meet (get_or footprints place d) works ≡ false → NoneMeets footprints (place + 1) works
none_more footprints place works d none h here k other below at = elim (cases_eq k place) [
  | inl same ↦ (let is : get_or footprints place d ≡ other = get_or_from_slice_get footprints place other d (subst (λ (n : ℕ). slice_get footprints n ≡ Some other) same at) in
      subst (λ (f : Footprint). do_meet f works ≡ false) is here)
  | inr apart ↦ none k other (omega arith) at
]

record Kept (trap : TrapValue) (footprints : List Footprint) (place : ℕ) (action : Action) : Type 0 where
  works : Footprint
  there : slice_get footprints place ≡ Some works
  is : spots works ≡ footprint trap action

kept : (trap : TrapValue) (footprints : List Footprint) (step : List Action) (place : ℕ) (action : Action) → map spots footprints ≡ map (footprint trap) step → slice_get step place ≡ Some action → Kept trap footprints place action
kept trap footprints [] place action same at = absurd (none-some action at)
kept trap [] (first ∷ step) place action same at = absurd cc
kept trap (works ∷ footprints) (first ∷ step) zero action same at =
    let head : spots works ≡ footprint trap first = cc in
    record { works = works; there = refl; is = head ∙ ap (footprint trap) (same_Some first action at) }
kept trap (works ∷ footprints) (first ∷ step) (suc place) action same at =
    let tail : map spots footprints ≡ map (footprint trap) step = cc in
    let it = kept trap footprints step place action tail at in
    record { works = it.works; there = it.there; is = it.is }

record Worked (trap : TrapValue) (step : List Action) (place : ℕ) (works : Footprint) : Type 0 where
  action : Action
  there : slice_get step place ≡ Some action
  is : spots works ≡ footprint trap action

worked : (trap : TrapValue) (footprints : List Footprint) (step : List Action) (place : ℕ) (works : Footprint) → map spots footprints ≡ map (footprint trap) step → slice_get footprints place ≡ Some works → Worked trap step place works
worked trap [] step place works same at = absurd (none-some works at)
worked trap (first ∷ footprints) [] place works same at = absurd cc
worked trap (first ∷ footprints) (action ∷ step) zero works same at =
    let head : spots first ≡ footprint trap action = cc in
    record { action = action; there = refl; is = ap spots (sym (same_Some first works at)) ∙ head }
worked trap (first ∷ footprints) (action ∷ step) (suc place) works same at =
    let tail : map spots footprints ≡ map (footprint trap) step = cc in
    let it = worked trap footprints step place works tail at in
    record { action = it.action; there = it.there; is = it.is }

apart_by : (trap : TrapValue) (a b : Action) (f g : Footprint) → spots f ≡ footprint trap a → spots g ≡ footprint trap b → do_meet f g ≡ false → AreApart trap a b
apart_by trap a b f g of_a of_b unmet spot in_a in_b =
    let met : do_meet f g ≡ true = (meet_iff trap a b f g (do_meet f g) of_a of_b refl).1 (record { spot = spot; of_a = in_a; of_b = in_b }) in
    cc

apart_before : (trap : TrapValue) (footprints : List Footprint) (step : List Action) (works : Footprint) (action : Action) (count : ℕ) → map spots footprints ≡ map (footprint trap) step → spots works ≡ footprint trap action → NoneMeets footprints count works
    → (place : ℕ) (other : Action) → place < count → slice_get step place ≡ Some other → AreApart trap other action
apart_before trap footprints step works action count same is none place other below at =
    let it = kept trap footprints step place other same at in
    apart_by trap other action it.works works it.is is (none place it.works below it.there)

-- the action is apart from all before it
pub all_apart : (trap : TrapValue) (footprints : List Footprint) (step : List Action) (works : Footprint) (action : Action) → map spots footprints ≡ map (footprint trap) step → spots works ≡ footprint trap action → NoneMeets footprints (length footprints) works
    → All (λ (other : Action). AreApart trap other action) step
all_apart trap footprints step works action same is none k d h =
    let at : slice_get step k ≡ Some (get_or step k d) = slice_get-get_or step k d h in
    let it = kept trap footprints step k (get_or step k d) same at in
    apart_by trap (get_or step k d) action it.works works it.is is (none k it.works (slice_get_within footprints k it.works it.there) it.there)

pub meets_first : (trap : TrapValue) (footprints : List Footprint) (step : List Action) (works : Footprint) (action : Action) (place : ℕ) → map spots footprints ≡ map (footprint trap) step → spots works ≡ footprint trap action → MeetsAt footprints works place
    → MeetsFirst trap step action (place + 1)
meets_first trap footprints step works action place same is meets =
    let it = worked trap footprints step place meets.other same meets.there in
    record {
      place = place;
      other = it.action;
      number_is = refl;
      there = it.there;
      meet = (meet_iff trap it.action action meets.other works (do_meet meets.other works) it.is is refl).0 meets.meets;
      apart = λ k d h.
          let at = slice_taken place step (get_or (take place step) k d) k (slice_get-get_or (take place step) k d h) in
          apart_before trap footprints step works action place same is meets.before k (get_or (take place step) k d) at.0 at.1;
    }

-- ---- what is wrong

-- how far the step was judged
pub counted : (step : List Action) (count : ℕ) → count < length step → length (take count step) ≡ count
counted step count h = length-take-le count step (omega arith)

pub passes_at : (setting : SettingValue) (before : Before) (places : List (List Ion)) (given action : Action) → places ≡ config_at setting before → given ≡ action → Passes setting places given → Passes setting (config_at setting before) action
passes_at setting before places given action config same passes = subst (λ (c : List (List Ion)). Passes setting c action) config (subst (Passes setting places) same passes)

pub is_shared : (setting : SettingValue) (before : Before) (places : List (List Ion)) (early marks : List Bool) (footprints : List Footprint) (works : Footprint) (given action : Action) (first second number : ℕ) →
    IsStateBefore setting before places early marks footprints → given ≡ action → Passes setting places given → spots works ≡ footprint setting.trap given → MeetsAt footprints works first → number ≡ length before.steps + 1 → second ≡ length before.actions + 1
    → Offends setting before action (faults.Shared number (first + 1) second)
is_shared setting before places early marks footprints works given action first second number state same passes is meets step_is second_is = (
  (step_is, second_is),
  passes_at setting before places given action state.config same passes,
  meets_first setting.trap footprints before.actions works action first state.footprints (is ∙ ap (footprint setting.trap) same) meets,
)

-- nothing is wrong but maybe with the operation
pub record Alone (setting : SettingValue) (before : Before) (places : List (List Ion)) (early marks : List Bool) (footprints : List Footprint) (works : Footprint) (given action : Action) : Type 0 where
  pub state : IsStateBefore setting before places early marks footprints
  pub same : given ≡ action
  pub passes : Passes setting places given
  pub is : spots works ≡ footprint setting.trap given
  pub none : NoneMeets footprints (length footprints) works

pub fits : (setting : SettingValue) (before : Before) (places : List (List Ion)) (early marks : List Bool) (footprints : List Footprint) (works : Footprint) (given action : Action) → Alone setting before places early marks footprints works given action → Fits setting before action
fits setting before places early marks footprints works given action alone = record {
  passes = passes_at setting before places given action alone.state.config alone.same alone.passes;
  apart = all_apart setting.trap footprints before.actions works action alone.state.footprints (alone.is ∙ ap (footprint setting.trap) alone.same) alone.none;
}

some_op : (o : Option Op) → option_map_or (λ (op : Op). not (is_barrier op)) o false ≡ true → (op : Op) × (o ≡ Some op)
some_op None e = absurd cc
some_op (Some op) e = (op, refl)

pub performed_within : (circuit : CircuitValue) (k : ℕ) → is_performed circuit k ≡ true → k < length circuit.ops
performed_within circuit k e = let it = some_op (slice_get circuit.ops k) e in slice_get_within circuit.ops k it.0 it.1

second_passes : (a b : Bool) (p q : Rule) (rest : List Guard) → first_broken (guard a p ∷ guard b q ∷ rest) ≡ None → b ≡ true
second_passes true true p q rest e = refl
second_passes true false p q rest e = absurd cc
second_passes false b p q rest e = absurd cc

-- an operation that passes is one of the circuit's
pub op_performed : (setting : SettingValue) (places : List (List Ion)) (zone : PlaceId) (op : OpId) (given : Action) → given ≡ actions.Op zone op → Passes setting places given → is_performed setting.circuit op.0 ≡ true
op_performed setting places zone op given is passes =
    second_passes (is_zone setting.trap zone.0) (is_performed setting.circuit op.0) NoPlace NotOp (guard (is_able_for setting zone.0 op.0) NotAble ∷ guard (are_among setting (list_at places zone.0) op.0) Absent ∷ [])
    (subst (Passes setting places) is passes)

-- no action but an operation's performs one
pub performs_none : (given : Action) → ((zone : PlaceId) (op : OpId) → given ≡ actions.Op zone op → ⊥) → (k : ℕ) → performs k given ≡ false
performs_none (actions.Split zone end count) other k = refl
performs_none (actions.Move from to) other k = refl
performs_none (actions.Cross junction from to) other k = refl
performs_none (actions.Merge zone end) other k = refl
performs_none (actions.Swap zone index) other k = refl
performs_none (actions.Op zone op) other k = absurd (other zone op refl)

pub well_other : (setting : SettingValue) (before : Before) (places : List (List Ion)) (early marks : List Bool) (footprints : List Footprint) (works : Footprint) (given action : Action) → Alone setting before places early marks footprints works given action
    → ((zone : PlaceId) (op : OpId) → given ≡ actions.Op zone op → ⊥) → IsWell setting before action
well_other setting before places early marks footprints works given action alone other =
    let it = fits setting before places early marks footprints works given action alone in
    let none : (k : ℕ) → performs k action ≡ false = λ k. ap (performs k) (sym alone.same) ∙ performs_none given other k in
    record {
      passes = it.passes;
      apart = it.apart;
      none_owed = λ op needs is owes. (let free = none op in cc);
      first = λ op is. absurd (let free = none op in cc);
    }

-- the operation of the action
performs_that : (zone : PlaceId) (op : OpId) (given action : Action) (k : ℕ) → given ≡ actions.Op zone op → given ≡ action → performs k action ≡ true → op.0 ≡ k
performs_that zone op given action k is same e = eqb-true op.0 k (ap (performs k) (sym is ∙ same) ∙ e)

performs_it : (zone : PlaceId) (op : OpId) (given action : Action) → given ≡ actions.Op zone op → given ≡ action → performs op.0 action ≡ true
performs_it zone op given action is same = ap (performs op.0) (sym same ∙ is) ∙ eq-eqb op.0 op.0 refl

-- the flag of the operation says whether it was performed
was_flagged : (setting : SettingValue) (before : Before) (places : List (List Ion)) (early marks : List Bool) (footprints : List Footprint) (op : ℕ) → IsStateBefore setting before places early marks footprints → is_performed setting.circuit op ≡ true
    → get_or marks op false ≡ was_done before op
was_flagged setting before places early marks footprints op state performed = state.done.each op (omega (arith, performed_within setting.circuit op performed, state.done.len))

pub well_op : (setting : SettingValue) (before : Before) (places : List (List Ion)) (early marks : List Bool) (footprints : List Footprint) (works : Footprint) (given action : Action) (zone : PlaceId) (op : OpId) →
    Alone setting before places early marks footprints works given action → given ≡ actions.Op zone op → OpIsWell setting.circuit early marks op → IsWell setting before action
well_op setting before places early marks footprints works given action zone op alone is well =
    let it = fits setting before places early marks footprints works given action alone in
    let performed = op_performed setting places zone op given is alone.passes in
    record {
      passes = it.passes;
      apart = it.apart;
      none_owed = λ k needs performs owes.
          let owed = owed_by setting before early k needs alone.state.earlier owes in
          well.0 needs (subst (λ (n : ℕ). IsOwed setting.circuit early n needs) (sym (performs_that zone op given action k is alone.same performs)) owed);
      first = λ k performs.
          subst (λ (n : ℕ). was_done before n ≡ false) (performs_that zone op given action k is alone.same performs)
          (sym (was_flagged setting before places early marks footprints op.0 alone.state performed) ∙ well.1);
    }

pub offends_op : (setting : SettingValue) (before : Before) (places : List (List Ion)) (early marks : List Bool) (footprints : List Footprint) (works : Footprint) (given action : Action) (zone : PlaceId) (op : OpId) (number : ℕ) (fault : PlayFault) →
    Alone setting before places early marks footprints works given action → given ≡ actions.Op zone op → number ≡ length before.steps + 1 → OpOffends setting.circuit early marks number op fault → Offends setting before action fault
offends_op setting before places early marks footprints works given action zone op number (faults.Broken step place rule) alone is step_is offends = absurd offends
offends_op setting before places early marks footprints works given action zone op number (faults.Shared step first second) alone is step_is offends = absurd offends
offends_op setting before places early marks footprints works given action zone op number (faults.Missing missing) alone is step_is offends = absurd offends
offends_op setting before places early marks footprints works given action zone op number faults.NoMemory alone is step_is offends = absurd offends
offends_op setting before places early marks footprints works given action zone op number (faults.Early step early_op needs) alone is step_is offends =
    let it = fits setting before places early marks footprints works given action alone in
    let same : op.0 ≡ early_op.0 = ap (λ (o : OpId). o.0) (sym offends.1) in (
      offends.0 ∙ step_is,
      it,
      subst (λ (n : ℕ). performs n action ≡ true) same (performs_it zone op given action is alone.same),
      subst (λ (n : ℕ). OwesFirst setting before n needs.0) same (owes_first_by setting before early op.0 needs.0 alone.state.earlier offends.2),
    )
offends_op setting before places early marks footprints works given action zone op number (faults.Twice step twice) alone is step_is offends =
    let it = fits setting before places early marks footprints works given action alone in
    let same : op.0 ≡ twice.0 = ap (λ (o : OpId). o.0) (sym offends.1) in
    let performed = op_performed setting places zone op given is alone.passes in (
      offends.0 ∙ step_is,
      it,
      subst (λ (n : ℕ). performs n action ≡ true) same (performs_it zone op given action is alone.same),
      λ needs owes. offends.2 needs (owed_by setting before early op.0 needs alone.state.earlier (subst (λ (n : ℕ). Owes setting before n needs) (sym same) owes)),
      subst (λ (n : ℕ). was_done before n ≡ true) same (sym (was_flagged setting before places early marks footprints op.0 alone.state performed) ∙ offends.3),
    )
