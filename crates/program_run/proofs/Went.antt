-- What stages went through that came to a value.
use Rattle.std.proofs.Common.{◌≡◌, List, ℕ, Option, Some, None, Result, Ok, Err, refl, ap, ◌∙◌, subst}
use Rattle.std.specs.Option.{ok_or, option_map_or}
use Rattle.qc_base.specs.declared.ids.Qubit.{Qubit}
use Rattle.circuit_core.specs.Circuit.{CircuitValue}
use Rattle.trap_parts.specs.Parts.{TrapValue}
use Rattle.step_rules.specs.Setting.{SettingValue, setting_of}
use Rattle.greedy_router.specs.declared.has_room.RoomFault.{RoomFault}
use Rattle.placement.specs.declared.fault.PlaceFault.{PlaceFault}
use Rattle.placement.specs.declared.rule.PlaceRule.{PlaceRule}
use Rattle.placement.specs.Placing.{Table, place_by}
use Rattle.exact_search.specs.declared.fault.ExactFault.{ExactFault}
use Rattle.exact_search.specs.TooLarge.{too_large}
use Rattle.request_words.specs.Request.{Asked, Search, request_of}
use Rattle.run_answers.specs.declared.answer.Answer.{Answer}
use Rattle.run_answers.specs.declared.answer.Answer.TheVariants as answers
use Rattle.run_stages.specs.declared.inputs.Inputs.{Inputs}
use Rattle.run_stages.specs.Work.{Work, make, fewest}
use Rattle.run_stages.specs.Stages.{Continues, Then, Is}
use Rattle.run_stages.specs.Found.{Found}
use Rattle.run_stages.specs.Prepare.{CircuitOf, TrapOf, InputsOf, inputs_of, or_refuse, placed, as_routed, Routed, search_refusal, within_search, Comes, Prepares}

-- the value of a first stage, from which the next came to a value too
pub record Went {X Y : Type 0} (first : Result X Answer → Type 0) (next : X → Result Y Answer → Type 0) (y : Y) : Type 0 where
  pub x : X
  pub is : first (Ok x)
  pub continues : next x (Ok y)

went_on : {X Y : Type 0} (first : Result X Answer → Type 0) (next : X → Result Y Answer → Type 0) (y : Y) (given : Result X Answer) → first given → Continues next given (Ok y) → Went first next y
went_on first next y (Ok x) is continues = record { x = x; is = is; continues = continues }
went_on first next y (Err answer) is continues = absurd cc

pub went : {X Y : Type 0} (first : Result X Answer → Type 0) (next : X → Result Y Answer → Type 0) (y : Y) → Then first next (Ok y) → Went first next y
went first next y stages = went_on first next y stages.given stages.is stages.continues

-- ---- what the words ask for

same_asked : (a b : Asked) → ◌≡◌ {A = Result Asked Answer} (Ok a) (Ok b) → a ≡ b
same_asked a b e = cc

pub asked_for : (found : Found) (words : List (List ℕ)) (asked : Asked) (work : Work) → request_of words ≡ Some asked → Prepares found words (Ok work) → Comes found asked (Ok work)
asked_for found words asked work request prepares =
    let first = went _ _ work prepares in
    let same : first.x ≡ asked = same_asked first.x asked (first.is ∙ ap (λ (o : Option Asked). ok_or o answers.Usage) request) in
    subst (λ (a : Asked). Comes found a (Ok work)) same first.continues

-- ---- a circuit, a trap and a placement, and what comes next

pub record PlacedBy (found : Found) (rule : PlaceRule) (next : SettingValue → Result Work Answer → Type 0) (work : Work) : Type 0 where
  pub circuit : CircuitValue
  pub trap : TrapValue
  pub labels : Option Table
  pub placement : List (List Qubit)
  pub circuit_is : CircuitOf found.circuit (Ok circuit)
  pub trap_is : TrapOf found.trap (Ok (trap, labels))
  pub placement_is : place_by trap circuit rule labels ≡ Ok placement
  pub continues : next (setting_of trap circuit placement) (Ok work)

placed_as : (said : Result (List (List Qubit)) PlaceFault) (placement : List (List Qubit)) → Ok placement ≡ or_refuse answers.Place said → said ≡ Ok placement
placed_as (Ok other) placement e = cc
placed_as (Err fault) placement e = absurd cc

same_inputs : (a b : Inputs) → ◌≡◌ {A = Result Inputs Answer} (Ok a) (Ok b) → a ≡ b
same_inputs a b e = cc

-- the stages from the placement on
abbrev From : PlaceRule → (SettingValue → Result Work Answer → Type 0) → Inputs → Result Work Answer → Type 0
From rule next inputs = Then (Is (placed rule inputs)) (λ placement. next (setting_of inputs.trap inputs.circuit placement))

pub placed_by : (found : Found) (rule : PlaceRule) (next : SettingValue → Result Work Answer → Type 0) (work : Work) → Then (InputsOf found.circuit found.trap) (From rule next) (Ok work) → PlacedBy found rule next work
placed_by found rule next work stages =
    let whole = went _ _ work stages in
    let first = went _ _ whole.x whole.is in
    let second = went _ _ whole.x first.continues in
    let inputs : Inputs = inputs_of first.x second.x in
    let same : whole.x ≡ inputs = same_inputs whole.x inputs second.continues in
    let plan : From rule next inputs (Ok work) = subst (λ (i : Inputs). From rule next i (Ok work)) same whole.continues in
    let made = went _ _ work plan in
    record {
      circuit = first.x;
      trap = second.x.0;
      labels = second.x.1;
      placement = made.x;
      circuit_is = first.is;
      trap_is = second.is;
      placement_is = placed_as (place_by inputs.trap inputs.circuit rule inputs.labels) made.x made.is;
      continues = made.continues;
    }

same_work : (a b : Work) → ◌≡◌ {A = Result Work Answer} (Ok a) (Ok b) → a ≡ b
same_work a b e = cc

made_by : (setting : SettingValue) (judgement : Result (Unit {0}) RoomFault) (work : Work) → Ok work ≡ as_routed setting judgement → work ≡ make setting
made_by setting (Ok there) work e = same_work work (make setting) e
made_by setting (Err fault) work e = absurd cc

-- in plain mode a schedule is to be made
pub routed_work : (setting : SettingValue) (work : Work) → Routed setting (Ok work) → work ≡ make setting
routed_work setting work routed = made_by setting routed.judgement work routed.outcome_is

sought_if : (fault : Option ExactFault) (most work : Work) → ◌≡◌ {A = Result Work Answer} (Ok work) (option_map_or (λ f. Err (search_refusal f)) fault (Ok most)) → (fault ≡ None) × (work ≡ most)
sought_if None most work e = (refl, same_work work most e)
sought_if (Some fault) most work e = absurd cc

-- in exact mode one with the fewest steps, within the limits
pub sought_work : (setting : SettingValue) (exact : Search) (work : Work) → Is (within_search setting exact) (Ok work) → (too_large setting exact.max ≡ None) × (work ≡ fewest setting exact.max exact.budget)
sought_work setting exact work is = sought_if (too_large setting exact.max) (fewest setting exact.max exact.budget) work is
