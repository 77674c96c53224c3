-- The text of a schedule from the placement of a rule.
use Rattle.std.proofs.Common.{◌≡◌, List, ℕ, Result, Ok, Err, refl, sym, ap, subst, inl, inr}
use Rattle.qc_base.specs.declared.ids.Qubit.{Qubit}
use Rattle.step_rules.specs.Setting.{SettingValue, setting_of}
use Rattle.placement.specs.declared.fault.PlaceFault.{PlaceFault}
use Rattle.placement.specs.declared.fault.PlaceFault.TheVariants as faults
use Rattle.placement.specs.declared.rule.PlaceRule.{PlaceRule}
use Rattle.placement.specs.Placing.{place_by}
use Rattle.placement.specs.Faults.{Answers}
use Rattle.greedy_router.specs.declared.has_room.RoomFault.{RoomFault}
use Rattle.greedy_router.specs.declared.has_room.RoomFault.TheVariants as rooms
use Rattle.greedy_router.specs.Room.{HasRoom, Explains}
use Rattle.run_answers.specs.declared.answer.Answer.{Answer}
use Rattle.run_answers.specs.declared.answer.Answer.TheVariants as answers
use Rattle.run_stages.specs.declared.ending.Ending.{Ending}
use Rattle.run_stages.specs.declared.inputs.Inputs.{Inputs}
use Rattle.run_stages.specs.Work.{Work, make, Ends, IsTightTextOf, written}
use Rattle.run_stages.specs.Stages.{Is, Then}
use Rattle.run_stages.specs.Prepare.{or_refuse, placed, Routed, Planned}
use Rattle.run_stages.specs.Loading.{Finishes, place_refusal, room_refusal}
use Rattle.run_stages.proofs.Stages.{finishes_ok, then_err}

-- ---- a trap with room

pub routed_ok : (setting : SettingValue) (text : List ℕ) (ending : Ending) → HasRoom setting → IsTightTextOf setting text → ending ≡ written text → Finishes (Routed setting) (Ok ending)
routed_ok setting text ending room is made = record {
  work = make setting;
  is = record { judgement = Ok tt; is = room; outcome_is = refl };
  ends = subst (λ (e : Ending). Ends (make setting) e.answer e) (sym made) (refl, record { schedule = is; none = refl });
}

no_room : (setting : SettingValue) (fault : RoomFault) → Explains setting fault → Finishes (Routed setting) (Err (room_refusal fault))
no_room setting rooms.NoMemory said = inl refl
no_room setting (rooms.Tight zone free) said = inr (record { judgement = Err (rooms.Tight zone free); is = said; outcome_is = refl })
no_room setting (rooms.Apart zone) said = inr (record { judgement = Err (rooms.Apart zone); is = said; outcome_is = refl })
no_room setting (rooms.NoAble op) said = inr (record { judgement = Err (rooms.NoAble op); is = said; outcome_is = refl })

pub routed_err : (setting : SettingValue) (fault : RoomFault) (answer : Answer) → Explains setting fault → answer ≡ room_refusal fault → Finishes (Routed setting) (Err answer)
routed_err setting fault answer said is = subst (λ (a : Answer). Finishes (Routed setting) (Err a)) (sym is) (no_room setting fault said)

-- ---- the placement of a rule

-- the stages from the placement on
abbrev pub From : PlaceRule → (SettingValue → Result Work Answer → Type 0) → Inputs → Result Work Answer → Type 0
From rule next inputs = Then (Is (placed rule inputs)) (λ placement. next (setting_of inputs.trap inputs.circuit placement))

pub from_ok : (rule : PlaceRule) (next : SettingValue → Result Work Answer → Type 0) (inputs : Inputs) (placement : List (List Qubit)) (r : Result Ending Answer) → place_by inputs.trap inputs.circuit rule inputs.labels ≡ Ok placement
    → Finishes (next (setting_of inputs.trap inputs.circuit placement)) r → Finishes (From rule next inputs) r
from_ok rule next inputs placement r said done =
    finishes_ok (Is (placed rule inputs)) (λ placement. next (setting_of inputs.trap inputs.circuit placement)) placement r
    (inr (sym (ap (λ (p : Result (List (List Qubit)) PlaceFault). or_refuse answers.Place p) said))) done

not_placed : (rule : PlaceRule) (next : SettingValue → Result Work Answer → Type 0) (inputs : Inputs) (fault : PlaceFault) → place_by inputs.trap inputs.circuit rule inputs.labels ≡ Err fault → Finishes (From rule next inputs) (Err (answers.Place fault))
not_placed rule next inputs fault said =
    inr (then_err (Is (placed rule inputs)) (λ placement. next (setting_of inputs.trap inputs.circuit placement)) (answers.Place fault)
    (sym (ap (λ (p : Result (List (List Qubit)) PlaceFault). or_refuse answers.Place p) said)))

refused : (rule : PlaceRule) (next : SettingValue → Result Work Answer → Type 0) (inputs : Inputs) (fault : PlaceFault) → Answers {X = List (List Qubit)} (Err fault) (place_by inputs.trap inputs.circuit rule inputs.labels)
    → Finishes (From rule next inputs) (Err (place_refusal fault))
refused rule next inputs faults.NoMemory said = inl refl
refused rule next inputs (faults.TooManyQubits qubits room) said = not_placed rule next inputs (faults.TooManyQubits qubits room) said
refused rule next inputs faults.NoTable said = not_placed rule next inputs faults.NoTable said
refused rule next inputs (faults.UnknownQubit zone label) said = not_placed rule next inputs (faults.UnknownQubit zone label) said
refused rule next inputs (faults.Given fault) said = not_placed rule next inputs (faults.Given fault) said

pub from_err : (rule : PlaceRule) (next : SettingValue → Result Work Answer → Type 0) (inputs : Inputs) (fault : PlaceFault) (answer : Answer) → Answers {X = List (List Qubit)} (Err fault) (place_by inputs.trap inputs.circuit rule inputs.labels)
    → answer ≡ place_refusal fault → Finishes (From rule next inputs) (Err answer)
from_err rule next inputs fault answer said is = subst (λ (a : Answer). Finishes (From rule next inputs) (Err a)) (sym is) (refused rule next inputs fault said)

pub planned_ok : (rule : PlaceRule) (inputs : Inputs) (placement : List (List Qubit)) (r : Result Ending Answer) → place_by inputs.trap inputs.circuit rule inputs.labels ≡ Ok placement
    → Finishes (Routed (setting_of inputs.trap inputs.circuit placement)) r → Finishes (Planned rule inputs) r
planned_ok rule = from_ok rule Routed

pub planned_err : (rule : PlaceRule) (inputs : Inputs) (fault : PlaceFault) (answer : Answer) → Answers {X = List (List Qubit)} (Err fault) (place_by inputs.trap inputs.circuit rule inputs.labels) → answer ≡ place_refusal fault
    → Finishes (Planned rule inputs) (Err answer)
planned_err rule = from_err rule Routed
