-- The headline: what a compilation that answers Ok wrote.
use Rattle.std.specs.Prelude.{◌≡◌, ◌≤◌, ℕ, List, ◌++◌, length, codes, Option, None, Some, Ok, slice_get}
use Rattle.qc_base.specs.declared.ids.OpId.{OpId}
use Rattle.qc_base.specs.declared.ids.PlaceId.{PlaceId}
use Rattle.qc_base.specs.declared.ids.Qubit.{Qubit}
use Rattle.qc_base.specs.Sink.{Took}
use Rattle.circuit_core.specs.Circuit.{CircuitValue}
use Rattle.circuit_core.specs.declared.op.Op.{Op}
use Rattle.trap_parts.specs.Parts.{TrapValue}
use Rattle.trap_model.specs.Trap.{place_text}
use Rattle.placement.specs.declared.rule.PlaceRule.{PlaceRule}
use Rattle.placement.specs.Placing.{Table, place_by}
use Rattle.step_rules.specs.declared.action.Action.{Action}
use Rattle.step_rules.specs.declared.action.Action.TheVariants as actions
use Rattle.step_rules.specs.Setting.{SettingValue, setting_of}
use Rattle.step_rules.specs.Play.{Plays}
use Rattle.schedule_text.specs.Text.{op_line, action_line, schedule_text}
use Rattle.request_words.specs.Request.{Search}
use Rattle.run_stages.specs.Found.{Found}
use Rattle.run_stages.specs.Prepare.{CircuitOf, TrapOf}
use Rattle.run_stages.specs.declared.ending.Ending.{Ending}
use Rattle.run_stages.specs.Exact.{IsLeastShown, IsNoneFound, IsBudgetSpent}
use Rattle.program_run.specs.Run.{Devices, Holds}

-- the line of an operation: its zone, its number, the ions on which the placement puts its qubits, and its text
abbrev pub line_with_ions : TrapValue → CircuitValue → List (List Qubit) → PlaceId → OpId → Op → List ℕ
line_with_ions trap circuit placement zone number op =
    codes "op " ++ place_text trap zone.0 ++ codes " " ++ op_line circuit placement number.0 op

-- what was put under the name of the certificate shows that no schedule that plays has fewer steps
pub record IsCertified (setting : SettingValue) (schedule : List (List Action)) (exact : Search)
    (before now : Devices) : Type 0 where
  pub cert : List ℕ
  pub shown : IsLeastShown setting exact.max exact.budget schedule cert
  pub holds : Holds before.shelf now.shelf (Some exact.cert) (Some cert)

-- the same in exact mode; else nothing is claimed of other schedules
abbrev pub IsCertifiedIfExact : Option Search → SettingValue → List (List Action) → Devices → Devices → Type 0
IsCertifiedIfExact None setting schedule before now = Unit {0}
IsCertifiedIfExact (Some exact) setting schedule before now = IsCertified setting schedule exact before now

-- The circuit and the trap are those of the files, the placement is that of the rule, the schedule obeys every
-- rule of the trap in each step and performs each operation of the circuit once and in its order, and its text was
-- taken. In exact mode no such schedule from that placement has fewer steps.
pub record Compiled (found : Found) (rule : PlaceRule) (exact : Option Search) (before now : Devices)
    : Type 0 where
  pub circuit : CircuitValue
  pub circuit_is : CircuitOf found.circuit (Ok circuit)
  pub trap : TrapValue
  pub labels : Option Table
  pub trap_is : TrapOf found.trap (Ok (trap, labels))
  pub placement : List (List Qubit)
  pub placement_is : place_by trap circuit rule labels ≡ Ok placement
  pub schedule : List (List Action)
  pub plays : Plays (setting_of trap circuit placement) schedule
  pub named : (zone : PlaceId) (number : OpId) (op : Op) → slice_get circuit.ops number.0 ≡ Some op
      → action_line (setting_of trap circuit placement) (actions.Op zone number)
      ≡ line_with_ions trap circuit placement zone number op
  pub fewest : IsCertifiedIfExact exact (setting_of trap circuit placement) schedule before now
  pub taken : Took before.out.taken now.out.taken (schedule_text (setting_of trap circuit placement) schedule)

-- ---- a search that finds no schedule

-- The circuit and the trap are those of the files, and the placement is that of the rule. The search from there
-- ended so, what it ended with was put under the name of the certificate, and nothing was written.
pub record Searched (found : Found) (rule : PlaceRule) (exact : Search) (before now : Devices)
    (ends : SettingValue → Ending → Type 0) : Type 0 where
  pub circuit : CircuitValue
  pub circuit_is : CircuitOf found.circuit (Ok circuit)
  pub trap : TrapValue
  pub labels : Option Table
  pub trap_is : TrapOf found.trap (Ok (trap, labels))
  pub placement : List (List Qubit)
  pub placement_is : place_by trap circuit rule labels ≡ Ok placement
  pub ending : Ending
  pub is : ends (setting_of trap circuit placement) ending
  pub holds : Holds before.shelf now.shelf (Some exact.cert) ending.put
  pub out : now.out ≡ before.out

-- no schedule of as many steps as were asked for, or fewer, plays, and what was put refutes that one does
abbrev pub FoundNone : Found → PlaceRule → Search → ℕ → Devices → Devices → Type 0
FoundNone found rule exact most before now = Searched found rule exact before now
    (λ setting ending. (most ≡ exact.max) × IsNoneFound setting exact.max exact.budget ending)

-- as many lines were derived as were asked for, and what was put leaves a number of steps open
abbrev pub SpentBudget : Found → PlaceRule → Search → ℕ → Devices → Devices → Type 0
SpentBudget found rule exact spent before now = Searched found rule exact before now
    (λ setting ending. (spent ≡ exact.budget) × IsBudgetSpent setting exact.max exact.budget ending)
