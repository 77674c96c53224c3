-- A check and a report accept what a compilation wrote.
use Rattle.std.proofs.Common.{◌≡◌, ℕ, ◌≤◌, ◌^◌, List, length, Option, Some, None, Result, Ok, Err, Bool, refl, sym, ap, subst, ◌∙◌}
use Rattle.std.specs.Prelude.{if◌then◌else◌}
use Rattle.std.specs.Option.{ok_or}
use Rattle.std.proofs.lemmas.Bool.{le-leb}
use Rattle.qc_base.specs.declared.ids.Qubit.{Qubit}
use Rattle.circuit_core.specs.Circuit.{CircuitValue, IsCircuit}
use Rattle.trap_parts.specs.Build.{IsTrap}
use Rattle.qasm_tokens.specs.declared.token.PlacedToken.{PlacedToken}
use Rattle.qasm_tokens.specs.declared.token_fault.TokenFault.{TokenFault}
use Rattle.qasm_tokens.specs.Tokens.{tokens_of}
use Rattle.qasm_tokens.proofs.TokenKinds.{tokens_formed}
use Rattle.qasm_read.specs.declared.fault.QasmFault.{QasmFault}
use Rattle.qasm_read.specs.declared.statement.Placed.{Placed}
use Rattle.qasm_read.specs.Read.{ComesTo, IsReading}
use Rattle.qasm_read.specs.WellFormed.{AreWellFormed}
use Rattle.qasm_read.proofs.WellFormed.{well_formed_if_read}
use Rattle.gate_expand.specs.declared.fault.ExpandFault.{ExpandFault}
use Rattle.gate_expand.specs.Program.{expanded}
use Rattle.gate_expand.proofs.SoundProgram.{circuit_is}
use Rattle.trap_read.specs.declared.fault.TrapText.{TrapText}
use Rattle.trap_read.specs.TrapFile.{FileValue, trap_of}
use Rattle.trap_read.proofs.Sound.{right_trap}
use Rattle.step_rules.specs.declared.action.Action.{Action}
use Rattle.step_rules.specs.Placement.{IsPlacement}
use Rattle.step_rules.specs.Setting.{SettingValue, setting_of}
use Rattle.step_rules.specs.Play.{Plays}
use Rattle.schedule_text.specs.Text.{schedule_text}
use Rattle.schedule_text.proofs.Codes.{one_pair}
use Rattle.placement.specs.declared.rule.PlaceRule.{PlaceRule}
use Rattle.placement.specs.Placing.{FitsZones}
use Rattle.placement.proofs.Placed.{placed as rule_gives_placement}
use Rattle.verify_core.specs.declared.judge.Checked.{Checked}
use Rattle.verify_core.specs.Judging.{Judges}
use Rattle.request_words.specs.declared.file.File.TheVariants as files
use Rattle.request_words.specs.Request.{Asked, Search, compile, check, report, request_of}
use Rattle.run_answers.specs.declared.answer.Answer.{Answer}
use Rattle.run_answers.specs.declared.answer.Answer.TheVariants as answers
use Rattle.run_stages.specs.declared.inputs.Inputs.{Inputs}
use Rattle.run_stages.specs.Work.{Work, judged, reported, Ends, EndsSearch, IsTightTextOf}
use Rattle.run_stages.specs.Stages.{Is, Then}
use Rattle.run_stages.specs.Found.{Found}
use Rattle.run_stages.specs.Prepare.{bytes_of, or_refuse, CircuitOf, TrapOf, inputs_of, InputsOf, Routed, within_search, JudgedIn, JudgedOf, JudgedFor, Comes, Prepares}
use Rattle.program_run.specs.Run.{Devices, Writes}
use Rattle.program_run.specs.RoundTrip.{IsFoundAgain, IsAccepted}
use Rattle.run_stages.proofs.Refusals.{labels_fit}
use Rattle.program_run.proofs.Known.{spelled}
use Rattle.run_stages.proofs.Stages.{then_ok}
use Rattle.program_run.proofs.Went.{PlacedBy, went, asked_for, placed_by, routed_work, sought_work}
use Rattle.program_run.proofs.Compiled.{least_written}

-- ---- the circuit and the trap are right

-- what bytes are read as is well formed
well_formed : (bytes : List ℕ) (tokens : Result (List PlacedToken) TokenFault) (program : List Placed) → tokens_of bytes ≡ tokens → ComesTo tokens (Ok program) → AreWellFormed program
well_formed bytes (Ok placed) program e answers = well_formed_if_read placed (Ok program) (tokens_formed bytes placed e) answers
well_formed bytes (Err fault) program e answers = absurd cc

read_as : (judgement : Result (List Placed) QasmFault) (program : List Placed) → Ok program ≡ or_refuse answers.Qasm judgement → judgement ≡ Ok program
read_as (Ok other) program e = cc
read_as (Err fault) program e = absurd cc

made_as : (made : Result CircuitValue ExpandFault) (circuit : CircuitValue) → Ok circuit ≡ or_refuse answers.Expand made → made ≡ Ok circuit
made_as (Ok other) circuit e = cc
made_as (Err fault) circuit e = absurd cc

pub circuit_right : (content : Option (List ℕ)) (circuit : CircuitValue) → CircuitOf content (Ok circuit) → IsCircuit circuit
circuit_right content circuit is =
    let bytes = went _ _ circuit is in
    let program = went _ _ circuit bytes.continues in
    let reading = subst (IsReading bytes.x) (read_as program.is.judgement program.x program.is.outcome_is) program.is.is in
    let well = well_formed bytes.x (tokens_of bytes.x) program.x refl reading in
    circuit_is program.x circuit well (made_as (expanded program.x) circuit program.continues)

file_is : (read : Result FileValue TrapText) (file : FileValue) → Ok file ≡ or_refuse answers.Trap read → read ≡ Ok file
file_is (Ok other) file e = cc
file_is (Err fault) file e = absurd cc

pub trap_right : (content : Option (List ℕ)) (file : FileValue) → TrapOf content (Ok file) → IsTrap file.0 × FitsZones file.0 file.1
trap_right content file is =
    let bytes = went _ _ file is in
    let read = file_is (trap_of bytes.x) file bytes.continues in
    (right_trap bytes.x file.0 file.1 read, labels_fit bytes.x file read)

-- ---- the text is read and judged

-- the circuit and the trap are found, and the text is read as that of steps that play from a placement
pub record IsReadAgain (found : Found) (setting : SettingValue) (steps : List (List Action)) (text : List ℕ) : Type 0 where
  pub inputs : Inputs
  pub are : InputsOf found.circuit found.trap (Ok inputs)
  pub placement : List (List Qubit)
  pub setting_is : setting ≡ setting_of inputs.trap inputs.circuit placement
  pub read : Ok text ≡ bytes_of files.Schedule found.schedule
  pub judges : Judges inputs.trap inputs.circuit text (Ok (record { placement = placement; schedule = steps }))

-- what was placed is found again, and the text stands as the schedule
pub read_again : (before later : Found) (rule : PlaceRule) (next : SettingValue → Result Work Answer → Type 0) (work : Work) (plan : PlacedBy before rule next work) (setting : SettingValue) (steps : List (List Action)) (text : List ℕ)
    → setting ≡ setting_of plan.trap plan.circuit plan.placement → Plays setting steps → text ≡ schedule_text setting steps
    → later.circuit ≡ before.circuit → later.trap ≡ before.trap → later.schedule ≡ Some text → length text ≤ 2 ^ 30 → IsReadAgain later setting steps text
read_again before later rule next work plan setting steps text setting_is plays text_is same_circuit same_trap there few =
    let inputs : Inputs = inputs_of plan.circuit (plan.trap, plan.labels) in
    let of_circuit = subst (λ (content : Option (List ℕ)). CircuitOf content (Ok plan.circuit)) (sym same_circuit) plan.circuit_is in
    let of_trap = subst (λ (content : Option (List ℕ)). TrapOf content (Ok (plan.trap, plan.labels))) (sym same_trap) plan.trap_is in
    let right = trap_right before.trap (plan.trap, plan.labels) plan.trap_is in
    let well = circuit_right before.circuit plan.circuit plan.circuit_is in
    let placed : IsPlacement plan.trap plan.circuit plan.placement =
    rule_gives_placement plan.trap plan.circuit rule plan.labels plan.placement well right.1 plan.placement_is in
    let plays_there = subst (λ (s : SettingValue). Plays s steps) setting_is plays in
    let spells = spelled plan.trap plan.circuit plan.placement steps text right.0 placed plays_there (text_is ∙ ap (λ (s : SettingValue). schedule_text s steps) setting_is) few in
    record {
      inputs = inputs;
      are = then_ok (CircuitOf later.circuit) (λ circuit. Then (TrapOf later.trap) (λ file. Is (Ok (inputs_of circuit file)))) plan.circuit (Ok inputs) of_circuit
          (then_ok (TrapOf later.trap) (λ file. Is (Ok (inputs_of plan.circuit file))) (plan.trap, plan.labels) (Ok inputs) of_trap refl);
      placement = plan.placement;
      setting_is = setting_is;
      read = sym (ap (bytes_of files.Schedule) there ∙ ap (λ (b : Bool). if b then Ok text else Err (answers.Long files.Schedule)) (le-leb (length text) (2 ^ 30) few));
      judges = record {
        text = record { spells = spells; only = λ other more also. one_pair plan.trap plan.circuit other plan.placement more steps text right.0 well also spells };
        plays = plays_there;
      };
    }

-- what is asked for comes to that work
pub comes_by : (found : Found) (words : List (List ℕ)) (asked : Asked) (work : Work) → request_of words ≡ Some asked → Comes found asked (Ok work) → Prepares found words (Ok work)
comes_by found words asked work request comes =
    subst (λ (o : Option Asked). Then (Is (ok_or o answers.Usage)) (Comes found) (Ok work)) (sym request) (then_ok (Is (Ok asked)) (Comes found) asked (Ok work) refl comes)

-- ---- a check and a report

-- the work that a judged schedule comes to
abbrev WorkOf : Type 0
WorkOf = SettingValue → List (List Action) → Work

judged_for : (work : WorkOf) (found : Found) (setting : SettingValue) (steps : List (List Action)) (text : List ℕ) → IsReadAgain found setting steps text → JudgedFor work found (Ok (work setting steps))
judged_for work found setting steps text again =
    let checked : Checked = record { placement = again.placement; schedule = steps } in
    let done = work (setting_of again.inputs.trap again.inputs.circuit again.placement) steps in
    subst (λ (s : SettingValue). JudgedFor work found (Ok (work s steps))) (sym again.setting_is)
    (then_ok (InputsOf found.circuit found.trap) (JudgedOf work found.schedule) again.inputs (Ok done) again.are
    (then_ok (Is (bytes_of files.Schedule found.schedule)) (JudgedIn work again.inputs) text (Ok done) again.read
    (record { judgement = Ok checked; is = again.judges; outcome_is = refl })))

-- the stages of a request that judges a schedule
abbrev IsCaseOf : WorkOf → Asked → Type 0
IsCaseOf work asked = (found : Found) (outcome : Result Work Answer) → JudgedFor work found outcome → Comes found asked outcome

-- the text of steps that play stands as the schedule, and circuit and trap as before
judged_by : (work : WorkOf) (asked : Asked) (found later : Found) (check_words : List (List ℕ)) (rule : PlaceRule) (next : SettingValue → Result Work Answer → Type 0) (done : Work) (plan : PlacedBy found rule next done) (steps : List (List Action)) (text : List ℕ)
    → IsCaseOf work asked → request_of check_words ≡ Some asked → Plays (setting_of plan.trap plan.circuit plan.placement) steps → text ≡ schedule_text (setting_of plan.trap plan.circuit plan.placement) steps
    → IsFoundAgain found later text → length text ≤ 2 ^ 30 → IsAccepted work later check_words text
judged_by work asked found later check_words rule next done plan steps text comes check_request plays text_is there few =
    let setting = setting_of plan.trap plan.circuit plan.placement in
    let again = read_again found later rule next done plan setting steps text refl plays text_is there.circuit there.trap there.schedule few in
    record {
      setting = setting;
      steps = steps;
      judges = comes_by later check_words asked (work setting steps) check_request (comes later (Ok (work setting steps)) (judged_for work later setting steps text again));
      text_is = text_is;
    }

-- the text of a compilation stands as the schedule
judged_again : (work : WorkOf) (asked : Asked) (found later : Found) (words check_words : List (List ℕ)) (circuit trap : List ℕ) (rule : PlaceRule) (exact : Option Search) (before now : Devices) → IsCaseOf work asked
    → request_of words ≡ Some (compile circuit trap rule exact) → request_of check_words ≡ Some asked
    → (wrote : Writes found words answers.Ok before now) → IsFoundAgain found later wrote.ending.text → length wrote.ending.text ≤ 2 ^ 30
    → IsAccepted work later check_words wrote.ending.text
judged_again work asked found later words check_words circuit trap rule None before now comes request check_request wrote there few =
    let done = wrote.done.work in
    let plan = placed_by found rule Routed done (asked_for found words (compile circuit trap rule None) done request wrote.done.is) in
    let setting = setting_of plan.trap plan.circuit plan.placement in
    let written : IsTightTextOf setting wrote.ending.text =
    (subst (λ (w : Work). Ends w answers.Ok wrote.ending) (routed_work setting done plan.continues) wrote.done.ends).1.schedule in
    judged_by work asked found later check_words rule Routed done plan written.is.schedule wrote.ending.text comes check_request written.is.plays written.is.text_is there few
judged_again work asked found later words check_words circuit trap rule (Some exact) before now comes request check_request wrote there few =
    let next = λ (s : SettingValue). Is (within_search s exact) in
    let done = wrote.done.work in
    let plan = placed_by found rule next done (asked_for found words (compile circuit trap rule (Some exact)) done request wrote.done.is) in
    let setting = setting_of plan.trap plan.circuit plan.placement in
    let ends : EndsSearch setting exact.max exact.budget answers.Ok wrote.ending = subst (λ (w : Work). Ends w answers.Ok wrote.ending) (sought_work setting exact done plan.continues).1 wrote.done.ends in
    let is = least_written setting exact.max exact.budget wrote.ending ends in
    judged_by work asked found later check_words rule next done plan is.schedule wrote.ending.text comes check_request is.shown.least.plays is.text_is there few

pub judged_legal : (found later : Found) (words check_words : List (List ℕ)) (circuit trap circuit_again trap_again schedule : List ℕ) (rule : PlaceRule) (exact : Option Search) (before now : Devices)
    → request_of words ≡ Some (compile circuit trap rule exact) → request_of check_words ≡ Some (check circuit_again trap_again schedule)
    → (wrote : Writes found words answers.Ok before now) → IsFoundAgain found later wrote.ending.text → length wrote.ending.text ≤ 2 ^ 30
    → IsAccepted judged later check_words wrote.ending.text
judged_legal found later words check_words circuit trap circuit_again trap_again schedule rule exact before now =
    judged_again judged (check circuit_again trap_again schedule) found later words check_words circuit trap rule exact before now (λ found outcome is. is)

pub judged_reported : (found later : Found) (words report_words : List (List ℕ)) (circuit trap circuit_again trap_again schedule : List ℕ) (rule : PlaceRule) (exact : Option Search) (before now : Devices)
    → request_of words ≡ Some (compile circuit trap rule exact) → request_of report_words ≡ Some (report circuit_again trap_again schedule)
    → (wrote : Writes found words answers.Ok before now) → IsFoundAgain found later wrote.ending.text → length wrote.ending.text ≤ 2 ^ 30
    → IsAccepted reported later report_words wrote.ending.text
judged_reported found later words report_words circuit trap circuit_again trap_again schedule rule exact before now =
    judged_again reported (report circuit_again trap_again schedule) found later words report_words circuit trap rule exact before now (λ found outcome is. is)
