-- What the words and the files come to: work to do, or a refusal.
use Rattle.std.specs.Prelude.{ℕ, ◌≤◌, ◌^◌, nat_le, List, length, Option, Some, None, Result, Ok, Err, if◌then◌else◌}
use Rattle.std.specs.Option.{ok_or, option_map_or}
use Rattle.qc_base.specs.declared.ids.Qubit.{Qubit}
use Rattle.circuit_core.specs.Circuit.{CircuitValue}
use Rattle.qasm_read.specs.declared.statement.Placed.{Placed}
use Rattle.qasm_read.specs.Read.{IsReading}
use Rattle.gate_expand.specs.Program.{expanded}
use Rattle.trap_parts.specs.Parts.{TrapValue}
use Rattle.trap_read.specs.TrapFile.{trap_of}
use Rattle.placement.specs.declared.rule.PlaceRule.{PlaceRule}
use Rattle.greedy_router.specs.declared.has_room.RoomFault.{RoomFault}
use Rattle.greedy_router.specs.Room.{JudgesRoom}
use Rattle.step_rules.specs.declared.action.Action.{Action}
use Rattle.placement.specs.Placing.{Table, place_by}
use Rattle.step_rules.specs.Setting.{SettingValue, setting_of}
use Rattle.derivation_check.specs.declared.cert_fault.CertFault.{CertFault}
use Rattle.exact_search.specs.declared.fault.Count.{Count as SearchCount}
use Rattle.exact_search.specs.declared.fault.Count.TheVariants as search_counts
use Rattle.exact_search.specs.declared.fault.ExactFault.{ExactFault}
use Rattle.exact_search.specs.declared.fault.ExactFault.TheVariants as exacts
use Rattle.exact_search.specs.TooLarge.{too_large as search_too_large}
use Rattle.verify_core.specs.declared.judge.Checked.{Checked}
use Rattle.verify_core.specs.declared.verify_fault.Count.{Count as VerifyCount}
use Rattle.verify_core.specs.declared.verify_fault.Count.TheVariants as verify_counts
use Rattle.verify_core.specs.declared.verify_fault.VerifyFault.{VerifyFault}
use Rattle.verify_core.specs.declared.verify_fault.VerifyFault.TheVariants as verifies
use Rattle.verify_core.specs.Verifying.{too_large as verify_too_large, JudgesCertificate}
use Rattle.verify_core.specs.Judging.{Judges}
use Rattle.verify_core.specs.declared.fault.CheckFault.{CheckFault}
use Rattle.verify_core.specs.declared.fault.CheckFault.TheVariants as checks
use Rattle.request_words.specs.declared.file.File.{File}
use Rattle.request_words.specs.declared.file.File.TheVariants.{Circuit, Trap, Schedule, Certificate}
use Rattle.request_words.specs.Request.{Asked, Search, compile, check, verify, report, load, request_of}
use Rattle.run_answers.specs.declared.answer.Answer.{Answer}
use Rattle.run_answers.specs.declared.answer.Answer.TheVariants as answers
use Rattle.run_answers.specs.declared.large.Large.{Large}
use Rattle.run_answers.specs.declared.large.Large.TheVariants as larges
use Rattle.run_stages.specs.declared.inputs.Inputs.{Inputs}
use Rattle.run_stages.specs.Work.{Work, make, fewest, judged, reported, verified, loaded}
use Rattle.run_stages.specs.Stages.{Then, Is, As}
use Rattle.run_stages.specs.Found.{Found}

-- ---- files

-- the most bytes of a file
abbrev pub limit_of : File → ℕ
limit_of Circuit = 2 ^ 20
limit_of Trap = 2 ^ 18
limit_of Schedule = 2 ^ 30
limit_of Certificate = 2 ^ 50

-- the bytes of a file that can be read and isn't too long
abbrev pub bytes_of : File → Option (List ℕ) → Result (List ℕ) Answer
bytes_of file None = Err (answers.ReadFault file)
bytes_of file (Some bytes) =
    if nat_le (length bytes) (limit_of file) then Ok bytes else Err (answers.Long file)

-- a value, or the refusal that a fault is
abbrev pub or_refuse : {X E : Type 0} → (E → Answer) → Result X E → Result X Answer
or_refuse answer (Ok x) = Ok x
or_refuse answer (Err fault) = Err (answer fault)

-- the circuit of a program
abbrev pub circuit_of : List Placed → Result CircuitValue Answer
circuit_of program = or_refuse answers.Expand (expanded program)

-- the program that the bytes are, and the circuit of the program
abbrev pub CircuitIn : List ℕ → Result CircuitValue Answer → Type 0
CircuitIn bytes = Then (As (IsReading bytes) (or_refuse answers.Qasm)) (λ program. Is (circuit_of program))

-- the circuit's file
abbrev pub CircuitOf : Option (List ℕ) → Result CircuitValue Answer → Type 0
CircuitOf content = Then (Is (bytes_of Circuit content)) CircuitIn

-- the trap that the bytes describe, and the labels of qubits for each zone, where there are some
abbrev pub TrapIn : List ℕ → Result (TrapValue × Option Table) Answer → Type 0
TrapIn bytes = Is (or_refuse answers.Trap (trap_of bytes))

-- the trap's file
abbrev pub TrapOf : Option (List ℕ) → Result (TrapValue × Option Table) Answer → Type 0
TrapOf content = Then (Is (bytes_of Trap content)) TrapIn

abbrev pub inputs_of : CircuitValue → TrapValue × Option Table → Inputs
inputs_of circuit file = record { circuit = circuit; trap = file.0; labels = file.1 }

-- the circuit's file first, and then the trap's
abbrev pub InputsOf : Option (List ℕ) → Option (List ℕ) → Result Inputs Answer → Type 0
InputsOf circuit_file trap_file =
    Then (CircuitOf circuit_file) (λ circuit. Then (TrapOf trap_file) (λ file. Is (Ok (inputs_of circuit file))))

-- ---- a compilation

-- the setting of a placement
abbrev pub setting_from : Inputs → List (List Qubit) → SettingValue
setting_from inputs placement = setting_of inputs.trap inputs.circuit placement

-- the placement by the rule
abbrev pub placed : PlaceRule → Inputs → Result (List (List Qubit)) Answer
placed rule inputs = or_refuse answers.Place (place_by inputs.trap inputs.circuit rule inputs.labels)

-- a schedule is made where there is room
abbrev pub as_routed : SettingValue → Result (Unit {0}) RoomFault → Result Work Answer
as_routed setting (Ok there) = Ok (make setting)
as_routed setting (Err fault) = Err (answers.Room fault)

abbrev pub Routed : SettingValue → Result Work Answer → Type 0
Routed setting = As (JudgesRoom setting) (as_routed setting)

-- the placement, and then the work from there
abbrev pub Planned : PlaceRule → Inputs → Result Work Answer → Type 0
Planned rule inputs = Then (Is (placed rule inputs)) (λ placement. Routed (setting_from inputs placement))

-- ---- a compilation in exact mode

-- what has a limit in exact mode
abbrev pub searched_count : SearchCount → Large
searched_count search_counts.Ions = larges.Ions
searched_count search_counts.Places = larges.Places
searched_count search_counts.Ops = larges.Operations
searched_count search_counts.Max = larges.Steps

-- the refusal of a search
abbrev pub search_refusal : ExactFault → Answer
search_refusal (exacts.TooLarge what count) = answers.TooLarge (searched_count what) count
search_refusal exacts.NoMemory = answers.NoMemory

-- within the limits, a schedule with the fewest steps is to be found
abbrev pub within_search : SettingValue → Search → Result Work Answer
within_search setting exact =
    option_map_or (λ fault. Err (search_refusal fault)) (search_too_large setting exact.max)
    (Ok (fewest setting exact.max exact.budget))

-- the placement, and then the limits
abbrev pub Sought : PlaceRule → Search → Inputs → Result Work Answer → Type 0
Sought rule exact inputs =
    Then (Is (placed rule inputs)) (λ placement. Is (within_search (setting_from inputs placement) exact))

-- ---- a check

-- the refusal that a fault of the schedule is
abbrev pub check_refusal : CheckFault → Answer
check_refusal (checks.Text line) = answers.Text line
check_refusal (checks.Illegal fault) = answers.Illegal fault
check_refusal checks.NoMemory = answers.NoMemory

-- work with a schedule that plays, or a refusal
abbrev pub as_judged : (SettingValue → List (List Action) → Work) → Inputs → Result Checked CheckFault
    → Result Work Answer
as_judged work inputs (Ok checked) = Ok (work (setting_from inputs checked.placement) checked.schedule)
as_judged work inputs (Err fault) = Err (check_refusal fault)

-- whether the bytes are the text of a schedule that plays
abbrev pub JudgedIn : (SettingValue → List (List Action) → Work) → Inputs → List ℕ → Result Work Answer
    → Type 0
JudgedIn work inputs bytes = As (Judges inputs.trap inputs.circuit bytes) (as_judged work inputs)

-- the schedule's file
abbrev pub JudgedOf : (SettingValue → List (List Action) → Work) → Option (List ℕ) → Inputs
    → Result Work Answer → Type 0
JudgedOf work content inputs = Then (Is (bytes_of Schedule content)) (JudgedIn work inputs)

-- the same after the files of the circuit and the trap
abbrev pub JudgedFor : (SettingValue → List (List Action) → Work) → Found → Result Work Answer → Type 0
JudgedFor work found = Then (InputsOf found.circuit found.trap) (JudgedOf work found.schedule)

-- ---- a verification

-- what has a limit in a verification
abbrev pub verified_count : VerifyCount → Large
verified_count verify_counts.Ions = larges.Ions
verified_count verify_counts.Places = larges.Places
verified_count verify_counts.Ops = larges.Operations
verified_count verify_counts.Steps = larges.Steps

-- the refusal that a fault of the schedule or of its certificate is
abbrev pub verify_refusal : VerifyFault → Answer
verify_refusal (verifies.Check fault) = check_refusal fault
verify_refusal (verifies.TooLarge what count) = answers.TooLarge (verified_count what) count
verify_refusal verifies.Failed = answers.ReadFault Certificate
verify_refusal (verifies.Cert fault) = answers.Cert fault
verify_refusal verifies.NoMemory = answers.NoMemory

-- the setting of a schedule that was read
abbrev pub setting_with : Inputs → Checked → SettingValue
setting_with inputs checked = setting_from inputs checked.placement

-- the schedule that the bytes are the text of, and that plays
abbrev pub CheckedIn : Inputs → List ℕ → Result Checked Answer → Type 0
CheckedIn inputs bytes = As (Judges inputs.trap inputs.circuit bytes) (or_refuse check_refusal)

-- the same within the limits
abbrev pub within_verify : Inputs → Checked → Result Checked Answer
within_verify inputs checked =
    option_map_or (λ fault. Err (verify_refusal fault))
    (verify_too_large (setting_with inputs checked) (length checked.schedule)) (Ok checked)

-- a schedule whose certificate holds is verified
abbrev pub as_certified : Inputs → Checked → Result (Unit {0}) CertFault → Result Work Answer
as_certified inputs checked (Ok done) = Ok (verified (setting_with inputs checked) checked.schedule)
as_certified inputs checked (Err fault) = Err (answers.Cert fault)

abbrev pub CertifiedIn : Inputs → Checked → List ℕ → Result Work Answer → Type 0
CertifiedIn inputs checked bytes =
    As (JudgesCertificate (setting_with inputs checked) (length checked.schedule) bytes) (as_certified inputs checked)

-- the certificate's file; too many bytes are a fault of the certificate
abbrev pub CertifiedOf : Option (List ℕ) → Inputs → Checked → Result Work Answer → Type 0
CertifiedOf content inputs checked =
    Then (Is (ok_or content (answers.ReadFault Certificate))) (CertifiedIn inputs checked)

-- the schedule's file, its text, the limits, and then the certificate
abbrev pub VerifiedIn : Option (List ℕ) → Inputs → List ℕ → Result Work Answer → Type 0
VerifiedIn certificate inputs bytes =
    Then (CheckedIn inputs bytes)
    (λ checked. Then (Is (within_verify inputs checked)) (CertifiedOf certificate inputs))

abbrev pub VerifiedOf : Option (List ℕ) → Option (List ℕ) → Inputs → Result Work Answer → Type 0
VerifiedOf content certificate inputs = Then (Is (bytes_of Schedule content)) (VerifiedIn certificate inputs)

-- ---- all commands

-- what each request comes to
abbrev pub Comes : Found → Asked → Result Work Answer → Type 0
Comes found (compile circuit trap rule None) = Then (InputsOf found.circuit found.trap) (Planned rule)
Comes found (compile circuit trap rule (Some exact)) =
    Then (InputsOf found.circuit found.trap) (Sought rule exact)
Comes found (check circuit trap schedule) = JudgedFor judged found
Comes found (verify circuit trap schedule cert) =
    Then (InputsOf found.circuit found.trap) (VerifiedOf found.schedule found.certificate)
Comes found (report circuit trap schedule) = JudgedFor reported found
Comes found (load seed schedule) = Is (Ok (loaded seed))

-- The words ask for something, and the files that it reads are read and judged one after another.
abbrev pub Prepares : Found → List (List ℕ) → Result Work Answer → Type 0
Prepares found words = Then (Is (ok_or (request_of words) answers.Usage)) (Comes found)
