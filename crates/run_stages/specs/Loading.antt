-- ---- working notions of private functions: stages that read files, and what they hand on
use Rattle.std.specs.Prelude.{◌≡◌, ◌≢◌, ℕ, List, ◌⊎◌, false, Option, Some, None, Result, Ok, Err}
use Rattle.qc_base.specs.Causes.{Rose}
use Rattle.qc_base.specs.Shelf.{ShelfFacts, SameCounts}
use Rattle.qasm_read.specs.declared.fault.QasmFault.{QasmFault}
use Rattle.qasm_read.specs.declared.fault.QasmFault.TheVariants as qasm_faults
use Rattle.gate_expand.specs.declared.fault.ExpandFault.{ExpandFault}
use Rattle.gate_expand.specs.declared.fault.ExpandFault.TheVariants as expand_faults
use Rattle.trap_read.specs.declared.fault.TrapText.{TrapText}
use Rattle.trap_read.specs.declared.fault.TrapText.TheVariants as trap_faults
use Rattle.placement.specs.declared.fault.PlaceFault.{PlaceFault}
use Rattle.placement.specs.declared.fault.PlaceFault.TheVariants as place_faults
use Rattle.greedy_router.specs.declared.has_room.RoomFault.{RoomFault}
use Rattle.greedy_router.specs.declared.has_room.RoomFault.TheVariants as room_faults
use Rattle.request_words.specs.declared.file.File.{File}
use Rattle.request_words.specs.declared.file.File.TheVariants.{Circuit, Trap, Schedule, Certificate}
use Rattle.run_answers.specs.Answer.{cites_names}
use Rattle.run_answers.specs.declared.answer.Answer.{Answer}
use Rattle.run_answers.specs.declared.answer.Answer.TheVariants as answers
use Rattle.run_stages.specs.declared.inputs.Inputs.{Inputs}
use Rattle.run_stages.specs.declared.ending.Ending.{Ending}
use Rattle.run_stages.specs.Work.{Work, Ends}
use Rattle.run_stages.specs.Found.{IsFoundAs, FailsToRead}
use Rattle.run_stages.specs.Prepare.{InputsOf}
use Rattle.run_stages.specs.Kinds.{IsRefusal}

-- the answers to faults; out of memory is no fault of what was read
abbrev pub qasm_refusal : QasmFault → Answer
qasm_refusal qasm_faults.NoMemory = answers.NoMemory
qasm_refusal fault = answers.Qasm fault

abbrev pub expand_refusal : ExpandFault → Answer
expand_refusal expand_faults.NoMemory = answers.NoMemory
expand_refusal fault = answers.Expand fault

abbrev pub trap_refusal : TrapText → Answer
trap_refusal trap_faults.NoMemory = answers.NoMemory
trap_refusal fault = answers.Trap fault

abbrev pub place_refusal : PlaceFault → Answer
place_refusal place_faults.NoMemory = answers.NoMemory
place_refusal fault = answers.Place fault

abbrev pub room_refusal : RoomFault → Answer
room_refusal room_faults.NoMemory = answers.NoMemory
room_refusal fault = answers.Room fault

-- a refusal to words that are a request
pub record IsOfRequest (answer : Answer) : Type 0 where
  pub refusal : IsRefusal answer
  pub usage : answer ≢ answers.Usage

-- the same, with a line that cites no names
pub record IsOfFiles (answer : Answer) : Type 0 where
  pub request : IsOfRequest answer
  pub plain : cites_names answer ≡ false

-- the same, and no fault of a device
pub record IsOfContent (answer : Answer) : Type 0 where
  pub files : IsOfFiles answer
  pub read : (file : File) → answer ≢ answers.ReadFault file

-- a stage came to this, or memory ran out
abbrev pub Reached : {X : Type 0} → (Result X Answer → Type 0) → Result X Answer → Type 0
Reached stage result = (result ≡ Err answers.NoMemory) ⊎ stage result

-- what was found of the file of that name, and what the stage came to with it
pub record Loads {X : Type 0} (before now : ShelfFacts) (name : List ℕ)
    (stage : Option (List ℕ) → Result X Answer → Type 0) (result : Result X Answer) : Type 0 where
  pub content : Option (List ℕ)
  pub is_found : IsFoundAs before now name content
  pub reached : Reached (stage content) result

-- the same of the files of the circuit and the trap
pub record LoadsBoth (before now : ShelfFacts) (circuit trap : List ℕ) (result : Result Inputs Answer)
    : Type 0 where
  pub circuit_file : Option (List ℕ)
  pub trap_file : Option (List ℕ)
  pub circuit_found : IsFoundAs before now circuit circuit_file
  pub trap_found : IsFoundAs before now trap trap_file
  pub reached : Reached (InputsOf circuit_file trap_file) result

-- the file could not be read only where the count of its very name rose, and else no count changed
pub record Counts {X : Type 0} (file : File) (name : List ℕ) (before now : ShelfFacts)
    (result : Result X Answer) : Type 0 where
  pub failed : (which : File) → result ≡ Err (answers.ReadFault which)
      → (which ≡ file) × Rose (before.read_faults name) (now.read_faults name)
  pub stays : ((which : File) → result ≢ Err (answers.ReadFault which)) → SameCounts before now

-- the same of a stage that reads files of these names
pub record CountsAll {X : Type 0} (names : File → Option (List ℕ)) (before now : ShelfFacts)
    (result : Result X Answer) : Type 0 where
  pub failed : (which : File) → result ≡ Err (answers.ReadFault which)
      → FailsToRead names which before.read_faults now.read_faults
  pub stays : ((which : File) → result ≢ Err (answers.ReadFault which)) → SameCounts before now

-- the names of a schedule and of its certificate
abbrev pub judged_names : List ℕ → List ℕ → File → Option (List ℕ)
judged_names schedule cert Circuit = None
judged_names schedule cert Trap = None
judged_names schedule cert Schedule = Some schedule
judged_names schedule cert Certificate = Some cert

-- the names of a circuit and a trap
abbrev pub two_names : List ℕ → List ℕ → File → Option (List ℕ)
two_names circuit trap Circuit = Some circuit
two_names circuit trap Trap = Some trap
two_names circuit trap Schedule = None
two_names circuit trap Certificate = None

-- a stage came to work that ends so, or to this refusal
pub record IsDoneBy (stage : Result Work Answer → Type 0) (ending : Ending) : Type 0 where
  pub work : Work
  pub is : stage (Ok work)
  pub ends : Ends work ending.answer ending

abbrev pub Finishes : (Result Work Answer → Type 0) → Result Ending Answer → Type 0
Finishes stage (Ok ending) = IsDoneBy stage ending
Finishes stage (Err answer) = (answer ≡ answers.NoMemory) ⊎ stage (Err answer)

-- this outcome ends so
pub record IsOutcome (ending : Ending) (outcome : Result Work Answer) : Type 0 where
  pub work : Work
  pub is : outcome ≡ Ok work
  pub ends : Ends work ending.answer ending

-- the stage comes to nothing else, unless memory ran out
abbrev pub IsOnly : (Result Work Answer → Type 0) → Result Ending Answer → Type 0
IsOnly stage (Ok ending) = (outcome : Result Work Answer) → stage outcome → IsOutcome ending outcome
IsOnly stage (Err answer) =
    (answer ≡ answers.NoMemory) ⊎ ((outcome : Result Work Answer) → stage outcome → outcome ≡ Err answer)
