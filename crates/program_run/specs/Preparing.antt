-- ---- working notions of private functions: what a command comes to before anything is written
use Rattle.std.specs.Prelude.{◌≡◌, ◌≢◌, ℕ, List, ◌⊎◌, Option, None, Some, Result, Ok, Err, IsTrue}
use Rattle.std.specs.Option.{option_map}
use Rattle.std.specs.Result.{result_map_both}
use Rattle.qc_base.specs.Causes.{Rose}
use Rattle.qc_base.specs.Shelf.{ShelfFacts, SameCounts}
use Rattle.qc_base.specs.Sink.{Took, TookPart}
use Rattle.request_words.specs.declared.file.File.{File}
use Rattle.request_words.specs.Request.{Asked, file_of}
use Rattle.run_answers.specs.declared.answer.Answer.{Answer}
use Rattle.run_answers.specs.declared.answer.Answer.TheVariants as answers
use Rattle.run_answers.specs.Answer.{cites_names}
use Rattle.run_answers.specs.Names.{Names}
use Rattle.run_stages.specs.declared.inputs.Inputs.{Inputs}
use Rattle.run_stages.specs.declared.ending.Ending.{Ending}
use Rattle.program_run.specs.declared.command.Refusal.{Refusal}
use Rattle.run_stages.specs.Work.{Work}
use Rattle.run_stages.specs.Found.{Found, IsFound}
use Rattle.run_stages.specs.Prepare.{InputsOf, Comes}
use Rattle.run_stages.specs.Loading.{CountsAll, Finishes, IsOnly, IsOfRequest}
use Rattle.program_run.specs.Run.{SinkFacts, Devices, KeepsFiles, IsWhole, IsPut, IsQuiet, FailedToPut, FailedToWrite}
use Rattle.run_stages.specs.Kinds.{ends_search}

-- the names of a circuit and a trap that were read
abbrev pub names_of : Option Inputs → Names
names_of inputs = record {
  circuit = option_map (λ (i : Inputs). i.circuit) inputs;
  trap = option_map (λ (i : Inputs). i.trap) inputs;
}

-- a refusal whose line cites names comes with what the files describe
pub record HasInputs (found : Found) (refusal : Refusal) : Type 0 where
  pub inputs : Inputs
  pub is : refusal.inputs ≡ Some inputs
  pub are : InputsOf found.circuit found.trap (Ok inputs)

abbrev pub answer_in : Result Ending Refusal → Result Ending Answer
answer_in result = result_map_both (λ (ending : Ending). ending) (λ (refusal : Refusal). refusal.answer) result

-- what was found of the files of these names, and what the stages came to with it
pub record Prepared (names : File → Option (List ℕ)) (stages : Found → Result Work Answer → Type 0)
    (before now : ShelfFacts) (result : Result Ending Refusal) : Type 0 where
  pub found : Found
  pub is_found : IsFound before now names found
  pub finishes : Finishes (stages found) (answer_in result)
  pub only : IsTrue before.known → IsOnly (stages found) (answer_in result)
  pub named : (refusal : Refusal) → result ≡ Err refusal
      → IsTrue (cites_names refusal.answer) → HasInputs found refusal

-- the same of what is asked for
abbrev pub PreparedFor : Asked → ShelfFacts → ShelfFacts → Result Ending Refusal → Type 0
PreparedFor asked before now result = Prepared (file_of asked) (λ found. Comes found asked) before now result

-- and how the files that it names were read
abbrev pub CountsFor : Asked → ShelfFacts → ShelfFacts → Result Ending Refusal → Type 0
CountsFor asked before now result = CountsAll (file_of asked) before now (answer_in result)

-- nothing is put
abbrev pub PutsNothing : Ending → Type 0
PutsNothing ending = ending.put ≡ None

-- the refusal of a request
abbrev pub RefusesRequest : Refusal → Type 0
RefusesRequest refusal = IsOfRequest refusal.answer

-- something is put only where there is a name for it
abbrev pub HasName : Option (List ℕ) → Option (List ℕ) → Type 0
HasName name None = Unit {0}
HasName None (Some bytes) = ⊥
HasName (Some name) (Some bytes) = Unit {0}

-- work ends in one of these
abbrev pub IsEnd : Answer → Type 0
IsEnd answer = (answer ≡ answers.Ok) ⊎ IsTrue (ends_search answer)

-- what the output took of an ending once all was put
pub record IsWritten (ending : Ending) (before now : SinkFacts) (answer : Answer) : Type 0 where
  pub either : (answer ≡ ending.answer) ⊎ (answer ≡ answers.WriteFault)
  pub whole : answer ≡ answers.Ok → Took before.taken now.taken ending.text
  pub part : answer ≡ answers.WriteFault
      → (ending.answer ≡ answers.Ok) × TookPart before.taken now.taken ending.text × Rose before.faults now.faults
  pub quiet : IsTrue (ends_search answer) → now ≡ before
  pub faults : answer ≢ answers.WriteFault → now.faults ≡ before.faults

-- What was made of an ending: it was put and written, or a device failed, or there was no memory for it, and
-- nothing was put.
pub record IsFinished (name : Option (List ℕ)) (ending : Ending) (before now : Devices) (answer : Answer)
    : Type 0 where
  pub either : (answer ≡ ending.answer) ⊎ ((answer ≡ answers.WriteFault) ⊎ (answer ≡ answers.NoMemory))
  pub whole : answer ≡ answers.Ok → IsWhole name ending before now
  pub put : IsTrue (ends_search answer) → IsPut name ending before now
  pub part : answer ≡ answers.WriteFault
      → FailedToPut name before now ⊎ ((ending.answer ≡ answers.Ok) × FailedToWrite name ending before now)
  pub quiet : answer ≡ answers.NoMemory → IsQuiet before now
  pub files : KeepsFiles name before.shelf now.shelf
  pub counts : answer ≢ answers.WriteFault
      → SameCounts before.shelf now.shelf × (now.out.faults ≡ before.out.faults)
