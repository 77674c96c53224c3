-- The status and the line of each answer.
use Rattle.std.specs.Prelude.{ℕ, Bool, true, false, List, [], ◌∷◌, codes, decimal}
use Rattle.request_words.specs.declared.file.File.{File}
use Rattle.request_words.specs.declared.file.File.TheVariants as files
use Rattle.run_answers.specs.declared.answer.Answer.{Answer}
use Rattle.run_answers.specs.declared.answer.Answer.TheVariants as answers
use Rattle.run_answers.specs.Names.{Names}
use Rattle.run_answers.specs.Line.{line_text}
use Rattle.run_answers.specs.CircuitLines.{qasm_said, expand_said}
use Rattle.run_answers.specs.TrapLines.{trap_said}
use Rattle.run_answers.specs.PlaceLines.{place_said}
use Rattle.run_answers.specs.RoomLines.{room_said}
use Rattle.run_answers.specs.ScheduleLines.{play_said}
use Rattle.run_answers.specs.ExactLines.{large_said, cert_said}

-- the status that the program ends with
abbrev pub status_of : Answer → ℕ
status_of answers.Ok = 0
status_of answers.Usage = 2
status_of (answers.ReadFault file) = 3
status_of (answers.Long file) = 3
status_of (answers.Qasm fault) = 4
status_of (answers.Expand fault) = 4
status_of (answers.Trap fault) = 5
status_of (answers.Place fault) = 6
status_of (answers.Room fault) = 6
status_of (answers.TooLarge what count) = 7
status_of (answers.NoneWithin max) = 8
status_of (answers.Budget budget) = 9
status_of (answers.Text line) = 11
status_of (answers.Illegal fault) = 11
status_of (answers.Cert fault) = 11
status_of answers.WriteFault = 10
status_of answers.NoMemory = 12

-- the word for a file
abbrev pub file_word : File → List ℕ
file_word files.Circuit = codes "circuit"
file_word files.Trap = codes "trap"
file_word files.Schedule = codes "schedule"
file_word files.Certificate = codes "certificate"

-- what is said of an answer, in pieces; nothing where all went well
abbrev pub said : Names → Answer → List (List ℕ)
said names answers.Ok = []
said names answers.Usage = codes "usage" ∷ []
said names (answers.ReadFault file) = codes "cannot read " ∷ file_word file ∷ []
said names (answers.Long file) = file_word file ∷ codes " is too long" ∷ []
said names (answers.Qasm fault) = qasm_said fault
said names (answers.Expand fault) = expand_said fault
said names (answers.Trap fault) = trap_said fault
said names (answers.Place fault) = place_said names fault
said names (answers.Room fault) = room_said names fault
said names (answers.TooLarge what count) = large_said what count
said names (answers.NoneWithin max) = codes "no schedule of at most " ∷ decimal max ∷ codes " steps" ∷ []
said names (answers.Budget budget) = codes "budget of " ∷ decimal budget ∷ codes " spent" ∷ []
said names (answers.Text line) = codes "schedule line " ∷ decimal line ∷ []
said names (answers.Illegal fault) = play_said fault
said names (answers.Cert fault) = cert_said fault
said names answers.WriteFault = codes "cannot write" ∷ []
said names answers.NoMemory = codes "no memory" ∷ []

-- the line of the answer says names of the circuit or the trap that were read
abbrev pub cites_names : Answer → Bool
cites_names (answers.Place fault) = true
cites_names (answers.Room fault) = true
cites_names answer = false

-- the line of an answer, none where all went well
abbrev pub fault_line : Names → Answer → List ℕ
fault_line names answer = line_text (said names answer)
