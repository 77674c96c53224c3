-- Words and files come to one outcome.
use Rattle.std.proofs.Common.{◌≡◌, List, ℕ, Result, Ok, sym, subst}
use Rattle.std.specs.Option.{ok_or}
use Rattle.request_words.specs.declared.file.File.TheVariants as files
use Rattle.request_words.specs.Request.{Asked, verify, request_of}
use Rattle.run_answers.specs.declared.answer.Answer.{Answer}
use Rattle.run_answers.specs.declared.answer.Answer.TheVariants as answers
use Rattle.run_stages.specs.declared.inputs.Inputs.{Inputs}
use Rattle.run_stages.specs.Work.{Work}
use Rattle.run_stages.specs.Stages.{Is}
use Rattle.run_stages.specs.Found.{Found}
use Rattle.run_stages.specs.Prepare.{bytes_of, InputsOf, VerifiedIn, VerifiedOf, inputs_of, Comes, Prepares}
use Rattle.run_stages.proofs.Stages.{IsOne, after-one, inputs_of-one}
use Rattle.run_stages.proofs.Outcomes.{fixed-one, comes-one}
use Rattle.program_run.proofs.Went.{went}
use Rattle.program_run.proofs.RoundTrip.{trap_right, circuit_right}
use Rattle.run_stages.proofs.Certified.{AreSound, OneVerification, verified-one}

-- ---- a verification

-- the circuit and the trap of files are sound
made_inputs : (a b : Inputs) → ◌≡◌ {A = Result Inputs Answer} (Ok b) (Ok a) → a ≡ b
made_inputs a b e = cc

sound_inputs : (found : Found) (inputs : Inputs) → InputsOf found.circuit found.trap (Ok inputs) → AreSound inputs
sound_inputs found inputs are =
    let circuit = went _ _ inputs are in
    let file = went _ _ inputs circuit.continues in
    let same : inputs_of circuit.x file.x ≡ inputs = made_inputs (inputs_of circuit.x file.x) inputs file.continues in
    subst AreSound same ((trap_right found.trap file.x file.is).0, circuit_right found.circuit circuit.x circuit.is)

verify-one : OneVerification → (found : Found) (circuit trap schedule cert : List ℕ) → IsOne (Comes found (verify circuit trap schedule cert))
verify-one one found circuit trap schedule cert =
    after-one (InputsOf found.circuit found.trap) (VerifiedOf found.schedule found.certificate) (inputs_of-one found.circuit found.trap)
    (λ (inputs : Inputs) are. after-one (Is (bytes_of files.Schedule found.schedule)) (VerifiedIn found.certificate inputs) (fixed-one (bytes_of files.Schedule found.schedule))
    (λ (text : List ℕ) is. verified-one one found.certificate inputs text (sound_inputs found inputs are)))

-- ---- all requests

pub prepares-one : OneVerification → (found : Found) (words : List (List ℕ)) (a b : Result Work Answer)
    → Prepares found words a → Prepares found words b → a ≡ b
prepares-one one found words a b =
    after-one (Is (ok_or (request_of words) answers.Usage)) (Comes found) (fixed-one (ok_or (request_of words) answers.Usage))
    (λ (asked : Asked) is. comes-one found asked
    (λ circuit trap schedule cert e. subst (λ (x : Asked). IsOne (Comes found x)) (sym e) (verify-one one found circuit trap schedule cert)))
    a b
