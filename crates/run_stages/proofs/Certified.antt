-- What is said of the text of a schedule and of a certificate.
use Rattle.std.proofs.Common.{◌≡◌, ◌≢◌, ℕ, List, [], length, Option, Some, None, Result, Ok, Err, refl, sym, ap, ◌∙◌, subst, inl, inr}
use Rattle.std.specs.Prelude.{IsTrue}
use Rattle.std.specs.Option.{option_map_or}
use Rattle.qc_base.specs.Causes.{Rose}
use Rattle.qc_base.specs.Shelf.{ShelfFacts, SameCounts, OnlyReads}
use Rattle.schedule_report.specs.Lines.{least_line}
use Rattle.circuit_core.specs.Circuit.{CircuitValue, IsCircuit}
use Rattle.trap_parts.specs.Parts.{TrapValue}
use Rattle.trap_parts.specs.Build.{IsTrap}
use Rattle.derivation_check.specs.declared.cert_fault.CertFault.{CertFault}
use Rattle.verify_core.specs.declared.judge.Checked.{Checked}
use Rattle.verify_core.specs.declared.fault.CheckFault.{CheckFault}
use Rattle.verify_core.specs.declared.fault.CheckFault.TheVariants as checks
use Rattle.verify_core.specs.declared.verify_fault.VerifyFault.{VerifyFault}
use Rattle.verify_core.specs.declared.verify_fault.VerifyFault.TheVariants as faults
use Rattle.verify_core.specs.Judging.{Judges}
use Rattle.verify_core.specs.Verifying.{too_large, IsAcceptedCertificate, JudgesCertificate, IsWithinLimits, Verifies, VerifiesUnlessFailed, KeepsCounts, IsAnswerUnlessFailed}
use Rattle.verify_core.proofs.Judging.{judged_once}
use Rattle.schedule_play.proofs.Verdicts as verdicts
use Rattle.run_answers.specs.declared.answer.Answer.{Answer}
use Rattle.run_answers.specs.declared.answer.Answer.TheVariants as answers
use Rattle.request_words.specs.declared.file.File.{File}
use Rattle.request_words.specs.declared.file.File.TheVariants as files
use Rattle.run_stages.specs.declared.inputs.Inputs.{Inputs}
use Rattle.run_stages.specs.declared.ending.Ending.{Ending}
use Rattle.run_stages.specs.Stages.{Is, Then}
use Rattle.run_stages.specs.Work.{Work, verified, written, Ends}
use Rattle.step_vars.specs.Certifies.{Certifies}
use Rattle.run_stages.specs.Prepare.{bytes_of, or_refuse, check_refusal, verify_refusal, setting_with, CheckedIn, within_verify, as_certified, CertifiedIn, CertifiedOf, VerifiedIn}
use Rattle.run_stages.specs.Loading.{Counts, Loads}
use Rattle.run_stages.specs.Judging.{VerifyingText, Verifying}
use Rattle.run_stages.proofs.Stages.{after-one, IsOne, as-one, then_ok, then_err, finishes_ok, finishes_err, reached_value}
use Rattle.run_stages.proofs.Reading.{counts_failed, same_err, found_before, found_after}
use Rattle.run_stages.proofs.Outcomes.{fixed-one, next_of, refused_early, only_then, only_early}

-- ---- the text, and its limits

checked_is : (inputs : Inputs) (text : List ℕ) (checked : Checked) → Judges inputs.trap inputs.circuit text (Ok checked) → CheckedIn inputs text (Ok checked)
checked_is inputs text checked judges = record { judgement = Ok checked; is = judges; outcome_is = refl }

unchecked_is : (inputs : Inputs) (text : List ℕ) (fault : CheckFault) → Judges inputs.trap inputs.circuit text (Err fault) → CheckedIn inputs text (Err (check_refusal fault))
unchecked_is inputs text fault judges = record { judgement = Err fault; is = judges; outcome_is = refl }

checked-one : (inputs : Inputs) (text : List ℕ) → IsOne (CheckedIn inputs text)
checked-one inputs text = as-one _ _ (judged_once verdicts.one_verdict verdicts.not_both inputs.trap inputs.circuit text)

abbrev limits_of : (fault : Option VerifyFault) → Checked → Result Checked Answer
limits_of fault checked = option_map_or (λ f. Err (verify_refusal f)) fault (Ok checked)

within_is : (inputs : Inputs) (checked : Checked) (fault : Option VerifyFault) → too_large (setting_with inputs checked) (length checked.schedule) ≡ fault → within_verify inputs checked ≡ limits_of fault checked
within_is inputs checked fault small = ap (λ (f : Option VerifyFault). limits_of f checked) small

-- the stages after circuit and trap, where the schedule is legal and within the limits
legal_continues : (certificate : Option (List ℕ)) (inputs : Inputs) (text : List ℕ) (checked : Checked) (outcome : Result Work Answer) → IsWithinLimits inputs.trap inputs.circuit text checked
    → CertifiedOf certificate inputs checked outcome → VerifiedIn certificate inputs text outcome
legal_continues certificate inputs text checked outcome legal next =
    then_ok (CheckedIn inputs text) (λ c. Then (Is (within_verify inputs c)) (CertifiedOf certificate inputs)) checked outcome (checked_is inputs text checked legal.legal)
    (then_ok (Is (within_verify inputs checked)) (CertifiedOf certificate inputs) checked outcome (sym (within_is inputs checked None legal.small)) next)

-- and that way back
legal_next : (certificate : Option (List ℕ)) (inputs : Inputs) (text : List ℕ) (checked : Checked) (outcome : Result Work Answer) → IsWithinLimits inputs.trap inputs.circuit text checked
    → VerifiedIn certificate inputs text outcome → CertifiedOf certificate inputs checked outcome
legal_next certificate inputs text checked outcome legal stages =
    next_of (Is (within_verify inputs checked)) (CertifiedOf certificate inputs) checked outcome (fixed-one (within_verify inputs checked)) (sym (within_is inputs checked None legal.small))
    (next_of (CheckedIn inputs text) (λ c. Then (Is (within_verify inputs c)) (CertifiedOf certificate inputs)) checked outcome (checked-one inputs text) (checked_is inputs text checked legal.legal) stages)

-- ---- the certificate

abbrev to_verdict : ℕ → Result (Unit {0}) CertFault → Result ℕ VerifyFault
to_verdict steps (Ok done) = Ok steps
to_verdict steps (Err fault) = Err (faults.Cert fault)

said_of : (inputs : Inputs) (text bytes : List ℕ) (checked : Checked) (said : Result (Unit {0}) CertFault) → IsWithinLimits inputs.trap inputs.circuit text checked
    → JudgesCertificate (setting_with inputs checked) (length checked.schedule) bytes said → Verifies inputs.trap inputs.circuit text bytes (to_verdict (length checked.schedule) said)
said_of inputs text bytes checked (Ok done) legal judges = record { checked = checked; schedule = legal; long = refl; is = judges }
said_of inputs text bytes checked (Err fault) legal judges = record { checked = checked; schedule = legal; is = judges }

-- what a verification answers exactly
abbrev pub IsExact : ShelfFacts → List ℕ → Inputs → List ℕ → Result ℕ VerifyFault → Type 0
IsExact before cert inputs text answer = (bytes : List ℕ) (said : Result ℕ VerifyFault) → IsTrue before.known → before.contents cert ≡ Some bytes
    → Verifies inputs.trap inputs.circuit text bytes said → IsAnswerUnlessFailed said answer

ok_said : (inputs : Inputs) (checked : Checked) (steps : ℕ) (said : Result (Unit {0}) CertFault) → Ok steps ≡ to_verdict (length checked.schedule) said → as_certified inputs checked said ≡ Ok (verified (setting_with inputs checked) checked.schedule)
ok_said inputs checked steps (Ok done) e = refl
ok_said inputs checked steps (Err fault) e = absurd cc

err_said : (inputs : Inputs) (checked : Checked) (fault : CertFault) (said : Result (Unit {0}) CertFault) → Err (faults.Cert fault) ≡ to_verdict (length checked.schedule) said → as_certified inputs checked said ≡ Err (answers.Cert fault)
err_said inputs checked fault (Ok done) e = absurd cc
err_said inputs checked fault (Err other) e = cc

certified_next : (bytes : List ℕ) (inputs : Inputs) (checked : Checked) (outcome : Result Work Answer) → CertifiedOf (Some bytes) inputs checked outcome → CertifiedIn inputs checked bytes outcome
certified_next bytes inputs checked outcome stages =
    next_of (Is (Ok bytes)) (CertifiedIn inputs checked) bytes outcome (fixed-one (Ok bytes)) refl stages

ok_only : (before : ShelfFacts) (cert : List ℕ) (inputs : Inputs) (text bytes : List ℕ) (checked : Checked) (steps : ℕ) (outcome : Result Work Answer) → IsTrue before.known → before.contents cert ≡ Some bytes
    → IsExact before cert inputs text (Ok steps) → IsWithinLimits inputs.trap inputs.circuit text checked → VerifiedIn (Some bytes) inputs text outcome
    → outcome ≡ Ok (verified (setting_with inputs checked) checked.schedule)
ok_only before cert inputs text bytes checked steps outcome known content exact legal stages =
    let last = certified_next bytes inputs checked outcome (legal_next (Some bytes) inputs text checked outcome legal stages) in
    last.outcome_is ∙ ok_said inputs checked steps last.judgement
    (exact bytes (to_verdict (length checked.schedule) last.judgement) known content (said_of inputs text bytes checked last.judgement legal last.is))

err_only : (before : ShelfFacts) (cert : List ℕ) (inputs : Inputs) (text bytes : List ℕ) (checked : Checked) (fault : CertFault) (outcome : Result Work Answer) → IsTrue before.known → before.contents cert ≡ Some bytes
    → IsExact before cert inputs text (Err (faults.Cert fault)) → IsWithinLimits inputs.trap inputs.circuit text checked → VerifiedIn (Some bytes) inputs text outcome
    → outcome ≡ Err (answers.Cert fault)
err_only before cert inputs text bytes checked fault outcome known content exact legal stages =
    let last = certified_next bytes inputs checked outcome (legal_next (Some bytes) inputs text checked outcome legal stages) in
    last.outcome_is ∙ err_said inputs checked fault last.judgement
    (exact bytes (to_verdict (length checked.schedule) last.judgement) known content (said_of inputs text bytes checked last.judgement legal last.is))

-- ---- what a verification comes to

pub verified_ok : (before now : ShelfFacts) (cert : List ℕ) (inputs : Inputs) (text shown : List ℕ) (steps : ℕ) (ending : Ending) → VerifiesUnlessFailed before cert inputs.trap inputs.circuit text (Ok steps)
    → IsExact before cert inputs text (Ok steps) → shown ≡ least_line steps → ending ≡ written shown → VerifyingText before now cert inputs text (Ok ending)
verified_ok before now cert inputs text shown steps ending verifies exact shown_is made =
    let it = verifies.verifies in
    let checked = it.checked in
    let setting = setting_with inputs checked in
    let work = verified setting checked.schedule in
    let judges : JudgesCertificate setting (length checked.schedule) verifies.bytes (Ok tt) =
    subst (λ (n : ℕ). IsAcceptedCertificate setting n verifies.bytes) (sym it.long) it.is in
    let next : CertifiedOf (Some verifies.bytes) inputs checked (Ok work) =
    then_ok (Is (Ok verifies.bytes)) (CertifiedIn inputs checked) verifies.bytes (Ok work) refl (record { judgement = Ok tt; is = judges; outcome_is = refl }) in
    let ends : Ends work ending.answer ending =
    subst (λ (e : Ending). Ends work e.answer e) (sym made) (refl, ap written (shown_is ∙ ap least_line (sym it.long))) in
    record {
      certificate = Some verifies.bytes;
      is_found = inl (λ known. sym (verifies.content known));
      finishes = record { work = work; is = legal_continues (Some verifies.bytes) inputs text checked (Ok work) it.schedule next; ends = ends };
      only = λ known. λ outcome stages. record {
        work = work;
        is = ok_only before cert inputs text verifies.bytes checked steps outcome known (verifies.content known) exact it.schedule stages;
        ends = ends;
      };
    }

pub verified_none : (before now : ShelfFacts) (cert : List ℕ) (inputs : Inputs) (text : List ℕ) → VerifyingText before now cert inputs text (Err answers.NoMemory)
verified_none before now cert inputs text = record { certificate = before.contents cert; is_found = inl (λ known. refl); finishes = inl refl; only = λ known. inl refl }

unverified : (before now : ShelfFacts) (cert : List ℕ) (inputs : Inputs) (text : List ℕ) (fault : VerifyFault) → VerifiesUnlessFailed before cert inputs.trap inputs.circuit text (Err fault)
    → IsExact before cert inputs text (Err fault) → (fault ≡ faults.Failed → Rose (before.read_faults cert) (now.read_faults cert)) → VerifyingText before now cert inputs text (Err (verify_refusal fault))
unverified before now cert inputs text (faults.Check fault) verifies exact failed =
    let content = before.contents cert in
    let next = λ (c : Checked). Then (Is (within_verify inputs c)) (CertifiedOf content inputs) in
    let is = unchecked_is inputs text fault (verifies []) in
    record {
      certificate = content;
      is_found = inl (λ known. refl);
      finishes = inr (then_err (CheckedIn inputs text) next (check_refusal fault) is);
      only = λ known. inr (refused_early (CheckedIn inputs text) next (check_refusal fault) (checked-one inputs text) is);
    }
unverified before now cert inputs text (faults.TooLarge what count) verifies exact failed =
    let content = before.contents cert in
    let large = verifies [] in
    let checked = large.checked in
    let answer = verify_refusal (faults.TooLarge what count) in
    let first = checked_is inputs text checked large.legal in
    let next = λ (c : Checked). Then (Is (within_verify inputs c)) (CertifiedOf content inputs) in
    let is : Is (within_verify inputs checked) (Err answer) = sym (within_is inputs checked (Some (faults.TooLarge what count)) large.is) in
    record {
      certificate = content;
      is_found = inl (λ known. refl);
      finishes = inr (then_ok (CheckedIn inputs text) next checked (Err answer) first (then_err (Is (within_verify inputs checked)) (CertifiedOf content inputs) answer is));
      only = λ known. inr (λ outcome stages. refused_early (Is (within_verify inputs checked)) (CertifiedOf content inputs) answer (fixed-one (within_verify inputs checked)) is outcome
          (next_of (CheckedIn inputs text) next checked outcome (checked-one inputs text) first stages));
    }
unverified before now cert inputs text faults.Failed verifies exact failed =
    let checked = verifies.0 in
    let answer = answers.ReadFault files.Certificate in
    let stage = Is {X = List ℕ} (Err answer) in
    let next = then_err stage (CertifiedIn inputs checked) answer refl in
    record {
      certificate = None;
      is_found = inr (refl, failed refl);
      finishes = inr (legal_continues None inputs text checked (Err answer) verifies.1 next);
      only = λ known. inr (λ outcome stages. refused_early stage (CertifiedIn inputs checked) answer (fixed-one (Err answer)) refl outcome (legal_next None inputs text checked outcome verifies.1 stages));
    }
unverified before now cert inputs text (faults.Cert fault) verifies exact failed =
    let it = verifies.verifies in
    let checked = it.checked in
    let answer = answers.Cert fault in
    let next : CertifiedOf (Some verifies.bytes) inputs checked (Err answer) =
    then_ok (Is (Ok verifies.bytes)) (CertifiedIn inputs checked) verifies.bytes (Err answer) refl (record { judgement = Err fault; is = it.is; outcome_is = refl }) in
    record {
      certificate = Some verifies.bytes;
      is_found = inl (λ known. sym (verifies.content known));
      finishes = inr (legal_continues (Some verifies.bytes) inputs text checked (Err answer) it.schedule next);
      only = λ known. inr (λ outcome stages. err_only before cert inputs text verifies.bytes checked fault outcome known (verifies.content known) exact it.schedule stages);
    }
unverified before now cert inputs text faults.NoMemory verifies exact failed = verified_none before now cert inputs text

pub verified_err : (before now : ShelfFacts) (cert : List ℕ) (inputs : Inputs) (text : List ℕ) (fault : VerifyFault) (answer : Answer) → VerifiesUnlessFailed before cert inputs.trap inputs.circuit text (Err fault)
    → IsExact before cert inputs text (Err fault) → (fault ≡ faults.Failed → Rose (before.read_faults cert) (now.read_faults cert)) → answer ≡ verify_refusal fault → VerifyingText before now cert inputs text (Err answer)
verified_err before now cert inputs text fault answer verifies exact failed is =
    subst (λ (a : Answer). VerifyingText before now cert inputs text (Err a)) (sym is) (unverified before now cert inputs text fault verifies exact failed)

-- ---- the schedule's file

pub file_verified : (before middle now : ShelfFacts) (schedule cert bytes : List ℕ) (inputs : Inputs) (result : Result Ending Answer) → OnlyReads before middle → OnlyReads middle now
    → Loads before middle schedule (λ content. Is (bytes_of files.Schedule content)) (Ok bytes) → VerifyingText middle now cert inputs bytes result → Verifying before now schedule cert inputs result
file_verified before middle now schedule cert bytes inputs result first second loads text =
    let stage = Is (bytes_of files.Schedule loads.content) in
    let next = VerifiedIn text.certificate inputs in
    record {
      content = loads.content;
      certificate = text.certificate;
      schedule_found = found_before before middle now schedule loads.content second loads.is_found;
      cert_found = found_after before middle now cert text.certificate first text.is_found;
      finishes = finishes_ok stage next bytes result loads.reached text.finishes;
      only = λ known. only_then stage next bytes result (fixed-one (bytes_of files.Schedule loads.content)) (reached_value stage bytes loads.reached) (text.only (subst IsTrue (sym first.as_known) known));
    }

pub file_refused : (before now : ShelfFacts) (schedule cert : List ℕ) (inputs : Inputs) (answer : Answer)
    → Loads {X = List ℕ} before now schedule (λ content. Is (bytes_of files.Schedule content)) (Err answer) → Verifying before now schedule cert inputs (Err answer)
file_refused before now schedule cert inputs answer loads =
    let stage = Is (bytes_of files.Schedule loads.content) in
    let next = VerifiedIn (before.contents cert) inputs in
    record {
      content = loads.content;
      certificate = before.contents cert;
      schedule_found = loads.is_found;
      cert_found = inl (λ known. refl);
      finishes = finishes_err stage next answer loads.reached;
      only = λ known. only_early stage next answer (fixed-one (bytes_of files.Schedule loads.content)) loads.reached;
    }

-- ---- counts

-- an answer that is no failure of a read
kept : (file : File) (name : List ℕ) (before now : ShelfFacts) (answer : Answer) → ((which : File) → answer ≢ answers.ReadFault which) → SameCounts before now → Counts {X = Ending} file name before now (Err answer)
kept file name before now answer other same = record {
  failed = λ which e. absurd (other which (same_err {X = Ending} answer (answers.ReadFault which) e));
  stays = λ none. same;
}

check_reads : (fault : CheckFault) (which : File) → check_refusal fault ≢ answers.ReadFault which
check_reads (checks.Text line) which e = cc
check_reads (checks.Illegal fault) which e = cc
check_reads checks.NoMemory which e = cc

unverified_counts : (cert : List ℕ) (before now : ShelfFacts) (fault : VerifyFault) → KeepsCounts {T = ℕ} (Err fault) before now → (fault ≡ faults.Failed → Rose (before.read_faults cert) (now.read_faults cert))
    → Counts {X = Ending} files.Certificate cert before now (Err (verify_refusal fault))
unverified_counts cert before now (faults.Check fault) same failed = kept files.Certificate cert before now (check_refusal fault) (check_reads fault) same
unverified_counts cert before now (faults.TooLarge what count) same failed = kept files.Certificate cert before now (verify_refusal (faults.TooLarge what count)) (λ which e. cc) same
unverified_counts cert before now faults.Failed same failed = counts_failed files.Certificate cert before now (failed refl)
unverified_counts cert before now (faults.Cert fault) same failed = kept files.Certificate cert before now (answers.Cert fault) (λ which e. cc) same
unverified_counts cert before now faults.NoMemory same failed = kept files.Certificate cert before now answers.NoMemory (λ which e. cc) same

pub verified_counts : (cert : List ℕ) (before now : ShelfFacts) (fault : VerifyFault) (answer : Answer) → KeepsCounts {T = ℕ} (Err fault) before now → (fault ≡ faults.Failed → Rose (before.read_faults cert) (now.read_faults cert))
    → answer ≡ verify_refusal fault → Counts {X = Ending} files.Certificate cert before now (Err answer)
verified_counts cert before now fault answer same failed is =
    subst (λ (a : Answer). Counts {X = Ending} files.Certificate cert before now (Err a)) (sym is) (unverified_counts cert before now fault same failed)

pub ap_err : (fault : VerifyFault) → fault ≡ faults.Failed → ◌≡◌ {A = Result ℕ VerifyFault} (Err fault) (Err faults.Failed)
ap_err fault e = ap (λ (f : VerifyFault). Err f) e

-- ---- a verification comes to one outcome

-- the trap and the circuit are sound
abbrev pub AreSound : Inputs → Type 0
AreSound inputs = IsTrap inputs.trap × IsCircuit inputs.circuit

abbrev pub OneVerification : Type 0
OneVerification = (trap : TrapValue) (circuit : CircuitValue) (text bytes : List ℕ) (a b : Result ℕ VerifyFault) → IsTrap trap → IsCircuit circuit
    → Verifies trap circuit text bytes a → Verifies trap circuit text bytes b → a ≡ b

same_certified : (inputs : Inputs) (checked : Checked) (a b : Result (Unit {0}) CertFault) → to_verdict (length checked.schedule) a ≡ to_verdict (length checked.schedule) b
    → as_certified inputs checked a ≡ as_certified inputs checked b
same_certified inputs checked (Ok done) (Ok other) e = refl
same_certified inputs checked (Ok done) (Err fault) e = absurd cc
same_certified inputs checked (Err fault) (Ok done) e = absurd cc
same_certified inputs checked (Err fault) (Err other) e = cc

certified-one : OneVerification → (certificate : Option (List ℕ)) (inputs : Inputs) (text : List ℕ) (checked : Checked) → AreSound inputs
    → IsWithinLimits inputs.trap inputs.circuit text checked → IsOne (CertifiedOf certificate inputs checked)
certified-one one None inputs text checked sound legal a b p q =
    let answer = answers.ReadFault files.Certificate in
    let stage = Is {X = List ℕ} (Err answer) in
    refused_early stage (CertifiedIn inputs checked) answer (fixed-one (Err answer)) refl a p
    ∙ sym (refused_early stage (CertifiedIn inputs checked) answer (fixed-one (Err answer)) refl b q)
certified-one one (Some bytes) inputs text checked sound legal a b p q =
    let x = certified_next bytes inputs checked a p in
    let y = certified_next bytes inputs checked b q in
    let steps = length checked.schedule in
    x.outcome_is
    ∙ same_certified inputs checked x.judgement y.judgement
    (one inputs.trap inputs.circuit text bytes (to_verdict steps x.judgement) (to_verdict steps y.judgement) sound.0 sound.1
    (said_of inputs text bytes checked x.judgement legal x.is) (said_of inputs text bytes checked y.judgement legal y.is))
    ∙ sym y.outcome_is

within-one : OneVerification → (certificate : Option (List ℕ)) (inputs : Inputs) (text : List ℕ) (checked : Checked) (fault : Option VerifyFault) → AreSound inputs
    → Judges inputs.trap inputs.circuit text (Ok checked) → too_large (setting_with inputs checked) (length checked.schedule) ≡ fault → IsOne (Then (Is (within_verify inputs checked)) (CertifiedOf certificate inputs))
within-one one certificate inputs text checked None sound judges limits a b p q =
    let stage = Is (within_verify inputs checked) in
    let fits : stage (Ok checked) = sym (within_is inputs checked None limits) in
    certified-one one certificate inputs text checked sound (record { legal = judges; small = limits }) a b
    (next_of stage (CertifiedOf certificate inputs) checked a (fixed-one (within_verify inputs checked)) fits p)
    (next_of stage (CertifiedOf certificate inputs) checked b (fixed-one (within_verify inputs checked)) fits q)
within-one one certificate inputs text checked (Some fault) sound judges limits a b p q =
    let stage = Is (within_verify inputs checked) in
    let over : stage (Err (verify_refusal fault)) = sym (within_is inputs checked (Some fault) limits) in
    refused_early stage (CertifiedOf certificate inputs) (verify_refusal fault) (fixed-one (within_verify inputs checked)) over a p
    ∙ sym (refused_early stage (CertifiedOf certificate inputs) (verify_refusal fault) (fixed-one (within_verify inputs checked)) over b q)

judged_as : (said : Result Checked CheckFault) (checked : Checked) → Ok checked ≡ or_refuse check_refusal said → said ≡ Ok checked
judged_as (Ok other) checked e = cc
judged_as (Err fault) checked e = absurd cc

pub verified-one : OneVerification → (certificate : Option (List ℕ)) (inputs : Inputs) (text : List ℕ) → AreSound inputs → IsOne (VerifiedIn certificate inputs text)
verified-one one certificate inputs text sound =
    after-one (CheckedIn inputs text) (λ (c : Checked). Then (Is (within_verify inputs c)) (CertifiedOf certificate inputs)) (checked-one inputs text)
    (λ (checked : Checked) is. within-one one certificate inputs text checked (too_large (setting_with inputs checked) (length checked.schedule)) sound
    (subst (Judges inputs.trap inputs.circuit text) (judged_as is.judgement checked is.outcome_is) is.is) refl)
