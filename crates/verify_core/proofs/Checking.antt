-- From what a checker answers to what is said of a content.
use Rattle.std.proofs.Common.{◌≡◌, ◌≢◌, ℕ, suc, ◌+◌, ◌-◌, ◌<◌, ◌≤◌, ◌^◌, List, [], ◌++◌, inr, length, take, drop, Some, None, Ok, Err, refl, sym, ap, ◌∙◌, subst, arith, append_assoc, length-append}
use Rattle.std.specs.Prelude.{Result, IsErrAnd}
use Rattle.std.proofs.lemmas.Result.{err_from_is_err_and}
use Rattle.std.proofs.lemmas.List.{append-nil, take-append-drop, take_all, length-drop}
use Rattle.qc_base.specs.Shelf.{ShelfFacts, IsContent}
use Rattle.sat_base.specs.declared.certificate.Bound.TheVariants.{Refutes}
use Rattle.sat_base.specs.Literal.{Literal, positive_of}
use Rattle.sat_base.specs.Certificate.{head_text, lines_text}
use Rattle.derivation_check.specs.declared.cert_fault.CertFault.{CertFault}
use Rattle.derivation_check.specs.declared.cert_fault.CertFault.TheVariants as certs
use Rattle.derivation_check.specs.Faults.{HasFault, Answers, IsSmall}
use Rattle.derivation_check.specs.Progress.{Progress, WasFed, IsAfter}
use Rattle.derivation_check.proofs.Feeding.{faults_stay, has_taken}
use Rattle.derivation_check.proofs.Accepted.{AreGood-accepted, HaveForm-accepted}
use Rattle.step_rules.specs.Setting.{SettingValue}
use Rattle.step_vars.specs.declared.encoding.Encoding.{Encoding}
use Rattle.step_vars.specs.Encoding.{encoding_of, goal_literal}
use Rattle.step_vars.specs.Certifies.{vars_up_to, head_of, asked}
use Rattle.verify_core.specs.declared.verification.TheConstants.{LIMIT}
use Rattle.verify_core.specs.declared.verify_fault.VerifyFault.{VerifyFault}
use Rattle.verify_core.specs.declared.verify_fault.VerifyFault.TheVariants.{Check, TooLarge, Failed, Cert, NoMemory}
use Rattle.verify_core.specs.Faults.{of_cert}
use Rattle.verify_core.specs.Verifying.{IsAcceptedCertificate, BeginsWithHead, task_for, HasFaultInLines}
use Rattle.verify_core.specs.Reading.{BeginsContent, IsFeeding, WasFedAll, HasFaultLater, IsReady, IsOfReading, Judged, JudgedContent, JudgedUnlessFailed}
use Rattle.verify_core.proofs.Contents.{whole_content}
use Rattle.verify_core.proofs.Certificates.{small_by_head, one_judged}
use Rattle.verify_core.proofs.Minimums.{asked_head}

-- ---- faults that are handed on

same_cert : (a b : CertFault) → Cert a ≡ Cert b → a ≡ b
same_cert a b e = cc

no_cert : (fault : CertFault) → NoMemory ≡ Cert fault → ⊥
no_cert fault e = cc

cert_is : (cert fault : CertFault) → of_cert cert ≡ Cert fault → cert ≡ fault
cert_is (certs.Line n) fault e = same_cert (certs.Line n) fault e
cert_is (certs.Bad n) fault e = same_cert (certs.Bad n) fault e
cert_is certs.NotRefuting fault e = same_cert certs.NotRefuting fault e
cert_is certs.Endless fault e = same_cert certs.Endless fault e
cert_is certs.NoMemory fault e = absurd (no_cert fault e)

err_is : {T : Type 0} → (a b : VerifyFault) → ◌≡◌ {A = Result T VerifyFault} (Err a) (Err b) → a ≡ b
err_is a b e = cc

-- a fault of a checker is the one that is handed on
pub handed_on : {T : Type 0} → (answer : Result T VerifyFault) (cert fault : CertFault) → IsErrAnd answer (λ it. it ≡ of_cert cert) → answer ≡ Err (Cert fault) → cert ≡ fault
handed_on {T} answer cert fault handed is =
    let found = err_from_is_err_and answer handed in
    cert_is cert fault (sym found.2 ∙ err_is {T = T} found.0 (Cert fault) (sym found.1 ∙ is))

pub judged_by : (shelf : ShelfFacts) (name : List ℕ) (setting : SettingValue) (steps : ℕ) (fault : CertFault) → (fault ≢ certs.NoMemory → JudgedContent shelf name setting steps (Err (Cert fault)))
    → JudgedUnlessFailed shelf name setting steps (Err (of_cert fault))
judged_by shelf name setting steps (certs.Line n) judged = judged (λ e. absurd (cc))
judged_by shelf name setting steps (certs.Bad n) judged = judged (λ e. absurd (cc))
judged_by shelf name setting steps certs.NotRefuting judged = judged (λ e. absurd (cc))
judged_by shelf name setting steps certs.Endless judged = judged (λ e. absurd (cc))
judged_by shelf name setting steps certs.NoMemory judged = tt

of_cert_reading : (T : Type 0) (cert : CertFault) → IsOfReading {T = T} (Err (of_cert cert))
of_cert_reading T (certs.Line n) = λ e. absurd (cc)
of_cert_reading T (certs.Bad n) = λ e. absurd (cc)
of_cert_reading T certs.NotRefuting = λ e. absurd (cc)
of_cert_reading T certs.Endless = λ e. absurd (cc)
of_cert_reading T certs.NoMemory = tt

pub of_reading : {T : Type 0} → (answer : Result T VerifyFault) (cert : CertFault) → IsErrAnd answer (λ it. it ≡ of_cert cert) → IsOfReading answer
of_reading {T} answer cert handed =
    let found = err_from_is_err_and answer handed in
    subst (λ (it : Result T VerifyFault). IsOfReading it) (sym (found.1 ∙ ap (λ (it : VerifyFault). Err it) found.2)) (of_cert_reading T cert)

-- what was handed on is judged where the fault of the certificate is
pub judged_handed : (shelf : ShelfFacts) (name : List ℕ) (setting : SettingValue) (steps : ℕ) (answer : Result (Unit {0}) VerifyFault) (cert : CertFault) → IsErrAnd answer (λ it. it ≡ of_cert cert)
    → (cert ≢ certs.NoMemory → JudgedContent shelf name setting steps (Err (Cert cert))) → JudgedUnlessFailed shelf name setting steps answer
judged_handed shelf name setting steps answer cert handed judged =
    let found = err_from_is_err_and answer handed in
    subst (λ (it : Result (Unit {0}) VerifyFault). JudgedUnlessFailed shelf name setting steps it) (sym (found.1 ∙ ap (λ (it : VerifyFault). Err it) found.2)) (judged_by shelf name setting steps cert judged)

-- the same of a fault of verify that is handed on
by_fault : (shelf : ShelfFacts) (name : List ℕ) (setting : SettingValue) (steps : ℕ) (fault : VerifyFault) → IsOfReading {T = Unit {0}} (Err fault)
    → ((cert : CertFault) → fault ≡ Cert cert → cert ≢ certs.NoMemory → JudgedContent shelf name setting steps (Err (Cert cert))) → JudgedUnlessFailed shelf name setting steps (Err fault)
by_fault shelf name setting steps (Check fault) of judged = absurd of
by_fault shelf name setting steps (TooLarge what count) of judged = absurd of
by_fault shelf name setting steps Failed of judged = tt
by_fault shelf name setting steps (Cert cert) of judged = judged cert refl of
by_fault shelf name setting steps NoMemory of judged = tt

pub judged_on : (shelf : ShelfFacts) (name : List ℕ) (setting : SettingValue) (steps : ℕ) (answer : Result (Unit {0}) VerifyFault) (fault : VerifyFault) → IsErrAnd answer (λ it. it ≡ fault)
    → IsOfReading {T = Unit {0}} (Err fault) → ((cert : CertFault) → fault ≡ Cert cert → cert ≢ certs.NoMemory → JudgedContent shelf name setting steps (Err (Cert cert))) → JudgedUnlessFailed shelf name setting steps answer
judged_on shelf name setting steps answer fault handed of judged =
    let found = err_from_is_err_and answer handed in
    subst (λ (it : Result (Unit {0}) VerifyFault). JudgedUnlessFailed shelf name setting steps it) (sym (found.1 ∙ ap (λ (it : VerifyFault). Err it) found.2)) (by_fault shelf name setting steps fault of judged)

-- ---- lines

-- a fault of the lines of a content
pub record IsLinesFault (shelf : ShelfFacts) (name : List ℕ) (setting : SettingValue) (encoding : Encoding) (bound : ℕ) (fault : CertFault) : Type 0 where
  pub bytes : List ℕ
  pub content : IsContent shelf name bytes
  pub rest : List ℕ
  pub head : BeginsWithHead bytes encoding (Refutes bound) rest
  pub other : fault ≢ certs.NoMemory
  pub answer : Answers (task_for setting encoding bound) rest (goal_literal setting encoding bound) (Err fault)

abbrev in_lines : (shelf : ShelfFacts) (name : List ℕ) (setting : SettingValue) (encoding : Encoding) (bound : ℕ) (fault : CertFault) → (has : IsLinesFault shelf name setting encoding bound fault)
    → HasFaultInLines setting (suc bound) has.bytes fault
in_lines shelf name setting encoding bound fault has = record { encoding = encoding; rest = has.rest; head = has.head; is = (has.other, has.answer) }

pub lines_judged : (shelf : ShelfFacts) (name : List ℕ) (setting : SettingValue) (encoding : Encoding) (bound : ℕ) (fault : CertFault) → IsLinesFault shelf name setting encoding bound fault
    → IsSmall (task_for setting encoding bound) → JudgedContent shelf name setting (suc bound) (Err (Cert fault))
lines_judged shelf name setting encoding bound fault has small =
    let judged : Judged setting (suc bound) has.bytes (Err (Cert fault)) = inr (inr (in_lines shelf name setting encoding bound fault has)) in
    record {
      bytes = has.bytes;
      content = has.content;
      judged = judged;
      only = λ other. one_judged setting (suc bound) has.bytes (Err (Cert fault)) other (small_by_head setting has.bytes encoding bound has.rest has.head small) judged;
    }

-- bytes that were fed have a fault
pub fed_fault : (shelf : ShelfFacts) (name : List ℕ) (setting : SettingValue) (encoding : Encoding) (bound : ℕ) (head fed : List ℕ) (fault : CertFault) → bound < 2 ^ 32
    → head ≡ head_text (head_of encoding (Refutes bound)) → BeginsContent shelf name (head ++ fed) → HasFault (task_for setting encoding bound) fed fault → fault ≢ certs.NoMemory
    → IsLinesFault shelf name setting encoding bound fault
fed_fault shelf name setting encoding bound head fed fault small is begins has other =
    let whole = whole_content shelf name (head ++ fed) begins in
    record {
      bytes = (head ++ fed) ++ whole.0;
      content = whole.1;
      rest = fed ++ whole.0;
      head = record { small = small; text = append_assoc head fed whole.0 ∙ ap (λ (xs : List ℕ). xs ++ (fed ++ whole.0)) is };
      other = other;
      answer = faults_stay (task_for setting encoding bound) fed whole.0 (goal_literal setting encoding bound) fault has;
    }

-- all bytes were fed, and then there is a fault
pub last_fault : (shelf : ShelfFacts) (name : List ℕ) (setting : SettingValue) (encoding : Encoding) (bound : ℕ) (head fed : List ℕ) (fault : CertFault) → bound < 2 ^ 32
    → head ≡ head_text (head_of encoding (Refutes bound)) → IsContent shelf name (head ++ fed) → Answers (task_for setting encoding bound) fed (goal_literal setting encoding bound) (Err fault)
    → fault ≢ certs.NoMemory → IsLinesFault shelf name setting encoding bound fault
last_fault shelf name setting encoding bound head fed fault small is content answer other = record {
  bytes = head ++ fed;
  content = content;
  rest = fed;
  head = record { small = small; text = ap (λ (xs : List ℕ). xs ++ fed) is };
  other = other;
  answer = answer;
}

-- all bytes were fed, and they are a refutation
pub all_accepted : (setting : SettingValue) (encoding : Encoding) (bound count : ℕ) (head fed : List ℕ) → bound < 2 ^ 32 → head ≡ head_text (head_of encoding (Refutes bound)) → length head ≤ LIMIT
    → Answers (task_for setting encoding bound) fed (goal_literal setting encoding bound) (Ok count) → IsAcceptedCertificate setting (suc bound) (head ++ fed)
all_accepted setting encoding bound count head fed small is short answer =
    let formula = encoding_of setting encoding bound in
    let vars = vars_up_to setting encoding bound in
    let reads = answer.accepted.reads in
    let within = answer.accepted.within in
    record {
      certifies = record {
        encoding = encoding;
        lines = answer.lines;
        small = small;
        text = ap (λ (xs : List ℕ). xs ++ fed) is ∙ ap (λ (xs : List ℕ). head_text (head_of encoding (Refutes bound)) ++ xs) (reads.text ∙ append-nil (lines_text (length formula + 1) answer.lines));
        form = HaveForm-accepted vars formula answer.lines reads.accepted;
        good = AreGood-accepted vars formula answer.lines reads.accepted;
        refutes = answer.refutes;
      };
      within = omega (arith, within, short, length-append head fed, ap length is);
    }

-- ---- the lines after a head of the front

-- the lines after the first bytes of a front, which are the head that was asked for
pub record IsAfterHead (shelf : ShelfFacts) (name : List ℕ) (setting : SettingValue) (steps last : ℕ) (encoding : Encoding) (len : ℕ) (front : List ℕ) (checker : Progress) (goal : ℕ) : Type 0 where
  pub is_last : steps ≡ suc last
  pub few : steps ≤ 48
  pub head : take len front ≡ head_text (head_of encoding (asked steps))
  pub within : len ≤ length front
  pub content : BeginsContent shelf name front
  pub ready : IsReady setting encoding last checker goal

pub after_head : (shelf : ShelfFacts) (name : List ℕ) (setting : SettingValue) (steps : ℕ) (encoding : Encoding) (len : ℕ) (front : List ℕ) (checker : Progress) (goal : ℕ) → 1 ≤ steps → steps ≤ 48
    → take len front ≡ head_text (head_of encoding (asked steps)) → len ≤ length front → BeginsContent shelf name front → ((bound : ℕ) → steps ≡ suc bound → IsReady setting encoding bound checker goal)
    → IsAfterHead shelf name setting steps (steps - 1) encoding len front checker goal
after_head shelf name setting steps encoding len front checker goal some few head within content ready =
    let last : steps ≡ suc (steps - 1) = omega (arith, some) in
    record { is_last = last; few = few; head = head; within = within; content = content; ready = ready (steps - 1) last }

pub piece_is : (len : ℕ) (front : List ℕ) → take (length front - len) (drop len front) ≡ drop len front
piece_is len front = take_all (length front - len) (drop len front) (omega (arith, length-drop len front))

small_last : (steps last : ℕ) → steps ≡ suc last → steps ≤ 48 → last < 2 ^ 32
small_last steps last is few = omega (arith, is, few)

head_at : (shelf : ShelfFacts) (name : List ℕ) (setting : SettingValue) (steps last : ℕ) (encoding : Encoding) (len : ℕ) (front : List ℕ) (checker : Progress) (goal : ℕ) → IsAfterHead shelf name setting steps last encoding len front checker goal
    → take len front ≡ head_text (head_of encoding (Refutes last))
head_at shelf name setting steps last encoding len front checker goal is = is.head ∙ ap (λ (n : ℕ). head_text (head_of encoding (asked n))) is.is_last

both_parts : (len : ℕ) (front : List ℕ) → front ≡ take len front ++ drop len front
both_parts len front = sym (take-append-drop len front)

fault_at : (setting : SettingValue) (encoding : Encoding) (last : ℕ) (bytes : List ℕ) (checker : Progress) (fault : CertFault) → checker.stopped ≡ Some fault → WasFed (task_for setting encoding last) bytes checker
    → HasFault (task_for setting encoding last) bytes fault
fault_at setting encoding last bytes checker fault is fed = subst (IsAfter (task_for setting encoding last) bytes checker) is fed

-- the rest of the front has a fault
pub front_fault : (shelf : ShelfFacts) (name : List ℕ) (setting : SettingValue) (steps last : ℕ) (encoding : Encoding) (len : ℕ) (front piece : List ℕ) (old new : Progress) (goal : ℕ) (fault : CertFault)
    → IsAfterHead shelf name setting steps last encoding len front old goal → piece ≡ drop len front
    → (WasFed (task_for setting encoding last) [] old → WasFed (task_for setting encoding last) ([] ++ piece) new) → new.stopped ≡ Some fault → fault ≢ certs.NoMemory
    → IsLinesFault shelf name setting encoding last fault
front_fault shelf name setting steps last encoding len front piece old new goal fault is rest fed stopped other =
    fed_fault shelf name setting encoding last (take len front) (drop len front) fault (small_last steps last is.is_last is.few) (head_at shelf name setting steps last encoding len front old goal is)
    (subst (BeginsContent shelf name) (both_parts len front) is.content)
    (subst (λ (xs : List ℕ). HasFault (task_for setting encoding last) xs fault) rest (fault_at setting encoding last piece new fault stopped (fed is.ready.fed))) other

-- the rest of the front was fed
pub is_feeding : (shelf : ShelfFacts) (name : List ℕ) (setting : SettingValue) (steps last : ℕ) (encoding : Encoding) (len : ℕ) (front piece : List ℕ) (old new : Progress) (goal : ℕ)
    → IsAfterHead shelf name setting steps last encoding len front old goal → piece ≡ drop len front
    → (WasFed (task_for setting encoding last) [] old → WasFed (task_for setting encoding last) ([] ++ piece) new) → new.stopped ≡ None
    → IsFeeding shelf name (task_for setting encoding last) (take len front) (drop len front) new (length front)
is_feeding shelf name setting steps last encoding len front piece old new goal is rest fed no_fault =
    let head = head_at shelf name setting steps last encoding len front old goal is in
    let short = asked_head encoding steps is.few in
    let size = ap length is.head in
    let own = ap length head in
    record {
      fed = subst (λ (xs : List ℕ). WasFed (task_for setting encoding last) xs new) rest (fed is.ready.fed);
      no_fault = no_fault;
      at_place = ap length (both_parts len front) ∙ length-append (take len front) (drop len front);
      limit = omega (arith, short, size, own);
      content = subst (BeginsContent shelf name) (both_parts len front) is.content;
    }

pub later_fault : (shelf : ShelfFacts) (name : List ℕ) (setting : SettingValue) (steps last : ℕ) (encoding : Encoding) (len : ℕ) (front : List ℕ) (old : Progress) (goal : ℕ) (fault : CertFault)
    → IsAfterHead shelf name setting steps last encoding len front old goal → HasFaultLater shelf name (task_for setting encoding last) (take len front) (drop len front) fault → fault ≢ certs.NoMemory
    → IsLinesFault shelf name setting encoding last fault
later_fault shelf name setting steps last encoding len front old goal fault is later other =
    fed_fault shelf name setting encoding last (take len front) (drop len front ++ later.more) fault (small_last steps last is.is_last is.few) (head_at shelf name setting steps last encoding len front old goal is)
    later.content later.is other

pub end_fault : (shelf : ShelfFacts) (name : List ℕ) (setting : SettingValue) (steps last : ℕ) (encoding : Encoding) (len : ℕ) (front : List ℕ) (old new : Progress) (goal : ℕ) (fault : CertFault)
    → IsAfterHead shelf name setting steps last encoding len front old goal → (fed : WasFedAll shelf name (task_for setting encoding last) (take len front) (drop len front) new)
    → (WasFed (task_for setting encoding last) (drop len front ++ fed.more) new → Answers (task_for setting encoding last) (drop len front ++ fed.more) (positive_of goal) (Err fault))
    → fault ≢ certs.NoMemory → IsLinesFault shelf name setting encoding last fault
end_fault shelf name setting steps last encoding len front old new goal fault is fed answers other =
    last_fault shelf name setting encoding last (take len front) (drop len front ++ fed.more) fault (small_last steps last is.is_last is.few) (head_at shelf name setting steps last encoding len front old goal is)
    fed.content (subst (λ (literal : Literal). Answers (task_for setting encoding last) (drop len front ++ fed.more) literal (Err fault)) is.ready.is_goal (answers fed.fed)) other

pub end_accepted : (shelf : ShelfFacts) (name : List ℕ) (setting : SettingValue) (steps last : ℕ) (encoding : Encoding) (len : ℕ) (front : List ℕ) (old new : Progress) (goal count : ℕ)
    → IsAfterHead shelf name setting steps last encoding len front old goal → (fed : WasFedAll shelf name (task_for setting encoding last) (take len front) (drop len front) new)
    → (WasFed (task_for setting encoding last) (drop len front ++ fed.more) new → Answers (task_for setting encoding last) (drop len front ++ fed.more) (positive_of goal) (Ok count))
    → JudgedContent shelf name setting steps (Ok tt)
end_accepted shelf name setting steps last encoding len front old new goal count is fed answers =
    let head = head_at shelf name setting steps last encoding len front old goal is in
    let short = asked_head encoding steps is.few in
    let size = ap length is.head in
    let answer = subst (λ (literal : Literal). Answers (task_for setting encoding last) (drop len front ++ fed.more) literal (Ok count)) is.ready.is_goal (answers fed.fed) in
    let after = drop len front ++ fed.more in
    let bytes = take len front ++ after in
    let bound = small_last steps last is.is_last is.few in
    let judged : Judged setting (suc last) bytes (Ok tt) = all_accepted setting encoding last count (take len front) after bound head (omega (arith, short, size)) answer in
    let begins : BeginsWithHead bytes encoding (Refutes last) after = record { small = bound; text = ap (λ (xs : List ℕ). xs ++ after) head } in
    subst (λ (n : ℕ). JudgedContent shelf name setting n (Ok tt)) (sym is.is_last) (record {
      bytes = bytes;
      content = fed.content;
      judged = judged;
      only = λ other. one_judged setting (suc last) bytes (Ok tt) other (small_by_head setting bytes encoding last after begins is.ready.small) judged;
    })

-- a fault of the lines, for the whole number of steps
pub steps_judged : (shelf : ShelfFacts) (name : List ℕ) (setting : SettingValue) (steps last : ℕ) (encoding : Encoding) (fault : CertFault) → steps ≡ suc last → IsLinesFault shelf name setting encoding last fault
    → IsSmall (task_for setting encoding last) → JudgedContent shelf name setting steps (Err (Cert fault))
steps_judged shelf name setting steps last encoding fault is has small =
    subst (λ (n : ℕ). JudgedContent shelf name setting n (Err (Cert fault))) (sym is) (lines_judged shelf name setting encoding last fault has small)
