-- Bytes have one judgement as a certificate.
use Rattle.std.proofs.Common.{◌≡◌, ◌≢◌, ℕ, zero, suc, ◌+◌, ◌≤◌, List, [], ◌++◌, inl, inr, length, Ok, Err, refl, sym, ap, ◌∙◌, subst, arith, length-append}
use Rattle.std.specs.Prelude.{Result}
use Rattle.std.proofs.lemmas.List.{append_cancel_left, append-nil}
use Rattle.sat_base.specs.declared.certificate.Head.{Head}
use Rattle.sat_base.specs.declared.certificate.Bound.{Bound}
use Rattle.sat_base.specs.declared.certificate.Bound.TheVariants.{Refutes, Nothing}
use Rattle.sat_base.specs.Certificate.{head_text, lines_text}
use Rattle.derivation_check.specs.declared.cert_fault.CertFault.{CertFault}
use Rattle.derivation_check.specs.declared.cert_fault.CertFault.TheVariants.{NoMemory}
use Rattle.derivation_check.specs.HeadFaults.{IsEncoding, ReadsHead}
use Rattle.derivation_check.specs.Faults.{Answers, IsSmall}
use Rattle.derivation_check.proofs.OneHead.{one_head}
use Rattle.derivation_check.proofs.OneAnswer.{one_answer}
use Rattle.derivation_check.proofs.Accepted.{AreAccepted-good}
use Rattle.step_rules.specs.Setting.{SettingValue}
use Rattle.step_vars.specs.declared.encoding.Encoding.{Encoding}
use Rattle.step_vars.specs.declared.encoding.Encoding.TheVariants.{Pairwise, Counter}
use Rattle.step_vars.specs.Encoding.{encoding_of, goal_literal}
use Rattle.step_vars.specs.Certifies.{vars_up_to, encoding_number, head_of, asked, IsRefutation, Certifies}
use Rattle.verify_core.specs.declared.verification.TheConstants.{LIMIT}
use Rattle.verify_core.specs.Verifying.{IsAcceptedCertificate, BeginsWithHead, AsksOtherwise, task_for, HasFaultAfter, HasFaultInLines, HasCertFault}
use Rattle.verify_core.specs.declared.verify_fault.VerifyFault.{VerifyFault}
use Rattle.verify_core.specs.declared.verify_fault.VerifyFault.TheVariants.{Check, TooLarge, Failed, Cert, NoMemory as NoMemoryHere}
use Rattle.verify_core.specs.Reading.{Judged}

-- ---- heads

pub is_encoding : (encoding : Encoding) → IsEncoding (encoding_number encoding)
is_encoding Pairwise = (omega arith, omega arith)
is_encoding Counter = (omega arith, omega arith)

encoding_is : (a b : Encoding) → encoding_number a ≡ encoding_number b → a ≡ b
encoding_is Pairwise Pairwise e = refl
encoding_is Pairwise Counter e = absurd (omega (arith, e))
encoding_is Counter Pairwise e = absurd (omega (arith, e))
encoding_is Counter Counter e = refl

-- a head is read as it is
pub reads_head : (bytes : List ℕ) (encoding : Encoding) (bound : Bound) (rest : List ℕ) → BeginsWithHead bytes encoding bound rest
    → ReadsHead bytes (Ok (head_of encoding bound, length (head_text (head_of encoding bound))))
reads_head bytes encoding bound rest begins = record {
  encoding = is_encoding encoding;
  bound = begins.small;
  rest = rest;
  text = begins.text;
  is_len = refl;
}

is_ok : {A : Type 0} → (a b : A) → ◌≡◌ {A = Result A CertFault} (Ok a) (Ok b) → a ≡ b
is_ok a b e = cc

is_err : (A : Type 0) (a b : CertFault) → ◌≡◌ {A = Result A CertFault} (Err a) (Err b) → a ≡ b
is_err A a b e = cc

not_both : {A : Type 0} → (a : A) (fault : CertFault) → ◌≡◌ {A = Result A CertFault} (Ok a) (Err fault) → ⊥
not_both a fault e = cc

-- bytes begin with one head
pub same_head : (bytes : List ℕ) (e f : Encoding) (b c : Bound) (x y : List ℕ) → BeginsWithHead bytes e b x → BeginsWithHead bytes f c y → (e ≡ f) × (b ≡ c) × (x ≡ y)
same_head bytes e f b c x y first second =
    let one = one_head bytes (Ok (head_of e b, length (head_text (head_of e b)))) (Ok (head_of f c, length (head_text (head_of f c)))) (reads_head bytes e b x first) (reads_head bytes f c y second) in
    let heads = ap (λ (p : Head × ℕ). p.0) (is_ok (head_of e b, length (head_text (head_of e b))) (head_of f c, length (head_text (head_of f c))) one) in
    let same : head_text (head_of e b) ++ x ≡ head_text (head_of e b) ++ y = sym first.text ∙ second.text ∙ ap (λ (head : Head). head_text head ++ y) (sym heads) in
    (encoding_is e f (ap (λ (head : Head). head.encoding) heads), ap (λ (head : Head). head.bound) heads, append_cancel_left (head_text (head_of e b)) x y same)

-- ---- what certifies

-- a certificate begins with the head that says what is to be refuted
pub begins_as_asked : (setting : SettingValue) (steps : ℕ) (bytes : List ℕ) → Certifies setting bytes steps
    → (encoding : Encoding) × ((rest : List ℕ) × BeginsWithHead bytes encoding (asked steps) rest)
begins_as_asked setting zero bytes certifies = (certifies.encoding, ([], record { small = tt; text = certifies.text ∙ sym (append-nil (head_text (head_of certifies.encoding Nothing))) }))
begins_as_asked setting (suc bound) bytes certifies =
    (certifies.encoding, (lines_text (length (encoding_of setting certifies.encoding bound) + 1) certifies.lines, record { small = certifies.small; text = certifies.text }))

as_answer : (setting : SettingValue) (bound : ℕ) (bytes : List ℕ) → (has : IsRefutation setting bytes bound) → length bytes ≤ LIMIT
    → Answers (task_for setting has.encoding bound) (lines_text (length (encoding_of setting has.encoding bound) + 1) has.lines) (goal_literal setting has.encoding bound) (Ok (length has.lines))
as_answer setting bound bytes has within =
    let formula = encoding_of setting has.encoding bound in
    let vars = vars_up_to setting has.encoding bound in
    let head = head_text (head_of has.encoding (Refutes bound)) in
    let rest = lines_text (length formula + 1) has.lines in
    let whole = ap length has.text in
    record {
      lines = has.lines;
      accepted = record {
        reads = record { text = sym (append-nil rest); accepted = AreAccepted-good vars formula has.lines has.form has.good };
        within = omega (arith, whole, within, length-append head rest);
      };
      counted = refl;
      refutes = has.refutes;
    }

-- after that head its bytes are a refutation
refutation_after : (setting : SettingValue) (bound : ℕ) (bytes : List ℕ) (encoding : Encoding) (rest : List ℕ) → IsAcceptedCertificate setting (suc bound) bytes
    → BeginsWithHead bytes encoding (Refutes bound) rest
    → (count : ℕ) × Answers (task_for setting encoding bound) rest (goal_literal setting encoding bound) (Ok count)
refutation_after setting bound bytes encoding rest accepted begins =
    let has = accepted.certifies in
    let after = lines_text (length (encoding_of setting has.encoding bound) + 1) has.lines in
    let as_asked : BeginsWithHead bytes has.encoding (Refutes bound) after = record { small = has.small; text = has.text } in
    let same = same_head bytes has.encoding encoding (Refutes bound) (Refutes bound) after rest as_asked begins in
    let it = as_answer setting bound bytes has accepted.within in
    let here : Answers (task_for setting encoding bound) after (goal_literal setting encoding bound) (Ok (length has.lines)) =
    subst (λ (e : Encoding). Answers (task_for setting e bound) after (goal_literal setting e bound) (Ok (length has.lines))) same.0 it in
    (length has.lines, subst (λ (xs : List ℕ). Answers (task_for setting encoding bound) xs (goal_literal setting encoding bound) (Ok (length has.lines))) same.2 here)

-- ---- faults

-- the task that the bytes have by their head is small
abbrev pub AreSmall : SettingValue → ℕ → List ℕ → Type 0
AreSmall setting steps bytes = (encoding : Encoding) (rest : List ℕ) → BeginsWithHead bytes encoding (asked steps) rest
    → (bound : ℕ) → steps ≡ suc bound → IsSmall (task_for setting encoding bound)

same_number : (a b : ℕ) → suc a ≡ suc b → a ≡ b
same_number a b e = omega (arith, e)

-- bytes begin with one head, so one task counts
pub small_by_head : (setting : SettingValue) (bytes : List ℕ) (encoding : Encoding) (bound : ℕ) (rest : List ℕ) → BeginsWithHead bytes encoding (Refutes bound) rest
    → IsSmall (task_for setting encoding bound) → AreSmall setting (suc bound) bytes
small_by_head setting bytes encoding bound rest begins small = λ other more head n e.
    let same = same_head bytes encoding other (Refutes bound) (Refutes bound) rest more begins head in
    let here : IsSmall (task_for setting encoding n) = subst (λ (k : ℕ). IsSmall (task_for setting encoding k)) (same_number bound n e) small in
    subst (λ (it : Encoding). IsSmall (task_for setting it n)) same.0 here

-- where there is nothing to refute there is no task
pub small_by_none : (setting : SettingValue) (bytes : List ℕ) → AreSmall setting 0 bytes
small_by_none setting bytes = λ encoding rest head bound e. absurd (omega (arith, e))

pub head_refused : (bytes : List ℕ) (encoding : Encoding) (bound : Bound) (rest : List ℕ) (fault : CertFault) → BeginsWithHead bytes encoding bound rest → ReadsHead bytes (Err fault) → ⊥
head_refused bytes encoding bound rest fault begins refused =
    let read : Head × ℕ = (head_of encoding bound, length (head_text (head_of encoding bound))) in
    not_both read fault (one_head bytes (Ok read) (Err fault) (reads_head bytes encoding bound rest begins) refused)

pub asked_otherwise : (steps : ℕ) (bytes : List ℕ) (encoding : Encoding) (rest : List ℕ) → BeginsWithHead bytes encoding (asked steps) rest → AsksOtherwise steps bytes → ⊥
asked_otherwise steps bytes encoding rest begins otherwise =
    otherwise.other (same_head bytes otherwise.encoding encoding otherwise.bound (asked steps) otherwise.rest rest otherwise.head begins).1

ok_is_some : (count : ℕ) → ◌≢◌ {A = Result ℕ CertFault} (Ok count) (Err NoMemory)
ok_is_some count e = not_both count NoMemory e

fault_is_some : (fault : CertFault) → fault ≢ NoMemory → ◌≢◌ {A = Result ℕ CertFault} (Err fault) (Err NoMemory)
fault_is_some fault other e = other (is_err ℕ fault NoMemory e)

-- lines that are accepted have no fault
pub lines_refused : (setting : SettingValue) (steps : ℕ) (bytes : List ℕ) (fault : CertFault) → (has : HasFaultInLines setting steps bytes fault)
    → ((bound : ℕ) → steps ≡ suc bound → IsSmall (task_for setting has.encoding bound)) → IsAcceptedCertificate setting steps bytes → ⊥
lines_refused setting zero bytes fault has small accepted =
    let as_asked = begins_as_asked setting zero bytes accepted.certifies in
    let certifies = accepted.certifies in
    let begins : BeginsWithHead bytes certifies.encoding Nothing [] = record { small = tt; text = certifies.text ∙ sym (append-nil (head_text (head_of certifies.encoding Nothing))) } in
    let same = same_head bytes has.encoding certifies.encoding Nothing Nothing has.rest [] has.head begins in
    let none = ap length same.2 in
    let some = has.is.1 in
    absurd (omega (arith, none, some))
lines_refused setting (suc bound) bytes fault has small accepted =
    let ok = refutation_after setting bound bytes has.encoding has.rest accepted has.head in
    not_both ok.0 fault (one_answer (task_for setting has.encoding bound) has.rest (goal_literal setting has.encoding bound) (Ok ok.0) (Err fault) (small bound refl)
    ok.1 (ok_is_some ok.0) has.is.1 (fault_is_some fault has.is.0))

-- what certifies has no fault
pub not_refused : (setting : SettingValue) (steps : ℕ) (bytes : List ℕ) (fault : CertFault) → AreSmall setting steps bytes → IsAcceptedCertificate setting steps bytes → HasCertFault setting steps bytes fault → ⊥
not_refused setting steps bytes fault small accepted refused =
    let as_asked = begins_as_asked setting steps bytes accepted.certifies in
    let begins = as_asked.1.1 in
    elim refused [
      | inl head ↦ head_refused bytes as_asked.0 (asked steps) as_asked.1.0 fault begins head
      | inr later ↦ elim later [
        | inl otherwise ↦ asked_otherwise steps bytes as_asked.0 as_asked.1.0 begins otherwise.1
        | inr lines ↦ lines_refused setting steps bytes fault lines (λ bound is. small lines.encoding lines.rest lines.head bound is) accepted
      ]
    ]

same_fault_after : (setting : SettingValue) (steps : ℕ) (encoding : Encoding) (rest : List ℕ) (a b : CertFault) → ((bound : ℕ) → steps ≡ suc bound → IsSmall (task_for setting encoding bound))
    → HasFaultAfter setting steps encoding rest a → HasFaultAfter setting steps encoding rest b → a ≡ b
same_fault_after setting zero encoding rest a b small first second = first.0 ∙ sym second.0
same_fault_after setting (suc bound) encoding rest a b small first second =
    is_err ℕ a b (one_answer (task_for setting encoding bound) rest (goal_literal setting encoding bound) (Err a) (Err b) (small bound refl)
    first.1 (fault_is_some a first.0) second.1 (fault_is_some b second.0))

same_fault_in_lines : (setting : SettingValue) (steps : ℕ) (bytes : List ℕ) (a b : CertFault) → AreSmall setting steps bytes → HasFaultInLines setting steps bytes a → HasFaultInLines setting steps bytes b → a ≡ b
same_fault_in_lines setting steps bytes a b small first second =
    let same = same_head bytes second.encoding first.encoding (asked steps) (asked steps) second.rest first.rest second.head first.head in
    let moved : HasFaultAfter setting steps first.encoding first.rest b =
    subst (λ (xs : List ℕ). HasFaultAfter setting steps first.encoding xs b) same.2 (subst (λ (e : Encoding). HasFaultAfter setting steps e second.rest b) same.0 second.is) in
    same_fault_after setting steps first.encoding first.rest a b (λ bound is. small first.encoding first.rest first.head bound is) first.is moved

-- bytes have one first fault
pub one_fault : (setting : SettingValue) (steps : ℕ) (bytes : List ℕ) (a b : CertFault) → AreSmall setting steps bytes → HasCertFault setting steps bytes a → HasCertFault setting steps bytes b → a ≡ b
one_fault setting steps bytes a b small (inl x) (inl y) = is_err (Head × ℕ) a b (one_head bytes (Err a) (Err b) x y)
one_fault setting steps bytes a b small (inl x) (inr (inl y)) = absurd (head_refused bytes y.1.encoding y.1.bound y.1.rest a y.1.head x)
one_fault setting steps bytes a b small (inl x) (inr (inr y)) = absurd (head_refused bytes y.encoding (asked steps) y.rest a y.head x)
one_fault setting steps bytes a b small (inr (inl x)) (inl y) = absurd (head_refused bytes x.1.encoding x.1.bound x.1.rest b x.1.head y)
one_fault setting steps bytes a b small (inr (inl x)) (inr (inl y)) = x.0 ∙ sym y.0
one_fault setting steps bytes a b small (inr (inl x)) (inr (inr y)) = absurd (asked_otherwise steps bytes y.encoding y.rest y.head x.1)
one_fault setting steps bytes a b small (inr (inr x)) (inl y) = absurd (head_refused bytes x.encoding (asked steps) x.rest b x.head y)
one_fault setting steps bytes a b small (inr (inr x)) (inr (inl y)) = absurd (asked_otherwise steps bytes x.encoding x.rest x.head y.1)
one_fault setting steps bytes a b small (inr (inr x)) (inr (inr y)) = same_fault_in_lines setting steps bytes a b small x y

-- bytes have one judgement
pub one_judged : (setting : SettingValue) (steps : ℕ) (bytes : List ℕ) (answer other : Result (Unit {0}) VerifyFault) → AreSmall setting steps bytes → Judged setting steps bytes answer
    → Judged setting steps bytes other → other ≡ answer
one_judged setting steps bytes (Ok done) (Ok other) small x y = refl
one_judged setting steps bytes (Ok done) (Err (Cert fault)) small x y = absurd (not_refused setting steps bytes fault small x y)
one_judged setting steps bytes (Ok done) (Err (Check fault)) small x y = absurd y
one_judged setting steps bytes (Ok done) (Err (TooLarge what count)) small x y = absurd y
one_judged setting steps bytes (Ok done) (Err Failed) small x y = absurd y
one_judged setting steps bytes (Ok done) (Err NoMemoryHere) small x y = absurd y
one_judged setting steps bytes (Err (Cert fault)) (Ok done) small x y = absurd (not_refused setting steps bytes fault small y x)
one_judged setting steps bytes (Err (Cert fault)) (Err (Cert other)) small x y = ap (λ (it : CertFault). Err (Cert it)) (one_fault setting steps bytes other fault small y x)
one_judged setting steps bytes (Err (Cert fault)) (Err (Check other)) small x y = absurd y
one_judged setting steps bytes (Err (Cert fault)) (Err (TooLarge what count)) small x y = absurd y
one_judged setting steps bytes (Err (Cert fault)) (Err Failed) small x y = absurd y
one_judged setting steps bytes (Err (Cert fault)) (Err NoMemoryHere) small x y = absurd y
one_judged setting steps bytes (Err (Check fault)) other small x y = absurd x
one_judged setting steps bytes (Err (TooLarge what count)) other small x y = absurd x
one_judged setting steps bytes (Err Failed) other small x y = absurd x
one_judged setting steps bytes (Err NoMemoryHere) other small x y = absurd x
