-- How the text of a schedule and a certificate are judged together.
use Rattle.std.specs.Prelude.{◌≡◌, ◌≢◌, ℕ, zero, suc, ◌-◌, ◌≤◌, ◌⊎◌, nat_lt, if◌then◌else◌, List, ◌++◌, length, Option, None, Some, Result, Ok, Err}
use Rattle.qc_base.specs.Shelf.{ShelfFacts, IsContent, SameCounts}
use Rattle.sat_base.specs.declared.certificate.Bound.{Bound}
use Rattle.sat_base.specs.Certificate.{head_text}
use Rattle.circuit_core.specs.Circuit.{CircuitValue}
use Rattle.trap_parts.specs.Parts.{TrapValue}
use Rattle.trap_model.specs.Trap.{place_count}
use Rattle.step_rules.specs.Setting.{SettingValue, setting_of}
use Rattle.step_rules.specs.Play.{IsLeast}
use Rattle.derivation_check.specs.declared.cert_fault.CertFault.{CertFault}
use Rattle.derivation_check.specs.declared.cert_fault.CertFault.TheVariants.{Line, NotRefuting, NoMemory as NoMemoryThere}
use Rattle.derivation_check.specs.HeadFaults.{IsBound, ReadsHead}
use Rattle.derivation_check.specs.Faults.{Task, Answers}
use Rattle.derivation_check.specs.Progress.{task_of}
use Rattle.step_vars.specs.declared.encoding.Encoding.{Encoding}
use Rattle.step_vars.specs.Lists.{ion_count}
use Rattle.step_vars.specs.Encoding.{encoding_of, goal_literal}
use Rattle.step_vars.specs.Certifies.{vars_up_to, head_of, asked, Certifies}
use Rattle.verify_core.specs.declared.judge.Checked.{Checked}
use Rattle.verify_core.specs.declared.verification.TheConstants.{LIMIT}
use Rattle.verify_core.specs.declared.verify_fault.Count.{Count}
use Rattle.verify_core.specs.declared.verify_fault.Count.TheVariants.{Ions, Places, Ops, Steps}
use Rattle.verify_core.specs.declared.verify_fault.VerifyFault.{VerifyFault}
use Rattle.verify_core.specs.declared.verify_fault.VerifyFault.TheVariants.{Check, TooLarge, Failed, Cert, NoMemory}
use Rattle.verify_core.specs.Judging.{IsTextOf, IsLegalText, Judges}

-- ---- the limits

-- the count where it is above the limit, else what comes next
abbrev pub above : Count → ℕ → ℕ → Option VerifyFault → Option VerifyFault
above what limit count next = if nat_lt limit count then Some (TooLarge what count) else next

-- the first of the four counts that is above its limit: ions, places, operations with barriers, and steps
abbrev pub too_large : SettingValue → ℕ → Option VerifyFault
too_large setting steps =
    above Ions 16 (ion_count setting) (
    above Places 48 (place_count setting.trap) (
    above Ops 200 (length setting.circuit.ops) (
    above Steps 48 steps None)))

-- ---- the certificate

-- the bytes begin with a head, and this is the rest
pub record BeginsWithHead (bytes : List ℕ) (encoding : Encoding) (bound : Bound) (rest : List ℕ)
    : Type 0 where
  pub small : IsBound bound
  pub text : bytes ≡ head_text (head_of encoding bound) ++ rest

-- the head says something else than what is to be refuted
pub record AsksOtherwise (steps : ℕ) (bytes : List ℕ) : Type 0 where
  pub encoding : Encoding
  pub bound : Bound
  pub rest : List ℕ
  pub head : BeginsWithHead bytes encoding bound rest
  pub other : bound ≢ asked steps

-- how the bytes after such a head are checked: the clauses, their variables, and how many bytes there may be
abbrev pub task_for : SettingValue → Encoding → ℕ → Task
task_for setting encoding bound =
    task_of (encoding_of setting encoding bound) (vars_up_to setting encoding bound)
    (LIMIT - length (head_text (head_of encoding (asked (suc bound)))))

-- the first fault of the bytes after the head: after `refutes nothing` any byte is one
abbrev pub HasFaultAfter : SettingValue → ℕ → Encoding → List ℕ → CertFault → Type 0
HasFaultAfter setting zero encoding rest fault = (fault ≡ Line 4) × (1 ≤ length rest)
HasFaultAfter setting (suc bound) encoding rest fault =
    (fault ≢ NoMemoryThere)
    × Answers (task_for setting encoding bound) rest (goal_literal setting encoding bound) (Err fault)

-- a head that says what is to be refuted, and then a fault
pub record HasFaultInLines (setting : SettingValue) (steps : ℕ) (bytes : List ℕ) (fault : CertFault)
    : Type 0 where
  pub encoding : Encoding
  pub rest : List ℕ
  pub head : BeginsWithHead bytes encoding (asked steps) rest
  pub is : HasFaultAfter setting steps encoding rest fault

-- the first fault of the bytes as a certificate for so many steps: of the head, then of what it says, then of
-- the lines
abbrev pub HasCertFault : SettingValue → ℕ → List ℕ → CertFault → Type 0
HasCertFault setting steps bytes fault =
    ReadsHead bytes (Err fault)
    ⊎ (((fault ≡ NotRefuting) × AsksOtherwise steps bytes)
    ⊎ HasFaultInLines setting steps bytes fault)

-- the bytes certify that no schedule has fewer than so many steps, and are no more than the limit
pub record IsAcceptedCertificate (setting : SettingValue) (steps : ℕ) (bytes : List ℕ) : Type 0 where
  pub certifies : Certifies setting bytes steps
  pub within : length bytes ≤ LIMIT

-- what the bytes are as a certificate for so many steps: one that is accepted, or their first fault
abbrev pub JudgesCertificate : SettingValue → ℕ → List ℕ → Result (Unit {0}) CertFault → Type 0
JudgesCertificate setting steps bytes (Ok done) = IsAcceptedCertificate setting steps bytes
JudgesCertificate setting steps bytes (Err fault) = HasCertFault setting steps bytes fault

-- ---- both together

-- the text is that of a legal schedule, whose counts are within the limits
pub record IsWithinLimits (trap : TrapValue) (circuit : CircuitValue) (text : List ℕ) (checked : Checked)
    : Type 0 where
  pub legal : IsLegalText trap circuit text checked
  pub small : too_large (setting_of trap circuit checked.placement) (length checked.schedule) ≡ None

-- and the bytes are a certificate that none has fewer steps
pub record IsVerified (trap : TrapValue) (circuit : CircuitValue) (text bytes : List ℕ) (steps : ℕ)
    : Type 0 where
  pub checked : Checked
  pub schedule : IsWithinLimits trap circuit text checked
  pub long : length checked.schedule ≡ steps
  pub is : JudgesCertificate (setting_of trap circuit checked.placement) steps bytes (Ok tt)

-- and the bytes are no such certificate
pub record IsUncertified (trap : TrapValue) (circuit : CircuitValue) (text bytes : List ℕ) (fault : CertFault)
    : Type 0 where
  pub checked : Checked
  pub schedule : IsWithinLimits trap circuit text checked
  pub is : JudgesCertificate (setting_of trap circuit checked.placement) (length checked.schedule) bytes
      (Err fault)

-- the text is that of a legal schedule, with a count above its limit
pub record IsTooLarge (trap : TrapValue) (circuit : CircuitValue) (text : List ℕ) (fault : VerifyFault)
    : Type 0 where
  pub checked : Checked
  pub legal : IsLegalText trap circuit text checked
  pub is : too_large (setting_of trap circuit checked.placement) (length checked.schedule) ≡ Some fault

-- What the text and the bytes of a certificate are: verified with so many steps, or why not.
abbrev pub Verifies : TrapValue → CircuitValue → List ℕ → List ℕ → Result ℕ VerifyFault → Type 0
Verifies trap circuit text bytes (Ok steps) = IsVerified trap circuit text bytes steps
Verifies trap circuit text bytes (Err (Check fault)) = Judges trap circuit text (Err fault)
Verifies trap circuit text bytes (Err (TooLarge what count)) =
    IsTooLarge trap circuit text (TooLarge what count)
Verifies trap circuit text bytes (Err (Cert fault)) = IsUncertified trap circuit text bytes fault
Verifies trap circuit text bytes (Err Failed) = ⊥
Verifies trap circuit text bytes (Err NoMemory) = ⊥

-- what is answered of the shelf's bytes under a name
pub record VerifiesContent (shelf : ShelfFacts) (name : List ℕ) (trap : TrapValue) (circuit : CircuitValue)
    (text : List ℕ) (answer : Result ℕ VerifyFault) : Type 0 where
  pub bytes : List ℕ
  pub content : IsContent shelf name bytes
  pub verifies : Verifies trap circuit text bytes answer

-- the text is that of a legal schedule within the limits
abbrev pub HasLegalText : TrapValue → CircuitValue → List ℕ → Type 0
HasLegalText trap circuit text = (checked : Checked) × IsWithinLimits trap circuit text checked

-- What is answered of a text and of a shelf: a fault of the text or of its counts comes before the certificate
-- is read, and before the shelf fails. Out of memory says nothing of them.
abbrev pub VerifiesUnlessFailed : ShelfFacts → List ℕ → TrapValue → CircuitValue → List ℕ
    → Result ℕ VerifyFault → Type 0
VerifiesUnlessFailed shelf name trap circuit text (Ok steps) =
    VerifiesContent shelf name trap circuit text (Ok steps)
VerifiesUnlessFailed shelf name trap circuit text (Err (Cert fault)) =
    VerifiesContent shelf name trap circuit text (Err (Cert fault))
VerifiesUnlessFailed shelf name trap circuit text (Err Failed) = HasLegalText trap circuit text
VerifiesUnlessFailed shelf name trap circuit text (Err NoMemory) = Unit {0}
VerifiesUnlessFailed shelf name trap circuit text (Err (Check fault)) =
    (bytes : List ℕ) → Verifies trap circuit text bytes (Err (Check fault))
VerifiesUnlessFailed shelf name trap circuit text (Err (TooLarge what count)) =
    (bytes : List ℕ) → Verifies trap circuit text bytes (Err (TooLarge what count))

-- the text is that of a schedule of so many steps, and none that plays from its placement has fewer
pub record IsLeastText (trap : TrapValue) (circuit : CircuitValue) (text : List ℕ) (steps : ℕ)
    : Type 0 where
  pub checked : Checked
  pub is_text : IsTextOf trap circuit text checked.placement checked.schedule
  pub least : IsLeast (setting_of trap circuit checked.placement) checked.schedule
  pub long : length checked.schedule ≡ steps

-- the counts of faults are what they were, unless the shelf failed
abbrev pub KeepsCounts : {T : Type 0} → Result T VerifyFault → ShelfFacts → ShelfFacts → Type 0
KeepsCounts (Err Failed) old new = Unit {0}
KeepsCounts answer old new = SameCounts old new

-- the answer is this one, unless the shelf failed or memory ran out
abbrev pub IsAnswerUnlessFailed : Result ℕ VerifyFault → Result ℕ VerifyFault → Type 0
IsAnswerUnlessFailed said (Err Failed) = Unit {0}
IsAnswerUnlessFailed said (Err NoMemory) = Unit {0}
IsAnswerUnlessFailed said answer = answer ≡ said
