-- Working notions of private functions: a certificate that is read piece by piece.
use Rattle.std.specs.Prelude.{◌≡◌, ◌≢◌, ◌⊎◌, ℕ, zero, suc, ◌+◌, ◌<◌, ◌≤◌, ◌^◌, IsTrue, List, [], ◌++◌, length, Some, None, Result, Ok, Err}
use Rattle.qc_base.specs.Shelf.{ShelfFacts, IsContent, OnlyReads}
use Rattle.sat_base.specs.Literal.{Literal, positive_of}
use Rattle.trap_parts.specs.Build.{IsTrap}
use Rattle.circuit_core.specs.Circuit.{IsCircuit}
use Rattle.step_rules.specs.Placement.{IsPlacement}
use Rattle.step_rules.specs.Setting.{SettingValue}
use Rattle.derivation_check.specs.declared.cert_fault.CertFault.{CertFault}
use Rattle.derivation_check.specs.declared.cert_fault.CertFault.TheVariants.{NoMemory as NoMemoryThere}
use Rattle.derivation_check.specs.Faults.{Task, HasFault, IsSmall as IsSmallTask}
use Rattle.derivation_check.specs.Progress.{Progress, WasFed}
use Rattle.step_vars.specs.declared.encoding.Encoding.{Encoding}
use Rattle.step_vars.specs.Encoding.{IsSmall, encoding_of, goal_literal}
use Rattle.step_vars.specs.Certifies.{Certifies}
use Rattle.verify_core.specs.declared.verification.TheConstants.{LIMIT}
use Rattle.verify_core.specs.declared.verify_fault.VerifyFault.{VerifyFault}
use Rattle.verify_core.specs.declared.verify_fault.VerifyFault.TheVariants.{Check, TooLarge, Failed, Cert, NoMemory}
use Rattle.verify_core.specs.Verifying.{KeepsCounts, JudgesCertificate, task_for}

-- what a certificate has to show: that no schedule that plays has fewer steps
pub record MinimumValue : Type 0 where
  pub setting : SettingValue
  pub steps : ℕ

-- the setting is sound and within the limits, with so many steps
pub record IsMinimum (minimum : MinimumValue) : Type 0 where
  pub trap : IsTrap minimum.setting.trap
  pub circuit : IsCircuit minimum.setting.circuit
  pub placement : IsPlacement minimum.setting.trap minimum.setting.circuit minimum.setting.placement
  pub small : IsSmall minimum.setting minimum.steps

-- the clauses of the parts before a time
abbrev pub encoding_before : SettingValue → Encoding → ℕ → List (List Literal)
encoding_before setting encoding zero = []
encoding_before setting encoding (suc last) = encoding_of setting encoding last

-- where the shelf's contents are known, the one of that name begins with the bytes
abbrev pub BeginsContent : ShelfFacts → List ℕ → List ℕ → Type 0
BeginsContent shelf name bytes =
    IsTrue shelf.known → (rest : List ℕ) × (shelf.contents name ≡ Some (bytes ++ rest))

-- the bytes are the whole content, or enough of it
abbrev pub IsEnough : ShelfFacts → List ℕ → ℕ → List ℕ → Type 0
IsEnough shelf name enough bytes = IsContent shelf name bytes ⊎ (enough ≤ length bytes)

-- The checker was fed these bytes, which come after a head in the content; the next ones begin at that place.
pub record IsFeeding (shelf : ShelfFacts) (name : List ℕ) (task : Task) (head bytes : List ℕ)
    (checker : Progress) (from : ℕ) : Type 0 where
  pub fed : WasFed task bytes checker
  pub no_fault : checker.stopped ≡ None
  pub at_place : from ≡ length head + length bytes
  pub limit : length head + task.limit ≡ LIMIT
  pub content : BeginsContent shelf name (head ++ bytes)

-- the checker was fed all bytes that are left of the content
pub record WasFedAll (shelf : ShelfFacts) (name : List ℕ) (task : Task) (head bytes : List ℕ)
    (checker : Progress) : Type 0 where
  pub more : List ℕ
  pub fed : WasFed task (bytes ++ more) checker
  pub no_fault : checker.stopped ≡ None
  pub content : IsContent shelf name (head ++ (bytes ++ more))

-- some more bytes of the content have a fault
pub record HasFaultLater (shelf : ShelfFacts) (name : List ℕ) (task : Task) (head bytes : List ℕ)
    (fault : CertFault) : Type 0 where
  pub more : List ℕ
  pub is : HasFault task (bytes ++ more) fault
  pub content : BeginsContent shelf name (head ++ (bytes ++ more))

-- the checker has the task of that bound and was fed nothing, and the goal is the bound's
pub record IsReady (setting : SettingValue) (encoding : Encoding) (bound : ℕ) (checker : Progress) (goal : ℕ)
    : Type 0 where
  pub fed : WasFed (task_for setting encoding bound) [] checker
  pub no_fault : checker.stopped ≡ None
  pub small : IsSmallTask (task_for setting encoding bound)
  pub is_goal : positive_of goal ≡ goal_literal setting encoding bound
  pub from_1 : 1 ≤ goal
  pub below : goal < 2 ^ 31

-- the shelf was read, and no count changed, unless it failed
pub record WasRead {T : Type 0} (answer : Result T VerifyFault) (old new : ShelfFacts) : Type 0 where
  pub reads : OnlyReads old new
  pub stays : KeepsCounts answer old new

-- what the bytes are as a certificate for so many steps, where a fault of the certificate is one of all faults
abbrev pub Judged : SettingValue → ℕ → List ℕ → Result (Unit {0}) VerifyFault → Type 0
Judged setting steps bytes (Ok done) = JudgesCertificate setting steps bytes (Ok done)
Judged setting steps bytes (Err (Cert fault)) = JudgesCertificate setting steps bytes (Err fault)
Judged setting steps bytes (Err fault) = ⊥

-- the same of the content of a shelf, and the content is nothing else
pub record JudgedContent (shelf : ShelfFacts) (name : List ℕ) (setting : SettingValue) (steps : ℕ)
    (answer : Result (Unit {0}) VerifyFault) : Type 0 where
  pub bytes : List ℕ
  pub content : IsContent shelf name bytes
  pub judged : Judged setting steps bytes answer
  pub only : (other : Result (Unit {0}) VerifyFault) → Judged setting steps bytes other → other ≡ answer

-- a failure of the shelf, and out of memory, say nothing of it
abbrev pub JudgedUnlessFailed : ShelfFacts → List ℕ → SettingValue → ℕ → Result (Unit {0}) VerifyFault
    → Type 0
JudgedUnlessFailed shelf name setting steps (Err Failed) = Unit {0}
JudgedUnlessFailed shelf name setting steps (Err NoMemory) = Unit {0}
JudgedUnlessFailed shelf name setting steps answer = JudgedContent shelf name setting steps answer

-- the same for what a certificate has to show
abbrev pub JudgedFor : ShelfFacts → List ℕ → MinimumValue → Result (Unit {0}) VerifyFault → Type 0
JudgedFor shelf name minimum answer = JudgedUnlessFailed shelf name minimum.setting minimum.steps answer

-- the shelf failed, or memory ran out
abbrev pub IsOfShelf : {T : Type 0} → Result T VerifyFault → Type 0
IsOfShelf (Ok done) = Unit {0}
IsOfShelf (Err Failed) = Unit {0}
IsOfShelf (Err NoMemory) = Unit {0}
IsOfShelf (Err fault) = ⊥

-- or it is a fault of the certificate
abbrev pub IsOfReading : {T : Type 0} → Result T VerifyFault → Type 0
IsOfReading (Err (Check fault)) = ⊥
IsOfReading (Err (TooLarge what count)) = ⊥
IsOfReading (Err (Cert fault)) = fault ≢ NoMemoryThere
IsOfReading answer = Unit {0}
