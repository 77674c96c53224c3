-- What verify answers, case by case.
use Rattle.std.proofs.Common.{◌≡◌, ℕ, Bool, true, false, cond, List, ◌⊎◌, inl, inr, length, Some, None, Ok, Err, refl, sym, ap, ◌∙◌, subst, arith}
use Rattle.std.specs.Prelude.{Option, Result, IsErrAnd, IsTrue}
use Rattle.std.proofs.lemmas.Result.{err_from_is_err_and}
use Rattle.std.proofs.Math.Dec.{ltb}
use Rattle.qc_base.specs.Shelf.{ShelfFacts, OnlyReads}
use Rattle.circuit_core.specs.Circuit.{CircuitValue}
use Rattle.trap_parts.specs.Parts.{TrapValue}
use Rattle.trap_model.specs.Trap.{place_count}
use Rattle.step_rules.specs.Setting.{SettingValue, setting_of}
use Rattle.step_vars.specs.Lists.{ion_count}
use Rattle.step_vars.specs.Certifies.{Certifies}
use Rattle.verify_core.specs.declared.judge.Checked.{Checked}
use Rattle.verify_core.specs.declared.fault.CheckFault.{CheckFault}
use Rattle.verify_core.specs.declared.fault.CheckFault.TheVariants as checks
use Rattle.verify_core.specs.declared.verify_fault.Count.{Count}
use Rattle.verify_core.specs.declared.verify_fault.Count.TheVariants.{Ions, Places, Ops, Steps}
use Rattle.verify_core.specs.declared.verify_fault.VerifyFault.{VerifyFault}
use Rattle.verify_core.specs.declared.verify_fault.VerifyFault.TheVariants.{Check, TooLarge, Failed, Cert, NoMemory}
use Rattle.verify_core.specs.Faults.{of_check}
use Rattle.verify_core.specs.Judging.{IsLegalText, Judges, JudgesUnlessMemory}
use Rattle.verify_core.specs.Verifying.{above, too_large, IsAcceptedCertificate, IsWithinLimits, IsVerified, Verifies, VerifiesUnlessFailed, IsAnswerUnlessFailed, KeepsCounts}
use Rattle.verify_core.specs.Reading.{Judged, JudgedContent, JudgedUnlessFailed}
use Rattle.verify_core.proofs.Contents.{one_content}

-- a text is judged in one way
abbrev pub OneJudgement : TrapValue → CircuitValue → List ℕ → Type 0
OneJudgement trap circuit text = (a b : Result Checked CheckFault) → Judges trap circuit text a → Judges trap circuit text b → a ≡ b

ok_is : (a b : Checked) → ◌≡◌ {A = Result Checked CheckFault} (Ok a) (Ok b) → a ≡ b
ok_is a b e = cc

fault_is : (a b : CheckFault) → ◌≡◌ {A = Result Checked CheckFault} (Err a) (Err b) → a ≡ b
fault_is a b e = cc

ok_err : (a : Checked) (fault : CheckFault) → ◌≡◌ {A = Result Checked CheckFault} (Ok a) (Err fault) → ⊥
ok_err a fault e = cc

some_is : (a b : VerifyFault) → Some a ≡ Some b → a ≡ b
some_is a b e = cc

none_some : (a : VerifyFault) → None ≡ Some a → ⊥
none_some a e = cc

-- ---- the text is not that of a legal schedule

pub check_answer : (shelf : ShelfFacts) (name : List ℕ) (trap : TrapValue) (circuit : CircuitValue) (text : List ℕ) (fault : CheckFault) → JudgesUnlessMemory trap circuit text (Err fault)
    → VerifiesUnlessFailed shelf name trap circuit text (Err (of_check fault))
check_answer shelf name trap circuit text (checks.Text line) judges = λ bytes. judges
check_answer shelf name trap circuit text (checks.Illegal fault) judges = λ bytes. judges
check_answer shelf name trap circuit text checks.NoMemory judges = tt

-- an answer that is the same
pub as_said : (said answer : Result ℕ VerifyFault) → answer ≡ said → IsAnswerUnlessFailed said answer
as_said said (Ok steps) e = e
as_said said (Err (Check fault)) e = e
as_said said (Err (TooLarge what count)) e = e
as_said said (Err Failed) e = tt
as_said said (Err (Cert fault)) e = e
as_said said (Err NoMemory) e = tt

-- a text that is judged otherwise is that of no legal schedule
bad_never : (trap : TrapValue) (circuit : CircuitValue) (text : List ℕ) (checked : Checked) (fault : CheckFault) → OneJudgement trap circuit text → Judges trap circuit text (Err fault)
    → IsLegalText trap circuit text checked → ⊥
bad_never trap circuit text checked fault one judges legal = ok_err checked fault (one (Ok checked) (Err fault) legal judges)

check_same : (trap : TrapValue) (circuit : CircuitValue) (text bytes : List ℕ) (said : Result ℕ VerifyFault) (fault : CheckFault) → OneJudgement trap circuit text → Judges trap circuit text (Err fault)
    → Verifies trap circuit text bytes said → Err (Check fault) ≡ said
check_same trap circuit text bytes (Ok steps) fault one judges has = absurd (bad_never trap circuit text has.checked fault one judges has.schedule.legal)
check_same trap circuit text bytes (Err (Check other)) fault one judges has = ap (λ (it : CheckFault). Err (Check it)) (fault_is fault other (one (Err fault) (Err other) judges has))
check_same trap circuit text bytes (Err (TooLarge what count)) fault one judges has = absurd (bad_never trap circuit text has.checked fault one judges has.legal)
check_same trap circuit text bytes (Err Failed) fault one judges has = absurd has
check_same trap circuit text bytes (Err (Cert other)) fault one judges has = absurd (bad_never trap circuit text has.checked fault one judges has.schedule.legal)
check_same trap circuit text bytes (Err NoMemory) fault one judges has = absurd has

pub check_exact : (trap : TrapValue) (circuit : CircuitValue) (text bytes : List ℕ) (said : Result ℕ VerifyFault) (fault : CheckFault) → OneJudgement trap circuit text → JudgesUnlessMemory trap circuit text (Err fault)
    → Verifies trap circuit text bytes said → IsAnswerUnlessFailed said (Err (of_check fault))
check_exact trap circuit text bytes said (checks.Text line) one judges has = as_said said (Err (Check (checks.Text line))) (check_same trap circuit text bytes said (checks.Text line) one judges has)
check_exact trap circuit text bytes said (checks.Illegal fault) one judges has = as_said said (Err (Check (checks.Illegal fault))) (check_same trap circuit text bytes said (checks.Illegal fault) one judges has)
check_exact trap circuit text bytes said checks.NoMemory one judges has = tt

-- ---- a count is above its limit

above_some : (b : Bool) (what : Count) (count : ℕ) (next : Option VerifyFault) (fault : VerifyFault) → cond b (Some (TooLarge what count)) next ≡ Some fault
    → ((what : Count) × ((count : ℕ) × (fault ≡ TooLarge what count))) ⊎ (next ≡ Some fault)
above_some true what count next fault e = inl (what, (count, sym (some_is (TooLarge what count) fault e)))
above_some false what count next fault e = inr e

is_too_large : (setting : SettingValue) (steps : ℕ) (fault : VerifyFault) → too_large setting steps ≡ Some fault → (what : Count) × ((count : ℕ) × (fault ≡ TooLarge what count))
is_too_large setting steps fault e =
    let ops = length setting.circuit.ops in
    elim (above_some (ltb 16 (ion_count setting)) Ions (ion_count setting) (above Places 48 (place_count setting.trap) (above Ops 200 ops (above Steps 48 steps None))) fault e) [
      | inl found ↦ found
      | inr next ↦ elim (above_some (ltb 48 (place_count setting.trap)) Places (place_count setting.trap) (above Ops 200 ops (above Steps 48 steps None)) fault next) [
        | inl found ↦ found
        | inr more ↦ elim (above_some (ltb 200 ops) Ops ops (above Steps 48 steps None) fault more) [
          | inl found ↦ found
          | inr last ↦ elim (above_some (ltb 48 steps) Steps steps None fault last) [ inl found ↦ found | inr none ↦ absurd (none_some fault none) ]
        ]
      ]
    ]

limited_answer : (shelf : ShelfFacts) (name : List ℕ) (trap : TrapValue) (circuit : CircuitValue) (text : List ℕ) (checked : Checked) (what : Count) (count : ℕ) → IsLegalText trap circuit text checked
    → too_large (setting_of trap circuit checked.placement) (length checked.schedule) ≡ Some (TooLarge what count) → VerifiesUnlessFailed shelf name trap circuit text (Err (TooLarge what count))
limited_answer shelf name trap circuit text checked what count legal e = λ bytes. record { checked = checked; legal = legal; is = e }

pub too_large_answer : (shelf : ShelfFacts) (name : List ℕ) (trap : TrapValue) (circuit : CircuitValue) (text : List ℕ) (checked : Checked) (fault : VerifyFault) → IsLegalText trap circuit text checked
    → too_large (setting_of trap circuit checked.placement) (length checked.schedule) ≡ Some fault → VerifiesUnlessFailed shelf name trap circuit text (Err fault)
too_large_answer shelf name trap circuit text checked fault legal e =
    let found = is_too_large (setting_of trap circuit checked.placement) (length checked.schedule) fault e in
    subst (λ (it : VerifyFault). VerifiesUnlessFailed shelf name trap circuit text (Err it)) (sym found.1.1)
    (limited_answer shelf name trap circuit text checked found.0 found.1.0 legal (e ∙ ap (λ (it : VerifyFault). Some it) found.1.1))

same_checked : (trap : TrapValue) (circuit : CircuitValue) (text : List ℕ) (a b : Checked) → OneJudgement trap circuit text → IsLegalText trap circuit text a → IsLegalText trap circuit text b → a ≡ b
same_checked trap circuit text a b one x y = ok_is a b (one (Ok a) (Ok b) x y)

same_excess : (trap : TrapValue) (circuit : CircuitValue) (text : List ℕ) (a b : Checked) → OneJudgement trap circuit text → IsLegalText trap circuit text a → IsLegalText trap circuit text b
    → too_large (setting_of trap circuit a.placement) (length a.schedule) ≡ too_large (setting_of trap circuit b.placement) (length b.schedule)
same_excess trap circuit text a b one x y =
    ap (λ (it : Checked). too_large (setting_of trap circuit it.placement) (length it.schedule)) (same_checked trap circuit text a b one x y)

excess_never : (trap : TrapValue) (circuit : CircuitValue) (text : List ℕ) (checked other : Checked) (fault : VerifyFault) → OneJudgement trap circuit text → IsLegalText trap circuit text checked
    → too_large (setting_of trap circuit checked.placement) (length checked.schedule) ≡ Some fault → IsWithinLimits trap circuit text other → ⊥
excess_never trap circuit text checked other fault one legal e within =
    none_some fault (sym within.small ∙ same_excess trap circuit text other checked one within.legal legal ∙ e)

too_large_same : (trap : TrapValue) (circuit : CircuitValue) (text bytes : List ℕ) (said : Result ℕ VerifyFault) (checked : Checked) (fault : VerifyFault) → OneJudgement trap circuit text
    → IsLegalText trap circuit text checked → too_large (setting_of trap circuit checked.placement) (length checked.schedule) ≡ Some fault → Verifies trap circuit text bytes said → Err fault ≡ said
too_large_same trap circuit text bytes (Ok steps) checked fault one legal e has = absurd (excess_never trap circuit text checked has.checked fault one legal e has.schedule)
too_large_same trap circuit text bytes (Err (Check other)) checked fault one legal e has = absurd (bad_never trap circuit text checked other one has legal)
too_large_same trap circuit text bytes (Err (TooLarge what count)) checked fault one legal e has =
    ap (λ (it : VerifyFault). Err it) (some_is fault (TooLarge what count) (sym e ∙ same_excess trap circuit text checked has.checked one legal has.legal ∙ has.is))
too_large_same trap circuit text bytes (Err Failed) checked fault one legal e has = absurd has
too_large_same trap circuit text bytes (Err (Cert other)) checked fault one legal e has = absurd (excess_never trap circuit text checked has.checked fault one legal e has.schedule)
too_large_same trap circuit text bytes (Err NoMemory) checked fault one legal e has = absurd has

pub too_large_exact : (trap : TrapValue) (circuit : CircuitValue) (text bytes : List ℕ) (said : Result ℕ VerifyFault) (checked : Checked) (fault : VerifyFault) → OneJudgement trap circuit text
    → IsLegalText trap circuit text checked → too_large (setting_of trap circuit checked.placement) (length checked.schedule) ≡ Some fault → Verifies trap circuit text bytes said
    → IsAnswerUnlessFailed said (Err fault)
too_large_exact trap circuit text bytes said checked fault one legal e has = as_said said (Err fault) (too_large_same trap circuit text bytes said checked fault one legal e has)

-- ---- the certificate

pub verified : (shelf : ShelfFacts) (name : List ℕ) (trap : TrapValue) (circuit : CircuitValue) (text : List ℕ) (checked : Checked) → IsWithinLimits trap circuit text checked
    → (judged : JudgedContent shelf name (setting_of trap circuit checked.placement) (length checked.schedule) (Ok tt)) → IsVerified trap circuit text judged.bytes (length checked.schedule)
verified shelf name trap circuit text checked within judged = record { checked = checked; schedule = within; long = refl; is = judged.judged }

pub ok_answer : (shelf : ShelfFacts) (name : List ℕ) (trap : TrapValue) (circuit : CircuitValue) (text : List ℕ) (checked : Checked) → IsWithinLimits trap circuit text checked
    → JudgedContent shelf name (setting_of trap circuit checked.placement) (length checked.schedule) (Ok tt) → VerifiesUnlessFailed shelf name trap circuit text (Ok (length checked.schedule))
ok_answer shelf name trap circuit text checked within judged =
    record { bytes = judged.bytes; content = judged.content; verifies = verified shelf name trap circuit text checked within judged }

pub fault_answer : (shelf : ShelfFacts) (name : List ℕ) (trap : TrapValue) (circuit : CircuitValue) (text : List ℕ) (checked : Checked) (fault : VerifyFault) → IsWithinLimits trap circuit text checked
    → JudgedUnlessFailed shelf name (setting_of trap circuit checked.placement) (length checked.schedule) (Err fault) → VerifiesUnlessFailed shelf name trap circuit text (Err fault)
fault_answer shelf name trap circuit text checked (Check fault) within judged = absurd judged.judged
fault_answer shelf name trap circuit text checked (TooLarge what count) within judged = absurd judged.judged
fault_answer shelf name trap circuit text checked Failed within judged = (checked, within)
fault_answer shelf name trap circuit text checked (Cert fault) within judged =
    record { bytes = judged.bytes; content = judged.content; verifies = record { checked = checked; schedule = within; is = judged.judged } }
fault_answer shelf name trap circuit text checked NoMemory within judged = tt

-- the answer where a certificate is judged so
abbrev answer_of : ℕ → Result (Unit {0}) VerifyFault → Result ℕ VerifyFault
answer_of steps (Ok done) = Ok steps
answer_of steps (Err fault) = Err fault

-- what the bytes are, as a certificate of the schedule that was read
record IsJudgedSo (trap : TrapValue) (circuit : CircuitValue) (checked : Checked) (bytes : List ℕ) (said : Result ℕ VerifyFault) : Type 0 where
  pub answer : Result (Unit {0}) VerifyFault
  pub judged : Judged (setting_of trap circuit checked.placement) (length checked.schedule) bytes answer
  pub is : said ≡ answer_of (length checked.schedule) answer

judged_so : (trap : TrapValue) (circuit : CircuitValue) (text bytes : List ℕ) (said : Result ℕ VerifyFault) (checked : Checked) → OneJudgement trap circuit text
    → IsWithinLimits trap circuit text checked → Verifies trap circuit text bytes said → IsJudgedSo trap circuit checked bytes said
judged_so trap circuit text bytes (Ok steps) checked one within has =
    let same = same_checked trap circuit text has.checked checked one has.schedule.legal within.legal in
    let own : IsJudgedSo trap circuit has.checked bytes (Ok steps) = record {
      answer = Ok tt;
      judged = subst (λ (n : ℕ). IsAcceptedCertificate (setting_of trap circuit has.checked.placement) n bytes) (sym has.long) has.is;
      is = ap (λ (n : ℕ). Ok n) (sym has.long);
    } in
    subst (λ (it : Checked). IsJudgedSo trap circuit it bytes (Ok steps)) same own
judged_so trap circuit text bytes (Err (Check fault)) checked one within has = absurd (bad_never trap circuit text checked fault one has within.legal)
judged_so trap circuit text bytes (Err (TooLarge what count)) checked one within has =
    absurd (excess_never trap circuit text has.checked checked (TooLarge what count) one has.legal has.is within)
judged_so trap circuit text bytes (Err Failed) checked one within has = absurd has
judged_so trap circuit text bytes (Err (Cert fault)) checked one within has =
    let same = same_checked trap circuit text has.checked checked one has.schedule.legal within.legal in
    let own : IsJudgedSo trap circuit has.checked bytes (Err (Cert fault)) = record { answer = Err (Cert fault); judged = has.is; is = refl } in
    subst (λ (it : Checked). IsJudgedSo trap circuit it bytes (Err (Cert fault))) same own
judged_so trap circuit text bytes (Err NoMemory) checked one within has = absurd has

judged_exact : (shelf : ShelfFacts) (name : List ℕ) (trap : TrapValue) (circuit : CircuitValue) (text bytes : List ℕ) (said : Result ℕ VerifyFault) (checked : Checked) (answer : Result (Unit {0}) VerifyFault)
    → OneJudgement trap circuit text → IsWithinLimits trap circuit text checked
    → JudgedContent shelf name (setting_of trap circuit checked.placement) (length checked.schedule) answer
    → IsTrue shelf.known → shelf.contents name ≡ Some bytes → Verifies trap circuit text bytes said → answer_of (length checked.schedule) answer ≡ said
judged_exact shelf name trap circuit text bytes said checked answer one within judged known content has =
    let setting = setting_of trap circuit checked.placement in
    let steps = length checked.schedule in
    let same = one_content shelf name judged.bytes bytes known content judged.content in
    let so = judged_so trap circuit text bytes said checked one within has in
    let other = judged.only so.answer (subst (λ (xs : List ℕ). Judged setting steps xs so.answer) (sym same) so.judged) in
    sym (so.is ∙ ap (answer_of steps) other)

pub ok_exact : (shelf : ShelfFacts) (name : List ℕ) (trap : TrapValue) (circuit : CircuitValue) (text bytes : List ℕ) (said : Result ℕ VerifyFault) (checked : Checked) → OneJudgement trap circuit text
    → IsWithinLimits trap circuit text checked → JudgedContent shelf name (setting_of trap circuit checked.placement) (length checked.schedule) (Ok tt)
    → IsTrue shelf.known → shelf.contents name ≡ Some bytes → Verifies trap circuit text bytes said → IsAnswerUnlessFailed said (Ok (length checked.schedule))
ok_exact shelf name trap circuit text bytes said checked one within judged known content has =
    judged_exact shelf name trap circuit text bytes said checked (Ok tt) one within judged known content has

pub fault_exact : (shelf : ShelfFacts) (name : List ℕ) (trap : TrapValue) (circuit : CircuitValue) (text bytes : List ℕ) (said : Result ℕ VerifyFault) (checked : Checked) (fault : VerifyFault)
    → OneJudgement trap circuit text → IsWithinLimits trap circuit text checked
    → JudgedUnlessFailed shelf name (setting_of trap circuit checked.placement) (length checked.schedule) (Err fault)
    → IsTrue shelf.known → shelf.contents name ≡ Some bytes → Verifies trap circuit text bytes said → IsAnswerUnlessFailed said (Err fault)
fault_exact shelf name trap circuit text bytes said checked (Check fault) one within judged known content has = absurd judged.judged
fault_exact shelf name trap circuit text bytes said checked (TooLarge what count) one within judged known content has = absurd judged.judged
fault_exact shelf name trap circuit text bytes said checked Failed one within judged known content has = tt
fault_exact shelf name trap circuit text bytes said checked (Cert fault) one within judged known content has =
    judged_exact shelf name trap circuit text bytes said checked (Err (Cert fault)) one within judged known content has
fault_exact shelf name trap circuit text bytes said checked NoMemory one within judged known content has = tt

-- ---- what the shelf did

pub same_shelf : (shelf : ShelfFacts) → OnlyReads shelf shelf
same_shelf shelf = record { as_known = refl; same = refl; later = λ name. omega arith; puts_later = λ name. omega arith }

pub keeps_same : {T : Type 0} → (answer : Result T VerifyFault) (shelf : ShelfFacts) → KeepsCounts answer shelf shelf
keeps_same (Ok done) shelf = record { reads = refl; puts = refl }
keeps_same (Err (Check fault)) shelf = record { reads = refl; puts = refl }
keeps_same (Err (TooLarge what count)) shelf = record { reads = refl; puts = refl }
keeps_same (Err Failed) shelf = tt
keeps_same (Err (Cert fault)) shelf = record { reads = refl; puts = refl }
keeps_same (Err NoMemory) shelf = record { reads = refl; puts = refl }

failed_is : (a b : VerifyFault) → ◌≡◌ {A = Result ℕ VerifyFault} (Err a) (Err b) → a ≡ b
failed_is a b e = cc

pub check_not_failed : (fault : CheckFault) → of_check fault ≡ Failed → ⊥
check_not_failed (checks.Text line) e = absurd (cc)
check_not_failed (checks.Illegal fault) e = absurd (cc)
check_not_failed checks.NoMemory e = absurd (cc)

not_failed : (what : Count) (count : ℕ) (fault : VerifyFault) → fault ≡ TooLarge what count → fault ≡ Failed → ⊥
not_failed what count fault e f = cc

pub too_large_not_failed : (setting : SettingValue) (steps : ℕ) (fault : VerifyFault) → too_large setting steps ≡ Some fault → ◌≡◌ {A = Result ℕ VerifyFault} (Err fault) (Err Failed) → ⊥
too_large_not_failed setting steps fault e failed =
    let found = is_too_large setting steps fault e in
    not_failed found.0 found.1.0 fault found.1.1 (failed_is fault Failed failed)

-- an answer that is handed on
pub handed_answer : (P : Result ℕ VerifyFault → Type 0) (answer : Result ℕ VerifyFault) (fault : VerifyFault) → IsErrAnd answer (λ it. it ≡ fault) → P (Err fault) → P answer
handed_answer P answer fault handed holds =
    let found = err_from_is_err_and answer handed in
    subst P (sym (found.1 ∙ ap (λ (it : VerifyFault). Err it) found.2)) holds
