-- What is said of a content after further reads of its shelf.
use Rattle.std.proofs.Common.{◌≡◌, ℕ, ◌<◌, ◌≤◌, List, inl, inr, length, Ok, Err, sym, ap, ◌∙◌, subst}
use Rattle.std.specs.Prelude.{Result, IsErrAnd, IsTrue}
use Rattle.std.proofs.lemmas.Result.{err_from_is_err_and}
use Rattle.qc_base.specs.Shelf.{ShelfFacts, IsContent, OnlyReads, SameCounts}
use Rattle.qc_base.proofs.Reading.{reads_on, counts_on}
use Rattle.sat_base.specs.declared.certificate.Bound.{Bound}
use Rattle.sat_base.specs.declared.certificate.Bound.TheVariants.{Nothing}
use Rattle.step_rules.specs.Setting.{SettingValue}
use Rattle.step_vars.specs.declared.encoding.Encoding.{Encoding}
use Rattle.step_vars.specs.Certifies.{asked}
use Rattle.derivation_check.specs.declared.cert_fault.CertFault.TheVariants.{Line}
use Rattle.verify_core.specs.declared.verify_fault.VerifyFault.{VerifyFault}
use Rattle.verify_core.specs.declared.verify_fault.VerifyFault.TheVariants.{Check, TooLarge, Failed, Cert, NoMemory}
use Rattle.verify_core.specs.Verifying.{KeepsCounts}
use Rattle.verify_core.specs.Reading.{BeginsContent, IsEnough, IsOfShelf, WasRead, JudgedContent, JudgedUnlessFailed}
use Rattle.verify_core.proofs.Fronts.{IsHead, HasReading, more_judged, nothing_judged}

-- ---- faults of the shelf alone

by_shelf : (shelf : ShelfFacts) (name : List ℕ) (setting : SettingValue) (steps : ℕ) (fault : VerifyFault) → IsOfShelf {T = Unit {0}} (Err fault) → JudgedUnlessFailed shelf name setting steps (Err fault)
by_shelf shelf name setting steps (Check fault) of = absurd of
by_shelf shelf name setting steps (TooLarge what count) of = absurd of
by_shelf shelf name setting steps Failed of = tt
by_shelf shelf name setting steps (Cert fault) of = absurd of
by_shelf shelf name setting steps NoMemory of = tt

pub judged_of_shelf : (shelf : ShelfFacts) (name : List ℕ) (setting : SettingValue) (steps : ℕ) (answer : Result (Unit {0}) VerifyFault) (fault : VerifyFault) → IsErrAnd answer (λ it. it ≡ fault)
    → IsOfShelf {T = Unit {0}} (Err fault) → JudgedUnlessFailed shelf name setting steps answer
judged_of_shelf shelf name setting steps answer fault handed of =
    let found = err_from_is_err_and answer handed in
    subst (λ (it : Result (Unit {0}) VerifyFault). JudgedUnlessFailed shelf name setting steps it) (sym (found.1 ∙ ap (λ (it : VerifyFault). Err it) found.2)) (by_shelf shelf name setting steps fault of)

-- ---- after reads

pub begins_after : (old new : ShelfFacts) (name bytes : List ℕ) → OnlyReads old new → BeginsContent old name bytes → BeginsContent new name bytes
begins_after old new name bytes reads begins = λ known.
    let found = begins (subst IsTrue reads.as_known known) in
    (found.0, ap (λ c. c name) reads.same ∙ found.1)

content_after : (old new : ShelfFacts) (name bytes : List ℕ) → OnlyReads old new → IsContent old name bytes → IsContent new name bytes
content_after old new name bytes reads content = λ known. ap (λ c. c name) reads.same ∙ content (subst IsTrue reads.as_known known)

pub enough_after : (old new : ShelfFacts) (name : List ℕ) (enough : ℕ) (bytes : List ℕ) → OnlyReads old new → IsEnough old name enough bytes → IsEnough new name enough bytes
enough_after old new name enough bytes reads (inl content) = inl (content_after old new name bytes reads content)
enough_after old new name enough bytes reads (inr long) = inr long

pub content_before : (old new : ShelfFacts) (name bytes : List ℕ) → OnlyReads old new → IsContent new name bytes → IsContent old name bytes
content_before old new name bytes reads content = λ known. ap (λ c. c name) (sym reads.same) ∙ content (subst IsTrue (sym reads.as_known) known)

pub judged_before : (old new : ShelfFacts) (name : List ℕ) (setting : SettingValue) (steps : ℕ) (answer : Result (Unit {0}) VerifyFault) → OnlyReads old new → JudgedUnlessFailed new name setting steps answer
    → JudgedUnlessFailed old name setting steps answer
judged_before old new name setting steps (Ok done) reads judged = record { bytes = judged.bytes; content = content_before old new name judged.bytes reads judged.content; judged = judged.judged; only = judged.only }
judged_before old new name setting steps (Err (Check fault)) reads judged = absurd judged.judged
judged_before old new name setting steps (Err (TooLarge what count)) reads judged = absurd judged.judged
judged_before old new name setting steps (Err Failed) reads judged = tt
judged_before old new name setting steps (Err (Cert fault)) reads judged = record { bytes = judged.bytes; content = content_before old new name judged.bytes reads judged.content; judged = judged.judged; only = judged.only }
judged_before old new name setting steps (Err NoMemory) reads judged = tt

keeps_on : {T : Type 0} → (answer : Result T VerifyFault) (a b c : ShelfFacts) → SameCounts a b → KeepsCounts answer b c → KeepsCounts answer a c
keeps_on (Ok done) a b c same keeps = counts_on a b c same keeps
keeps_on (Err (Check fault)) a b c same keeps = counts_on a b c same keeps
keeps_on (Err (TooLarge what count)) a b c same keeps = counts_on a b c same keeps
keeps_on (Err Failed) a b c same keeps = tt
keeps_on (Err (Cert fault)) a b c same keeps = counts_on a b c same keeps
keeps_on (Err NoMemory) a b c same keeps = counts_on a b c same keeps

pub read_on : (answer : Result (Unit {0}) VerifyFault) (a b c : ShelfFacts) → OnlyReads a b → SameCounts a b → WasRead answer b c → WasRead answer a c
read_on answer a b c reads same read = record { reads = reads_on a b c reads read.reads; stays = keeps_on answer a b c same read.stays }

-- ---- heads that ask for what is to be refuted

nothing_is : (front : List ℕ) (encoding : Encoding) (bound : Bound) (len steps : ℕ) → IsHead front encoding bound len → bound ≡ asked steps → steps ≡ 0 → IsHead front encoding Nothing len
nothing_is front encoding bound len steps has is none = subst (λ (it : Bound). IsHead front encoding it len) (is ∙ ap asked none) has

pub more_said : (shelf : ShelfFacts) (name : List ℕ) (setting : SettingValue) (front : List ℕ) (encoding : Encoding) (bound : Bound) (len steps : ℕ) → HasReading shelf name front → IsHead front encoding bound len
    → bound ≡ asked steps → steps ≡ 0 → len < length front → JudgedContent shelf name setting steps (Err (Cert (Line 4)))
more_said shelf name setting front encoding bound len steps has head is none more =
    subst (λ (n : ℕ). JudgedContent shelf name setting n (Err (Cert (Line 4)))) (sym none) (more_judged shelf name setting front encoding len has (nothing_is front encoding bound len steps head is none) more)

pub nothing_said : (shelf : ShelfFacts) (name : List ℕ) (setting : SettingValue) (front : List ℕ) (encoding : Encoding) (bound : Bound) (len steps : ℕ) → IsEnough shelf name 256 front → IsHead front encoding bound len
    → bound ≡ asked steps → steps ≡ 0 → length front ≤ len → JudgedContent shelf name setting steps (Ok tt)
nothing_said shelf name setting front encoding bound len steps enough head is none all =
    subst (λ (n : ℕ). JudgedContent shelf name setting n (Ok tt)) (sym none) (nothing_judged shelf name setting front encoding len enough (nothing_is front encoding bound len steps head is none) all)

-- ---- what a fault that is handed on says of the shelf

keeps_fault : (T : Type 0) (fault : VerifyFault) (old new : ShelfFacts) → KeepsCounts {T = T} (Err fault) old new → KeepsCounts {T = Unit {0}} (Err fault) old new
keeps_fault T (Check fault) old new keeps = keeps
keeps_fault T (TooLarge what count) old new keeps = keeps
keeps_fault T Failed old new keeps = tt
keeps_fault T (Cert fault) old new keeps = keeps
keeps_fault T NoMemory old new keeps = keeps

pub read_handed : {T : Type 0} → (answer : Result (Unit {0}) VerifyFault) (fault : VerifyFault) (old new : ShelfFacts) → IsErrAnd answer (λ it. it ≡ fault) → WasRead {T = T} (Err fault) old new → WasRead answer old new
read_handed {T} answer fault old new handed read =
    let found = err_from_is_err_and answer handed in
    record {
      reads = read.reads;
      stays = subst (λ (it : Result (Unit {0}) VerifyFault). KeepsCounts it old new) (sym (found.1 ∙ ap (λ (it : VerifyFault). Err it) found.2)) (keeps_fault T fault old new read.stays);
    }
