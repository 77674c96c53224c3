-- From the first bytes of a certificate to what is said of all of them.
use Rattle.std.proofs.Common.{◌≡◌, ◌≢◌, ℕ, ◌+◌, ◌<◌, ◌≤◌, List, [], ◌∷◌, ◌++◌, inl, inr, length, take, Ok, Err, refl, sym, ap, ◌∙◌, subst, arith, append_assoc, length-append}
use Rattle.std.specs.Prelude.{Result}
use Rattle.std.proofs.lemmas.Bool.{cases_lt}
use Rattle.std.proofs.lemmas.List.{append-nil}
use Rattle.std.proofs.Math.Seq.{take-append_seam}
use Rattle.qc_base.specs.Shelf.{ShelfFacts, IsContent}
use Rattle.sat_base.specs.declared.certificate.Head.{Head}
use Rattle.sat_base.specs.declared.certificate.Bound.{Bound}
use Rattle.sat_base.specs.declared.certificate.Bound.TheVariants.{Nothing}
use Rattle.sat_base.specs.Certificate.{head_text}
use Rattle.derivation_check.specs.declared.cert_fault.CertFault.{CertFault}
use Rattle.derivation_check.specs.declared.cert_fault.CertFault.TheVariants.{Line, NotRefuting}
use Rattle.derivation_check.specs.HeadFaults.{IsEncoding, IsBound, BeginsWith, ReadsHead}
use Rattle.step_rules.specs.Setting.{SettingValue}
use Rattle.step_vars.specs.declared.encoding.Encoding.{Encoding}
use Rattle.step_vars.specs.declared.encoding.Encoding.TheVariants.{Pairwise, Counter}
use Rattle.step_vars.specs.Certifies.{encoding_number, head_of, asked}
use Rattle.verify_core.specs.declared.verify_fault.VerifyFault.TheVariants.{Cert}
use Rattle.verify_core.specs.Verifying.{BeginsWithHead, AsksOtherwise, HasFaultInLines}
use Rattle.verify_core.specs.Reading.{BeginsContent, IsEnough, Judged, JudgedContent}
use Rattle.verify_core.proofs.Contents.{whole_content}
use Rattle.verify_core.proofs.Heads.{head_of_more, head_len}
use Rattle.verify_core.proofs.Certificates.{head_refused, asked_otherwise, small_by_none, one_judged}

-- ---- what the front says of the content

-- some content, with what is read of its front
pub record HasReading (shelf : ShelfFacts) (name front : List ℕ) : Type 0 where
  pub rest : List ℕ
  pub content : IsContent shelf name (front ++ rest)
  pub reads : (answer : Result (Head × ℕ) CertFault) → ReadsHead front answer → ReadsHead (front ++ rest) answer

pub has_reading : (shelf : ShelfFacts) (name front : List ℕ) → BeginsContent shelf name front → IsEnough shelf name 256 front → HasReading shelf name front
has_reading shelf name front begins enough =
    elim enough [
      | inl whole ↦ let same = sym (append-nil front) in record {
        rest = [];
        content = subst (IsContent shelf name) same whole;
        reads = λ answer reads. subst (λ (xs : List ℕ). ReadsHead xs answer) same reads;
      }
      | inr long ↦ let whole = whole_content shelf name front begins in record {
        rest = whole.0;
        content = whole.1;
        reads = λ answer reads. head_of_more front whole.0 answer long reads;
      }
    ]

-- ---- a fault of the head

pub head_judged : (shelf : ShelfFacts) (name : List ℕ) (setting : SettingValue) (steps : ℕ) (front : List ℕ) (fault : CertFault) → HasReading shelf name front → ReadsHead front (Err fault)
    → JudgedContent shelf name setting steps (Err (Cert fault))
head_judged shelf name setting steps front fault has reads =
    let bytes = front ++ has.rest in
    let refused = has.reads (Err fault) reads in
    let judged : Judged setting steps bytes (Err (Cert fault)) = inl refused in
    record {
      bytes = bytes;
      content = has.content;
      judged = judged;
      only = λ other. one_judged setting steps bytes (Err (Cert fault)) other (λ encoding rest begins. absurd (head_refused bytes encoding (asked steps) rest fault begins refused)) judged;
    }

-- ---- a head that was read

pub record IsHead (front : List ℕ) (encoding : Encoding) (bound : Bound) (len : ℕ) : Type 0 where
  pub small : IsBound bound
  pub left : List ℕ
  pub text : front ≡ head_text (head_of encoding bound) ++ left
  pub is_len : len ≡ length (head_text (head_of encoding bound))
  pub short : len ≤ 50

encoding_at : (number : ℕ) → IsEncoding number → (encoding : Encoding) → encoding_number encoding ≡ number → (head : Head) → head.encoding ≡ number → head ≡ head_of encoding head.bound
encoding_at number known encoding is head e = ap (λ (n : ℕ). record { encoding = n; bound = head.bound }) (e ∙ sym is)

pub head_is : (front : List ℕ) (head : Head) (len : ℕ) (encoding : Encoding) → BeginsWith front head len → encoding_number encoding ≡ head.encoding → IsHead front encoding head.bound len
head_is front head len encoding has is =
    let same : head ≡ head_of encoding head.bound = encoding_at head.encoding has.encoding encoding is head refl in
    let most = head_len head has.encoding has.bound in
    let size = has.is_len in
    record {
      small = has.bound;
      left = has.rest;
      text = has.text ∙ ap (λ (h : Head). head_text h ++ has.rest) same;
      is_len = has.is_len ∙ ap (λ (h : Head). length (head_text h)) same;
      short = omega (arith, most, size);
    }

pub some_encoding : (number : ℕ) → IsEncoding number → (encoding : Encoding) × (encoding_number encoding ≡ number)
some_encoding number known =
    let low = known.0 in
    let high = known.1 in
    elim (cases_lt number 2) [ inl less ↦ (Pairwise, omega arith) | inr more ↦ (Counter, omega arith) ]

pub any_head : (front : List ℕ) (head : Head) (len : ℕ) → BeginsWith front head len → (encoding : Encoding) × IsHead front encoding head.bound len
any_head front head len has = let found = some_encoding head.encoding has.encoding in (found.0, head_is front head len found.0 has found.1)

-- the content begins with it
pub begins_head : (front rest : List ℕ) (encoding : Encoding) (bound : Bound) (len : ℕ) → (has : IsHead front encoding bound len) → BeginsWithHead (front ++ rest) encoding bound (has.left ++ rest)
begins_head front rest encoding bound len has = record {
  small = has.small;
  text = ap (λ (xs : List ℕ). xs ++ rest) has.text ∙ append_assoc (head_text (head_of encoding bound)) has.left rest;
}

pub front_head : (front : List ℕ) (encoding : Encoding) (bound : Bound) (len : ℕ) → IsHead front encoding bound len → take len front ≡ head_text (head_of encoding bound)
front_head front encoding bound len has =
    let head = head_text (head_of encoding bound) in
    ap (λ (n : ℕ). take n front) has.is_len ∙ ap (λ (xs : List ℕ). take (length head) xs) has.text ∙ take-append_seam head has.left

pub front_within : (front : List ℕ) (encoding : Encoding) (bound : Bound) (len : ℕ) → (has : IsHead front encoding bound len) → len + length has.left ≡ length front
front_within front encoding bound len has =
    let size = has.is_len in
    let whole = ap length has.text in
    omega (arith, size, whole, length-append (head_text (head_of encoding bound)) has.left)

-- ---- a head that says something else

otherwise : (front rest : List ℕ) (encoding : Encoding) (bound : Bound) (len steps : ℕ) → IsHead front encoding bound len → bound ≢ asked steps → AsksOtherwise steps (front ++ rest)
otherwise front rest encoding bound len steps has other = record { encoding = encoding; bound = bound; rest = has.left ++ rest; head = begins_head front rest encoding bound len has; other = other }

pub otherwise_judged : (shelf : ShelfFacts) (name : List ℕ) (setting : SettingValue) (steps : ℕ) (front : List ℕ) (encoding : Encoding) (bound : Bound) (len : ℕ) → HasReading shelf name front
    → IsHead front encoding bound len → bound ≢ asked steps → JudgedContent shelf name setting steps (Err (Cert NotRefuting))
otherwise_judged shelf name setting steps front encoding bound len has head other =
    let bytes = front ++ has.rest in
    let asks = otherwise front has.rest encoding bound len steps head other in
    let judged : Judged setting steps bytes (Err (Cert NotRefuting)) = inr (inl (refl, asks)) in
    record {
      bytes = bytes;
      content = has.content;
      judged = judged;
      only = λ answer. one_judged setting steps bytes (Err (Cert NotRefuting)) answer (λ code rest begins. absurd (asked_otherwise steps bytes code rest begins asks)) judged;
    }

-- ---- nothing to refute

fault_after : (setting : SettingValue) (front rest : List ℕ) (encoding : Encoding) (len : ℕ) → IsHead front encoding Nothing len → len < length front → HasFaultInLines setting 0 (front ++ rest) (Line 4)
fault_after setting front rest encoding len has more =
    let within = front_within front encoding Nothing len has in
    record {
      encoding = encoding;
      rest = has.left ++ rest;
      head = begins_head front rest encoding Nothing len has;
      is = (refl, omega (arith, more, within, length-append has.left rest));
    }

pub more_judged : (shelf : ShelfFacts) (name : List ℕ) (setting : SettingValue) (front : List ℕ) (encoding : Encoding) (len : ℕ) → HasReading shelf name front → IsHead front encoding Nothing len
    → len < length front → JudgedContent shelf name setting 0 (Err (Cert (Line 4)))
more_judged shelf name setting front encoding len has head more =
    let bytes = front ++ has.rest in
    let judged : Judged setting 0 bytes (Err (Cert (Line 4))) = inr (inr (fault_after setting front has.rest encoding len head more)) in
    record {
      bytes = bytes;
      content = has.content;
      judged = judged;
      only = λ other. one_judged setting 0 bytes (Err (Cert (Line 4))) other (small_by_none setting bytes) judged;
    }

empty_by : (xs : List ℕ) → length xs ≡ 0 → xs ≡ []
empty_by [] e = refl
empty_by (x ∷ xs) e = absurd (omega (arith, e))

pub nothing_judged : (shelf : ShelfFacts) (name : List ℕ) (setting : SettingValue) (front : List ℕ) (encoding : Encoding) (len : ℕ) → IsEnough shelf name 256 front → IsHead front encoding Nothing len
    → length front ≤ len → JudgedContent shelf name setting 0 (Ok tt)
nothing_judged shelf name setting front encoding len enough head all =
    let within = front_within front encoding Nothing len head in
    let short = head.short in
    let none : head.left ≡ [] = empty_by head.left (omega (arith, all, within)) in
    let text : front ≡ head_text (head_of encoding Nothing) =
    head.text ∙ ap (λ (xs : List ℕ). head_text (head_of encoding Nothing) ++ xs) none ∙ append-nil (head_text (head_of encoding Nothing)) in
    let judged : Judged setting 0 front (Ok tt) = record { certifies = record { encoding = encoding; text = text }; within = omega (arith, all, short) } in
    elim enough [
      | inl whole ↦ record {
        bytes = front;
        content = whole;
        judged = judged;
        only = λ other. one_judged setting 0 front (Ok tt) other (small_by_none setting front) judged;
      }
      | inr long ↦ absurd (omega (arith, all, short, long))
    ]
