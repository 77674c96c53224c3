-- What is read of the three lines of a head.
use Rattle.std.specs.Prelude.{◌≡◌, ℕ, ◌<◌, ◌≤◌, ◌^◌, ◌⊎◌, List, ◌++◌, length, Result, Ok, Err}
use Rattle.sat_base.specs.declared.certificate.Head.{Head}
use Rattle.sat_base.specs.declared.certificate.Bound.{Bound}
use Rattle.sat_base.specs.declared.certificate.Bound.TheVariants.{Refutes, Nothing, Open}
use Rattle.sat_base.specs.Certificate.{title_text, encoding_text, bound_text, head_text}
use Rattle.derivation_check.specs.declared.cert_fault.CertFault.{CertFault}
use Rattle.derivation_check.specs.declared.cert_fault.CertFault.TheVariants.{Line}
use Rattle.derivation_check.specs.declared.head.TheConstants.{ENCODINGS}

-- an encoding that is known
abbrev pub IsEncoding : ℕ → Type 0
IsEncoding encoding = (1 ≤ encoding) × (encoding ≤ ENCODINGS)

-- its number fits 32 bits
abbrev pub IsBound : Bound → Type 0
IsBound (Refutes bound) = bound < 2 ^ 32
IsBound Nothing = Unit {0}
IsBound (Open bound) = bound < 2 ^ 32

-- the bytes begin with no title
abbrev pub HasNoTitle : List ℕ → Type 0
HasNoTitle bytes = (rest : List ℕ) → bytes ≡ title_text ++ rest → ⊥

-- after the title comes no line of an encoding
pub record HasNoEncoding (bytes : List ℕ) : Type 0 where
  pub left : List ℕ
  pub title : bytes ≡ title_text ++ left
  pub none : (encoding : ℕ) (rest : List ℕ) →
      IsEncoding encoding → left ≡ encoding_text encoding ++ rest → ⊥

-- after the title and an encoding comes no line of a bound
pub record HasNoBound (bytes : List ℕ) : Type 0 where
  pub encoding : ℕ
  pub left : List ℕ
  pub known : IsEncoding encoding
  pub lines : bytes ≡ title_text ++ encoding_text encoding ++ left
  pub none : (bound : Bound) (rest : List ℕ) → IsBound bound → left ≡ bound_text bound ++ rest → ⊥

-- the bytes begin with the head, which has that length
pub record BeginsWith (bytes : List ℕ) (head : Head) (len : ℕ) : Type 0 where
  pub encoding : IsEncoding head.encoding
  pub bound : IsBound head.bound
  pub rest : List ℕ
  pub text : bytes ≡ head_text head ++ rest
  pub is_len : len ≡ length (head_text head)

-- What is read of bytes: the head that they begin with and its length, or the first line that doesn't have the
-- form. Reading takes no memory.
abbrev pub ReadsHead : List ℕ → Result (Head × ℕ) CertFault → Type 0
ReadsHead bytes (Ok found) = BeginsWith bytes found.0 found.1
ReadsHead bytes (Err (Line number)) =
    ((number ≡ 1) × HasNoTitle bytes)
    ⊎ (((number ≡ 2) × HasNoEncoding bytes) ⊎ ((number ≡ 3) × HasNoBound bytes))
ReadsHead bytes (Err fault) = ⊥
