-- The head of a content is that of its first bytes, where there are enough.
use Rattle.std.proofs.Common.{◌≡◌, ℕ, ◌<◌, ◌≤◌, ◌^◌, List, ◌++◌, inl, inr, length, take, drop, Ok, Err, sym, ap, ◌∙◌, arith, append_assoc, length-append}
use Rattle.std.specs.Prelude.{Result, codes, decimal}
use Rattle.std.proofs.lemmas.List.{take-append-le, take-append-drop}
use Rattle.std.proofs.lemmas.Fmt.{length-decimal-le}
use Rattle.std.proofs.Math.Seq.{take-append_seam}
use Rattle.sat_base.specs.declared.certificate.Head.{Head}
use Rattle.sat_base.specs.declared.certificate.Bound.{Bound}
use Rattle.sat_base.specs.declared.certificate.Bound.TheVariants.{Refutes, Nothing, Open}
use Rattle.sat_base.specs.Certificate.{title_text, encoding_text, bound_text, head_text}
use Rattle.derivation_check.specs.declared.cert_fault.CertFault.{CertFault}
use Rattle.derivation_check.specs.declared.cert_fault.CertFault.TheVariants.{Line, Bad, NotRefuting, Endless, NoMemory}
use Rattle.derivation_check.specs.HeadFaults.{IsEncoding, IsBound, HasNoTitle, HasNoEncoding, HasNoBound, BeginsWith, ReadsHead}

-- what two spellings of bytes begin with
begins_both : (a b c d : List ℕ) → a ++ b ≡ c ++ d → length c ≤ length a → a ≡ c ++ drop (length c) a
begins_both a b c d same short =
    let front : take (length c) a ≡ c = sym (take-append-le (length c) a b short) ∙ ap (λ (xs : List ℕ). take (length c) xs) same ∙ take-append_seam c d in
    sym (take-append-drop (length c) a) ∙ ap (λ (xs : List ℕ). xs ++ drop (length c) a) front

-- ---- lengths

encoding_len : (encoding : ℕ) → IsEncoding encoding → length (encoding_text encoding) ≤ 11
encoding_len encoding known =
    let few = known.1 in
    let digits : length (decimal encoding) ≤ 1 = length-decimal-le 1 encoding (omega arith) (omega arith) (omega arith) in
    omega (arith, digits, length-append (codes "encoding " ++ decimal encoding) (codes "\n"), length-append (codes "encoding ") (decimal encoding))

number_len : (n : ℕ) → n < 2 ^ 32 → length (decimal n) ≤ 10
number_len n small = length-decimal-le 10 n (omega arith) (omega arith) (omega arith)

bound_len : (bound : Bound) → IsBound bound → length (bound_text bound) ≤ 20
bound_len (Refutes n) small = omega (arith, number_len n small, length-append (codes "refutes " ++ decimal n) (codes "\n"), length-append (codes "refutes ") (decimal n))
bound_len Nothing small = omega arith
bound_len (Open n) small = omega (arith, number_len n small, length-append (codes "open " ++ decimal n) (codes "\n"), length-append (codes "open ") (decimal n))

pub head_len : (head : Head) → IsEncoding head.encoding → IsBound head.bound → length (head_text head) ≤ 50
head_len head known small =
    omega (arith, encoding_len head.encoding known, bound_len head.bound small, length-append (title_text ++ encoding_text head.encoding) (bound_text head.bound), length-append title_text (encoding_text head.encoding))

-- ---- the head of more bytes

no_title : (front rest : List ℕ) → 256 ≤ length front → HasNoTitle front → HasNoTitle (front ++ rest)
no_title front rest long none = λ after same. none (drop (length title_text) front) (begins_both front rest title_text after same (omega arith))

no_encoding : (front rest : List ℕ) → 256 ≤ length front → HasNoEncoding front → HasNoEncoding (front ++ rest)
no_encoding front rest long has =
    let size = ap length has.title in
    let parts = length-append title_text has.left in
    record {
      left = has.left ++ rest;
      title = ap (λ (xs : List ℕ). xs ++ rest) has.title ∙ append_assoc title_text has.left rest;
      none = λ encoding after known same.
          has.none encoding (drop (length (encoding_text encoding)) has.left) known
          (begins_both has.left rest (encoding_text encoding) after same (omega (arith, size, parts, long, encoding_len encoding known)));
    }

no_bound : (front rest : List ℕ) → 256 ≤ length front → HasNoBound front → HasNoBound (front ++ rest)
no_bound front rest long has =
    let size = ap length has.lines in
    let parts = length-append (title_text ++ encoding_text has.encoding) has.left in
    let heads = length-append title_text (encoding_text has.encoding) in
    record {
      encoding = has.encoding;
      left = has.left ++ rest;
      known = has.known;
      lines = ap (λ (xs : List ℕ). xs ++ rest) has.lines ∙ append_assoc (title_text ++ encoding_text has.encoding) has.left rest;
      none = λ bound after small same.
          has.none bound (drop (length (bound_text bound)) has.left) small
          (begins_both has.left rest (bound_text bound) after same (omega (arith, size, parts, heads, long, encoding_len has.encoding has.known, bound_len bound small)));
    }

begins_more : (front rest : List ℕ) (head : Head) (len : ℕ) → BeginsWith front head len → BeginsWith (front ++ rest) head len
begins_more front rest head len has = record {
  encoding = has.encoding;
  bound = has.bound;
  rest = has.rest ++ rest;
  text = ap (λ (xs : List ℕ). xs ++ rest) has.text ∙ append_assoc (head_text head) has.rest rest;
  is_len = has.is_len;
}

pub head_of_more : (front rest : List ℕ) (answer : Result (Head × ℕ) CertFault) → 256 ≤ length front → ReadsHead front answer → ReadsHead (front ++ rest) answer
head_of_more front rest (Ok found) long has = begins_more front rest found.0 found.1 has
head_of_more front rest (Err (Line number)) long has =
    elim has [
      | inl title ↦ inl (title.0, no_title front rest long title.1)
      | inr later ↦ elim later [
        | inl encoding ↦ inr (inl (encoding.0, no_encoding front rest long encoding.1))
        | inr bound ↦ inr (inr (bound.0, no_bound front rest long bound.1))
      ]
    ]
head_of_more front rest (Err (Bad number)) long has = absurd has
head_of_more front rest (Err NotRefuting) long has = absurd has
head_of_more front rest (Err Endless) long has = absurd has
head_of_more front rest (Err NoMemory) long has = absurd has
