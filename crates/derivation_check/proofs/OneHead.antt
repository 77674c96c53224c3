-- The head that bytes begin with is read in one way.
use Rattle.std.proofs.Common.{◌≡◌, ℕ, ◌<◌, ◌^◌, ◌⊎◌, inl, inr, List, ◌∷◌, ◌++◌, length, refl, sym, ap, ◌∙◌, arith, append_assoc}
use Rattle.std.specs.Prelude.{decimal, codes, Result, Ok, Err}
use Rattle.std.proofs.lemmas.List.{append_cancel_left}
use Rattle.std.proofs.lemmas.Fmt.{decimal_injective}
use Rattle.qc_base.proofs.Words.{word_before, free_decimal}
use Rattle.sat_base.specs.declared.certificate.Head.{Head}
use Rattle.sat_base.specs.declared.certificate.Bound.{Bound}
use Rattle.sat_base.specs.declared.certificate.Bound.TheVariants.{Refutes, Nothing, Open}
use Rattle.sat_base.specs.Certificate.{title_text, encoding_text, bound_text, head_text}
use Rattle.derivation_check.specs.declared.cert_fault.CertFault.{CertFault}
use Rattle.derivation_check.specs.declared.cert_fault.CertFault.TheVariants.{Line, Bad, NotRefuting, Endless, NoMemory}
use Rattle.derivation_check.specs.HeadFaults.{IsEncoding, IsBound, HasNoTitle, HasNoEncoding, HasNoBound, BeginsWith, ReadsHead}
use Rattle.derivation_check.proofs.Bounds.{not_letter, first_differs, refutes_parts, open_parts}

-- ---- one number, one encoding, one bound

same_number : (a b : ℕ) (x y : List ℕ) → a < 2 ^ 64 → b < 2 ^ 64 → decimal a ++ 10 ∷ x ≡ decimal b ++ 10 ∷ y → (a ≡ b) × (x ≡ y)
same_number a b x y small also e =
    let words = word_before 10 (decimal a) (decimal b) x y (free_decimal 10 a (inl (omega arith)) small) (free_decimal 10 b (inl (omega arith)) also) e in
    (decimal_injective a b small also words.0, words.1)

encoding_parts : (encoding : ℕ) (rest : List ℕ) → encoding_text encoding ++ rest ≡ codes "encoding " ++ (decimal encoding ++ 10 ∷ rest)
encoding_parts encoding rest = append_assoc (codes "encoding " ++ decimal encoding) (codes "\n") rest ∙ append_assoc (codes "encoding ") (decimal encoding) (codes "\n" ++ rest)

same_encoding : (a b : ℕ) (x y : List ℕ) → IsEncoding a → IsEncoding b → encoding_text a ++ x ≡ encoding_text b ++ y → (a ≡ b) × (x ≡ y)
same_encoding a b x y known also e =
    let low = known.1 in let high = also.1 in
    same_number a b x y (omega arith) (omega arith) (append_cancel_left (codes "encoding ") (decimal a ++ 10 ∷ x) (decimal b ++ 10 ∷ y) (sym (encoding_parts a x) ∙ e ∙ encoding_parts b y))

not_nothing : (bound : ℕ) (x y : List ℕ) → bound < 2 ^ 32 → bound_text Nothing ++ x ≡ bound_text (Refutes bound) ++ y → ⊥
not_nothing bound x y small e =
    not_letter bound 110 (10 ∷ y) (codes "othing\n" ++ x) (omega arith) (omega arith) (append_cancel_left (codes "refutes ") (codes "nothing\n" ++ x) (decimal bound ++ 10 ∷ y) (e ∙ refutes_parts bound y))

not_open : (bound : ℕ) (x y : List ℕ) → 114 ∷ x ≡ bound_text (Open bound) ++ y → ⊥
not_open bound x y e = first_differs 111 114 _ _ (omega arith) (sym (open_parts bound y) ∙ sym e)

same_bound : (a b : Bound) (x y : List ℕ) → IsBound a → IsBound b → bound_text a ++ x ≡ bound_text b ++ y → (a ≡ b) × (x ≡ y)
same_bound Nothing Nothing x y small also e = (refl, append_cancel_left (codes "refutes nothing\n") x y e)
same_bound Nothing (Refutes b) x y small also e = absurd (not_nothing b x y also e)
same_bound Nothing (Open b) x y small also e = absurd (not_open b (codes "efutes nothing\n" ++ x) y e)
same_bound (Refutes a) Nothing x y small also e = absurd (not_nothing a y x small (sym e))
same_bound (Refutes a) (Refutes b) x y small also e =
    let same = same_number a b x y (omega arith) (omega arith) (append_cancel_left (codes "refutes ") (decimal a ++ 10 ∷ x) (decimal b ++ 10 ∷ y) (sym (refutes_parts a x) ∙ e ∙ refutes_parts b y)) in
    (ap (λ (n : ℕ). Refutes n) same.0, same.1)
same_bound (Refutes a) (Open b) x y small also e = absurd (not_open b (codes "efutes " ++ (decimal a ++ 10 ∷ x)) y (sym (refutes_parts a x) ∙ e))
same_bound (Open a) Nothing x y small also e = absurd (not_open a (codes "efutes nothing\n" ++ y) x (sym e))
same_bound (Open a) (Refutes b) x y small also e = absurd (not_open a (codes "efutes " ++ (decimal b ++ 10 ∷ y)) x (sym (refutes_parts b y) ∙ sym e))
same_bound (Open a) (Open b) x y small also e =
    let same = same_number a b x y (omega arith) (omega arith) (append_cancel_left (codes "open ") (decimal a ++ 10 ∷ x) (decimal b ++ 10 ∷ y) (sym (open_parts a x) ∙ e ∙ open_parts b y)) in
    (ap (λ (n : ℕ). Open n) same.0, same.1)

-- ---- how far a head is read

-- the bytes begin with the title and the line of an encoding
record HasTwoLines (bytes : List ℕ) : Type 0 where
  pub encoding : ℕ
  pub known : IsEncoding encoding
  pub left : List ℕ
  pub lines : bytes ≡ title_text ++ (encoding_text encoding ++ left)

-- what is read, by how far it comes
abbrev Reaches : List ℕ → Result (Head × ℕ) CertFault → Type 0
Reaches bytes answer =
    ((answer ≡ Err (Line 1)) × HasNoTitle bytes)
    ⊎ (((answer ≡ Err (Line 2)) × HasNoEncoding bytes)
    ⊎ (((answer ≡ Err (Line 3)) × HasNoBound bytes)
    ⊎ ((head : Head) × (len : ℕ) × (answer ≡ Ok (head, len)) × BeginsWith bytes head len)))

reaches : (bytes : List ℕ) (answer : Result (Head × ℕ) CertFault) → ReadsHead bytes answer → Reaches bytes answer
reaches bytes (Ok found) h = inr (inr (inr (found.0, found.1, refl, h)))
reaches bytes (Err (Line number)) (inl h) = inl (ap (λ (n : ℕ). Err (Line n)) h.0, h.1)
reaches bytes (Err (Line number)) (inr (inl h)) = inr (inl (ap (λ (n : ℕ). Err (Line n)) h.0, h.1))
reaches bytes (Err (Line number)) (inr (inr h)) = inr (inr (inl (ap (λ (n : ℕ). Err (Line n)) h.0, h.1)))
reaches bytes (Err (Bad number)) h = absurd h
reaches bytes (Err NotRefuting) h = absurd h
reaches bytes (Err Endless) h = absurd h
reaches bytes (Err NoMemory) h = absurd h

three_lines : (head : Head) (rest : List ℕ) → head_text head ++ rest ≡ title_text ++ (encoding_text head.encoding ++ (bound_text head.bound ++ rest))
three_lines head rest = append_assoc (title_text ++ encoding_text head.encoding) (bound_text head.bound) rest ∙ append_assoc title_text (encoding_text head.encoding) (bound_text head.bound ++ rest)

two_of_no_bound : (bytes : List ℕ) → HasNoBound bytes → HasTwoLines bytes
two_of_no_bound bytes h = record { encoding = h.encoding; known = h.known; left = h.left; lines = h.lines ∙ append_assoc title_text (encoding_text h.encoding) h.left }

two_of_head : (bytes : List ℕ) (head : Head) (len : ℕ) → BeginsWith bytes head len → HasTwoLines bytes
two_of_head bytes head len h = record { encoding = head.encoding; known = h.encoding; left = bound_text head.bound ++ h.rest; lines = h.text ∙ three_lines head h.rest }

not_two : (bytes : List ℕ) → HasNoEncoding bytes → HasTwoLines bytes → ⊥
not_two bytes h two = h.none two.encoding two.left two.known (append_cancel_left title_text h.left (encoding_text two.encoding ++ two.left) (sym h.title ∙ two.lines))

not_head : (bytes : List ℕ) (head : Head) (len : ℕ) → HasNoBound bytes → BeginsWith bytes head len → ⊥
not_head bytes head len h begins =
    let after = append_cancel_left title_text (encoding_text h.encoding ++ h.left) (encoding_text head.encoding ++ (bound_text head.bound ++ begins.rest))
    (sym (h.lines ∙ append_assoc title_text (encoding_text h.encoding) h.left) ∙ begins.text ∙ three_lines head begins.rest) in
    h.none head.bound begins.rest begins.bound (same_encoding h.encoding head.encoding h.left (bound_text head.bound ++ begins.rest) h.known begins.encoding after).1

same_head : (bytes : List ℕ) (a b : Head) (m n : ℕ) → BeginsWith bytes a m → BeginsWith bytes b n → ◌≡◌ {A = Head × ℕ} (a, m) (b, n)
same_head bytes a b m n x y =
    let after = append_cancel_left title_text (encoding_text a.encoding ++ (bound_text a.bound ++ x.rest)) (encoding_text b.encoding ++ (bound_text b.bound ++ y.rest)) (sym (three_lines a x.rest) ∙ sym x.text ∙ y.text ∙ three_lines b y.rest) in
    let encoding = same_encoding a.encoding b.encoding (bound_text a.bound ++ x.rest) (bound_text b.bound ++ y.rest) x.encoding y.encoding after in
    let bound = same_bound a.bound b.bound x.rest y.rest x.bound y.bound encoding.1 in
    let head : a ≡ b = λ i. record { encoding = encoding.0 i; bound = bound.0 i } in
    let len : m ≡ n = x.is_len ∙ ap (λ (head : Head). length (head_text head)) head ∙ sym y.is_len in
    λ i. (head i, len i)

one_reach : (bytes : List ℕ) (a b : Result (Head × ℕ) CertFault) → Reaches bytes a → Reaches bytes b → a ≡ b
one_reach bytes a b (inl x) (inl y) = x.0 ∙ sym y.0
one_reach bytes a b (inl x) (inr (inl y)) = absurd (x.1 y.1.left y.1.title)
one_reach bytes a b (inl x) (inr (inr (inl y))) = let two = two_of_no_bound bytes y.1 in absurd (x.1 (encoding_text two.encoding ++ two.left) two.lines)
one_reach bytes a b (inl x) (inr (inr (inr (head, len, is, y)))) = let two = two_of_head bytes head len y in absurd (x.1 (encoding_text two.encoding ++ two.left) two.lines)
one_reach bytes a b (inr (inl x)) (inl y) = absurd (y.1 x.1.left x.1.title)
one_reach bytes a b (inr (inl x)) (inr (inl y)) = x.0 ∙ sym y.0
one_reach bytes a b (inr (inl x)) (inr (inr (inl y))) = absurd (not_two bytes x.1 (two_of_no_bound bytes y.1))
one_reach bytes a b (inr (inl x)) (inr (inr (inr (head, len, is, y)))) = absurd (not_two bytes x.1 (two_of_head bytes head len y))
one_reach bytes a b (inr (inr (inl x))) (inl y) = let two = two_of_no_bound bytes x.1 in absurd (y.1 (encoding_text two.encoding ++ two.left) two.lines)
one_reach bytes a b (inr (inr (inl x))) (inr (inl y)) = absurd (not_two bytes y.1 (two_of_no_bound bytes x.1))
one_reach bytes a b (inr (inr (inl x))) (inr (inr (inl y))) = x.0 ∙ sym y.0
one_reach bytes a b (inr (inr (inl x))) (inr (inr (inr (head, len, is, y)))) = absurd (not_head bytes head len x.1 y)
one_reach bytes a b (inr (inr (inr (head, len, is, x)))) (inl y) = let two = two_of_head bytes head len x in absurd (y.1 (encoding_text two.encoding ++ two.left) two.lines)
one_reach bytes a b (inr (inr (inr (head, len, is, x)))) (inr (inl y)) = absurd (not_two bytes y.1 (two_of_head bytes head len x))
one_reach bytes a b (inr (inr (inr (head, len, is, x)))) (inr (inr (inl y))) = absurd (not_head bytes head len y.1 x)
one_reach bytes a b (inr (inr (inr (head, len, is, x)))) (inr (inr (inr (other, more, also, y)))) = is ∙ ap (λ (found : Head × ℕ). Ok found) (same_head bytes head other len more x y) ∙ sym also

pub one_head : (bytes : List ℕ) (answer other : Result (Head × ℕ) CertFault) → ReadsHead bytes answer → ReadsHead bytes other → answer ≡ other
one_head bytes answer other x y = one_reach bytes answer other (reaches bytes answer x) (reaches bytes other y)
