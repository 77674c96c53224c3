-- The text of a line reads in one way.
use Rattle.std.proofs.Common.{◌≡◌, ℕ, zero, suc, ◌<◌, ◌≤◌, ◌^◌, Bool, true, false, inl, List, [], ◌∷◌, ◌++◌, Some, refl, sym, ◌∙◌, arith, append_assoc}
use Rattle.std.specs.Prelude.{decimal, codes}
use Rattle.std.proofs.lemmas.List.{append_cancel_left}
use Rattle.std.proofs.lemmas.Option.{none-some}
use Rattle.std.proofs.lemmas.Fmt.{decimal_injective}
use Rattle.qc_base.specs.Spelling.{IsFree}
use Rattle.qc_base.proofs.Words.{word_before, free_decimal}
use Rattle.sat_base.specs.Literal.{Literal}
use Rattle.sat_base.specs.Clauses.{EachVariable}
use Rattle.sat_base.specs.Derivation.{Line}
use Rattle.sat_base.specs.Certificate.{literal_text, literals_text, hints_text, line_text, HasForm}
use Rattle.certificate_lines.specs.Items.{sign_text, literal_word, hint_word, AreHints}
use Rattle.certificate_lines.proofs.Spelled.{begins_above, literal_parts, end_of_literals, end_of_hints}

-- ---- a line feed ends a line, and none is before

pub IsFree-append : (xs ys : List ℕ) → IsFree 10 xs → IsFree 10 ys → IsFree 10 (xs ++ ys)
IsFree-append [] ys fx fy k d h = fy k d h
IsFree-append (x ∷ xs) ys fx fy zero d h = fx 0 d (omega arith)
IsFree-append (x ∷ xs) ys fx fy (suc k) d h = IsFree-append xs ys (λ k d h. fx (suc k) d (omega arith)) fy k d (omega arith)

free_cons : (byte : ℕ) (bytes : List ℕ) → (byte ≡ 10 → ⊥) → IsFree 10 bytes → IsFree 10 (byte ∷ bytes)
free_cons byte bytes other free zero d h = other
free_cons byte bytes other free (suc k) d h = free k d (omega arith)

free_nil : IsFree 10 []
free_nil k d h = absurd (omega arith)

free_space : IsFree 10 (codes " ")
free_space = free_cons 32 [] (λ e. omega arith) free_nil

free_zero : IsFree 10 (codes "0")
free_zero = free_cons 48 [] (λ e. omega arith) free_nil

free_zero_space : IsFree 10 (codes "0 ")
free_zero_space = free_cons 48 (codes " ") (λ e. omega arith) free_space

free_sign : (positive : Bool) → IsFree 10 (sign_text positive)
free_sign true = free_nil
free_sign false = free_cons 45 [] (λ e. omega arith) free_nil

free_number : (number : ℕ) → number < 2 ^ 64 → IsFree 10 (decimal number)
free_number number small = free_decimal 10 number (inl (omega arith)) small

-- the variables are those of so many
abbrev Within : ℕ → List Literal → Type 0
Within vars clause = EachVariable (λ var. (1 ≤ var) × (var ≤ vars)) clause

free_literals : (vars : ℕ) (clause : List Literal) → vars < 2 ^ 31 → Within vars clause → IsFree 10 (literals_text clause)
free_literals vars [] few within = free_nil
free_literals vars (literal ∷ clause) few within =
    let high = within.0.1 in
    let text = IsFree-append (sign_text literal.positive) (decimal literal.var) (free_sign literal.positive) (free_number literal.var (omega arith)) in
    IsFree-append (literal_text literal ++ codes " ") (literals_text clause) (IsFree-append (literal_text literal) (codes " ") text free_space) (free_literals vars clause few within.1)

free_hints : (number : ℕ) (hints : List ℕ) → number < 2 ^ 64 → AreHints number hints → IsFree 10 (hints_text hints)
free_hints number [] small are = free_nil
free_hints number (hint ∷ hints) small are =
    let low = are 0 0 (omega arith) in
    let below = low.1 in
    IsFree-append (decimal hint ++ codes " ") (hints_text hints) (IsFree-append (decimal hint) (codes " ") (free_number hint (omega arith)) free_space)
    (free_hints number hints small (λ k d h. are (suc k) d (omega arith)))

-- a line without its line feed
abbrev pub word_of : ℕ → Line → List ℕ
word_of number line = decimal number ++ codes " " ++ literals_text line.clause ++ codes "0 " ++ hints_text line.hints ++ codes "0"

pub line_is_word : (number : ℕ) (line : Line) → line_text number line ≡ word_of number line ++ 10 ∷ []
line_is_word number line = sym (append_assoc (decimal number ++ codes " " ++ literals_text line.clause ++ codes "0 " ++ hints_text line.hints) (codes "0") (10 ∷ []))

pub free_word : (vars number : ℕ) (line : Line) → vars < 2 ^ 31 → number < 2 ^ 64 → HasForm vars number line → IsFree 10 (word_of number line)
free_word vars number line few small form =
    let first = IsFree-append (decimal number) (codes " ") (free_number number small) free_space in
    let second = IsFree-append (decimal number ++ codes " ") (literals_text line.clause) first (free_literals vars line.clause few form.within) in
    let third = IsFree-append (decimal number ++ codes " " ++ literals_text line.clause) (codes "0 ") second free_zero_space in
    let fourth = IsFree-append (decimal number ++ codes " " ++ literals_text line.clause ++ codes "0 ") (hints_text line.hints) third (free_hints number line.hints small form.hints) in
    IsFree-append (decimal number ++ codes " " ++ literals_text line.clause ++ codes "0 " ++ hints_text line.hints) (codes "0") fourth free_zero

-- ---- one number, one literal

pub same_number : (a b : ℕ) (x y : List ℕ) → a < 2 ^ 64 → b < 2 ^ 64 → decimal a ++ 32 ∷ x ≡ decimal b ++ 32 ∷ y → (a ≡ b) × (x ≡ y)
same_number a b x y small also e =
    let words = word_before 32 (decimal a) (decimal b) x y (free_decimal 32 a (inl (omega arith)) small) (free_decimal 32 b (inl (omega arith)) also) e in
    (decimal_injective a b small also words.0, words.1)

same_signed : (p q : Bool) (a b : ℕ) (x y : List ℕ) → 0 < a → 0 < b → a < 2 ^ 64 → b < 2 ^ 64 → sign_text p ++ (decimal a ++ 32 ∷ x) ≡ sign_text q ++ (decimal b ++ 32 ∷ y) → (p ≡ q) × ((a ≡ b) × (x ≡ y))
same_signed true true a b x y above over small also e = (refl, same_number a b x y small also e)
same_signed false false a b x y above over small also e = (refl, same_number a b x y small also (append_cancel_left (codes "-") (decimal a ++ 32 ∷ x) (decimal b ++ 32 ∷ y) e))
same_signed true false a b x y above over small also e = absurd (let h = begins_above a 45 (32 ∷ x) (decimal b ++ 32 ∷ y) above small e in omega arith)
same_signed false true a b x y above over small also e = absurd (let h = begins_above b 45 (32 ∷ y) (decimal a ++ 32 ∷ x) over also (sym e) in omega arith)

same_literal : (a b : Literal) (x y : List ℕ) → 0 < a.var → 0 < b.var → a.var < 2 ^ 64 → b.var < 2 ^ 64 → literal_word (Some a) ++ x ≡ literal_word (Some b) ++ y → (a ≡ b) × (x ≡ y)
same_literal a b x y above over small also e =
    let same = same_signed a.positive b.positive a.var b.var x y above over small also (sym (literal_parts a x) ∙ e ∙ literal_parts b y) in
    (λ i. record { var = same.1.0 i; positive = same.0 i }, same.1.1)

-- ---- one clause, one list of hints

one_more_literal : (literal : Literal) (clause : List Literal) (x : List ℕ) → literals_text (literal ∷ clause) ++ x ≡ literal_word (Some literal) ++ (literals_text clause ++ x)
one_more_literal literal clause x = append_assoc (literal_word (Some literal)) (literals_text clause) x

pub same_clause : (vars : ℕ) (a b : List Literal) (x y : List ℕ) → vars < 2 ^ 31 → Within vars a → Within vars b → literals_text a ++ (codes "0 " ++ x) ≡ literals_text b ++ (codes "0 " ++ y) → (a ≡ b) × (x ≡ y)
same_clause vars [] [] x y few within also e = (refl, append_cancel_left (codes "0 ") x y e)
same_clause vars [] (m ∷ b) x y few within also e =
    absurd (none-some m (end_of_literals vars (Some m) (codes "0 " ++ x) x (literals_text b ++ (codes "0 " ++ y)) few refl (let low = also.0.0 in (omega arith, also.0.1)) (e ∙ one_more_literal m b (codes "0 " ++ y))).0)
same_clause vars (l ∷ a) [] x y few within also e =
    absurd (none-some l (end_of_literals vars (Some l) (codes "0 " ++ y) y (literals_text a ++ (codes "0 " ++ x)) few refl (let low = within.0.0 in (omega arith, within.0.1)) (sym e ∙ one_more_literal l a (codes "0 " ++ x))).0)
same_clause vars (l ∷ a) (m ∷ b) x y few within also e =
    let low = within.0.0 in let high = within.0.1 in let under = also.0.0 in let top = also.0.1 in
    let first = same_literal l m (literals_text a ++ (codes "0 " ++ x)) (literals_text b ++ (codes "0 " ++ y)) (omega arith) (omega arith) (omega arith) (omega arith) (sym (one_more_literal l a (codes "0 " ++ x)) ∙ e ∙ one_more_literal m b (codes "0 " ++ y)) in
    let rest = same_clause vars a b x y few within.1 also.1 first.1 in
    (λ i. first.0 i ∷ rest.0 i, rest.1)

one_more_hint : (hint : ℕ) (hints x : List ℕ) → hints_text (hint ∷ hints) ++ x ≡ hint_word (Some hint) ++ (hints_text hints ++ x)
one_more_hint hint hints x = append_assoc (hint_word (Some hint)) (hints_text hints) x

spaced : (hint : ℕ) (x : List ℕ) → hint_word (Some hint) ++ x ≡ decimal hint ++ 32 ∷ x
spaced hint x = append_assoc (decimal hint) (codes " ") x

pub same_hints : (number : ℕ) (a b x y : List ℕ) → number < 2 ^ 64 → AreHints number a → AreHints number b → hints_text a ++ (codes "0\n" ++ x) ≡ hints_text b ++ (codes "0\n" ++ y) → (a ≡ b) × (x ≡ y)
same_hints number [] [] x y small are also e = (refl, append_cancel_left (codes "0\n") x y e)
same_hints number [] (m ∷ b) x y small are also e =
    absurd (none-some m (end_of_hints number (Some m) (codes "0\n" ++ x) x (hints_text b ++ (codes "0\n" ++ y)) small refl (also 0 0 (omega arith)) (e ∙ one_more_hint m b (codes "0\n" ++ y))).0)
same_hints number (l ∷ a) [] x y small are also e =
    absurd (none-some l (end_of_hints number (Some l) (codes "0\n" ++ y) y (hints_text a ++ (codes "0\n" ++ x)) small refl (are 0 0 (omega arith)) (sym e ∙ one_more_hint l a (codes "0\n" ++ x))).0)
same_hints number (l ∷ a) (m ∷ b) x y small are also e =
    let low = are 0 0 (omega arith) in let high = low.1 in let under = also 0 0 (omega arith) in let top = under.1 in
    let first = same_number l m (hints_text a ++ (codes "0\n" ++ x)) (hints_text b ++ (codes "0\n" ++ y)) (omega arith) (omega arith)
    (sym (spaced l (hints_text a ++ (codes "0\n" ++ x))) ∙ sym (one_more_hint l a (codes "0\n" ++ x)) ∙ e ∙ one_more_hint m b (codes "0\n" ++ y) ∙ spaced m (hints_text b ++ (codes "0\n" ++ y))) in
    let rest = same_hints number a b x y small (λ k d h. are (suc k) d (omega arith)) (λ k d h. also (suc k) d (omega arith)) first.1 in
    (λ i. first.0 i ∷ rest.0 i, rest.1)

-- ---- one line

opened : (a b c d e f x : List ℕ) → (a ++ b ++ c ++ d ++ e ++ f) ++ x ≡ (a ++ b) ++ (c ++ (d ++ (e ++ (f ++ x))))
opened a b c d e f x = simp append_assoc

pub line_opened : (number : ℕ) (line : Line) (x : List ℕ) → line_text number line ++ x ≡ (decimal number ++ codes " ") ++ (literals_text line.clause ++ (codes "0 " ++ (hints_text line.hints ++ (codes "0\n" ++ x))))
line_opened number line x = opened (decimal number) (codes " ") (literals_text line.clause) (codes "0 ") (hints_text line.hints) (codes "0\n") x

pub same_line : (vars number : ℕ) (a b : Line) (x y : List ℕ) → vars < 2 ^ 31 → number < 2 ^ 64 → HasForm vars number a → HasForm vars number b → line_text number a ++ x ≡ line_text number b ++ y → (a ≡ b) × (x ≡ y)
same_line vars number a b x y few small form also e =
    let from_hints = hints_text a.hints ++ (codes "0\n" ++ x) in
    let from_others = hints_text b.hints ++ (codes "0\n" ++ y) in
    let numbered = append_cancel_left (decimal number ++ codes " ") (literals_text a.clause ++ (codes "0 " ++ from_hints)) (literals_text b.clause ++ (codes "0 " ++ from_others)) (sym (line_opened number a x) ∙ e ∙ line_opened number b y) in
    let clause = same_clause vars a.clause b.clause from_hints from_others few form.within also.within numbered in
    let hints = same_hints number a.hints b.hints x y small form.hints also.hints clause.1 in
    (λ i. record { clause = clause.0 i; hints = hints.0 i }, hints.1)
