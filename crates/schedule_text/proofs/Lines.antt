-- Lines as words before spaces and line ends, and when two of them are one.
use Rattle.std.proofs.Common.{◌≡◌, ◌≢◌, ℕ, suc, ◌&&◌, true, false, List, [], ◌∷◌, ◌++◌, get_or, refl, sym, ◌∙◌, arith, append_assoc}
use Rattle.std.specs.Prelude.{codes, not, ◌==◌}
use Rattle.std.specs.List.{list_all}
use Rattle.std.proofs.lemmas.Bool.{not-true, eqb-false, eq-eqb, and_from, false≢true}
use Rattle.std.proofs.lemmas.List.Elements.{All-append}
use Rattle.std.proofs.lemmas.List.Sums.{AllPass-from_list_all}
use Rattle.qc_base.specs.Spelling.{IsFree}
use Rattle.qc_base.proofs.Words.{word_before}

-- ---- texts without a sign

pub literal_free : (sign : ℕ) (text : List ℕ) → list_all (λ byte. not (byte == sign)) text ≡ true → IsFree sign text
literal_free sign text free k d h = eqb-false (get_or text k d) sign (not-true _ (AllPass-from_list_all (λ byte. not (byte == sign)) text free k d h))

pub free_append : (sign : ℕ) (text more : List ℕ) → IsFree sign text → IsFree sign more → IsFree sign (text ++ more)
free_append sign text more free also = All-append (λ byte. byte ≢ sign) text more free also

-- ---- lines of one, two and three words

one_grouped : (first last rest : List ℕ) → ((first ++ 32 ∷ []) ++ last) ++ rest ≡ first ++ 32 ∷ (last ++ rest)
one_grouped first last rest = simp append_assoc

pub one_word : (first other last after rest more : List ℕ) → IsFree 32 first → IsFree 32 other → ((first ++ 32 ∷ []) ++ last) ++ rest ≡ ((other ++ 32 ∷ []) ++ after) ++ more
    → (first ≡ other) × (last ++ rest ≡ after ++ more)
one_word first other last after rest more free also e =
    word_before 32 first other (last ++ rest) (after ++ more) free also (sym (one_grouped first last rest) ∙ e ∙ one_grouped other after more)

pub last_word : (last other rest more : List ℕ) → IsFree 10 last → IsFree 10 other → (last ++ 10 ∷ []) ++ rest ≡ (other ++ 10 ∷ []) ++ more → (last ≡ other) × (rest ≡ more)
last_word last other rest more free also e = word_before 10 last other rest more free also (sym (append_assoc last (10 ∷ []) rest) ∙ e ∙ append_assoc other (10 ∷ []) more)

two_grouped : (first last rest : List ℕ) → (((first ++ 32 ∷ []) ++ last) ++ 10 ∷ []) ++ rest ≡ ((first ++ 32 ∷ []) ++ (last ++ 10 ∷ [])) ++ rest
two_grouped first last rest = simp append_assoc

pub two_words : (first other last after rest more : List ℕ) → IsFree 32 first → IsFree 32 other → IsFree 10 last → IsFree 10 after
    → (((first ++ 32 ∷ []) ++ last) ++ 10 ∷ []) ++ rest ≡ (((other ++ 32 ∷ []) ++ after) ++ 10 ∷ []) ++ more → (first ≡ other) × (last ≡ after) × (rest ≡ more)
two_words first other last after rest more free also ends too e =
    let front = one_word first other (last ++ 10 ∷ []) (after ++ 10 ∷ []) rest more free also (sym (two_grouped first last rest) ∙ e ∙ two_grouped other after more) in
    let end = last_word last after rest more ends too front.1 in
    (front.0, end.0, end.1)

three_grouped : (first middle last rest : List ℕ) → (((((first ++ 32 ∷ []) ++ middle) ++ 32 ∷ []) ++ last) ++ 10 ∷ []) ++ rest ≡ ((first ++ 32 ∷ []) ++ (((middle ++ 32 ∷ []) ++ last) ++ 10 ∷ [])) ++ rest
three_grouped first middle last rest = simp append_assoc

pub three_words : (first other middle between last after rest more : List ℕ)
    → IsFree 32 first → IsFree 32 other → IsFree 32 middle → IsFree 32 between → IsFree 10 last → IsFree 10 after
    → (((((first ++ 32 ∷ []) ++ middle) ++ 32 ∷ []) ++ last) ++ 10 ∷ []) ++ rest ≡ (((((other ++ 32 ∷ []) ++ between) ++ 32 ∷ []) ++ after) ++ 10 ∷ []) ++ more
    → (first ≡ other) × (middle ≡ between) × (last ≡ after) × (rest ≡ more)
three_words first other middle between last after rest more free also within inside ends too e =
    let grouped = sym (three_grouped first middle last rest) ∙ e ∙ three_grouped other between after more in
    let front = one_word first other (((middle ++ 32 ∷ []) ++ last) ++ 10 ∷ []) (((between ++ 32 ∷ []) ++ after) ++ 10 ∷ []) rest more free also grouped in
    let back = two_words middle between last after rest more within inside ends too front.1 in
    (front.0, back.0, back.1, back.2)

-- the last two words as one part
pair_grouped : (first middle last rest : List ℕ) → (((first ++ 32 ∷ []) ++ ((middle ++ 32 ∷ []) ++ last)) ++ 10 ∷ []) ++ rest ≡ (((((first ++ 32 ∷ []) ++ middle) ++ 32 ∷ []) ++ last) ++ 10 ∷ []) ++ rest
pair_grouped first middle last rest = simp append_assoc

pub word_and_two : (first other middle between last after rest more : List ℕ)
    → IsFree 32 first → IsFree 32 other → IsFree 32 middle → IsFree 32 between → IsFree 10 last → IsFree 10 after
    → (((first ++ 32 ∷ []) ++ ((middle ++ 32 ∷ []) ++ last)) ++ 10 ∷ []) ++ rest ≡ (((other ++ 32 ∷ []) ++ ((between ++ 32 ∷ []) ++ after)) ++ 10 ∷ []) ++ more
    → (first ≡ other) × (middle ≡ between) × (last ≡ after) × (rest ≡ more)
word_and_two first other middle between last after rest more free also within inside ends too e =
    three_words first other middle between last after rest more free also within inside ends too (sym (pair_grouped first middle last rest) ∙ e ∙ pair_grouped other between after more)

-- the number of an operation's line
number_grouped : (number ions text rest : List ℕ) → (number ++ codes " ions" ++ ions ++ codes " : " ++ text ++ codes "\n") ++ rest ≡ number ++ 32 ∷ (codes "ions" ++ ions ++ codes " : " ++ text ++ codes "\n" ++ rest)
number_grouped number ions text rest = simp append_assoc

pub number_first : (number other ions also text words rest more : List ℕ) → IsFree 32 number → IsFree 32 other
    → (number ++ codes " ions" ++ ions ++ codes " : " ++ text ++ codes "\n") ++ rest ≡ (other ++ codes " ions" ++ also ++ codes " : " ++ words ++ codes "\n") ++ more → number ≡ other
number_first number other ions also text words rest more free too e =
    (word_before 32 number other (codes "ions" ++ ions ++ codes " : " ++ text ++ codes "\n" ++ rest) (codes "ions" ++ also ++ codes " : " ++ words ++ codes "\n" ++ more) free too
    (sym (number_grouped number ions text rest) ∙ e ∙ number_grouped other also words more)).0

-- ---- words before a gap of either kind

pub gap_before : (sign end : ℕ) (word other rest more : List ℕ) → IsFree end word → IsFree sign other → word ++ sign ∷ rest ≡ other ++ end ∷ more → (word ≡ other) × (sign ∷ rest ≡ end ∷ more)
gap_before sign end [] [] rest more free also e = (refl, e)
gap_before sign end [] (b ∷ other) rest more free also e = absurd (also 0 0 (omega arith) cc)
gap_before sign end (a ∷ word) [] rest more free also e = absurd (free 0 0 (omega arith) cc)
gap_before sign end (a ∷ word) (b ∷ other) rest more free also e =
    let p = gap_before sign end word other rest more (λ k d h. free (suc k) d (omega arith)) (λ k d h. also (suc k) d (omega arith)) cc in
    let same : word ≡ other = p.0 in
    let first : a ≡ b = cc in
    (rw (same, first) refl, p.1)

-- ---- texts that begin differently

pub parted : (a b c d : ℕ) (rest more : List ℕ) → a ∷ b ∷ rest ≡ c ∷ d ∷ more → (a == c && b == d) ≡ false → ⊥
parted a b c d rest more e other =
    let first : a ≡ c = cc in
    let second : b ≡ d = cc in
    false≢true (sym other ∙ and_from _ _ (eq-eqb a c first) (eq-eqb b d second))

pub parted_at_once : (a b : ℕ) (rest more : List ℕ) → a ∷ rest ≡ b ∷ more → (a == b) ≡ false → ⊥
parted_at_once a b rest more e other = let first : a ≡ b = cc in false≢true (sym other ∙ eq-eqb a b first)
