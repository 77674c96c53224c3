-- Reading literals, one after another.
use Rattle.std.proofs.Common.{◌≡◌, ℕ, ◌≤◌, List, [], ◌∷◌, ◌++◌, Option, Some, None, refl, sym, ap, ◌∙◌, subst, append_assoc}
use Rattle.std.specs.Prelude.{codes}
use Rattle.std.proofs.lemmas.List.{append-nil}
use Rattle.std.proofs.lemmas.Option.{none-some, same_Some}
use Rattle.sat_base.specs.Literal.{Literal}
use Rattle.sat_base.specs.Certificate.{literals_text}
use Rattle.sat_base.proofs.Clauses.{EachVariable-append, EachVariable-of_append}
use Rattle.certificate_lines.specs.Items.{literal_word, MayStand, AreWithin}

-- what follows the literals so far in any reading of the bytes
pub record LiteralsAfter (lits others : List Literal) (left rest : List ℕ) : Type 0 where
  pub tail : List Literal
  pub parts : others ≡ lits ++ tail
  pub text : left ≡ literals_text tail ++ codes "0 " ++ rest

-- the literals so far are of the form and are in front of what is left, and every reading begins with them
pub record LiteralsSoFar (vars : ℕ) (bytes : List ℕ) (lits : List Literal) (left : List ℕ) : Type 0 where
  pub are : AreWithin vars lits
  pub text : bytes ≡ literals_text lits ++ left
  pub only : (others : List Literal) (rest : List ℕ) → AreWithin vars others → bytes ≡ literals_text others ++ codes "0 " ++ rest → LiteralsAfter lits others left rest

pub no_literals : (vars : ℕ) (bytes : List ℕ) → LiteralsSoFar vars bytes [] bytes
no_literals vars bytes = record {
  are = tt;
  text = refl;
  only = λ others rest are e. record { tail = others; parts = refl; text = e };
}

texts_push : (lits : List Literal) (literal : Literal) → literals_text (lits ++ literal ∷ []) ≡ literals_text lits ++ literal_word (Some literal)
texts_push [] literal = append-nil (literal_word (Some literal))
texts_push (x ∷ lits) literal = ap (λ (text : List ℕ). literal_word (Some x) ++ text) (texts_push lits literal) ∙ sym (append_assoc (literal_word (Some x)) (literals_text lits) (literal_word (Some literal)))

are_push : (vars : ℕ) (lits : List Literal) (literal : Literal) → AreWithin vars lits → MayStand vars (Some literal) → AreWithin vars (lits ++ literal ∷ [])
are_push vars lits literal are may = EachVariable-append (λ var. (1 ≤ var) × (var ≤ vars)) lits (literal ∷ []) are (may, tt)

word_after : (literal : Literal) (others : List Literal) (rest : List ℕ) → literals_text (literal ∷ others) ++ codes "0 " ++ rest ≡ literal_word (Some literal) ++ (literals_text others ++ codes "0 " ++ rest)
word_after literal others rest =
    ap (λ (text : List ℕ). text ++ rest) (append_assoc (literal_word (Some literal)) (literals_text others) (codes "0 ")) ∙ append_assoc (literal_word (Some literal)) (literals_text others ++ codes "0 ") rest

may_come : (vars : ℕ) (lits : List Literal) (literal : Literal) (tail : List Literal) → AreWithin vars (lits ++ literal ∷ tail) → MayStand vars (Some literal)
may_come vars lits literal tail are = (EachVariable-of_append (λ var. (1 ≤ var) × (var ≤ vars)) lits (literal ∷ tail) are).1.0

-- what comes next in a reading: the end of the literals, or one more
read_on : {P : Type 0} (vars : ℕ) (bytes : List ℕ) (lits : List Literal) (left : List ℕ) (others : List Literal) (rest : List ℕ) → LiteralsSoFar vars bytes lits left → AreWithin vars others → bytes ≡ literals_text others ++ codes "0 " ++ rest
    → (others ≡ lits → left ≡ codes "0 " ++ rest → P)
    → ((literal : Literal) (tail : List Literal) → others ≡ lits ++ literal ∷ tail → MayStand vars (Some literal) → left ≡ literal_word (Some literal) ++ (literals_text tail ++ codes "0 " ++ rest) → P) → P
read_on {P} vars bytes lits left others rest so_far are e at_end at_literal = by_tail after.tail after.parts after.text
  where
    after : LiteralsAfter lits others left rest
    after = so_far.only others rest are e

    by_tail : (tail : List Literal) → others ≡ lits ++ tail → left ≡ literals_text tail ++ codes "0 " ++ rest → P
    by_tail [] parts text = at_end (parts ∙ append-nil lits) text
    by_tail (literal ∷ tail) parts text = at_literal literal tail parts (may_come vars lits literal tail (subst (AreWithin vars) parts are)) (text ∙ word_after literal tail rest)

pub stuck : (vars : ℕ) (bytes : List ℕ) (lits : List Literal) (left : List ℕ) (others : List Literal) (rest : List ℕ) → LiteralsSoFar vars bytes lits left
    → ((item : Option Literal) (rest : List ℕ) → MayStand vars item → left ≡ literal_word item ++ rest → ⊥) → AreWithin vars others → bytes ≡ literals_text others ++ codes "0 " ++ rest → ⊥
stuck vars bytes lits left others rest so_far none are e =
    read_on vars bytes lits left others rest so_far are e (λ same text. none None rest tt text) (λ literal tail same may text. none (Some literal) (literals_text tail ++ codes "0 " ++ rest) may text)

pub ends : (vars : ℕ) (bytes : List ℕ) (lits : List Literal) (left left' : List ℕ) (others : List Literal) (rest : List ℕ) → LiteralsSoFar vars bytes lits left
    → ((item : Option Literal) (rest : List ℕ) → MayStand vars item → left ≡ literal_word item ++ rest → (None ≡ item) × (left' ≡ rest)) → AreWithin vars others → bytes ≡ literals_text others ++ codes "0 " ++ rest → (lits ≡ others) × (left' ≡ rest)
ends vars bytes lits left left' others rest so_far only are e =
    read_on vars bytes lits left others rest so_far are e
    (λ same text. (sym same, (only None rest tt text).1))
    (λ literal tail same may text. absurd (none-some literal (only (Some literal) (literals_text tail ++ codes "0 " ++ rest) may text).0))

pub one_more : (vars : ℕ) (bytes : List ℕ) (lits : List Literal) (left left' : List ℕ) (first : Literal) → LiteralsSoFar vars bytes lits left → MayStand vars (Some first) → left ≡ literal_word (Some first) ++ left'
    → ((item : Option Literal) (rest : List ℕ) → MayStand vars item → left ≡ literal_word item ++ rest → (Some first ≡ item) × (left' ≡ rest)) → LiteralsSoFar vars bytes (lits ++ first ∷ []) left'
one_more vars bytes lits left left' first so_far may text only = record {
  are = are_push vars lits first so_far.are may;
  text = so_far.text ∙ ap (λ (xs : List ℕ). literals_text lits ++ xs) text ∙ sym (append_assoc (literals_text lits) (literal_word (Some first)) left') ∙ ap (λ (xs : List ℕ). xs ++ left') (sym (texts_push lits first));
  only = λ others rest are e.
      read_on vars bytes lits left others rest so_far are e
      (λ same text. absurd (none-some first (sym (only None rest tt text).0)))
      (λ literal tail same may text.
      let read = only (Some literal) (literals_text tail ++ codes "0 " ++ rest) may text in
      let e : first ≡ literal = same_Some first literal read.0 in
      record {
        tail = tail;
        parts = same ∙ ap (λ (l : Literal). lits ++ l ∷ tail) (sym e) ∙ sym (append_assoc lits (first ∷ []) tail);
        text = read.1;
      });
}
