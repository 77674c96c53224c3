-- Reading hints, one after another.
use Rattle.std.proofs.Common.{◌≡◌, ℕ, zero, suc, List, [], ◌∷◌, ◌++◌, Option, Some, None, refl, sym, ap, ◌∙◌, subst, arith, append_assoc}
use Rattle.std.specs.Prelude.{codes}
use Rattle.std.proofs.lemmas.List.{append-nil}
use Rattle.std.proofs.lemmas.Option.{none-some, same_Some}
use Rattle.sat_base.specs.Certificate.{hints_text}
use Rattle.certificate_lines.specs.Items.{hint_word, MayHint, AreHints}

-- what follows the hints so far in any reading of the bytes
pub record HintsAfter (hints others : List ℕ) (left rest : List ℕ) : Type 0 where
  pub tail : List ℕ
  pub parts : others ≡ hints ++ tail
  pub text : left ≡ hints_text tail ++ codes "0\n" ++ rest

-- the hints so far are of the form and are in front of what is left, and every reading begins with them
pub record HintsSoFar (number : ℕ) (bytes hints left : List ℕ) : Type 0 where
  pub are : AreHints number hints
  pub text : bytes ≡ hints_text hints ++ left
  pub only : (others rest : List ℕ) → AreHints number others → bytes ≡ hints_text others ++ codes "0\n" ++ rest → HintsAfter hints others left rest

pub no_hints : (number : ℕ) (bytes : List ℕ) → HintsSoFar number bytes [] bytes
no_hints number bytes = record {
  are = λ k d h. absurd (omega arith);
  text = refl;
  only = λ others rest are e. record { tail = others; parts = refl; text = e };
}

texts_push : (hints : List ℕ) (hint : ℕ) → hints_text (hints ++ hint ∷ []) ≡ hints_text hints ++ hint_word (Some hint)
texts_push [] hint = append-nil (hint_word (Some hint))
texts_push (x ∷ hints) hint = ap (λ (text : List ℕ). hint_word (Some x) ++ text) (texts_push hints hint) ∙ sym (append_assoc (hint_word (Some x)) (hints_text hints) (hint_word (Some hint)))

are_push : (number : ℕ) (hints : List ℕ) (hint : ℕ) → AreHints number hints → MayHint number (Some hint) → AreHints number (hints ++ hint ∷ [])
are_push number [] hint are may zero d h = may
are_push number [] hint are may (suc k) d h = absurd (omega arith)
are_push number (x ∷ hints) hint are may zero d h = are 0 d (omega arith)
are_push number (x ∷ hints) hint are may (suc k) d h = are_push number hints hint (λ k d h. are (suc k) d (omega arith)) may k d (omega arith)

are_tail : (number : ℕ) (hints tail others : List ℕ) → others ≡ hints ++ tail → AreHints number others → AreHints number tail
are_tail number [] tail others is are = subst (AreHints number) is are
are_tail number (x ∷ hints) tail others is are = are_tail number hints tail (hints ++ tail) refl (λ k d h. (subst (AreHints number) is are) (suc k) d (omega arith))

word_after : (hint : ℕ) (others rest : List ℕ) → hints_text (hint ∷ others) ++ codes "0\n" ++ rest ≡ hint_word (Some hint) ++ (hints_text others ++ codes "0\n" ++ rest)
word_after hint others rest =
    ap (λ (text : List ℕ). text ++ rest) (append_assoc (hint_word (Some hint)) (hints_text others) (codes "0\n")) ∙ append_assoc (hint_word (Some hint)) (hints_text others ++ codes "0\n") rest

-- what comes next in a reading: the end of the hints, or one more
read_on : {P : Type 0} (number : ℕ) (bytes hints left others rest : List ℕ) → HintsSoFar number bytes hints left → AreHints number others → bytes ≡ hints_text others ++ codes "0\n" ++ rest
    → (others ≡ hints → left ≡ codes "0\n" ++ rest → P)
    → ((hint : ℕ) (tail : List ℕ) → others ≡ hints ++ hint ∷ tail → MayHint number (Some hint) → left ≡ hint_word (Some hint) ++ (hints_text tail ++ codes "0\n" ++ rest) → P) → P
read_on {P} number bytes hints left others rest so_far are e at_end at_hint = by_tail after.tail after.parts after.text
  where
    after : HintsAfter hints others left rest
    after = so_far.only others rest are e

    by_tail : (tail : List ℕ) → others ≡ hints ++ tail → left ≡ hints_text tail ++ codes "0\n" ++ rest → P
    by_tail [] parts text = at_end (parts ∙ append-nil hints) text
    by_tail (hint ∷ tail) parts text = at_hint hint tail parts (are_tail number hints (hint ∷ tail) others parts are 0 hint (omega arith)) (text ∙ word_after hint tail rest)

pub stuck : (number : ℕ) (bytes hints left others rest : List ℕ) → HintsSoFar number bytes hints left → ((item : Option ℕ) (rest : List ℕ) → MayHint number item → left ≡ hint_word item ++ rest → ⊥)
    → AreHints number others → bytes ≡ hints_text others ++ codes "0\n" ++ rest → ⊥
stuck number bytes hints left others rest so_far none are e =
    read_on number bytes hints left others rest so_far are e (λ same text. none None rest tt text) (λ hint tail same may text. none (Some hint) (hints_text tail ++ codes "0\n" ++ rest) may text)

pub ends : (number : ℕ) (bytes hints left left' others rest : List ℕ) → HintsSoFar number bytes hints left → ((item : Option ℕ) (rest : List ℕ) → MayHint number item → left ≡ hint_word item ++ rest → (None ≡ item) × (left' ≡ rest))
    → AreHints number others → bytes ≡ hints_text others ++ codes "0\n" ++ rest → (hints ≡ others) × (left' ≡ rest)
ends number bytes hints left left' others rest so_far only are e =
    read_on number bytes hints left others rest so_far are e
    (λ same text. (sym same, (only None rest tt text).1))
    (λ hint tail same may text. absurd (none-some hint (only (Some hint) (hints_text tail ++ codes "0\n" ++ rest) may text).0))

pub one_more : (number : ℕ) (bytes hints left left' : List ℕ) (first : ℕ) → HintsSoFar number bytes hints left → MayHint number (Some first) → left ≡ hint_word (Some first) ++ left'
    → ((item : Option ℕ) (rest : List ℕ) → MayHint number item → left ≡ hint_word item ++ rest → (Some first ≡ item) × (left' ≡ rest)) → HintsSoFar number bytes (hints ++ first ∷ []) left'
one_more number bytes hints left left' first so_far may text only = record {
  are = are_push number hints first so_far.are may;
  text = so_far.text ∙ ap (λ (xs : List ℕ). hints_text hints ++ xs) text ∙ sym (append_assoc (hints_text hints) (hint_word (Some first)) left') ∙ ap (λ (xs : List ℕ). xs ++ left') (sym (texts_push hints first));
  only = λ others rest are e.
      read_on number bytes hints left others rest so_far are e
      (λ same text. absurd (none-some first (sym (only None rest tt text).0)))
      (λ hint tail same may text.
      let read = only (Some hint) (hints_text tail ++ codes "0\n" ++ rest) may text in
      let e : first ≡ hint = same_Some first hint read.0 in
      record {
        tail = tail;
        parts = same ∙ ap (λ (h : ℕ). hints ++ h ∷ tail) (sym e) ∙ sym (append_assoc hints (first ∷ []) tail);
        text = read.1;
      });
}
