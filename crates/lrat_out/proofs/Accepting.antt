-- Accepted lines, one after another, and what they are an answer to.
use Rattle.std.proofs.Common.{◌≡◌, ℕ, ◌+◌, ◌<◌, ◌≤◌, Bool, false, List, [], ◌∷◌, ◌++◌, ◌⊎◌, inl, inr, length, refl, sym, ap, ◌∙◌, subst, arith, append_assoc, length-append}
use Rattle.std.specs.Prelude.{IsTrue, ◌↔◌, Err}
use Rattle.std.proofs.lemmas.List.{append-nil}
use Rattle.sat_base.specs.Truth.{Valuation, Satisfies}
use Rattle.certificate_lines.proofs.OneLine.{word_of, line_is_word}
use Rattle.lrat_out.specs.declared.lrat_fault.LratFault.{LratFault}
use Rattle.lrat_out.specs.declared.lrat_fault.LratFault.TheVariants.{Line, Hint, NoEmpty, NoMemory}
use Rattle.lrat_out.specs.Lines.{ProofLine, proof_line_text, lrat_text, Hand, hand_of, after, after_all, HasForm}
use Rattle.lrat_out.specs.Right.{IsRight, AreAccepted}
use Rattle.lrat_out.specs.Faults.{Task, hand_after, Reads, HasNoLine, HaveEmpty, IsProof, LeavesOpen, Answers}
use Rattle.lrat_out.specs.Proof.{TakesLine, HasFaultAt}
use Rattle.lrat_out.proofs.Propagation.{no_empty_line}

text_push : (lines : List ProofLine) (line : ProofLine) → lrat_text (lines ++ line ∷ []) ≡ lrat_text lines ++ proof_line_text line
text_push [] line = append-nil (proof_line_text line)
text_push (x ∷ lines) line = ap (λ (text : List ℕ). proof_line_text x ++ text) (text_push lines line) ∙ sym (append_assoc (proof_line_text x) (lrat_text lines) (proof_line_text line))

accepted_push : (vars : ℕ) (hand : Hand) (lines : List ProofLine) (line : ProofLine) → AreAccepted vars hand lines → HasForm vars (after_all hand lines) line → IsRight (after_all hand lines) line → AreAccepted vars hand (lines ++ line ∷ [])
accepted_push vars hand [] line all form right = (form, right, tt)
accepted_push vars hand (x ∷ lines) line all form right = (all.0, all.1, accepted_push vars (after hand x) lines line all.2 form right)

after_push : (hand : Hand) (lines : List ProofLine) (line : ProofLine) → after_all hand (lines ++ line ∷ []) ≡ after (after_all hand lines) line
after_push hand [] line = refl
after_push hand (x ∷ lines) line = after_push (after hand x) lines line

empty_push : (lines : List ProofLine) (line : ProofLine) → HaveEmpty lines ⊎ (line.clause ≡ []) → HaveEmpty (lines ++ line ∷ [])
empty_push [] line (inl none) = absurd none
empty_push [] line (inr e) = inl e
empty_push (x ∷ lines) line (inl (inl e)) = inl e
empty_push (x ∷ lines) line (inl (inr h)) = inr (empty_push lines line (inl h))
empty_push (x ∷ lines) line (inr e) = inr (empty_push lines line (inr e))

empty_of_push : (lines : List ProofLine) (line : ProofLine) → HaveEmpty (lines ++ line ∷ []) → HaveEmpty lines ⊎ (line.clause ≡ [])
empty_of_push [] line (inl e) = inr e
empty_of_push [] line (inr none) = absurd none
empty_of_push (x ∷ lines) line (inl e) = inl (inl e)
empty_of_push (x ∷ lines) line (inr h) = elim (empty_of_push lines line h) [ inl k ↦ inl (inr k) | inr e ↦ inr e ]

-- a line takes some bytes
pub some_bytes : (line : ProofLine) (rest : List ℕ) → length rest < length (proof_line_text line ++ rest)
some_bytes line rest =
    let word = word_of line.number (record { clause = line.clause; hints = line.hints }) in
    let e = ap length (ap (λ (xs : List ℕ). xs ++ rest) (line_is_word line.number (record { clause = line.clause; hints = line.hints })) ∙ append_assoc word (10 ∷ []) rest) in
    let len = length-append word (10 ∷ rest) in omega arith

-- what was read, and what is left
pub record SoFar (task : Task) (text rest : List ℕ) (hand : Hand) (count : ℕ) (closed : Bool) : Type 0 where
  pub lines : List ProofLine
  pub reads : Reads task text lines rest
  pub hand_is : hand ≡ hand_after task lines
  pub counted : count ≡ length lines
  pub empty : IsTrue closed ↔ HaveEmpty lines
  pub room : count + length rest ≤ length text

pub nothing_read : (task : Task) (text : List ℕ) (hand : Hand) → hand ≡ hand_of task.formula → SoFar task text text hand 0 false
nothing_read task text hand is = record {
  lines = [];
  reads = record { text = refl; accepted = tt };
  hand_is = is;
  counted = refl;
  empty = (λ e. cc, λ none. absurd none);
  room = omega arith;
}

pub one_more : (task : Task) (text bytes rest : List ℕ) (hand new : Hand) (count : ℕ) (closed empty next : Bool) → SoFar task text bytes hand count closed → TakesLine task.vars hand bytes rest empty new → IsTrue next ↔ (IsTrue closed ⊎ IsTrue empty) → SoFar task text rest new (count + 1) next
one_more task text bytes rest hand new count closed empty next so_far takes either =
    let lines = so_far.lines in
    let line = takes.line in
    let form = subst (λ (hand : Hand). HasForm task.vars hand line) so_far.hand_is takes.form in
    let right = subst (λ (hand : Hand). IsRight hand line) so_far.hand_is takes.right in
    let shorter = some_bytes line rest in
    let len : length bytes ≡ length (proof_line_text line ++ rest) = ap length takes.text in
    let room = so_far.room in
    let counted = so_far.counted in
    let whole = so_far.reads.text ∙ ap (λ (xs : List ℕ). lrat_text lines ++ xs) takes.text ∙ sym (append_assoc (lrat_text lines) (proof_line_text line) rest) ∙ ap (λ (xs : List ℕ). xs ++ rest) (sym (text_push lines line)) in
    record {
      lines = lines ++ line ∷ [];
      reads = record {
        text = whole;
        accepted = accepted_push task.vars (hand_of task.formula) lines line so_far.reads.accepted form right;
      };
      hand_is = takes.added ∙ ap (λ (hand : Hand). after hand line) so_far.hand_is ∙ sym (after_push (hand_of task.formula) lines line);
      counted = let grown = length-append lines (line ∷ []) in omega arith;
      empty = (
        λ h. empty_push lines line (elim (either.0 h) [ inl a ↦ inl (so_far.empty.0 a) | inr b ↦ inr (takes.is_empty.0 b) ]),
        λ h. either.1 (elim (empty_of_push lines line h) [ inl a ↦ inl (so_far.empty.1 a) | inr b ↦ inr (takes.is_empty.1 b) ]),
      );
      room = omega arith;
    }

pub faulty : (task : Task) (text bytes : List ℕ) (hand : Hand) (count place : ℕ) (closed : Bool) (fault : LratFault) → SoFar task text bytes hand count closed → 1 ≤ length bytes → place ≡ count + 1 → HasFaultAt task.vars hand bytes place fault → Answers task text (Err fault)
faulty task text bytes hand count place closed (Line n) so_far some next fault = record {
  lines = so_far.lines;
  rest = bytes;
  reads = so_far.reads;
  some = some;
  none = subst (λ (hand : Hand). HasNoLine task.vars hand bytes) so_far.hand_is fault.1;
  is_place = fault.0 ∙ next ∙ ap (λ (n : ℕ). n + 1) so_far.counted;
}
faulty task text bytes hand count place closed (Hint n) so_far some next fault =
    let wrong = fault.1 in
    record {
      lines = so_far.lines;
      line = wrong.line;
      rest = wrong.rest;
      reads = subst (Reads task text so_far.lines) wrong.text so_far.reads;
      form = subst (λ (hand : Hand). HasForm task.vars hand wrong.line) so_far.hand_is wrong.form;
      wrong = λ right. wrong.wrong (subst (λ (hand : Hand). IsRight hand wrong.line) (sym so_far.hand_is) right);
      is_place = fault.0 ∙ next ∙ ap (λ (n : ℕ). n + 1) so_far.counted;
    }
faulty task text bytes hand count place closed NoEmpty so_far some next none = absurd none
faulty task text bytes hand count place closed NoMemory so_far some next fault = tt

pub proved : (task : Task) (text rest : List ℕ) (hand : Hand) (count : ℕ) (closed : Bool) → SoFar task text rest hand count closed → rest ≡ [] → IsTrue closed → IsProof task text count
proved task text rest hand count closed so_far none on = record {
  lines = so_far.lines;
  reads = subst (Reads task text so_far.lines) none so_far.reads;
  empty = so_far.empty.0 on;
  counted = so_far.counted;
}

pub unproved : (task : Task) (text rest : List ℕ) (hand : Hand) (count : ℕ) (closed : Bool) → SoFar task text rest hand count closed → rest ≡ [] → (IsTrue closed → ⊥) → LeavesOpen task text
unproved task text rest hand count closed so_far none off = record {
  lines = so_far.lines;
  reads = subst (Reads task text so_far.lines) none so_far.reads;
  no_empty = λ h. off (so_far.empty.1 h);
}

-- what a proof says of the formula
pub no_model : (task : Task) (text : List ℕ) (count : ℕ) → IsProof task text count → (values : Valuation) → Satisfies values task.formula → ⊥
no_model task text count proof values all =
    no_empty_line values task.vars (hand_of task.formula) proof.lines (record { formula = all; lines = tt }) proof.reads.accepted proof.empty
