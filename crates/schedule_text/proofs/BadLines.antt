-- The first bad line, where texts go on after a front and the bytes go on in another way.
use Rattle.std.proofs.Common.{◌≡◌, ℕ, zero, suc, ◌+◌, ◌-◌, ◌≤◌, inl, inr, List, [], ◌∷◌, ◌++◌, refl, sym, ap, subst, ◌∙◌, arith, append_assoc}
use Rattle.std.specs.Prelude.{◌==◌, if◌then◌else◌}
use Rattle.std.proofs.lemmas.Bool.{cond-true, cond-false, eq-eqb, ne_eqb, cases_eq}
use Rattle.qc_base.specs.Spelling.{IsFree}
use Rattle.qc_base.proofs.Words.{word_before}
use Rattle.circuit_core.specs.Circuit.{CircuitValue}
use Rattle.trap_parts.specs.Parts.{TrapValue}
use Rattle.schedule_text.specs.Reading.{IsText, BeginsText, IsBadLine, Refuses, first_lines, whole_lines}
use Rattle.schedule_text.specs.declared.text_fault.TextFault.{TextFault}
use Rattle.schedule_text.specs.declared.text_fault.TextFault.TheVariants.{Line}
use Rattle.schedule_text.specs.Progress.{IsLine, ArePartedAtOnce, Sticks}
use Rattle.schedule_text.proofs.Lines.{free_append}

-- ---- lines of a front

-- the line ends of a byte and of more bytes
line_end_first : (byte : ℕ) (bytes : List ℕ) → byte ≡ 10 → whole_lines (byte ∷ bytes) ≡ 1 + whole_lines bytes
line_end_first byte bytes same = ap (λ (n : ℕ). n + whole_lines bytes) (cond-true {A = ℕ} (byte == 10) 1 0 (eq-eqb byte 10 same))

other_first : (byte : ℕ) (bytes : List ℕ) → (byte ≡ 10 → ⊥) → whole_lines (byte ∷ bytes) ≡ whole_lines bytes
other_first byte bytes other = ap (λ (n : ℕ). n + whole_lines bytes) (cond-false {A = ℕ} (byte == 10) 1 0 (ne_eqb byte 10 other)) ∙ omega arith

pub whole_append : (bytes more : List ℕ) → whole_lines (bytes ++ more) ≡ whole_lines bytes + whole_lines more
whole_append [] more = omega arith
whole_append (byte ∷ bytes) more = omega (arith, whole_append bytes more)

no_lines : (bytes : List ℕ) → first_lines 0 bytes ≡ []
no_lines [] = refl
no_lines (byte ∷ bytes) = refl

-- one line or more: the first byte is there
lines_on : (number byte : ℕ) (bytes : List ℕ) → 1 ≤ number → first_lines number (byte ∷ bytes) ≡ byte ∷ first_lines (if byte == 10 then number - 1 else number) bytes
lines_on number byte bytes some = cond-false (number == 0) [] (byte ∷ first_lines (if byte == 10 then number - 1 else number) bytes) (ne_eqb number 0 (λ none. omega (arith, none, some)))

lines_at_end : (number byte : ℕ) (bytes : List ℕ) → 1 ≤ number → byte ≡ 10 → first_lines number (byte ∷ bytes) ≡ byte ∷ first_lines (number - 1) bytes
lines_at_end number byte bytes some same = lines_on number byte bytes some ∙ ap (λ (n : ℕ). byte ∷ first_lines n bytes) (cond-true {A = ℕ} (byte == 10) (number - 1) number (eq-eqb byte 10 same))

lines_at_other : (number byte : ℕ) (bytes : List ℕ) → 1 ≤ number → (byte ≡ 10 → ⊥) → first_lines number (byte ∷ bytes) ≡ byte ∷ first_lines number bytes
lines_at_other number byte bytes some other = lines_on number byte bytes some ∙ ap (λ (n : ℕ). byte ∷ first_lines n bytes) (cond-false {A = ℕ} (byte == 10) (number - 1) number (ne_eqb byte 10 other))

-- a part of the front, from its first byte on
record IsCut (front cut : List ℕ) : Type 0 where
  tail : List ℕ
  parts : front ≡ cut ++ tail

cut_on : (byte : ℕ) (front cut whole : List ℕ) → IsCut front cut → whole ≡ byte ∷ cut → IsCut (byte ∷ front) whole
cut_on byte front cut whole is e = record { tail = is.tail; parts = ap (λ (text : List ℕ). byte ∷ text) is.parts ∙ ap (λ (text : List ℕ). text ++ is.tail) (sym e) }

lines_cut : (number : ℕ) (front rest : List ℕ) → number ≤ whole_lines front → IsCut front (first_lines number (front ++ rest))
lines_cut zero front rest h = record { tail = front; parts = ap (λ (text : List ℕ). text ++ front) (sym (no_lines (front ++ rest))) }
lines_cut (suc number) [] rest h = absurd (omega (arith, h))
lines_cut (suc number) (byte ∷ front) rest h = elim (cases_eq byte 10) [
  | inl same ↦ (let less : suc number - 1 ≡ number = omega arith in
      cut_on byte front (first_lines number (front ++ rest)) _ (lines_cut number front rest (omega (arith, h, line_end_first byte front same)))
      (lines_at_end (suc number) byte (front ++ rest) (omega arith) same ∙ ap (λ (n : ℕ). byte ∷ first_lines n (front ++ rest)) less))
  | inr other ↦ cut_on byte front (first_lines (suc number) (front ++ rest)) _ (lines_cut (suc number) front rest (omega (arith, h, other_first byte front other)))
      (lines_at_other (suc number) byte (front ++ rest) (omega arith) other)
]

-- after all line ends of the front: the front, and lines of the rest
lines_after : (front rest : List ℕ) (number : ℕ) → 1 ≤ number → first_lines (whole_lines front + number) (front ++ rest) ≡ front ++ first_lines number rest
lines_after [] rest number some = let same : 0 + number ≡ number = omega arith in ap (λ (n : ℕ). first_lines n rest) same
lines_after (byte ∷ front) rest number some = elim (cases_eq byte 10) [
  | inl same ↦ (let less : whole_lines (byte ∷ front) + number - 1 ≡ whole_lines front + number = omega (arith, line_end_first byte front same) in
      lines_at_end (whole_lines (byte ∷ front) + number) byte (front ++ rest) (omega (arith, some)) same ∙ ap (λ (n : ℕ). byte ∷ first_lines n (front ++ rest)) less
      ∙ ap (λ (text : List ℕ). byte ∷ text) (lines_after front rest number some))
  | inr other ↦ (let also : whole_lines (byte ∷ front) + number ≡ whole_lines front + number = omega (arith, other_first byte front other) in
      lines_at_other (whole_lines (byte ∷ front) + number) byte (front ++ rest) (omega (arith, some)) other ∙ ap (λ (n : ℕ). byte ∷ first_lines n (front ++ rest)) also
      ∙ ap (λ (text : List ℕ). byte ∷ text) (lines_after front rest number some))
]

-- ---- the first line of the rest

record FirstLine (rest : List ℕ) : Type 0 where
  after : List ℕ
  line : IsLine (first_lines 1 rest)
  parts : rest ≡ first_lines 1 rest ++ after

free_one : (byte : ℕ) → (byte ≡ 10 → ⊥) → IsFree 10 (byte ∷ [])
free_one byte other zero d h = other
free_one byte other (suc k) d h = absurd (omega (arith, h))

first_line : (rest : List ℕ) → 1 ≤ whole_lines rest → FirstLine rest
first_line [] some = absurd (omega (arith, some))
first_line (byte ∷ rest) some = elim (cases_eq byte 10) [
  | inl same ↦ (let line : first_lines 1 (byte ∷ rest) ≡ 10 ∷ [] = lines_at_end 1 byte rest (omega arith) same ∙ ap (λ (text : List ℕ). byte ∷ text) (no_lines rest) ∙ ap (λ (b : ℕ). b ∷ []) same in
      record {
        after = rest;
        line = record { word = []; free = λ k d h. absurd (omega (arith, h)); line_is = line };
        parts = ap (λ (b : ℕ). b ∷ rest) same ∙ ap (λ (text : List ℕ). text ++ rest) (sym line);
      })
  | inr other ↦ (let later = first_line rest (omega (arith, some, other_first byte rest other)) in
      let line : first_lines 1 (byte ∷ rest) ≡ byte ∷ first_lines 1 rest = lines_at_other 1 byte rest (omega arith) other in
      record {
        after = later.after;
        line = record {
          word = byte ∷ later.line.word;
          free = free_append 10 (byte ∷ []) later.line.word (free_one byte other) later.line.free;
          line_is = line ∙ ap (λ (text : List ℕ). byte ∷ text) later.line.line_is;
        };
        parts = ap (λ (text : List ℕ). byte ∷ text) later.parts ∙ ap (λ (text : List ℕ). text ++ later.after) (sym line);
      })
]

-- ---- the bad line

-- a part of what begins a text begins one
pub begins_cut : (trap : TrapValue) (circuit : CircuitValue) (bytes tail whole : List ℕ) → BeginsText trap circuit whole → whole ≡ bytes ++ tail → BeginsText trap circuit bytes
begins_cut trap circuit bytes tail whole begins e = record {
  rest = tail ++ begins.rest;
  text = subst (IsText trap circuit) (ap (λ (text : List ℕ). text ++ begins.rest) e ∙ append_assoc bytes tail begins.rest) begins.text;
}

pub bad_line : (trap : TrapValue) (circuit : CircuitValue) (front rest : List ℕ) → BeginsText trap circuit front → Sticks trap circuit front rest → IsBadLine trap circuit (front ++ rest) (whole_lines front + 1)
bad_line trap circuit front rest begins sticks = record {
  counted = omega arith;
  before = λ n some few. let cut = lines_cut n front rest (omega (arith, few)) in begins_cut trap circuit _ cut.tail front begins cut.parts;
  bad = λ within text.
      let first = first_line rest (omega (arith, within, whole_append front rest)) in
      let here : first_lines (whole_lines front + 1) (front ++ rest) ++ text.rest ≡ front ++ (first_lines 1 rest ++ text.rest) =
      ap (λ (t : List ℕ). t ++ text.rest) (lines_after front rest 1 (omega arith)) ∙ append_assoc front (first_lines 1 rest) text.rest in
      (sticks (first_lines 1 rest ++ text.rest) (subst (IsText trap circuit) here text.text)).line (first_lines 1 rest) text.rest first.after first.line refl first.parts;
  none = λ text. (sticks rest text).other refl;
  within = omega (arith, whole_append front rest);
}

-- where there is no text at all
pub no_text : (trap : TrapValue) (circuit : CircuitValue) (bytes : List ℕ) → ((any : List ℕ) → IsText trap circuit any → ⊥) → IsBadLine trap circuit bytes 1
no_text trap circuit bytes none = record {
  counted = omega arith;
  before = λ n some few. absurd (omega (arith, some, few));
  bad = λ within begins. none _ begins.text;
  none = λ text. none bytes text;
  within = omega arith;
}

pub refused : (trap : TrapValue) (circuit : CircuitValue) (front rest bytes : List ℕ) (fault : TextFault) → bytes ≡ front ++ rest → BeginsText trap circuit front → Sticks trap circuit front rest
    → fault ≡ Line (whole_lines front + 1) → Refuses trap circuit bytes fault
refused trap circuit front rest bytes fault parts begins sticks is =
    subst (λ (f : TextFault). Refuses trap circuit bytes f) (sym is)
    (subst (λ (text : List ℕ). IsBadLine trap circuit text (whole_lines front + 1)) (sym parts) (bad_line trap circuit front rest begins sticks))

-- ---- fronts that are stuck

-- a line comes next that the rest doesn't begin with
pub record NextLine (more rest : List ℕ) : Type 0 where
  pub line : List ℕ
  pub after : List ℕ
  pub is_line : IsLine line
  pub more_is : more ≡ line ++ after
  pub differs : (other : List ℕ) → rest ≡ line ++ other → ⊥

one_line : (line other rest more : List ℕ) → IsLine line → IsLine other → line ++ rest ≡ other ++ more → line ≡ other
one_line line other rest more is also e =
    let same =
    word_before 10 is.word also.word rest more is.free also.free
    (sym (append_assoc is.word (10 ∷ []) rest) ∙ ap (λ (text : List ℕ). text ++ rest) (sym is.line_is) ∙ e ∙ ap (λ (text : List ℕ). text ++ more) also.line_is ∙ append_assoc also.word (10 ∷ []) more) in
    is.line_is ∙ ap (λ (word : List ℕ). word ++ 10 ∷ []) same.0 ∙ sym also.line_is

pub parted_by : (more rest : List ℕ) → NextLine more rest → ArePartedAtOnce more rest
parted_by more rest next = record {
  other = λ same. next.differs next.after (sym same ∙ next.more_is);
  line = λ line more_after rest_after is e here.
      let same : line ≡ next.line = one_line line next.line more_after next.after is next.is_line (sym e ∙ next.more_is) in
      next.differs rest_after (here ∙ ap (λ (text : List ℕ). text ++ rest_after) same);
}

-- nothing comes next, and the rest is more
no_byte : (word after : List ℕ) → [] ≡ (word ++ 10 ∷ []) ++ after → ⊥
no_byte [] after e = absurd cc
no_byte (byte ∷ word) after e = absurd cc

line_some : (line after : List ℕ) → IsLine line → [] ≡ line ++ after → ⊥
line_some line after is e = no_byte is.word after (e ∙ ap (λ (text : List ℕ). text ++ after) is.line_is)

pub parted_at_end : (more rest : List ℕ) → more ≡ [] → ([] ≡ rest → ⊥) → ArePartedAtOnce more rest
parted_at_end more rest none some = record {
  other = λ same. some (sym none ∙ same);
  line = λ line more_after rest_after is e here. line_some line more_after is (sym none ∙ e);
}
