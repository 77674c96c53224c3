-- A text of accepted lines that is a proof has no other answer.
use Rattle.std.proofs.Common.{◌≡◌, ℕ, ◌<◌, ◌≤◌, ◌^◌, ◌⊎◌, List, [], ◌∷◌, ◌++◌, inl, inr, length, refl, sym, ap, ◌∙◌, subst, arith, append_assoc}
use Rattle.std.specs.Prelude.{Result, Ok, Err, All, decimal, codes}
use Rattle.std.proofs.lemmas.List.{append-nil}
use Rattle.sat_base.specs.Literal.{Literal}
use Rattle.sat_base.specs.Certificate.{literals_text, hints_text}
use Rattle.certificate_lines.specs.Items.{AreHints}
use Rattle.certificate_lines.proofs.OneLine.{same_number, same_clause, same_hints, line_opened}
use Rattle.lrat_out.specs.declared.lrat_fault.LratFault.{LratFault}
use Rattle.lrat_out.specs.declared.lrat_fault.LratFault.TheVariants.{Line, Hint, NoEmpty, NoMemory}
use Rattle.lrat_out.specs.Lines.{ProofLine, Numbered, proof_line_text, lrat_text, Hand, hand_of, after, after_all, HaveNumber, IsNumber, last_of, last_number, HasForm}
use Rattle.lrat_out.specs.Right.{IsRight, AreAccepted}
use Rattle.lrat_out.specs.Faults.{Task, hand_after, HaveEmpty, Answers}
use Rattle.lrat_out.proofs.Accepting.{some_bytes}

-- ---- the numbers in hand

-- all numbers in hand are from 1 up to the last
abbrev InRange : Hand → Type 0
InRange hand = (number : ℕ) → IsNumber hand number → (1 ≤ number) × (number ≤ last_number hand)

in_range : (formula : List (List Literal)) → InRange (hand_of formula)
in_range formula number (inl h) = h
in_range formula number (inr none) = absurd none

last_push : (last : ℕ) (lines : List Numbered) (line : Numbered) → last_of last (lines ++ line ∷ []) ≡ line.number
last_push last [] line = refl
last_push last (x ∷ lines) line = last_push x.number lines line

have_push : (lines : List Numbered) (line : Numbered) (number : ℕ) → HaveNumber (lines ++ line ∷ []) number → HaveNumber lines number ⊎ (line.number ≡ number)
have_push [] line number (inl e) = inr e
have_push [] line number (inr none) = absurd none
have_push (x ∷ lines) line number (inl e) = inl (inl e)
have_push (x ∷ lines) line number (inr h) = elim (have_push lines line number h) [ inl k ↦ inl (inr k) | inr e ↦ inr e ]

in_range_after : (hand : Hand) (line : ProofLine) → InRange hand → last_number hand < line.number → InRange (after hand line)
in_range_after hand line range above number (inl h) =
    let within = range number (inl h) in
    let high = within.1 in
    let last = last_push (length hand.formula) hand.lines (record { number = line.number; clause = line.clause }) in
    (within.0, omega arith)
in_range_after hand line range above number (inr h) =
    let last = last_push (length hand.formula) hand.lines (record { number = line.number; clause = line.clause }) in
    elim (have_push hand.lines (record { number = line.number; clause = line.clause }) number h) [
      | inl k ↦ let within = range number (inr k) in let high = within.1 in (within.0, omega arith)
      | inr e ↦ (omega arith, omega arith)
    ]

in_range_all : (vars : ℕ) (hand : Hand) (lines : List ProofLine) → InRange hand → AreAccepted vars hand lines → InRange (after_all hand lines)
in_range_all vars hand [] range accepted = range
in_range_all vars hand (line ∷ lines) range accepted = in_range_all vars (after hand line) lines (in_range_after hand line range accepted.0.above) accepted.2

-- ---- one line

are_hints : (hand : Hand) (number : ℕ) (hints : List ℕ) → InRange hand → last_number hand < number → All (IsNumber hand) hints → AreHints number hints
are_hints hand number hints range above named k d h = let within = range _ (named k d h) in let high = within.1 in (within.0, omega arith)

-- what comes after the number
abbrev after_number : ProofLine → List ℕ → List ℕ
after_number line rest = literals_text line.clause ++ (codes "0 " ++ (hints_text line.hints ++ (codes "0\n" ++ rest)))

opened : (line : ProofLine) (rest : List ℕ) → proof_line_text line ++ rest ≡ decimal line.number ++ 32 ∷ after_number line rest
opened line rest = line_opened line.number (record { clause = line.clause; hints = line.hints }) rest ∙ append_assoc (decimal line.number) (codes " ") (after_number line rest)

same_line : (vars : ℕ) (hand : Hand) (a b : ProofLine) (x y : List ℕ) → vars < 2 ^ 31 → InRange hand → HasForm vars hand a → HasForm vars hand b → proof_line_text a ++ x ≡ proof_line_text b ++ y → (a ≡ b) × (x ≡ y)
same_line vars hand a b x y few range form also e =
    let numbers = same_number a.number b.number (after_number a x) (after_number b y) form.fits also.fits (sym (opened a x) ∙ e ∙ opened b y) in
    let above = form.above in
    let from_a = hints_text a.hints ++ (codes "0\n" ++ x) in
    let from_b = hints_text b.hints ++ (codes "0\n" ++ y) in
    let clauses = same_clause vars a.clause b.clause from_a from_b few form.within also.within numbers.1 in
    let hints = same_hints a.number a.hints b.hints x y form.fits (are_hints hand a.number a.hints range form.above form.named) (are_hints hand a.number b.hints range form.above also.named) clauses.1 in
    (λ i. record { number = numbers.0 i; clause = clauses.0 i; hints = hints.0 i }, hints.1)

-- ---- all lines

-- the lines begin with the others, and the rest is the text of those after
record Remain (vars : ℕ) (hand : Hand) (first all : List ProofLine) (rest : List ℕ) : Type 0 where
  pub tail : List ProofLine
  pub parts : all ≡ first ++ tail
  pub text : rest ≡ lrat_text tail
  pub accepted : AreAccepted vars (after_all hand first) tail

some_line : (line : ProofLine) (rest : List ℕ) → [] ≡ proof_line_text line ++ rest → ⊥
some_line line rest e = let more = some_bytes line rest in let len = ap length e in omega arith

compare : (vars : ℕ) (hand : Hand) (first all : List ProofLine) (rest : List ℕ) → vars < 2 ^ 31 → InRange hand → AreAccepted vars hand first → AreAccepted vars hand all → lrat_text all ≡ lrat_text first ++ rest → Remain vars hand first all rest
compare vars hand [] all rest few range begins accepted e = record { tail = all; parts = refl; text = sym e; accepted = accepted }
compare vars hand (line ∷ first) [] rest few range begins accepted e = absurd (some_line line (lrat_text first ++ rest) (e ∙ append_assoc (proof_line_text line) (lrat_text first) rest))
compare vars hand (line ∷ first) (other ∷ all) rest few range begins accepted e =
    let same = same_line vars hand other line (lrat_text all) (lrat_text first ++ rest) few range accepted.0 begins.0 (e ∙ append_assoc (proof_line_text line) (lrat_text first) rest) in
    let further = compare vars (after hand line) first all rest few (in_range_after hand line range begins.0.above) begins.2 (subst (λ (line : ProofLine). AreAccepted vars (after hand line) all) same.0 accepted.2) same.1 in
    record {
      tail = further.tail;
      parts = λ i. same.0 i ∷ further.parts i;
      text = further.text;
      accepted = further.accepted;
    }

-- where nothing is left, all lines were there
all_there : (vars : ℕ) (hand : Hand) (first all : List ProofLine) → Remain vars hand first all [] → all ≡ first
all_there vars hand first all remain = by_tail remain.tail remain.parts remain.text
  where
    by_tail : (tail : List ProofLine) → all ≡ first ++ tail → [] ≡ lrat_text tail → all ≡ first
    by_tail [] parts text = parts ∙ append-nil first
    by_tail (line ∷ tail) parts text = absurd (some_line line (lrat_text tail) text)

pub one_answer : (task : Task) (lines : List ProofLine) (answer : Result ℕ LratFault) → task.vars < 2 ^ 31 → AreAccepted task.vars (hand_of task.formula) lines → HaveEmpty lines → Answers task (lrat_text lines) answer → (answer ≡ Ok (length lines)) ⊎ (answer ≡ Err NoMemory)
one_answer task lines (Ok count) few accepted empty proof =
    let same = all_there task.vars (hand_of task.formula) proof.lines lines (compare task.vars (hand_of task.formula) proof.lines lines [] few (in_range task.formula) proof.reads.accepted accepted proof.reads.text) in
    inl (ap (λ (n : ℕ). Ok n) (proof.counted ∙ ap length (sym same)))
one_answer task lines (Err (Line place)) few accepted empty bad =
    let remain = compare task.vars (hand_of task.formula) bad.lines lines bad.rest few (in_range task.formula) bad.reads.accepted accepted bad.reads.text in
    absurd (by_tail remain.tail remain.text remain.accepted)
  where
    by_tail : (tail : List ProofLine) → bad.rest ≡ lrat_text tail → AreAccepted task.vars (hand_after task bad.lines) tail → ⊥
    by_tail [] text all = let some = bad.some in let none = ap length text in omega arith
    by_tail (line ∷ tail) text all = bad.none line (lrat_text tail) all.0 text
one_answer task lines (Err (Hint place)) few accepted empty wrong =
    let remain = compare task.vars (hand_of task.formula) wrong.lines lines (proof_line_text wrong.line ++ wrong.rest) few (in_range task.formula) wrong.reads.accepted accepted wrong.reads.text in
    absurd (by_tail remain.tail remain.text remain.accepted)
  where
    by_tail : (tail : List ProofLine) → proof_line_text wrong.line ++ wrong.rest ≡ lrat_text tail → AreAccepted task.vars (hand_after task wrong.lines) tail → ⊥
    by_tail [] text all = some_line wrong.line wrong.rest (sym text)
    by_tail (line ∷ tail) text all =
        let range = in_range_all task.vars (hand_of task.formula) wrong.lines (in_range task.formula) wrong.reads.accepted in
        let same = same_line task.vars (hand_after task wrong.lines) wrong.line line wrong.rest (lrat_text tail) few range wrong.form all.0 text in
        wrong.wrong (subst (IsRight (hand_after task wrong.lines)) (sym same.0) all.1)
one_answer task lines (Err NoEmpty) few accepted empty left =
    let same = all_there task.vars (hand_of task.formula) left.lines lines (compare task.vars (hand_of task.formula) left.lines lines [] few (in_range task.formula) left.reads.accepted accepted left.reads.text) in
    absurd (left.no_empty (subst HaveEmpty same empty))
one_answer task lines (Err NoMemory) few accepted empty said = inr refl
