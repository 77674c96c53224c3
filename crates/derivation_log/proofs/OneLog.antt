-- The lines of a certificate are read back in one way.
use Rattle.std.proofs.Common.{◌≡◌, ℕ, suc, ◌+◌, ◌<◌, ◌≤◌, ◌^◌, ◌⊎◌, List, [], ◌∷◌, ◌++◌, inl, inr, length, refl, sym, ap, ◌∙◌, subst, arith, append_assoc}
use Rattle.std.specs.Prelude.{Result, Ok, Err}
use Rattle.std.proofs.lemmas.List.{append-nil}
use Rattle.sat_base.specs.Literal.{Literal}
use Rattle.sat_base.specs.Derivation.{Line, clauses_of as line_clauses, IsGood, AreGood}
use Rattle.sat_base.specs.Certificate.{line_text, lines_text, HasForm, HaveForm}
use Rattle.certificate_lines.proofs.OneLine.{same_line}
use Rattle.derivation_log.specs.declared.lines_fault.LinesFault.{LinesFault}
use Rattle.derivation_log.specs.declared.lines_fault.LinesFault.TheVariants.{Line as ALine, Bad, NoMemory}
use Rattle.derivation_log.specs.Log.{Lines}
use Rattle.derivation_log.specs.Reading.{Task, log_with, number_after, ReadsLines, Answers}
use Rattle.derivation_log.proofs.FromText.{some_bytes}

-- the lines begin with the others, and the rest is the text of those after
record Remain (vars number : ℕ) (clauses : List (List Literal)) (first all : List Line) (rest : List ℕ) : Type 0 where
  pub tail : List Line
  pub next : ℕ
  pub hand : List (List Literal)
  pub parts : all ≡ first ++ tail
  pub next_is : next ≡ number + length first
  pub hand_is : hand ≡ clauses ++ line_clauses first
  pub text : rest ≡ lines_text next tail
  pub form : HaveForm vars next tail
  pub good : AreGood vars hand tail
  pub fits : next + length rest ≤ 2 ^ 64

some_line : (number : ℕ) (line : Line) (rest : List ℕ) → [] ≡ line_text number line ++ rest → ⊥
some_line number line rest e = let more = some_bytes number line rest in let len = ap length e in omega arith

compare : (vars number : ℕ) (clauses : List (List Literal)) (first all : List Line) (rest : List ℕ) → vars < 2 ^ 31 → number + length (lines_text number all) ≤ 2 ^ 64 → HaveForm vars number first → HaveForm vars number all → AreGood vars clauses all → lines_text number all ≡ lines_text number first ++ rest → Remain vars number clauses first all rest
compare vars number clauses [] all rest few fits begins form good e = record {
  tail = all;
  next = number;
  hand = clauses;
  parts = refl;
  next_is = omega arith;
  hand_is = sym (append-nil clauses);
  text = sym e;
  form = form;
  good = good;
  fits = subst (λ (text : List ℕ). number + length text ≤ 2 ^ 64) e fits;
}
compare vars number clauses (line ∷ first) [] rest few fits begins form good e = absurd (some_line number line (lines_text (number + 1) first ++ rest) (e ∙ append_assoc (line_text number line) (lines_text (number + 1) first) rest))
compare vars number clauses (line ∷ first) (other ∷ all) rest few fits begins form good e =
    let more = some_bytes number other (lines_text (number + 1) all) in
    let same = same_line vars number other line (lines_text (number + 1) all) (lines_text (number + 1) first ++ rest) few (omega arith) form.0 begins.0 (e ∙ append_assoc (line_text number line) (lines_text (number + 1) first) rest) in
    let good_after = subst (λ (line : Line). AreGood vars (clauses ++ line.clause ∷ []) all) same.0 good.1 in
    let further = compare vars (number + 1) (clauses ++ line.clause ∷ []) first all rest few (omega arith) begins.1 form.1 good_after same.1 in
    record {
      tail = further.tail;
      next = further.next;
      hand = further.hand;
      parts = λ i. same.0 i ∷ further.parts i;
      next_is = let is = further.next_is in omega arith;
      hand_is = further.hand_is ∙ append_assoc clauses (line.clause ∷ []) (line_clauses first);
      text = further.text;
      form = further.form;
      good = further.good;
      fits = further.fits;
    }

all_there : (vars number : ℕ) (clauses : List (List Literal)) (first all : List Line) → Remain vars number clauses first all [] → all ≡ first
all_there vars number clauses first all remain = by_tail remain.tail remain.parts remain.text
  where
    by_tail : (tail : List Line) → all ≡ first ++ tail → [] ≡ lines_text remain.next tail → all ≡ first
    by_tail [] parts text = parts ∙ append-nil first
    by_tail (line ∷ tail) parts text = absurd (some_line remain.next line (lines_text (remain.next + 1) tail) text)

-- what comes after the others in the text of the lines
abbrev After : Task → List Line → List Line → List ℕ → Type 0
After task lines first rest = Remain task.vars (length task.formula + 1) task.formula first lines rest

after : (task : Task) (bytes : List ℕ) (lines first : List Line) (rest : List ℕ) → task.vars < 2 ^ 31 → length task.formula + length bytes < 2 ^ 64 → ReadsLines task bytes lines [] → ReadsLines task bytes first rest → After task lines first rest
after task bytes lines first rest few fits reads begins =
    let number = length task.formula + 1 in
    let whole : bytes ≡ lines_text number lines = reads.text ∙ append-nil (lines_text number lines) in
    let len = ap length whole in
    compare task.vars number task.formula first lines rest few (omega arith) begins.form reads.form reads.good (sym whole ∙ begins.text)

pub one_log : (task : Task) (bytes : List ℕ) (lines : List Line) (answer : Result Lines LinesFault) → task.vars < 2 ^ 31 → length task.formula + length bytes < 2 ^ 64 → ReadsLines task bytes lines [] → Answers task bytes answer
    → (answer ≡ Ok (log_with task.formula lines)) ⊎ (answer ≡ Err NoMemory)
one_log task bytes lines (Ok log) few fits reads has =
    let same = all_there task.vars (length task.formula + 1) task.formula has.lines lines (after task bytes lines has.lines [] few fits reads has.reads) in
    inl (ap (λ (log : Lines). Ok log) (has.log_is ∙ ap (log_with task.formula) (sym same)))
one_log task bytes lines (Err (ALine place)) few fits reads bad =
    let remain = after task bytes lines bad.lines bad.rest few fits reads bad.reads in
    absurd (by_tail remain.next remain.next_is remain.tail remain.text remain.form)
  where
    by_tail : (next : ℕ) → next ≡ number_after task bad.lines → (tail : List Line) → bad.rest ≡ lines_text next tail → HaveForm task.vars next tail → ⊥
    by_tail next is [] text form = let some = bad.some in let none = ap length text in omega arith
    by_tail next is (line ∷ tail) text form =
        bad.none line (lines_text (next + 1) tail) (subst (λ (n : ℕ). HasForm task.vars n line) is form.0) (text ∙ ap (λ (n : ℕ). line_text n line ++ lines_text (next + 1) tail) is)
one_log task bytes lines (Err (Bad place)) few fits reads bad =
    let remain = after task bytes lines bad.lines (line_text (number_after task bad.lines) bad.line ++ bad.rest) few fits reads bad.reads in
    absurd (by_tail remain.next remain.next_is remain.fits remain.hand_is remain.tail remain.text remain.form remain.good)
  where
    by_tail : (next : ℕ) {hand : List (List Literal)} → next ≡ number_after task bad.lines → next + length (line_text (number_after task bad.lines) bad.line ++ bad.rest) ≤ 2 ^ 64 → hand ≡ task.formula ++ line_clauses bad.lines → (tail : List Line) → line_text (number_after task bad.lines) bad.line ++ bad.rest ≡ lines_text next tail → HaveForm task.vars next tail → AreGood task.vars hand tail → ⊥
    by_tail next is room hand_is [] text form good = some_line (number_after task bad.lines) bad.line bad.rest (sym text)
    by_tail next is room hand_is (line ∷ tail) text form good =
        let number = number_after task bad.lines in
        let more = some_bytes number bad.line bad.rest in
        let same = same_line task.vars number bad.line line bad.rest (lines_text (next + 1) tail) few (omega arith) bad.form (subst (λ (n : ℕ). HasForm task.vars n line) is form.0) (text ∙ ap (λ (n : ℕ). line_text n line ++ lines_text (next + 1) tail) is) in
        bad.bad (subst (λ (cs : List (List Literal)). IsGood task.vars cs bad.line) hand_is (subst (IsGood task.vars _) (sym same.0) good.0))
one_log task bytes lines (Err NoMemory) few fits reads said = inr refl
