-- How the lines that were accepted grow.
use Rattle.std.proofs.Common.{◌≡◌, ℕ, ◌+◌, List, [], ◌∷◌, ◌++◌, length, sym, ap, ◌∙◌, subst, arith, append_assoc, length-append}
use Rattle.std.proofs.lemmas.List.{append-nil, length-map, map-append}
use Rattle.qc_base.specs.Spelling.{IsFree}
use Rattle.sat_base.specs.Literal.{Literal}
use Rattle.sat_base.specs.Derivation.{Line, clauses_of, IsGood}
use Rattle.sat_base.specs.Certificate.{line_text, lines_text, HasForm}
use Rattle.certificate_lines.proofs.Lines.{lines_text-push}
use Rattle.certificate_lines.proofs.OneLine.{IsFree-append}
use Rattle.derivation_check.specs.Faults.{Task, AreAccepted, Reads, number_after, HasMalformedLine, HasBadLine}
use Rattle.derivation_check.specs.Progress.{Progress, Accepts}

pub Reads-more : (task : Task) (bytes more : List ℕ) (lines : List Line) (rest : List ℕ) → Reads task bytes lines rest → Reads task (bytes ++ more) lines (rest ++ more)
Reads-more task bytes more lines rest reads = record {
  text = ap (λ (xs : List ℕ). xs ++ more) reads.text ∙ append_assoc (lines_text (length task.formula + 1) lines) rest more;
  accepted = reads.accepted;
}

accepted_push : (vars : ℕ) (clauses : List (List Literal)) (lines : List Line) (line : Line) → AreAccepted vars clauses lines → HasForm vars (length (clauses ++ clauses_of lines) + 1) line → IsGood vars (clauses ++ clauses_of lines) line → AreAccepted vars clauses (lines ++ line ∷ [])
accepted_push vars clauses [] line all form good =
    let e : clauses ++ [] ≡ clauses = append-nil clauses in
    (subst (λ (cs : List (List Literal)). HasForm vars (length cs + 1) line) e form, subst (λ (cs : List (List Literal)). IsGood vars cs line) e good, tt)
accepted_push vars clauses (x ∷ lines) line all form good =
    let e : clauses ++ clauses_of (x ∷ lines) ≡ (clauses ++ x.clause ∷ []) ++ clauses_of lines = sym (append_assoc clauses (x.clause ∷ []) (clauses_of lines)) in
    (all.0, all.1, accepted_push vars (clauses ++ x.clause ∷ []) lines line all.2 (subst (λ (cs : List (List Literal)). HasForm vars (length cs + 1) line) e form) (subst (λ (cs : List (List Literal)). IsGood vars cs line) e good))

-- how many clauses there are after so many lines
pub count_is : (task : Task) (lines : List Line) → length (task.formula ++ clauses_of lines) ≡ length task.formula + length lines
count_is task lines = length-append task.formula (clauses_of lines) ∙ ap (λ (n : ℕ). length task.formula + n) (length-map lines (λ (line : Line). line.clause))

number_is : (task : Task) (bytes : List ℕ) (old : Progress) (number : ℕ) → (accepts : Accepts task bytes old) → number ≡ length old.clauses + 1 → number ≡ number_after task accepts.lines
number_is task bytes old number accepts is = is ∙ ap (λ (cs : List (List Literal)). length cs + 1) accepts.clauses ∙ ap (λ (n : ℕ). n + 1) (count_is task accepts.lines)

pub malformed_line : (task : Task) (before bytes word : List ℕ) (old : Progress) (number : ℕ) → Accepts task before old → bytes ≡ word ++ 10 ∷ [] → IsFree 10 word → number ≡ length old.clauses + 1
    → ((line : Line) → HasForm old.vars number line → old.pending ++ bytes ≡ line_text number line → ⊥) → HasMalformedLine task (before ++ bytes) old.place
malformed_line task before bytes word old number accepts is free counted none =
    let whole : old.pending ++ bytes ≡ (old.pending ++ word) ++ 10 ∷ [] = ap (λ (xs : List ℕ). old.pending ++ xs) is ∙ sym (append_assoc old.pending word (10 ∷ [])) in
    let same = number_is task before old number accepts counted in
    record {
      lines = accepts.lines;
      word = old.pending ++ word;
      rest = [];
      reads = subst (Reads task (before ++ bytes) accepts.lines) whole (Reads-more task before bytes accepts.lines old.pending accepts.reads);
      free = IsFree-append old.pending word accepts.free free;
      other = λ read. none read.0
          (subst (λ (n : ℕ). HasForm old.vars n read.0) (sym same) (subst (λ (vars : ℕ). HasForm vars (number_after task accepts.lines) read.0) (sym accepts.vars) read.1))
          (whole ∙ read.2 ∙ ap (λ (n : ℕ). line_text n read.0) (sym same));
      is_place = accepts.place;
    }

pub bad_line : (task : Task) (before bytes : List ℕ) (old : Progress) (number : ℕ) (line : Line) → Accepts task before old → number ≡ length old.clauses + 1
    → HasForm old.vars number line → old.pending ++ bytes ≡ line_text number line → (IsGood old.vars old.clauses line → ⊥) → HasBadLine task (before ++ bytes) old.place
bad_line task before bytes old number line accepts counted form text bad =
    let same = number_is task before old number accepts counted in
    let whole : old.pending ++ bytes ≡ line_text (number_after task accepts.lines) line ++ [] = text ∙ ap (λ (n : ℕ). line_text n line) same ∙ sym (append-nil (line_text (number_after task accepts.lines) line)) in
    record {
      lines = accepts.lines;
      line = line;
      rest = [];
      reads = subst (Reads task (before ++ bytes) accepts.lines) whole (Reads-more task before bytes accepts.lines old.pending accepts.reads);
      form = subst (λ (vars : ℕ). HasForm vars (number_after task accepts.lines) line) accepts.vars (subst (λ (n : ℕ). HasForm old.vars n line) same form);
      bad = λ good. bad (subst (λ (cs : List (List Literal)). IsGood old.vars cs line) (sym accepts.clauses) (subst (λ (vars : ℕ). IsGood vars (task.formula ++ clauses_of accepts.lines) line) (sym accepts.vars) good));
      is_place = accepts.place;
    }

pub accepted : (task : Task) (before bytes : List ℕ) (old new : Progress) (number : ℕ) (line : Line) → Accepts task before old → number ≡ length old.clauses + 1
    → HasForm old.vars number line → old.pending ++ bytes ≡ line_text number line → IsGood old.vars old.clauses line
    → new.clauses ≡ old.clauses ++ line.clause ∷ [] → new.axioms ≡ old.axioms → new.vars ≡ old.vars → new.place ≡ old.place + 1 → new.pending ≡ [] → Accepts task (before ++ bytes) new
accepted task before bytes old new number line accepts counted form text good clauses_are axioms_are vars_are place_is pending_is =
    let lines = accepts.lines in
    let same = number_is task before old number accepts counted in
    let count : length (lines ++ line ∷ []) ≡ length lines + 1 = length-append lines (line ∷ []) in
    let whole : before ++ bytes ≡ lines_text (length task.formula + 1) lines ++ (old.pending ++ bytes) = (Reads-more task before bytes lines old.pending accepts.reads).text in
    let n : length task.formula + 1 + length lines ≡ number = omega (arith, same) in
    let grown : lines_text (length task.formula + 1) (lines ++ line ∷ []) ≡ lines_text (length task.formula + 1) lines ++ line_text number line = lines_text-push (length task.formula + 1) lines line ∙ ap (λ (k : ℕ). lines_text (length task.formula + 1) lines ++ line_text k line) n in
    let form' : HasForm task.vars (length (task.formula ++ clauses_of lines) + 1) line =
    subst (λ (vars : ℕ). HasForm vars (length (task.formula ++ clauses_of lines) + 1) line) accepts.vars (subst (λ (k : ℕ). HasForm old.vars k line) (same ∙ ap (λ (k : ℕ). k + 1) (sym (count_is task lines))) form) in
    let good' : IsGood task.vars (task.formula ++ clauses_of lines) line =
    subst (λ (vars : ℕ). IsGood vars (task.formula ++ clauses_of lines) line) accepts.vars (subst (λ (cs : List (List Literal)). IsGood old.vars cs line) accepts.clauses good) in
    record {
      lines = lines ++ line ∷ [];
      reads = record {
        text = whole ∙ ap (λ (xs : List ℕ). lines_text (length task.formula + 1) lines ++ xs) text ∙ sym grown ∙ sym (append-nil (lines_text (length task.formula + 1) (lines ++ line ∷ []))) ∙ ap (λ (xs : List ℕ). lines_text (length task.formula + 1) (lines ++ line ∷ []) ++ xs) (sym pending_is);
        accepted = accepted_push task.vars task.formula lines line accepts.reads.accepted form' good';
      };
      free = subst (IsFree 10) (sym pending_is) (λ k d h. absurd (omega arith));
      clauses = clauses_are ∙ ap (λ (cs : List (List Literal)). cs ++ line.clause ∷ []) accepts.clauses ∙ append_assoc task.formula (clauses_of lines) (line.clause ∷ []) ∙ ap (λ (cs : List (List Literal)). task.formula ++ cs) (sym (map-append (λ (line : Line). line.clause) lines (line ∷ [])));
      axioms = axioms_are ∙ accepts.axioms;
      place = let before_place = accepts.place in omega arith;
      vars = vars_are ∙ accepts.vars;
    }
