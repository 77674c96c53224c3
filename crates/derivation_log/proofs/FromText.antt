-- Logs that are read from a text.
use Rattle.std.proofs.Common.{◌≡◌, ◌≢◌, ℕ, zero, suc, ◌+◌, ◌-◌, ◌<◌, ◌≤◌, ◌^◌, Bool, true, false, cond, List, [], ◌∷◌, ◌++◌, length, map, slice_index_or, refl, sym, ap, ◌∙◌, subst, arith, append_assoc, length-append}
use Rattle.std.specs.Prelude.{All, nat_le, ◌==◌, Err}
use Rattle.std.proofs.lemmas.List.{length-map, map-append, get_or_append_left, get_or-append_right, get_or_default, append-nil}
use Rattle.std.proofs.lemmas.Bool.{cond_both, leb-true, leb-false, eqb-false}
use Rattle.qc_base.specs.Spelling.{IsFree}
use Rattle.qc_base.proofs.Words.{word_before}
use Rattle.sat_base.specs.Literal.{Literal, positive_of}
use Rattle.sat_base.specs.Clauses.{clause_at}
use Rattle.sat_base.specs.Derivation.{Line, clauses_of as line_clauses, IsAscending, IsGood, Refutes, AnyRefutes}
use Rattle.sat_base.specs.Certificate.{line_text, lines_text, HasForm, HaveForm}
use Rattle.certificate_lines.proofs.Lines.{lines_text-push, HaveForm-push, AreGood-push}
use Rattle.certificate_lines.proofs.OneLine.{word_of, line_is_word, free_word}
use Rattle.derivation_log.specs.declared.line_id.LineId.{LineId}
use Rattle.derivation_log.specs.declared.lines_fault.LinesFault.{LinesFault}
use Rattle.derivation_log.specs.declared.lines_fault.LinesFault.TheVariants.{Line as ALine, Bad, NoMemory}
use Rattle.derivation_log.specs.Log.{Derived, Lines, log_of, axiom_id, derived_id, clauses_of, IsLine, clause_of, chain_of, Follows}
use Rattle.derivation_log.specs.Reading.{Task, id_of, derived_of, log_with, number_after, ReadsLines, HasNoLine, HasMalformedLine, HasBadLine, HasLines, Answers, TakesLine, HasBad, HasFaultAt}

-- ---- numbers as lines

same_clause : (axioms : List (List Literal)) (derived : List Derived) (number : ℕ) → 1 ≤ number → number ≤ length (axioms ++ clauses_of derived) → clause_of (log_of axioms derived) (id_of (length axioms) number) ≡ clause_at (axioms ++ clauses_of derived) number
same_clause axioms derived number low high =
    cond_both (nat_le number (length axioms)) (axiom_id number) (derived_id (number - length axioms)) (λ (id : LineId). clause_of (log_of axioms derived) id ≡ clause_at (axioms ++ clauses_of derived) number)
    (λ e. let within = leb-true number (length axioms) e in sym (get_or_append_left axioms (clauses_of derived) [] (number - 1) (omega arith)))
    (λ e.
    let above = leb-false number (length axioms) e in
    let place : number - 1 - length axioms ≡ number - length axioms - 1 = omega arith in
    sym (get_or-append_right axioms (clauses_of derived) (length axioms) (number - 1) [] refl (omega arith) ∙ ap (λ (k : ℕ). slice_index_or (clauses_of derived) k []) place))

is_line : (axioms : List (List Literal)) (derived : List Derived) (number : ℕ) → 1 ≤ number → number ≤ length (axioms ++ clauses_of derived) → IsLine (log_of axioms derived) (id_of (length axioms) number)
is_line axioms derived number low high =
    cond_both (nat_le number (length axioms)) (axiom_id number) (derived_id (number - length axioms)) (λ (id : LineId). IsLine (log_of axioms derived) id)
    (λ e. record { counted = low; within = leb-true number (length axioms) e })
    (λ e.
    let above = leb-false number (length axioms) e in
    let all = length-append axioms (clauses_of derived) in
    let len : length (clauses_of derived) ≡ length derived = length-map derived (λ (line : Derived). line.clause) in
    record { counted = omega arith; within = omega arith })

same_chain : (axioms : List (List Literal)) (derived : List Derived) (hints : List ℕ) → All (λ hint. (1 ≤ hint) × (hint ≤ length (axioms ++ clauses_of derived))) hints → chain_of (log_of axioms derived) (map (id_of (length axioms)) hints) ≡ map (clause_at (axioms ++ clauses_of derived)) hints
same_chain axioms derived [] named = refl
same_chain axioms derived (hint ∷ hints) named =
    let here = named 0 hint (omega arith) in
    let first = same_clause axioms derived hint here.0 here.1 in
    let rest = same_chain axioms derived hints (λ k d h. named (suc k) d (omega arith)) in
    λ i. first i ∷ rest i

are_lines : (axioms : List (List Literal)) (derived : List Derived) (hints : List ℕ) → All (λ hint. (1 ≤ hint) × (hint ≤ length (axioms ++ clauses_of derived))) hints → All (IsLine (log_of axioms derived)) (map (id_of (length axioms)) hints)
are_lines axioms derived [] named k d h = absurd (omega arith)
are_lines axioms derived (hint ∷ hints) named zero d h = let here = named 0 hint (omega arith) in is_line axioms derived hint here.0 here.1
are_lines axioms derived (hint ∷ hints) named (suc k) d h = are_lines axioms derived hints (λ k d h. named (suc k) d (omega arith)) k d (omega arith)

-- a good line follows from the log
pub line_follows : (axioms : List (List Literal)) (derived : List Derived) (vars : ℕ) (line : Line) → IsAscending line.clause → IsGood vars (axioms ++ clauses_of derived) line → Follows (log_of axioms derived) (derived_of (length axioms) line)
line_follows axioms derived vars line up good = record {
  ascending = up;
  named = are_lines axioms derived line.hints good.derived.named;
  resolve = rw (same_chain axioms derived line.hints good.derived.named) good.derived.resolve;
}

-- ---- lines of bytes

feed_after : (number : ℕ) (line : Line) (more : List ℕ) → line_text number line ++ more ≡ word_of number line ++ 10 ∷ more
feed_after number line more = ap (λ (xs : List ℕ). xs ++ more) (line_is_word number line) ∙ append_assoc (word_of number line) (10 ∷ []) more

-- where the bytes have no line feed, no line begins them
pub no_feed : (vars number : ℕ) (bytes : List ℕ) → vars < 2 ^ 31 → number < 2 ^ 64 → ((word rest : List ℕ) → IsFree 10 word → bytes ≡ word ++ 10 ∷ rest → ⊥) → HasNoLine vars number bytes
no_feed vars number bytes few small none line more form e =
    none (word_of number line) more (free_word vars number line few small form) (e ∙ feed_after number line more)

-- where the first line has no such text, no line begins them
pub no_such_line : (vars number : ℕ) (bytes first : List ℕ) → vars < 2 ^ 31 → number < 2 ^ 64 → ((word rest : List ℕ) → IsFree 10 word → bytes ≡ word ++ 10 ∷ rest → first ≡ word ++ 10 ∷ []) → ((line : Line) → HasForm vars number line → first ≡ line_text number line → ⊥) → HasNoLine vars number bytes
no_such_line vars number bytes first few small only none line more form e =
    none line form (only (word_of number line) more (free_word vars number line few small form) (e ∙ feed_after number line more) ∙ sym (line_is_word number line))

-- ---- the lines so far

clauses_with : (formula : List (List Literal)) (lines : List Line) → clauses_of (map (derived_of (length formula)) lines) ≡ line_clauses lines
clauses_with formula [] = refl
clauses_with formula (line ∷ lines) = ap (λ (cs : List (List Literal)). line.clause ∷ cs) (clauses_with formula lines)

pub count_is : (formula : List (List Literal)) (lines : List Line) → length (formula ++ line_clauses lines) ≡ length formula + length lines
count_is formula lines = length-append formula (line_clauses lines) ∙ ap (λ (n : ℕ). length formula + n) (length-map lines (λ (line : Line). line.clause))

-- what was read, and what is left
pub record SoFar (task : Task) (text rest : List ℕ) (log : Lines) (clauses : List (List Literal)) (place : ℕ) : Type 0 where
  pub lines : List Line
  pub reads : ReadsLines task text lines rest
  pub log_is : log ≡ log_with task.formula lines
  pub clauses_are : clauses ≡ task.formula ++ line_clauses lines
  pub is_place : place ≡ task.first + length lines

pub nothing_read : (task : Task) (text : List ℕ) (log : Lines) (clauses : List (List Literal)) → log ≡ log_of task.formula [] → clauses ≡ task.formula → SoFar task text text log clauses task.first
nothing_read task text log clauses log_is clauses_are = record {
  lines = [];
  reads = record { text = refl; form = tt; good = tt };
  log_is = log_is;
  clauses_are = clauses_are ∙ sym (append-nil task.formula);
  is_place = omega arith;
}

-- the clauses that the reader has are those of the log
pub clauses_in_log : (task : Task) (text rest : List ℕ) (log : Lines) (clauses : List (List Literal)) (place : ℕ) → SoFar task text rest log clauses place → clauses ≡ log.axioms ++ clauses_of log.derived
clauses_in_log task text rest log clauses place so_far =
    rw so_far.log_is (so_far.clauses_are ∙ ap (λ (cs : List (List Literal)). task.formula ++ cs) (sym (clauses_with task.formula so_far.lines)))

number_is : (task : Task) (clauses : List (List Literal)) (lines : List Line) → clauses ≡ task.formula ++ line_clauses lines → length clauses + 1 ≡ number_after task lines
number_is task clauses lines are = let e = ap length are ∙ count_is task.formula lines in omega arith

pub one_more : (task : Task) (text bytes rest : List ℕ) (log new : Lines) (clauses : List (List Literal)) (after : List (List Literal)) (place : ℕ) → SoFar task text bytes log clauses place → TakesLine task.vars log clauses bytes rest new → after ≡ new.axioms ++ clauses_of new.derived → SoFar task text rest new after (place + 1)
one_more task text bytes rest log new clauses after place so_far takes are =
    let lines = so_far.lines in
    let line = takes.line in
    let number = number_is task clauses lines so_far.clauses_are in
    let form = subst (λ (n : ℕ). HasForm task.vars n line) number takes.form in
    let good = subst (λ (cs : List (List Literal)). IsGood task.vars cs line) so_far.clauses_are takes.good in
    let line_is : bytes ≡ line_text (length task.formula + 1 + length lines) line ++ rest = takes.text ∙ ap (λ (n : ℕ). line_text n line ++ rest) number in
    let before = lines_text (length task.formula + 1) lines in
    let grown = lines_text-push (length task.formula + 1) lines line in
    let whole = so_far.reads.text ∙ ap (λ (xs : List ℕ). before ++ xs) line_is ∙ sym (append_assoc before (line_text (length task.formula + 1 + length lines) line) rest) ∙ ap (λ (xs : List ℕ). xs ++ rest) (sym grown) in
    let axioms_are : log.axioms ≡ task.formula = ap (λ (l : Lines). l.axioms) so_far.log_is in
    let derived_are : log.derived ≡ map (derived_of (length task.formula)) lines = ap (λ (l : Lines). l.derived) so_far.log_is in
    let mapped = map-append (derived_of (length task.formula)) lines (line ∷ []) in
    let new_is : new ≡ log_with task.formula (lines ++ line ∷ []) = takes.added ∙ (λ i. log_of (axioms_are i) (derived_are i ++ derived_of (length (axioms_are i)) line ∷ [])) ∙ ap (log_of task.formula) (sym mapped) in
    record {
      lines = lines ++ line ∷ [];
      reads = record {
        text = whole;
        form = HaveForm-push task.vars (length task.formula + 1) lines line so_far.reads.form form;
        good = AreGood-push task.vars task.formula lines line so_far.reads.good good;
      };
      log_is = new_is;
      clauses_are = are ∙ ap (λ (l : Lines). l.axioms ++ clauses_of l.derived) new_is ∙ ap (λ (cs : List (List Literal)). task.formula ++ cs) (clauses_with task.formula (lines ++ line ∷ []));
      is_place = let at = so_far.is_place in let len = length-append lines (line ∷ []) in omega arith;
    }

pub ended : (task : Task) (text rest : List ℕ) (log : Lines) (clauses : List (List Literal)) (place : ℕ) → SoFar task text rest log clauses place → rest ≡ [] → HasLines task text log
ended task text rest log clauses place so_far none = record { lines = so_far.lines; reads = subst (ReadsLines task text so_far.lines) none so_far.reads; log_is = so_far.log_is }

pub faulty : (task : Task) (text bytes : List ℕ) (log : Lines) (clauses : List (List Literal)) (place : ℕ) (fault : LinesFault) → SoFar task text bytes log clauses place → 1 ≤ length bytes → HasFaultAt task.vars clauses bytes place fault → Answers task text (Err fault)
faulty task text bytes log clauses place (ALine n) so_far some fault = record {
  lines = so_far.lines;
  rest = bytes;
  reads = so_far.reads;
  some = some;
  none = subst (λ (number : ℕ). HasNoLine task.vars number bytes) (number_is task clauses so_far.lines so_far.clauses_are) fault.1;
  is_place = fault.0 ∙ so_far.is_place;
}
faulty task text bytes log clauses place (Bad n) so_far some fault =
    let number = number_is task clauses so_far.lines so_far.clauses_are in
    let bad = fault.1 in
    record {
      lines = so_far.lines;
      line = bad.line;
      rest = bad.rest;
      reads = subst (ReadsLines task text so_far.lines) (bad.text ∙ ap (λ (n : ℕ). line_text n bad.line ++ bad.rest) number) so_far.reads;
      form = subst (λ (n : ℕ). HasForm task.vars n bad.line) number bad.form;
      bad = λ good. bad.bad (subst (λ (cs : List (List Literal)). IsGood task.vars cs bad.line) (sym so_far.clauses_are) good);
      is_place = fault.0 ∙ so_far.is_place;
    }
faulty task text bytes log clauses place NoMemory so_far some fault = tt

-- a line takes some bytes
pub some_bytes : (number : ℕ) (line : Line) (rest : List ℕ) → length rest < length (line_text number line ++ rest)
some_bytes number line rest =
    let e = ap length (feed_after number line rest) in let len = length-append (word_of number line) (10 ∷ rest) in omega arith

pub some_left : (rest : List ℕ) (r : Bool) → r ≡ (length rest == 0) → r ≡ false → 1 ≤ length rest
some_left rest r is off = let ne = eqb-false (length rest) 0 (sym is ∙ off) in omega arith

-- ---- lines that refute

pub none_refutes : (log : Lines) (goal k : ℕ) → length log.derived ≤ k → ((earlier : ℕ) → 1 ≤ earlier → earlier ≤ k → Refutes (positive_of goal) (clause_of log (derived_id earlier)) → ⊥) → AnyRefutes (positive_of goal) (clauses_of log.derived) → ⊥
none_refutes log goal k over none (i, found, within, is, refutes) =
    let len : length (clauses_of log.derived) ≡ length log.derived = length-map log.derived (λ (line : Derived). line.clause) in
    let e : i + 1 - 1 ≡ i = omega arith in
    let same : clause_of log (derived_id (i + 1)) ≡ found = ap (λ (n : ℕ). slice_index_or (clauses_of log.derived) n []) e ∙ get_or_default (clauses_of log.derived) i [] found within ∙ is in
    none (i + 1) (omega arith) (omega arith) (subst (Refutes (positive_of goal)) (sym same) refutes)
