-- Taking bytes line by line.
use Rattle.std.proofs.Common.{◌≡◌, ℕ, zero, suc, ◌+◌, ◌≤◌, Bool, true, false, cond, List, [], ◌∷◌, ◌++◌, Some, None, length, get_or, take, drop, refl, sym, ap, ◌∙◌, subst, arith, append_assoc}
use Rattle.std.specs.Prelude.{position, ◌==◌}
use Rattle.std.proofs.lemmas.List.{take_at}
use Rattle.std.proofs.lemmas.List.Sums.{fails_before_first}
use Rattle.std.proofs.lemmas.Bool.{ltb-false, eqb-false}
use Rattle.std.proofs.lemmas.Option.{none-some}
use Rattle.qc_base.specs.Spelling.{IsFree}
use Rattle.qc_base.proofs.Words.{around_sign, free_before}
use Rattle.derivation_check.specs.declared.cert_fault.CertFault.{CertFault}
use Rattle.derivation_check.specs.declared.cert_fault.CertFault.TheVariants.{Line as ALine, Bad, NotRefuting, Endless, NoMemory}
use Rattle.derivation_check.specs.Faults.{Task, Reads, HasMalformedLine, HasBadLine}
use Rattle.derivation_check.specs.Progress.{Progress, Accepts, HasLineFault, KeepsRest}
use Rattle.certificate_lines.proofs.OneLine.{IsFree-append}
use Rattle.derivation_check.proofs.Accepting.{Reads-more}
use Rattle.sat_base.specs.Certificate.{line_text}
use Rattle.derivation_check.specs.Faults.{number_after}

-- ---- faults stay, whatever comes after

HasMalformedLine-more : (task : Task) (bytes more : List ℕ) (place : ℕ) → HasMalformedLine task bytes place → HasMalformedLine task (bytes ++ more) place
HasMalformedLine-more task bytes more place bad = record {
  lines = bad.lines;
  word = bad.word;
  rest = bad.rest ++ more;
  reads = subst (Reads task (bytes ++ more) bad.lines) (append_assoc bad.word (10 ∷ bad.rest) more) (Reads-more task bytes more bad.lines (bad.word ++ 10 ∷ bad.rest) bad.reads);
  free = bad.free;
  other = bad.other;
  is_place = bad.is_place;
}

HasBadLine-more : (task : Task) (bytes more : List ℕ) (place : ℕ) → HasBadLine task bytes place → HasBadLine task (bytes ++ more) place
HasBadLine-more task bytes more place bad = record {
  lines = bad.lines;
  line = bad.line;
  rest = bad.rest ++ more;
  reads = subst (Reads task (bytes ++ more) bad.lines) (append_assoc (line_text (number_after task bad.lines) bad.line) bad.rest more) (Reads-more task bytes more bad.lines (line_text (number_after task bad.lines) bad.line ++ bad.rest) bad.reads);
  form = bad.form;
  bad = bad.bad;
  is_place = bad.is_place;
}

pub HasLineFault-more : (task : Task) (bytes more : List ℕ) (fault : CertFault) → HasLineFault task bytes fault → HasLineFault task (bytes ++ more) fault
HasLineFault-more task bytes more (ALine place) h = HasMalformedLine-more task bytes more place h
HasLineFault-more task bytes more (Bad place) h = HasBadLine-more task bytes more place h
HasLineFault-more task bytes more NotRefuting h = h
HasLineFault-more task bytes more Endless h = h
HasLineFault-more task bytes more NoMemory h = h

-- ---- the lines taken so far

-- the checker took the bytes in front of the rest
pub record TookUpTo (old : Progress) (bytes rest : List ℕ) (now : Progress) : Type 0 where
  pub front : List ℕ
  pub parts : bytes ≡ front ++ rest
  pub accepts : (task : Task) (before : List ℕ) → Accepts task before old → Accepts task (before ++ front) now
  pub same : KeepsRest old now

pub KeepsRest-trans : (a b c : Progress) → KeepsRest a b → KeepsRest b c → KeepsRest a c
KeepsRest-trans a b c ab bc = record { vars = bc.vars ∙ ab.vars; limit = bc.limit ∙ ab.limit; fed = bc.fed ∙ ab.fed; stopped = bc.stopped ∙ ab.stopped }

-- a line is what is in front of the first line feed, and the line feed
pub line_word : (rest line after : List ℕ) (end : ℕ) → position (λ byte. byte == 10) rest ≡ Some end → end + 1 ≤ length rest → line ≡ take (end + 1) rest → line ≡ take end rest ++ 10 ∷ []
line_word rest line after end found within is =
    let around : rest ≡ take end rest ++ 10 ∷ drop (end + 1) rest = around_sign 10 end rest found in
    let grouped : rest ≡ (take end rest ++ 10 ∷ []) ++ drop (end + 1) rest = around ∙ sym (append_assoc (take end rest) (10 ∷ []) (drop (end + 1) rest)) in
    let len : length (take end rest ++ 10 ∷ []) ≡ end + 1 = front_length end rest (omega arith) in
    is ∙ ap (take (end + 1)) grouped ∙ take_at (take end rest ++ 10 ∷ []) (drop (end + 1) rest) (end + 1) len
  where
    front_length : (end : ℕ) (rest : List ℕ) → end ≤ length rest → length (take end rest ++ 10 ∷ []) ≡ end + 1
    front_length zero rest h = refl
    front_length (suc end) [] h = absurd (omega arith)
    front_length (suc end) (x ∷ rest) h = let e = front_length end rest (omega arith) in omega arith

pub line_free : (rest : List ℕ) (end : ℕ) → position (λ byte. byte == 10) rest ≡ Some end → IsFree 10 (take end rest)
line_free rest end found = free_before 10 end rest found

-- one line more is taken
pub took_more : (old now next : Progress) (bytes rest line after word : List ℕ) → TookUpTo old bytes rest now → rest ≡ line ++ after → line ≡ word ++ 10 ∷ [] → IsFree 10 word
    → ((task : Task) (before word : List ℕ) → line ≡ word ++ 10 ∷ [] → IsFree 10 word → Accepts task before now → Accepts task (before ++ line) next) → KeepsRest now next → TookUpTo old bytes after next
took_more old now next bytes rest line after word took parts is free accepts same = record {
  front = took.front ++ line;
  parts = took.parts ∙ ap (λ (xs : List ℕ). took.front ++ xs) parts ∙ sym (append_assoc took.front line after);
  accepts = λ task before accepted. subst (λ (xs : List ℕ). Accepts task xs next) (append_assoc before took.front line) (accepts task (before ++ took.front) word is free (took.accepts task before accepted));
  same = KeepsRest-trans old now next took.same same;
}

-- a line has a fault
pub fault_after : (old now : Progress) (bytes rest line after word : List ℕ) (fault : CertFault) → TookUpTo old bytes rest now → rest ≡ line ++ after → line ≡ word ++ 10 ∷ [] → IsFree 10 word
    → ((task : Task) (before word : List ℕ) → line ≡ word ++ 10 ∷ [] → IsFree 10 word → Accepts task before now → HasLineFault task (before ++ line) fault) → (task : Task) (before : List ℕ) → Accepts task before old → HasLineFault task (before ++ bytes) fault
fault_after old now bytes rest line after word fault took parts is free faulty task before accepted =
    let here = faulty task (before ++ took.front) word is free (took.accepts task before accepted) in
    let whole : ((before ++ took.front) ++ line) ++ after ≡ before ++ bytes =
    append_assoc (before ++ took.front) line after ∙ append_assoc before took.front (line ++ after) ∙ ap (λ (xs : List ℕ). before ++ xs) (ap (λ (xs : List ℕ). took.front ++ xs) (sym parts) ∙ sym took.parts) in
    subst (λ (xs : List ℕ). HasLineFault task xs fault) whole (HasLineFault-more task ((before ++ took.front) ++ line) after fault here)

-- no line ends any more
pub took_all : (old now next : Progress) (bytes rest : List ℕ) → TookUpTo old bytes rest now → IsFree 10 rest → next.clauses ≡ now.clauses → next.axioms ≡ now.axioms → next.place ≡ now.place → next.vars ≡ now.vars → next.pending ≡ now.pending ++ rest
    → (task : Task) (before : List ℕ) → Accepts task before old → Accepts task (before ++ bytes) next
took_all old now next bytes rest took free clauses axioms place vars pending task before accepted =
    let a = took.accepts task before accepted in
    let whole : (before ++ took.front) ++ rest ≡ before ++ bytes = append_assoc before took.front rest ∙ ap (λ (xs : List ℕ). before ++ xs) (sym took.parts) in
    record {
      lines = a.lines;
      reads = subst (λ (xs : List ℕ). Reads task xs a.lines next.pending) whole (subst (Reads task ((before ++ took.front) ++ rest) a.lines) (sym pending) (Reads-more task (before ++ took.front) rest a.lines now.pending a.reads));
      free = subst (IsFree 10) (sym pending) (IsFree-append now.pending rest a.free free);
      clauses = clauses ∙ a.clauses;
      axioms = axioms ∙ a.axioms;
      place = place ∙ a.place;
      vars = vars ∙ a.vars;
    }

-- no line feed is in bytes in which none is found
by_test : (b : Bool) (i : ℕ) → cond b (Some i) None ≡ None → b ≡ false
by_test true i e = absurd (none-some i (sym e))
by_test false i e = refl

pub free_none : (bytes : List ℕ) → position (λ byte. byte == 10) bytes ≡ None → IsFree 10 bytes
free_none bytes none k d within same =
    let over = ltb-false _ _ (by_test _ _ none) in
    eqb-false (get_or bytes k d) 10 (fails_before_first (λ byte. byte == 10) bytes k d (omega arith)) same
