-- Bytes have one answer, out of memory aside.
use Rattle.std.proofs.Common.{◌≡◌, ◌≢◌, ℕ, zero, suc, ◌+◌, ◌<◌, ◌≤◌, ◌^◌, ◌⊎◌, inl, inr, List, [], ◌∷◌, ◌++◌, length, take, refl, sym, ap, ◌∙◌, subst, arith, append_assoc, length-append}
use Rattle.std.specs.Prelude.{Result, Ok, Err}
use Rattle.std.proofs.lemmas.List.{append-nil, take_all}
use Rattle.qc_base.specs.Spelling.{IsFree}
use Rattle.qc_base.proofs.Words.{word_before}
use Rattle.sat_base.specs.Literal.{Literal}
use Rattle.sat_base.specs.Derivation.{Line, clauses_of, IsGood, AnyRefutes}
use Rattle.sat_base.specs.Certificate.{line_text, lines_text, HasForm}
use Rattle.derivation_check.specs.declared.cert_fault.CertFault.{CertFault}
use Rattle.derivation_check.specs.declared.cert_fault.CertFault.TheVariants.{Line as ALine, Bad, NotRefuting, Endless, NoMemory}
use Rattle.derivation_check.specs.Faults.{Task, AreAccepted, Reads, number_after, place_after, IsLineText, HasMalformedLine, HasBadLine, HasCutLine, IsTooLong, Answers, IsSmall}
use Rattle.derivation_check.proofs.Accepting.{count_is}
use Rattle.certificate_lines.proofs.OneLine.{word_of, line_is_word, free_word, same_line}

-- ---- line feeds

feed_stands : (word rest : List ℕ) → IsFree 10 (word ++ 10 ∷ rest) → ⊥
feed_stands [] rest free = free 0 0 (omega arith) refl
feed_stands (x ∷ word) rest free = feed_stands word rest (λ k d h. free (suc k) d (omega arith))

no_feed : (bytes word rest : List ℕ) → IsFree 10 bytes → bytes ≡ word ++ 10 ∷ rest → ⊥
no_feed bytes word rest free is = feed_stands word rest (subst (IsFree 10) is free)

line_feed : (number : ℕ) (line : Line) (rest : List ℕ) → line_text number line ++ rest ≡ word_of number line ++ 10 ∷ rest
line_feed number line rest = ap (λ (xs : List ℕ). xs ++ rest) (line_is_word number line) ∙ append_assoc (word_of number line) (10 ∷ []) rest

some_bytes : (number : ℕ) (line : Line) (rest : List ℕ) → length rest < length (line_text number line ++ rest)
some_bytes number line rest =
    let e = ap length (line_feed number line rest) in let len = length-append (word_of number line) (10 ∷ rest) in omega arith

-- ---- the accepted lines of bytes are determined, where no further line follows

-- no accepted line comes next
abbrev NoneNext : ℕ → List (List Literal) → List ℕ → Type 0
NoneNext vars clauses tail = (line : Line) (rest : List ℕ) → length clauses + 1 < 2 ^ 64 → HasForm vars (length clauses + 1) line → IsGood vars clauses line → tail ≡ line_text (length clauses + 1) line ++ rest → ⊥

one_reading : (vars : ℕ) (clauses : List (List Literal)) (a b : List Line) (bytes x y : List ℕ) → vars < 2 ^ 31 → length clauses + length bytes < 2 ^ 64
    → bytes ≡ lines_text (length clauses + 1) a ++ x → AreAccepted vars clauses a → NoneNext vars (clauses ++ clauses_of a) x
    → bytes ≡ lines_text (length clauses + 1) b ++ y → AreAccepted vars clauses b → NoneNext vars (clauses ++ clauses_of b) y → (a ≡ b) × (x ≡ y)
one_reading vars clauses [] [] bytes x y few small text all none text' all' none' = (refl, sym text ∙ text')
one_reading vars clauses [] (m ∷ b) bytes x y few small text all none text' all' none' =
    let n = length clauses + 1 in
    let e = append_assoc (line_text n m) (lines_text (n + 1) b) y in
    let some = some_bytes n m (lines_text (n + 1) b ++ y) in
    let len = ap length (text' ∙ e) in
    absurd (subst (λ (cs : List (List Literal)). NoneNext vars cs x) (append-nil clauses) none m (lines_text (n + 1) b ++ y) (omega arith) all'.0 all'.1 (sym text ∙ text' ∙ e))
one_reading vars clauses (l ∷ a) [] bytes x y few small text all none text' all' none' =
    let n = length clauses + 1 in
    let e = append_assoc (line_text n l) (lines_text (n + 1) a) x in
    let some = some_bytes n l (lines_text (n + 1) a ++ x) in
    let len = ap length (text ∙ e) in
    absurd (subst (λ (cs : List (List Literal)). NoneNext vars cs y) (append-nil clauses) none' l (lines_text (n + 1) a ++ x) (omega arith) all.0 all.1 (sym text' ∙ text ∙ e))
one_reading vars clauses (l ∷ a) (m ∷ b) bytes x y few small text all none text' all' none' =
    let n = length clauses + 1 in
    let e = append_assoc (line_text n l) (lines_text (n + 1) a) x in
    let e' = append_assoc (line_text n m) (lines_text (n + 1) b) y in
    let some = some_bytes n l (lines_text (n + 1) a ++ x) in
    let len = ap length (text ∙ e) in
    let first = same_line vars n l m (lines_text (n + 1) a ++ x) (lines_text (n + 1) b ++ y) few (omega arith) all.0 all'.0 (sym e ∙ sym text ∙ text' ∙ e') in
    let grown : length (clauses ++ l.clause ∷ []) ≡ n = length-append clauses (l.clause ∷ []) in
    let all'' = subst (λ (line : Line). AreAccepted vars (clauses ++ line.clause ∷ []) b) (sym first.0) all'.2 in
    let none'' = subst (λ (line : Line). NoneNext vars (clauses ++ clauses_of (line ∷ b)) y) (sym first.0) none' in
    let onwards = λ (lines : List Line). sym (append_assoc clauses (l.clause ∷ []) (clauses_of lines)) in
    let rest = one_reading vars (clauses ++ l.clause ∷ []) a b (lines_text (n + 1) a ++ x) x y few (omega arith)
    (ap (λ (k : ℕ). lines_text (k + 1) a ++ x) (sym grown)) all.2 (subst (λ (cs : List (List Literal)). NoneNext vars cs x) (onwards a) none)
    (first.1 ∙ ap (λ (k : ℕ). lines_text (k + 1) b ++ y) (sym grown)) all'' (subst (λ (cs : List (List Literal)). NoneNext vars cs y) (onwards b) none'') in
    (λ i. first.0 i ∷ rest.0 i, rest.1)

-- ---- what stands after the accepted lines

none_free : (vars : ℕ) (clauses : List (List Literal)) (tail : List ℕ) → IsFree 10 tail → NoneNext vars clauses tail
none_free vars clauses tail free line rest small form good is = no_feed tail (word_of (length clauses + 1) line) rest free (is ∙ line_feed (length clauses + 1) line rest)

none_malformed : (task : Task) (lines : List Line) (word rest : List ℕ) → IsSmall task → IsFree 10 word → (IsLineText task (number_after task lines) (word ++ 10 ∷ []) → ⊥) → NoneNext task.vars (task.formula ++ clauses_of lines) (word ++ 10 ∷ rest)
none_malformed task lines word rest is_small free other line more small form good is =
    let n = length (task.formula ++ clauses_of lines) + 1 in
    let same : n ≡ number_after task lines = ap (λ (k : ℕ). k + 1) (count_is task lines) in
    let words = word_before 10 word (word_of n line) rest more free (free_word task.vars n line is_small.vars small form) (is ∙ line_feed n line more) in
    other (line, subst (λ (k : ℕ). HasForm task.vars k line) same form, ap (λ (xs : List ℕ). xs ++ 10 ∷ []) words.0 ∙ sym (line_is_word n line) ∙ ap (λ (k : ℕ). line_text k line) same)

none_bad : (task : Task) (lines : List Line) (line : Line) (rest : List ℕ) → IsSmall task → HasForm task.vars (number_after task lines) line → (IsGood task.vars (task.formula ++ clauses_of lines) line → ⊥)
    → NoneNext task.vars (task.formula ++ clauses_of lines) (line_text (number_after task lines) line ++ rest)
none_bad task lines line rest is_small form bad other more small form' good is =
    let n = length (task.formula ++ clauses_of lines) + 1 in
    let same : number_after task lines ≡ n = sym (ap (λ (k : ℕ). k + 1) (count_is task lines)) in
    let one = same_line task.vars n line other rest more is_small.vars small (subst (λ (k : ℕ). HasForm task.vars k line) same form) form' (ap (λ (k : ℕ). line_text k line ++ rest) (sym same) ∙ is) in
    bad (subst (IsGood task.vars (task.formula ++ clauses_of lines)) (sym one.0) good)

-- ---- what an answer says of the accepted lines and of what stands after them

-- a whole line that is not accepted
abbrev AtLine : Task → List Line → List ℕ → Result ℕ CertFault → Type 0
AtLine task lines tail answer =
    ((word : List ℕ) × (rest : List ℕ) × (answer ≡ Err (ALine (place_after lines))) × (tail ≡ word ++ 10 ∷ rest) × (IsLineText task (number_after task lines) (word ++ 10 ∷ []) → ⊥) × IsFree 10 word)
    ⊎ ((line : Line) × (rest : List ℕ) × (answer ≡ Err (Bad (place_after lines))) × (tail ≡ line_text (number_after task lines) line ++ rest) × HasForm task.vars (number_after task lines) line)

-- no whole line within the limit
abbrev AtEnd : Task → List ℕ → Literal → List Line → List ℕ → Result ℕ CertFault → Type 0
AtEnd task bytes goal lines tail answer =
    ((answer ≡ Ok (length lines)) × (tail ≡ []) × (length bytes ≤ task.limit) × AnyRefutes goal (clauses_of lines))
    ⊎ (((answer ≡ Err NotRefuting) × (tail ≡ []) × (length bytes ≤ task.limit) × (AnyRefutes goal (clauses_of lines) → ⊥))
    ⊎ (((answer ≡ Err (ALine (place_after lines))) × (1 ≤ length tail) × (length bytes ≤ task.limit))
    ⊎ ((answer ≡ Err Endless) × (task.limit < length bytes))))

record Ending (task : Task) (bytes : List ℕ) (goal : Literal) (answer : Result ℕ CertFault) : Type 0 where
  pub lines : List Line
  pub tail : List ℕ
  pub reads : Reads task (take task.limit bytes) lines tail
  pub none : NoneNext task.vars (task.formula ++ clauses_of lines) tail
  pub ends : AtLine task lines tail answer ⊎ (IsFree 10 tail × AtEnd task bytes goal lines tail answer)

-- the bytes within the limit are all
reads_whole : (task : Task) (bytes : List ℕ) (lines : List Line) (tail : List ℕ) → length bytes ≤ task.limit → Reads task bytes lines tail → Reads task (take task.limit bytes) lines tail
reads_whole task bytes lines tail within reads = subst (λ (xs : List ℕ). Reads task xs lines tail) (sym (take_all task.limit bytes within)) reads

free_nil : IsFree 10 []
free_nil k d h = absurd (omega arith)

at_malformed : (task : Task) (bytes : List ℕ) (goal : Literal) (place : ℕ) → IsSmall task → HasMalformedLine task (take task.limit bytes) place → Ending task bytes goal (Err (ALine place))
at_malformed task bytes goal place small h = record {
  lines = h.lines;
  tail = h.word ++ 10 ∷ h.rest;
  reads = h.reads;
  none = none_malformed task h.lines h.word h.rest small h.free h.other;
  ends = inl (inl (h.word, h.rest, ap (λ (p : ℕ). Err (ALine p)) h.is_place, refl, h.other, h.free));
}

at_bad : (task : Task) (bytes : List ℕ) (goal : Literal) (place : ℕ) → IsSmall task → HasBadLine task (take task.limit bytes) place → Ending task bytes goal (Err (Bad place))
at_bad task bytes goal place small h = record {
  lines = h.lines;
  tail = line_text (number_after task h.lines) h.line ++ h.rest;
  reads = h.reads;
  none = none_bad task h.lines h.line h.rest small h.form h.bad;
  ends = inl (inr (h.line, h.rest, ap (λ (p : ℕ). Err (Bad p)) h.is_place, refl, h.form));
}

at_cut : (task : Task) (bytes : List ℕ) (goal : Literal) (place : ℕ) → HasCutLine task bytes place → Ending task bytes goal (Err (ALine place))
at_cut task bytes goal place h = record {
  lines = h.lines;
  tail = h.rest;
  reads = reads_whole task bytes h.lines h.rest h.within h.reads;
  none = none_free task.vars (task.formula ++ clauses_of h.lines) h.rest h.free;
  ends = inr (h.free, inr (inr (inl (ap (λ (p : ℕ). Err (ALine p)) h.is_place, h.some, h.within))));
}

at_too_long : (task : Task) (bytes : List ℕ) (goal : Literal) → IsTooLong task bytes → Ending task bytes goal (Err Endless)
at_too_long task bytes goal h = record {
  lines = h.lines;
  tail = h.rest;
  reads = h.reads;
  none = none_free task.vars (task.formula ++ clauses_of h.lines) h.rest h.free;
  ends = inr (h.free, inr (inr (inr (refl, h.over))));
}

ending : (task : Task) (bytes : List ℕ) (goal : Literal) (answer : Result ℕ CertFault) → IsSmall task → Answers task bytes goal answer → answer ≢ Err NoMemory → Ending task bytes goal answer
ending task bytes goal (Ok count) small h memory = record {
  lines = h.lines;
  tail = [];
  reads = reads_whole task bytes h.lines [] h.accepted.within h.accepted.reads;
  none = none_free task.vars (task.formula ++ clauses_of h.lines) [] free_nil;
  ends = inr (free_nil, inl (ap (λ (n : ℕ). Ok n) (sym h.counted), refl, h.accepted.within, h.refutes));
}
ending task bytes goal (Err (ALine place)) small h memory = elim h [ inl bad ↦ at_malformed task bytes goal place small bad | inr cut ↦ at_cut task bytes goal place cut ]
ending task bytes goal (Err (Bad place)) small h memory = at_bad task bytes goal place small h
ending task bytes goal (Err NotRefuting) small h memory = record {
  lines = h.lines;
  tail = [];
  reads = reads_whole task bytes h.lines [] h.accepted.within h.accepted.reads;
  none = none_free task.vars (task.formula ++ clauses_of h.lines) [] free_nil;
  ends = inr (free_nil, inr (inl (refl, refl, h.accepted.within, h.open_goal)));
}
ending task bytes goal (Err Endless) small h memory = at_too_long task bytes goal h
ending task bytes goal (Err NoMemory) small h memory = absurd (memory refl)

-- ---- one ending

nothing_some : (tail : List ℕ) → tail ≡ [] → 1 ≤ length tail → ⊥
nothing_some tail none some = let len = ap length none in omega arith

not_both : (task : Task) (lines : List Line) (tail word rest : List ℕ) (line : Line) (more : List ℕ) → IsSmall task → length (task.formula ++ clauses_of lines) + 1 < 2 ^ 64 → tail ≡ word ++ 10 ∷ rest → (IsLineText task (number_after task lines) (word ++ 10 ∷ []) → ⊥) → IsFree 10 word
    → tail ≡ line_text (number_after task lines) line ++ more → HasForm task.vars (number_after task lines) line → ⊥
not_both task lines tail word rest line more small few text other free is form =
    let n = number_after task lines in
    let count = count_is task lines in
    let words = word_before 10 word (word_of n line) rest more free (free_word task.vars n line small.vars (omega arith) form) (sym text ∙ is ∙ line_feed n line more) in
    other (line, form, ap (λ (xs : List ℕ). xs ++ 10 ∷ []) words.0 ∙ sym (line_is_word n line))

one_at_line : (task : Task) (lines : List Line) (tail : List ℕ) (a b : Result ℕ CertFault) → IsSmall task → length (task.formula ++ clauses_of lines) + 1 < 2 ^ 64 → AtLine task lines tail a → AtLine task lines tail b → a ≡ b
one_at_line task lines tail a b small few (inl (word, rest, is, text, other, free)) (inl (word', rest', is', text', other', free')) = is ∙ sym is'
one_at_line task lines tail a b small few (inr (line, rest, is, text, form)) (inr (line', rest', is', text', form')) = is ∙ sym is'
one_at_line task lines tail a b small few (inl (word, rest, is, text, other, free)) (inr (line, rest', is', text', form)) =
    absurd (not_both task lines tail word rest line rest' small few text other free text' form)
one_at_line task lines tail a b small few (inr (line, rest', is', text', form)) (inl (word, rest, is, text, other, free)) =
    absurd (not_both task lines tail word rest line rest' small few text other free text' form)

line_not_free : (task : Task) (lines : List Line) (tail : List ℕ) (a : Result ℕ CertFault) → AtLine task lines tail a → IsFree 10 tail → ⊥
line_not_free task lines tail a (inl (word, rest, is, text, other, alone)) free = no_feed tail word rest free text
line_not_free task lines tail a (inr (line, rest, is, text, form)) free = no_feed tail (word_of (number_after task lines) line) rest free (text ∙ line_feed (number_after task lines) line rest)

one_at_end : (task : Task) (bytes : List ℕ) (goal : Literal) (lines : List Line) (tail : List ℕ) (a b : Result ℕ CertFault) → AtEnd task bytes goal lines tail a → AtEnd task bytes goal lines tail b → a ≡ b
one_at_end task bytes goal lines tail a b (inl x) (inl y) = x.0 ∙ sym y.0
one_at_end task bytes goal lines tail a b (inl x) (inr (inl y)) = absurd (y.3 x.3)
one_at_end task bytes goal lines tail a b (inl x) (inr (inr (inl y))) = absurd (nothing_some tail x.1 y.1)
one_at_end task bytes goal lines tail a b (inl x) (inr (inr (inr y))) = absurd (let low = x.2 in let over = y.1 in omega arith)
one_at_end task bytes goal lines tail a b (inr (inl x)) (inl y) = absurd (x.3 y.3)
one_at_end task bytes goal lines tail a b (inr (inl x)) (inr (inl y)) = x.0 ∙ sym y.0
one_at_end task bytes goal lines tail a b (inr (inl x)) (inr (inr (inl y))) = absurd (nothing_some tail x.1 y.1)
one_at_end task bytes goal lines tail a b (inr (inl x)) (inr (inr (inr y))) = absurd (let low = x.2 in let over = y.1 in omega arith)
one_at_end task bytes goal lines tail a b (inr (inr (inl x))) (inl y) = absurd (nothing_some tail y.1 x.1)
one_at_end task bytes goal lines tail a b (inr (inr (inl x))) (inr (inl y)) = absurd (nothing_some tail y.1 x.1)
one_at_end task bytes goal lines tail a b (inr (inr (inl x))) (inr (inr (inl y))) = x.0 ∙ sym y.0
one_at_end task bytes goal lines tail a b (inr (inr (inl x))) (inr (inr (inr y))) = absurd (let low = x.2 in let over = y.1 in omega arith)
one_at_end task bytes goal lines tail a b (inr (inr (inr x))) (inl y) = absurd (let low = y.2 in let over = x.1 in omega arith)
one_at_end task bytes goal lines tail a b (inr (inr (inr x))) (inr (inl y)) = absurd (let low = y.2 in let over = x.1 in omega arith)
one_at_end task bytes goal lines tail a b (inr (inr (inr x))) (inr (inr (inl y))) = absurd (let low = y.2 in let over = x.1 in omega arith)
one_at_end task bytes goal lines tail a b (inr (inr (inr x))) (inr (inr (inr y))) = x.0 ∙ sym y.0

some_tail : (task : Task) (lines : List Line) (tail : List ℕ) (a : Result ℕ CertFault) → AtLine task lines tail a → 1 ≤ length tail
some_tail task lines tail a (inl (word, rest, is, text, other, free)) = let len = ap length text in let parts = length-append word (10 ∷ rest) in omega arith
some_tail task lines tail a (inr (line, rest, is, text, form)) = let len = ap length text in let some = some_bytes (number_after task lines) line rest in omega arith

one_ending : (task : Task) (bytes : List ℕ) (goal : Literal) (lines : List Line) (tail : List ℕ) (a b : Result ℕ CertFault) → IsSmall task → (1 ≤ length tail → length (task.formula ++ clauses_of lines) + 1 < 2 ^ 64)
    → AtLine task lines tail a ⊎ (IsFree 10 tail × AtEnd task bytes goal lines tail a) → AtLine task lines tail b ⊎ (IsFree 10 tail × AtEnd task bytes goal lines tail b) → a ≡ b
one_ending task bytes goal lines tail a b small few (inl x) (inl y) = one_at_line task lines tail a b small (few (some_tail task lines tail a x)) x y
one_ending task bytes goal lines tail a b small few (inl x) (inr y) = absurd (line_not_free task lines tail a x y.0)
one_ending task bytes goal lines tail a b small few (inr x) (inl y) = absurd (line_not_free task lines tail b y x.0)
one_ending task bytes goal lines tail a b small few (inr x) (inr y) = one_at_end task bytes goal lines tail a b x.1 y.1

-- ---- so many lines take as many bytes

length-take-limit : (limit : ℕ) (bytes : List ℕ) → length (take limit bytes) ≤ limit
length-take-limit zero bytes = omega arith
length-take-limit (suc limit) [] = omega arith
length-take-limit (suc limit) (x ∷ bytes) = let rest = length-take-limit limit bytes in omega arith

long_lines : (number : ℕ) (lines : List Line) → length lines ≤ length (lines_text number lines)
long_lines number [] = omega arith
long_lines number (line ∷ lines) = let rest = long_lines (number + 1) lines in let some = some_bytes number line (lines_text (number + 1) lines) in omega arith

few_lines : (task : Task) (bytes : List ℕ) (lines : List Line) (tail : List ℕ) → IsSmall task → Reads task (take task.limit bytes) lines tail → 1 ≤ length tail → length (task.formula ++ clauses_of lines) + 1 < 2 ^ 64
few_lines task bytes lines tail small reads some =
    let count = count_is task lines in
    let long = long_lines (length task.formula + 1) lines in
    let whole = ap length reads.text in
    let parts = length-append (lines_text (length task.formula + 1) lines) tail in
    let within = length-take-limit task.limit bytes in
    let bound = small.lines in
    omega arith

moved : (task : Task) (bytes : List ℕ) (goal : Literal) (lines others : List Line) (tail rest : List ℕ) (answer : Result ℕ CertFault) → lines ≡ others → tail ≡ rest
    → AtLine task others rest answer ⊎ (IsFree 10 rest × AtEnd task bytes goal others rest answer) → AtLine task lines tail answer ⊎ (IsFree 10 tail × AtEnd task bytes goal lines tail answer)
moved task bytes goal lines others tail rest answer same also ends =
    subst (λ (xs : List Line). AtLine task xs tail answer ⊎ (IsFree 10 tail × AtEnd task bytes goal xs tail answer)) (sym same)
    (subst (λ (xs : List ℕ). AtLine task others xs answer ⊎ (IsFree 10 xs × AtEnd task bytes goal others xs answer)) (sym also) ends)

pub one_answer : (task : Task) (bytes : List ℕ) (goal : Literal) (answer other : Result ℕ CertFault) → IsSmall task → Answers task bytes goal answer → answer ≢ Err NoMemory → Answers task bytes goal other → other ≢ Err NoMemory → answer ≡ other
one_answer task bytes goal answer other small first memory second also =
    let x = ending task bytes goal answer small first memory in
    let y = ending task bytes goal other small second also in
    let within = length-take-limit task.limit bytes in
    let bound = small.lines in
    let same = one_reading task.vars task.formula x.lines y.lines (take task.limit bytes) x.tail y.tail small.vars (omega arith) x.reads.text x.reads.accepted x.none y.reads.text y.reads.accepted y.none in
    one_ending task bytes goal x.lines x.tail answer other small (few_lines task bytes x.lines x.tail small x.reads) x.ends (moved task bytes goal x.lines y.lines x.tail y.tail other same.0 same.1 y.ends)
