-- The exported lines have the form and are right.
use Rattle.std.proofs.Common.{◌≡◌, ℕ, zero, suc, ◌+◌, ◌-◌, ◌<◌, ◌≤◌, ◌^◌, Bool, true, false, cond, eqb, List, [], ◌∷◌, ◌++◌, inl, inr, length, map, take, drop, slice_index_or, refl, sym, ap, ◌∙◌, subst, arith, append_assoc, length-append}
use Rattle.std.specs.Prelude.{All, reverse}
use Rattle.std.proofs.lemmas.List.{append-nil, reverse-append, get_or_append_left, get_or-append_right, length-map, map-append, length-take-le, take-append-drop, get_or-take}
use Rattle.std.proofs.lemmas.Bool.{cond-true, cond-false, eq-eqb, ne_eqb}
use Rattle.sat_base.specs.Literal.{Literal, negated, positive_of}
use Rattle.sat_base.specs.Clauses.{EachVariable, NameOnly, clause_at}
use Rattle.sat_base.specs.Resolution.{ResolveTo}
use Rattle.sat_base.specs.Derivation.{Refutes}
use Rattle.sat_base.proofs.Clauses.{NameOnly-append}
use Rattle.sat_base.proofs.Few.{IsOneOf, resolve_within}
use Rattle.sat_base.proofs.Sets.{HasDistinctVariables-ascending}
use Rattle.sat_base.proofs.Resolving.{negated-negated}
use Rattle.derivation_log.specs.declared.line_id.LineId.{LineId}
use Rattle.derivation_log.specs.Log.{Derived, Lines, log_of, derived_id, clauses_of, IsLine, clause_of, chain_of, AreSound, IsSound}
use Rattle.derivation_log.proofs.Logs.{clause_of-more, distinct_of}
use Rattle.derivation_log.proofs.Texts.{no_line, at, clause_at_index}
use Rattle.lrat_out.specs.declared.standing.Standing.{Standing}
use Rattle.lrat_out.specs.declared.standing.Standing.TheVariants.{Holds, Fails, OneOpen, MoreOpen}
use Rattle.lrat_out.specs.Lines.{ProofLine, Numbered, Hand, hand_of, after, after_all, HaveNumber, clause_in, IsNumber, clause_named, last_of, last_number, HasForm}
use Rattle.lrat_out.specs.Right.{AreDenied, IsUnit, Propagates, AreAccepted}
use Rattle.lrat_out.specs.Faults.{HaveEmpty}
use Rattle.lrat_out.specs.Standing.{standing}
use Rattle.lrat_out.specs.Export.{kept, thin, with_goal, hint_of, proof_line, proof_lines_from, closing_lines, proof_lines}
use Rattle.lrat_out.proofs.Numbers.{named_early, named_late}
use Rattle.lrat_out.proofs.Thinning.{Name, clauses, thinned_propagate}

-- ---- clauses that are numbered on

abbrev pub numbers_from : ℕ → List (List Literal) → List Numbered
numbers_from number [] = []
numbers_from number (clause ∷ clauses) = record { number = number; clause = clause } ∷ numbers_from (number + 1) clauses

numbers_push : (number : ℕ) (clauses : List (List Literal)) (clause : List Literal) → numbers_from number (clauses ++ clause ∷ []) ≡ numbers_from number clauses ++ record { number = number + length clauses; clause = clause } ∷ []
numbers_push number [] clause = let e : number + 0 ≡ number = omega arith in ap (λ (n : ℕ). record { number = n; clause = clause } ∷ []) (sym e)
numbers_push number (first ∷ clauses) clause =
    let e : number + 1 + length clauses ≡ number + suc (length clauses) = omega arith in
    ap (λ (rest : List Numbered). record { number = number; clause = first } ∷ rest) (numbers_push (number + 1) clauses clause ∙ ap (λ (n : ℕ). numbers_from (number + 1) clauses ++ record { number = n; clause = clause } ∷ []) e)

last_numbered : (last : ℕ) (clauses : List (List Literal)) → last_of last (numbers_from (last + 1) clauses) ≡ last + length clauses
last_numbered last [] = omega arith
last_numbered last (clause ∷ clauses) = let rest = last_numbered (last + 1) clauses in omega arith

found_in : (number index : ℕ) (clauses : List (List Literal)) → index < length clauses → clause_in (numbers_from number clauses) (number + index) ≡ slice_index_or clauses index []
found_in number index [] within = absurd (omega arith)
found_in number zero (clause ∷ clauses) within = cond-true (eqb number (number + 0)) clause (clause_in (numbers_from (number + 1) clauses) (number + 0)) (eq-eqb number (number + 0) (omega arith))
found_in number (suc index) (clause ∷ clauses) within =
    let next : number + suc index ≡ number + 1 + index = omega arith in
    cond-false (eqb number (number + suc index)) clause (clause_in (numbers_from (number + 1) clauses) (number + suc index)) (ne_eqb number (number + suc index) (λ e. omega arith))
    ∙ ap (clause_in (numbers_from (number + 1) clauses)) next ∙ found_in (number + 1) index clauses (omega arith)

have_in : (number index : ℕ) (clauses : List (List Literal)) → index < length clauses → HaveNumber (numbers_from number clauses) (number + index)
have_in number index [] within = absurd (omega arith)
have_in number zero (clause ∷ clauses) within = inl (omega arith)
have_in number (suc index) (clause ∷ clauses) within =
    let next : number + 1 + index ≡ number + suc index = omega arith in
    inr (subst (HaveNumber (numbers_from (number + 1) clauses)) next (have_in (number + 1) index clauses (omega arith)))

-- ---- what is in hand after derived lines

abbrev pub hand_before : Lines → ℕ → List Derived → Hand
hand_before log goal before = record { formula = with_goal log goal; lines = numbers_from (length log.axioms + 2) (clauses_of before) }

count_with : (log : Lines) (goal : ℕ) → length (with_goal log goal) ≡ length log.axioms + 1
count_with log goal = length-append log.axioms ((positive_of goal ∷ []) ∷ [])

count_of : (lines : List Derived) → length (clauses_of lines) ≡ length lines
count_of lines = length-map lines (λ (line : Derived). line.clause)

named_clause : (log : Lines) (goal : ℕ) (before : List Derived) (derived : Bool) (number : ℕ) → 1 ≤ number → number ≤ cond derived (length before) (length log.axioms)
    → clause_named (hand_before log goal before) (cond derived (length log.axioms + 1 + number) number) ≡ clause_at (cond derived (clauses_of before) log.axioms) number
named_clause log goal before true number low high =
    let axioms = length log.axioms in
    let count = count_with log goal in
    let len = count_of before in
    let place : axioms + 1 + number ≡ axioms + 2 + (number - 1) = omega arith in
    sym (named_late (with_goal log goal) (numbers_from (axioms + 2) (clauses_of before)) (axioms + 1 + number) (omega arith))
    ∙ ap (clause_in (numbers_from (axioms + 2) (clauses_of before))) place ∙ found_in (axioms + 2) (number - 1) (clauses_of before) (omega arith)
named_clause log goal before false number low high =
    let count = count_with log goal in
    sym (named_early (with_goal log goal) (numbers_from (length log.axioms + 2) (clauses_of before)) number low (omega arith))
    ∙ get_or_append_left log.axioms ((positive_of goal ∷ []) ∷ []) [] (number - 1) (omega arith)

named_number : (log : Lines) (goal : ℕ) (before : List Derived) (derived : Bool) (number : ℕ) → 1 ≤ number → number ≤ cond derived (length before) (length log.axioms)
    → IsNumber (hand_before log goal before) (cond derived (length log.axioms + 1 + number) number)
named_number log goal before true number low high =
    let axioms = length log.axioms in
    let len = count_of before in
    let place : axioms + 2 + (number - 1) ≡ axioms + 1 + number = omega arith in
    inr (subst (HaveNumber (numbers_from (axioms + 2) (clauses_of before))) place (have_in (axioms + 2) (number - 1) (clauses_of before) (omega arith)))
named_number log goal before false number low high = let count = count_with log goal in inl (low, omega arith)

-- ---- the hints of a line

-- the fact holds of the number of each hint
abbrev EachNumber : (ℕ → Type 0) → List Numbered → Type 0
EachNumber P [] = Unit {0}
EachNumber P (hint ∷ hints) = P hint.number × EachNumber P hints

EachNumber-append : (P : ℕ → Type 0) (a b : List Numbered) → EachNumber P a → EachNumber P b → EachNumber P (a ++ b)
EachNumber-append P [] b pa pb = pb
EachNumber-append P (hint ∷ a) b pa pb = (pa.0, EachNumber-append P a b pa.1 pb)

EachNumber-reverse : (P : ℕ → Type 0) (hints : List Numbered) → EachNumber P hints → EachNumber P (reverse hints)
EachNumber-reverse P [] each = tt
EachNumber-reverse P (hint ∷ hints) each =
    subst (EachNumber P) (sym (reverse-append (hint ∷ []) hints)) (EachNumber-append P (reverse hints) (hint ∷ []) (EachNumber-reverse P hints each.1) (each.0, tt))

All-cons : (P : ℕ → Type 0) (x : ℕ) (xs : List ℕ) → P x → All P xs → All P (x ∷ xs)
All-cons P x xs here rest zero d h = here
All-cons P x xs here rest (suc k) d h = rest k d (omega arith)

All-none : (P : ℕ → Type 0) → All P []
All-none P k d h = absurd (omega arith)

thin_each : (P : ℕ → Type 0) (trues : List Literal) (hints : List Numbered) → EachNumber P hints → All P (thin trues hints)
thin_each P trues [] each = All-none P
thin_each P trues (hint ∷ hints) each = by_standing (standing trues hint.clause) (λ trues. thin_each P trues hints each.1)
  where
    by_standing : (s : Standing) → ((trues : List Literal) → All P (thin trues hints)) → All P (kept s hint.number (λ trues. thin trues hints) trues)
    by_standing Holds further = further trues
    by_standing Fails further = All-cons P hint.number [] each.0 (All-none P)
    by_standing (OneOpen unit) further = All-cons P hint.number (thin (trues ++ unit ∷ []) hints) each.0 (further (trues ++ unit ∷ []))
    by_standing MoreOpen further = All-cons P hint.number (thin trues hints) each.0 (further trues)

clause_same : (log : Lines) (before later : List Derived) (line : LineId) → log.derived ≡ before ++ later → IsLine (log_of log.axioms before) line → clause_of log line ≡ clause_of (log_of log.axioms before) line
clause_same log before later line whole is =
    let grown : clause_of (log_of log.axioms (before ++ later)) line ≡ clause_of (log_of log.axioms before) line =
    subst (λ (axioms : List (List Literal)). clause_of (log_of axioms (before ++ later)) line ≡ clause_of (log_of log.axioms before) line) (append-nil log.axioms) (clause_of-more log.axioms [] before later line is) in
    subst (λ (derived : List Derived). clause_of (log_of log.axioms derived) line ≡ clause_of (log_of log.axioms before) line) (sym whole) grown

chain_same : (log : Lines) (before later : List Derived) (hints : List LineId) → log.derived ≡ before ++ later → All (IsLine (log_of log.axioms before)) hints → clauses (map (hint_of log) hints) ≡ chain_of (log_of log.axioms before) hints
chain_same log before later [] whole named = refl
chain_same log before later (hint ∷ hints) whole named =
    let first = clause_same log before later hint whole (named 0 hint (omega arith)) in
    let rest = chain_same log before later hints whole (λ k d h. named (suc k) d (omega arith)) in
    λ i. first i ∷ rest i

names : (log : Lines) (goal : ℕ) (before later : List Derived) (hints : List LineId) → IsSound log → log.derived ≡ before ++ later → All (IsLine (log_of log.axioms before)) hints → Name (clause_named (hand_before log goal before)) (map (hint_of log) hints)
names log goal before later [] sound whole named = tt
names log goal before later (hint ∷ hints) sound whole named =
    let here = named 0 hint (omega arith) in (
      named_clause log goal before hint.derived hint.number here.counted here.within ∙ sym (clause_same log before later hint whole here),
      distinct_of log hint sound,
      names log goal before later hints sound whole (λ k d h. named (suc k) d (omega arith)),
    )

numbers : (log : Lines) (goal : ℕ) (before : List Derived) (hints : List LineId) → All (IsLine (log_of log.axioms before)) hints → EachNumber (IsNumber (hand_before log goal before)) (map (hint_of log) hints)
numbers log goal before [] named = tt
numbers log goal before (hint ∷ hints) named =
    let here = named 0 hint (omega arith) in
    (named_number log goal before hint.derived hint.number here.counted here.within, numbers log goal before hints (λ k d h. named (suc k) d (omega arith)))

-- ---- the variables of a line

at_within : (P : ℕ → Type 0) (clauses : List (List Literal)) (index : ℕ) → NameOnly P clauses → EachVariable P (slice_index_or clauses index [])
at_within P [] index only = tt
at_within P (clause ∷ clauses) zero only = only.0
at_within P (clause ∷ clauses) (suc index) only = at_within P clauses index only.1

clause_within : (P : ℕ → Type 0) (axioms : List (List Literal)) (before : List Derived) (derived : Bool) (number : ℕ) → NameOnly P axioms → NameOnly P (clauses_of before) → EachVariable P (clause_at (cond derived (clauses_of before) axioms) number)
clause_within P axioms before true number only also = at_within P (clauses_of before) (number - 1) also
clause_within P axioms before false number only also = at_within P axioms (number - 1) only

chain_within : (P : ℕ → Type 0) (axioms : List (List Literal)) (before : List Derived) (hints : List LineId) → NameOnly P axioms → NameOnly P (clauses_of before) → NameOnly P (chain_of (log_of axioms before) hints)
chain_within P axioms before [] only also = tt
chain_within P axioms before (hint ∷ hints) only also = (clause_within P axioms before hint.derived hint.number only also, chain_within P axioms before hints only also)

only_axioms : (P : ℕ → Type 0) (axioms : List (List Literal)) (goal : List Literal) → NameOnly P (axioms ++ goal ∷ []) → NameOnly P axioms
only_axioms P [] goal only = tt
only_axioms P (clause ∷ axioms) goal only = (only.0, only_axioms P axioms goal only.1)

-- ---- the derived lines

after_line : (log : Lines) (goal : ℕ) (before : List Derived) (line : Derived) → after (hand_before log goal before) (proof_line log (length before + 1) line) ≡ hand_before log goal (before ++ line ∷ [])
after_line log goal before line =
    let axioms = length log.axioms in
    let len = count_of before in
    let number : axioms + 2 + length (clauses_of before) ≡ axioms + 1 + (length before + 1) = omega arith in
    let pushed = ap (numbers_from (axioms + 2)) (map-append (λ (line : Derived). line.clause) before (line ∷ [])) ∙ numbers_push (axioms + 2) (clauses_of before) line.clause ∙ ap (λ (n : ℕ). numbers_from (axioms + 2) (clauses_of before) ++ record { number = n; clause = line.clause } ∷ []) number in
    λ i. record { formula = with_goal log goal; lines = sym pushed i }

last_before : (log : Lines) (goal : ℕ) (before : List Derived) → last_number (hand_before log goal before) ≡ length log.axioms + 1 + length before
last_before log goal before =
    let axioms = length log.axioms in
    let next : axioms + 1 + 1 ≡ axioms + 2 = omega arith in
    ap (λ (n : ℕ). last_of n (numbers_from (axioms + 2) (clauses_of before))) (count_with log goal)
    ∙ ap (λ (n : ℕ). last_of (axioms + 1) (numbers_from n (clauses_of before))) (sym next)
    ∙ last_numbered (axioms + 1) (clauses_of before) ∙ ap (λ (n : ℕ). axioms + 1 + n) (count_of before)

pub lines_accepted : (log : Lines) (goal vars : ℕ) (before lines others : List Derived) → IsSound log → NameOnly (IsOneOf vars) (with_goal log goal) → NameOnly (IsOneOf vars) (clauses_of before) → log.derived ≡ before ++ (lines ++ others) → AreSound log.axioms before lines
    → length log.axioms + 1 + (length before + length lines) < 2 ^ 64 → AreAccepted vars (hand_before log goal before) (proof_lines_from log (length before + 1) lines)
lines_accepted log goal vars before [] others sound only also whole rest fits = tt
lines_accepted log goal vars before (line ∷ lines) others sound only also whole rest fits =
    let follows = rest.0 in
    let hand = hand_before log goal before in
    let distinct = HasDistinctVariables-ascending line.clause follows.ascending in
    let chain = chain_same log before (line ∷ lines ++ others) line.hints whole follows.named in
    let resolve = subst (λ (cs : List (List Literal)). ResolveTo cs line.clause) (sym chain) follows.resolve in
    let axioms_only = only_axioms (IsOneOf vars) log.axioms (positive_of goal ∷ []) only in
    let within = resolve_within (IsOneOf vars) (chain_of (log_of log.axioms before) line.hints) line.clause follows.resolve (chain_within (IsOneOf vars) log.axioms before line.hints axioms_only also) in
    let last = last_before log goal before in
    let form : HasForm vars hand (proof_line log (length before + 1) line) = record {
      above = omega arith;
      fits = omega arith;
      within = within;
      distinct = distinct;
      named = thin_each (IsNumber hand) (map negated line.clause) (reverse (map (hint_of log) line.hints)) (EachNumber-reverse (IsNumber hand) (map (hint_of log) line.hints) (numbers log goal before line.hints follows.named));
    } in
    let right = thinned_propagate (clause_named hand) (map (hint_of log) line.hints) line.clause (names log goal before (line ∷ lines ++ others) line.hints sound whole follows.named) distinct resolve in
    let grown : length (before ++ line ∷ []) ≡ length before + 1 = length-append before (line ∷ []) in
    let moved : log.derived ≡ (before ++ line ∷ []) ++ (lines ++ others) = whole ∙ sym (append_assoc before (line ∷ []) (lines ++ others)) in
    let more : NameOnly (IsOneOf vars) (clauses_of (before ++ line ∷ [])) = subst (NameOnly (IsOneOf vars)) (sym (map-append (λ (line : Derived). line.clause) before (line ∷ []))) (NameOnly-append (IsOneOf vars) (clauses_of before) (line.clause ∷ []) also (within, tt)) in
    let later = lines_accepted log goal vars (before ++ line ∷ []) lines others sound only more moved rest.1 (omega arith) in (
      form,
      right,
      subst (λ (hand : Hand). AreAccepted vars hand (proof_lines_from log (length before + 1 + 1) lines)) (sym (after_line log goal before line))
          (subst (λ (n : ℕ). AreAccepted vars (hand_before log goal (before ++ line ∷ [])) (proof_lines_from log (n + 1) lines)) grown later),
    )

after_lines : (log : Lines) (goal : ℕ) (before lines : List Derived) → after_all (hand_before log goal before) (proof_lines_from log (length before + 1) lines) ≡ hand_before log goal (before ++ lines)
after_lines log goal before [] = ap (hand_before log goal) (sym (append-nil before))
after_lines log goal before (line ∷ lines) =
    let grown : length (before ++ line ∷ []) ≡ length before + 1 = length-append before (line ∷ []) in
    ap (λ (hand : Hand). after_all hand (proof_lines_from log (length before + 1 + 1) lines)) (after_line log goal before line)
    ∙ ap (λ (n : ℕ). after_all (hand_before log goal (before ++ line ∷ [])) (proof_lines_from log (n + 1) lines)) (sym grown)
    ∙ after_lines log goal (before ++ line ∷ []) lines ∙ ap (hand_before log goal) (append_assoc before (line ∷ []) lines)

accepted_append : (vars : ℕ) (hand : Hand) (a b : List ProofLine) → AreAccepted vars hand a → AreAccepted vars (after_all hand a) b → AreAccepted vars hand (a ++ b)
accepted_append vars hand [] b first second = second
accepted_append vars hand (line ∷ a) b first second = (first.0, first.1, accepted_append vars (after hand line) a b first.2 second)

-- ---- the empty clause

empty_at : (log : Lines) (k index : ℕ) (lines : List Derived) → index < length lines → (at lines index).clause ≡ [] → HaveEmpty (proof_lines_from log k lines)
empty_at log k index [] within none = absurd (omega arith)
empty_at log k zero (line ∷ lines) within none = inl none
empty_at log k (suc index) (line ∷ lines) within none = inr (empty_at log (k + 1) index lines (omega arith) none)

empty_append : (a b : List ProofLine) → HaveEmpty a → HaveEmpty (a ++ b)
empty_append [] b none = absurd none
empty_append (line ∷ a) b (inl e) = inl e
empty_append (line ∷ a) b (inr h) = inr (empty_append a b h)

empty_append_right : (a b : List ProofLine) → HaveEmpty b → HaveEmpty (a ++ b)
empty_append_right [] b h = h
empty_append_right (line ∷ a) b h = inr (empty_append_right a b h)

-- the goal's unit clause and a clause that has no literal but its negation propagate
goal_propagates : (goal : Literal) (clause : List Literal) → Refutes goal clause → Propagates [] ((goal ∷ []) ∷ clause ∷ [])
goal_propagates goal clause refutes =
    let unit : IsUnit [] (goal ∷ []) goal = record {
      has = inl refl;
      unassigned = tt;
      others = λ literal has ne. elim has [ inl e ↦ absurd (ne (sym e)) | inr none ↦ absurd none ];
    } in
    let denied : AreDenied (goal ∷ []) clause = λ literal has. inl (sym (ap negated (refutes literal has) ∙ negated-negated goal)) in
    inr (goal, unit, inl denied)

goal_named : (log : Lines) (goal : ℕ) (before : List Derived) → clause_named (hand_before log goal before) (length log.axioms + 1) ≡ positive_of goal ∷ []
goal_named log goal before =
    let axioms = length log.axioms in
    let count = count_with log goal in
    let place : axioms + 1 - 1 - axioms ≡ 0 = omega arith in
    sym (named_early (with_goal log goal) (numbers_from (axioms + 2) (clauses_of before)) (axioms + 1) (omega arith) (omega arith))
    ∙ get_or-append_right log.axioms ((positive_of goal ∷ []) ∷ []) axioms (axioms + 1 - 1) [] refl (omega arith)
    ∙ ap (λ (k : ℕ). slice_index_or ((positive_of goal ∷ []) ∷ []) k []) place

closing_accepted : (log : Lines) (goal vars last : ℕ) (lines : List Derived) (clause : List Literal) → length lines ≡ last → 1 ≤ last → clause_at (clauses_of lines) last ≡ clause → Refutes (positive_of goal) clause → length log.axioms + last + 2 < 2 ^ 64
    → AreAccepted vars (hand_before log goal lines) (closing_lines (length log.axioms) last clause)
closing_accepted log goal vars last lines [] len low is refutes fits = tt
closing_accepted log goal vars last lines (literal ∷ rest) len low is refutes fits =
    let axioms = length log.axioms in
    let hand = hand_before log goal lines in
    let number = last_before log goal lines in
    let count = count_with log goal in
    let named : clause_named hand (axioms + 1 + last) ≡ literal ∷ rest = named_clause log goal lines true last low (omega arith) ∙ is in
    let first = goal_named log goal lines in
    let hints : map (clause_named hand) ((axioms + 1) ∷ (axioms + 1 + last) ∷ []) ≡ (positive_of goal ∷ []) ∷ (literal ∷ rest) ∷ [] = λ i. first i ∷ named i ∷ [] in (
      record {
        above = omega arith;
        fits = omega arith;
        within = tt;
        distinct = tt;
        named = All-cons (IsNumber hand) (axioms + 1) ((axioms + 1 + last) ∷ []) (inl (omega arith, omega arith))
            (All-cons (IsNumber hand) (axioms + 1 + last) [] (named_number log goal lines true last low (omega arith)) (All-none (IsNumber hand)));
      },
      subst (Propagates []) (sym hints) (goal_propagates (positive_of goal) (literal ∷ rest) refutes),
      tt,
    )

closing_empty : (axioms last : ℕ) (literal : Literal) (rest : List Literal) → HaveEmpty (closing_lines axioms last (literal ∷ rest))
closing_empty axioms last literal rest = inl refl

sound_take : (axioms : List (List Literal)) (before lines : List Derived) (k : ℕ) → AreSound axioms before lines → AreSound axioms before (take k lines)
sound_take axioms before [] zero sound = tt
sound_take axioms before [] (suc k) sound = tt
sound_take axioms before (line ∷ lines) zero sound = tt
sound_take axioms before (line ∷ lines) (suc k) sound = (sound.0, sound_take axioms (before ++ line ∷ []) lines k sound.1)

pub all_accepted : (log : Lines) (goal last vars : ℕ) → IsSound log → IsLine log (derived_id last) → Refutes (positive_of goal) (clause_of log (derived_id last)) → length log.axioms + last + 2 < 2 ^ 64 → NameOnly (IsOneOf vars) (with_goal log goal)
    → AreAccepted vars (hand_of (with_goal log goal)) (proof_lines log last)
all_accepted log goal last vars sound line refutes fits only =
    let lines = take last log.derived in
    let low = line.counted in
    let high = line.within in
    let len : length lines ≡ last = length-take-le last log.derived (omega arith) in
    let whole : log.derived ≡ [] ++ (lines ++ drop last log.derived) = sym (take-append-drop last log.derived) in
    let derived = lines_accepted log goal vars [] lines (drop last log.derived) sound only tt whole (sound_take log.axioms [] log.derived last sound.sound) (omega arith) in
    let mapped : length (clauses_of lines) ≡ last = count_of lines ∙ len in
    let split : clauses_of log.derived ≡ clauses_of lines ++ clauses_of (drop last log.derived) = ap clauses_of (sym (take-append-drop last log.derived)) ∙ map-append (λ (line : Derived). line.clause) lines (drop last log.derived) in
    let is : clause_at (clauses_of lines) last ≡ clause_of log (derived_id last) = sym (ap (λ (cs : List (List Literal)). clause_at cs last) split ∙ get_or_append_left (clauses_of lines) (clauses_of (drop last log.derived)) [] (last - 1) (omega arith)) in
    let closing = closing_accepted log goal vars last lines (clause_of log (derived_id last)) len low is refutes fits in
    accepted_append vars (hand_of (with_goal log goal)) (proof_lines_from log 1 lines) (closing_lines (length log.axioms) last (clause_of log (derived_id last))) derived
    (subst (λ (hand : Hand). AreAccepted vars hand (closing_lines (length log.axioms) last (clause_of log (derived_id last)))) (sym (after_lines log goal [] lines)) closing)

one_is_empty : (log : Lines) (last : ℕ) (clause : List Literal) → IsLine log (derived_id last) → clause_of log (derived_id last) ≡ clause → HaveEmpty (proof_lines_from log 1 (take last log.derived) ++ closing_lines (length log.axioms) last clause)
one_is_empty log last [] line is =
    let low = line.counted in
    let high = line.within in
    let len : length (take last log.derived) ≡ last = length-take-le last log.derived (omega arith) in
    let next : last - 1 + 1 ≡ last = omega arith in
    let found : (at (take last log.derived) (last - 1)).clause ≡ [] = ap (λ (line : Derived). line.clause) (get_or-take last log.derived (last - 1) no_line (omega arith)) ∙ sym (clause_at_index log (last - 1) (omega arith)) ∙ ap (λ (n : ℕ). clause_of log (derived_id n)) next ∙ is in
    empty_append (proof_lines_from log 1 (take last log.derived)) [] (empty_at log 1 (last - 1) (take last log.derived) (omega arith) found)
one_is_empty log last (literal ∷ rest) line is = empty_append_right (proof_lines_from log 1 (take last log.derived)) (closing_lines (length log.axioms) last (literal ∷ rest)) (closing_empty (length log.axioms) last literal rest)

pub have_empty : (log : Lines) (last : ℕ) → IsLine log (derived_id last) → HaveEmpty (proof_lines log last)
have_empty log last line = one_is_empty log last (clause_of log (derived_id last)) line refl
