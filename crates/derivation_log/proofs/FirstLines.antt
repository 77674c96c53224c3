-- The first lines of a log are derived from its first axioms.
use Rattle.std.proofs.Common.{◌≡◌, ℕ, zero, suc, ◌+◌, ◌-◌, ◌≤◌, Bool, true, false, cond, List, [], ◌∷◌, ◌++◌, length, map, take, slice_index_or, refl, sym, ap, ◌∙◌, subst, arith, append_assoc, length-append}
use Rattle.std.specs.Prelude.{All}
use Rattle.std.proofs.lemmas.List.{length-map, length-take-le, map-append, get_or_append_left, get_or-append_right, get_or-take}
use Rattle.sat_base.specs.Literal.{Literal}
use Rattle.sat_base.specs.Clauses.{NameOnly, clause_at}
use Rattle.sat_base.specs.Resolution.{ResolveTo}
use Rattle.sat_base.specs.Derivation.{IsDerived, AreDerived}
use Rattle.sat_base.specs.Certificate.{HaveForm}
use Rattle.sat_base.proofs.Clauses.{NameOnly-append}
use Rattle.sat_base.proofs.Few.{IsOneOf, resolve_within, named_within}
use Rattle.derivation_log.specs.declared.line_id.LineId.{LineId}
use Rattle.derivation_log.specs.Log.{Derived, Lines, log_of, clauses_of, IsLine, clause_of, chain_of, Follows, AreSound, IsSound}
use Rattle.derivation_log.specs.Printing.{number_of, line_of, first_lines, Covers, NameNoLaterAxiom}

-- the clauses in hand: the first axioms, and then the derived ones
abbrev in_hand : List (List Literal) → ℕ → List Derived → List (List Literal)
in_hand all axioms before = take axioms all ++ clauses_of before

same_clause : (all : List (List Literal)) (axioms : ℕ) (before : List Derived) (derived : Bool) (number : ℕ) → axioms ≤ length all → 1 ≤ number → number ≤ cond derived (length before) (length all) → (derived ≡ false → number ≤ axioms)
    → clause_at (in_hand all axioms before) (cond derived (axioms + number) number) ≡ clause_at (cond derived (clauses_of before) all) number
same_clause all axioms before true number there counted within early =
    let taken : length (take axioms all) ≡ axioms = length-take-le axioms all there in
    let e : axioms + number - 1 - axioms ≡ number - 1 = omega arith in
    get_or-append_right (take axioms all) (clauses_of before) axioms (axioms + number - 1) [] taken (omega arith) ∙ ap (λ (k : ℕ). slice_index_or (clauses_of before) k []) e
same_clause all axioms before false number there counted within early =
    let taken : length (take axioms all) ≡ axioms = length-take-le axioms all there in
    let low = early refl in
    get_or_append_left (take axioms all) (clauses_of before) [] (number - 1) (omega arith) ∙ get_or-take axioms all (number - 1) [] (omega arith)

same_chain : (all : List (List Literal)) (axioms : ℕ) (before : List Derived) (hints : List LineId) → axioms ≤ length all → All (IsLine (log_of all before)) hints → NameNoLaterAxiom axioms hints
    → map (clause_at (in_hand all axioms before)) (map (number_of axioms) hints) ≡ chain_of (log_of all before) hints
same_chain all axioms before [] there named early = refl
same_chain all axioms before (hint ∷ hints) there named early =
    let here = named 0 hint (omega arith) in
    let first : clause_at (in_hand all axioms before) (number_of axioms hint) ≡ clause_of (log_of all before) hint = same_clause all axioms before hint.derived hint.number there here.counted here.within (early 0 hint (omega arith)) in
    let rest : map (clause_at (in_hand all axioms before)) (map (number_of axioms) hints) ≡ chain_of (log_of all before) hints = same_chain all axioms before hints there (λ k d h. named (suc k) d (omega arith)) (λ k d h. early (suc k) d (omega arith)) in
    rw (first, rest) refl

in_range : (all axioms before : ℕ) (derived : Bool) (number : ℕ) → 1 ≤ number → number ≤ cond derived before all → (derived ≡ false → number ≤ axioms) → (1 ≤ cond derived (axioms + number) number) × (cond derived (axioms + number) number ≤ axioms + before)
in_range all axioms before true number counted within early = (omega arith, omega arith)
in_range all axioms before false number counted within early = let low = early refl in (counted, omega arith)

in_ranges : (all : List (List Literal)) (axioms : ℕ) (before : List Derived) (hints : List LineId) (whole : ℕ) → whole ≡ axioms + length before → All (IsLine (log_of all before)) hints → NameNoLaterAxiom axioms hints
    → All (λ hint. (1 ≤ hint) × (hint ≤ whole)) (map (number_of axioms) hints)
in_ranges all axioms before [] whole is named early k d h = absurd (omega arith)
in_ranges all axioms before (hint ∷ hints) whole is named early zero d h =
    let here = named 0 hint (omega arith) in
    rw is (in_range (length all) axioms (length before) hint.derived hint.number here.counted here.within (early 0 hint (omega arith)))
in_ranges all axioms before (hint ∷ hints) whole is named early (suc k) d h =
    in_ranges all axioms before hints whole is (λ k d h. named (suc k) d (omega arith)) (λ k d h. early (suc k) d (omega arith)) k d (omega arith)

one_derived : (all : List (List Literal)) (axioms : ℕ) (before : List Derived) (line : Derived) → axioms ≤ length all → Follows (log_of all before) line → NameNoLaterAxiom axioms line.hints → IsDerived (in_hand all axioms before) (line_of axioms line)
one_derived all axioms before line there follows early =
    let taken : length (take axioms all) ≡ axioms = length-take-le axioms all there in
    let mapped : length (clauses_of before) ≡ length before = length-map before (λ (line : Derived). line.clause) in
    let whole : length (in_hand all axioms before) ≡ axioms + length before = omega (arith, length-append (take axioms all) (clauses_of before)) in
    record {
      named = in_ranges all axioms before line.hints (length (in_hand all axioms before)) whole follows.named early;
      resolve = rw (same_chain all axioms before line.hints there follows.named early) follows.resolve;
    }

all_derived : (all : List (List Literal)) (axioms : ℕ) (before lines : List Derived) → axioms ≤ length all → AreSound all before lines → All (λ (line : Derived). NameNoLaterAxiom axioms line.hints) lines → AreDerived (in_hand all axioms before) (map (line_of axioms) lines)
all_derived all axioms before [] there sound early = tt
all_derived all axioms before (line ∷ lines) there sound early =
    let grown : in_hand all axioms (before ++ line ∷ []) ≡ in_hand all axioms before ++ line.clause ∷ [] =
    ap (λ (clauses : List (List Literal)). take axioms all ++ clauses) (map-append (λ (line : Derived). line.clause) before (line ∷ [])) ∙ sym (append_assoc (take axioms all) (clauses_of before) (line.clause ∷ [])) in (
      one_derived all axioms before line there sound.0 (early 0 line (omega arith)),
      subst (λ (clauses : List (List Literal)). AreDerived clauses (map (line_of axioms) lines)) grown (all_derived all axioms (before ++ line ∷ []) lines there sound.1 (λ k d h. early (suc k) d (omega arith))),
    )

sound_take : (axioms : List (List Literal)) (before lines : List Derived) (k : ℕ) → AreSound axioms before lines → AreSound axioms before (take k lines)
sound_take axioms before [] zero sound = tt
sound_take axioms before [] (suc k) sound = tt
sound_take axioms before (line ∷ lines) zero sound = tt
sound_take axioms before (line ∷ lines) (suc k) sound = (sound.0, sound_take axioms (before ++ line ∷ []) lines k sound.1)

append_none : (xs : List (List Literal)) → xs ++ [] ≡ xs
append_none [] = refl
append_none (x ∷ xs) = ap (λ (ys : List (List Literal)). x ∷ ys) (append_none xs)

pub first_lines_derived : (log : Lines) (axioms lines : ℕ) → IsSound log → Covers log axioms lines → AreDerived (take axioms log.axioms) (first_lines log axioms lines)
first_lines_derived log axioms lines sound covers =
    subst (λ (clauses : List (List Literal)). AreDerived clauses (first_lines log axioms lines)) (append_none (take axioms log.axioms))
    (all_derived log.axioms axioms [] (take lines log.derived) covers.axioms_there (sound_take log.axioms [] log.derived lines sound.sound) covers.hints_there)

-- ---- the form of the lines

some_hint : (clauses : List (List Literal)) (hints : List ℕ) (clause : List Literal) → ResolveTo (map (clause_at clauses) hints) clause → 1 ≤ length hints
some_hint clauses [] clause none = absurd none
some_hint clauses (hint ∷ hints) clause resolve = omega arith

lines_form : (vars axioms : ℕ) (clauses all : List (List Literal)) (before lines : List Derived) → NameOnly (IsOneOf vars) clauses → AreDerived clauses (map (line_of axioms) lines) → AreSound all before lines
    → HaveForm vars (length clauses + 1) (map (line_of axioms) lines)
lines_form vars axioms clauses all before [] only derived sound = tt
lines_form vars axioms clauses all before (line ∷ lines) only derived sound =
    let hints = map (number_of axioms) line.hints in
    let within = resolve_within (IsOneOf vars) (map (clause_at clauses) hints) line.clause derived.0.resolve (named_within (IsOneOf vars) clauses hints only) in
    let grown : length (clauses ++ line.clause ∷ []) + 1 ≡ length clauses + 1 + 1 = ap (λ (n : ℕ). n + 1) (length-append clauses (line.clause ∷ [])) in (
      record {
        ascending = sound.0.ascending;
        within = within;
        some = some_hint clauses hints line.clause derived.0.resolve;
        hints = λ k d h. let named = derived.0.named k d h in let low = named.1 in (named.0, omega arith);
      },
      subst (λ (n : ℕ). HaveForm vars n (map (line_of axioms) lines)) grown
          (lines_form vars axioms (clauses ++ line.clause ∷ []) all (before ++ line ∷ []) lines (NameOnly-append (IsOneOf vars) clauses (line.clause ∷ []) only (within, tt)) derived.1 sound.1),
    )

pub first_lines_form : (log : Lines) (axioms lines vars : ℕ) → IsSound log → Covers log axioms lines → NameOnly (IsOneOf vars) (take axioms log.axioms) → HaveForm vars (axioms + 1) (first_lines log axioms lines)
first_lines_form log axioms lines vars sound covers only =
    subst (λ (n : ℕ). HaveForm vars (n + 1) (first_lines log axioms lines)) (length-take-le axioms log.axioms covers.axioms_there)
    (lines_form vars axioms (take axioms log.axioms) log.axioms [] (take lines log.derived) only (first_lines_derived log axioms lines sound covers) (sound_take log.axioms [] log.derived lines sound.sound))
