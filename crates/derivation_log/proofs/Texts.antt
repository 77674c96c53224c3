-- The texts of lines, one after another.
use Rattle.std.proofs.Common.{◌≡◌, ℕ, zero, suc, ◌+◌, ◌-◌, ◌<◌, ◌≤◌, ◌^◌, Bool, true, false, cond, List, [], ◌∷◌, ◌++◌, length, map, take, drop, slice_index_or, refl, sym, ap, ◌∙◌, subst, arith, append_assoc}
use Rattle.std.specs.Prelude.{All, decimal, codes}
use Rattle.std.proofs.lemmas.List.{length-map, length-take-le, drop_more, get_or-map, get_or-take}
use Rattle.sat_base.specs.Literal.{Literal}
use Rattle.sat_base.specs.Derivation.{Line}
use Rattle.sat_base.specs.Certificate.{literals_text, hints_text, lines_text}
use Rattle.derivation_log.specs.declared.line_id.LineId.{LineId}
use Rattle.derivation_log.specs.Log.{Derived, Lines, log_of, derived_id, clause_of, hints_of, Follows, AreSound, IsSound}
use Rattle.derivation_log.specs.Printing.{number_of, line_of, first_lines, Covers}
use Rattle.derivation_log.specs.Place.{lines_left, hints_left, HintsFit}

pub no_line : Derived
no_line = record { clause = []; hints = [] }

-- the line of that index
abbrev pub at : List Derived → ℕ → Derived
at derived k = slice_index_or derived k no_line

pub clause_at_index : (log : Lines) (k : ℕ) → k < length log.derived → clause_of log (derived_id (k + 1)) ≡ (at log.derived k).clause
clause_at_index log k within =
    let e : k + 1 - 1 ≡ k = omega arith in
    rw e (get_or-map (λ (line : Derived). line.clause) log.derived k no_line [] within)

pub hints_at_index : (log : Lines) (k : ℕ) → k < length log.derived → hints_of log (derived_id (k + 1)) ≡ (at log.derived k).hints
hints_at_index log k within =
    let e : k + 1 - 1 ≡ k = omega arith in
    rw e (get_or-map (λ (line : Derived). line.hints) log.derived k no_line [] within)

-- the next line, and those after it
next_line : (log : Lines) (axioms lines begun : ℕ) → begun < lines → lines ≤ length log.derived
    → drop begun (first_lines log axioms lines) ≡ line_of axioms (at log.derived begun) ∷ drop (begun + 1) (first_lines log axioms lines)
next_line log axioms lines begun within there =
    let taken : length (take lines log.derived) ≡ lines = length-take-le lines log.derived there in
    let len : length (first_lines log axioms lines) ≡ lines = length-map (take lines log.derived) (line_of axioms) ∙ taken in
    let first = get_or-map (line_of axioms) (take lines log.derived) begun no_line (line_of axioms no_line) (omega arith) ∙ ap (line_of axioms) (get_or-take lines log.derived begun no_line within) in
    drop_more (first_lines log axioms lines) begun (line_of axioms no_line) (omega arith) ∙ ap (λ (line : Line). line ∷ drop (begun + 1) (first_lines log axioms lines)) first

regroup : (out number space literals zero_space hints end rest : List ℕ)
    → (out ++ number ++ space) ++ (literals ++ zero_space ++ (hints ++ end) ++ rest) ≡ out ++ ((number ++ space ++ literals ++ zero_space ++ hints ++ end) ++ rest)
regroup out number space literals zero_space hints end rest = simp append_assoc

-- a line begins: its number was printed, and its literals come next
pub begun_line : (log : Lines) (axioms lines begun : ℕ) (out : List ℕ) (clause : List Literal) (hints : List LineId) → begun < lines → lines ≤ length log.derived
    → clause ≡ clause_of log (derived_id (begun + 1)) → hints ≡ hints_of log (derived_id (begun + 1))
    → (out ++ decimal (axioms + (begun + 1)) ++ codes " ") ++ (literals_text clause ++ codes "0 " ++ hints_left axioms hints ++ lines_left log axioms lines (begun + 1)) ≡ out ++ lines_left log axioms lines begun
begun_line log axioms lines begun out clause hints within there is_clause is_hints =
    let number : axioms + begun + 1 ≡ axioms + (begun + 1) = omega arith in
    let is_clause_of = is_clause ∙ clause_at_index log begun (omega arith) in
    let is_hints_of = is_hints ∙ hints_at_index log begun (omega arith) in
    rw (next_line log axioms lines begun within there, number, is_clause_of, is_hints_of)
    (regroup out (decimal (axioms + (begun + 1))) (codes " ") (literals_text (at log.derived begun).clause) (codes "0 ") (hints_text (map (number_of axioms) (at log.derived begun).hints)) (codes "0\n")
    (lines_text (axioms + (begun + 1) + 1) (drop (begun + 1) (first_lines log axioms lines))))

-- the head was printed
pub head_printed : (out old head rest whole : List ℕ) → out ≡ old ++ head → head ++ rest ≡ whole → out ++ rest ≡ old ++ whole
head_printed out old head rest whole is parts = rw is (append_assoc old head rest ∙ ap (λ (xs : List ℕ). old ++ xs) parts)

-- ---- the numbers of hints

pub follows_at : (axioms : List (List Literal)) (before lines : List Derived) (k : ℕ) → AreSound axioms before lines → k < length lines → Follows (log_of axioms (before ++ take k lines)) (at lines k)
follows_at axioms before [] k sound within = absurd (omega arith)
follows_at axioms before (line ∷ lines) zero sound within = subst (λ (xs : List Derived). Follows (log_of axioms xs) line) (sym (append_none before)) sound.0
  where
    append_none : (xs : List Derived) → xs ++ [] ≡ xs
    append_none [] = refl
    append_none (x ∷ xs) = ap (λ (ys : List Derived). x ∷ ys) (append_none xs)
follows_at axioms before (line ∷ lines) (suc k) sound within = subst (λ (xs : List Derived). Follows (log_of axioms xs) (at lines k)) (append_assoc before (line ∷ []) (take k lines)) (follows_at axioms (before ++ line ∷ []) lines k sound.1 (omega arith))

hint_fits : (axioms lines begun all : ℕ) (derived : Bool) (number : ℕ) → axioms + lines < 2 ^ 64 → begun < lines → number ≤ cond derived begun all → (derived ≡ false → number ≤ axioms) → cond derived (axioms + number) number < 2 ^ 64
hint_fits axioms lines begun all true number numbered within low early = omega arith
hint_fits axioms lines begun all false number numbered within low early = let h = early refl in omega arith

pub hints_fit : (log : Lines) (axioms lines begun : ℕ) (hints : List LineId) → IsSound log → Covers log axioms lines → axioms + lines < 2 ^ 64 → begun < lines → hints ≡ hints_of log (derived_id (begun + 1)) → HintsFit axioms hints
hints_fit log axioms lines begun hints sound covers numbered within is k d inside =
    let there = covers.lines_there in
    let is_hints : hints ≡ (at log.derived begun).hints = is ∙ hints_at_index log begun (omega arith) in
    let follows = follows_at log.axioms [] log.derived begun sound.sound (omega arith) in
    let room : k < length (at log.derived begun).hints = subst (λ (xs : List LineId). k < length xs) is_hints inside in
    let hint = slice_index_or (at log.derived begun).hints k d in
    let named = follows.named k d room in
    let taken : length (take begun log.derived) ≡ begun = length-take-le begun log.derived (omega arith) in
    let whole : length (take lines log.derived) ≡ lines = length-take-le lines log.derived there in
    let line_is : at (take lines log.derived) begun ≡ at log.derived begun = get_or-take lines log.derived begun no_line within in
    let early = subst (λ (line : Derived). All (λ (hint : LineId). hint.derived ≡ false → hint.number ≤ axioms) line.hints) line_is (covers.hints_there begun no_line (omega arith)) k d room in
    let low : hint.number ≤ cond hint.derived begun (length log.axioms) = subst (λ (n : ℕ). hint.number ≤ cond hint.derived n (length log.axioms)) taken named.within in
    rw is_hints (hint_fits axioms lines begun (length log.axioms) hint.derived hint.number numbered within low early)

pub hints_fit_rest : (axioms : ℕ) (hints rest : List LineId) (hint : LineId) → hints ≡ hint ∷ rest → HintsFit axioms hints → HintsFit axioms rest
hints_fit_rest axioms hints rest hint is fit k d inside = (subst (HintsFit axioms) is fit) (suc k) d (omega arith)
