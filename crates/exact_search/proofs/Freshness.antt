-- The lines of a search are fresh, whatever bound comes last.
use Rattle.std.proofs.Common.{◌≡◌, ℕ, zero, suc, ◌+◌, ◌<◌, ◌≤◌, Bool, true, false, cond, List, [], ◌∷◌, ◌++◌, ◌⊎◌, inl, inr, length, map, take, slice_index_or, refl, sym, ap, ◌∙◌, subst, arith, append_assoc, length-append}
use Rattle.std.specs.Prelude.{All}
use Rattle.std.proofs.lemmas.Bool.{cases_lt}
use Rattle.std.proofs.lemmas.List.{map-append, get_or_append_left}
use Rattle.std.proofs.Math.Seq.{get_or-append_seam}
use Rattle.sat_base.specs.Literal.{Literal}
use Rattle.sat_base.specs.Derivation.{Line, Refutes, AnyRefutes, clauses_of as clauses_of_lines}
use Rattle.sat_base.specs.Fresh.{Parts, clauses_up_to, IsHintUpTo, IsNew, IsFresh, AreFresh, IsFreshOver}
use Rattle.derivation_log.specs.declared.line_id.LineId.{LineId}
use Rattle.derivation_log.specs.Log.{Derived, log_of, clauses_of, IsLine, AreSound}
use Rattle.derivation_log.specs.Printing.{number_of, line_of, NameNoLaterAxiom}
use Rattle.cdcl.specs.Solver.{AreLearnt}

-- ---- lists

pub append_none : {X : Type 0} → (xs : List X) → xs ++ [] ≡ xs
append_none [] = refl
append_none {X} (x ∷ xs) = ap (λ (ys : List X). x ∷ ys) (append_none xs)

pub clauses_of-lines : (axioms : ℕ) (derived : List Derived) → clauses_of_lines (map (line_of axioms) derived) ≡ clauses_of derived
clauses_of-lines axioms [] = refl
clauses_of-lines axioms (line ∷ lines) = ap (λ (clauses : List (List Literal)). line.clause ∷ clauses) (clauses_of-lines axioms lines)

pub AreFresh-append : (parts : Parts) (last : ℕ) (earlier : List (List Literal)) (xs ys : List Line)
    → AreFresh parts last earlier xs → AreFresh parts last (earlier ++ clauses_of_lines xs) ys → AreFresh parts last earlier (xs ++ ys)
AreFresh-append parts last earlier [] ys fresh more = subst (λ (clauses : List (List Literal)). AreFresh parts last clauses ys) (append_none earlier) more
AreFresh-append parts last earlier (x ∷ xs) ys fresh more =
    let same = sym (append_assoc earlier (x.clause ∷ []) (clauses_of_lines xs)) in
    (fresh.0, AreFresh-append parts last (earlier ++ x.clause ∷ []) xs ys fresh.1 (subst (λ (clauses : List (List Literal)). AreFresh parts last clauses ys) same more))

pub AreFresh-take : (parts : Parts) (last : ℕ) (earlier : List (List Literal)) (k : ℕ) (xs : List Line) → AreFresh parts last earlier xs → AreFresh parts last earlier (take k xs)
AreFresh-take parts last earlier zero [] fresh = tt
AreFresh-take parts last earlier (suc k) [] fresh = tt
AreFresh-take parts last earlier zero (x ∷ xs) fresh = tt
AreFresh-take parts last earlier (suc k) (x ∷ xs) fresh = (fresh.0, AreFresh-take parts last (earlier ++ x.clause ∷ []) k xs fresh.1)

pub AreSound-after : (axioms : List (List Literal)) (before xs ys : List Derived) → AreSound axioms before (xs ++ ys) → AreSound axioms (before ++ xs) ys
AreSound-after axioms before [] ys sound = subst (λ (lines : List Derived). AreSound axioms lines ys) (sym (append_none before)) sound
AreSound-after axioms before (x ∷ xs) ys sound =
    subst (λ (lines : List Derived). AreSound axioms lines ys) (append_assoc before (x ∷ []) xs) (AreSound-after axioms (before ++ x ∷ []) xs ys sound.1)

-- ---- hints

hint_up_to : (parts : Parts) (last bound before : ℕ) (hint : LineId) → 1 ≤ hint.number → hint.number ≤ cond hint.derived before (length (clauses_up_to parts bound))
    → IsHintUpTo parts last bound (number_of (length (clauses_up_to parts last)) hint)
hint_up_to parts last bound before hint counted within =
    elim hint.derived as (λ d. hint.number ≤ cond d before (length (clauses_up_to parts bound)) → IsHintUpTo parts last bound (cond d (length (clauses_up_to parts last) + hint.number) hint.number)) [
      | true ↦ λ low. inr (omega arith)
      | false ↦ λ low. inl low
    ] within

hints_up_to : (parts : Parts) (last bound : ℕ) (before : List Derived) (hints : List LineId) → All (IsLine (log_of (clauses_up_to parts bound) before)) hints
    → All (IsHintUpTo parts last bound) (map (number_of (length (clauses_up_to parts last))) hints)
hints_up_to parts last bound before [] named k d h = absurd (omega arith)
hints_up_to parts last bound before (hint ∷ hints) named zero d h = let here = named 0 hint (omega arith) in hint_up_to parts last bound (length before) hint here.counted here.within
hints_up_to parts last bound before (hint ∷ hints) named (suc k) d h = hints_up_to parts last bound before hints (λ k d h. named (suc k) d (omega arith)) k d (omega arith)

-- no hint of sound lines is an axiom that is not there
pub hints_there : (axioms : List (List Literal)) (before lines : List Derived) → AreSound axioms before lines → All (λ (line : Derived). NameNoLaterAxiom (length axioms) line.hints) lines
hints_there axioms before [] sound k d h = absurd (omega arith)
hints_there axioms before (line ∷ lines) sound zero d h = λ i hint within is.
    let named = sound.0.named i hint within in
    subst (λ (b : Bool). (slice_index_or line.hints i hint).number ≤ cond b (length before) (length axioms)) is named.within
hints_there axioms before (line ∷ lines) sound (suc k) d h = hints_there axioms (before ++ line ∷ []) lines sound.1 k d (omega arith)

-- ---- learnt lines

none_left : {X : Type 0} → (x : X) (xs : List X) → x ∷ xs ≡ [] → ⊥
none_left x xs e = let same = ap length e in absurd (omega (arith, same))

no_clauses : (lines : List Derived) → clauses_of lines ≡ [] → lines ≡ []
no_clauses [] e = refl
no_clauses (line ∷ lines) e = absurd (none_left line.clause (clauses_of lines) e)

refuted_left : (goal : Literal) (xs ys : List (List Literal)) → AnyRefutes goal xs → AnyRefutes goal (xs ++ ys)
refuted_left goal xs ys (k, x, within, is, refutes) =
    let far : k < length (xs ++ ys) = omega (arith, length-append xs ys) in
    (k, x, far, get_or_append_left xs ys x k within ∙ is, refutes)

refuted_push : (goal : Literal) (xs : List (List Literal)) (x : List Literal) → AnyRefutes goal (xs ++ x ∷ []) → AnyRefutes goal xs ⊎ Refutes goal x
refuted_push goal xs x (k, y, within, is, refutes) =
    elim (cases_lt k (length xs)) [
      | inl less ↦ inl (k, y, less, sym (get_or_append_left xs (x ∷ []) y k less) ∙ is, refutes)
      | inr more ↦
          let last : k ≡ length xs = omega (arith, length-append xs (x ∷ [])) in
          let here : x ≡ y = sym (get_or-append_seam xs x [] y) ∙ ap (λ (i : ℕ). slice_index_or (xs ++ x ∷ []) i y) (sym last) ∙ is in
          inr (subst (Refutes goal) (sym here) refutes)
    ]

is_new : (parts : Parts) (bound : ℕ) (earlier : List (List Literal)) (line : List Literal) → (AnyRefutes (parts.goal bound) earlier → ⊥)
    → IsFreshOver (clauses_up_to parts bound ++ earlier) line ⊎ Refutes (parts.goal bound) line → IsNew parts bound earlier line
is_new parts bound earlier line none learnt = elim learnt [ inl fresh ↦ inr fresh | inr refutes ↦ inl (record { refutes = refutes; first = none }) ]

-- Lines that are learnt at a bound, where each lower bound is refuted, are fresh whatever bound comes last.
pub learnt_fresh : (parts : Parts) (bound last : ℕ) (before lines : List Derived) → bound ≤ last
    → ((lower : ℕ) → lower < bound → AnyRefutes (parts.goal lower) (clauses_of before))
    → AreLearnt (clauses_up_to parts bound ++ clauses_of before) (parts.goal bound) (clauses_of lines)
    → (AnyRefutes (parts.goal bound) (clauses_of before) → lines ≡ [])
    → AreSound (clauses_up_to parts bound) before lines
    → AreFresh parts last (clauses_of before) (map (line_of (length (clauses_up_to parts last))) lines)
learnt_fresh parts bound last before [] le below learnt needed sound = tt
learnt_fresh parts bound last before (line ∷ lines) le below learnt needed sound =
    let none : AnyRefutes (parts.goal bound) (clauses_of before) → ⊥ = λ any. none_left line lines (needed any) in
    let pushed : clauses_of (before ++ line ∷ []) ≡ clauses_of before ++ line.clause ∷ [] = map-append (λ (it : Derived). it.clause) before (line ∷ []) in
    let goals : ℕ → Literal = parts.goal in
    let here : IsFresh parts last (clauses_of before) (line_of (length (clauses_up_to parts last)) line) = record {
      bound = bound;
      in_hand = record { within = le; below = below; left = λ any. absurd (none any) };
      hints = hints_up_to parts last bound before line.hints sound.0.named;
      new = is_new parts bound (clauses_of before) line.clause none learnt.0;
    } in
    let further = learnt_fresh parts bound last (before ++ line ∷ []) lines le
    (λ lower less. subst (AnyRefutes (parts.goal lower)) (sym pushed) (refuted_left (parts.goal lower) (clauses_of before) (line.clause ∷ []) (below lower less)))
    (subst (λ (clauses : List (List Literal)). AreLearnt (clauses_up_to parts bound ++ clauses) (parts.goal bound) (clauses_of lines)) (sym pushed)
    (subst (λ (clauses : List (List Literal)). AreLearnt clauses (parts.goal bound) (clauses_of lines)) (append_assoc (clauses_up_to parts bound) (clauses_of before) (line.clause ∷ [])) learnt.2))
    (λ any. elim (refuted_push (parts.goal bound) (clauses_of before) line.clause (subst (AnyRefutes (parts.goal bound)) pushed any)) [
      | inl earlier ↦ absurd (none earlier)
      | inr refutes ↦ no_clauses lines (learnt.1 refutes)
    ])
    sound.1 in
    (here, subst (λ (clauses : List (List Literal)). AreFresh parts last clauses (map (line_of (length (clauses_up_to parts last))) lines)) pushed further)
