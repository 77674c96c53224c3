-- Lines that end at the first that refutes.
use Rattle.std.proofs.Common.{◌≡◌, ℕ, zero, suc, ◌+◌, ◌<◌, ◌≤◌, List, [], ◌∷◌, ◌++◌, inl, length, slice_index_or, refl, sym, ap, ◌∙◌, subst, arith}
use Rattle.sat_base.specs.Literal.{Literal}
use Rattle.sat_base.specs.Clauses.{EachVariable, NameOnly}
use Rattle.sat_base.specs.Derivation.{Line, Refutes, AnyRefutes, clauses_of}
use Rattle.sat_base.specs.Certificate.{HaveForm}
use Rattle.cdcl.specs.Solver.{AreLearnt}
use Rattle.exact_search.specs.Found.{EndsRefuting}
use Rattle.exact_search.specs.Searching.{NoneAfterRefuting}

none_left : {X : Type 0} → (x : X) (xs : List X) → x ∷ xs ≡ [] → ⊥
none_left x xs e = let same = ap length e in absurd (omega (arith, same))

-- ---- some line refutes

any_later : (goal : Literal) (x : List Literal) (xs : List (List Literal)) → AnyRefutes goal xs → AnyRefutes goal (x ∷ xs)
any_later goal x xs (k, y, within, is, refutes) = (suc k, y, omega arith, is, refutes)

any_cons : (goal : Literal) (x : List Literal) (xs : List (List Literal)) → (Refutes goal x → ⊥) → (AnyRefutes goal xs → ⊥) → AnyRefutes goal (x ∷ xs) → ⊥
any_cons goal x xs here later (zero, y, within, is, refutes) = here (subst (Refutes goal) (sym is) refutes)
any_cons goal x xs here later (suc k, y, within, is, refutes) = later (k, y, omega arith, is, refutes)

any_at_end : (goal : Literal) (before : List Line) (last : Line) → Refutes goal last.clause → AnyRefutes goal (clauses_of (before ++ last ∷ []))
any_at_end goal [] last refutes = (0, last.clause, omega arith, refl, refutes)
any_at_end goal (line ∷ before) last refutes = any_later goal line.clause (clauses_of (before ++ last ∷ [])) (any_at_end goal before last refutes)

-- one of the lines refutes
pub ends_any : (goal : Literal) (lines : List Line) → EndsRefuting goal lines → AnyRefutes goal (clauses_of lines)
ends_any goal lines ends =
    subst (λ (them : List Line). AnyRefutes goal (clauses_of them)) (sym ends.lines_are) (any_at_end goal ends.before ends.last ends.refutes)

-- ---- no line after one that refutes

pub none_after_append : (goal : Literal) (xs ys : List (List Literal)) → NoneAfterRefuting goal xs → NoneAfterRefuting goal ys → (AnyRefutes goal xs → ys ≡ []) → NoneAfterRefuting goal (xs ++ ys)
none_after_append goal [] ys first second needed = second
none_after_append goal (x ∷ xs) ys first second needed = (
  λ refutes. ap (λ (zs : List (List Literal)). zs ++ ys) (first.0 refutes) ∙ needed (0, x, omega arith, refl, refutes),
  none_after_append goal xs ys first.1 second (λ any. needed (any_later goal x xs any)),
)

pub none_after_learnt : (clauses : List (List Literal)) (goal : Literal) (lines : List (List Literal)) → AreLearnt clauses goal lines → NoneAfterRefuting goal lines
none_after_learnt clauses goal [] learnt = tt
none_after_learnt clauses goal (line ∷ lines) learnt = (learnt.1, none_after_learnt (clauses ++ line ∷ []) goal lines learnt.2)

-- a clause that refutes a goal above its variables has no literal, and refutes every goal
refutes_both : (goal next : Literal) (vars : ℕ) (clause : List Literal) → vars < next.var → EachVariable (λ var. (1 ≤ var) × (var ≤ vars)) clause → Refutes next clause → Refutes goal clause
refutes_both goal next vars [] above names refutes = λ literal has. absurd has
refutes_both goal next vars (first ∷ rest) above names refutes =
    let same = ap (λ (it : Literal). it.var) (refutes first (inl refl)) in
    let low = names.0.1 in
    absurd (omega (arith, same, low, above))

pub none_after_next : (goal next : Literal) (vars : ℕ) (clauses : List (List Literal)) → vars < next.var → NameOnly (λ var. (1 ≤ var) × (var ≤ vars)) clauses
    → NoneAfterRefuting goal clauses → NoneAfterRefuting next clauses
none_after_next goal next vars [] above names none = tt
none_after_next goal next vars (clause ∷ clauses) above names none =
    (λ refutes. none.0 (refutes_both goal next vars clause above names.0 refutes), none_after_next goal next vars clauses above names.1 none.1)

pub names_of_form : (vars number : ℕ) (lines : List Line) → HaveForm vars number lines → NameOnly (λ var. (1 ≤ var) × (var ≤ vars)) (clauses_of lines)
names_of_form vars number [] form = tt
names_of_form vars number (line ∷ lines) form = (form.0.within, names_of_form vars (number + 1) lines form.1)

-- ---- the line that refutes is the last

pub ends_at : (goal : Literal) (lines : List Line) (k : ℕ) (d : List Literal) → NoneAfterRefuting goal (clauses_of lines) → k < length lines
    → Refutes goal (slice_index_or (clauses_of lines) k d) → (suc k ≡ length lines) × EndsRefuting goal lines
ends_at goal [] k d none within refutes = absurd (omega arith)
ends_at goal (line ∷ []) zero d none within refutes =
    (refl, record { before = []; last = line; lines_are = refl; refutes = refutes; first = λ any. let some = any.2 in absurd (omega (arith, some)) })
ends_at goal (line ∷ []) (suc k) d none within refutes = absurd (omega arith)
ends_at goal (line ∷ other ∷ lines) zero d none within refutes = absurd (none_left other.clause (clauses_of lines) (none.0 refutes))
ends_at goal (line ∷ other ∷ lines) (suc k) d none within refutes =
    let found = ends_at goal (other ∷ lines) k d none.1 (omega arith) refutes in
    let count = found.0 in
    let ends = found.1 in (
      omega (arith, count),
      record {
        before = line ∷ ends.before;
        last = ends.last;
        lines_are = ap (λ (them : List Line). line ∷ them) ends.lines_are;
        refutes = ends.refutes;
        first = any_cons goal line.clause (clauses_of ends.before) (λ here. none_left other.clause (clauses_of lines) (none.0 here)) ends.first;
      },
    )
