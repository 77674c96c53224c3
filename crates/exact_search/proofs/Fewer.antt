-- Fresh lines over the parts of the encoding are fewer than the clauses over their variables.
use Rattle.std.proofs.Common.{◌≡◌, ℕ, zero, suc, ◌+◌, ◌<◌, ◌≤◌, ◌^◌, List, [], ◌∷◌, ◌++◌, ◌⊎◌, inl, inr, length, slice_index_or, refl, ap, ◌∙◌, arith}
use Rattle.std.specs.Prelude.{AllPairs, Contains}
use Rattle.std.specs.List.{AllByRecursion}
use Rattle.std.proofs.lemmas.List.{length-map}
use Rattle.std.proofs.lemmas.List.Elements.{Contains-append_left}
use Rattle.sat_base.specs.Literal.{Literal}
use Rattle.sat_base.specs.Clauses.{SameLiterals}
use Rattle.sat_base.specs.Derivation.{Line, Refutes, AnyRefutes, clauses_of}
use Rattle.sat_base.specs.Certificate.{HaveForm}
use Rattle.sat_base.specs.Fresh.{Parts, clauses_up_to, IsFresh, AreFresh}
use Rattle.sat_base.proofs.Deriving.{fresh_is_new, all_differ}
use Rattle.sat_base.proofs.Sets.{HasDistinctVariables-ascending}
use Rattle.exact_search.proofs.Counting.{IsOver, AreOver, Differ, few_clauses}

-- ---- lines of the form

over_variables : (vars number : ℕ) (lines : List Line) → HaveForm vars number lines → AreOver vars (clauses_of lines)
over_variables vars number [] form = tt
over_variables vars number (line ∷ lines) form =
    (record { distinct = HasDistinctVariables-ascending line.clause form.0.ascending; within = form.0.within }, over_variables vars (number + 1) lines form.1)

-- ---- fresh lines differ

no_later : (line : Line) (lines : List Line) → ((j : ℕ) (d : Line) → j < length lines → SameLiterals line.clause (slice_index_or lines j d).clause → ⊥) → AllByRecursion (λ other. SameLiterals line.clause other → ⊥) (clauses_of lines)
no_later line [] none = tt
no_later line (other ∷ lines) none = (none 0 other (omega arith), no_later line lines (λ j d h. none (suc j) d (omega arith)))

differ : (lines : List Line) → AllPairs (λ (line other : Line). SameLiterals line.clause other.clause → ⊥) lines → Differ (clauses_of lines)
differ [] pairs = tt
differ (line ∷ lines) pairs = (no_later line lines (λ j d h. pairs 0 (suc j) d (omega arith) (omega arith)), differ lines (λ i j d less h. pairs (suc i) (suc j) d (omega arith) (omega arith)))

-- ---- a clause that no line is

in_first_part : (parts : Parts) (clause : List Literal) (bound : ℕ) → Contains (parts.part 0) clause → Contains (clauses_up_to parts bound) clause
in_first_part parts clause zero is_in = is_in
in_first_part parts clause (suc bound) is_in = Contains-append_left (clauses_up_to parts bound) (parts.part (suc bound)) clause (in_first_part parts clause bound is_in)

refutes_same : (goal : Literal) (clause other : List Literal) → SameLiterals clause other → Refutes goal other → Refutes goal clause
refutes_same goal clause other same refutes literal has = refutes literal (same.0 literal has)

not_a_line : (parts : Parts) (last : ℕ) (earlier : List (List Literal)) (line : Line) (clause : List Literal) → Contains (parts.part 0) clause → ((bound : ℕ) → Refutes (parts.goal bound) clause → ⊥)
    → IsFresh parts last earlier line → SameLiterals clause line.clause → ⊥
not_a_line parts last earlier line clause is_in no_goal fresh same =
    elim fresh.new [
      | inl first ↦ no_goal fresh.bound (refutes_same (parts.goal fresh.bound) clause line.clause same first.refutes)
      | inr new ↦ fresh_is_new (clauses_up_to parts fresh.bound ++ earlier) line.clause clause new
          (Contains-append_left (clauses_up_to parts fresh.bound) earlier clause (in_first_part parts clause fresh.bound is_in)) same.0
    ]

no_line : (parts : Parts) (last : ℕ) (earlier : List (List Literal)) (lines : List Line) (clause : List Literal) → Contains (parts.part 0) clause → ((bound : ℕ) → Refutes (parts.goal bound) clause → ⊥)
    → AreFresh parts last earlier lines → AllByRecursion (λ other. SameLiterals clause other → ⊥) (clauses_of lines)
no_line parts last earlier [] clause is_in no_goal fresh = tt
no_line parts last earlier (line ∷ lines) clause is_in no_goal fresh =
    (not_a_line parts last earlier line clause is_in no_goal fresh.0, no_line parts last (earlier ++ line.clause ∷ []) lines clause is_in no_goal fresh.1)

-- where some clause of part 0 refutes no goal, the lines are fewer than the clauses
pub fewer_with : (parts : Parts) (last vars number : ℕ) (lines : List Line) (clause : List Literal) → Contains (parts.part 0) clause → ((bound : ℕ) → Refutes (parts.goal bound) clause → ⊥)
    → IsOver vars clause → HaveForm vars number lines → AreFresh parts last [] lines → length lines < 3 ^ vars
fewer_with parts last vars number lines clause is_in no_goal over form fresh =
    let all = clauses_of lines in
    let most = few_clauses vars (clause ∷ all) (over, over_variables vars number lines form)
    (no_line parts last [] lines clause is_in no_goal fresh, differ lines (all_differ parts last [] lines fresh)) in
    omega (arith, most, length-map lines (λ (line : Line). line.clause))

-- ---- no clause, no line

nothing_refutes : (goal : Literal) → AnyRefutes goal [] → ⊥
nothing_refutes goal (k, x, within, is, refutes) = omega arith

no_hint : (first last whole hint : ℕ) → first ≡ 0 → 1 ≤ hint → hint < whole + 1 → (hint ≤ first) ⊎ (whole < hint) → ⊥
no_hint first last whole hint none counted within up_to = elim up_to [ inl low ↦ omega arith | inr high ↦ omega arith ]

first_bound : (parts : Parts) (last bound : ℕ) → ((lower : ℕ) → lower < bound → AnyRefutes (parts.goal lower) []) → bound ≡ 0
first_bound parts last zero below = refl
first_bound parts last (suc bound) below = absurd (nothing_refutes (parts.goal 0) (below 0 (omega arith)))

-- where part 0 has no clause there is no fresh line
pub none_without : (parts : Parts) (last vars : ℕ) (lines : List Line) → parts.part 0 ≡ [] → HaveForm vars (length (clauses_up_to parts last) + 1) lines → AreFresh parts last [] lines → lines ≡ []
none_without parts last vars [] empty form fresh = refl
none_without parts last vars (line ∷ lines) empty form fresh =
    let bound = fresh.0.bound in
    let zero_is : bound ≡ 0 = first_bound parts last bound fresh.0.in_hand.below in
    let none : length (clauses_up_to parts bound) ≡ 0 = ap (λ (n : ℕ). length (clauses_up_to parts n)) zero_is ∙ ap length empty in
    let hint = slice_index_or line.hints 0 0 in
    let there = form.0.hints 0 0 form.0.some in
    absurd (no_hint (length (clauses_up_to parts bound)) last (length (clauses_up_to parts last)) hint none there.0 there.1 (fresh.0.hints 0 0 form.0.some))
