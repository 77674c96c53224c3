-- Adding the part of a bound.
use Rattle.std.proofs.Common.{◌≡◌, ℕ, ◌+◌, ◌-◌, ◌<◌, List, [], ◌∷◌, ◌++◌, length, drop, sym, ap, ◌∙◌, subst, arith, append_assoc}
use Rattle.sat_base.specs.Literal.{Literal}
use Rattle.sat_base.specs.Clauses.{clause_at}
use Rattle.sat_base.proofs.Clauses.{next_clause}
use Rattle.derivation_log.specs.Log.{Derived, Lines, log_of, clauses_of}
use Rattle.cdcl.specs.Solver.{SolverState, with_vars, with_clause}
use Rattle.step_rules.specs.Setting.{SettingValue}
use Rattle.step_vars.specs.declared.encoding.Encoding.TheVariants.{Counter}
use Rattle.step_vars.specs.Numbering.{before}
use Rattle.step_vars.specs.Encoding.{numbering_of, part_of, goal_literal}
use Rattle.step_vars.specs.Certifies.{vars_up_to}
use Rattle.exact_search.specs.declared.search.Shown.{Shown}
use Rattle.exact_search.specs.Searching.{TaskValue, NameTheirVariables, NoneAfterRefuting, StayFresh, RefuteLower, HasRefuted, HasAdded, encoding_before}
use Rattle.exact_search.proofs.Freshness.{append_none}
use Rattle.exact_search.proofs.Kept.{RefutesFewer-kept}
use Rattle.exact_search.proofs.Tasks.{one_part_more, vars_grow}

-- one clause more
pub clause_more : (old new : SolverState) (axioms part : List (List Literal)) (k : ℕ) (clause : List Literal) → k < length part → clause ≡ clause_at part (k + 1) → new ≡ with_clause clause old
    → old.log.axioms ++ drop k part ≡ axioms ++ part → new.log.axioms ++ drop (k + 1) part ≡ axioms ++ part
clause_more old new axioms part k clause within is e so_far =
    let rest = drop (k + 1) part in
    let added : new.log.axioms ≡ old.log.axioms ++ clause ∷ [] = ap (λ (solver : SolverState). solver.log.axioms) e in
    let front : clause ∷ rest ≡ drop k part = ap (λ (c : List Literal). c ∷ rest) is ∙ sym (next_clause part k within) in
    ap (λ (xs : List (List Literal)). xs ++ rest) added ∙ append_assoc old.log.axioms (clause ∷ []) rest ∙ ap (λ (xs : List (List Literal)). old.log.axioms ++ xs) front ∙ so_far

-- the variables after those of a part were added
pub vars_after : (setting : SettingValue) (bound count first : ℕ) (old new : SolverState) → old.trail.vars ≡ before (numbering_of setting Counter) bound → count ≡ vars_up_to setting Counter bound
    → first ≡ before (numbering_of setting Counter) bound → new ≡ with_vars (count - first) old → new.trail.vars ≡ vars_up_to setting Counter bound
vars_after setting bound count first old new vars all some e =
    let more : new.trail.vars ≡ old.trail.vars + (count - first) = ap (λ (solver : SolverState). solver.trail.vars) e in
    omega (arith, more, vars, all, some, vars_grow setting bound)

log_after : (old mid new : SolverState) (part : List (List Literal)) (vars : ℕ) → mid ≡ with_vars vars old → new.log ≡ log_of (mid.log.axioms ++ part) mid.log.derived
    → new.log ≡ log_of (old.log.axioms ++ part) old.log.derived
log_after old mid new part vars e f = f ∙ ap (λ (solver : SolverState). log_of (solver.log.axioms ++ part) solver.log.derived) e

-- the bound is added
pub added : (task : TaskValue) (bound vars : ℕ) (old mid new : SolverState) (shown : Shown) (part : List (List Literal)) → HasRefuted task bound old shown → part ≡ part_of task.setting Counter bound
    → mid ≡ with_vars vars old → new.log ≡ log_of (mid.log.axioms ++ part) mid.log.derived → new.trail.vars ≡ mid.trail.vars → mid.trail.vars ≡ vars_up_to task.setting Counter bound
    → NameTheirVariables task.setting bound → HasAdded task bound new shown
added task bound vars old mid new shown part has is e f same count names =
    let log = log_after old mid new part vars e f in
    let setting = task.setting in
    let axioms : new.log.axioms ≡ old.log.axioms ++ part = ap (λ (it : Lines). it.axioms) log in
    let derived : new.log.derived ≡ old.log.derived = ap (λ (it : Lines). it.derived) log in
    record {
      parts = axioms ∙ ap (λ (xs : List (List Literal)). xs ++ part) has.parts ∙ ap (λ (xs : List (List Literal)). encoding_before setting bound ++ xs) is ∙ one_part_more setting bound;
      vars = same ∙ count;
      names = names;
      derived = record {
        few = let few = has.derived.few in omega (arith, few, ap length derived);
        ends = subst (λ (them : List Derived). NoneAfterRefuting (goal_literal setting Counter bound) (clauses_of them)) (sym derived) has.derived.ends;
        fresh = subst (StayFresh setting bound) (sym derived) has.derived.fresh;
        below = subst (RefuteLower setting bound) (sym derived) has.derived.below;
      };
      fewer = RefutesFewer-kept setting bound old.log new.log shown.axioms shown.lines
          (record { axioms = part; derived = []; more_axioms = axioms; more_derived = derived ∙ sym (append_none old.log.derived) }) has.fewer;
    }
