-- From what the solver answers of a bound to what the search says of it.
use Rattle.std.proofs.Common.{◌≡◌, ℕ, zero, suc, ◌+◌, ◌-◌, ◌<◌, ◌≤◌, ◌^◌, Bool, cond, List, [], ◌++◌, inl, inr, length, map, take, slice_index_or, sym, ap, ◌∙◌, subst, arith, length-append}
use Rattle.std.proofs.lemmas.Bool.{cases_lt}
use Rattle.std.proofs.lemmas.List.{take-map, length-map, length-take-le, map-append, get_or_append_left, get_or_default, take_all}
use Rattle.std.proofs.lemmas.List.Elements.{All-take}
use Rattle.std.proofs.Math.Seq.{take-length}
use Rattle.sat_base.proofs.Few.{AreGood-derived}
use Rattle.sat_base.proofs.Deriving.{AreDerived-good, lines_refute}
use Rattle.derivation_log.proofs.FirstLines.{first_lines_derived, first_lines_form}
use Rattle.cdcl.specs.Clauses.{clauses_in}
use Rattle.sat_base.specs.Literal.{Literal}
use Rattle.sat_base.specs.Clauses.{NameOnly}
use Rattle.sat_base.specs.Derivation.{AreGood, Refutes, AnyRefutes, clauses_of as clauses_of_lines}
use Rattle.sat_base.specs.Certificate.{HaveForm}
use Rattle.sat_base.specs.Fresh.{AreFresh}
use Rattle.derivation_log.specs.declared.line_id.LineId.{LineId}
use Rattle.derivation_log.specs.Log.{Derived, Lines, log_of, clauses_of, clause_of, AreSound, IsSound}
use Rattle.derivation_log.specs.Printing.{line_of, first_lines, Covers, NameNoLaterAxiom}
use Rattle.cdcl.specs.Solver.{SolverState, Learns, AreLearnt, IsRefuting}
use Rattle.cdcl.specs.Solver.{IsSpent as IsSpentSolver}
use Rattle.step_rules.specs.declared.action.Action.{Action}
use Rattle.step_rules.specs.Setting.{SettingValue}
use Rattle.step_rules.specs.Play.{Plays, IsLeast}
use Rattle.step_vars.specs.declared.encoding.Encoding.TheVariants.{Counter}
use Rattle.step_vars.specs.Numbering.{before}
use Rattle.step_vars.specs.Encoding.{numbering_of, encoding_of, parts_of, goal_literal}
use Rattle.step_models.specs.Models.{EveryScheduleFits}
use Rattle.step_vars.specs.Certifies.{vars_up_to}
use Rattle.exact_search.specs.Found.{HasLines, EndsRefuting, HasRefutation, RefutesFewer, IsNoneWithin, IsSpent}
use Rattle.exact_search.specs.Searching.{TaskValue, NoneAfterRefuting, StayFresh, RefuteLower, NameTheirVariables, lines_over, AreDerived, HasRefuted, HasAdded}
use Rattle.exact_search.proofs.Ends.{ends_any, ends_at, none_after_append, none_after_learnt, none_after_next, names_of_form}
use Rattle.exact_search.specs.declared.search.Shown.{Shown}
use Rattle.exact_search.proofs.Freshness.{append_none, clauses_of-lines, AreFresh-append, AreFresh-take, AreSound-after, hints_there, learnt_fresh}
use Rattle.exact_search.proofs.Kept.{Grows, RefutesFewer-kept}
use Rattle.exact_search.proofs.Tasks.{vars_grow}
use Rattle.step_vars.proofs.OfSetting.{goal_last}

-- ---- lines

-- after the bound comes the next one
pub next_vars : (setting : SettingValue) (bound : ℕ) → before (numbering_of setting Counter) (suc bound) ≡ vars_up_to setting Counter bound
next_vars setting bound = let e : suc bound ≡ bound + 1 = omega arith in ap (before (numbering_of setting Counter)) e

-- the lines after a call of the solver are fresh
stay_fresh : (setting : SettingValue) (bound : ℕ) (old : Lines) (lines : List Derived) → old.axioms ≡ encoding_of setting Counter bound
    → IsSound (log_of old.axioms (old.derived ++ lines)) → StayFresh setting bound old.derived → RefuteLower setting bound old.derived
    → AreLearnt (clauses_in old) (goal_literal setting Counter bound) (clauses_of lines)
    → (AnyRefutes (goal_literal setting Counter bound) (clauses_of old.derived) → lines ≡ [])
    → StayFresh setting (suc bound) (old.derived ++ lines)
stay_fresh setting bound old lines parts sound fresh below learnt needed last le =
    let all = parts_of setting Counter in
    let shown = line_of (length (encoding_of setting Counter last)) in
    let within : bound ≤ last = omega arith in
    let reach : bound ≤ suc last = omega arith in
    let after : AreSound (encoding_of setting Counter bound) old.derived lines =
    subst (λ (axioms : List (List Literal)). AreSound axioms old.derived lines) parts (AreSound-after old.axioms [] old.derived lines sound.sound) in
    let found : AreLearnt (encoding_of setting Counter bound ++ clauses_of old.derived) (goal_literal setting Counter bound) (clauses_of lines) =
    subst (λ (axioms : List (List Literal)). AreLearnt (axioms ++ clauses_of old.derived) (goal_literal setting Counter bound) (clauses_of lines)) parts learnt in
    let new = learnt_fresh all bound last old.derived lines within below found needed after in
    subst (AreFresh all last []) (sym (map-append shown old.derived lines))
    (AreFresh-append all last [] (map shown old.derived) (map shown lines) (fresh last reach)
    (subst (λ (clauses : List (List Literal)). AreFresh all last clauses (map shown lines)) (sym (clauses_of-lines (length (encoding_of setting Counter last)) old.derived)) new))

refuted_left : (goal : Literal) (xs ys : List (List Literal)) → AnyRefutes goal xs → AnyRefutes goal (xs ++ ys)
refuted_left goal xs ys (k, x, within, is, refutes) =
    (k, x, omega (arith, length-append xs ys), get_or_append_left xs ys x k within ∙ is, refutes)

line_there : (log : Lines) (goal : Literal) (line : LineId) → IsRefuting log goal line → line.number ≤ length log.derived
line_there log goal line is = subst (λ (b : Bool). line.number ≤ cond b (length log.derived) (length log.axioms)) is.derived is.is_line.within

-- a line of the log that refutes is one of its clauses, and one of the first where these are taken up to it
line_refutes : (log : Lines) (goal : Literal) (line : LineId) → IsRefuting log goal line → AnyRefutes goal (clauses_of log.derived)
line_refutes log goal line is =
    let at = clause_of log line in
    let counted = is.is_line.counted in
    let within = line_there log goal line is in
    let there : line.number - 1 < length (clauses_of log.derived) = omega (arith, counted, within, length-map log.derived (λ (it : Derived). it.clause)) in
    let same : clause_of log line ≡ slice_index_or (clauses_of log.derived) (line.number - 1) [] =
    ap (λ (b : Bool). slice_index_or (cond b (clauses_of log.derived) log.axioms) (line.number - 1) []) is.derived in
    (line.number - 1, at, there, get_or_default (clauses_of log.derived) (line.number - 1) at [] there ∙ sym same, is.refutes)

-- where no line is after one that refutes, the lines up to one that does end with it
ends_first : (log : Lines) (axioms : ℕ) (goal : Literal) (line : LineId) → NoneAfterRefuting goal (clauses_of log.derived) → IsRefuting log goal line → EndsRefuting goal (first_lines log axioms line.number)
ends_first log axioms goal line none is =
    let counted = is.is_line.counted in
    let within = line_there log goal line is in
    let all = map (line_of axioms) log.derived in
    let size : length all ≡ length log.derived = length-map log.derived (line_of axioms) in
    let clauses : clauses_of_lines all ≡ clauses_of log.derived = clauses_of-lines axioms log.derived in
    let same : clause_of log line ≡ slice_index_or (clauses_of_lines all) (line.number - 1) [] =
    ap (λ (b : Bool). slice_index_or (cond b (clauses_of log.derived) log.axioms) (line.number - 1) []) is.derived
    ∙ ap (λ (them : List (List Literal)). slice_index_or them (line.number - 1) []) (sym clauses) in
    let found = ends_at goal all (line.number - 1) [] (subst (NoneAfterRefuting goal) (sym clauses) none) (omega (arith, counted, within, size))
    (subst (Refutes goal) same is.refutes) in
    let whole : take line.number log.derived ≡ log.derived = take_all line.number log.derived (let last = found.0 in omega (arith, last, size)) in
    subst (λ (them : List Derived). EndsRefuting goal (map (line_of axioms) them)) (sym whole) found.1

clauses_of-first : (log : Lines) (axioms lines : ℕ) → clauses_of_lines (first_lines log axioms lines) ≡ take lines (clauses_of log.derived)
clauses_of-first log axioms lines = clauses_of-lines axioms (take lines log.derived) ∙ sym (take-map (λ (it : Derived). it.clause) lines log.derived)

-- ---- the first lines of the log over the parts that were added

has_lines : (setting : SettingValue) (bound lines : ℕ) (log : Lines) → log.axioms ≡ encoding_of setting Counter bound → IsSound log → lines ≤ length log.derived
    → NameTheirVariables setting bound → StayFresh setting (suc bound) log.derived → HasLines setting bound log (length log.axioms) lines
has_lines setting bound lines log parts sound there names fresh =
    let axioms = length log.axioms in
    let vars = vars_up_to setting Counter bound in
    let whole : take axioms log.axioms ≡ log.axioms = take-length log.axioms in
    let all : take axioms log.axioms ≡ encoding_of setting Counter bound = whole ∙ parts in
    let covers : Covers log axioms lines = record {
      axioms_there = omega arith;
      lines_there = there;
      hints_there = All-take (λ (it : Derived). NameNoLaterAxiom axioms it.hints) lines log.derived (hints_there log.axioms [] log.derived sound.sound);
    } in
    let only : NameOnly (λ var. (1 ≤ var) × (var ≤ vars)) (take axioms log.axioms) = subst (NameOnly (λ var. (1 ≤ var) × (var ≤ vars))) (sym all) names in
    let good : AreGood vars (take axioms log.axioms) (first_lines log axioms lines) =
    AreGood-derived vars (take axioms log.axioms) (first_lines log axioms lines) only (first_lines_derived log axioms lines sound covers) in
    let reach : suc bound ≤ suc bound = omega arith in
    let numbered : lines_over setting bound log.derived ≡ map (line_of axioms) log.derived = ap (λ (n : ℕ). map (line_of n) log.derived) (sym (ap length parts)) in
    record {
      parts = all;
      covers = covers;
      are = record {
        form = subst (λ (clauses : List (List Literal)). HaveForm vars (length clauses + 1) (first_lines log axioms lines)) parts
            (first_lines_form log axioms lines vars sound covers only);
        good = subst (λ (clauses : List (List Literal)). AreGood vars clauses (first_lines log axioms lines)) all good;
        fresh = subst (AreFresh (parts_of setting Counter) bound []) (take-map (line_of axioms) lines log.derived)
            (AreFresh-take (parts_of setting Counter) bound [] lines (map (line_of axioms) log.derived)
            (subst (AreFresh (parts_of setting Counter) bound []) numbered (fresh bound reach)));
      };
    }

below_next : (setting : SettingValue) (bound : ℕ) (derived : List Derived) → RefuteLower setting bound derived → AnyRefutes (goal_literal setting Counter bound) (clauses_of derived)
    → RefuteLower setting (suc bound) derived
below_next setting bound derived below here lower less =
    elim (cases_lt lower bound) [
      | inl earlier ↦ below lower earlier
      | inr more ↦ let e : bound ≡ lower = omega arith in subst (λ (n : ℕ). AnyRefutes (goal_literal setting Counter n) (clauses_of derived)) e here
    ]

-- ---- what the solver answers

-- it derived lines at a bound
pub record IsSolved (task : TaskValue) (bound : ℕ) (old new : SolverState) : Type 0 where
  pub learns : Learns old.log new.log (goal_literal task.setting Counter bound)
  pub vars : new.trail.vars ≡ old.trail.vars
  pub few : length new.log.derived ≤ task.budget
  pub sound : IsSound new.log

grown : (old new : Lines) (goal : Literal) → Learns old new goal → Grows old new
grown old new goal learns = record {
  axioms = [];
  derived = learns.lines;
  more_axioms = ap (λ (log : Lines). log.axioms) learns.added ∙ sym (append_none old.axioms);
  more_derived = ap (λ (log : Lines). log.derived) learns.added;
}

derived_after : (task : TaskValue) (bound : ℕ) (old new : SolverState) → old.log.axioms ≡ encoding_of task.setting Counter bound → AreDerived task bound old.log
    → IsSolved task bound old new → StayFresh task.setting (suc bound) new.log.derived
derived_after task bound old new parts derived solved =
    let learns = solved.learns in
    let e = ap (λ (log : Lines). log.derived) learns.added in
    subst (StayFresh task.setting (suc bound)) (sym e)
    (stay_fresh task.setting bound old.log learns.lines parts (subst IsSound learns.added solved.sound) derived.fresh derived.below learns.learnt learns.needed)

below_after : (task : TaskValue) (bound : ℕ) (old new : SolverState) → RefuteLower task.setting bound old.log.derived → IsSolved task bound old new
    → RefuteLower task.setting bound new.log.derived
below_after task bound old new below solved lower less =
    let learns = solved.learns in
    let goal = goal_literal task.setting Counter lower in
    let e = ap (λ (log : Lines). clauses_of log.derived) learns.added ∙ map-append (λ (it : Derived). it.clause) old.log.derived learns.lines in
    subst (AnyRefutes goal) (sym e) (refuted_left goal (clauses_of old.log.derived) (clauses_of learns.lines) (below lower less))

-- after the call, no line is after one that refutes the bound
none_after : (task : TaskValue) (bound : ℕ) (old new : SolverState) → NoneAfterRefuting (goal_literal task.setting Counter bound) (clauses_of old.log.derived)
    → IsSolved task bound old new → NoneAfterRefuting (goal_literal task.setting Counter bound) (clauses_of new.log.derived)
none_after task bound old new none solved =
    let learns = solved.learns in
    let goal = goal_literal task.setting Counter bound in
    let e = ap (λ (log : Lines). clauses_of log.derived) learns.added ∙ map-append (λ (it : Derived). it.clause) old.log.derived learns.lines in
    subst (NoneAfterRefuting goal) (sym e)
    (none_after_append goal (clauses_of old.log.derived) (clauses_of learns.lines) none (none_after_learnt (clauses_in old.log) goal (clauses_of learns.lines) learns.learnt)
    (λ any. ap clauses_of (learns.needed any)))

-- nor after one that refutes the next bound: it has no literal, and so refutes this bound as well
ends_next : (setting : SettingValue) (bound : ℕ) (log : Lines) → log.axioms ≡ encoding_of setting Counter bound → IsSound log → NameTheirVariables setting bound
    → StayFresh setting (suc bound) log.derived → NoneAfterRefuting (goal_literal setting Counter bound) (clauses_of log.derived)
    → NoneAfterRefuting (goal_literal setting Counter (suc bound)) (clauses_of log.derived)
ends_next setting bound log parts sound names fresh none =
    let axioms = length log.axioms in
    let count = length log.derived in
    let vars = vars_up_to setting Counter bound in
    let next = goal_literal setting Counter (suc bound) in
    let has = has_lines setting bound count log parts sound (omega arith) names fresh in
    let whole : clauses_of_lines (first_lines log axioms count) ≡ clauses_of log.derived =
    clauses_of-first log axioms count ∙ take_all count (clauses_of log.derived) (omega (arith, length-map log.derived (λ (it : Derived). it.clause))) in
    let above : vars < next.var = omega (arith, next_vars setting bound, vars_grow setting (suc bound), goal_last (numbering_of setting Counter) (suc bound)) in
    none_after_next (goal_literal setting Counter bound) next vars (clauses_of log.derived) above
    (subst (NameOnly (λ var. (1 ≤ var) × (var ≤ vars))) whole (names_of_form vars (length (encoding_of setting Counter bound) + 1) (first_lines log axioms count) has.are.form)) none

pub axioms_after : (task : TaskValue) (bound : ℕ) (old new : SolverState) → old.log.axioms ≡ encoding_of task.setting Counter bound → IsSolved task bound old new
    → new.log.axioms ≡ encoding_of task.setting Counter bound
axioms_after task bound old new parts solved = ap (λ (log : Lines). log.axioms) solved.learns.added ∙ parts

pub fewer_after : (task : TaskValue) (bound : ℕ) (old new : SolverState) (shown : Shown) → HasAdded task bound old shown → IsSolved task bound old new
    → RefutesFewer task.setting bound new.log shown.axioms shown.lines
fewer_after task bound old new shown added solved =
    RefutesFewer-kept task.setting bound old.log new.log shown.axioms shown.lines (grown old.log new.log (goal_literal task.setting Counter bound) solved.learns) added.fewer

pub refuted : (task : TaskValue) (bound : ℕ) (old new : SolverState) (shown : Shown) (line : LineId) → HasAdded task bound old shown → IsSolved task bound old new
    → IsRefuting new.log (goal_literal task.setting Counter bound) line
    → HasRefuted task (suc bound) new (record { axioms = length new.log.axioms; lines = line.number })
refuted task bound old new shown line added solved refuting =
    let setting = task.setting in
    let goal = goal_literal setting Counter bound in
    let parts = axioms_after task bound old new added.parts solved in
    let fresh = derived_after task bound old new added.parts added.derived solved in
    let any = line_refutes new.log goal line refuting in
    let none = none_after task bound old new added.derived.ends solved in
    let within = line_there new.log goal line refuting in
    record {
      parts = parts;
      vars = solved.vars ∙ added.vars ∙ sym (next_vars setting bound);
      derived = record {
        few = solved.few;
        ends = ends_next setting bound new.log parts solved.sound added.names fresh none;
        fresh = fresh;
        below = below_next setting bound new.log.derived (below_after task bound old new added.derived.below solved) any;
      };
      fewer = record {
        over = has_lines setting bound line.number new.log parts solved.sound within added.names fresh;
        ends = ends_first new.log (length new.log.axioms) goal line none refuting;
      };
    }

pub spent : (task : TaskValue) (bound : ℕ) (old new : SolverState) (shown : Shown) → bound ≤ task.vars.steps → HasAdded task bound old shown → IsSolved task bound old new
    → IsSpentSolver new.log (goal_literal task.setting Counter bound) task.budget
    → (HasLines task.setting bound new.log (length new.log.axioms) task.budget → task.budget < 3 ^ vars_up_to task.setting Counter task.vars.steps)
    → IsSpent task.setting task.vars.steps task.budget new.log bound
spent task bound old new shown within added solved spends few =
    let setting = task.setting in
    let parts = axioms_after task bound old new added.parts solved in
    let fresh = derived_after task bound old new added.parts added.derived solved in
    let count = spends.spent in
    let there : task.budget ≤ length new.log.derived = omega arith in
    let whole : clauses_of_lines (first_lines new.log (length new.log.axioms) task.budget) ≡ clauses_of new.log.derived =
    clauses_of-first new.log (length new.log.axioms) task.budget ∙ take_all task.budget (clauses_of new.log.derived) (omega (arith, length-map new.log.derived (λ (it : Derived). it.clause))) in
    let has = has_lines setting bound task.budget new.log parts solved.sound there added.names fresh in
    record {
      within = within;
      parts = parts;
      spent = spends.spent;
      lines = has;
      below = λ lower less. subst (AnyRefutes (goal_literal setting Counter lower)) (sym whole) (below_after task bound old new added.derived.below solved lower less);
      left = λ any. spends.none (subst (AnyRefutes (goal_literal setting Counter bound)) whole any);
      few = few has;
    }

-- ---- least

-- no schedule that plays has so few steps
none_fits : (setting : SettingValue) (bound : ℕ) (log : Lines) (axioms lines : ℕ) → EveryScheduleFits setting Counter bound → HasRefutation setting bound log axioms lines
    → (steps : List (List Action)) → Plays setting steps → length steps ≤ bound → ⊥
none_fits setting bound log axioms lines fits has steps plays short =
    let fit = fits steps plays short in
    let derived = AreDerived-good (vars_up_to setting Counter bound) (encoding_of setting Counter bound) (first_lines log axioms lines) has.over.are.good in
    lines_refute fit.values (encoding_of setting Counter bound) (first_lines log axioms lines) (goal_literal setting Counter bound) derived (ends_any (goal_literal setting Counter bound) (first_lines log axioms lines) has.ends) fit.model.clauses fit.model.goal

fewer_steps : (setting : SettingValue) (steps : ℕ) (log : Lines) (axioms lines : ℕ) → ((bound : ℕ) → bound < steps → EveryScheduleFits setting Counter bound)
    → RefutesFewer setting steps log axioms lines → (other : List (List Action)) → Plays setting other → length other < steps → ⊥
fewer_steps setting zero log axioms lines fits none other plays less = absurd (omega arith)
fewer_steps setting (suc bound) log axioms lines fits has other plays less = none_fits setting bound log axioms lines (fits bound (omega arith)) has other plays (omega arith)

-- a schedule of so many steps is least where there are none with fewer
pub is_least : (setting : SettingValue) (steps : ℕ) (log : Lines) (axioms lines : ℕ) (schedule : List (List Action))
    → ((bound : ℕ) → bound < steps → EveryScheduleFits setting Counter bound) → RefutesFewer setting steps log axioms lines
    → Plays setting schedule → length schedule ≡ steps → IsLeast setting schedule
is_least setting steps log axioms lines schedule fits fewer plays long = record {
  plays = plays;
  least = λ other also. elim (cases_lt (length other) steps) [
    | inl less ↦ absurd (fewer_steps setting steps log axioms lines fits fewer other also less)
    | inr more ↦ omega arith
  ];
}

-- after the last bound there is none
pub none_within : (task : TaskValue) (max : ℕ) (solver : SolverState) (shown : Shown) → EveryScheduleFits task.setting Counter max → HasRefuted task (suc max) solver shown
    → IsNoneWithin task.setting max task.budget solver.log shown.lines
none_within task max solver shown fits has =
    let setting = task.setting in
    let covers = has.fewer.over.covers in
    let all : length (take shown.axioms solver.log.axioms) ≡ length solver.log.axioms = ap length (has.fewer.over.parts ∙ sym has.parts) in
    let counted : shown.axioms ≡ length solver.log.axioms = sym (length-take-le shown.axioms solver.log.axioms covers.axioms_there) ∙ all in
    record {
      none = none_fits setting max solver.log shown.axioms shown.lines fits has.fewer;
      parts = has.parts;
      refutation = subst (λ (axioms : ℕ). HasRefutation setting max solver.log axioms shown.lines) counted has.fewer;
      few = has.derived.few;
    }
