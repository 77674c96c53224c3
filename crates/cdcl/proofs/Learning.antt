-- What is learnt from a conflict: it resolves, it is fresh, and the solver stays sound.
use Rattle.std.proofs.Common.{◌≡◌, ◌≢◌, ℕ, zero, suc, ◌+◌, ◌-◌, ◌<◌, ◌≤◌, List, [], ◌∷◌, ◌++◌, ◌⊎◌, inl, inr, Some, length, get_or, take, drop, refl, sym, ap, ◌∙◌, subst, arith, length-append}
use Rattle.std.specs.Prelude.{All, IsSome}
use Rattle.std.proofs.lemmas.List.{take_all, map-append, length-map, take-append-drop}
use Rattle.std.proofs.lemmas.Bool.{cases_lt}
use Rattle.sat_base.specs.Literal.{Literal, negated}
use Rattle.sat_base.specs.Clauses.{Has, SameLiterals, EachVariable, NameOnly}
use Rattle.sat_base.specs.Resolution.{ResolveTo}
use Rattle.sat_base.specs.Fresh.{IsOpen, IsConsistent, HasTrue, HasTwoOpen, IsFreshOver}
use Rattle.sat_base.proofs.Clauses.{EachVariable-has, NameOnly-append}
use Rattle.sat_base.proofs.Resolving.{leads_alike, one_result}
use Rattle.derivation_log.specs.declared.line_id.LineId.{LineId}
use Rattle.derivation_log.specs.Log.{Derived, Lines, log_of, derived_id, clauses_of, IsLine, clause_of, chain_of}
use Rattle.cdcl.specs.Clauses.{clauses_in}
use Rattle.solver_trail.specs.declared.values.Assigned.{Assigned}
use Rattle.solver_trail.specs.Trail.{Trail, literals_of, up_to, last_level, AreInOrder, IsFalse, Forces, IsClosed, AreForced, assigned, IsFalseAt}
use Rattle.cdcl.specs.Learning.{Chained, IsResolved, HasNoTrue, IsAsserting, IsTarget, IsReduced}
use Rattle.cdcl.specs.Solver.{IsSound}
use Rattle.cdcl.proofs.Lines.{named_line}
use Rattle.solver_trail.proofs.Trails.{up_to-push, AreInOrder-take, read_at}
use Rattle.std.proofs.lemmas.Option.{same_Some, slice_get_within}
use Rattle.std.specs.Prelude.{slice_get}
use Rattle.sat_base.proofs.Sets.{cases_literal}
use Rattle.sat_base.specs.Derivation.{Refutes}
use Rattle.cdcl.proofs.Propagating.{AreForced-append, All-append}
use Rattle.cdcl.proofs.Walking.{EachVariable-from, AreForced-parts, at_some_level, order_consistent, level_below_last, IsFalseAt-before, Between, between, next_of, false_here, forced_by, reason_at_base}
use Rattle.cdcl.proofs.Targets.{false_up_to}
use Rattle.cdcl.proofs.Descending.{Has-up_to-whole, true_longer}
use Rattle.cdcl.specs.Searching.{IsAssumed, IsRest}
use Rattle.cdcl.proofs.Soundness.{all_line, open_up_to, up_to-lower, forced_with_line, clauses_with_line, sound_line}

-- ---- the start

pub resolved_start : (log : Lines) (set : List Literal) (line : LineId) (chained : Chained) → IsLine log line → SameLiterals chained.clause (clause_of log line) → chained.chain ≡ line ∷ [] → IsResolved log set chained
resolved_start log set line chained is_line same chain =
    subst (λ (hints : List LineId). IsResolved log set (record { clause = chained.clause; chain = hints })) (sym chain) (record {
      named = one;
      taken = [];
      apart = λ pivot has. absurd has;
      leads = λ further clause leads. leads_alike (record { clause = chained.clause; taken = [] }) (record { clause = clause_of log line; taken = [] }) further clause (record { clause = same; taken = refl }) leads;
    })
  where
    one : All (IsLine log) (line ∷ [])
    one zero d within = is_line
    one (suc k) d within = absurd (omega arith)

pub false_none_true : (set clause : List Literal) → IsConsistent set → IsFalse set clause → HasNoTrue set clause
false_none_true set clause consistent all literal has holds = consistent literal holds (all literal has)

pub same_named : (P : ℕ → Type 0) (log : Lines) (line : LineId) (clause : List Literal) → NameOnly P (clauses_in log) → SameLiterals clause (clause_of log line) → (literal : Literal) → Has clause literal → P literal.var
same_named P log line clause named same literal has = EachVariable-has P (clause_of log line) literal (named_line P log line named) (same.0 literal has)

-- ---- a false line has a literal of the current level

pub current_literal : (log : Lines) (trail : Trail) (line : LineId) → IsSound log trail → AreInOrder [] trail.entries → trail.level ≡ last_level trail.entries → 1 ≤ trail.level → IsLine log line → IsFalse (literals_of trail.entries) (clause_of log line)
    → (literal : Literal) × (Has (clause_of log line) literal × IsFalseAt trail.entries trail.level literal)
current_literal log trail line sound order last high is_line all =
    let below = trail.level - 1 in
    let set = literals_of (up_to below trail.entries) in
    elim (all_line (λ clause. HasTrue set clause ⊎ HasTwoOpen set clause) log line is_line (sound.closed below (omega arith))) [
      | inl t ↦ absurd (order_consistent [] trail.entries order t.literal (Has-up_to-whole below trail.entries t.literal t.holds) (all t.literal t.has))
      | inr two ↦
          let found = at_some_level trail.entries two.first (all two.first two.has_first) in
          let within = level_below_last [] trail.entries found.0 two.first order found.1 in (
            two.first,
            (
              two.has_first,
              elim (cases_lt below found.0) [
                | inl h ↦ subst (λ (l : ℕ). IsFalseAt trail.entries l two.first) (omega arith) found.1
                | inr h ↦ absurd (EachVariable-has (λ var. var ≢ two.first.var) set (negated two.first) two.first_open (false_up_to below trail.entries found.0 two.first found.1 h) refl)
              ],
            ),
          )
    ]

-- ---- the learnt line is fresh

-- what the analysis of a conflict has found
pub record Found (log : Lines) (trail : Trail) (clause : List Literal) (literal : Literal) (target : ℕ) : Type 0 where
  pub sound : IsSound log trail
  pub order : AreInOrder [] trail.entries
  pub last : trail.level ≡ last_level trail.entries
  pub is : IsTarget trail.entries trail.level clause literal target

pub asserted_open : (log : Lines) (trail : Trail) (clause : List Literal) (literal : Literal) (target : ℕ) → Found log trail clause literal target → IsOpen (literals_of (up_to target trail.entries)) literal
asserted_open log trail clause literal target found = open_up_to target trail.level trail.entries literal found.order found.is.asserting.at found.is.below

pub learnt_fresh : (log : Lines) (trail : Trail) (clause line : List Literal) (literal : Literal) (target : ℕ) → Found log trail clause literal target → SameLiterals clause line → IsFreshOver (clauses_in log) line
learnt_fresh log trail clause line literal target found same = record {
  set = literals_of (up_to target trail.entries);
  consistent = λ l has against. order_consistent [] trail.entries found.order l (Has-up_to-whole target trail.entries l has) (Has-up_to-whole target trail.entries (negated l) against);
  assumes = record {
    last = literal;
    has = same.0 literal found.is.asserting.has;
    last_open = asserted_open log trail clause literal target found;
    others = λ other has ne. found.is.others other (same.1 other has) ne;
  };
  closed = found.sound.closed target found.is.below;
}

-- ---- the solver stays sound

learnt_closed : (log : Lines) (trail : Trail) (clause line : List Literal) (literal : Literal) (target lower : ℕ) → Found log trail clause literal target → SameLiterals clause line → lower < target → HasTrue (literals_of (up_to lower trail.entries)) line ⊎ HasTwoOpen (literals_of (up_to lower trail.entries)) line
learnt_closed log trail clause line literal target lower found same less =
    let below = found.is.below in
    let other = found.is.reached (omega arith) in
    inr (record {
      first = literal;
      second = other.other;
      different = λ e. other.different (sym e);
      has_first = same.0 literal found.is.asserting.has;
      has_second = same.0 other.other other.has;
      first_open = open_up_to lower trail.level trail.entries literal found.order found.is.asserting.at (omega arith);
      second_open = open_up_to lower target trail.entries other.other found.order other.at less;
    })

-- ---- what the analysis of a conflict comes to

pub all_false : (entries : List Assigned) (old : List Literal) (new : List Literal) → IsFalse (literals_of entries) old → ((literal : Literal) → Has new literal → Has old literal ⊎ Has (literals_of entries) (negated literal)) → IsFalse (literals_of entries) new
all_false entries old new all parts literal has = elim (parts literal has) [ inl h ↦ all literal h | inr h ↦ h ]

-- ---- the line in the log

last_of : (xs : List (List Literal)) (x d : List Literal) → get_or (xs ++ x ∷ []) (length xs) d ≡ x
last_of [] x d = refl
last_of (y ∷ xs) x d = last_of xs x d

-- the new line is the last one
pub new_line : (log : Lines) (line : Derived) → clause_of (log_of log.axioms (log.derived ++ line ∷ [])) (derived_id (length log.derived + 1)) ≡ line.clause
new_line log line =
    let f : Derived → List Literal = λ d. d.clause in
    let len = length-map log.derived f in
    let one : length log.derived + 1 - 1 ≡ length (clauses_of log.derived) = omega arith in
    ap (λ (clauses : List (List Literal)). get_or clauses (length log.derived + 1 - 1) []) (map-append f log.derived (line ∷ []))
    ∙ ap (λ (k : ℕ). get_or (clauses_of log.derived ++ line.clause ∷ []) k []) one
    ∙ last_of (clauses_of log.derived) line.clause []

pub new_line_is_line : (log : Lines) (line : Derived) → IsLine (log_of log.axioms (log.derived ++ line ∷ [])) (derived_id (length log.derived + 1))
new_line_is_line log line = record { counted = omega arith; within = omega (arith, length-append log.derived (line ∷ [])) }

pub sound_learnt : (log : Lines) (trail : Trail) (clause : List Literal) (line : Derived) (literal : Literal) (target : ℕ) (rest : List Assigned) → Found log trail clause literal target → IsFalse (literals_of trail.entries) clause → SameLiterals clause line.clause
    → EachVariable (λ var. (1 ≤ var) × (var ≤ trail.vars)) (literals_of trail.entries) → trail.entries ≡ up_to target trail.entries ++ rest
    → IsSound (log_of log.axioms (log.derived ++ line ∷ [])) (assigned (record trail { level = target; entries = up_to target trail.entries }) literal (Some (derived_id (length log.derived + 1))))
sound_learnt log trail clause line literal target rest found all same each front =
    let kept = up_to target trail.entries in
    let id = derived_id (length log.derived + 1) in
    let grown = log_of log.axioms (log.derived ++ line ∷ []) in
    let entry : Assigned = record { literal = literal; level = target; reason = Some id } in
    let P : ℕ → Type 0 = λ var. var ≤ trail.vars in
    let Q : ℕ → Type 0 = λ var. 1 ≤ var in
    let var_of : (l : Literal) → Has line.clause l → (1 ≤ l.var) × (l.var ≤ trail.vars) = λ l has. EachVariable-has (λ var. (1 ≤ var) × (var ≤ trail.vars)) (literals_of trail.entries) (negated l) each (all l (same.1 l has)) in
    record {
      named = subst (NameOnly P) (sym (clauses_with_line log line)) (NameOnly-append P (clauses_in log) (line.clause ∷ []) found.sound.named (EachVariable-from P line.clause (λ l has. (var_of l has).1), tt));
      counted = subst (NameOnly Q) (sym (clauses_with_line log line)) (NameOnly-append Q (clauses_in log) (line.clause ∷ []) found.sound.counted (EachVariable-from Q line.clause (λ l has. (var_of l has).0), tt));
      forced = AreForced-append grown [] kept (entry ∷ [])
          (forced_with_line log line kept (AreForced-parts log [] kept rest (subst (AreForced log []) front found.sound.forced)).0) (
            (
              new_line_is_line log line,
              subst (λ (c : List Literal). Forces (literals_of kept) c literal) (sym (new_line log line)) (record {
                has = same.0 literal found.is.asserting.has;
                others = λ other has ne. found.is.others other (same.1 other has) ne;
              }),
            ),
            tt,
          );
      closed = λ lower less.
          let below = found.is.below in
          let shorter = up_to-push lower kept entry less ∙ up_to-lower lower target trail.entries (omega arith) in
          subst (λ (xs : List Assigned). IsClosed (literals_of xs) (clauses_in grown)) (sym shorter)
          (subst (IsClosed (literals_of (up_to lower trail.entries))) (sym (clauses_with_line log line))
          (All-append (λ c. HasTrue (literals_of (up_to lower trail.entries)) c ⊎ HasTwoOpen (literals_of (up_to lower trail.entries)) c) (clauses_in log) (line.clause ∷ [])
          (found.sound.closed lower (omega arith)) (one_clause lower (learnt_closed log trail clause line.clause literal target lower found same less))));
    }
  where
    one_clause : (lower : ℕ) → HasTrue (literals_of (up_to lower trail.entries)) line.clause ⊎ HasTwoOpen (literals_of (up_to lower trail.entries)) line.clause → All (λ c. HasTrue (literals_of (up_to lower trail.entries)) c ⊎ HasTwoOpen (literals_of (up_to lower trail.entries)) c) (line.clause ∷ [])
    one_clause lower h zero d within = h
    one_clause lower h (suc k) d within = absurd (omega arith)

pub take_whole : (n : ℕ) (entries : List Assigned) → length entries ≡ n → take n entries ≡ entries
take_whole n entries len = take_all n entries (omega arith)

-- a literal of the current level is left
pub asserting_left : (log : Lines) (trail : Trail) (line : LineId) (all : List Assigned) (start : List Literal) (new : Chained) → IsSound log trail → AreInOrder [] trail.entries → trail.level ≡ last_level trail.entries → 1 ≤ trail.level → IsLine log line → IsFalse (literals_of trail.entries) (clause_of log line)
    → SameLiterals start (clause_of log line) → all ≡ trail.entries → IsReduced log trail all start new → (last : Literal) × IsAsserting trail.entries trail.level new.clause last
asserting_left log trail line all start new sound order last high is_line all_of same whole reduced =
    let current = current_literal log trail line sound order last high is_line all_of in
    subst (λ (xs : List Assigned). (l : Literal) × IsAsserting xs trail.level new.clause l) whole
    (reduced.asserting high whole current.0 (same.1 current.0 current.1.0) (subst (λ (xs : List Assigned). IsFalseAt xs trail.level current.0) (sym whole) current.1.1))

-- what the chain was logged as has the literals of the clause
pub derived_same : (log : Lines) (new : Chained) (chain : List LineId) (clause : List Literal) → chain ≡ new.chain → ResolveTo (chain_of log new.chain) new.clause → ResolveTo (chain_of log chain) clause → SameLiterals new.clause clause
derived_same log new chain clause same mine logged = one_result (chain_of log new.chain) new.clause clause mine (subst (λ (hints : List LineId). ResolveTo (chain_of log hints) clause) same logged)

-- the clause of a line that was just added
pub added_clause : (old new : Lines) (line : Derived) (id : LineId) → new ≡ log_of old.axioms (old.derived ++ line ∷ []) → id ≡ derived_id (length old.derived + 1) → clause_of new id ≡ line.clause
added_clause old new line id added is = ap (λ (log : Lines). clause_of log id) added ∙ ap (clause_of (log_of old.axioms (old.derived ++ line ∷ []))) is ∙ new_line old line

pub assumed_learnt : (trail : Trail) (goal literal : Literal) (target : ℕ) (line : LineId) → target < trail.level → IsAssumed goal trail → IsAssumed goal (assigned (record trail { level = target; entries = up_to target trail.entries }) literal (Some line))
assumed_learnt trail goal literal target line below assumed high =
    true_longer 1 (up_to target trail.entries) (record { literal = literal; level = target; reason = Some line } ∷ []) goal
    (subst (λ (xs : List Assigned). Has (literals_of xs) goal) (sym (up_to-lower 1 target trail.entries high)) (assumed (omega arith)))

-- ---- at level 0

pub what_is_left : (log : Lines) (trail : Trail) (end : ℕ) (start clause line : List Literal) (new : Chained) → AreInOrder [] trail.entries → trail.level ≡ last_level trail.entries → trail.level ≡ 0 → SameLiterals start clause → IsReduced log trail (take end trail.entries) start new → SameLiterals new.clause line
    → IsRest (literals_of (take end trail.entries)) clause line
what_is_left log trail end start clause line new order last base same reduced logged = record {
  within = λ literal has. elim (reduced.parts literal (logged.1 literal has)) [
    | inl h ↦ same.0 literal h
    | inr h ↦ absurd (none literal has h)
  ];
  left = none;
}
  where
    none : (literal : Literal) → Has line literal → Has (literals_of (take end trail.entries)) (negated literal) → ⊥
    none literal has against =
        let all = take end trail.entries in
        let found = at_some_level all literal against in
        let whole = subst (λ (xs : List Assigned). IsFalseAt xs found.0 literal) (take-append-drop end trail.entries) (IsFalseAt-before all (drop end trail.entries) found.0 literal found.1) in
        let low = level_below_last [] trail.entries found.0 literal order whole in
        let zero_level : found.0 ≡ 0 = omega arith in
        reduced.above literal (logged.1 literal has) (subst (λ (l : ℕ). IsFalseAt all l literal) zero_level found.1)

pub sound_left : (log : Lines) (trail : Trail) (id : LineId) (line : Derived) (set : List Literal) → IsSound log trail → trail.level ≡ 0 → IsRest set (clause_of log id) line.clause → IsSound (log_of log.axioms (log.derived ++ line ∷ [])) trail
sound_left log trail id line set sound base left =
    let P : ℕ → Type 0 = λ var. var ≤ trail.vars in
    let Q : ℕ → Type 0 = λ var. 1 ≤ var in
    sound_line log trail line sound base
    (EachVariable-from P line.clause (λ l has. EachVariable-has P (clause_of log id) l (named_line P log id sound.named) (left.within l has)))
    (EachVariable-from Q line.clause (λ l has. EachVariable-has Q (clause_of log id) l (named_line Q log id sound.counted) (left.within l has)))

-- ---- a literal of level 0 and the line that forced it

-- the entry of level 0 at that place
pub record Base (log : Lines) (trail : Trail) (place : ℕ) (entry : Assigned) : Type 0 where
  pub sound : IsSound log trail
  pub order : AreInOrder [] trail.entries
  pub last : trail.level ≡ last_level trail.entries
  pub base : trail.level ≡ 0
  pub within : place < length trail.entries
  pub is : entry ≡ get_or trail.entries place entry

base_between : (log : Lines) (trail : Trail) (place : ℕ) (entry : Assigned) → Base log trail place entry → Between log trail (take place trail.entries) entry (drop (place + 1) trail.entries) trail.entries
base_between log trail place entry here = between log trail trail.entries place entry here.order here.sound.forced (λ same. here.last) here.within here.is

pub base_reason : (log : Lines) (trail : Trail) (place : ℕ) (entry : Assigned) → Base log trail place entry → IsSome entry.reason
base_reason log trail place entry here =
    let b = base_between log trail place entry here in
    let next = (next_of log trail (take place trail.entries) entry (drop (place + 1) trail.entries) trail.entries b).0 in
    let low = level_below_last [] trail.entries entry.level (negated entry.literal) here.order (false_here log trail (take place trail.entries) entry (drop (place + 1) trail.entries) trail.entries b) in
    let last = here.last in
    let base = here.base in
    let zero_level : entry.level ≡ 0 = omega arith in
    reason_at_base (take place trail.entries) entry entry.reason refl next zero_level

pub base_line : (log : Lines) (trail : Trail) (place : ℕ) (entry : Assigned) (line : LineId) → Base log trail place entry → entry.reason ≡ Some line → IsLine log line × Forces (literals_of (take place trail.entries)) (clause_of log line) entry.literal
base_line log trail place entry line here is = forced_by log (take place trail.entries) entry line entry.reason is (base_between log trail place entry here).forced

pub base_none_true : (log : Lines) (trail : Trail) (place : ℕ) (entry : Assigned) (clause : List Literal) → Base log trail place entry → Forces (literals_of (take place trail.entries)) clause entry.literal → HasNoTrue (literals_of (take place trail.entries)) clause
base_none_true log trail place entry clause here forces literal has holds =
    let b = base_between log trail place entry here in
    let next = (next_of log trail (take place trail.entries) entry (drop (place + 1) trail.entries) trail.entries b).0 in
    elim (cases_literal literal entry.literal) [
      | inl e ↦ EachVariable-has (λ var. var ≢ entry.literal.var) (literals_of (take place trail.entries)) literal next.new_variable holds (ap (λ (l : Literal). l.var) e)
      | inr ne ↦ order_consistent [] (take place trail.entries) (AreInOrder-take trail.entries place here.order) literal holds (forces.others literal has ne)
    ]

pub base_refutes : (set clause line : List Literal) (literal goal : Literal) → Forces set clause literal → literal ≡ negated goal → IsRest set clause line → Refutes goal line
base_refutes set clause line literal goal forces same left other has =
    elim (cases_literal other literal) [
      | inl e ↦ e ∙ same
      | inr ne ↦ absurd (left.left other has (forces.others other (left.within other has) ne))
    ]

-- the line that forced a literal of level 0
pub record ForcedAtBase (log : Lines) (trail : Trail) (place : ℕ) (literal : Literal) (line : LineId) : Type 0 where
  pub is_line : IsLine log line
  pub forces : Forces (literals_of (take place trail.entries)) (clause_of log line) literal
  pub none_true : HasNoTrue (literals_of (take place trail.entries)) (clause_of log line)

pub forced_at_base : (log : Lines) (trail : Trail) (place : ℕ) (items : List Assigned) (entry : Assigned) (line : LineId) (literal : Literal) → IsSound log trail → AreInOrder [] trail.entries → trail.level ≡ last_level trail.entries → trail.level ≡ 0 → items ≡ trail.entries → entry ≡ get_or items place entry
    → ((x : Assigned) × ((slice_get trail.entries place ≡ Some x) × (x.literal ≡ literal))) → (get_or items place entry).reason ≡ Some line → ForcedAtBase log trail place literal line
forced_at_base log trail place items entry line literal sound order last base same read (x, there) reason =
    let within = slice_get_within trail.entries place x there.0 in
    let is = subst (λ (xs : List Assigned). entry ≡ get_or xs place entry) same read in
    let here : Base log trail place entry = record { sound = sound; order = order; last = last; base = base; within = within; is = is } in
    let one : x ≡ entry = same_Some x entry (sym there.0 ∙ read_at trail.entries place entry is within) in
    let mine : entry.literal ≡ literal = ap (λ (y : Assigned). y.literal) (sym one) ∙ there.1 in
    let forced = base_line log trail place entry line here (ap (λ (y : Assigned). y.reason) read ∙ reason) in
    record {
      is_line = forced.0;
      forces = subst (Forces (literals_of (take place trail.entries)) (clause_of log line)) mine forced.1;
      none_true = base_none_true log trail place entry (clause_of log line) here forced.1;
    }
