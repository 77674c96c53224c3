-- The walk back over the trail, one entry at a time.
use Rattle.std.proofs.Common.{◌≡◌, ◌≢◌, ℕ, zero, suc, ◌+◌, ◌-◌, ◌<◌, ◌≤◌, List, [], ◌∷◌, ◌++◌, ◌⊎◌, inl, inr, Option, Some, None, length, get_or, take, drop, refl, sym, ap, ◌∙◌, subst, arith, append_assoc}
use Rattle.std.specs.Prelude.{All, IsSome, IfSome}
use Rattle.std.proofs.lemmas.List.{map-append, take_more, drop_more, take-append-drop}
use Rattle.std.proofs.lemmas.Option.{same_Some}
use Rattle.std.proofs.lemmas.Bool.{cases_eq}
use Rattle.sat_base.specs.Literal.{Literal, negated}
use Rattle.sat_base.specs.Clauses.{Has, EachVariable}
use Rattle.sat_base.specs.Resolution.{Step, ResolveTo, IsJoined}
use Rattle.sat_base.specs.Fresh.{IsOpen, IsConsistent}
use Rattle.sat_base.proofs.Clauses.{Has-append_left, Has-append_right, EachVariable-has, EachVariable-of_append}
use Rattle.sat_base.proofs.Resolving.{negated-negated}
use Rattle.sat_base.proofs.Sets.{cases_literal, Has-push}
use Rattle.derivation_log.specs.declared.line_id.LineId.{LineId}
use Rattle.derivation_log.specs.Log.{Lines, IsLine, clause_of, chain_of}
use Rattle.solver_trail.specs.declared.values.Assigned.{Assigned}
use Rattle.solver_trail.specs.Trail.{Trail, literals_of, last_level, level_after, IsNext, AreInOrder, Forces, IsForced, AreForced, IsFalseAt}
use Rattle.cdcl.specs.Learning.{Chained, IsResolved, HasNoTrue, CanResolve, IsKept, IsVisited, IsReduced}
use Rattle.solver_trail.proofs.Trails.{append_none, last_level-push, level_after-within, level_rises, AreInOrder-parts, AreInOrder-take, not_own_negation}
use Rattle.cdcl.proofs.Propagating.{All-append}

-- ---- trails in two parts

pub literals-append : (xs ys : List Assigned) → literals_of (xs ++ ys) ≡ literals_of xs ++ literals_of ys
literals-append xs ys = map-append (λ (entry : Assigned). entry.literal) xs ys

pub Has-before : (xs ys : List Assigned) (literal : Literal) → Has (literals_of xs) literal → Has (literals_of (xs ++ ys)) literal
Has-before xs ys literal has = rw (literals-append xs ys) (Has-append_left (literals_of xs) (literals_of ys) literal has)

pub Has-after : (xs ys : List Assigned) (literal : Literal) → Has (literals_of ys) literal → Has (literals_of (xs ++ ys)) literal
Has-after xs ys literal has = rw (literals-append xs ys) (Has-append_right (literals_of xs) (literals_of ys) literal has)

pub IsOpen-before : (xs ys : List Assigned) (literal : Literal) → IsOpen (literals_of (xs ++ ys)) literal → IsOpen (literals_of xs) literal
IsOpen-before xs ys literal is = (EachVariable-of_append (λ var. var ≢ literal.var) (literals_of xs) (literals_of ys) (rw (literals-append xs ys) at is)).0

pub IsFalseAt-append : (xs ys : List Assigned) (level : ℕ) (literal : Literal) → IsFalseAt (xs ++ ys) level literal → IsFalseAt xs level literal ⊎ IsFalseAt ys level literal
IsFalseAt-append [] ys level literal at = inr at
IsFalseAt-append (x ∷ xs) ys level literal (inl here) = inl (inl here)
IsFalseAt-append (x ∷ xs) ys level literal (inr later) = elim (IsFalseAt-append xs ys level literal later) [ inl h ↦ inl (inr h) | inr h ↦ inr h ]

pub IsFalseAt-before : (xs ys : List Assigned) (level : ℕ) (literal : Literal) → IsFalseAt xs level literal → IsFalseAt (xs ++ ys) level literal
IsFalseAt-before [] ys level literal at = absurd at
IsFalseAt-before (x ∷ xs) ys level literal (inl here) = inl here
IsFalseAt-before (x ∷ xs) ys level literal (inr later) = inr (IsFalseAt-before xs ys level literal later)

pub IsFalseAt-after : (xs ys : List Assigned) (level : ℕ) (literal : Literal) → IsFalseAt ys level literal → IsFalseAt (xs ++ ys) level literal
IsFalseAt-after [] ys level literal at = at
IsFalseAt-after (x ∷ xs) ys level literal at = inr (IsFalseAt-after xs ys level literal at)

pub Has-negated_at : (xs : List Assigned) (level : ℕ) (literal : Literal) → IsFalseAt xs level literal → Has (literals_of xs) (negated literal)
Has-negated_at [] level literal at = absurd at
Has-negated_at (x ∷ xs) level literal (inl here) = inl here.0
Has-negated_at (x ∷ xs) level literal (inr later) = inr (Has-negated_at xs level literal later)

-- a false literal is false at some level
pub at_some_level : (xs : List Assigned) (literal : Literal) → Has (literals_of xs) (negated literal) → (level : ℕ) × IsFalseAt xs level literal
at_some_level [] literal has = absurd has
at_some_level (x ∷ xs) literal (inl e) = (x.level, inl (e, refl))
at_some_level (x ∷ xs) literal (inr has) = let h = at_some_level xs literal has in (h.0, inr h.1)

-- ---- what the order of a trail says

-- no variable is before and after
pub apart_after : (before after : List Assigned) (a b : Literal) → AreInOrder before after → Has (literals_of before) a → Has (literals_of after) b → a.var ≢ b.var
apart_after before [] a b order has later same = absurd later
apart_after before (x ∷ after) a b order has (inl e) same =
    EachVariable-has (λ var. var ≢ x.literal.var) (literals_of before) a order.0.new_variable has (same ∙ ap (λ (l : Literal). l.var) (sym e))
apart_after before (x ∷ after) a b order has (inr later) same = apart_after (before ++ x ∷ []) after a b order.1 (Has-before before (x ∷ []) a has) later same

pub order_consistent : (before after : List Assigned) → AreInOrder before after → IsConsistent (literals_of after)
order_consistent before [] order literal has against = has
order_consistent before (x ∷ after) order literal (inl e) (inl f) = not_own_negation literal (sym e ∙ f)
order_consistent before (x ∷ after) order literal (inl e) (inr against) = apart_after (before ++ x ∷ []) after literal (negated literal) order.1 (Has-after before (x ∷ []) literal (inl e)) against refl
order_consistent before (x ∷ after) order literal (inr has) (inl f) = apart_after (before ++ x ∷ []) after (negated literal) literal order.1 (Has-after before (x ∷ []) (negated literal) (inl f)) has refl
order_consistent before (x ∷ after) order literal (inr has) (inr against) = order_consistent (before ++ x ∷ []) after order.1 literal has against

pub order_one_level : (before after : List Assigned) (a b : ℕ) (literal : Literal) → AreInOrder before after → IsFalseAt after a literal → IsFalseAt after b literal → a ≡ b
order_one_level before [] a b literal order here there = absurd here
order_one_level before (x ∷ after) a b literal order (inl h) (inl k) = sym h.1 ∙ k.1
order_one_level before (x ∷ after) a b literal order (inl h) (inr k) = absurd (apart_after (before ++ x ∷ []) after (negated literal) (negated literal) order.1 (Has-after before (x ∷ []) (negated literal) (inl h.0)) (Has-negated_at after b literal k) refl)
order_one_level before (x ∷ after) a b literal order (inr h) (inl k) = absurd (apart_after (before ++ x ∷ []) after (negated literal) (negated literal) order.1 (Has-after before (x ∷ []) (negated literal) (inl k.0)) (Has-negated_at after a literal h) refl)
order_one_level before (x ∷ after) a b literal order (inr h) (inr k) = order_one_level (before ++ x ∷ []) after a b literal order.1 h k

-- no level is above the last one
pub level_below_last : (before after : List Assigned) (level : ℕ) (literal : Literal) → AreInOrder before after → IsFalseAt after level literal → level ≤ last_level (before ++ after)
level_below_last before [] level literal order at = absurd at
level_below_last before (x ∷ after) level literal order (inl here) =
    let rises = level_rises (before ++ x ∷ []) after order.1 in
    let last = last_level-push before x in
    let is = here.1 in
    let h : level ≤ last_level ((before ++ x ∷ []) ++ after) = omega arith in
    subst (λ (xs : List Assigned). level ≤ last_level xs) (append_assoc before (x ∷ []) after) h
level_below_last before (x ∷ after) level literal order (inr later) =
    subst (λ (xs : List Assigned). level ≤ last_level xs) (append_assoc before (x ∷ []) after) (level_below_last (before ++ x ∷ []) after level literal order.1 later)

-- what is at level 0 was forced
pub reason_at_base : (before : List Assigned) (x : Assigned) (reason : Option LineId) → x.reason ≡ reason → IsNext before x → x.level ≡ 0 → IsSome reason
reason_at_base before x None is next base =
    let l = next.level ∙ ap (level_after (last_level before)) is in
    absurd (omega arith)
reason_at_base before x (Some line) is next base = refl

pub EachVariable-from : (P : ℕ → Type 0) (clause : List Literal) → ((literal : Literal) → Has clause literal → P literal.var) → EachVariable P clause
EachVariable-from P [] each = tt
EachVariable-from P (x ∷ clause) each = (each x (inl refl), EachVariable-from P clause (λ literal has. each literal (inr has)))

-- ---- the walk

-- what is known when the entries after are passed and those before are not
pub record Walk (log : Lines) (trail : Trail) (all : List Assigned) (old : List Literal) (before after : List Assigned) (now : Chained) : Type 0 where
  pub resolved : IsResolved log (literals_of before) now
  pub parts : (literal : Literal) → Has now.clause literal → Has old literal ⊎ Has (literals_of all) (negated literal)
  pub none_true : HasNoTrue (literals_of all) now.clause
  pub above : (literal : Literal) → Has now.clause literal → IsFalseAt after 0 literal → ⊥
  pub some : 1 ≤ trail.level → all ≡ trail.entries → (literal : Literal) → Has old literal → IsFalseAt all trail.level literal → (other : Literal) × (Has now.clause other × IsFalseAt all trail.level other)
  pub alone : 1 ≤ trail.level → all ≡ trail.entries → (one other : Literal) → Has now.clause one → IsFalseAt after trail.level one → Has now.clause other → IsFalseAt all trail.level other → one ≡ other

pub walk_start : (log : Lines) (trail : Trail) (all : List Assigned) (start : Chained) → IsResolved log (literals_of all) start → HasNoTrue (literals_of all) start.clause → Walk log trail all start.clause all [] start
walk_start log trail all start resolved none_true = record {
  resolved = resolved;
  parts = λ literal has. inl has;
  none_true = none_true;
  above = λ literal has at. at;
  some = λ level whole literal has at. (literal, (has, at));
  alone = λ level whole one other has at has_other at_other. absurd at;
}

pub walk_end : (log : Lines) (trail : Trail) (all : List Assigned) (old : List Literal) (now : Chained) → Walk log trail all old [] all now → IsReduced log trail all old now
walk_end log trail all old now walk = record {
  named = walk.resolved.named;
  resolve = subst (λ (hints : List (List Literal)). ResolveTo hints now.clause) (no_more (chain_of log now.chain)) (walk.resolved.leads [] now.clause (λ l h. h, λ l h. h));
  parts = walk.parts;
  above = walk.above;
  asserting = λ level whole literal has at.
      let found = walk.some level whole literal has at in
      (found.0, record { has = found.1.0; at = found.1.1; only = λ other has_other at_other. sym (walk.alone level whole found.0 other found.1.0 found.1.1 has_other at_other) });
}
  where
    no_more : (hints : List (List Literal)) → hints ++ [] ≡ hints
    no_more [] = refl
    no_more (h ∷ hints) = ap (λ (rest : List (List Literal)). h ∷ rest) (no_more hints)

-- ---- an entry is passed

-- the entry between the others
pub record Between (log : Lines) (trail : Trail) (before : List Assigned) (entry : Assigned) (after all : List Assigned) : Type 0 where
  pub is : all ≡ before ++ (entry ∷ after)
  pub order : AreInOrder [] all
  pub forced : IsForced log before entry.literal entry.reason
  pub last : all ≡ trail.entries → trail.level ≡ last_level all

pub next_of : (log : Lines) (trail : Trail) (before : List Assigned) (entry : Assigned) (after all : List Assigned) → Between log trail before entry after all → IsNext before entry × AreInOrder (before ++ entry ∷ []) after
next_of log trail before entry after all here =
    let parts = AreInOrder-parts [] before (entry ∷ after) (subst (AreInOrder []) here.is here.order) in
    (parts.1.0, parts.1.1)

has_entry : (log : Lines) (trail : Trail) (before : List Assigned) (entry : Assigned) (after all : List Assigned) → Between log trail before entry after all → Has (literals_of all) entry.literal
has_entry log trail before entry after all here = subst (λ (xs : List Assigned). Has (literals_of xs) entry.literal) (sym here.is) (Has-after before (entry ∷ after) entry.literal (inl refl))

has_earlier : (log : Lines) (trail : Trail) (before : List Assigned) (entry : Assigned) (after all : List Assigned) (literal : Literal) → Between log trail before entry after all → Has (literals_of before) literal → Has (literals_of all) literal
has_earlier log trail before entry after all literal here has = subst (λ (xs : List Assigned). Has (literals_of xs) literal) (sym here.is) (Has-before before (entry ∷ after) literal has)

false_later : (log : Lines) (trail : Trail) (before : List Assigned) (entry : Assigned) (after all : List Assigned) (level : ℕ) (literal : Literal) → Between log trail before entry after all → IsFalseAt after level literal → IsFalseAt all level literal
false_later log trail before entry after all level literal here at = subst (λ (xs : List Assigned). IsFalseAt xs level literal) (sym here.is) (IsFalseAt-after before (entry ∷ after) level literal (inr at))

pub false_here : (log : Lines) (trail : Trail) (before : List Assigned) (entry : Assigned) (after all : List Assigned) → Between log trail before entry after all → IsFalseAt all entry.level (negated entry.literal)
false_here log trail before entry after all here = subst (λ (xs : List Assigned). IsFalseAt xs entry.level (negated entry.literal)) (sym here.is) (IsFalseAt-after before (entry ∷ after) entry.level (negated entry.literal) (inl (sym (negated-negated entry.literal), refl)))

-- the literal that the entry makes false
own_negation : (entry : Assigned) (literal : Literal) → entry.literal ≡ negated literal → literal ≡ negated entry.literal
own_negation entry literal e = sym (ap negated e ∙ negated-negated literal)

-- a literal false before and after at once is none
not_both_ends : (log : Lines) (trail : Trail) (before : List Assigned) (entry : Assigned) (after all : List Assigned) (level : ℕ) (literal : Literal) → Between log trail before entry after all → Has (literals_of before) (negated literal) → IsFalseAt after level literal → ⊥
not_both_ends log trail before entry after all level literal here has at =
    apart_after (before ++ entry ∷ []) after (negated literal) (negated literal) (next_of log trail before entry after all here).1 (Has-before before (entry ∷ []) (negated literal) has) (Has-negated_at after level literal at) refl

not_here_and_later : (log : Lines) (trail : Trail) (before : List Assigned) (entry : Assigned) (after all : List Assigned) (level : ℕ) (literal : Literal) → Between log trail before entry after all → literal ≡ negated entry.literal → IsFalseAt after level literal → ⊥
not_here_and_later log trail before entry after all level literal here same at =
    apart_after (before ++ entry ∷ []) after entry.literal (negated literal) (next_of log trail before entry after all here).1 (Has-after before (entry ∷ []) entry.literal (inl refl)) (Has-negated_at after level literal at) (ap (λ (l : Literal). l.var) (sym same))

not_before_and_here : (log : Lines) (trail : Trail) (before : List Assigned) (entry : Assigned) (after all : List Assigned) (literal : Literal) → Between log trail before entry after all → literal ≡ negated entry.literal → Has (literals_of before) (negated literal) → ⊥
not_before_and_here log trail before entry after all literal here same has =
    EachVariable-has (λ var. var ≢ entry.literal.var) (literals_of before) (negated literal) (next_of log trail before entry after all here).0.new_variable has (ap (λ (l : Literal). l.var) same)

-- ---- it leaves the clause as it is

resolved_left : (log : Lines) (before : List Assigned) (entry : Assigned) (now : Chained) → IsResolved log (literals_of (before ++ entry ∷ [])) now → IsResolved log (literals_of before) now
resolved_left log before entry now resolved = record {
  named = resolved.named;
  taken = resolved.taken;
  apart = λ pivot has. IsOpen-before before (entry ∷ []) pivot (resolved.apart pivot has);
  leads = resolved.leads;
}

above_left : (log : Lines) (trail : Trail) (all : List Assigned) (old : List Literal) (before : List Assigned) (entry : Assigned) (after : List Assigned) (now : Chained) → Walk log trail all old (before ++ entry ∷ []) after now → Between log trail before entry after all
    → (Has now.clause (negated entry.literal) → IsKept trail now.clause entry) → (literal : Literal) → Has now.clause literal → IsFalseAt (entry ∷ after) 0 literal → ⊥
above_left log trail all old before entry after now walk here kept literal has (inl at) =
    let k = kept (subst (Has now.clause) (own_negation entry literal at.0) has) in
    let high = k.above (reason_at_base before entry entry.reason refl (next_of log trail before entry after all here).0 at.1) in
    let base = at.1 in
    omega arith
above_left log trail all old before entry after now walk here kept literal has (inr at) = walk.above literal has at

-- a decision is the first of its level
alone_decision : (log : Lines) (trail : Trail) (before : List Assigned) (entry : Assigned) (after all : List Assigned) (reason : Option LineId) (other : Literal) → Between log trail before entry after all → entry.reason ≡ reason → entry.level ≡ trail.level
    → IsFalseAt before trail.level other → IsSome reason
alone_decision log trail before entry after all None other here is level at =
    let low = level_below_last [] before trail.level other (AreInOrder-parts [] before (entry ∷ after) (subst (AreInOrder []) here.is here.order)).0 at in
    let next = (next_of log trail before entry after all here).0.level ∙ ap (level_after (last_level before)) is in
    absurd (omega arith)
alone_decision log trail before entry after all (Some line) other here is level at = refl

alone_kept : (log : Lines) (trail : Trail) (all : List Assigned) (before : List Assigned) (entry : Assigned) (after : List Assigned) (clause : List Literal) → Between log trail before entry after all → all ≡ trail.entries
    → IsKept trail clause entry → entry.level ≡ trail.level → (reason : Option LineId) → entry.reason ≡ reason → (other : Literal) → Has clause other → IsFalseAt all trail.level other → IsFalseAt before trail.level other → negated entry.literal ≡ other
alone_kept log trail all before entry after clause here whole kept level reason is other has at earlier =
    elim (cases_literal other (negated entry.literal)) [
      | inl e ↦ sym e
      | inr ne ↦
          let some : IsSome entry.reason = alone_decision log trail before entry after all entry.reason other here refl level earlier in
          absurd (kept.alone some level (record { other = other; has = has; different = ne; at = subst (λ (xs : List Assigned). IsFalseAt xs trail.level other) whole at }))
    ]

alone_left : (log : Lines) (trail : Trail) (all : List Assigned) (old : List Literal) (before : List Assigned) (entry : Assigned) (after : List Assigned) (now : Chained) → Walk log trail all old (before ++ entry ∷ []) after now → Between log trail before entry after all
    → (Has now.clause (negated entry.literal) → IsKept trail now.clause entry) → 1 ≤ trail.level → all ≡ trail.entries
    → (one other : Literal) → Has now.clause one → IsFalseAt (entry ∷ after) trail.level one → Has now.clause other → IsFalseAt all trail.level other → one ≡ other
alone_left log trail all old before entry after now walk here kept level whole one other has (inl at) has_other at_other =
    let mine = own_negation entry one at.0 in
    let k = kept (subst (Has now.clause) mine has) in
    let where_other = IsFalseAt-append before (entry ∷ after) trail.level other (subst (λ (xs : List Assigned). IsFalseAt xs trail.level other) here.is at_other) in
    elim where_other [
      | inl earlier ↦ mine ∙ alone_kept log trail all before entry after now.clause here whole k at.1 entry.reason refl other has_other at_other earlier
      | inr rest ↦ elim rest [
        | inl same ↦ mine ∙ sym (own_negation entry other same.0)
        | inr later ↦ sym (walk.alone level whole other one has_other later has (subst (λ (xs : List Assigned). IsFalseAt xs trail.level one) (sym here.is) (IsFalseAt-after before (entry ∷ after) trail.level one (inl at))))
      ]
    ]
alone_left log trail all old before entry after now walk here kept level whole one other has (inr at) has_other at_other = walk.alone level whole one other has at has_other at_other

walk_left : (log : Lines) (trail : Trail) (all : List Assigned) (old : List Literal) (before : List Assigned) (entry : Assigned) (after : List Assigned) (now : Chained) → Walk log trail all old (before ++ entry ∷ []) after now → Between log trail before entry after all
    → (Has now.clause (negated entry.literal) → IsKept trail now.clause entry) → Walk log trail all old before (entry ∷ after) now
walk_left log trail all old before entry after now walk here kept = record {
  resolved = resolved_left log before entry now walk.resolved;
  parts = walk.parts;
  none_true = walk.none_true;
  above = above_left log trail all old before entry after now walk here kept;
  some = walk.some;
  alone = alone_left log trail all old before entry after now walk here kept;
}

-- ---- it takes its literal out

only_pivot : (log : Lines) (trail : Trail) (all : List Assigned) (old : List Literal) (before : List Assigned) (entry : Assigned) (after : List Assigned) (now : Chained) (hint : List Literal) → Walk log trail all old (before ++ entry ∷ []) after now → Between log trail before entry after all
    → Forces (literals_of before) hint entry.literal → (literal : Literal) → Has hint literal → Has now.clause (negated literal) → literal ≡ entry.literal
only_pivot log trail all old before entry after now hint walk here forces literal has against =
    elim (cases_literal literal entry.literal) [
      | inl e ↦ e
      | inr ne ↦ absurd (walk.none_true (negated literal) against (has_earlier log trail before entry after all (negated literal) here (forces.others literal has ne)))
    ]

pivot_is_new : (log : Lines) (before : List Assigned) (entry : Assigned) (now : Chained) (resolved : IsResolved log (literals_of (before ++ entry ∷ [])) now) → EachVariable (λ var. var ≢ entry.literal.var) resolved.taken
pivot_is_new log before entry now resolved =
    EachVariable-from (λ var. var ≢ entry.literal.var) resolved.taken (λ pivot has same.
    EachVariable-has (λ var. var ≢ pivot.var) (literals_of (before ++ entry ∷ [])) entry.literal (resolved.apart pivot has) (Has-after before (entry ∷ []) entry.literal (inl refl)) (sym same))

pub record Taking (log : Lines) (trail : Trail) (all : List Assigned) (old : List Literal) (before : List Assigned) (entry : Assigned) (after : List Assigned) (now next : Chained) : Type 0 where
  pub walk : Walk log trail all old (before ++ entry ∷ []) after now
  pub here : Between log trail before entry after all
  pub line : LineId
  pub is_line : IsLine log line
  pub forces : Forces (literals_of before) (clause_of log line) entry.literal
  pub can : CanResolve trail now.clause entry line
  pub joined : IsJoined now.clause (clause_of log line) entry.literal next.clause
  pub chain : next.chain ≡ now.chain ++ line ∷ []

chain_of-push : (log : Lines) (chain : List LineId) (line : LineId) (further : List (List Literal)) → chain_of log (chain ++ line ∷ []) ++ further ≡ chain_of log chain ++ (clause_of log line ∷ further)
chain_of-push log [] line further = refl
chain_of-push log (first ∷ chain) line further = ap (λ (rest : List (List Literal)). clause_of log first ∷ rest) (chain_of-push log chain line further)

taken_step : (log : Lines) (trail : Trail) (all : List Assigned) (old : List Literal) (before : List Assigned) (entry : Assigned) (after : List Assigned) (now next : Chained) (taking : Taking log trail all old before entry after now next)
    → Step (record { clause = now.clause; taken = taking.walk.resolved.taken }) (clause_of log taking.line) (record { clause = next.clause; taken = taking.walk.resolved.taken ++ entry.literal ∷ [] })
taken_step log trail all old before entry after now next taking = record {
  pivot = entry.literal;
  clash = record {
    has = taking.forces.has;
    against = taking.can.had;
    only = only_pivot log trail all old before entry after now (clause_of log taking.line) taking.walk taking.here taking.forces;
  };
  new_variable = pivot_is_new log before entry now taking.walk.resolved;
  joined = taking.joined;
  counted = refl;
}

resolved_taken : (log : Lines) (trail : Trail) (all : List Assigned) (old : List Literal) (before : List Assigned) (entry : Assigned) (after : List Assigned) (now next : Chained) → Taking log trail all old before entry after now next → IsResolved log (literals_of before) next
resolved_taken log trail all old before entry after now next taking =
    let resolved = taking.walk.resolved in
    record {
      named = subst (All (IsLine log)) (sym taking.chain) (All-append (IsLine log) now.chain (taking.line ∷ []) resolved.named (one_line taking.line taking.is_line));
      taken = resolved.taken ++ entry.literal ∷ [];
      apart = λ pivot has. elim (Has-push resolved.taken entry.literal pivot has) [
        | inl h ↦ IsOpen-before before (entry ∷ []) pivot (resolved.apart pivot h)
        | inr e ↦ subst (IsOpen (literals_of before)) e (next_of log trail before entry after all taking.here).0.new_variable
      ];
      leads = λ further clause leads.
          subst (λ (hints : List (List Literal)). ResolveTo hints clause)
          (sym (ap (λ (chain : List LineId). chain_of log chain ++ further) taking.chain ∙ chain_of-push log now.chain taking.line further))
          (resolved.leads (clause_of log taking.line ∷ further) clause
          (record { clause = next.clause; taken = resolved.taken ++ entry.literal ∷ [] }, taken_step log trail all old before entry after now next taking, leads));
    }
  where
    one_line : (line : LineId) → IsLine log line → All (IsLine log) (line ∷ [])
    one_line line is_line zero d within = is_line
    one_line line is_line (suc k) d within = absurd (omega arith)

-- a literal of the next clause was there, or is false by an entry before
came_from : (log : Lines) (trail : Trail) (all : List Assigned) (old : List Literal) (before : List Assigned) (entry : Assigned) (after : List Assigned) (now next : Chained) → Taking log trail all old before entry after now next → (literal : Literal) → Has next.clause literal
    → (Has now.clause literal × (literal ≢ negated entry.literal)) ⊎ Has (literals_of before) (negated literal)
came_from log trail all old before entry after now next taking literal has =
    elim (taking.joined.parts literal has) [ inl h ↦ inl h | inr h ↦ inr (taking.forces.others literal h.0 h.1) ]

-- what is false by the entry itself is gone
entry_gone : (log : Lines) (trail : Trail) (all : List Assigned) (old : List Literal) (before : List Assigned) (entry : Assigned) (after : List Assigned) (now next : Chained) → Taking log trail all old before entry after now next → (literal : Literal) → Has next.clause literal → entry.literal ≡ negated literal → ⊥
entry_gone log trail all old before entry after now next taking literal has same =
    elim (came_from log trail all old before entry after now next taking literal has) [
      | inl h ↦ h.1 (own_negation entry literal same)
      | inr h ↦ not_before_and_here log trail before entry after all literal taking.here (own_negation entry literal same) h
    ]

-- what is false by a later entry was there
was_there : (log : Lines) (trail : Trail) (all : List Assigned) (old : List Literal) (before : List Assigned) (entry : Assigned) (after : List Assigned) (now next : Chained) → Taking log trail all old before entry after now next → (level : ℕ) (literal : Literal) → Has next.clause literal → IsFalseAt after level literal → Has now.clause literal
was_there log trail all old before entry after now next taking level literal has at =
    elim (came_from log trail all old before entry after now next taking literal has) [
      | inl h ↦ h.0
      | inr h ↦ absurd (not_both_ends log trail before entry after all level literal taking.here h at)
    ]

above_taken : (log : Lines) (trail : Trail) (all : List Assigned) (old : List Literal) (before : List Assigned) (entry : Assigned) (after : List Assigned) (now next : Chained) → Taking log trail all old before entry after now next → (literal : Literal) → Has next.clause literal → IsFalseAt (entry ∷ after) 0 literal → ⊥
above_taken log trail all old before entry after now next taking literal has (inl at) = entry_gone log trail all old before entry after now next taking literal has at.0
above_taken log trail all old before entry after now next taking literal has (inr at) = taking.walk.above literal (was_there log trail all old before entry after now next taking 0 literal has at) at

none_true_taken : (log : Lines) (trail : Trail) (all : List Assigned) (old : List Literal) (before : List Assigned) (entry : Assigned) (after : List Assigned) (now next : Chained) → Taking log trail all old before entry after now next → HasNoTrue (literals_of all) next.clause
none_true_taken log trail all old before entry after now next taking literal has holds =
    elim (came_from log trail all old before entry after now next taking literal has) [
      | inl h ↦ taking.walk.none_true literal h.0 holds
      | inr h ↦ order_consistent [] all taking.here.order literal holds (has_earlier log trail before entry after all (negated literal) taking.here h)
    ]

some_taken : (log : Lines) (trail : Trail) (all : List Assigned) (old : List Literal) (before : List Assigned) (entry : Assigned) (after : List Assigned) (now next : Chained) → Taking log trail all old before entry after now next → 1 ≤ trail.level → all ≡ trail.entries
    → (literal : Literal) → Has old literal → IsFalseAt all trail.level literal → (other : Literal) × (Has next.clause other × IsFalseAt all trail.level other)
some_taken log trail all old before entry after now next taking level whole literal has at =
    elim (cases_eq entry.level trail.level) [
      | inl same ↦
          let another = taking.can.another level same in
          (another.other, (taking.joined.keeps another.other another.has another.different, subst (λ (xs : List Assigned). IsFalseAt xs trail.level another.other) (sym whole) another.at))
      | inr ne ↦
          let found = taking.walk.some level whole literal has at in
          let other : found.0 ≢ negated entry.literal = λ e.
          ne (order_one_level [] all entry.level trail.level (negated entry.literal) taking.here.order (false_here log trail before entry after all taking.here)
          (subst (IsFalseAt all trail.level) e found.1.1)) in
          (found.0, (taking.joined.keeps found.0 found.1.0 other, found.1.1))
    ]

-- a literal that comes in is of an earlier entry: at the current level only where the entry itself is of it
alone_taken : (log : Lines) (trail : Trail) (all : List Assigned) (old : List Literal) (before : List Assigned) (entry : Assigned) (after : List Assigned) (now next : Chained) → Taking log trail all old before entry after now next → 1 ≤ trail.level → all ≡ trail.entries
    → (one other : Literal) → Has next.clause one → IsFalseAt (entry ∷ after) trail.level one → Has next.clause other → IsFalseAt all trail.level other → one ≡ other
alone_taken log trail all old before entry after now next taking level whole one other has (inl at) has_other at_other = absurd (entry_gone log trail all old before entry after now next taking one has at.0)
alone_taken log trail all old before entry after now next taking level whole one other has (inr at) has_other at_other =
    let had = was_there log trail all old before entry after now next taking trail.level one has at in
    elim (came_from log trail all old before entry after now next taking other has_other) [
      | inl h ↦ taking.walk.alone level whole one other had at h.0 at_other
      | inr h ↦
          let here = taking.here in
          let some_level = at_some_level before other h in
          let earlier : some_level.0 ≡ trail.level = order_one_level [] all some_level.0 trail.level other here.order
          (subst (λ (xs : List Assigned). IsFalseAt xs some_level.0 other) (sym here.is) (IsFalseAt-before before (entry ∷ after) some_level.0 other some_level.1)) at_other in
          let low = level_below_last [] before some_level.0 other (AreInOrder-parts [] before (entry ∷ after) (subst (AreInOrder []) here.is here.order)).0 some_level.1 in
          let next_is = (next_of log trail before entry after all here).0.level in
          let within = level_after-within (last_level before) entry.reason in
          let mine = false_here log trail before entry after all here in
          let high = level_below_last [] all entry.level (negated entry.literal) here.order mine in
          let last = here.last whole in
          let same : entry.level ≡ trail.level = omega (arith, within.0) in
          let e = taking.walk.alone level whole one (negated entry.literal) had at taking.can.had (subst (λ (l : ℕ). IsFalseAt all l (negated entry.literal)) same mine) in
          absurd (not_here_and_later log trail before entry after all trail.level one here e at)
    ]

walk_taken : (log : Lines) (trail : Trail) (all : List Assigned) (old : List Literal) (before : List Assigned) (entry : Assigned) (after : List Assigned) (now next : Chained) → Taking log trail all old before entry after now next → Walk log trail all old before (entry ∷ after) next
walk_taken log trail all old before entry after now next taking = record {
  resolved = resolved_taken log trail all old before entry after now next taking;
  parts = λ literal has. elim (came_from log trail all old before entry after now next taking literal has) [
    | inl h ↦ taking.walk.parts literal h.0
    | inr h ↦ inr (has_earlier log trail before entry after all (negated literal) taking.here h)
  ];
  none_true = none_true_taken log trail all old before entry after now next taking;
  above = above_taken log trail all old before entry after now next taking;
  some = some_taken log trail all old before entry after now next taking;
  alone = alone_taken log trail all old before entry after now next taking;
}

pub forced_by : (log : Lines) (before : List Assigned) (entry : Assigned) (line : LineId) (reason : Option LineId) → reason ≡ Some line → IsForced log before entry.literal reason → IsLine log line × Forces (literals_of before) (clause_of log line) entry.literal
forced_by log before entry line None is forced = absurd cc
forced_by log before entry line (Some other) is forced = subst (λ (l : LineId). IsLine log l × Forces (literals_of before) (clause_of log l) entry.literal) (same_Some other line is) forced

-- the next entry of the walk
pub walk_step : (log : Lines) (trail : Trail) (all : List Assigned) (old : List Literal) (before : List Assigned) (entry : Assigned) (after : List Assigned) (now next : Chained) → Walk log trail all old (before ++ entry ∷ []) after now → Between log trail before entry after all → IsVisited log trail entry now next
    → Walk log trail all old before (entry ∷ after) next
walk_step log trail all old before entry after now next walk here (inl out) =
    let forced = forced_by log before entry out.line entry.reason out.can.reason here.forced in
    walk_taken log trail all old before entry after now next (record { walk = walk; here = here; line = out.line; is_line = forced.0; forces = forced.1; can = out.can; joined = out.joined; chain = out.chain })
walk_step log trail all old before entry after now next walk here (inr left) =
    subst (Walk log trail all old before (entry ∷ after)) (sym left.same) (walk_left log trail all old before entry after now walk here left.kept)

-- ---- entries by index

pub AreForced-parts : (log : Lines) (before xs ys : List Assigned) → AreForced log before (xs ++ ys) → AreForced log before xs × AreForced log (before ++ xs) ys
AreForced-parts log before [] ys forced = (tt, subst (λ (zs : List Assigned). AreForced log zs ys) (sym (append_none before)) forced)
AreForced-parts log before (x ∷ xs) ys forced =
    let rest = AreForced-parts log (before ++ x ∷ []) xs ys forced.1 in
    ((forced.0, rest.0), subst (λ (zs : List Assigned). AreForced log zs ys) (append_assoc before (x ∷ []) xs) rest.1)

-- the first entries of a trail, cut before one of them
pub cut_at : (all : List Assigned) (k : ℕ) (entry : Assigned) → k < length all → entry ≡ get_or all k entry → all ≡ take k all ++ (entry ∷ drop (k + 1) all)
cut_at all k entry within is =
    sym (take-append-drop k all) ∙ ap (λ (rest : List Assigned). take k all ++ rest) (drop_more all k entry within ∙ ap (λ (x : Assigned). x ∷ drop (k + 1) all) (sym is))

pub between : (log : Lines) (trail : Trail) (all : List Assigned) (k : ℕ) (entry : Assigned) → AreInOrder [] all → AreForced log [] all → (all ≡ trail.entries → trail.level ≡ last_level all) → k < length all → entry ≡ get_or all k entry → Between log trail (take k all) entry (drop (k + 1) all) all
between log trail all k entry order forced last within is =
    let cut = cut_at all k entry within is in
    record { is = cut; order = order; forced = (AreForced-parts log [] (take k all) (entry ∷ drop (k + 1) all) (subst (AreForced log []) cut forced)).1.0; last = last }

-- the walk at an index
pub walk_at : (log : Lines) (trail : Trail) (all : List Assigned) (old : List Literal) (k : ℕ) (entry : Assigned) (now next : Chained) → Walk log trail all old (take (k + 1) all) (drop (k + 1) all) now → AreInOrder [] all → AreForced log [] all → (all ≡ trail.entries → trail.level ≡ last_level all)
    → k < length all → entry ≡ get_or all k entry → IsVisited log trail entry now next → Walk log trail all old (take k all) (drop k all) next
walk_at log trail all old k entry now next walk order forced last within is passed =
    let more : take (k + 1) all ≡ take k all ++ entry ∷ [] = take_more all k entry within ∙ ap (λ (x : Assigned). take k all ++ x ∷ []) (sym is) in
    let rest : drop k all ≡ entry ∷ drop (k + 1) all = drop_more all k entry within ∙ ap (λ (x : Assigned). x ∷ drop (k + 1) all) (sym is) in
    subst (λ (after : List Assigned). Walk log trail all old (take k all) after next) (sym rest)
    (walk_step log trail all old (take k all) entry (drop (k + 1) all) now next
    (subst (λ (before : List Assigned). Walk log trail all old before (drop (k + 1) all) now) more walk)
    (between log trail all k entry order forced last within is) passed)

AreForced-take : (log : Lines) (entries : List Assigned) (k : ℕ) → AreForced log [] entries → AreForced log [] (take k entries)
AreForced-take log entries k forced = (AreForced-parts log [] (take k entries) (drop k entries) (subst (AreForced log []) (sym (take-append-drop k entries)) forced)).0

length-take-within : (entries : List Assigned) (k : ℕ) → k ≤ length entries → length (take k entries) ≡ k
length-take-within entries zero within = refl
length-take-within [] (suc k) within = absurd (omega arith)
length-take-within (x ∷ entries) (suc k) within = ap suc (length-take-within entries k (omega arith))

get_or-take-within : (entries : List Assigned) (n k : ℕ) (d : Assigned) → k < n → get_or (take n entries) k d ≡ get_or entries k d
get_or-take-within entries zero k d within = absurd (omega arith)
get_or-take-within [] (suc n) k d within = refl
get_or-take-within (x ∷ entries) (suc n) zero d within = refl
get_or-take-within (x ∷ entries) (suc n) (suc k) d within = get_or-take-within entries n k d (omega arith)

-- one iteration of the walk
pub walk_back : (log : Lines) (trail : Trail) (end i : ℕ) (old : List Literal) (entry : Assigned) (now next : Chained) → Walk log trail (take end trail.entries) old (take i (take end trail.entries)) (drop i (take end trail.entries)) now
    → AreInOrder [] trail.entries → AreForced log [] trail.entries → trail.level ≡ last_level trail.entries → 0 < i → i ≤ end → end ≤ length trail.entries → entry ≡ get_or trail.entries (i - 1) entry → IsVisited log trail entry now next
    → Walk log trail (take end trail.entries) old (take (i - 1) (take end trail.entries)) (drop (i - 1) (take end trail.entries)) next
walk_back log trail end i old entry now next walk order forced level some within room is passed =
    let all = take end trail.entries in
    let k = i - 1 in
    let one : i ≡ k + 1 = omega arith in
    let len = length-take-within trail.entries end room in
    let read = get_or-take-within trail.entries end k entry (omega arith) in
    walk_at log trail all old k entry now next (subst (λ (j : ℕ). Walk log trail all old (take j all) (drop j all) now) one walk)
    (AreInOrder-take trail.entries end order) (AreForced-take log trail.entries end forced) (λ whole. level ∙ ap last_level (sym whole))
    (omega arith) (is ∙ sym read) passed

-- where the reason of an entry is a line
pub reason_is_line : (log : Lines) (entries : List Assigned) (k : ℕ) (entry : Assigned) → AreForced log [] entries → k < length entries → entry ≡ get_or entries k entry → IfSome entry.reason (IsLine log)
reason_is_line log entries k entry forced within is =
    let cut = cut_at entries k entry within is in
    go entry.reason (AreForced-parts log [] (take k entries) (entry ∷ drop (k + 1) entries) (subst (AreForced log []) cut forced)).1.0
  where
    go : (reason : Option LineId) → IsForced log (take k entries) entry.literal reason → IfSome reason (IsLine log)
    go None h = tt
    go (Some line) h = h.0

-- each literal on the way has a variable of the solver
pub walk_named : (vars : ℕ) (clause all old : List Literal) → ((literal : Literal) → Has clause literal → Has old literal ⊎ Has all (negated literal)) → ((literal : Literal) → Has old literal → literal.var ≤ vars) → EachVariable (λ var. (1 ≤ var) × (var ≤ vars)) all → (literal : Literal) → Has clause literal → literal.var ≤ vars
walk_named vars clause all old parts named each literal has =
    elim (parts literal has) [ inl h ↦ named literal h | inr h ↦ (EachVariable-has (λ var. (1 ≤ var) × (var ≤ vars)) all (negated literal) each h).1 ]

pub EachVariable-take : (P : ℕ → Type 0) (entries : List Assigned) (k : ℕ) → EachVariable P (literals_of entries) → EachVariable P (literals_of (take k entries))
EachVariable-take P entries zero each = tt
EachVariable-take P [] (suc k) each = tt
EachVariable-take P (x ∷ entries) (suc k) each = (each.0, EachVariable-take P entries k each.1)
