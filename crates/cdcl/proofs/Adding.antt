-- How a further line is kept.
use Rattle.std.proofs.Common.{◌≡◌, ◌≢◌, ℕ, zero, suc, ◌+◌, ◌-◌, ◌*◌, ◌/◌, ◌<◌, ◌≤◌, Bool, true, false, cond, List, [], ◌∷◌, ◌++◌, ◌⊎◌, inl, inr, Option, Some, None, length, take, get_or, set, refl, sym, ap, ◌∙◌, subst, arith, length-append}
use Rattle.std.specs.Prelude.{slice_get, min}
use Rattle.std.proofs.lemmas.Option.{slice_get_within}
use Rattle.std.proofs.lemmas.Bool.{cases_lt}
use Rattle.std.proofs.lemmas.List.{take-append-le, take_more}
use Rattle.std.proofs.Math.Seq.{set-append_seam}
use Rattle.sat_base.specs.Literal.{Literal, negated}
use Rattle.sat_base.specs.Clauses.{Has, SameLiterals}
use Rattle.sat_base.specs.Fresh.{IsOpen, HasTrue}
use Rattle.sat_base.proofs.Sets.{cases_literal}
use Rattle.sat_base.proofs.Clauses.{EachVariable-has}
use Rattle.sat_base.proofs.Resolving.{negated-negated}
use Rattle.derivation_log.specs.declared.line_id.LineId.{LineId}
use Rattle.derivation_log.specs.Log.{Derived, Lines, log_of, axiom_id, derived_id, IsLine, clause_of}
use Rattle.derivation_log.proofs.Logs.{IsLine-more, clause_of-more}
use Rattle.solver_trail.specs.declared.values.Assigned.{Assigned}
use Rattle.cdcl.specs.declared.watching.Pair.{Pair}
use Rattle.solver_trail.specs.Trail.{Trail, literals_of, up_to, Forces, assigned, IsFalseAt}
use Rattle.cdcl.specs.Searching.{IsRest, HasOneLeft}
use Rattle.cdcl.specs.Learning.{IsTarget}
use Rattle.cdcl.specs.Linked.{other_link}
use Rattle.cdcl.specs.Watching.{Kept, IsPair, IsAmong, AreStored, IsGuarded, AreWatched, with_slot, IsPairOf, IsNewPair, AddsClause, WatchesTarget, CanWatch, ShortAreTrue, with_done}
use Rattle.cdcl.proofs.Links.{get_left, get_within, get_past, other_cases, other_within}
use Rattle.solver_trail.proofs.Trails.{up_to-push}
use Rattle.cdcl.proofs.Walking.{Has-before, Has-after}
use Rattle.cdcl.proofs.Soundness.{up_to-lower, open_up_to, Has-up_to}
use Rattle.cdcl.proofs.Learning.{Found, asserted_open, new_line, new_line_is_line}
use Rattle.cdcl.proofs.Guards.{Has-taken}

same_some : {X : Type 0} (a b : X) → Some a ≡ Some b → a ≡ b
same_some a b e = cc

-- the item that was put last
last_item : {X : Type 0} (xs : List X) (x y : X) (k : ℕ) → slice_get (xs ++ x ∷ []) k ≡ Some y → (slice_get xs k ≡ Some y) ⊎ ((k ≡ length xs) × (x ≡ y))
last_item xs x y k e = elim (cases_lt k (length xs)) [
  | inl less ↦ inl (get_within xs (x ∷ []) k y less e)
  | inr past ↦
      let within = slice_get_within (xs ++ x ∷ []) k y e in
      let at : k ≡ length xs = omega (arith, length-append xs (x ∷ [])) in
      inr (at, same_some x y (sym (get_past xs (x ∷ []) k 0 (omega arith)) ∙ e))
]

-- ---- the pairs afterwards

new_pair : (kept : Kept) (pair : Pair) (slot : Option LineId) (link : ℕ) (line : LineId) (a b : Literal) → length kept.literals ≡ 2 * length kept.lines → link / 2 ≡ length kept.lines → slot ≡ Some line
    → slice_get (kept.literals ++ pair.first ∷ pair.second ∷ []) link ≡ Some a → slice_get (kept.literals ++ pair.first ∷ pair.second ∷ []) (other_link link) ≡ Some b → IsNewPair (Some pair) slot line a b
new_pair kept pair slot link line a b count half is own other = elim (other_cases link) [
  | inl even ↦
      let parity = even.0 in
      let turned = even.1 in (
        is,
        inl (
          same_some pair.first a (sym (get_past kept.literals (pair.first ∷ pair.second ∷ []) link 0 (omega arith)) ∙ own),
          same_some pair.second b (sym (get_past kept.literals (pair.first ∷ pair.second ∷ []) (other_link link) 1 (omega arith)) ∙ other),
        ),
      )
  | inr odd ↦
      let parity = odd.0 in
      let turned = odd.1 in (
        is,
        inr (
          same_some pair.second a (sym (get_past kept.literals (pair.first ∷ pair.second ∷ []) link 1 (omega arith)) ∙ own),
          same_some pair.first b (sym (get_past kept.literals (pair.first ∷ pair.second ∷ []) (other_link link) 0 (omega arith)) ∙ other),
        ),
      )
]

pub slot_pair : (kept : Kept) (watched : Option Pair) (slot : Option LineId) (link : ℕ) (line : LineId) (a b : Literal) → length kept.literals ≡ 2 * length kept.lines → IsPair (with_slot kept watched slot) link line a b → IsPair kept link line a b ⊎ IsNewPair watched slot line a b
slot_pair kept None slot link line a b count pair = inl (record { at = pair.at; own = pair.own; other = pair.other })
slot_pair kept (Some watched) slot link line a b count pair = elim (last_item kept.lines slot (Some line) (link / 2) pair.at) [
  | inl old ↦
      let half = slice_get_within kept.lines (link / 2) (Some line) old in
      let within : link < 2 * length kept.lines = omega arith in
      let other = other_within link (length kept.lines) within in
      inl (record {
        at = old;
        own = get_within kept.literals (watched.first ∷ watched.second ∷ []) link a (omega arith) pair.own;
        other = get_within kept.literals (watched.first ∷ watched.second ∷ []) (other_link link) b (omega arith) pair.other;
      })
  | inr new ↦ inr (new_pair kept watched slot link line a b count new.0 new.1 pair.own pair.other)
]

-- an old pair is still one
among_longer : (lines : List (Option LineId)) (slot : Option LineId) (line : LineId) → IsAmong lines line → IsAmong (lines ++ slot ∷ []) line
among_longer lines slot line among = (among.0, get_left lines (slot ∷ []) among.0 (Some line) among.1)

among_last : (lines : List (Option LineId)) (line : LineId) → IsAmong (lines ++ Some line ∷ []) line
among_last lines line = (length lines, get_past lines (Some line ∷ []) (length lines) 0 (omega arith))

pub among_cases : (lines : List (Option LineId)) (slot : Option LineId) (line : LineId) → IsAmong (lines ++ slot ∷ []) line → IsAmong lines line ⊎ (slot ≡ Some line)
among_cases lines slot line among = elim (last_item lines slot (Some line) among.0 among.1) [ inl old ↦ inl (among.0, old) | inr new ↦ inr new.1 ]

short_slot : (kept : Kept) (watched : Option Pair) (slot : Option LineId) (line : LineId) → IsAmong (with_slot kept watched slot).short line → IsAmong kept.short line ⊎ ((watched ≡ None) × (slot ≡ Some line))
short_slot kept None slot line among = elim (among_cases kept.short slot line among) [ inl h ↦ inl h | inr e ↦ inr (refl, e) ]
short_slot kept (Some pair) slot line among = inl among

covers_slot : (kept : Kept) (watched : Option Pair) (slot : Option LineId) (line : LineId) → IsAmong kept.short line ⊎ IsAmong kept.lines line → IsAmong (with_slot kept watched slot).short line ⊎ IsAmong (with_slot kept watched slot).lines line
covers_slot kept None slot line (inl among) = inl (among_longer kept.short slot line among)
covers_slot kept None slot line (inr among) = inr among
covers_slot kept (Some pair) slot line (inl among) = inl among
covers_slot kept (Some pair) slot line (inr among) = inr (among_longer kept.lines slot line among)

covers_new : (kept : Kept) (watched : Option Pair) (line : LineId) → IsAmong (with_slot kept watched (Some line)).short line ⊎ IsAmong (with_slot kept watched (Some line)).lines line
covers_new kept None line = inl (among_last kept.short line)
covers_new kept (Some pair) line = inr (among_last kept.lines line)

count_slot : (kept : Kept) (watched : Option Pair) (slot : Option LineId) → length kept.literals ≡ 2 * length kept.lines → length (with_slot kept watched slot).literals ≡ 2 * length (with_slot kept watched slot).lines
count_slot kept None slot count = count
count_slot kept (Some pair) slot count = omega (arith, length-append kept.literals (pair.first ∷ pair.second ∷ []), length-append kept.lines (slot ∷ []))

-- ---- a place for a line that is not there yet

no_new_pair : (watched : Option Pair) (line : LineId) (a b : Literal) → IsNewPair watched None line a b → ⊥
no_new_pair None line a b new = new
no_new_pair (Some pair) line a b new = absurd cc

old_pair : (kept : Kept) (watched : Option Pair) (link : ℕ) (line : LineId) (a b : Literal) → length kept.literals ≡ 2 * length kept.lines → IsPair (with_slot kept watched None) link line a b → IsPair kept link line a b
old_pair kept watched link line a b count pair = elim (slot_pair kept watched None link line a b count pair) [ inl h ↦ h | inr new ↦ absurd (no_new_pair watched line a b new) ]

no_new_short : (line : LineId) → None ≡ Some line → ⊥
no_new_short line e = cc

pub stored_prepared : (log : Lines) (kept : Kept) (watched : Option Pair) → AreStored log kept → AreStored log (with_slot kept watched None)
stored_prepared log kept watched stored = record {
  count = count_slot kept watched None stored.count;
  lines = λ x l a b pair. stored.lines x l a b (old_pair kept watched x l a b stored.count pair);
  has = λ x l a b pair. stored.has x l a b (old_pair kept watched x l a b stored.count pair);
  differ = λ x l a b pair. stored.differ x l a b (old_pair kept watched x l a b stored.count pair);
  short = λ line among. elim (short_slot kept watched None line among) [ inl h ↦ stored.short line h | inr new ↦ absurd (no_new_short line new.1) ];
  covers = λ line is_line. covers_slot kept watched None line (stored.covers line is_line);
}

pub done_slot : (kept : Kept) (watched : Option Pair) (slot : Option LineId) → (with_slot kept watched slot).done ≡ kept.done
done_slot kept None slot = refl
done_slot kept (Some pair) slot = refl

vars_slot : (kept : Kept) (watched : Option Pair) (slot : Option LineId) → (with_slot kept watched slot).vars ≡ kept.vars
vars_slot kept None slot = refl
vars_slot kept (Some pair) slot = refl

pub watched_prepared : (log : Lines) (trail : Trail) (kept : Kept) (watched : Option Pair) → AreWatched log trail kept → AreWatched log trail (with_slot kept watched None)
watched_prepared log trail kept watched all = record {
  vars = let e = vars_slot kept watched None in let h = all.vars in omega arith;
  stored = stored_prepared log kept watched all.stored;
  done = let e = done_slot kept watched None in let h = all.done in omega arith;
  lower = λ level less x l a b pair denied. all.lower level less x l a b (old_pair kept watched x l a b all.stored.count pair) denied;
  here = λ x l a b pair denied. all.here x l a b (old_pair kept watched x l a b all.stored.count pair)
      (subst (λ (n : ℕ). Has (literals_of (take n trail.entries)) (negated a)) (done_slot kept watched None) denied);
}

-- ---- the line is there

new_line_is : (watched : Option Pair) (line other : LineId) (a b : Literal) → IsNewPair watched (Some line) other a b → other ≡ line
new_line_is None line other a b new = absurd new
new_line_is (Some pair) line other a b new = same_some other line (sym new.0)

new_has : (watched : Option Pair) (clause : List Literal) (line other : LineId) (a b : Literal) → IsPairOf clause watched → IsNewPair watched (Some line) other a b → Has clause a
new_has None clause line other a b of new = absurd new
new_has (Some pair) clause line other a b of new = elim (new.1) [
  | inl e ↦ subst (Has clause) e.0 of.0
  | inr e ↦ subst (Has clause) e.0 of.1
]

new_differ : (watched : Option Pair) (clause : List Literal) (line other : LineId) (a b : Literal) → IsPairOf clause watched → IsNewPair watched (Some line) other a b → a ≢ b
new_differ None clause line other a b of new same = absurd new
new_differ (Some pair) clause line other a b of new same = elim (new.1) [
  | inl e ↦ of.2 (e.0 ∙ same ∙ sym e.1)
  | inr e ↦ of.2 (e.1 ∙ sym same ∙ sym e.0)
]

single_of : (clause : List Literal) (watched : Option Pair) → watched ≡ None → IsPairOf clause watched → (a b : Literal) → Has clause a → Has clause b → a ≡ b
single_of clause None is of = of
single_of clause (Some pair) is of = absurd cc

pub stored_added : (old new : Lines) (kept : Kept) (watched : Option Pair) (line : LineId) (clause : List Literal) → AddsClause old new line clause → IsPairOf clause watched → AreStored old kept → AreStored new (with_slot kept watched (Some line))
stored_added old new kept watched line clause adds of stored = record {
  count = count_slot kept watched (Some line) stored.count;
  lines = λ x l a b pair. elim (slot_pair kept watched (Some line) x l a b stored.count pair) [
    | inl h ↦ adds.lines l (stored.lines x l a b h)
    | inr h ↦ subst (IsLine new) (sym (new_line_is watched line l a b h)) adds.is_line
  ];
  has = λ x l a b pair. elim (slot_pair kept watched (Some line) x l a b stored.count pair) [
    | inl h ↦ subst (λ (c : List Literal). Has c a) (sym (adds.clauses l (stored.lines x l a b h))) (stored.has x l a b h)
    | inr h ↦ subst (λ (c : List Literal). Has c a) (sym (ap (clause_of new) (new_line_is watched line l a b h) ∙ adds.is)) (new_has watched clause line l a b of h)
  ];
  differ = λ x l a b pair. elim (slot_pair kept watched (Some line) x l a b stored.count pair) [
    | inl h ↦ stored.differ x l a b h
    | inr h ↦ new_differ watched clause line l a b of h
  ];
  short = λ l among. elim (short_slot kept watched (Some line) l among) [
    | inl h ↦
        let was = stored.short l h in
        let same = adds.clauses l was.is_line in
        record { is_line = adds.lines l was.is_line; single = λ a b has_a has_b. was.single a b (subst (λ (c : List Literal). Has c a) same has_a) (subst (λ (c : List Literal). Has c b) same has_b) }
    | inr h ↦
        let is : l ≡ line = same_some l line (sym h.1) in
        let same : clause_of new l ≡ clause = ap (clause_of new) is ∙ adds.is in
        record {
          is_line = subst (IsLine new) (sym is) adds.is_line;
          single = λ a b has_a has_b. single_of clause watched h.0 of a b (subst (λ (c : List Literal). Has c a) same has_a) (subst (λ (c : List Literal). Has c b) same has_b);
        }
  ];
  covers = λ l is_line. elim (adds.one l is_line) [
    | inl earlier ↦ covers_slot kept watched (Some line) l (stored.covers l earlier)
    | inr is ↦ subst (λ (y : LineId). IsAmong (with_slot kept watched (Some line)).short y ⊎ IsAmong (with_slot kept watched (Some line)).lines y) (sym is) (covers_new kept watched line)
  ];
}

-- a line more, and back at level 0, where all literals are to be propagated again
pub watched_at_base : (old new : Lines) (trail after : Trail) (kept : Kept) (watched : Option Pair) (line : LineId) (clause : List Literal) → AddsClause old new line clause → IsPairOf clause watched → after.level ≡ 0 → after.vars ≡ trail.vars → AreWatched old trail kept
    → AreWatched new after (with_done (with_slot kept watched (Some line)) 0)
watched_at_base old new trail after kept watched line clause adds of base vars all =
    let stored = stored_added old new kept watched line clause adds of all.stored in
    record {
      vars = let e = vars_slot kept watched (Some line) in let h = all.vars in omega arith;
      stored = record { count = stored.count; lines = λ x l a b pair. stored.lines x l a b (same_pair x l a b pair); has = λ x l a b pair. stored.has x l a b (same_pair x l a b pair); differ = λ x l a b pair. stored.differ x l a b (same_pair x l a b pair); short = stored.short; covers = stored.covers };
      done = omega arith;
      lower = λ level less. absurd (omega arith);
      here = λ x l a b pair denied. absurd denied;
    }
  where
    same_pair : (x : ℕ) (l : LineId) (a b : Literal) → IsPair (with_done (with_slot kept watched (Some line)) 0) x l a b → IsPair (with_slot kept watched (Some line)) x l a b
    same_pair x l a b pair = record { at = pair.at; own = pair.own; other = pair.other }

-- a line of at most one literal more, at level 0
pub watched_short : (old new : Lines) (trail : Trail) (kept : Kept) (line : LineId) (clause : List Literal) → AddsClause old new line clause → IsPairOf clause None → trail.level ≡ 0 → AreWatched old trail kept
    → AreWatched new trail (with_slot kept None (Some line))
watched_short old new trail kept line clause adds of base all = record {
  vars = all.vars;
  stored = stored_added old new kept None line clause adds of all.stored;
  done = all.done;
  lower = λ level less. absurd (omega arith);
  here = λ x l a b pair denied. all.here x l a b (record { at = pair.at; own = pair.own; other = pair.other }) denied;
}

-- ---- logs with a line more

le_cases : (n m : ℕ) → n ≤ m + 1 → (n ≤ m) ⊎ (n ≡ m + 1)
le_cases n m h = elim (cases_lt m n) [ inl more ↦ inr (omega arith) | inr less ↦ inl less ]

derived_cases : (log : Lines) (line : Derived) (derived : Bool) (number : ℕ) → 1 ≤ number → number ≤ cond derived (length (log.derived ++ line ∷ [])) (length log.axioms)
    → (number ≤ cond derived (length log.derived) (length log.axioms)) ⊎ ((derived ≡ true) × (number ≡ length log.derived + 1))
derived_cases log line true number counted within = elim (le_cases number (length log.derived) (omega (arith, length-append log.derived (line ∷ [])))) [ inl h ↦ inl h | inr e ↦ inr (refl, e) ]
derived_cases log line false number counted within = inl within

axiom_cases : (log : Lines) (clause : List Literal) (derived : Bool) (number : ℕ) → 1 ≤ number → number ≤ cond derived (length log.derived) (length (log.axioms ++ clause ∷ []))
    → (number ≤ cond derived (length log.derived) (length log.axioms)) ⊎ ((derived ≡ false) × (number ≡ length log.axioms + 1))
axiom_cases log clause false number counted within = elim (le_cases number (length log.axioms) (omega (arith, length-append log.axioms (clause ∷ [])))) [ inl h ↦ inl h | inr e ↦ inr (refl, e) ]
axiom_cases log clause true number counted within = inl within

none_more : {X : Type 0} (xs : List X) → xs ++ [] ≡ xs
none_more [] = refl
none_more (x ∷ xs) = ap (λ (ys : List _). x ∷ ys) (none_more xs)

pub adds_derived : (log new : Lines) (line : Derived) (id : LineId) → new ≡ log_of log.axioms (log.derived ++ line ∷ []) → id ≡ derived_id (length log.derived + 1) → AddsClause log new id line.clause
adds_derived log new line id added is = subst (λ (l : Lines). AddsClause log l id line.clause) (sym added) (subst (λ (i : LineId). AddsClause log (log_of log.axioms (log.derived ++ line ∷ [])) i line.clause) (sym is) (record {
  lines = λ earlier is_line. subst (λ (axioms : List (List Literal)). IsLine (log_of axioms (log.derived ++ line ∷ [])) earlier) (none_more log.axioms) (IsLine-more log.axioms [] log.derived (line ∷ []) earlier is_line);
  clauses = λ earlier is_line. subst (λ (axioms : List (List Literal)). clause_of (log_of axioms (log.derived ++ line ∷ [])) earlier ≡ clause_of log earlier) (none_more log.axioms) (clause_of-more log.axioms [] log.derived (line ∷ []) earlier is_line);
  is_line = new_line_is_line log line;
  is = new_line log line;
  one = λ other is_line. elim (derived_cases log line other.derived other.number is_line.counted is_line.within) [
    | inl h ↦ inl (record { counted = is_line.counted; within = h })
    | inr h ↦ inr (λ i. record { derived = h.0 i; number = h.1 i })
  ];
}))

last_clause : (xs : List (List Literal)) (x : List Literal) (k : ℕ) → k ≡ length xs → get_or (xs ++ x ∷ []) k [] ≡ x
last_clause [] x zero at = refl
last_clause [] x (suc k) at = absurd (omega arith)
last_clause (y ∷ xs) x zero at = absurd (omega arith)
last_clause (y ∷ xs) x (suc k) at = last_clause xs x k (omega arith)

pub adds_axiom : (log new : Lines) (clause : List Literal) (id : LineId) → new ≡ log_of (log.axioms ++ clause ∷ []) log.derived → id ≡ axiom_id (length log.axioms + 1) → AddsClause log new id clause
adds_axiom log new clause id added is = subst (λ (l : Lines). AddsClause log l id clause) (sym added) (subst (λ (i : LineId). AddsClause log (log_of (log.axioms ++ clause ∷ []) log.derived) i clause) (sym is) (record {
  lines = λ earlier is_line. subst (λ (derived : List Derived). IsLine (log_of (log.axioms ++ clause ∷ []) derived) earlier) (none_more log.derived) (IsLine-more log.axioms (clause ∷ []) log.derived [] earlier is_line);
  clauses = λ earlier is_line. subst (λ (derived : List Derived). clause_of (log_of (log.axioms ++ clause ∷ []) derived) earlier ≡ clause_of log earlier) (none_more log.derived) (clause_of-more log.axioms (clause ∷ []) log.derived [] earlier is_line);
  is_line = record { counted = omega arith; within = omega (arith, length-append log.axioms (clause ∷ [])) };
  is = last_clause log.axioms clause (length log.axioms + 1 - 1) (omega arith);
  one = λ other is_line. elim (axiom_cases log clause other.derived other.number is_line.counted is_line.within) [
    | inl h ↦ inl (record { counted = is_line.counted; within = h })
    | inr h ↦ inr (λ i. record { derived = h.0 i; number = h.1 i })
  ];
}))

-- ---- a learnt line

-- the literals that a learnt clause watches: neither is false up to a lower level, and the second is false up to
-- the level to go back to
target_pair : (log : Lines) (trail : Trail) (clause : List Literal) (literal : Literal) (target : ℕ) (watched : Option Pair) (id line : LineId) (a b : Literal) → Found log trail clause literal target → WatchesTarget trail.entries target literal watched → IsNewPair watched (Some id) line a b
    → ((a ≡ literal) × IsFalseAt trail.entries target b) ⊎ ((b ≡ literal) × IsFalseAt trail.entries target a)
target_pair log trail clause literal target None id line a b found watches new = absurd new
target_pair log trail clause literal target (Some pair) id line a b found watches new = elim (new.1) [
  | inl e ↦ inl (sym e.0 ∙ watches.0, subst (IsFalseAt trail.entries target) e.1 watches.1)
  | inr e ↦ inr (sym e.1 ∙ watches.0, subst (IsFalseAt trail.entries target) e.0 watches.1)
]

is_open_not : (set : List Literal) (literal : Literal) → IsOpen set literal → Has set (negated literal) → ⊥
is_open_not set literal unassigned has = EachVariable-has (λ var. var ≢ literal.var) set (negated literal) unassigned has refl

pub watched_learnt : (log new : Lines) (trail : Trail) (kept : Kept) (clause line_clause : List Literal) (literal : Literal) (target : ℕ) (watched : Option Pair) (line : LineId) → Found log trail clause literal target → WatchesTarget trail.entries target literal watched
    → AddsClause log new line line_clause → IsPairOf line_clause watched → AreWatched log trail kept
    → AreWatched new (assigned (record trail { level = target; entries = up_to target trail.entries }) literal (Some line)) (with_done (with_slot kept watched (Some line)) (min kept.done (length (up_to target trail.entries))))
watched_learnt log new trail kept clause line_clause literal target watched line found watches adds of all =
    let below = found.is.below in
    let back = up_to target trail.entries in
    let entry : Assigned = record { literal = literal; level = target; reason = Some line } in
    let stored = stored_added log new kept watched line line_clause adds of all.stored in
    record {
      vars = let e = vars_slot kept watched (Some line) in let h = all.vars in omega arith;
      stored = record { count = stored.count; lines = λ x l a b pair. stored.lines x l a b (same_pair x l a b pair); has = λ x l a b pair. stored.has x l a b (same_pair x l a b pair); differ = λ x l a b pair. stored.differ x l a b (same_pair x l a b pair); short = stored.short; covers = stored.covers };
      done = omega (arith, length-append back (entry ∷ []));
      lower = λ lower less.
          let shorter = up_to-push lower back entry less ∙ up_to-lower lower target trail.entries (omega arith) in
          subst (λ (xs : List Assigned). IsGuarded (literals_of xs) (literals_of xs) (with_done (with_slot kept watched (Some line)) done)) (sym shorter)
          (λ x l a b pair denied. elim (slot_pair kept watched (Some line) x l a b all.stored.count (same_pair x l a b pair)) [
            | inl h ↦ all.lower lower (omega arith) x l a b h denied
            | inr h ↦ elim (target_pair log trail clause literal target watched line l a b found watches h) [
              | inl e ↦
                  let free = open_up_to lower trail.level trail.entries literal found.order found.is.asserting.at (omega arith) in
                  absurd (is_open_not (literals_of (up_to lower trail.entries)) literal free (subst (λ (y : Literal). Has (literals_of (up_to lower trail.entries)) (negated y)) e.0 denied))
              | inr e ↦
                  let free = open_up_to lower target trail.entries a found.order e.1 less in
                  absurd (is_open_not (literals_of (up_to lower trail.entries)) a free denied)
            ]
          ]);
      here = λ x l a b pair denied.
          let front = take-append-le done back (entry ∷ []) (omega arith) in
          let there : Has (literals_of (take done back)) (negated a) = subst (λ (xs : List Assigned). Has (literals_of xs) (negated a)) front denied in
          let whole : Has (literals_of back) (negated a) = Has-taken done back (negated a) there in
          elim (slot_pair kept watched (Some line) x l a b all.stored.count (same_pair x l a b pair)) [
            | inl h ↦ Has-before back (entry ∷ []) b (all.lower target below x l a b h whole)
            | inr h ↦ elim (target_pair log trail clause literal target watched line l a b found watches h) [
              | inl e ↦
                  let free = asserted_open log trail clause literal target found in
                  absurd (is_open_not (literals_of back) literal free (subst (λ (y : Literal). Has (literals_of back) (negated y)) e.0 whole))
              | inr e ↦ Has-after back (entry ∷ []) b (inl (sym e.0))
            ]
          ];
    }
  where
    done : ℕ
    done = min kept.done (length (up_to target trail.entries))

    same_pair : (x : ℕ) (l : LineId) (a b : Literal) → IsPair (with_done (with_slot kept watched (Some line)) done) x l a b → IsPair (with_slot kept watched (Some line)) x l a b
    same_pair x l a b pair = record { at = pair.at; own = pair.own; other = pair.other }

-- literals of a clause whose variables are known have lists
pub can_watch : (clause : List Literal) (vars : ℕ) (watched : Option Pair) → ((literal : Literal) → Has clause literal → (1 ≤ literal.var) × (literal.var ≤ vars)) → IsPairOf clause watched → CanWatch vars watched
can_watch clause vars None named of = tt
can_watch clause vars (Some pair) named of = (named pair.first of.0, named pair.second of.1, of.2)

-- what is left of a clause of which one literal at most is not false
pub rest_is_short : (set clause rest : List Literal) → HasOneLeft set clause → IsRest set clause rest → IsPairOf rest None
rest_is_short set clause rest one is a b has_a has_b = one a b (is.within a has_a) (is.within b has_b) (is.left a has_a) (is.left b has_b)

-- of a false clause none is left
pub false_one_left : (set clause : List Literal) → ((literal : Literal) → Has clause literal → Has set (negated literal)) → HasOneLeft set clause
false_one_left set clause all a b has_a has_b open_a open_b = absurd (open_a (all a has_a))

-- of a clause that forces a literal that one is left
pub forces_one_left : (set clause : List Literal) (literal : Literal) → Forces set clause literal → HasOneLeft set clause
forces_one_left set clause literal forces a b has_a has_b open_a open_b = sym (is a has_a open_a) ∙ is b has_b open_b
  where
    is : (x : Literal) → Has clause x → (Has set (negated x) → ⊥) → literal ≡ x
    is x has not_false = elim (cases_literal x literal) [ inl e ↦ sym e | inr ne ↦ absurd (not_false (forces.others x has ne)) ]

-- the pair of the resolvent is one of the line
pub pair_same_literals : (clause line : List Literal) (watched : Option Pair) → SameLiterals clause line → IsPairOf clause watched → IsPairOf line watched
pair_same_literals clause line None same of = λ a b has_a has_b. of a b (same.1 a has_a) (same.1 b has_b)
pair_same_literals clause line (Some pair) same of = (same.0 pair.first of.0, same.0 pair.second of.1, of.2)

-- where no other literal is false at the level to go back to, the clause has no other literal
pub no_other : (entries : List Assigned) (level : ℕ) (clause : List Literal) (literal : Literal) (target : ℕ) → IsTarget entries level clause literal target → ((other : Literal) → Has clause other → other ≢ literal → IsFalseAt entries target other → ⊥) → IsPairOf clause None
no_other entries level clause literal target is none a b has_a has_b = only a has_a ∙ sym (only b has_b)
  where
    no_reached : 1 ≤ target → ⊥
    no_reached above = let other = is.reached above in none other.other other.has other.different other.at

    only : (x : Literal) → Has clause x → x ≡ literal
    only x has = elim (cases_literal x literal) [
      | inl e ↦ e
      | inr ne ↦
          let low = Has-up_to target entries (negated x) (is.others x has ne) in
          elim (cases_lt 0 target) [
            | inl above ↦ absurd (no_reached (omega arith))
            | inr base ↦
                let bound = low.1.0 in
                let same : low.0 ≡ target = omega arith in
                absurd (none x has ne (subst (λ (n : ℕ). IsFalseAt entries n x) same (subst (IsFalseAt entries low.0) (negated-negated x) low.1.1)))
          ]
    ]

-- ---- the places of lines

-- the last place of a list of lines gets its line
pub put_short : (kept front : Kept) (watched : Option Pair) (last : ℕ) (line : LineId) → watched ≡ None → kept ≡ with_slot front watched None → last ≡ length kept.short
    → record { vars = kept.vars; short = set kept.short (last - 1) (Some line); lines = kept.lines; literals = kept.literals; done = kept.done } ≡ with_slot front watched (Some line)
put_short kept front (Some pair) last line is same len = absurd cc
put_short kept front None last line is same len =
    let shorts = ap (λ (k : Kept). length k.short) same in
    let at : last - 1 ≡ length front.short = omega (arith, length-append front.short (None ∷ [])) in
    ap (λ (k : Kept). let now : Kept = record { vars = k.vars; short = set k.short (last - 1) (Some line); lines = k.lines; literals = k.literals; done = k.done } in now) same
    ∙ ap (λ (n : ℕ). let now : Kept = record { vars = front.vars; short = set (front.short ++ None ∷ []) n (Some line); lines = front.lines; literals = front.literals; done = front.done } in now) at
    ∙ ap (λ (xs : List (Option LineId)). let now : Kept = record { vars = front.vars; short = xs; lines = front.lines; literals = front.literals; done = front.done } in now) (set-append_seam front.short None [] (Some line))

pub put_line : (kept front : Kept) (watched : Option Pair) (pair : Pair) (last : ℕ) (line : LineId) → watched ≡ Some pair → kept ≡ with_slot front watched None → last ≡ length kept.lines
    → record { vars = kept.vars; short = kept.short; lines = set kept.lines (last - 1) (Some line); literals = kept.literals; done = kept.done } ≡ with_slot front watched (Some line)
put_line kept front None pair last line is same len = absurd cc
put_line kept front (Some watched) pair last line is same len =
    let places = ap (λ (k : Kept). length k.lines) same in
    let at : last - 1 ≡ length front.lines = omega (arith, length-append front.lines (None ∷ [])) in
    let literals = front.literals ++ watched.first ∷ watched.second ∷ [] in
    ap (λ (k : Kept). let now : Kept = record { vars = k.vars; short = k.short; lines = set k.lines (last - 1) (Some line); literals = k.literals; done = k.done } in now) same
    ∙ ap (λ (n : ℕ). let now : Kept = record { vars = front.vars; short = front.short; lines = set (front.lines ++ None ∷ []) n (Some line); literals = literals; done = front.done } in now) at
    ∙ ap (λ (xs : List (Option LineId)). let now : Kept = record { vars = front.vars; short = front.short; lines = xs; literals = literals; done = front.done } in now) (set-append_seam front.lines None [] (Some line))

-- one more of the lines of at most one literal
pub short_more : (log : Lines) (set_of : List Literal) (short : List (Option LineId)) (place : ℕ) (slot : Option LineId) → place < length short → get_or short place None ≡ slot → ShortAreTrue set_of log (take place short) → ((line : LineId) → slot ≡ Some line → HasTrue set_of (clause_of log line))
    → ShortAreTrue set_of log (take (place + 1) short)
short_more log set_of short place slot within is so_far here line among =
    let more : take (place + 1) short ≡ take place short ++ slot ∷ [] = take_more short place None within ∙ ap (λ (o : Option LineId). take place short ++ o ∷ []) is in
    elim (among_cases (take place short) slot line (subst (λ (xs : List (Option LineId)). IsAmong xs line) more among)) [ inl h ↦ so_far line h | inr e ↦ here line e ]

pub same_line : (line other : LineId) → Some line ≡ Some other → line ≡ other
same_line line other e = same_some line other e
