-- Working notions of private functions: what is kept for propagation, and the invariant of the watches.
use Rattle.std.specs.Prelude.{◌≡◌, ◌≢◌, ℕ, ◌*◌, ◌/◌, ◌<◌, ◌≤◌, ◌⊎◌, List, ◌∷◌, [], ◌++◌, Option, Some, None, length, slice_get, slice_set, take}
use Rattle.sat_base.specs.Literal.{Literal, negated}
use Rattle.sat_base.specs.Clauses.{Has}
use Rattle.sat_base.specs.Fresh.{HasTrue}
use Rattle.derivation_log.specs.Log.{Lines, IsLine, clause_of}
use Rattle.derivation_log.specs.declared.line_id.LineId.{LineId}
use Rattle.watch_lists.specs.Watched.{list_of}
use Rattle.solver_trail.specs.Trail.{Trail, literals_of, up_to, IsFalseAt}
use Rattle.cdcl.specs.Solver.{IsFalsified}
use Rattle.cdcl.specs.Linked.{Linked, other_link}
use Rattle.cdcl.specs.declared.watching.Watching.{Watching}
use Rattle.cdcl.specs.declared.watching.Pair.{Pair}
use Rattle.solver_trail.specs.declared.values.Assigned.{Assigned}
use Rattle.cdcl.specs.declared.propagation.Looked.{Looked}
use Rattle.cdcl.specs.declared.propagation.Looked.TheVariants.{Kept as LookedKept, Moved as LookedMoved, Falsified as LookedFalsified}
use Rattle.cdcl.specs.declared.propagation.Stepped.{Stepped}
use Rattle.cdcl.specs.declared.propagation.Stepped.TheVariants.{Kept as SteppedKept, Moved as SteppedMoved, Falsified as SteppedFalsified}

-- The lines of at most one literal; for each clause of two links its line, if there is one by now; for each link
-- its literal; and how many literals of the trail were propagated.
pub record Kept : Type 0 where
  pub vars : ℕ
  pub short : List (Option LineId)
  pub lines : List (Option LineId)
  pub literals : List Literal
  pub done : ℕ

abbrev pub kept_of : Watching → Kept
kept_of watching = record {
  vars = watching.linked.watched.vars;
  short = watching.short.items;
  lines = watching.lines.items;
  literals = watching.linked.literals;
  done = watching.done;
}

-- nothing is kept
abbrev pub nothing_kept : Kept
nothing_kept = record { vars = 0; short = []; lines = []; literals = []; done = 0 }

-- so many literals of the trail were propagated
abbrev pub with_done : Kept → ℕ → Kept
with_done kept done =
    record { vars = kept.vars; short = kept.short; lines = kept.lines; literals = kept.literals; done = done }

-- the line watches the first literal by the link, and the second one by the other link
pub record IsPair (kept : Kept) (link : ℕ) (line : LineId) (a b : Literal) : Type 0 where
  pub at : slice_get kept.lines (link / 2) ≡ Some (Some line)
  pub own : slice_get kept.literals link ≡ Some a
  pub other : slice_get kept.literals (other_link link) ≡ Some b

-- a line of at most one literal
pub record IsShort (log : Lines) (line : LineId) : Type 0 where
  pub is_line : IsLine log line
  pub single : (a b : Literal) → Has (clause_of log line) a → Has (clause_of log line) b → a ≡ b

-- a line is among those kept
abbrev pub IsAmong : List (Option LineId) → LineId → Type 0
IsAmong lines line = (place : ℕ) × (slice_get lines place ≡ Some (Some line))

-- each line of the log is kept: one of at most one literal, or one that watches two different literals of its own
pub record AreStored (log : Lines) (kept : Kept) : Type 0 where
  pub count : length kept.literals ≡ 2 * length kept.lines
  pub lines : (link : ℕ) (line : LineId) (a b : Literal) → IsPair kept link line a b → IsLine log line
  pub has : (link : ℕ) (line : LineId) (a b : Literal) → IsPair kept link line a b → Has (clause_of log line) a
  pub differ : (link : ℕ) (line : LineId) (a b : Literal) → IsPair kept link line a b → a ≢ b
  pub short : (line : LineId) → IsAmong kept.short line → IsShort log line
  pub covers : (line : LineId) → IsLine log line → IsAmong kept.short line ⊎ IsAmong kept.lines line

-- where the negation of a watched literal is in the first set, the other literal that its line watches is in the
-- second
abbrev pub IsGuarded : List Literal → List Literal → Kept → Type 0
IsGuarded processed set kept = (link : ℕ) (line : LineId) (a b : Literal) →
    IsPair kept link line a b → Has processed (negated a) → Has set b

-- What holds of the watches between calls. Up to each level below the current one, where a watched literal is
-- false, the other one is true; up to the current level this holds of what was propagated.
pub record AreWatched (log : Lines) (trail : Trail) (kept : Kept) : Type 0 where
  pub vars : trail.vars ≤ kept.vars
  pub stored : AreStored log kept
  pub done : kept.done ≤ length trail.entries
  pub lower : (level : ℕ) → level < trail.level →
      IsGuarded (literals_of (up_to level trail.entries)) (literals_of (up_to level trail.entries)) kept
  pub here : IsGuarded (literals_of (take kept.done trail.entries)) (literals_of trail.entries) kept

-- each line of at most one literal has a true one
abbrev pub ShortAreTrue : List Literal → Lines → List (Option LineId) → Type 0
ShortAreTrue set log short = (line : LineId) → IsAmong short line → HasTrue set (clause_of log line)

-- a literal of the clause, other than that one, that is not false
pub record IsFree (set clause : List Literal) (except literal : Literal) : Type 0 where
  pub has : Has clause literal
  pub different : literal ≢ except
  pub not_false : Has set (negated literal) → ⊥

-- what a look at a line comes to, of whose two watched literals the other one is given
abbrev pub IsLooked : Lines → LineId → Literal → Trail → Trail → Looked → Type 0
IsLooked log line other old new LookedKept = Has (literals_of new.entries) other
IsLooked log line other old new (LookedMoved to) =
    (new ≡ old) × IsFree (literals_of old.entries) (clause_of log line) other to
IsLooked log line other old new (LookedFalsified falsified) = IsFalsified log new falsified

-- the link watches another literal from now on
pub record IsMoved (old new : Linked) (link : ℕ) (literal : Literal) : Type 0 where
  pub to : Literal
  pub different : to ≢ literal
  pub vars : new.watched.vars ≡ old.watched.vars
  pub literals : new.literals ≡ slice_set old.literals link to
  pub list : (front back : List ℕ) → list_of old.watched literal ≡ front ++ link ∷ back
      → list_of new.watched literal ≡ front ++ back

-- the link stays, and the other literal is true
pub record IsHeld (old new : Watching) (link : ℕ) (literal : Literal) (set : List Literal) : Type 0 where
  pub same : new.linked ≡ old.linked
  pub holds : (line : LineId) (b : Literal) → IsPair (kept_of old) link line literal b → Has set b

-- what a step to a link in the list of a false literal comes to
abbrev pub IsStepped : Watching → Watching → ℕ → Literal → Lines → Trail → Stepped → Type 0
IsStepped old new link literal log trail SteppedKept = IsHeld old new link literal (literals_of trail.entries)
IsStepped old new link literal log trail SteppedMoved = IsMoved old.linked new.linked link literal
IsStepped old new link literal log trail (SteppedFalsified line) = IsFalsified log trail line

-- all but the links stays
pub record MovesLinks (old new : Watching) : Type 0 where
  pub short : new.short ≡ old.short
  pub lines : new.lines ≡ old.lines
  pub done : new.done ≡ old.done

-- each line that watches the literal has another true one
abbrev pub AllHold : Kept → Literal → List Literal → Type 0
AllHold kept literal set = (link : ℕ) (line : LineId) (b : Literal) → IsPair kept link line literal b → Has set b

-- ---- a further line

-- one more place for a line, or for what may become one: among the lines of at most one literal, or with two links
abbrev pub with_slot : Kept → Option Pair → Option LineId → Kept
with_slot kept None slot = record {
  vars = kept.vars;
  short = kept.short ++ slot ∷ [];
  lines = kept.lines;
  literals = kept.literals;
  done = kept.done;
}
with_slot kept (Some pair) slot = record {
  vars = kept.vars;
  short = kept.short;
  lines = kept.lines ++ slot ∷ [];
  literals = kept.literals ++ pair.first ∷ pair.second ∷ [];
  done = kept.done;
}

-- both literals have lists, and they differ
abbrev pub CanWatch : ℕ → Option Pair → Type 0
CanWatch vars None = Unit {0}
CanWatch vars (Some pair) = ((1 ≤ pair.first.var) × (pair.first.var ≤ vars))
    × ((1 ≤ pair.second.var) × (pair.second.var ≤ vars)) × (pair.first ≢ pair.second)

-- two different literals of the clause; none where it has at most one
abbrev pub IsPairOf : List Literal → Option Pair → Type 0
IsPairOf clause None = (a b : Literal) → Has clause a → Has clause b → a ≡ b
IsPairOf clause (Some pair) = Has clause pair.first × Has clause pair.second × (pair.first ≢ pair.second)

-- the new place has the line, and the pair are the two literals in this or the other order
abbrev pub IsNewPair : Option Pair → Option LineId → LineId → Literal → Literal → Type 0
IsNewPair None slot line a b = ⊥
IsNewPair (Some pair) slot line a b = (slot ≡ Some line)
    × (((pair.first ≡ a) × (pair.second ≡ b)) ⊎ ((pair.second ≡ a) × (pair.first ≡ b)))

-- the log has one line more
pub record AddsClause (old new : Lines) (line : LineId) (clause : List Literal) : Type 0 where
  pub lines : (earlier : LineId) → IsLine old earlier → IsLine new earlier
  pub clauses : (earlier : LineId) → IsLine old earlier → clause_of new earlier ≡ clause_of old earlier
  pub is_line : IsLine new line
  pub is : clause_of new line ≡ clause
  pub one : (other : LineId) → IsLine new other → IsLine old other ⊎ (other ≡ line)

-- the pair that a learnt clause watches: its first unique implication point, and a literal of the level to go back to
abbrev pub WatchesTarget : List Assigned → ℕ → Literal → Option Pair → Type 0
WatchesTarget entries target asserted None = Unit {0}
WatchesTarget entries target asserted (Some pair) = (pair.first ≡ asserted) × IsFalseAt entries target pair.second
