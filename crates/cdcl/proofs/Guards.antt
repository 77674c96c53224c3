-- The invariant of the watches, and what keeps it.
use Rattle.std.proofs.Common.{◌≡◌, ◌≢◌, ℕ, zero, suc, ◌+◌, ◌-◌, ◌*◌, ◌/◌, ◌<◌, ◌≤◌, Bool, true, false, cond, List, [], ◌∷◌, ◌++◌, ◌⊎◌, inl, inr, Option, Some, None, length, set, take, get_or, refl, sym, ap, ◌∙◌, subst, arith, length-append, length-set, add-one}
use Rattle.std.specs.Prelude.{◌↔◌, IsTrue, slice_get, All, IsSome, min}
use Rattle.std.proofs.lemmas.Option.{slice_get_within, slice_get_read}
use Rattle.std.proofs.lemmas.Bool.{cases_eq, cases_lt}
use Rattle.std.proofs.lemmas.List.{take-append-le, get_or_default}
use Rattle.sat_base.specs.Literal.{Literal, negated}
use Rattle.sat_base.specs.Clauses.{Has, clause_at}
use Rattle.sat_base.specs.Fresh.{IsOpen, IsConsistent, HasTrue, HasTwoOpen}
use Rattle.sat_base.proofs.Sets.{has_or_not, open_or_not}
use Rattle.sat_base.proofs.Resolving.{negated-negated}
use Rattle.derivation_log.specs.declared.line_id.LineId.{LineId}
use Rattle.derivation_log.specs.Log.{Lines, log_of, IsLine, clause_of}
use Rattle.solver_trail.specs.declared.values.Assigned.{Assigned}
use Rattle.cdcl.specs.Clauses.{clauses_of_kind, clauses_in}
use Rattle.solver_trail.specs.Trail.{Trail, literals_of, up_to, last_level, AreInOrder, IsClosed, assigned}
use Rattle.cdcl.specs.Solver.{IsSound, Propagates}
use Rattle.solver_trail.specs.Status.{IsUnit}
use Rattle.cdcl.specs.Linked.{other_link}
use Rattle.cdcl.specs.Watching.{Kept, nothing_kept, IsPair, IsShort, IsAmong, AreStored, IsGuarded, AreWatched, ShortAreTrue, AllHold, IsFree, with_done}
use Rattle.cdcl.proofs.Links.{get_left, get_there, get_set_same, get_set_other, other_half, other_other, other_differs, other_within}
use Rattle.solver_trail.proofs.Trails.{up_to-push, up_to-all, Has-standing}
use Rattle.cdcl.proofs.Lines.{length-kind}
use Rattle.cdcl.proofs.Propagating.{closed_both, Propagates-one}
use Rattle.std.proofs.lemmas.Bool.{both_ways}
use Rattle.cdcl.proofs.Walking.{Has-before, Has-after, order_consistent}
use Rattle.cdcl.proofs.Soundness.{up_to-lower, up_to-higher, all_line}
use Rattle.cdcl.proofs.Descending.{Has-up_to-whole}

same_some : {X : Type 0} (a b : X) → Some a ≡ Some b → a ≡ b
same_some a b e = cc

pub Has-taken : (n : ℕ) (entries : List Assigned) (literal : Literal) → Has (literals_of (take n entries)) literal → Has (literals_of entries) literal
Has-taken zero entries literal has = absurd has
Has-taken (suc n) [] literal has = has
Has-taken (suc n) (x ∷ entries) literal (inl e) = inl e
Has-taken (suc n) (x ∷ entries) literal (inr later) = inr (Has-taken n entries literal later)

take_all : (n : ℕ) (entries : List Assigned) → length entries ≤ n → take n entries ≡ entries
take_all zero [] long = refl
take_all zero (x ∷ entries) long = absurd (omega arith)
take_all (suc n) [] long = refl
take_all (suc n) (x ∷ entries) long = ap (λ (xs : List Assigned). x ∷ xs) (take_all n entries (omega arith))

pub still_true : (log : Lines) (old new : Trail) (literal : Literal) → Propagates log old new → Has (literals_of old.entries) literal → Has (literals_of new.entries) literal
still_true log old new literal propagates has = subst (λ (t : Trail). Has (literals_of t.entries) literal) (sym propagates.grows) (Has-before old.entries propagates.added literal has)

-- ---- pairs

-- the pair seen from the other link
pub pair_turned : (kept : Kept) (link : ℕ) (line : LineId) (a b : Literal) → IsPair kept link line a b → IsPair kept (other_link link) line b a
pair_turned kept link line a b pair = record {
  at = ap (slice_get kept.lines) (other_half link) ∙ pair.at;
  own = pair.other;
  other = ap (slice_get kept.literals) (other_other link) ∙ pair.own;
}

-- the kept things have the same pairs
abbrev pub SamePairs : Kept → Kept → Type 0
SamePairs old new = (new.lines ≡ old.lines) × (new.literals ≡ old.literals)

pub pair_same : (old new : Kept) (link : ℕ) (line : LineId) (a b : Literal) → SamePairs old new → IsPair new link line a b → IsPair old link line a b
pair_same old new link line a b same pair = record {
  at = ap (λ (xs : List (Option LineId)). slice_get xs (link / 2)) (sym same.0) ∙ pair.at;
  own = ap (λ (xs : List Literal). slice_get xs link) (sym same.1) ∙ pair.own;
  other = ap (λ (xs : List Literal). slice_get xs (other_link link)) (sym same.1) ∙ pair.other;
}

-- ---- guards

pub guarded_more : (old new set more : List Literal) (kept later : Kept) → ((literal : Literal) → Has new literal → Has old literal) → ((literal : Literal) → Has set literal → Has more literal)
    → ((link : ℕ) (line : LineId) (a b : Literal) → IsPair later link line a b → IsPair kept link line a b) → IsGuarded old set kept → IsGuarded new more later
guarded_more old new set more kept later fewer longer pairs guarded link line a b pair denied = longer b (guarded link line a b (pairs link line a b pair) (fewer (negated a) denied))

-- ---- a link that watches another literal

-- kept with another literal for the link
abbrev pub with_literal : Kept → ℕ → Literal → Kept
with_literal kept link to = record {
  vars = kept.vars;
  short = kept.short;
  lines = kept.lines;
  literals = set kept.literals link to;
  done = kept.done;
}

-- a pair afterwards: an old one, or one with the new literal
pub record IsRelinked (kept : Kept) (link : ℕ) (to : Literal) (x : ℕ) (line : LineId) (a b : Literal) : Type 0 where
  pub at_link : x ≡ link → (a ≡ to) × ((old : Literal) × IsPair kept link line old b)
  pub at_other : x ≡ other_link link → (b ≡ to) × ((old : Literal) × IsPair kept x line a old)
  pub elsewhere : x ≢ link → x ≢ other_link link → IsPair kept x line a b

pub relinked : (kept : Kept) (link : ℕ) (to : Literal) (x : ℕ) (line : LineId) (a b : Literal) → link < length kept.literals → length kept.literals ≡ 2 * length kept.lines → IsPair (with_literal kept link to) x line a b → IsRelinked kept link to x line a b
relinked kept link to x line a b within count pair = record {
  at_link = λ same.
      let mine : slice_get (set kept.literals link to) link ≡ Some a = ap (slice_get (set kept.literals link to)) (sym same) ∙ pair.own in
      let old = get_there kept.literals link within in (
        same_some a to (sym mine ∙ get_set_same kept.literals link to within),
        (
          old.0,
          record {
            at = ap (λ (k : ℕ). slice_get kept.lines (k / 2)) (sym same) ∙ pair.at;
            own = old.1;
            other = sym (get_set_other kept.literals link (other_link link) to (other_differs link)) ∙ ap (λ (k : ℕ). slice_get (set kept.literals link to) (other_link k)) (sym same) ∙ pair.other;
          },
        ),
      );
  at_other = λ same.
      let back : other_link x ≡ link = ap other_link same ∙ other_other link in
      let theirs : slice_get (set kept.literals link to) link ≡ Some b = ap (slice_get (set kept.literals link to)) (sym back) ∙ pair.other in
      let old = get_there kept.literals link within in
      let ne : x ≢ link = λ e. other_differs link (sym same ∙ e) in (
        same_some b to (sym theirs ∙ get_set_same kept.literals link to within),
        (
          old.0,
          record {
            at = pair.at;
            own = sym (get_set_other kept.literals link x to ne) ∙ pair.own;
            other = ap (slice_get kept.literals) back ∙ old.1;
          },
        ),
      );
  elsewhere = λ ne other.
      let apart : other_link x ≢ link = λ e. other (sym (other_other x) ∙ ap other_link e) in
      record {
        at = pair.at;
        own = sym (get_set_other kept.literals link x to ne) ∙ pair.own;
        other = sym (get_set_other kept.literals link (other_link x) to apart) ∙ pair.other;
      };
}

-- What moving a link keeps. Before, the link watches a literal that is false by now; the new one isn't.
pub record CanMove (log : Lines) (kept : Kept) (set : List Literal) (link : ℕ) (line : LineId) (falsified other to : Literal) : Type 0 where
  pub pair : IsPair kept link line falsified other
  pub within : link < length kept.literals
  pub count : length kept.literals ≡ 2 * length kept.lines
  pub consistent : IsConsistent set
  pub is_false : Has set (negated falsified)
  pub has : Has (clause_of log line) to
  pub different : to ≢ other
  pub not_false : Has set (negated to) → ⊥

one_line : (kept : Kept) (link x : ℕ) (line other : LineId) → slice_get kept.lines (link / 2) ≡ Some (Some line) → slice_get kept.lines (x / 2) ≡ Some (Some other) → x / 2 ≡ link / 2 → other ≡ line
one_line kept link x line other mine theirs same = same_some other line (same_some (Some other) (Some line) (sym theirs ∙ ap (slice_get kept.lines) same ∙ mine))

-- a smaller set, of which the guards of the links speak
pub guarded_moved : (log : Lines) (kept : Kept) (processed less set : List Literal) (link : ℕ) (line : LineId) (falsified other to : Literal) → CanMove log kept set link line falsified other to
    → ((literal : Literal) → Has processed literal → Has set literal) → ((literal : Literal) → Has less literal → Has set literal) → IsGuarded processed less kept → IsGuarded processed less (with_literal kept link to)
guarded_moved log kept processed less set link line falsified other to can part small guarded x l a b pair denied =
    let r = relinked kept link to x l a b can.within can.count pair in
    elim (cases_eq x link) [
      | inl e ↦ absurd (can.not_false (subst (λ (y : Literal). Has set (negated y)) (r.at_link e).0 (part (negated a) denied)))
      | inr ne ↦ elim (cases_eq x (other_link link)) [
        | inl e ↦
            let h = r.at_other e in
            let turned = pair_turned kept link line falsified other can.pair in
            let old : IsPair kept (other_link link) l a h.1.0 = subst (λ (y : ℕ). IsPair kept y l a h.1.0) e h.1.1 in
            let same : h.1.0 ≡ falsified = same_some h.1.0 falsified (sym old.other ∙ turned.other) in
            let holds = guarded x l a h.1.0 h.1.1 denied in
            absurd (can.consistent falsified (small falsified (subst (Has less) same holds)) can.is_false)
        | inr apart ↦ guarded x l a b (r.elsewhere ne apart) denied
      ]
    ]

pub stored_moved : (log : Lines) (kept : Kept) (set : List Literal) (link : ℕ) (line : LineId) (falsified other to : Literal) → CanMove log kept set link line falsified other to → AreStored log kept → AreStored log (with_literal kept link to)
stored_moved log kept set link line falsified other to can stored =
    let line_here : (x : ℕ) (l : LineId) (a b : Literal) → IsPair (with_literal kept link to) x l a b → (x / 2 ≡ link / 2) → l ≡ line = λ x l a b pair same. one_line kept link x line l can.pair.at pair.at same in
    record {
      count = length-set kept.literals link to ∙ stored.count;
      lines = λ x l a b pair.
          let r = relinked kept link to x l a b can.within can.count pair in
          elim (cases_eq x link) [
            | inl e ↦ let h = r.at_link e in stored.lines link l h.1.0 b h.1.1
            | inr ne ↦ elim (cases_eq x (other_link link)) [ inl e ↦ let h = r.at_other e in stored.lines x l a h.1.0 h.1.1 | inr apart ↦ stored.lines x l a b (r.elsewhere ne apart) ]
          ];
      has = λ x l a b pair.
          let r = relinked kept link to x l a b can.within can.count pair in
          elim (cases_eq x link) [
            | inl e ↦
                let same = line_here x l a b pair (ap (λ (y : ℕ). y / 2) e) in
                subst (Has (clause_of log l)) (sym (r.at_link e).0) (subst (λ (y : LineId). Has (clause_of log y) to) (sym same) can.has)
            | inr ne ↦ elim (cases_eq x (other_link link)) [ inl e ↦ let h = r.at_other e in stored.has x l a h.1.0 h.1.1 | inr apart ↦ stored.has x l a b (r.elsewhere ne apart) ]
          ];
      differ = λ x l a b pair.
          let r = relinked kept link to x l a b can.within can.count pair in
          elim (cases_eq x link) [
            | inl e ↦
                let h = r.at_link e in
                let same : b ≡ other = same_some b other (sym h.1.1.other ∙ can.pair.other) in
                λ equal. can.different (sym h.0 ∙ equal ∙ same)
            | inr ne ↦ elim (cases_eq x (other_link link)) [
              | inl e ↦
                  let h = r.at_other e in
                  let turned = pair_turned kept link line falsified other can.pair in
                  let old : IsPair kept (other_link link) l a h.1.0 = subst (λ (y : ℕ). IsPair kept y l a h.1.0) e h.1.1 in
                  let same : a ≡ other = same_some a other (sym old.own ∙ turned.own) in
                  λ equal. can.different (sym h.0 ∙ sym equal ∙ same)
              | inr apart ↦ stored.differ x l a b (r.elsewhere ne apart)
            ]
          ];
      short = stored.short;
      covers = stored.covers;
    }

pub watched_moved : (log : Lines) (trail : Trail) (kept : Kept) (link : ℕ) (line : LineId) (falsified other to : Literal) → CanMove log kept (literals_of trail.entries) link line falsified other to → AreWatched log trail kept → AreWatched log trail (with_literal kept link to)
watched_moved log trail kept link line falsified other to can watched = record {
  vars = watched.vars;
  stored = stored_moved log kept (literals_of trail.entries) link line falsified other to can watched.stored;
  done = watched.done;
  lower = λ level less.
      let set = literals_of (up_to level trail.entries) in
      guarded_moved log kept set set (literals_of trail.entries) link line falsified other to can (λ l has. Has-up_to-whole level trail.entries l has) (λ l has. Has-up_to-whole level trail.entries l has) (watched.lower level less);
  here = guarded_moved log kept (literals_of (take kept.done trail.entries)) (literals_of trail.entries) (literals_of trail.entries) link line falsified other to can (λ l has. Has-taken kept.done trail.entries l has) (λ l has. has) watched.here;
}

-- ---- the trail changes

-- literals of the current level are added
pub watched_longer : (log : Lines) (trail : Trail) (added : List Assigned) (kept : Kept) → All (λ (entry : Assigned). (entry.level ≡ trail.level) × IsSome entry.reason) added → AreWatched log trail kept
    → AreWatched log (record trail { entries = trail.entries ++ added }) kept
watched_longer log trail added kept all watched = record {
  vars = watched.vars;
  stored = watched.stored;
  done = let h = watched.done in omega (arith, length-append trail.entries added);
  lower = λ level less. subst (λ (xs : List Assigned). IsGuarded (literals_of xs) (literals_of xs) kept) (sym (up_to-higher level trail.level trail.entries added less all)) (watched.lower level less);
  here = λ link line a b pair denied.
      let front = take-append-le kept.done trail.entries added watched.done in
      Has-before trail.entries added b (watched.here link line a b pair (subst (λ (xs : List Assigned). Has (literals_of xs) (negated a)) front denied));
}

pub watched_propagated : (log : Lines) (old new : Trail) (kept : Kept) → Propagates log old new → AreWatched log old kept → AreWatched log new kept
watched_propagated log old new kept propagates watched = subst (λ (t : Trail). AreWatched log t kept) (sym propagates.grows) (watched_longer log old propagates.added kept propagates.current watched)

pub watched_back : (log : Lines) (trail : Trail) (level : ℕ) (kept : Kept) → level ≤ trail.level → AreInOrder [] trail.entries → trail.level ≡ last_level trail.entries → AreWatched log trail kept
    → AreWatched log (record trail { level = level; entries = up_to level trail.entries }) (with_done kept (min kept.done (length (up_to level trail.entries))))
watched_back log trail level kept low order last watched = record {
  vars = watched.vars;
  stored = record { count = watched.stored.count; lines = λ x l a b pair. watched.stored.lines x l a b (old x l a b pair); has = λ x l a b pair. watched.stored.has x l a b (old x l a b pair); differ = λ x l a b pair. watched.stored.differ x l a b (old x l a b pair); short = watched.stored.short; covers = watched.stored.covers };
  done = omega arith;
  lower = λ lower less.
      let same = up_to-lower lower level trail.entries (omega arith) in
      subst (λ (xs : List Assigned). IsGuarded (literals_of xs) (literals_of xs) (with_done kept done)) (sym same)
      (λ x l a b pair denied. watched.lower lower (omega arith) x l a b (old x l a b pair) denied);
  here = elim (cases_lt level trail.level) [
    | inl less ↦ λ x l a b pair denied. watched.lower level less x l a b (old x l a b pair) (Has-taken done (up_to level trail.entries) (negated a) denied)
    | inr same ↦ λ x l a b pair denied.
        let all = up_to-all level [] trail.entries order (omega arith) in
        let whole : done ≡ kept.done = let h = watched.done in let n = ap length all in omega arith in
        subst (λ (xs : List Assigned). Has (literals_of xs) b) (sym all)
        (watched.here x l a b (old x l a b pair) (subst (λ (n : ℕ). Has (literals_of (take n trail.entries)) (negated a)) whole (subst (λ (xs : List Assigned). Has (literals_of (take done xs)) (negated a)) all denied)))
  ];
}
  where
    done : ℕ
    done = min kept.done (length (up_to level trail.entries))

    old : (x : ℕ) (l : LineId) (a b : Literal) → IsPair (with_done kept done) x l a b → IsPair kept x l a b
    old x l a b pair = record { at = pair.at; own = pair.own; other = pair.other }

-- a decision, after everything was propagated
pub watched_decided : (log : Lines) (trail : Trail) (literal : Literal) (kept : Kept) → kept.done ≡ length trail.entries → AreInOrder [] trail.entries → trail.level ≡ last_level trail.entries → AreWatched log trail kept → AreWatched log (assigned trail literal None) kept
watched_decided log trail literal kept all order last watched =
    let entry : Assigned = record { literal = literal; level = trail.level + 1; reason = None } in
    record {
      vars = watched.vars;
      stored = watched.stored;
      done = omega (arith, length-append trail.entries (entry ∷ []));
      lower = λ lower less.
          subst (λ (xs : List Assigned). IsGuarded (literals_of xs) (literals_of xs) kept) (sym (up_to-push lower trail.entries entry less))
          (elim (cases_lt lower trail.level) [
            | inl h ↦ watched.lower lower h
            | inr h ↦ subst (λ (xs : List Assigned). IsGuarded (literals_of xs) (literals_of xs) kept) (sym (up_to-all lower [] trail.entries order (omega arith)))
                (λ x l a b pair denied. watched.here x l a b pair (subst (λ (xs : List Assigned). Has (literals_of xs) (negated a)) (sym (take_all kept.done trail.entries (omega arith))) denied))
          ]);
      here = λ x l a b pair denied.
          let front = take-append-le kept.done trail.entries (entry ∷ []) watched.done in
          Has-before trail.entries (entry ∷ []) b (watched.here x l a b pair (subst (λ (xs : List Assigned). Has (literals_of xs) (negated a)) front denied));
    }

take_one_more : (n : ℕ) (entries : List Assigned) (entry : Assigned) (literal : Literal) → slice_get entries n ≡ Some entry → Has (literals_of (take (suc n) entries)) literal → Has (literals_of (take n entries)) literal ⊎ (entry.literal ≡ literal)
take_one_more n [] entry literal at has = absurd cc
take_one_more zero (x ∷ entries) entry literal at (inl e) = inr (ap (λ (y : Assigned). y.literal) (sym (same_some x entry at)) ∙ e)
take_one_more zero (x ∷ entries) entry literal at (inr later) = absurd later
take_one_more (suc n) (x ∷ entries) entry literal at (inl e) = inl (inl e)
take_one_more (suc n) (x ∷ entries) entry literal at (inr later) = elim (take_one_more n entries entry literal at later) [ inl h ↦ inl (inr h) | inr h ↦ inr h ]

-- the lists of one more literal of the trail were gone through
pub watched_one_more : (log : Lines) (trail : Trail) (kept : Kept) (entry : Assigned) → slice_get trail.entries kept.done ≡ Some entry → AllHold kept (negated entry.literal) (literals_of trail.entries) → AreWatched log trail kept → AreWatched log trail (with_done kept (kept.done + 1))
watched_one_more log trail kept entry at hold watched = record {
  vars = watched.vars;
  stored = record { count = watched.stored.count; lines = λ x l a b pair. watched.stored.lines x l a b (old x l a b pair); has = λ x l a b pair. watched.stored.has x l a b (old x l a b pair); differ = λ x l a b pair. watched.stored.differ x l a b (old x l a b pair); short = watched.stored.short; covers = watched.stored.covers };
  done = let h = slice_get_within trail.entries kept.done entry at in omega arith;
  lower = λ level less x l a b pair denied. watched.lower level less x l a b (old x l a b pair) denied;
  here = λ x l a b pair denied. elim (take_one_more kept.done trail.entries entry (negated a) at (subst (λ (n : ℕ). Has (literals_of (take n trail.entries)) (negated a)) (add-one kept.done) denied)) [
    | inl before ↦ watched.here x l a b (old x l a b pair) before
    | inr e ↦
        let same : a ≡ negated entry.literal = sym (negated-negated a) ∙ ap negated (sym e) in
        hold x l b (subst (λ (y : Literal). IsPair kept x l y b) same (old x l a b pair))
  ];
}
  where
    old : (x : ℕ) (l : LineId) (a b : Literal) → IsPair (with_done kept (kept.done + 1)) x l a b → IsPair kept x l a b
    old x l a b pair = record { at = pair.at; own = pair.own; other = pair.other }

-- ---- everything was propagated

-- what the pair of a line comes to
pair_closed : (log : Lines) (set : List Literal) (kept : Kept) (link : ℕ) (line : LineId) (a b : Literal) → IsConsistent set → AreStored log kept → IsGuarded set set kept → IsPair kept link line a b → HasTrue set (clause_of log line) ⊎ HasTwoOpen set (clause_of log line)
pair_closed log set kept link line a b consistent stored guarded pair =
    let turned = pair_turned kept link line a b pair in
    let has_a = stored.has link line a b pair in
    let has_b = stored.has (other_link link) line b a turned in
    elim (has_or_not set (negated a)) [
      | inl denied ↦ inl (record { literal = b; has = has_b; holds = guarded link line a b pair denied })
      | inr open_a ↦ elim (has_or_not set (negated b)) [
        | inl denied ↦ inl (record { literal = a; has = has_a; holds = guarded (other_link link) line b a turned denied })
        | inr open_b ↦ elim (has_or_not set a) [
          | inl holds ↦ inl (record { literal = a; has = has_a; holds = holds })
          | inr unset_a ↦ elim (has_or_not set b) [
            | inl holds ↦ inl (record { literal = b; has = has_b; holds = holds })
            | inr unset_b ↦ inr (record {
              first = a;
              second = b;
              different = stored.differ link line a b pair;
              has_first = has_a;
              has_second = has_b;
              first_open = open_or_not set a open_a unset_a;
              second_open = open_or_not set b open_b unset_b;
            })
          ]
        ]
      ]
    ]

-- a place of a line has two links
pair_at : (log : Lines) (kept : Kept) (line : LineId) → AreStored log kept → IsAmong kept.lines line → (link : ℕ) × ((a : Literal) × ((b : Literal) × IsPair kept link line a b))
pair_at log kept line stored among =
    let place = among.0 in
    let within = slice_get_within kept.lines place (Some line) among.1 in
    let count = stored.count in
    let half : (2 * place) / 2 ≡ place = omega arith in
    let a = get_there kept.literals (2 * place) (omega arith) in
    let less : other_link (2 * place) < length kept.literals = let h = other_within (2 * place) (length kept.lines) (omega arith) in omega arith in
    let b = get_there kept.literals (other_link (2 * place)) less in
    (2 * place, (a.0, (b.0, record { at = ap (slice_get kept.lines) half ∙ among.1; own = a.1; other = b.1 })))

line_closed : (log : Lines) (trail : Trail) (kept : Kept) (line : LineId) → kept.done ≡ length trail.entries → AreInOrder [] trail.entries → AreWatched log trail kept → ShortAreTrue (literals_of trail.entries) log kept.short → IsLine log line
    → HasTrue (literals_of trail.entries) (clause_of log line) ⊎ HasTwoOpen (literals_of trail.entries) (clause_of log line)
line_closed log trail kept line done order watched short is_line =
    let set = literals_of trail.entries in
    let guarded : IsGuarded set set kept = λ x l a b pair denied. watched.here x l a b pair (subst (λ (xs : List Assigned). Has (literals_of xs) (negated a)) (sym (take_all kept.done trail.entries (omega arith))) denied) in
    elim (watched.stored.covers line is_line) [
      | inl among ↦ inl (short line among)
      | inr among ↦
          let p = pair_at log kept line watched.stored among in
          pair_closed log set kept p.0 line p.1.0 p.1.1.0 (order_consistent [] trail.entries order) watched.stored guarded p.1.1.1
    ]

pub all_closed : (log : Lines) (trail : Trail) (kept : Kept) → kept.done ≡ length trail.entries → AreInOrder [] trail.entries → AreWatched log trail kept → ShortAreTrue (literals_of trail.entries) log kept.short → IsClosed (literals_of trail.entries) (clauses_in log)
all_closed log trail kept done order watched short = closed_both log (literals_of trail.entries) (of_kind false) (of_kind true)
  where
    Closed : List Literal → Type 0
    Closed clause = HasTrue (literals_of trail.entries) clause ⊎ HasTwoOpen (literals_of trail.entries) clause

    of_kind : (derived : Bool) → IsClosed (literals_of trail.entries) (clauses_of_kind log derived)
    of_kind derived k d within =
        let line : LineId = record { derived = derived; number = k + 1 } in
        let len = length-kind log derived in
        let is_line : IsLine log line = record { counted = omega arith; within = omega arith } in
        let one : k + 1 - 1 ≡ k = omega arith in
        let clauses = clauses_of_kind log derived in
        let read : clause_at clauses (k + 1) ≡ get_or clauses k d = ap (λ (j : ℕ). get_or clauses j []) one ∙ get_or_default clauses k [] d within in
        subst (λ (c : List Literal). HasTrue (literals_of trail.entries) c ⊎ HasTwoOpen (literals_of trail.entries) c) read (line_closed log trail kept line done order watched short is_line)

-- a line of at most one literal that is closed has a true one
pub short_true : (log : Lines) (set : List Literal) (line : LineId) → IsShort log line → HasTrue set (clause_of log line) ⊎ HasTwoOpen set (clause_of log line) → HasTrue set (clause_of log line)
short_true log set line short (inl holds) = holds
short_true log set line short (inr two) = absurd (two.different (short.single two.first two.second two.has_first two.has_second))

-- above level 0 all lines of at most one literal have a true one
pub short_at_base : (log : Lines) (trail : Trail) (kept : Kept) → IsSound log trail → AreStored log kept → 1 ≤ trail.level → ShortAreTrue (literals_of trail.entries) log kept.short
short_at_base log trail kept sound stored above line among =
    let short = stored.short line among in
    let base = literals_of (up_to 0 trail.entries) in
    let true_there = short_true log base line short (all_line (λ (c : List Literal). HasTrue base c ⊎ HasTwoOpen base c) log line short.is_line (sound.closed 0 (omega arith))) in
    record { literal = true_there.literal; has = true_there.has; holds = Has-up_to-whole 0 trail.entries true_there.literal true_there.holds }

-- true literals stay
pub short_longer : (log : Lines) (old new : Trail) (short : List (Option LineId)) → Propagates log old new → ShortAreTrue (literals_of old.entries) log short → ShortAreTrue (literals_of new.entries) log short
short_longer log old new short propagates all line among =
    let here = all line among in
    record { literal = here.literal; has = here.has; holds = still_true log old new here.literal propagates here.holds }

no_line : (derived : Bool) (number : ℕ) → 1 ≤ number → number ≤ cond derived 0 0 → ⊥
no_line true number counted within = omega arith
no_line false number counted within = omega arith

none_there : {X : Type 0} (k : ℕ) (x : X) → slice_get [] k ≡ Some x → ⊥
none_there k x e = cc

-- of an empty solver
pub watched_nothing : AreWatched (log_of [] []) (record { vars = 0; level = 0; entries = [] }) nothing_kept
watched_nothing = record {
  vars = omega arith;
  stored = record {
    count = refl;
    lines = λ x l a b pair. absurd (none_there (x / 2) (Some l) pair.at);
    has = λ x l a b pair. absurd (none_there (x / 2) (Some l) pair.at);
    differ = λ x l a b pair. absurd (none_there (x / 2) (Some l) pair.at);
    short = λ line among. absurd (none_there among.0 (Some line) among.1);
    covers = λ line is_line. absurd (no_line line.derived line.number is_line.counted is_line.within);
  };
  done = omega arith;
  lower = λ level less. absurd (omega arith);
  here = λ x l a b pair denied. absurd denied;
}

-- more variables
pub watched_vars : (log : Lines) (trail : Trail) (vars : ℕ) (old new : Kept) → vars ≤ new.vars → new ≡ record { vars = new.vars; short = old.short; lines = old.lines; literals = old.literals; done = old.done } → AreWatched log trail old → AreWatched log (record trail { vars = vars }) new
watched_vars log trail vars old new within same watched =
    let more : Kept = record { vars = new.vars; short = old.short; lines = old.lines; literals = old.literals; done = old.done } in
    let old_pair : (x : ℕ) (l : LineId) (a b : Literal) → IsPair more x l a b → IsPair old x l a b = λ x l a b pair. record { at = pair.at; own = pair.own; other = pair.other } in
    subst (AreWatched log (record trail { vars = vars })) (sym same) (record {
      vars = within;
      stored = record { count = watched.stored.count; lines = λ x l a b pair. watched.stored.lines x l a b (old_pair x l a b pair); has = λ x l a b pair. watched.stored.has x l a b (old_pair x l a b pair); differ = λ x l a b pair. watched.stored.differ x l a b (old_pair x l a b pair); short = watched.stored.short; covers = watched.stored.covers };
      done = watched.done;
      lower = λ level less x l a b pair denied. watched.lower level less x l a b (old_pair x l a b pair) denied;
      here = λ x l a b pair denied. watched.here x l a b (old_pair x l a b pair) denied;
    })

-- ---- a step to a link

-- what is known of a link in the list of a false literal
pub record AtLink (log : Lines) (trail : Trail) (kept : Kept) (link : ℕ) (line : LineId) (falsified other : Literal) : Type 0 where
  pub watched : AreWatched log trail kept
  pub order : AreInOrder [] trail.entries
  pub pair : IsPair kept link line falsified other
  pub is_false : Has (literals_of trail.entries) (negated falsified)

pub can_move : (log : Lines) (trail : Trail) (kept : Kept) (link : ℕ) (line : LineId) (falsified other to : Literal) → AtLink log trail kept link line falsified other → IsFree (literals_of trail.entries) (clause_of log line) other to → CanMove log kept (literals_of trail.entries) link line falsified other to
can_move log trail kept link line falsified other to at free = record {
  pair = at.pair;
  within = slice_get_within kept.literals link falsified at.pair.own;
  count = at.watched.stored.count;
  consistent = order_consistent [] trail.entries at.order;
  is_false = at.is_false;
  has = free.has;
  different = free.different;
  not_false = free.not_false;
}

-- the literal that may be watched is another one than the false one
pub moved_differs : (log : Lines) (trail : Trail) (kept : Kept) (link : ℕ) (line : LineId) (falsified other to : Literal) → AtLink log trail kept link line falsified other → IsFree (literals_of trail.entries) (clause_of log line) other to → to ≢ falsified
moved_differs log trail kept link line falsified other to at free same = free.not_false (subst (λ (y : Literal). Has (literals_of trail.entries) (negated y)) (sym same) at.is_false)

pub look_line : (log : Lines) (trail : Trail) (kept : Kept) (link : ℕ) (line : LineId) (falsified other : Literal) → AtLink log trail kept link line falsified other → IsLine log line × Has (clause_of log line) other
look_line log trail kept link line falsified other at = (
  at.watched.stored.lines link line falsified other at.pair,
  at.watched.stored.has (other_link link) line other falsified (pair_turned kept link line falsified other at.pair),
)

-- all pairs of the link are of that other literal
pub held_other : (kept : Kept) (link : ℕ) (falsified other : Literal) (set : List Literal) → slice_get kept.literals (other_link link) ≡ Some other → Has set other → (l : LineId) (b : Literal) → IsPair kept link l falsified b → Has set b
held_other kept link falsified other set is holds l b pair =
    let same : other ≡ b = same_some other b (sym is ∙ pair.other) in
    subst (Has set) same holds

pub held_by : (log : Lines) (trail : Trail) (kept : Kept) (link : ℕ) (line : LineId) (falsified other : Literal) (set : List Literal) → AtLink log trail kept link line falsified other → Has set other → (l : LineId) (b : Literal) → IsPair kept link l falsified b → Has set b
held_by log trail kept link line falsified other set at holds l b pair = held_other kept link falsified other set at.pair.other holds l b pair

-- a place without a line has no pairs
pub held_empty : (kept : Kept) (link : ℕ) (falsified : Literal) (set : List Literal) → slice_get kept.lines (link / 2) ≡ Some None → (l : LineId) (b : Literal) → IsPair kept link l falsified b → Has set b
held_empty kept link falsified set none l b pair = absurd (none_is_some l (same_some None (Some l) (sym none ∙ pair.at)))
  where
    none_is_some : (x : LineId) → None ≡ Some x → ⊥
    none_is_some x e = cc

-- ---- a look at a line

pub last_has : (entries : List Assigned) (entry : Assigned) → Has (literals_of (entries ++ entry ∷ [])) entry.literal
last_has entries entry = Has-after entries (entry ∷ []) entry.literal (inl refl)

pub open_here : (set : List Literal) (literal : Literal) (denied : Bool) (against : Literal) → (Has set literal → ⊥) → (IsTrue denied ↔ Has set against) → against ≡ negated literal → denied ≡ false → IsOpen set literal
open_here set literal denied against not_true no_it same out =
    open_or_not set literal (λ h. both_ways denied out (no_it.1 (subst (Has set) (sym same) h))) not_true

pub one_assigned : (log : Lines) (old new : Trail) (literal : Literal) (line : LineId) (clause : List Literal) → IsLine log line → Has (clause_of log line) literal → IsOpen (literals_of old.entries) literal → clause ≡ clause_of log line
    → ((other : Literal) → Has clause other → other ≢ literal → Has (literals_of old.entries) (negated other)) → new ≡ assigned old literal (Some line) → Propagates log old new
one_assigned log old new literal line clause is_line has unassigned same others is =
    subst (λ (t : Trail). Propagates log old t) (sym is) (Propagates-one log old literal line is_line (record {
      unassigned = unassigned;
      forces = record { has = has; others = λ other there ne. others other (subst (λ (c : List Literal). Has c other) (sym same) there) ne };
    }))

-- a forced literal is true afterwards
pub unit_true : (log : Lines) (trail : Trail) (literal : Literal) (line : LineId) → IsUnit (literals_of trail.entries) (clause_of log line) literal → HasTrue (literals_of (assigned trail literal (Some line)).entries) (clause_of log line)
unit_true log trail literal line unit = record {
  literal = literal;
  has = unit.forces.has;
  holds = last_has trail.entries (record { literal = literal; level = trail.level; reason = Some line });
}

pub short_grown : (log : Lines) (old new : Trail) (short : List (Option LineId)) (place : ℕ) → Propagates log old new → ShortAreTrue (literals_of old.entries) log (take place short) → ShortAreTrue (literals_of new.entries) log (take place short)
short_grown log old new short place propagates all = short_longer log old new (take place short) propagates all

-- ---- the literal at hand

pub entry_at : (entries items : List Assigned) (place : ℕ) (entry : Assigned) → items ≡ entries → place < length entries → entry ≡ get_or items place entry → slice_get entries place ≡ Some entry
entry_at entries items place entry same within read = slice_get_read entries (length entries) place entry refl within (read ∙ ap (λ (xs : List Assigned). get_or xs place entry) same)

pub entry_true : (entries : List Assigned) (place : ℕ) (entry : Assigned) (against : Literal) → slice_get entries place ≡ Some entry → against ≡ negated entry.literal → Has (literals_of entries) (negated against)
entry_true entries place entry against at same =
    subst (Has (literals_of entries)) (sym (ap negated same ∙ negated-negated entry.literal)) (Has-standing entries entry.literal (record { place = place; entry = entry; at = at; is = refl }))

pub still_at : (log : Lines) (old new : Trail) (place : ℕ) (entry : Assigned) → Propagates log old new → slice_get old.entries place ≡ Some entry → slice_get new.entries place ≡ Some entry
still_at log old new place entry propagates at = ap (λ (t : Trail). slice_get t.entries place) propagates.grows ∙ get_left old.entries propagates.added place entry at
