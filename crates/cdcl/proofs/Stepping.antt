-- A step to a link, and the walk through a list of links.
use Rattle.std.proofs.Common.{◌≡◌, ◌≢◌, ℕ, ◌/◌, ◌<◌, ◌≤◌, true, List, [], ◌∷◌, ◌++◌, ◌⊎◌, inl, inr, Option, Some, None, length, get_or, refl, sym, ap, ◌∙◌, subst, arith, append_assoc, eq-eqb}
use Rattle.std.specs.Prelude.{IfNone, slice_get, eqb, if◌then◌else◌, ◌==◌}
use Rattle.std.proofs.lemmas.Option.{slice_get_within, slice_get_read}
use Rattle.std.proofs.lemmas.Bool.{cases_eq, ne_eqb}
use Rattle.sat_base.specs.Literal.{Literal, negated}
use Rattle.sat_base.specs.Clauses.{Has, EachVariable}
use Rattle.sat_base.proofs.Clauses.{EachVariable-has}
use Rattle.derivation_log.specs.declared.line_id.LineId.{LineId}
use Rattle.derivation_log.specs.Log.{Lines}
use Rattle.watch_lists.specs.Watched.{Watched, IsAdded, EachLinkOnce, list_of}
use Rattle.watch_lists.specs.Chains.{IsIn, Follows}
use Rattle.cdcl.specs.Linked.{IsTied, other_link}
use Rattle.solver_trail.specs.Trail.{Trail, literals_of, AreInOrder}
use Rattle.cdcl.specs.Watching.{Kept, IsPair, AreStored, AreWatched, AllHold}
use Rattle.cdcl.proofs.Links.{IsIn_middle, IsIn-left, around, once_in, begins, no_item, other_other, other_within, follows_split}
use Rattle.cdcl.proofs.Guards.{AtLink, SamePairs, pair_same, pair_turned, with_literal, relinked}

same_some : {X : Type 0} (a b : X) → Some a ≡ Some b → a ≡ b
same_some a b e = cc

-- ---- where the walk is in the list

-- the last link of the front, none where it is empty
abbrev pub IsLast : List ℕ → Option ℕ → Type 0
IsLast front None = front ≡ []
IsLast front (Some link) = (start : List ℕ) × (front ≡ start ++ link ∷ [])

-- The list is split before the next link; the clauses of the literal's links that are not left hold.
pub record Walked (kept : Kept) (list : List ℕ) (holding : List Literal) (literal : Literal) (before next : Option ℕ) : Type 0 where
  pub front : List ℕ
  pub rest : List ℕ
  pub is : list ≡ front ++ rest
  pub next_is : next ≡ slice_get rest 0
  pub before_is : IsLast front before
  pub seen : (x : ℕ) (line : LineId) (b : Literal) → IsPair kept x line literal b → (IsIn x rest → ⊥) → Has holding b

-- a link is in the list of its literal
pub in_own_list : (watched : Watched) (literals : List Literal) (link : ℕ) (literal : Literal) → IsTied watched literals → EachLinkOnce watched → slice_get literals link ≡ Some literal → IsIn link (list_of watched literal)
in_own_list watched literals link literal tied once own =
    let within = slice_get_within literals link literal own in
    let count = tied.count in
    let h = once.listed link (omega arith) in
    let same : h.0 ≡ literal = same_some h.0 literal (sym (tied.own link h.0 h.1.0 h.1.1.0 h.1.1.1) ∙ own) in
    subst (IsIn link) (sym (ap (list_of watched) (sym same) ∙ h.1.1.1.1)) (IsIn_middle h.1.0 h.1.1.0 link)

pub walked_start : (kept : Kept) (watched : Watched) (holding : List Literal) (literal : Literal) (next : Option ℕ) → IsTied watched kept.literals → EachLinkOnce watched → next ≡ slice_get (list_of watched literal) 0 → Walked kept (list_of watched literal) holding literal None next
walked_start kept watched holding literal next tied once first = record {
  front = [];
  rest = list_of watched literal;
  is = refl;
  next_is = first;
  before_is = refl;
  seen = λ x line b pair gone. absurd (gone (in_own_list watched kept.literals x literal tied once pair.own));
}

-- the next link begins the rest
pub walked_at : (kept : Kept) (list : List ℕ) (holding : List Literal) (literal : Literal) (before next : Option ℕ) (link : ℕ) (w : Walked kept list holding literal before next) → next ≡ Some link → (back : List ℕ) × (w.rest ≡ link ∷ back)
walked_at kept list holding literal before next link w some = begins w.rest link (sym w.next_is ∙ some)

pub walked_split : (kept : Kept) (list : List ℕ) (holding : List Literal) (literal : Literal) (before next : Option ℕ) (link : ℕ) → Walked kept list holding literal before next → next ≡ Some link → (front : List ℕ) × ((back : List ℕ) × (list ≡ front ++ link ∷ back))
walked_split kept list holding literal before next link w some =
    let h = walked_at kept list holding literal before next link w some in
    (w.front, (h.0, w.is ∙ ap (λ (xs : List ℕ). w.front ++ xs) h.1))

follows_last : (before : Option ℕ) (front back list : List ℕ) (link : ℕ) → IsLast front before → list ≡ front ++ link ∷ back → Follows before link list
follows_last None front back list link last is = (back, is ∙ ap (λ (xs : List ℕ). xs ++ link ∷ back) last)
follows_last (Some b) front back list link last is =
    (last.0, (back, is ∙ ap (λ (xs : List ℕ). xs ++ link ∷ back) last.1 ∙ append_assoc last.0 (b ∷ []) (link ∷ back)))

pub walked_follows : (kept : Kept) (list : List ℕ) (holding : List Literal) (literal : Literal) (before next : Option ℕ) (link : ℕ) → Walked kept list holding literal before next → next ≡ Some link → Follows before link list
walked_follows kept list holding literal before next link w some =
    let h = walked_at kept list holding literal before next link w some in
    follows_last before w.front h.0 list link w.before_is (w.is ∙ ap (λ (xs : List ℕ). w.front ++ xs) h.1)

-- what comes after the link
abbrev pub ComesNext : List ℕ → ℕ → Option ℕ → Type 0
ComesNext list link next = (front back : List ℕ) → list ≡ front ++ link ∷ back → next ≡ slice_get back 0

in_cons : (xs ys : List ℕ) (x link : ℕ) → xs ≡ link ∷ ys → (x ≢ link) → (IsIn x ys → ⊥) → IsIn x xs → ⊥
in_cons xs ys x link e ne gone is = elim (cons_cases (subst (IsIn x) e is)) [ inl same ↦ ne (sym same) | inr later ↦ gone later ]
  where
    cons_cases : IsIn x (link ∷ ys) → (link ≡ x) ⊎ IsIn x ys
    cons_cases h = h

-- the link stays, and its clause holds
pub walked_kept : (old new : Kept) (list : List ℕ) (holding more : List Literal) (literal : Literal) (before next after : Option ℕ) (link : ℕ) → SamePairs old new → next ≡ Some link → ComesNext list link after
    → ((l : Literal) → Has holding l → Has more l) → ((line : LineId) (b : Literal) → IsPair old link line literal b → Has more b)
    → Walked old list holding literal before next → Walked new list more literal (Some link) after
walked_kept old new list holding more literal before next after link same some comes longer holds w =
    let h = walked_at old list holding literal before next link w some in
    record {
      front = w.front ++ link ∷ [];
      rest = h.0;
      is = w.is ∙ ap (λ (xs : List ℕ). w.front ++ xs) h.1 ∙ sym (append_assoc w.front (link ∷ []) h.0);
      next_is = comes w.front h.0 (w.is ∙ ap (λ (xs : List ℕ). w.front ++ xs) h.1);
      before_is = (w.front, refl);
      seen = λ x line b pair gone.
          let old_pair = pair_same old new x line literal b same pair in
          elim (cases_eq x link) [
            | inl e ↦ holds line b (subst (λ (y : ℕ). IsPair old y line literal b) e old_pair)
            | inr ne ↦ longer b (w.seen x line b old_pair (in_cons w.rest h.0 x link h.1 ne gone))
          ];
    }

-- the link watches another literal from now on
pub walked_moved : (log : Lines) (old new : Kept) (list shorter : List ℕ) (holding more : List Literal) (literal to : Literal) (before next after : Option ℕ) (link : ℕ) → AreStored log old → slice_get old.literals link ≡ Some literal → to ≢ literal
    → SamePairs (with_literal old link to) new → next ≡ Some link → ComesNext list link after → ((front back : List ℕ) → list ≡ front ++ link ∷ back → shorter ≡ front ++ back)
    → ((l : Literal) → Has holding l → Has more l) → Walked old list holding literal before next → Walked new shorter more literal before after
walked_moved log old new list shorter holding more literal to before next after link stored own ne same some comes less longer w =
    let h = walked_at old list holding literal before next link w some in
    let split = w.is ∙ ap (λ (xs : List ℕ). w.front ++ xs) h.1 in
    let within = slice_get_within old.literals link literal own in
    record {
      front = w.front;
      rest = h.0;
      is = less w.front h.0 split;
      next_is = comes w.front h.0 split;
      before_is = w.before_is;
      seen = λ x line b pair gone.
          let r = relinked old link to x line literal b within stored.count (pair_same (with_literal old link to) new x line literal b same pair) in
          elim (cases_eq x link) [
            | inl e ↦ absurd (ne (sym (r.at_link e).0))
            | inr apart ↦ elim (cases_eq x (other_link link)) [
              | inl e ↦
                  let theirs = (r.at_other e).1 in
                  let here : IsPair old (other_link link) line literal theirs.0 = subst (λ (y : ℕ). IsPair old y line literal theirs.0) e theirs.1 in
                  let turned = pair_turned old (other_link link) line literal theirs.0 here in
                  let again : theirs.0 ≡ literal = same_some theirs.0 literal (sym turned.own ∙ ap (slice_get old.literals) (other_again link) ∙ own) in
                  absurd (stored.differ x line literal theirs.0 theirs.1 (sym again))
              | inr other ↦ longer b (w.seen x line b (r.elsewhere apart other) (in_cons w.rest h.0 x link h.1 apart gone))
            ]
          ];
    }
  where
    other_again : (x : ℕ) → other_link (other_link x) ≡ x
    other_again x = other_other x

-- at the end of the list all clauses of the literal's links hold
pub walked_end : (kept : Kept) (list : List ℕ) (holding : List Literal) (literal : Literal) (before next : Option ℕ) → ((link : ℕ) → next ≡ Some link → ⊥) → Walked kept list holding literal before next → AllHold kept literal holding
walked_end kept list holding literal before next none w x line b pair =
    let empty = no_item w.rest (nothing next none (w.next_is)) in
    w.seen x line b pair (λ is. subst (IsIn x) empty is)
  where
    nothing : (o : Option ℕ) → ((link : ℕ) → o ≡ Some link → ⊥) → o ≡ slice_get w.rest 0 → slice_get w.rest 0 ≡ None
    nothing None non e = sym e
    nothing (Some link) non e = absurd (non link refl)

-- ---- how many links are left

-- the list from that link on
abbrev pub from : List ℕ → ℕ → List ℕ
from [] link = []
from (x ∷ xs) link = if x == link then x ∷ xs else from xs link

-- how many links are left from the next one on
abbrev pub left : List ℕ → Option ℕ → ℕ
left list None = 0
left list (Some link) = length (from list link)

from_split : (front back : List ℕ) (link : ℕ) → (IsIn link front → ⊥) → from (front ++ link ∷ back) link ≡ link ∷ back
from_split [] back link gone = rw (same_number link) refl
  where
    same_number : (n : ℕ) → eqb n n ≡ true
    same_number n = eq-eqb n n refl
from_split (x ∷ front) back link gone = rw (ne_eqb x link (λ e. gone (inl e))) (from_split front back link (λ later. gone (inr later)))

left_at : (list front back : List ℕ) (next : Option ℕ) → list ≡ front ++ back → next ≡ slice_get back 0 → ((link : ℕ) → IsIn link back → IsIn link front → ⊥) → left list next ≡ length back
left_at list front back None is e gone = ap length (sym (no_item back (sym e)))
left_at list front back (Some link) is e gone =
    let h = begins back link (sym e) in
    let split = is ∙ ap (λ (xs : List ℕ). front ++ xs) h.1 in
    ap (λ (xs : List ℕ). length (from xs link)) split ∙ ap length (from_split front h.0 link (gone link (subst (IsIn link) (sym h.1) (inl refl)))) ∙ ap length (sym h.1)

-- no link is in two places of a list
pub apart_in : (watched : Watched) (literal : Literal) (front back : List ℕ) → EachLinkOnce watched → IsAdded watched literal → list_of watched literal ≡ front ++ back → (link : ℕ) → IsIn link back → IsIn link front → ⊥
apart_in watched literal front back once added is link in_back in_front =
    let h = around back link in_back in
    let split : list_of watched literal ≡ (front ++ h.0) ++ link ∷ h.1.0 = is ∙ ap (λ (xs : List ℕ). front ++ xs) h.1.1 ∙ sym (append_assoc front h.0 (link ∷ h.1.0)) in
    (once_in watched literal link (front ++ h.0) h.1.0 once (added, split)).0 (IsIn-left front h.0 link in_front)

-- a step leaves fewer links
pub fewer_kept : (watched : Watched) (kept : Kept) (holding : List Literal) (literal : Literal) (before next after : Option ℕ) (link : ℕ) → EachLinkOnce watched → IsAdded watched literal → Walked kept (list_of watched literal) holding literal before next → next ≡ Some link → ComesNext (list_of watched literal) link after
    → left (list_of watched literal) after < left (list_of watched literal) next
fewer_kept watched kept holding literal before next after link once added w some comes =
    let list = list_of watched literal in
    let h = walked_at kept list holding literal before next link w some in
    let split = w.is ∙ ap (λ (xs : List ℕ). w.front ++ xs) h.1 in
    let further : list ≡ (w.front ++ link ∷ []) ++ h.0 = split ∙ sym (append_assoc w.front (link ∷ []) h.0) in
    let now = left_at list w.front w.rest next w.is w.next_is (apart_in watched literal w.front w.rest once added w.is) in
    let after_it = left_at list (w.front ++ link ∷ []) h.0 after further (comes w.front h.0 split) (apart_in watched literal (w.front ++ link ∷ []) h.0 once added further) in
    omega (arith, ap length h.1)

pub fewer_moved : (watched : Watched) (kept : Kept) (shorter : List ℕ) (holding : List Literal) (literal : Literal) (before next after : Option ℕ) (link : ℕ) → EachLinkOnce watched → IsAdded watched literal → Walked kept (list_of watched literal) holding literal before next → next ≡ Some link → ComesNext (list_of watched literal) link after
    → ((front back : List ℕ) → list_of watched literal ≡ front ++ link ∷ back → shorter ≡ front ++ back) → left shorter after < left (list_of watched literal) next
fewer_moved watched kept shorter holding literal before next after link once added w some comes less =
    let list = list_of watched literal in
    let h = walked_at kept list holding literal before next link w some in
    let split = w.is ∙ ap (λ (xs : List ℕ). w.front ++ xs) h.1 in
    let now = left_at list w.front w.rest next w.is w.next_is (apart_in watched literal w.front w.rest once added w.is) in
    let apart = apart_in watched literal w.front w.rest once added w.is in
    let after_it = left_at shorter w.front h.0 after (less w.front h.0 split) (comes w.front h.0 split) (λ x is_back is_front. apart x (subst (IsIn x) (sym h.1) (inr is_back)) is_front) in
    omega (arith, ap length h.1)

-- ---- the link at hand

-- the literal has a list
pub has_list : (log : Lines) (trail : Trail) (kept : Kept) (literal : Literal) → AreWatched log trail kept → EachVariable (λ var. (1 ≤ var) × (var ≤ trail.vars)) (literals_of trail.entries) → Has (literals_of trail.entries) (negated literal) → (1 ≤ literal.var) × (literal.var ≤ kept.vars)
has_list log trail kept literal watched named denied =
    let h = EachVariable-has (λ var. (1 ≤ var) × (var ≤ trail.vars)) (literals_of trail.entries) (negated literal) named denied in
    let vars = watched.vars in
    (h.0, omega (arith, h.1))

-- the link in the literal's list watches it
pub own_link : (watched : Watched) (kept : Kept) (literal : Literal) (before : Option ℕ) (link : ℕ) → IsTied watched kept.literals → IsAdded watched literal → Follows before link (list_of watched literal) → slice_get kept.literals link ≡ Some literal
own_link watched kept literal before link tied added follows =
    let split = follows_split before link (list_of watched literal) follows in
    tied.own link literal split.0 split.1.0 (added, split.1.1)

pub own_place : (log : Lines) (kept : Kept) (literal : Literal) (link : ℕ) → AreStored log kept → slice_get kept.literals link ≡ Some literal → link / 2 < length kept.lines
own_place log kept literal link stored own =
    let within = slice_get_within kept.literals link literal own in
    let count = stored.count in
    omega arith

pub own_other : (log : Lines) (kept : Kept) (literal : Literal) (link : ℕ) → AreStored log kept → slice_get kept.literals link ≡ Some literal → other_link link < length kept.literals
own_other log kept literal link stored own =
    let within = slice_get_within kept.literals link literal own in
    let count = stored.count in
    let h = other_within link (length kept.lines) (omega arith) in
    omega arith

-- all that is known at the link
pub at_link : (log : Lines) (trail : Trail) (kept : Kept) (watched : Watched) (literal other : Literal) (before : Option ℕ) (link turned : ℕ) (line : LineId) (slot : Option LineId) → AreWatched log trail kept → EachVariable (λ var. (1 ≤ var) × (var ≤ trail.vars)) (literals_of trail.entries) → AreInOrder [] trail.entries
    → Has (literals_of trail.entries) (negated literal) → watched.vars ≡ kept.vars → IsTied watched kept.literals → Follows before link (list_of watched literal) → slot ≡ get_or kept.lines (link / 2) slot → slot ≡ Some line → turned ≡ other_link link → slice_get kept.literals turned ≡ Some other
    → AtLink log trail kept link line literal other
at_link log trail kept watched literal other before link turned line slot all named order denied vars tied follows read is turn theirs =
    let list = has_list log trail kept literal all named denied in
    let added : IsAdded watched literal = (list.0, omega (arith, list.1)) in
    let own = own_link watched kept literal before link tied added follows in
    let place = own_place log kept literal link all.stored own in
    record {
      watched = all;
      order = order;
      pair = record { at = slice_get_read kept.lines (length kept.lines) (link / 2) slot refl place read ∙ ap Some is; own = own; other = ap (slice_get kept.literals) (sym turn) ∙ theirs };
      is_false = denied;
    }

pub empty_slot : (lines : List (Option LineId)) (place : ℕ) (slot : Option LineId) → place < length lines → slot ≡ get_or lines place slot → slot ≡ None → slice_get lines place ≡ Some None
empty_slot lines place slot within read is = slice_get_read lines (length lines) place slot refl within read ∙ ap Some is

pub if_none_map : {X : Type 0} (o : Option X) (P Q : Type 0) → (P → Q) → IfNone o P → IfNone o Q
if_none_map None P Q f h = f h
if_none_map (Some x) P Q f h = h
