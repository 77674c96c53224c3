-- Thinned hints propagate: the reverse of the order of resolution is an order of unit propagation.
use Rattle.std.proofs.Common.{◌≡◌, ℕ, List, [], ◌∷◌, ◌++◌, inl, inr, map, refl, sym, ap, ◌∙◌, subst, append_assoc}
use Rattle.std.specs.Prelude.{reverse}
use Rattle.std.proofs.lemmas.List.{reverse-append}
use Rattle.sat_base.specs.Literal.{Literal, negated}
use Rattle.sat_base.specs.Clauses.{Has, HasDistinctVariables}
use Rattle.sat_base.specs.Resolution.{SoFar, Step, IsJoined, Leads, ResolveTo}
use Rattle.sat_base.specs.Fresh.{IsConsistent, IsOpen}
use Rattle.sat_base.proofs.Clauses.{Has-append_left, HasDistinctVariables-negated}
use Rattle.sat_base.proofs.Sets.{cases_literal, Has-pushed, not_open, IsConsistent-distinct}
use Rattle.sat_base.proofs.Resolving.{negated-negated}
use Rattle.lrat_out.specs.declared.standing.Standing.{Standing}
use Rattle.lrat_out.specs.declared.standing.Standing.TheVariants.{Holds, Fails, OneOpen, MoreOpen}
use Rattle.lrat_out.specs.Lines.{Numbered}
use Rattle.lrat_out.specs.Right.{AreDenied, IsUnit, Propagates}
use Rattle.lrat_out.specs.Standing.{standing}
use Rattle.lrat_out.specs.Export.{kept, thin}
use Rattle.lrat_out.proofs.Stances.{Stands, stands}
use Rattle.lrat_out.proofs.Propagation.{consistent_push}

-- the number of each hint names its clause, which has no variable twice
abbrev pub Name : (ℕ → List Literal) → List Numbered → Type 0
Name look [] = Unit {0}
Name look (hint ∷ hints) = (look hint.number ≡ hint.clause) × HasDistinctVariables hint.clause × Name look hints

-- the hints that are kept propagate
abbrev Good : (ℕ → List Literal) → List Literal → List Numbered → Type 0
Good look trues hints = Propagates trues (map look (thin trues hints))

-- where these literals are true and the clause is denied, the hints are good
abbrev GoodFrom : (ℕ → List Literal) → List Literal → List Numbered → Type 0
GoodFrom look clause hints = (trues : List Literal) → IsConsistent trues → AreDenied trues clause → Good look trues hints

denied_open : (trues : List Literal) (literal : Literal) → Has trues (negated literal) → IsOpen trues literal → ⊥
denied_open trues literal denied free = not_open trues literal (negated literal) denied refl free

-- the first hint of a derivation is all denied in the end
last_hint : (look : ℕ → List Literal) (hint : Numbered) → look hint.number ≡ hint.clause → HasDistinctVariables hint.clause → GoodFrom look hint.clause (hint ∷ [])
last_hint look hint named distinct trues consistent denied = by_standing (standing trues hint.clause) (stands trues hint.clause distinct)
  where
    by_standing : (s : Standing) → Stands trues hint.clause s → Propagates trues (map look (kept s hint.number (λ trues. thin trues []) trues))
    by_standing Holds (literal, (has, holds)) = absurd (consistent literal holds (denied literal has))
    by_standing Fails all = inl (subst (AreDenied trues) (sym named) denied)
    by_standing (OneOpen unit) is = absurd (denied_open trues unit (denied unit is.has) is.unassigned)
    by_standing MoreOpen two = absurd (denied_open trues two.first (denied two.first two.has_first) two.first_open)

-- with the pivot true, what was joined is denied where the two parts' rest is
joined_denied : (trues more : List Literal) (so_far hint next : List Literal) (pivot : Literal) → ((literal : Literal) → Has trues literal → Has more literal) → IsJoined so_far hint pivot next → AreDenied trues next → Has more pivot → AreDenied more so_far
joined_denied trues more so_far hint next pivot within joined denied on literal has =
    elim (cases_literal literal (negated pivot)) [
      | inl e ↦ subst (Has more) (sym (ap negated e ∙ negated-negated pivot)) on
      | inr ne ↦ within (negated literal) (denied literal (joined.keeps literal has ne))
    ]

-- an open literal of the hint is the pivot
only_pivot : (trues so_far hint next : List Literal) (pivot literal : Literal) → IsJoined so_far hint pivot next → AreDenied trues next → Has hint literal → IsOpen trues literal → literal ≡ pivot
only_pivot trues so_far hint next pivot literal joined denied has free =
    elim (cases_literal literal pivot) [
      | inl e ↦ e
      | inr ne ↦ absurd (denied_open trues literal (denied literal (joined.gets literal has ne)) free)
    ]

-- a hint that was joined propagates the pivot
one_hint : (look : ℕ → List Literal) (so_far next : SoFar) (hint : Numbered) (hints : List Numbered) → look hint.number ≡ hint.clause → HasDistinctVariables hint.clause → Step so_far hint.clause next → GoodFrom look so_far.clause hints → GoodFrom look next.clause (hint ∷ hints)
one_hint look so_far next hint hints named distinct step further trues consistent denied = by_standing (standing trues hint.clause) (stands trues hint.clause distinct)
  where
    by_standing : (s : Standing) → Stands trues hint.clause s → Propagates trues (map look (kept s hint.number (λ trues. thin trues hints) trues))
    by_standing Holds (literal, (has, holds)) =
        let on : Has trues step.pivot = elim (cases_literal literal step.pivot) [
          | inl e ↦ subst (Has trues) e holds
          | inr ne ↦ absurd (consistent literal holds (denied literal (step.joined.gets literal has ne)))
        ] in
        further trues consistent (joined_denied trues trues so_far.clause hint.clause next.clause step.pivot (λ l h. h) step.joined denied on)
    by_standing Fails all = inl (subst (AreDenied trues) (sym named) all)
    by_standing (OneOpen unit) is =
        let same = only_pivot trues so_far.clause hint.clause next.clause step.pivot unit step.joined denied is.has is.unassigned in
        let on : Has (trues ++ unit ∷ []) step.pivot = subst (Has (trues ++ unit ∷ [])) same (Has-pushed trues unit) in
        let before = joined_denied trues (trues ++ unit ∷ []) so_far.clause hint.clause next.clause step.pivot (λ l h. Has-append_left trues (unit ∷ []) l h) step.joined denied on in
        inr (unit, subst (λ (clause : List Literal). IsUnit trues clause unit) (sym named) is, further (trues ++ unit ∷ []) (consistent_push trues unit consistent is.unassigned) before)
    by_standing MoreOpen two =
        let first = only_pivot trues so_far.clause hint.clause next.clause step.pivot two.first step.joined denied two.has_first two.first_open in
        let second = only_pivot trues so_far.clause hint.clause next.clause step.pivot two.second step.joined denied two.has_second two.second_open in
        absurd (two.different (first ∙ sym second))

-- the clauses of hints
abbrev pub clauses : List Numbered → List (List Literal)
clauses hints = map (λ (hint : Numbered). hint.clause) hints

reversed : (hint : Numbered) (hints others : List Numbered) → reverse (hint ∷ hints) ++ others ≡ reverse hints ++ (hint ∷ others)
reversed hint hints others = ap (λ (xs : List Numbered). xs ++ others) (reverse-append (hint ∷ []) hints) ∙ append_assoc (reverse hints) (hint ∷ []) others

leads_back : (look : ℕ → List Literal) (so_far : SoFar) (hints others : List Numbered) (clause : List Literal) → Name look hints → Leads so_far (clauses hints) clause → GoodFrom look so_far.clause others → GoodFrom look clause (reverse hints ++ others)
leads_back look so_far [] others clause names same further trues consistent denied = further trues consistent (λ literal has. denied literal (same.0 literal has))
leads_back look so_far (hint ∷ hints) others clause names (next, step, rest) further trues consistent denied =
    subst (Good look trues) (sym (reversed hint hints others))
    (leads_back look next hints (hint ∷ others) clause names.2 rest (one_hint look so_far next hint others names.0 names.1 step further) trues consistent denied)

all_negated : (clause : List Literal) → AreDenied (map negated clause) clause
all_negated [] literal has = absurd has
all_negated (x ∷ clause) literal (inl e) = inl (ap negated e)
all_negated (x ∷ clause) literal (inr has) = inr (all_negated clause literal has)

-- the hints that resolve to a clause propagate, thinned from the last one on
pub thinned_propagate : (look : ℕ → List Literal) (hints : List Numbered) (clause : List Literal) → Name look hints → HasDistinctVariables clause → ResolveTo (clauses hints) clause → Propagates (map negated clause) (map look (thin (map negated clause) (reverse hints)))
thinned_propagate look [] clause names distinct none = absurd none
thinned_propagate look (hint ∷ hints) clause names distinct leads =
    let consistent = IsConsistent-distinct (map negated clause) (HasDistinctVariables-negated clause distinct) in
    subst (Good look (map negated clause)) (sym (reverse-append (hint ∷ []) hints))
    (leads_back look (record { clause = hint.clause; taken = [] }) hints (hint ∷ []) clause names.2 leads (last_hint look hint names.0 names.1) (map negated clause) consistent (all_negated clause))
