-- What follows by unit propagation.
use Rattle.std.proofs.Common.{◌≡◌, ℕ, suc, Bool, true, false, not, cond, eqb, List, [], ◌∷◌, ◌++◌, inl, inr, length, map, refl, sym, ap, ◌∙◌, subst, arith}
use Rattle.std.specs.Prelude.{IsTrue, All, ◌↔◌, nat_le, ◌&&◌}
use Rattle.std.proofs.lemmas.Bool.{not_from_false, false_from_ne_true, cond_both, and_parts, and_from, leb-true, le-leb, both_ways, eqb-false}
use Rattle.sat_base.specs.Literal.{Literal, negated}
use Rattle.sat_base.specs.Clauses.{Has, clause_at}
use Rattle.sat_base.specs.Truth.{Valuation, is_true, SatisfiesClause, Satisfies}
use Rattle.sat_base.specs.Fresh.{IsConsistent, IsOpen}
use Rattle.sat_base.proofs.Truth.{some_true, is_true-negated, satisfied_or_not, SatisfiesClause-at}
use Rattle.sat_base.proofs.Resolving.{not_both_signs}
use Rattle.sat_base.proofs.Sets.{cases_literal, Has-push, not_open}
use Rattle.lrat_out.specs.declared.standing.Standing.TheVariants.{Holds, MoreOpen}
use Rattle.lrat_out.specs.Lines.{ProofLine, Numbered, Hand, after, HaveNumber, clause_in, IsNumber, clause_named}
use Rattle.lrat_out.specs.Right.{AreDenied, IsUnit, Propagates, AreAccepted}
use Rattle.lrat_out.specs.Faults.{HaveEmpty}
use Rattle.lrat_out.proofs.Stances.{Stands}

-- ---- a clause that propagates follows

-- the literals are all true
abbrev AllTrue : Valuation → List Literal → Type 0
AllTrue values trues = (literal : Literal) → Has trues literal → IsTrue (is_true values literal)

-- the one unassigned literal of a clause is true where the clause is
unit_true : (values : Valuation) (trues clause : List Literal) (unit : Literal) → AllTrue values trues → SatisfiesClause values clause → IsUnit trues clause unit → IsTrue (is_true values unit)
unit_true values trues clause unit on satisfied is =
    let found = some_true values clause satisfied in
    elim (cases_literal found.0 unit) [
      | inl e ↦ subst (λ (l : Literal). IsTrue (is_true values l)) e found.1.1
      | inr ne ↦ absurd (not_both_signs values found.0 found.1.1 (on (negated found.0) (is.others found.0 found.1.0 ne)))
    ]

one_more_true : (values : Valuation) (trues : List Literal) (unit : Literal) → AllTrue values trues → IsTrue (is_true values unit) → AllTrue values (trues ++ unit ∷ [])
one_more_true values trues unit on holds literal has =
    elim (Has-push trues unit literal has) [ inl h ↦ on literal h | inr e ↦ subst (λ (l : Literal). IsTrue (is_true values l)) e holds ]

contradicts : (values : Valuation) (trues : List Literal) (clauses : List (List Literal)) → AllTrue values trues → Satisfies values clauses → Propagates trues clauses → ⊥
contradicts values trues [] on all none = none
contradicts values trues (clause ∷ clauses) on all (inl denied) =
    let found = some_true values clause all.0 in
    not_both_signs values found.0 found.1.1 (on (negated found.0) (denied found.0 found.1.0))
contradicts values trues (clause ∷ clauses) on all (inr (unit, is, rest)) =
    contradicts values (trues ++ unit ∷ []) clauses (one_more_true values trues unit on (unit_true values trues clause unit on all.0 is)) all.1 rest

all_denied : (values : Valuation) (clause : List Literal) → (SatisfiesClause values clause → ⊥) → AllTrue values (map negated clause)
all_denied values [] none literal has = absurd has
all_denied values (x ∷ clause) none literal (inl e) =
    let off = false_from_ne_true (is_true values x) (λ on. none (inl on)) in
    subst (λ (l : Literal). IsTrue (is_true values l)) e (is_true-negated values x ∙ not_from_false (is_true values x) off)
all_denied values (x ∷ clause) none literal (inr h) = all_denied values clause (λ s. none (inr s)) literal h

pub clause_follows : (values : Valuation) (clause : List Literal) (clauses : List (List Literal)) → Satisfies values clauses → Propagates (map negated clause) clauses → SatisfiesClause values clause
clause_follows values clause clauses all propagates =
    elim (satisfied_or_not values clause) [
      | inl s ↦ s
      | inr none ↦ absurd (contradicts values (map negated clause) clauses (all_denied values clause none) all propagates)
    ]

-- ---- accepted lines follow

abbrev pub LinesHold : Valuation → List Numbered → Type 0
LinesHold values [] = Unit {0}
LinesHold values (line ∷ lines) = SatisfiesClause values line.clause × LinesHold values lines

-- all clauses in hand are satisfied
pub record HandHolds (values : Valuation) (hand : Hand) : Type 0 where
  pub formula : Satisfies values hand.formula
  pub lines : LinesHold values hand.lines

line_holds : (values : Valuation) (lines : List Numbered) (number : ℕ) → LinesHold values lines → HaveNumber lines number → SatisfiesClause values (clause_in lines number)
line_holds values [] number holds none = absurd none
line_holds values (line ∷ lines) number holds have = by_number (eqb line.number number) refl (λ h. line_holds values lines number holds.1 h)
  where
    by_number : (b : Bool) → eqb line.number number ≡ b → (HaveNumber lines number → SatisfiesClause values (clause_in lines number)) → SatisfiesClause values (cond b line.clause (clause_in lines number))
    by_number true e later = holds.0
    by_number false e later = elim have [ inl same ↦ absurd (eqb-false line.number number e same) | inr h ↦ later h ]

named_holds : (values : Valuation) (hand : Hand) (number : ℕ) → HandHolds values hand → IsNumber hand number → SatisfiesClause values (clause_named hand number)
named_holds values hand number holds is =
    let test = nat_le 1 number && nat_le number (length hand.formula) in
    cond_both test (clause_at hand.formula number) (clause_in hand.lines number) (SatisfiesClause values)
    (λ e. let both = and_parts (nat_le 1 number) (nat_le number (length hand.formula)) e in SatisfiesClause-at values hand.formula number (leb-true 1 number both.0) (leb-true number (length hand.formula) both.1) holds.formula)
    (λ e. elim is [
      | inl h ↦ absurd (both_ways test e (and_from (nat_le 1 number) (nat_le number (length hand.formula)) (le-leb 1 number h.0) (le-leb number (length hand.formula) h.1)))
      | inr h ↦ line_holds values hand.lines number holds.lines h
    ])

hints_hold : (values : Valuation) (hand : Hand) (hints : List ℕ) → HandHolds values hand → All (IsNumber hand) hints → Satisfies values (map (clause_named hand) hints)
hints_hold values hand [] holds named = tt
hints_hold values hand (hint ∷ hints) holds named = (
  named_holds values hand hint holds (named 0 hint (omega arith)),
  hints_hold values hand hints holds (λ k d h. named (suc k) d (omega arith)),
)

lines_push : (values : Valuation) (lines : List Numbered) (line : Numbered) → LinesHold values lines → SatisfiesClause values line.clause → LinesHold values (lines ++ line ∷ [])
lines_push values [] line holds follows = (follows, tt)
lines_push values (x ∷ lines) line holds follows = (holds.0, lines_push values lines line holds.1 follows)

-- where the clauses in hand are satisfied, no accepted line is empty
pub no_empty_line : (values : Valuation) (vars : ℕ) (hand : Hand) (lines : List ProofLine) → HandHolds values hand → AreAccepted vars hand lines → HaveEmpty lines → ⊥
no_empty_line values vars hand [] holds accepted none = none
no_empty_line values vars hand (line ∷ lines) holds accepted empty =
    let follows = clause_follows values line.clause (map (clause_named hand) line.hints) (hints_hold values hand line.hints holds accepted.0.named) accepted.1 in
    elim empty [
      | inl e ↦ subst (SatisfiesClause values) e follows
      | inr more ↦
          let next : HandHolds values (after hand line) = record { formula = holds.formula; lines = lines_push values hand.lines (record { number = line.number; clause = line.clause }) holds.lines follows } in
          no_empty_line values vars (after hand line) lines next accepted.2 more
    ]

-- ---- propagating clause by clause

signs_differ : (b : Bool) → b ≡ not b → ⊥
signs_differ true e = cc
signs_differ false e = cc

-- an open literal more
pub consistent_push : (trues : List Literal) (unit : Literal) → IsConsistent trues → IsOpen trues unit → IsConsistent (trues ++ unit ∷ [])
consistent_push trues unit consistent free literal has against =
    elim (Has-push trues unit literal has) [
      | inl h ↦ elim (Has-push trues unit (negated literal) against) [
        | inl k ↦ consistent literal h k
        | inr e ↦ not_open trues unit literal h (ap (λ (l : Literal). l.var) (sym e)) free
      ]
      | inr e ↦ elim (Has-push trues unit (negated literal) against) [
        | inl k ↦ not_open trues unit (negated literal) k (ap (λ (l : Literal). l.var) (sym e)) free
        | inr f ↦ signs_differ literal.positive (ap (λ (l : Literal). l.positive) (sym e ∙ f))
      ]
    ]

pub fails_here : (trues clause : List Literal) (clauses : List (List Literal)) → AreDenied trues clause → Propagates trues (clause ∷ clauses)
fails_here trues clause clauses denied = inl denied

-- a clause with a true literal propagates nothing
pub holds_here : (trues clause : List Literal) (clauses : List (List Literal)) → IsConsistent trues → Stands trues clause Holds → Propagates trues (clause ∷ clauses) → ⊥
holds_here trues clause clauses consistent (literal, (has, holds)) (inl denied) = consistent literal holds (denied literal has)
holds_here trues clause clauses consistent (literal, (has, holds)) (inr (unit, is, rest)) =
    elim (cases_literal literal unit) [
      | inl e ↦ not_open trues unit literal holds (ap (λ (l : Literal). l.var) e) is.unassigned
      | inr ne ↦ consistent literal holds (is.others literal has ne)
    ]

denied_not_open : (trues : List Literal) (literal : Literal) → Has trues (negated literal) → IsOpen trues literal → ⊥
denied_not_open trues literal denied free = not_open trues literal (negated literal) denied refl free

-- neither does one with two open literals
pub more_open_here : (trues clause : List Literal) (clauses : List (List Literal)) → Stands trues clause MoreOpen → Propagates trues (clause ∷ clauses) → ⊥
more_open_here trues clause clauses two (inl denied) = denied_not_open trues two.first (denied two.first two.has_first) two.first_open
more_open_here trues clause clauses two (inr (unit, is, rest)) =
    elim (cases_literal two.first unit) [
      | inl e ↦ elim (cases_literal two.second unit) [
        | inl f ↦ two.different (e ∙ sym f)
        | inr ne ↦ denied_not_open trues two.second (is.others two.second two.has_second ne) two.second_open
      ]
      | inr ne ↦ denied_not_open trues two.first (is.others two.first two.has_first ne) two.first_open
    ]

-- one with one open literal makes it true
pub one_open_here : (trues clause : List Literal) (clauses : List (List Literal)) (unit : Literal) → IsUnit trues clause unit → Propagates trues (clause ∷ clauses) ↔ Propagates (trues ++ unit ∷ []) clauses
one_open_here trues clause clauses unit is = (to, λ rest. inr (unit, is, rest))
  where
    to : Propagates trues (clause ∷ clauses) → Propagates (trues ++ unit ∷ []) clauses
    to (inl denied) = absurd (denied_not_open trues unit (denied unit is.has) is.unassigned)
    to (inr (other, second, rest)) =
        elim (cases_literal unit other) [
          | inl e ↦ subst (λ (l : Literal). Propagates (trues ++ l ∷ []) clauses) (sym e) rest
          | inr ne ↦ absurd (denied_not_open trues unit (second.others unit is.has ne) is.unassigned)
        ]
