-- What a walk over a clause finds out about it.
use Rattle.std.proofs.Common.{◌≡◌, ◌≢◌, List, [], ◌∷◌, ◌++◌, ◌⊎◌, inl, inr, Option, Some, None, refl, sym, ◌∙◌, subst}
use Rattle.sat_base.specs.Literal.{Literal, negated}
use Rattle.sat_base.specs.Clauses.{Has}
use Rattle.sat_base.specs.Fresh.{IsOpen, HasTrue, HasTwoOpen}
use Rattle.sat_base.proofs.Clauses.{Has-append_left}
use Rattle.sat_base.proofs.Sets.{Has-push, Has-pushed}
use Rattle.solver_trail.specs.Trail.{IsFalse}
use Rattle.solver_trail.specs.Status.{IsUnit}

-- the literals so far are false but for the open one
abbrev pub IsSoFar : List Literal → List Literal → Option Literal → Type 0
IsSoFar set clause None = IsFalse set clause
IsSoFar set clause (Some literal) = IsUnit set clause literal

false_push : (set clause : List Literal) (x : Literal) → IsFalse set clause → Has set (negated x) → IsFalse set (clause ++ x ∷ [])
false_push set clause x all last literal has = elim (Has-push clause x literal has) [ inl h ↦ all literal h | inr e ↦ subst (λ (l : Literal). Has set (negated l)) e last ]

unit_push : (set clause : List Literal) (x literal : Literal) → IsUnit set clause literal → ((x ≢ literal) → Has set (negated x)) → IsUnit set (clause ++ x ∷ []) literal
unit_push set clause x literal unit last = record {
  unassigned = unit.unassigned;
  forces = record {
    has = Has-append_left clause (x ∷ []) literal unit.forces.has;
    others = λ other has ne. elim (Has-push clause x other has) [
      | inl h ↦ unit.forces.others other h ne
      | inr e ↦ subst (λ (l : Literal). Has set (negated l)) e (last (λ same. ne (sym e ∙ same)))
    ];
  };
}

-- a false literal more
pub so_far_false : (set clause : List Literal) (x : Literal) (found : Option Literal) → IsSoFar set clause found → Has set (negated x) → IsSoFar set (clause ++ x ∷ []) found
so_far_false set clause x None so_far last = false_push set clause x so_far last
so_far_false set clause x (Some literal) so_far last = unit_push set clause x literal so_far (λ ne. last)

-- the first open literal
pub so_far_open : (set clause : List Literal) (x : Literal) → IsFalse set clause → IsOpen set x → IsSoFar set (clause ++ x ∷ []) (Some x)
so_far_open set clause x all unassigned = record {
  unassigned = unassigned;
  forces = record {
    has = Has-pushed clause x;
    others = λ other has ne. elim (Has-push clause x other has) [ inl h ↦ all other h | inr e ↦ absurd (ne (sym e)) ];
  };
}

-- the open literal again
pub so_far_again : (set clause : List Literal) (x first : Literal) → IsUnit set clause first → first ≡ x → IsSoFar set (clause ++ x ∷ []) (Some x)
so_far_again set clause x first unit same = subst (λ (l : Literal). IsUnit set (clause ++ x ∷ []) l) same (unit_push set clause x first unit (λ ne. absurd (ne (sym same))))

-- a second one
pub closed_by_two : (set clause whole : List Literal) (x first : Literal) → ((literal : Literal) → Has clause literal → Has whole literal) → IsUnit set clause first → Has whole x → IsOpen set x → first ≢ x → HasTrue set whole ⊎ HasTwoOpen set whole
closed_by_two set clause whole x first part unit has unassigned ne = inr (record {
  first = first;
  second = x;
  different = ne;
  has_first = part first unit.forces.has;
  has_second = has;
  first_open = unit.unassigned;
  second_open = unassigned;
})

pub closed_by_true : (set whole : List Literal) (x : Literal) → Has whole x → Has set x → HasTrue set whole ⊎ HasTwoOpen set whole
closed_by_true set whole x has holds = inl (record { literal = x; has = has; holds = holds })

-- what the walk comes to at its end
pub status_unit : (set clause : List Literal) (literal : Literal) → IsSoFar set clause (Some literal) → IsUnit set clause literal
status_unit set clause literal so_far = so_far

-- no open literal so far
pub so_far_none : (set clause : List Literal) (found : Option Literal) → ((literal : Literal) → found ≡ Some literal → ⊥) → IsSoFar set clause found → IsFalse set clause
so_far_none set clause None none so_far = so_far
so_far_none set clause (Some literal) none so_far = absurd (none literal refl)
