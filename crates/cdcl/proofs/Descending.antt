-- How decisions extend the trail.
use Rattle.std.proofs.Common.{◌≡◌, ◌≢◌, ℕ, ◌+◌, List, [], ◌∷◌, ◌++◌, ◌⊎◌, inl, inr, None, refl, sym, ap, ◌∙◌, subst, arith}
use Rattle.std.proofs.lemmas.Bool.{cases_eq, cases_lt}
use Rattle.sat_base.specs.Literal.{Literal, negated}
use Rattle.sat_base.specs.Clauses.{Has}
use Rattle.sat_base.specs.Fresh.{IsOpen}
use Rattle.sat_base.proofs.Clauses.{EachVariable-has}
use Rattle.derivation_log.specs.Log.{Lines}
use Rattle.solver_trail.specs.declared.values.Assigned.{Assigned}
use Rattle.solver_trail.specs.Trail.{Trail, literals_of, up_to, last_level, AreInOrder, assigned}
use Rattle.cdcl.specs.Solver.{SolverState, Propagates}
use Rattle.cdcl.specs.Searching.{ChangesTrailOnly, IsAssumed, IsDenied}
use Rattle.solver_trail.proofs.Trails.{up_to_keeps, up_to_drops, up_to-all}
use Rattle.cdcl.proofs.Walking.{Has-before, Has-after, order_consistent}

pub record IsDown (old now : SolverState) (assumption : Literal) : Type 0 where
  pub down : ChangesTrailOnly old now
  pub assumed : IsAssumed assumption now.trail

pub down_start : (solver : SolverState) (assumption : Literal) → IsAssumed assumption solver.trail → IsDown solver solver assumption
down_start solver assumption assumed = record { down = record { log = refl; vars = refl; failed = refl }; assumed = assumed }

pub up_to-append : (level : ℕ) (xs ys : List Assigned) → up_to level (xs ++ ys) ≡ up_to level xs ++ up_to level ys
up_to-append level [] ys = refl
up_to-append level (x ∷ xs) ys =
    elim (cases_lt level x.level) [
      | inl h ↦ up_to_drops level x (xs ++ ys) h ∙ up_to-append level xs ys ∙ ap (λ (zs : List Assigned). zs ++ up_to level ys) (sym (up_to_drops level x xs h))
      | inr h ↦ up_to_keeps level x (xs ++ ys) h ∙ ap (λ (zs : List Assigned). x ∷ zs) (up_to-append level xs ys) ∙ ap (λ (zs : List Assigned). zs ++ up_to level ys) (sym (up_to_keeps level x xs h))
    ]

pub true_longer : (level : ℕ) (xs ys : List Assigned) (literal : Literal) → Has (literals_of (up_to level xs)) literal → Has (literals_of (up_to level (xs ++ ys))) literal
true_longer level xs ys literal has = subst (λ (zs : List Assigned). Has (literals_of zs) literal) (sym (up_to-append level xs ys)) (Has-before (up_to level xs) (up_to level ys) literal has)

pub assumed_propagated : (log : Lines) (old new : Trail) (assumption : Literal) → Propagates log old new → IsAssumed assumption old → IsAssumed assumption new
assumed_propagated log old new assumption propagates assumed =
    subst (IsAssumed assumption) (sym propagates.grows) (λ high. true_longer 1 old.entries propagates.added assumption (assumed high))

pub Has-up_to-whole : (level : ℕ) (entries : List Assigned) (literal : Literal) → Has (literals_of (up_to level entries)) literal → Has (literals_of entries) literal
Has-up_to-whole level [] literal has = has
Has-up_to-whole level (x ∷ entries) literal has =
    elim (cases_lt level x.level) [
      | inl h ↦ inr (Has-up_to-whole level entries literal (subst (λ (xs : List Assigned). Has (literals_of xs) literal) (up_to_drops level x entries h) has))
      | inr h ↦ both (subst (λ (xs : List Assigned). Has (literals_of xs) literal) (up_to_keeps level x entries h) has) (Has-up_to-whole level entries literal)
    ]
  where
    both : Has (literals_of (x ∷ up_to level entries)) literal → (Has (literals_of (up_to level entries)) literal → Has (literals_of entries) literal) → Has (literals_of (x ∷ entries)) literal
    both (inl e) rest = inl e
    both (inr later) rest = inr (rest later)

-- where the assumption is true, any literal may be decided
pub assumed_decided : (trail : Trail) (assumption literal : Literal) → IsAssumed assumption trail → AreInOrder [] trail.entries → trail.level ≡ last_level trail.entries → Has (literals_of trail.entries) assumption → IsAssumed assumption (assigned trail literal None)
assumed_decided trail assumption literal assumed order last holds high =
    true_longer 1 trail.entries (record { literal = literal; level = trail.level + 1; reason = None } ∷ []) assumption
    (elim (cases_eq trail.level 0) [
      | inl base ↦ subst (λ (xs : List Assigned). Has (literals_of xs) assumption) (sym (up_to-all 1 [] trail.entries order (omega arith))) holds
      | inr above ↦ assumed (omega arith)
    ])

-- an unassigned assumption is decided first, at level 1
pub assumption_decided : (trail : Trail) (assumption : Literal) → IsAssumed assumption trail → IsOpen (literals_of trail.entries) assumption → IsAssumed assumption (assigned trail assumption None)
assumption_decided trail assumption assumed unassigned high =
    let entry : Assigned = record { literal = assumption; level = trail.level + 1; reason = None } in
    elim (cases_eq trail.level 0) [
      | inl base ↦
          let low = up_to_keeps 1 entry [] (omega arith) in
          subst (λ (xs : List Assigned). Has (literals_of xs) assumption) (sym (up_to-append 1 trail.entries (entry ∷ [])))
          (Has-after (up_to 1 trail.entries) (up_to 1 (entry ∷ [])) assumption (subst (λ (xs : List Assigned). Has (literals_of xs) assumption) (sym low) (inl refl)))
      | inr above ↦ absurd (EachVariable-has (λ var. var ≢ assumption.var) (literals_of trail.entries) assumption unassigned (Has-up_to-whole 1 trail.entries assumption (assumed (omega arith))) refl)
    ]

-- a false assumption is false at level 0
pub denied : (trail : Trail) (assumption : Literal) → IsAssumed assumption trail → AreInOrder [] trail.entries → Has (literals_of trail.entries) (negated assumption) → IsDenied trail assumption
denied trail assumption assumed order against = record {
  level = elim (cases_eq trail.level 0) [
    | inl base ↦ base
    | inr above ↦ absurd (order_consistent [] trail.entries order assumption (Has-up_to-whole 1 trail.entries assumption (assumed (omega arith))) against)
  ];
  denied = against;
}

-- the assumption is decided, or is true and another literal is decided
pub chosen_assumed : (trail : Trail) (assumption literal : Literal) → IsAssumed assumption trail → AreInOrder [] trail.entries → trail.level ≡ last_level trail.entries → IsOpen (literals_of trail.entries) literal → (literal ≡ assumption) ⊎ Has (literals_of trail.entries) assumption → IsAssumed assumption (assigned trail literal None)
chosen_assumed trail assumption literal assumed order last unassigned (inl e) =
    subst (λ (l : Literal). IsAssumed assumption (assigned trail l None)) (sym e) (assumption_decided trail assumption assumed (subst (IsOpen (literals_of trail.entries)) e unassigned))
chosen_assumed trail assumption literal assumed order last unassigned (inr holds) = assumed_decided trail assumption literal assumed order last holds

-- one step down after others
pub down_more : (old mid now : SolverState) (assumption : Literal) → IsDown old mid assumption → ChangesTrailOnly mid now → IsAssumed assumption now.trail → IsDown old now assumption
down_more old mid now assumption down changes assumed = record {
  down = record { log = changes.log ∙ down.down.log; vars = changes.vars ∙ down.down.vars; failed = changes.failed ∙ down.down.failed };
  assumed = assumed;
}
