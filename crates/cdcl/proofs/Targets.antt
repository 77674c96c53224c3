-- Where the solver goes back to.
use Rattle.std.proofs.Common.{◌≡◌, ◌≢◌, ℕ, ◌<◌, ◌≤◌, List, [], ◌∷◌, ◌++◌, ◌⊎◌, inl, inr, sym, ◌∙◌, subst, arith, max}
use Rattle.std.proofs.lemmas.Bool.{cases_eq, cases_lt}
use Rattle.sat_base.specs.Literal.{Literal, negated}
use Rattle.sat_base.specs.Clauses.{Has}
use Rattle.sat_base.proofs.Clauses.{Has-append_left}
use Rattle.sat_base.proofs.Sets.{Has-push, Has-pushed}
use Rattle.solver_trail.specs.declared.values.Assigned.{Assigned}
use Rattle.solver_trail.specs.Trail.{literals_of, up_to, last_level, AreInOrder, IsFalse, IsFalseAt}
use Rattle.cdcl.specs.Learning.{IsAsserting, IsTarget}
use Rattle.solver_trail.proofs.Trails.{up_to_keeps, up_to_drops}
use Rattle.cdcl.proofs.Walking.{at_some_level, order_one_level, level_below_last}

-- what is false at a level up to the target stays false there
pub false_up_to : (target : ℕ) (entries : List Assigned) (level : ℕ) (literal : Literal) → IsFalseAt entries level literal → level ≤ target → Has (literals_of (up_to target entries)) (negated literal)
false_up_to target [] level literal at low = absurd at
false_up_to target (x ∷ entries) level literal (inl here) low =
    let is = here.1 in
    subst (λ (xs : List Assigned). Has (literals_of xs) (negated literal)) (sym (up_to_keeps target x entries (omega arith))) (inl here.0)
false_up_to target (x ∷ entries) level literal (inr later) low =
    let rest = false_up_to target entries level literal later low in
    elim (cases_lt target x.level) [
      | inl h ↦ subst (λ (xs : List Assigned). Has (literals_of xs) (negated literal)) (sym (up_to_drops target x entries h)) rest
      | inr h ↦ subst (λ (xs : List Assigned). Has (literals_of xs) (negated literal)) (sym (up_to_keeps target x entries h)) (inr rest)
    ]

-- what is known after some literals of the clause
pub record TargetSoFar (entries : List Assigned) (level : ℕ) (before : List Literal) (asserted : Literal) (target : ℕ) : Type 0 where
  pub one : (other : Literal) → Has before other → IsFalseAt entries level other → other ≡ asserted
  pub low : (other : Literal) → Has before other → (lower : ℕ) → IsFalseAt entries lower other → lower ≢ level → lower ≤ target
  pub below : target < level
  pub reached : 1 ≤ target → (other : Literal) × (Has before other × IsFalseAt entries target other)

pub target_start : (entries : List Assigned) (level : ℕ) (asserted : Literal) → 1 ≤ level → TargetSoFar entries level [] asserted 0
target_start entries level asserted some = record {
  one = λ other has at. absurd has;
  low = λ other has lower at ne. absurd has;
  below = some;
  reached = λ high. absurd (omega arith);
}

-- a literal of the level
pub target_asserting : (entries : List Assigned) (level : ℕ) (clause before : List Literal) (asserted literal : Literal) (target : ℕ) → TargetSoFar entries level before asserted target → (asserting : (last : Literal) × IsAsserting entries level clause last) → ((other : Literal) → Has before other → Has clause other) → Has clause literal → IsFalseAt entries level literal → AreInOrder [] entries
    → TargetSoFar entries level (before ++ literal ∷ []) literal target
target_asserting entries level clause before asserted literal target so_far asserting part is_line at order = record {
  one = λ other has other_at. elim (Has-push before literal other has) [
    | inl h ↦ asserting.1.only other (part other h) other_at ∙ sym (asserting.1.only literal is_line at)
    | inr e ↦ sym e
  ];
  low = λ other has lower lower_at ne. elim (Has-push before literal other has) [
    | inl h ↦ so_far.low other h lower lower_at ne
    | inr e ↦ absurd (ne (order_one_level [] entries lower level other order lower_at (subst (IsFalseAt entries level) e at)))
  ];
  below = so_far.below;
  reached = λ high. let found = so_far.reached high in (found.0, (Has-append_left before (literal ∷ []) found.0 found.1.0, found.1.1));
}

max_is : (a b c : ℕ) → c ≡ max a b → ((a ≤ c) × (b ≤ c)) × ((c ≡ a) ⊎ (c ≡ b))
max_is a b c is = ((omega arith, omega arith), elim (cases_lt a b) [ inl h ↦ inr (omega arith) | inr h ↦ inl (omega arith) ])

-- a literal of a lower level
pub target_lower : (entries : List Assigned) (level : ℕ) (before : List Literal) (asserted literal : Literal) (target lower next : ℕ) → TargetSoFar entries level before asserted target → IsFalseAt entries lower literal → lower ≢ level → level ≡ last_level entries → AreInOrder [] entries → next ≡ max target lower
    → TargetSoFar entries level (before ++ literal ∷ []) asserted next
target_lower entries level before asserted literal target lower next so_far at ne last order is =
    let bounds = max_is target lower next is in
    let high = level_below_last [] entries lower literal order at in
    record {
      one = λ other has other_at. elim (Has-push before literal other has) [
        | inl h ↦ so_far.one other h other_at
        | inr e ↦ absurd (ne (order_one_level [] entries lower level other order (subst (IsFalseAt entries lower) e at) other_at))
      ];
      low = λ other has level_of_other other_at other_ne. elim (Has-push before literal other has) [
        | inl h ↦ let k = so_far.low other h level_of_other other_at other_ne in omega (arith, bounds.0.0)
        | inr e ↦ let k = order_one_level [] entries level_of_other lower other order other_at (subst (IsFalseAt entries lower) e at) in omega (arith, bounds.0.1)
      ];
      below = let b = so_far.below in elim bounds.1 [ inl e ↦ omega arith | inr e ↦ omega arith ];
      reached = λ some. elim bounds.1 [
        | inl e ↦ let found = so_far.reached (omega arith) in (found.0, (Has-append_left before (literal ∷ []) found.0 found.1.0, subst (λ (t : ℕ). IsFalseAt entries t found.0) (sym e) found.1.1))
        | inr e ↦ (literal, (Has-pushed before literal, subst (λ (t : ℕ). IsFalseAt entries t literal) (sym e) at))
      ];
    }

pub target_end : (entries : List Assigned) (level : ℕ) (clause : List Literal) (asserted : Literal) (target : ℕ) → TargetSoFar entries level clause asserted target → (asserting : (last : Literal) × IsAsserting entries level clause last) → IsFalse (literals_of entries) clause → AreInOrder [] entries → IsTarget entries level clause asserted target
target_end entries level clause asserted target so_far asserting all order =
    let same : asserting.0 ≡ asserted = so_far.one asserting.0 asserting.1.has asserting.1.at in
    let mine = subst (IsAsserting entries level clause) same asserting.1 in
    record {
      asserting = mine;
      below = so_far.below;
      others = λ other has ne.
          let found = at_some_level entries other (all other has) in
          elim (cases_eq found.0 level) [
            | inl e ↦ absurd (ne (mine.only other has (subst (λ (l : ℕ). IsFalseAt entries l other) e found.1)))
            | inr different ↦ false_up_to target entries found.0 other found.1 (so_far.low other has found.0 found.1 different)
          ];
      reached = λ some.
          let found = so_far.reached some in
          let below = so_far.below in
          record {
            other = found.0;
            has = found.1.0;
            different = λ e. let k = order_one_level [] entries target level found.0 order found.1.1 (subst (IsFalseAt entries level) (sym e) mine.at) in omega arith;
            at = found.1.1;
          };
    }
