-- Prefixes of what is added, and the parts from their pieces.
use Rattle.std.proofs.Common.{◌≡◌, ℕ, suc, ◌+◌, List, [], ◌∷◌, ◌++◌, refl, ap, sym, ◌∙◌, subst, arith, append_assoc}
use Rattle.std.proofs.lemmas.List.{append-nil}
use Rattle.sat_base.specs.Literal.{Literal}
use Rattle.at_most.specs.AtMost.{AddsPrefix}
use Rattle.step_rules.specs.Setting.{SettingValue}
use Rattle.step_vars.specs.declared.item.Claim.{Claim}
use Rattle.step_vars.specs.Numbering.{Numbering}
use Rattle.step_vars.specs.Families.{goal_needs_all}
use Rattle.step_vars.specs.Encoding.{VarsValue, vars_of, numbering_of, clause_of, clauses_of, bounds_of, start_clauses, step_part, layer_of, goal_of, activity_bounds, order_clauses, operation_clauses}
use Rattle.step_clauses.specs.Emission.{first_half, second_first, second_half}

pub prefix_first : (old new a b : List (List Literal)) → AddsPrefix old new a → AddsPrefix old new (a ++ b)
prefix_first old new a b h = record {
  prefix = h.prefix;
  rest = h.rest ++ b;
  parts = ap (λ x. x ++ b) h.parts ∙ append_assoc h.prefix h.rest b;
  kept = h.kept;
}

pub prefix_second : (old middle new a b : List (List Literal)) → middle ≡ old ++ a → AddsPrefix middle new b → AddsPrefix old new (a ++ b)
prefix_second old middle new a b e h = record {
  prefix = a ++ h.prefix;
  rest = h.rest;
  parts = ap (λ x. a ++ x) h.parts ∙ sym (append_assoc a h.prefix h.rest);
  kept = h.kept ∙ ap (λ x. x ++ h.prefix) e ∙ append_assoc old a h.prefix;
}

pub prefix_none : (old a : List (List Literal)) → AddsPrefix old old a
prefix_none old a = record { prefix = []; rest = a; parts = refl; kept = sym (append-nil old) }

pub prefix_same : (old new a b : List (List Literal)) → a ≡ b → AddsPrefix old new a → AddsPrefix old new b
prefix_same old new a b e h = subst (AddsPrefix old new) e h

clauses_append : (n : Numbering) (xs ys : List (List Claim)) → clauses_of n (xs ++ ys) ≡ clauses_of n xs ++ clauses_of n ys
clauses_append n [] ys = refl
clauses_append n (x ∷ xs) ys = ap (λ rest. clause_of n x ∷ rest) (clauses_append n xs ys)

-- the halves of a step are its clauses
pub step_is : (v : VarsValue) (s : SettingValue) (r t : ℕ) → first_half v s r t ++ second_half v s r t ≡ step_part v.numbering s v.encoding r t
step_is v s r t =
    let n = v.numbering in
    let first = first_half v s r t in
    let bounds = bounds_of n v.encoding (second_first v s t) (activity_bounds s t) in
    ap (λ x. first ++ (bounds ++ x)) (clauses_append n (order_clauses s r t) (operation_clauses s r t))
    ∙ ap (λ x. first ++ x) (sym (append_assoc bounds (clauses_of n (order_clauses s r t)) (clauses_of n (operation_clauses s r t))))
    ∙ sym (append_assoc first (bounds ++ clauses_of n (order_clauses s r t)) (clauses_of n (operation_clauses s r t)))
    ∙ ap (λ x. x ++ clauses_of n (operation_clauses s r t)) (sym (append_assoc first bounds (clauses_of n (order_clauses s r t))))

numbering_is : (v : VarsValue) (s : SettingValue) → v ≡ vars_of s v.encoding v.steps → v.numbering ≡ numbering_of s v.encoding
unfolding vars_of
numbering_is v s e = ap (λ (w : VarsValue). w.numbering) e

pub layer_first : (v : VarsValue) (s : SettingValue) (t : ℕ) → v ≡ vars_of s v.encoding v.steps → t ≡ 0 → clauses_of v.numbering (start_clauses s) ≡ layer_of s v.encoding t
unfolding layer_of
layer_first v s t e zeroth = rw zeroth (ap (λ n. clauses_of n (start_clauses s)) (numbering_is v s e))

layer_next : (v : VarsValue) (s : SettingValue) (r : ℕ) → v ≡ vars_of s v.encoding v.steps → step_part v.numbering s v.encoding r (suc r) ≡ layer_of s v.encoding (suc r)
unfolding layer_of
layer_next v s r e = ap (λ n. step_part n s v.encoding r (suc r)) (numbering_is v s e)

pub layer_later : (v : VarsValue) (s : SettingValue) (r t : ℕ) → v ≡ vars_of s v.encoding v.steps → t ≡ r + 1 → step_part v.numbering s v.encoding r t ≡ layer_of s v.encoding t
layer_later v s r t e next = let same : t ≡ suc r = omega (arith, next) in rw same (layer_next v s r e)

pub goal_is : (v : VarsValue) (s : SettingValue) (t : ℕ) → v ≡ vars_of s v.encoding v.steps → clauses_of v.numbering (goal_needs_all s t) ≡ goal_of s v.encoding t
unfolding goal_of
goal_is v s t e = ap (λ n. clauses_of n (goal_needs_all s t)) (numbering_is v s e)
