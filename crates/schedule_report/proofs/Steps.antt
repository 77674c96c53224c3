-- Steps, one at a time.
use Rattle.std.proofs.Common.{◌≡◌, ℕ, suc, zero, ◌+◌, ◌<◌, ◌≤◌, List, [], ◌∷◌, ◌++◌, length, drop, get_or, Bool, length-append, sym, ap, refl, ◌∙◌, arith}
use Rattle.std.proofs.lemmas.List.{at_drop_more}
use Rattle.qc_base.specs.Counting.{how_many}
use Rattle.step_rules.specs.declared.action.Action.{Action}
use Rattle.step_rules.specs.Play.{actions_of}
use Rattle.schedule_report.specs.Counts.{is_operation}

-- the actions from a step on
pub actions_more : (steps : List (List Action)) (k : ℕ) (step : List Action) → k < length steps → step ≡ get_or steps k step
    → actions_of (drop k steps) ≡ step ++ actions_of (drop (k + 1) steps)
actions_more steps k step h is =
    at_drop_more (λ (rest : List (List Action)). actions_of rest) steps k step h
    ∙ ap (λ (s : List Action). s ++ actions_of (drop (k + 1) steps)) (sym is)

pub how_many-append : (p : Action → Bool) (xs ys : List Action) → how_many p (xs ++ ys) ≡ how_many p xs + how_many p ys
how_many-append p [] ys = omega arith
how_many-append p (x ∷ xs) ys = omega (arith, how_many-append p xs ys)

-- the actions of one step more are counted, and its operations
pub actions_counted : (steps : List (List Action)) (k : ℕ) (step : List Action) → k < length steps → step ≡ get_or steps k step
    → length (actions_of (drop k steps)) ≡ length step + length (actions_of (drop (k + 1) steps))
actions_counted steps k step h is =
    ap length (actions_more steps k step h is) ∙ length-append step (actions_of (drop (k + 1) steps))

pub operations_counted : (steps : List (List Action)) (k : ℕ) (step : List Action) → k < length steps → step ≡ get_or steps k step
    → how_many is_operation (actions_of (drop k steps)) ≡ how_many is_operation step + how_many is_operation (actions_of (drop (k + 1) steps))
operations_counted steps k step h is =
    ap (how_many is_operation) (actions_more steps k step h is) ∙ how_many-append is_operation step (actions_of (drop (k + 1) steps))
