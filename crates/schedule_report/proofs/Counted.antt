-- All steps are counted.
use Rattle.std.proofs.Common.{◌≡◌, ℕ, ◌+◌, ◌<◌, ◌≤◌, ◌^◌, List, [], length, drop, ap, refl, ◌∙◌, arith}
use Rattle.std.proofs.lemmas.List.{drop_all}
use Rattle.qc_base.specs.Counting.{how_many}
use Rattle.step_rules.specs.declared.action.Action.{Action}
use Rattle.step_rules.specs.Play.{actions_of}
use Rattle.schedule_report.specs.declared.totals.Counts.{Counts}
use Rattle.schedule_report.specs.Counts.{capped, is_operation, counts_of}

counted_end : (size : List Action → ℕ) (steps : List (List Action)) (k n : ℕ) → size [] ≡ 0 → length steps ≤ k → n < 2 ^ 64
    → capped (n + size (actions_of (drop k steps))) ≡ capped (size (actions_of steps)) → n ≡ capped (size (actions_of steps))
counted_end size steps k n none all small kept =
    let left : size (actions_of (drop k steps)) ≡ 0 = ap (λ (rest : List (List Action)). size (actions_of rest)) (drop_all k steps all) ∙ none in
    let is : n ≡ capped (n + size (actions_of (drop k steps))) = omega (arith, small, left) in
    is ∙ kept

-- the counts at the end of the steps
pub counts_are : (schedule steps : List (List Action)) (k actions ops : ℕ) → steps ≡ schedule → length steps ≤ k
    → actions < 2 ^ 64 → ops < 2 ^ 64
    → capped (actions + length (actions_of (drop k steps))) ≡ capped (length (actions_of steps))
    → capped (ops + how_many is_operation (actions_of (drop k steps))) ≡ capped (how_many is_operation (actions_of steps))
    → ◌≡◌ {A = Counts} (record { steps = length steps; actions = actions; ops = ops }) (counts_of schedule)
counts_are schedule steps k actions ops same all few_actions few_ops kept_actions kept_ops =
    let build : ℕ → ℕ → Counts = λ a o. record { steps = length steps; actions = a; ops = o } in
    let a : actions ≡ capped (length (actions_of steps)) =
    counted_end (λ (xs : List Action). length xs) steps k actions refl all few_actions kept_actions in
    let o : ops ≡ capped (how_many is_operation (actions_of steps)) =
    counted_end (λ (xs : List Action). how_many is_operation xs) steps k ops refl all few_ops kept_ops in
    ap (λ (n : ℕ). build n ops) a ∙ ap (λ (n : ℕ). build (capped (length (actions_of steps))) n) o ∙ ap counts_of same
