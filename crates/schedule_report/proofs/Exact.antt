-- Counts of few actions.
use Rattle.std.proofs.Common.{◌≡◌, ℕ, zero, suc, ◌+◌, ◌<◌, ◌≤◌, ◌^◌, List, [], ◌∷◌, length, Bool, true, false, refl, sym, ◌∙◌, arith, slice_get, Some}
use Rattle.std.specs.Prelude.{if◌then◌else◌, max, ◌⊎◌}
use Rattle.qc_base.specs.Counting.{how_many}
use Rattle.step_rules.specs.declared.action.Action.{Action}
use Rattle.step_rules.specs.declared.action.Action.TheVariants as actions
use Rattle.step_rules.specs.Play.{actions_of}
use Rattle.schedule_report.specs.Counts.{capped, total, is_split, is_move, is_cross, is_merge, is_swap, is_operation, counts_of, tally_of}
use Rattle.schedule_report.specs.Report.{ops_in, most_ops}

capped_small : (n : ℕ) → n < 2 ^ 64 → capped n ≡ n
capped_small n h = omega (arith, h)

at_most_one : (b : Bool) → (if b then 1 else 0) ≤ 1
at_most_one true = omega arith
at_most_one false = omega arith

how_many-le : (p : Action → Bool) (actions : List Action) → how_many p actions ≤ length actions
how_many-le p [] = omega arith
how_many-le p (x ∷ xs) = omega (arith, how_many-le p xs, at_most_one (p x))

total_small : (p : Action → Bool) (actions : List Action) → length actions < 2 ^ 64 → total p actions ≡ how_many p actions
total_small p actions h = capped_small (how_many p actions) (omega (arith, h, how_many-le p actions))

pub counted_exactly : (steps : List (List Action)) → length (actions_of steps) < 2 ^ 64
    → counts_of steps ≡ record { steps = length steps; actions = length (actions_of steps); ops = how_many is_operation (actions_of steps) }
counted_exactly steps h =
    rw (capped_small (length (actions_of steps)) h, total_small is_operation (actions_of steps) h) refl

by_kind : (actions : List Action) → how_many is_split actions + how_many is_move actions + how_many is_cross actions
    + how_many is_merge actions + how_many is_swap actions + how_many is_operation actions ≡ length actions
by_kind [] = refl
by_kind (actions.Split zone end count ∷ rest) = omega (arith, by_kind rest)
by_kind (actions.Move from to ∷ rest) = omega (arith, by_kind rest)
by_kind (actions.Cross junction from to ∷ rest) = omega (arith, by_kind rest)
by_kind (actions.Merge zone end ∷ rest) = omega (arith, by_kind rest)
by_kind (actions.Swap zone index ∷ rest) = omega (arith, by_kind rest)
by_kind (actions.Op zone op ∷ rest) = omega (arith, by_kind rest)

pub kinds_sum : (actions : List Action) → length actions < 2 ^ 64 → let tally = tally_of actions in
    tally.splits + tally.moves + tally.crosses + tally.merges + tally.swaps + tally.ops ≡ length actions
kinds_sum actions h =
    rw (
      total_small is_split actions h,
      total_small is_move actions h,
      total_small is_cross actions h,
      total_small is_merge actions h,
      total_small is_swap actions h,
      total_small is_operation actions h,
    ) (by_kind actions)

same_step : (x step : List Action) → Some x ≡ Some step → x ≡ step
same_step x step e = cc

pub most_bounds : (steps : List (List Action)) (k : ℕ) (step : List Action) → slice_get steps k ≡ Some step → ops_in step ≤ most_ops steps
most_bounds [] k step e = let none : slice_get [] k ≡ Some step = e in cc
most_bounds (x ∷ xs) zero step e = rw (sym (same_step x step e)) (omega arith)
most_bounds (x ∷ xs) (suc k) step e = omega (arith, most_bounds xs k step e)
