use Rattle.std.proofs.Common.{◌≡◌, ◌-◌, length, false, not}
use Rattle.std.specs.Prelude.{find, slice_index_or}
use Rattle.std.specs.List.{range_with_len}
use Rattle.step_rules.proofs.placement.unmarked.Given as goal

abbrev pub invariant-loop-number : goal.invariant-loop-number
invariant-loop-number l =
    find (λ number. not (slice_index_or l.flags number false)) (range_with_len 0 (length l.flags))
    ≡ find (λ number. not (slice_index_or l.flags number false)) (range_with_len l.number (length l.flags - l.number))
