use Rattle.std.proofs.Common.{◌≡◌, map}
use Rattle.std.specs.List.{range_with_len}
use Rattle.trap_model.specs.Tables.{steps_of}
use Rattle.trap_model.proofs.tables.find_steps.Given as goal

-- the moves of the places below
abbrev pub invariant-loop-place : goal.invariant-loop-place
invariant-loop-place l = l.steps.items ≡ map (steps_of l.channels) (range_with_len 0 l.place)
