use Rattle.std.proofs.Common.{◌≡◌, ℕ, ◌+◌, ◌-◌, length}
use Rattle.std.specs.Prelude.{slice_index}
use Rattle.compact.proofs.levels.Levels.reach.Given as goal

abbrev pub invariant-fill : goal.invariant-fill
invariant-fill l = (other : ℕ) → slice_index l.self-inside.levels.items other ≡ slice_index l.initial.self-inside.levels.items other

abbrev pub decreases-fill : goal.decreases-fill
decreases-fill l = l.number + 1 - length l.self-inside.levels.items
