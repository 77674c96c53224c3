use Rattle.std.proofs.Common.{◌+◌, ◌-◌}
use Rattle.at_most.specs.Sequential.{carried}
use Rattle.at_most.proofs.Emitted.{Emitted}
use Rattle.at_most.proofs.sequential.push_carried.Given as goal

-- the places after this one are still to come
abbrev pub invariant-loop-place : goal.invariant-loop-place
invariant-loop-place l = Emitted l.fn.out l.out (carried l.fn.lit l.row (l.row + l.k) (l.k - 1)) (carried l.lit (l.row + l.place) (l.row + l.k + l.place) (l.k - 1 - l.place))
