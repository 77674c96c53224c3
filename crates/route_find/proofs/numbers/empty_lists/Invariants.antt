use Rattle.std.proofs.Common.{◌≡◌, replicate, []}
use Rattle.route_find.proofs.numbers.empty_lists.Given as goal

-- so many empty lists so far
abbrev pub invariant-loop-place : goal.invariant-loop-place
invariant-loop-place l = l.lists.items ≡ replicate l._place []
