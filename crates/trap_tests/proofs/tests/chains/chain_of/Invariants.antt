use Rattle.std.proofs.Common.{◌≡◌, ◌+◌, ◌≤◌, length}
use Rattle.trap_tests.proofs.tests.chains.chain_of.Given as goal

-- there is room for the numbers that are left
abbrev pub invariant-loop-number : goal.invariant-loop-number
invariant-loop-number l = record {
  len : length l.chain.ions ≡ l.number-index;
  spare : l.room ≤ l.chain.spare + l.number-index;
}
