use Rattle.std.proofs.Common.{◌≡◌, drop}
use Rattle.gate_expand.specs.Program.{start, statements_done}
use Rattle.gate_expand.proofs.expansion.expand.Given as goal

-- the statements so far and the rest come to what all do
abbrev pub invariant-loop-placed : goal.invariant-loop-placed
invariant-loop-placed l = statements_done (drop l.placed-index l.placed-items) l.expansion ≡ statements_done l.program start
