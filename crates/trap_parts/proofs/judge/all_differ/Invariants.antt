use Rattle.std.proofs.Common.{◌≡◌, drop}
use Rattle.trap_parts.specs.Build.{all_differ}
use Rattle.trap_parts.proofs.judge.all_differ.Given as goal

-- the numbers before stand once
abbrev pub invariant-loop-k : goal.invariant-loop-k
invariant-loop-k l = all_differ (drop l.k l.numbers) ≡ all_differ l.numbers
