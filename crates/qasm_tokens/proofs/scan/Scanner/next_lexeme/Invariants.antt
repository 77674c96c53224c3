use Rattle.std.proofs.Common.{◌≡◌, ◌≤◌, ◌-◌, length}
use Rattle.qasm_tokens.specs.Scan.{rest_from}
use Rattle.qasm_tokens.proofs.scan.Scanner.next_lexeme.Given as goal

-- what was passed over changes nothing
abbrev pub invariant-loop-self : goal.invariant-loop-self
invariant-loop-self l = record {
  same : l.self.bytes.now ≡ l.fn.self.bytes.now;
  later : l.fn.self.at ≤ l.self.at;
  within : l.self.at ≤ length l.self.bytes.now;
  reads : rest_from l.fn.self.bytes.now l.fn.self.at l.fn.self.depth ≡ rest_from l.self.bytes.now l.self.at l.self.depth;
}

abbrev pub decreases-loop-self : goal.decreases-loop-self
decreases-loop-self l = length l.self.bytes.now - l.self.at
