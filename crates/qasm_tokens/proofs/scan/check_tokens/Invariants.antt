use Rattle.std.proofs.Common.{◌≡◌, ◌-◌, length}
use Rattle.std.specs.Result.{result_err}
use Rattle.qasm_tokens.specs.Tokens.{tokens_of}
use Rattle.qasm_tokens.specs.Scan.{rest_from}
use Rattle.qasm_tokens.proofs.scan.check_tokens.Given as goal

-- the fault is that of what is left
abbrev pub invariant-loop : goal.invariant-loop
invariant-loop l = result_err (rest_from l.scanner.bytes.now l.scanner.at l.scanner.depth) ≡ result_err (tokens_of l.bytes)

abbrev pub decreases-loop : goal.decreases-loop
decreases-loop l = length l.scanner.bytes.now - l.scanner.at
