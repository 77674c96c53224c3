-- What a circuit file's bytes are: a program, or the first fault. Faults of tokens come before all faults of grammar.
use Rattle.std.specs.Prelude.{◌≡◌, ℕ, List, Result, Ok, Err}
use Rattle.qasm_tokens.specs.declared.token.PlacedToken.{PlacedToken}
use Rattle.qasm_tokens.specs.declared.token_fault.TokenFault.{TokenFault}
use Rattle.qasm_tokens.specs.Tokens.{tokens_of}
use Rattle.qasm_read.specs.declared.fault.QasmFault.{QasmFault}
use Rattle.qasm_read.specs.declared.statement.Placed.{Placed}
use Rattle.qasm_read.specs.TokenFaults.{fault_of}
use Rattle.qasm_read.specs.Program.{Answers}

-- what a fault or a list of tokens comes to
abbrev pub ComesTo : Result (List PlacedToken) TokenFault → Result (List Placed) QasmFault → Type 0
ComesTo (Ok placed) answer = Answers placed answer
ComesTo (Err fault) answer = answer ≡ Err (fault_of fault)

-- the answer to the bytes
abbrev pub IsReading : List ℕ → Result (List Placed) QasmFault → Type 0
IsReading bytes answer = ComesTo (tokens_of bytes) answer
