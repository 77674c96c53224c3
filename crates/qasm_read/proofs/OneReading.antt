-- A text has one reading.
use Rattle.std.proofs.Common.{◌≡◌, ℕ, List, Result, Ok, Err, sym, ◌∙◌}
use Rattle.qasm_tokens.specs.declared.token.PlacedToken.{PlacedToken}
use Rattle.qasm_tokens.specs.declared.token_fault.TokenFault.{TokenFault}
use Rattle.qasm_tokens.specs.Tokens.{tokens_of}
use Rattle.qasm_read.specs.declared.fault.QasmFault.{QasmFault}
use Rattle.qasm_read.specs.declared.statement.Placed.{Placed}
use Rattle.qasm_read.specs.Read.{ComesTo, IsReading}
use Rattle.qasm_read.proofs.Unique.{one_answer}

comes_to_one : (tokens : Result (List PlacedToken) TokenFault) (a b : Result (List Placed) QasmFault) → ComesTo tokens a → ComesTo tokens b → a ≡ b
comes_to_one (Ok placed) a b p q = one_answer placed a b p q
comes_to_one (Err fault) a b p q = p ∙ sym q

pub one_reading : (bytes : List ℕ) (a b : Result (List Placed) QasmFault) → IsReading bytes a → IsReading bytes b → a ≡ b
one_reading bytes a b = comes_to_one (tokens_of bytes) a b
