-- Faults of tokens as faults of a file.
use Rattle.qasm_tokens.specs.declared.token_fault.TokenFault.{TokenFault}
use Rattle.qasm_tokens.specs.declared.token_fault.TokenFault.TheVariants as tokens
use Rattle.qasm_read.specs.declared.fault.QasmFault.{QasmFault}
use Rattle.qasm_read.specs.declared.fault.QasmFault.TheVariants as faults

-- a fault of tokens, as one of a file
abbrev pub fault_of : TokenFault → QasmFault
fault_of (tokens.Lex at) = faults.Lex at
fault_of (tokens.LongWord at) = faults.LongWord at
fault_of (tokens.BigNumber at) = faults.BigNumber at
fault_of (tokens.Deep at) = faults.Deep at
