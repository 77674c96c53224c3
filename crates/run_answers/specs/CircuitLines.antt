-- What is said of the faults of a circuit's file, in pieces.
use Rattle.std.specs.Prelude.{ℕ, List, [], ◌∷◌, codes, decimal}
use Rattle.qasm_read.specs.declared.fault.QasmFault.{QasmFault}
use Rattle.qasm_read.specs.declared.fault.QasmFault.TheVariants as faults
use Rattle.gate_names.specs.declared.cause.Counted.{Counted}
use Rattle.gate_names.specs.declared.cause.Counted.TheVariants as counts
use Rattle.gate_expand.specs.declared.fault.ExpandFault.{ExpandFault}
use Rattle.gate_expand.specs.declared.fault.ExpandFault.TheVariants as expansions

-- a fault at a byte
abbrev pub at_byte : ℕ → List ℕ → List (List ℕ)
at_byte at what = codes "circuit byte " ∷ decimal at ∷ codes ": " ∷ what ∷ []

-- a file that is not a valid program
abbrev pub qasm_said : QasmFault → List (List ℕ)
qasm_said faults.Header = codes "circuit: no header" ∷ []
qasm_said (faults.Lex at) = at_byte at (codes "no token")
qasm_said (faults.LongWord at) = at_byte at (codes "long word")
qasm_said (faults.BigNumber at) = at_byte at (codes "large number")
qasm_said (faults.Deep at) = at_byte at (codes "too deep")
qasm_said (faults.Statement at) = at_byte at (codes "no statement")
qasm_said (faults.Large at) = at_byte at (codes "large angle")
qasm_said faults.NoMemory = codes "no memory" ∷ []

-- what there are too many of
abbrev pub count_word : Counted → List ℕ
count_word counts.Qubits = codes "too many qubits"
count_word counts.Bits = codes "too many bits"
count_word counts.Formals = codes "too many formals"
count_word counts.Applications = codes "too many applications"
count_word counts.Ops = codes "too many operations"
count_word counts.Nodes = codes "too many nodes"

-- a program that has no circuit
abbrev pub expand_said : ExpandFault → List (List ℕ)
expand_said (expansions.Include at) = at_byte at (codes "include")
expand_said (expansions.Undeclared at) = at_byte at (codes "undeclared")
expand_said (expansions.Redeclared at) = at_byte at (codes "redeclared")
expand_said (expansions.Kind at) = at_byte at (codes "wrong kind")
expand_said (expansions.Params at) = at_byte at (codes "parameters")
expand_said (expansions.Args at) = at_byte at (codes "arguments")
expand_said (expansions.Index at) = at_byte at (codes "index")
expand_said (expansions.Zero at) = at_byte at (codes "size zero")
expand_said (expansions.Sizes at) = at_byte at (codes "sizes")
expand_said (expansions.Repeated at) = at_byte at (codes "repeated qubit")
expand_said (expansions.SelfMeasure at) = at_byte at (codes "condition on its own register")
expand_said (expansions.WideOp at) = at_byte at (codes "wide operation")
expand_said (expansions.AngleLarge at) = at_byte at (codes "large angle")
expand_said (expansions.TooMany what at) = at_byte at (count_word what)
expand_said expansions.NoMemory = codes "no memory" ∷ []
