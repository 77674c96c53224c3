-- Working notions of private functions: numbered clauses that are kept in two lists, and what taking a line does.
use Rattle.std.specs.Prelude.{◌≡◌, ℕ, ◌+◌, ◌<◌, ◌^◌, ◌↔◌, Bool, IsTrue, All, List, [], ◌∷◌, ◌++◌, length}
use Rattle.sat_base.specs.Literal.{Literal}
use Rattle.lrat_out.specs.declared.lrat_fault.LratFault.{LratFault}
use Rattle.lrat_out.specs.declared.lrat_fault.LratFault.TheVariants.{Line, Hint, NoEmpty, NoMemory}
use Rattle.lrat_out.specs.Lines.{ProofLine, proof_line_text, Numbered, Hand, after, HasForm}
use Rattle.derivation_log.specs.declared.line_id.LineId.{LineId}
use Rattle.derivation_log.specs.Log.{Lines, derived_id, clause_of, hints_of}
use Rattle.derivation_log.specs.Printing.{number_of}
use Rattle.lrat_out.specs.Right.{IsRight}
use Rattle.lrat_out.specs.Export.{proof_line}
use Rattle.lrat_out.specs.Faults.{HasNoLine}

-- the clauses with their numbers
abbrev pub numbered : List ℕ → List (List Literal) → List Numbered
numbered [] clauses = []
numbered (number ∷ numbers) [] = []
numbered (number ∷ numbers) (clause ∷ clauses) = record { number = number; clause = clause } ∷ numbered numbers clauses

-- the numbers rise, from above that one on
abbrev pub RiseAbove : ℕ → List ℕ → Type 0
RiseAbove last [] = Unit {0}
RiseAbove last (number ∷ numbers) = (last < number) × RiseAbove number numbers

-- a line of these parts
abbrev pub proof_line_of : ℕ → List Literal → List ℕ → ProofLine
proof_line_of number clause hints = record { number = number; clause = clause; hints = hints }

-- the bytes begin with a line of the form that is right, and it is in hand from then on
pub record TakesLine (vars : ℕ) (old : Hand) (bytes rest : List ℕ) (empty : Bool) (new : Hand) : Type 0 where
  pub line : ProofLine
  pub form : HasForm vars old line
  pub right : IsRight old line
  pub text : bytes ≡ proof_line_text line ++ rest
  pub added : new ≡ after old line
  pub is_empty : IsTrue empty ↔ (line.clause ≡ [])

-- the bytes begin with a line of the form that is not right
pub record HasWrong (vars : ℕ) (hand : Hand) (bytes : List ℕ) : Type 0 where
  pub line : ProofLine
  pub rest : List ℕ
  pub form : HasForm vars hand line
  pub wrong : IsRight hand line → ⊥
  pub text : bytes ≡ proof_line_text line ++ rest

-- the fault of the line at that place
abbrev pub HasFaultAt : ℕ → Hand → List ℕ → ℕ → LratFault → Type 0
HasFaultAt vars hand bytes place (Line n) = (n ≡ place) × HasNoLine vars hand bytes
HasFaultAt vars hand bytes place (Hint n) = (n ≡ place) × HasWrong vars hand bytes
HasFaultAt vars hand bytes place NoEmpty = ⊥
HasFaultAt vars hand bytes place NoMemory = Unit {0}

-- the numbers of the hints fit their type
abbrev pub NumbersFit : Lines → List LineId → Type 0
NumbersFit log hints = All (λ hint. number_of (length log.axioms + 1) hint < 2 ^ 64) hints

-- the text of the derived line of that number
abbrev pub derived_text : Lines → ℕ → List ℕ
derived_text log k = proof_line_text (proof_line log k (record { clause = clause_of log (derived_id k); hints = hints_of log (derived_id k) }))
