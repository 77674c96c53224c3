-- The words of a line, one after another.
use Rattle.std.specs.Prelude.{ℕ, ◌<◌, ◌≤◌, Bool, if◌then◌else◌, List, [], ◌++◌, All, Option, Some, None, codes, decimal}
use Rattle.sat_base.specs.Literal.{Literal}
use Rattle.sat_base.specs.Clauses.{EachVariable}
use Rattle.sat_base.specs.Derivation.{Line}
use Rattle.sat_base.specs.Certificate.{literal_text}

-- what is in front of a variable
abbrev pub sign_text : Bool → List ℕ
sign_text positive = if positive then [] else codes "-"

-- a literal, or the 0 after the last one, and a space
abbrev pub literal_word : Option Literal → List ℕ
literal_word None = codes "0 "
literal_word (Some literal) = literal_text literal ++ codes " "

-- its variable is one of so many
abbrev pub MayStand : ℕ → Option Literal → Type 0
MayStand vars None = Unit {0}
MayStand vars (Some literal) = (1 ≤ literal.var) × (literal.var ≤ vars)

-- a hint and a space, or the 0 that ends the line
abbrev pub hint_word : Option ℕ → List ℕ
hint_word None = codes "0\n"
hint_word (Some hint) = decimal hint ++ codes " "

-- it is a hint of the line of that number
abbrev pub MayHint : ℕ → Option ℕ → Type 0
MayHint number None = Unit {0}
MayHint number (Some hint) = (1 ≤ hint) × (hint < number)

-- the variables of the literals are among so many
abbrev pub AreWithin : ℕ → List Literal → Type 0
AreWithin vars clause = EachVariable (λ var. (1 ≤ var) × (var ≤ vars)) clause

-- hints that a line of that number may have
abbrev pub AreHints : ℕ → List ℕ → Type 0
AreHints number hints = All (λ hint. (1 ≤ hint) × (hint < number)) hints

-- the line with this clause and these hints
abbrev pub line_of : List Literal → List ℕ → Line
line_of clause hints = record { clause = clause; hints = hints }
