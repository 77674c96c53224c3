-- Names and what they mean.
use Rattle.std.specs.Prelude.{◌≡◌, ℕ, ◌<◌, ◌≤◌, Bool, List, length, Option, Some}
use Rattle.std.specs.Map.{lookup}
use Rattle.std.specs.Str.{bytes_eq}
use Rattle.gate_names.specs.declared.gate.Gate.{Gate}
use Rattle.gate_names.specs.declared.names.Meaning.{Meaning}
use Rattle.gate_names.specs.declared.names.Meaning.TheVariants as meaning

-- names with their meanings, in the order of their declaration
abbrev pub Entries : Type 0
Entries = List (List ℕ × Meaning)

abbrev pub meaning_in : Entries → List ℕ → Option Meaning
meaning_in names name = lookup (bytes_eq name) names

-- the names that the file declared, whether it included the library, and all gates by their numbers
pub record Table : Type 0 where
  pub names : Entries
  pub included : Bool
  pub gates : List Gate

-- ---- for private functions

-- each name of a gate has the number of one, and all gates that are there from the start are there
pub record IsTable (table : Table) : Type 0 where
  pub known : (name : List ℕ) (number : ℕ) → meaning_in table.names name ≡ Some (meaning.Gate number)
      → number < length table.gates
  pub start : 36 ≤ length table.gates
