-- ---- for private functions: names that are noted, up to one that is noted before.
use Rattle.std.specs.Prelude.{ℕ, List, [], ◌∷◌, ◌++◌, is_some, Result, Ok}
use Rattle.gate_names.specs.declared.names.Meaning.TheVariants.{Gate}
use Rattle.gate_names.specs.declared.cause.Cause.{Cause}
use Rattle.gate_names.specs.declared.cause.Cause.TheVariants.{Redeclared}
use Rattle.gate_names.specs.Causes.{◌>>◌, refuse_if}
use Rattle.gate_names.specs.Entries.{Entries, meaning_in}

abbrev pub noted : Entries → List (List ℕ) → Result Entries Cause
noted seen [] = Ok seen
noted seen (name ∷ names) =
    refuse_if (is_some (meaning_in seen name)) Redeclared >> noted (seen ++ (name, Gate 0) ∷ []) names
