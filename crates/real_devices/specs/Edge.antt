-- The devices of the system, as a shelf and as sinks.
use Rattle.std.specs.Prelude.{ℕ, List, false, Option, None}
use Rattle.qc_base.specs.Shelf.{ShelfFacts}

-- what a sink took of which nothing is known
abbrev pub unknown_bytes : Option (List ℕ)
unknown_bytes = None

-- a shelf of which nothing is known; one count of faults serves for every name, and for reads and puts
abbrev pub silent : ℕ → ShelfFacts
silent faults = record {
  known = false;
  contents = λ name. None;
  read_faults = λ name. faults;
  put_faults = λ name. faults;
}
