-- What a contract sees of a chain.
use Rattle.std.specs.Prelude.{ℕ, ◌+◌, List, [], length, slice_index_or}
use Rattle.qc_base.specs.declared.ids.Ion.{Ion}

-- ions from end a to end b, and how many more there is room for
pub record ChainValue : Type 0 where
  pub ions : List Ion
  pub spare : ℕ

-- the ions of a row
abbrev pub ions_of : ChainValue → List Ion
ions_of row = row.ions

-- how many ions it has room for in all
abbrev pub room_of : ChainValue → ℕ
room_of row = length row.ions + row.spare

-- the row of a place; one without ions and room where there is no such place
abbrev pub row_at : List ChainValue → ℕ → ChainValue
row_at rows place = slice_index_or rows place (record { ions = []; spare = 0 })
