-- Working notions of private functions: variables of which the most active come first.
use Rattle.std.specs.Prelude.{ℕ, List}

-- the variables that are in the heap, and those that were taken out of it
pub record Queue : Type 0 where
  pub members : List ℕ
  pub taken : List ℕ
