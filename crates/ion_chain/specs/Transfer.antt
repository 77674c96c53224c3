-- A transfer between two places, on the lists of all places.
use Rattle.std.specs.Prelude.{◌≢◌, ℕ, List, [], slice_index_or, slice_set}
use Rattle.qc_base.specs.declared.ids.Ion.{Ion}
use Rattle.ion_chain.specs.declared.transfer.Transfer.{Transfer}
use Rattle.ion_chain.specs.Passing.{leaving, left, joined}

-- the list of a place; an empty one where there is no such place
abbrev pub list_at : List (List Ion) → ℕ → List Ion
list_at lists place = slice_index_or lists place []

-- the lists after it: the ions leave the one place and join the other, and all other places stay
abbrev pub after_transfer : List (List Ion) → Transfer → List (List Ion)
after_transfer lists t =
    let source = list_at lists t.from.0 in
    slice_set (slice_set lists t.from.0 (left t.from_end t.count source)) t.to.0
    (joined t.to_end (leaving t.from_end t.count source) (list_at lists t.to.0))

-- the two share no place
pub record AreApart (s t : Transfer) : Type 0 where
  pub sources : s.from.0 ≢ t.from.0
  pub targets : s.to.0 ≢ t.to.0
  pub across : s.from.0 ≢ t.to.0
  pub back : s.to.0 ≢ t.from.0
