-- Working notions of private functions: what is added for the time before the first step.
use Rattle.std.specs.Prelude.{ℕ, Bool, false, List, [], ◌∷◌, map, slice_get}
use Rattle.std.specs.List.{list_any}
use Rattle.std.specs.Option.{option_map_or}
use Rattle.qc_base.specs.declared.ids.Ion.{Ion}
use Rattle.step_vars.specs.declared.cells.Cell.{Cell}
use Rattle.step_vars.specs.declared.item.Claim.{Claim}
use Rattle.step_vars.specs.Items.{at_item, ord_item, done_item, not_so}
use Rattle.step_vars.specs.Lists.{is_there, is_before}

abbrev pub is_in_place : List (List Ion) → ℕ → ℕ → Bool
is_in_place lists i p = option_map_or (is_there i) (slice_get lists p) false

abbrev pub place_claim : List (List Ion) → ℕ → ℕ → List Claim
place_claim lists i p = record { item = at_item i p 0; positive = is_in_place lists i p } ∷ []

-- the claims of an ion, whether it is in each of these places
abbrev pub place_claims : List (List Ion) → List ℕ → ℕ → List (List Claim)
place_claims lists places i = map (place_claim lists i) places

abbrev pub order_claim : List (List Ion) → Cell → List Claim
order_claim lists pair =
    record {
      item = ord_item pair.row pair.col 0;
      positive = list_any (is_before pair.row pair.col) lists;
    } ∷ []

abbrev pub undone : ℕ → List Claim
undone g = not_so (done_item g 0) ∷ []
