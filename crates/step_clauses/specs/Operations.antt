-- Working notions of private functions: what is added for operations.
use Rattle.std.specs.Prelude.{ℕ, List, [], ◌∷◌, map, filter}
use Rattle.std.specs.List.{flat_map}
use Rattle.step_rules.specs.Setting.{SettingValue}
use Rattle.step_vars.specs.declared.cells.Cell.{Cell}
use Rattle.step_vars.specs.declared.item.Claim.{Claim}
use Rattle.step_vars.specs.Items.{at_item, act_item, done_item, goal_item, so, not_so}
use Rattle.step_vars.specs.Lists.{able_zones, is_ion_of}

abbrev pub ion_in_zone : ℕ → ℕ → ℕ → ℕ → ℕ → List Claim
ion_in_zone r t g z i = not_so (act_item g z t) ∷ so (at_item i z r) ∷ []

-- each of these ions is in the zone, for each of these zones
abbrev pub ions_in_each : ℕ → ℕ → ℕ → List ℕ → List ℕ → List (List Claim)
ions_in_each r t g ions zones = flat_map (λ z. map (ion_in_zone r t g z) ions) zones

abbrev pub op_in_zones : SettingValue → ℕ → ℕ → List ℕ → ℕ → List (List Claim)
op_in_zones setting r t ions g = ions_in_each r t g (filter (is_ion_of setting g) ions) (able_zones setting g)

abbrev pub was_or_acts : ℕ → ℕ → List ℕ → ℕ → List Claim
was_or_acts r t zones g = not_so (done_item g t) ∷ so (done_item g r) ∷ map (λ z. so (act_item g z t)) zones

abbrev pub stays_done : SettingValue → ℕ → ℕ → ℕ → List (List Claim)
stays_done setting r t g =
    (not_so (done_item g r) ∷ so (done_item g t) ∷ []) ∷ was_or_acts r t (able_zones setting g) g ∷ []

abbrev pub in_order : ℕ → ℕ → Cell → List Claim
in_order r t order = not_so (done_item order.row t) ∷ so (done_item order.col r) ∷ []

abbrev pub goal_needs : ℕ → ℕ → List Claim
goal_needs t g = not_so (goal_item t) ∷ so (done_item g t) ∷ []
