-- The encoding: the clauses of each part, as a function of trap, circuit, placement, encoding and time.
use Rattle.std.specs.Prelude.{ℕ, zero, suc, ◌+◌, ◌≤◌, nat_le, if◌then◌else◌, Option, None, List, [], ◌∷◌, ◌++◌, length, map}
use Rattle.sat_base.specs.Literal.{Literal}
use Rattle.sat_base.specs.Fresh.{Parts, clauses_up_to}
use Rattle.trap_model.specs.Trap.{place_count}
use Rattle.trap_model.specs.Channels.{channels_of}
use Rattle.step_rules.specs.Setting.{SettingValue}
use Rattle.step_vars.specs.declared.encoding.Encoding.{Encoding}
use Rattle.step_vars.specs.declared.item.Item.{Item}
use Rattle.step_vars.specs.declared.item.Claim.{Claim}
use Rattle.step_vars.specs.declared.cells.Cell.{Cell}
use Rattle.step_vars.specs.Items.{time_of, so, goal_item}
use Rattle.step_vars.specs.Lists.{ion_count, pairs_of, performed, acts_of, orders_of, cell}
use Rattle.step_vars.specs.Numbering.{Numbering, number_of, literal_of, first_helper}
use Rattle.step_vars.specs.declared.item.Bound.{Bound}
use Rattle.step_vars.specs.Families.{start_places, start_orders, start_undone, one_places, few_ions_each, leaves_from_source, leaves_to_target, leaves_use_channel, all_stay_or_leave, all_stayed_or_came, use_passes_some, use_needs_empty_slot, use_empties_slot, splits_take_the_front, one_activity_each, one_crossing_each, swaps_in_zone, swaps_of_neighbours, swaps_turn, stayers_keep_order, chains_keep_order, merges_at_the_end, ions_in_zone, acts_do, all_done_by_acts, done_in_order, goal_needs_all}
use Rattle.step_vars.specs.Limits.{limited, fresh_for}

-- ---- the families of a part, in order

-- what places hold
abbrev pub place_bounds : SettingValue → ℕ → List Bound
place_bounds setting t = one_places setting t ++ few_ions_each setting t

-- ions pass through channels
abbrev pub passing_clauses : SettingValue → ℕ → ℕ → List (List Claim)
passing_clauses setting r t =
    leaves_from_source setting r t ++ leaves_to_target setting r t ++ leaves_use_channel setting r t
    ++ all_stay_or_leave setting r t ++ all_stayed_or_came setting r t
    ++ use_passes_some setting r t ++ use_needs_empty_slot setting r t ++ use_empties_slot setting r t
    ++ splits_take_the_front setting r t

-- one action works at each place and in each junction
abbrev pub activity_bounds : SettingValue → ℕ → List Bound
activity_bounds setting t = one_activity_each setting t ++ one_crossing_each setting t

-- the order of ions, and operations
abbrev pub order_clauses : SettingValue → ℕ → ℕ → List (List Claim)
order_clauses setting r t =
    swaps_in_zone setting r t ++ swaps_of_neighbours setting r t ++ swaps_turn setting r t
    ++ stayers_keep_order setting r t ++ chains_keep_order setting r t ++ merges_at_the_end setting r t

abbrev pub operation_clauses : SettingValue → ℕ → ℕ → List (List Claim)
operation_clauses setting r t =
    ions_in_zone setting r t ++ acts_do setting r t ++ all_done_by_acts setting r t
    ++ done_in_order setting r t

abbrev pub start_clauses : SettingValue → List (List Claim)
start_clauses setting = start_places setting ++ start_orders setting ++ start_undone setting

-- ---- the numbering

-- how many helpers the lists have
abbrev pub helper_count : Encoding → List Bound → ℕ
helper_count encoding [] = 0
helper_count encoding (bound ∷ bounds) =
    fresh_for encoding (length bound.items) bound.limit + helper_count encoding bounds

-- the helpers of a step; each step has as many as the first
abbrev pub step_helpers : SettingValue → Encoding → ℕ
step_helpers setting encoding =
    helper_count encoding (place_bounds setting 1) + helper_count encoding (activity_bounds setting 1)

unfoldable pub numbering_of : SettingValue → Encoding → Numbering
numbering_of setting encoding = record {
  ions = ion_count setting;
  places = place_count setting.trap;
  zones = length setting.trap.zones;
  channels = length (channels_of setting.trap);
  pairs = pairs_of (ion_count setting);
  ops = map (λ g. cell g 0) (performed setting.circuit);
  acts = acts_of setting;
  helpers = step_helpers setting encoding;
}

-- ---- clauses with numbers

abbrev pub clause_of : Numbering → List Claim → List Literal
clause_of n claims = map (literal_of n) claims

abbrev pub clauses_of : Numbering → List (List Claim) → List (List Literal)
clauses_of n clauses = map (clause_of n) clauses

abbrev pub literals_of : Numbering → List Item → List Literal
literals_of n items = map (λ item. literal_of n (so item)) items

-- the lists in order, each with its helpers after those of the lists before it
abbrev pub bounds_of : Numbering → Encoding → ℕ → List Bound → List (List Literal)
bounds_of n encoding next [] = []
bounds_of n encoding next (bound ∷ bounds) =
    limited encoding (literals_of n bound.items) bound.limit next
    ++ bounds_of n encoding (next + fresh_for encoding (length bound.items) bound.limit) bounds

-- the clauses of step t, which leads from time r
abbrev pub step_part : Numbering → SettingValue → Encoding → ℕ → ℕ → List (List Literal)
step_part n setting encoding r t =
    bounds_of n encoding (first_helper n t) (place_bounds setting t)
    ++ clauses_of n (passing_clauses setting r t)
    ++ bounds_of n encoding (first_helper n t + helper_count encoding (place_bounds setting t))
    (activity_bounds setting t)
    ++ clauses_of n (order_clauses setting r t)
    ++ clauses_of n (operation_clauses setting r t)

-- the clauses of a part but those of its goal
abbrev pub layer_by : Numbering → SettingValue → Encoding → ℕ → List (List Literal)
layer_by n setting encoding zero = clauses_of n (start_clauses setting)
layer_by n setting encoding (suc r) = step_part n setting encoding r (suc r)

unfoldable pub layer_of : SettingValue → Encoding → ℕ → List (List Literal)
layer_of setting encoding t = layer_by (numbering_of setting encoding) setting encoding t

unfoldable pub goal_of : SettingValue → Encoding → ℕ → List (List Literal)
goal_of setting encoding t = clauses_of (numbering_of setting encoding) (goal_needs_all setting t)

-- part t, in order of emission
abbrev pub part_of : SettingValue → Encoding → ℕ → List (List Literal)
part_of setting encoding t = layer_of setting encoding t ++ goal_of setting encoding t

-- the literal of goal(t)
abbrev pub goal_literal : SettingValue → Encoding → ℕ → Literal
goal_literal setting encoding t = literal_of (numbering_of setting encoding) (so (goal_item t))

-- the parts and their goals
abbrev pub parts_of : SettingValue → Encoding → Parts
parts_of setting encoding = record { part = part_of setting encoding; goal = goal_literal setting encoding }

-- the clauses of the parts 0 to t
abbrev pub encoding_of : SettingValue → Encoding → ℕ → List (List Literal)
encoding_of setting encoding t = clauses_up_to (parts_of setting encoding) t

-- ---- what a contract sees of the variables of a setting

pub record VarsValue : Type 0 where
  pub numbering : Numbering
  pub orders : List Cell
  pub encoding : Encoding
  pub steps : ℕ

-- the limits of exact mode: ions, places, operations with barriers, steps
pub record IsSmall (setting : SettingValue) (steps : ℕ) : Type 0 where
  pub ions : ion_count setting ≤ 16
  pub places : place_count setting.trap ≤ 48
  pub ops : length setting.circuit.ops ≤ 200
  pub time : steps ≤ 48

unfoldable pub vars_of : SettingValue → Encoding → ℕ → VarsValue
vars_of setting encoding steps = record {
  numbering = numbering_of setting encoding;
  orders = orders_of setting.circuit;
  encoding = encoding;
  steps = steps;
}

-- the number of an item that speaks of no time after the last
abbrev pub number_in : VarsValue → Item → Option ℕ
number_in vars item = if nat_le (time_of item) vars.steps then number_of vars.numbering item else None
