-- The clauses of the encoding as claims of items, family by family. Step t leads from time r to time t.
-- Ions are i, j and k, places p, zones z, channels c, operations g and h without barriers. Loops run as the
-- definitions nest them, the first outermost.
use Rattle.std.specs.Prelude.{ℕ, ◌==◌, not, if◌then◌else◌, List, [], ◌∷◌, ◌++◌, map, filter, ◌&&◌}
use Rattle.std.specs.List.{flat_map}
use Rattle.trap_model.specs.Trap.{limit_of, is_zone}
use Rattle.trap_parts.specs.Joins.{same_end}
use Rattle.trap_model.specs.Channels.{is_through}
use Rattle.step_rules.specs.Setting.{SettingValue}
use Rattle.step_vars.specs.declared.cells.Cell.{Cell}
use Rattle.step_vars.specs.declared.item.Item.{Item}
use Rattle.step_vars.specs.declared.item.Claim.{Claim}
use Rattle.step_vars.specs.Items.{at_item, ord_item, use_item, leave_item, swap_item, act_item, done_item, goal_item, so, not_so, denied, nearer, nearer_to}
use Rattle.step_vars.specs.declared.item.Bound.{Bound}
use Rattle.step_vars.specs.declared.channel_test.NumberedChannel.{NumberedChannel}
use Rattle.step_vars.specs.Lists.{ion_count, ions_of, places_of, zones_of, junctions_of, pairs_of, performed, able_zones, able_ops, acts_of, orders_of, ions_of_op, numbered_channels, begins_at, ends_at, touches, numbers_where, channels_where, into_slot, from_slot, is_split_channel, is_merge_channel, starts_at, starts_before}

-- at most so many of these items hold
abbrev pub bound : ℕ → List Item → Bound
bound limit items = record { limit = limit; items = items }

-- the ions but one
abbrev pub others : SettingValue → ℕ → List ℕ
others setting i = filter (λ j. not (j == i)) (ions_of setting)

-- the ions but two
abbrev pub thirds : SettingValue → Cell → List ℕ
thirds setting pair = filter (λ k. not (k == pair.row) && not (k == pair.col)) (ions_of setting)

abbrev pub pairs_in : SettingValue → List Cell
pairs_in setting = pairs_of (ion_count setting)

-- ---- where the schedule begins

-- each ion is where the placement has it, and nowhere else
abbrev pub start_place : SettingValue → ℕ → ℕ → List Claim
start_place setting i p = record { item = at_item i p 0; positive = starts_at setting i p } ∷ []

abbrev pub start_places : SettingValue → List (List Claim)
start_places setting = flat_map (λ i. map (start_place setting i) (places_of setting)) (ions_of setting)

-- ions of one zone are in the placement's order
abbrev pub start_order : SettingValue → Cell → List Claim
start_order setting pair =
    record { item = ord_item pair.row pair.col 0; positive = starts_before setting pair.row pair.col } ∷ []

abbrev pub start_orders : SettingValue → List (List Claim)
start_orders setting = map (start_order setting) (pairs_in setting)

-- nothing is done
abbrev pub start_undone : SettingValue → List (List Claim)
start_undone setting = map (λ g. not_so (done_item g 0) ∷ []) (performed setting.circuit)

-- ---- places

-- an ion is in at most one place
abbrev pub one_place : SettingValue → ℕ → ℕ → Bound
one_place setting t i = bound 1 (map (λ p. at_item i p t) (places_of setting))

abbrev pub one_places : SettingValue → ℕ → List Bound
one_places setting t = map (one_place setting t) (ions_of setting)

-- a place has no more ions than its limit
abbrev pub few_ions : SettingValue → ℕ → ℕ → Bound
few_ions setting t p = bound (limit_of setting.trap p) (map (λ i. at_item i p t) (ions_of setting))

abbrev pub few_ions_each : SettingValue → ℕ → List Bound
few_ions_each setting t = map (few_ions setting t) (places_of setting)

-- ---- ions that pass

-- an ion that passes was where the channel begins
abbrev pub leaves_from_source : SettingValue → ℕ → ℕ → List (List Claim)
leaves_from_source setting r t = flat_map (λ (c : NumberedChannel). map (λ i.
    not_so (leave_item i c.number t) ∷ so (at_item i c.channel.from.0 r) ∷ []) (ions_of setting))
    (numbered_channels setting)

-- and is then where it ends
abbrev pub leaves_to_target : SettingValue → ℕ → ℕ → List (List Claim)
leaves_to_target setting r t = flat_map (λ (c : NumberedChannel). map (λ i.
    not_so (leave_item i c.number t) ∷ so (at_item i c.channel.to.0 t) ∷ []) (ions_of setting))
    (numbered_channels setting)

-- the channel is then used
abbrev pub leaves_use_channel : SettingValue → ℕ → ℕ → List (List Claim)
leaves_use_channel setting r t = flat_map (λ (c : NumberedChannel). map (λ i.
    not_so (leave_item i c.number t) ∷ so (use_item c.number t) ∷ []) (ions_of setting))
    (numbered_channels setting)

-- an ion stays, or passes through a channel from its place
abbrev pub stays_or_leaves : SettingValue → ℕ → ℕ → ℕ → ℕ → List Claim
stays_or_leaves setting r t i p =
    not_so (at_item i p r) ∷ so (at_item i p t)
    ∷ map (λ c. so (leave_item i c t)) (numbers_where (begins_at p) setting)

abbrev pub all_stay_or_leave : SettingValue → ℕ → ℕ → List (List Claim)
all_stay_or_leave setting r t =
    flat_map (λ i. map (stays_or_leaves setting r t i) (places_of setting)) (ions_of setting)

-- an ion was there before, or came through a channel into its place
abbrev pub stayed_or_came : SettingValue → ℕ → ℕ → ℕ → ℕ → List Claim
stayed_or_came setting r t i p =
    not_so (at_item i p t) ∷ so (at_item i p r)
    ∷ map (λ c. so (leave_item i c t)) (numbers_where (ends_at p) setting)

abbrev pub all_stayed_or_came : SettingValue → ℕ → ℕ → List (List Claim)
all_stayed_or_came setting r t =
    flat_map (λ i. map (stayed_or_came setting r t i) (places_of setting)) (ions_of setting)

-- ---- channels in use

-- through a channel in use some ion passes
abbrev pub some_passes : SettingValue → ℕ → NumberedChannel → List Claim
some_passes setting t c =
    not_so (use_item c.number t) ∷ map (λ i. so (leave_item i c.number t)) (ions_of setting)

abbrev pub use_passes_some : SettingValue → ℕ → ℕ → List (List Claim)
use_passes_some setting r t = map (some_passes setting t) (numbered_channels setting)

-- into an empty slot alone
abbrev pub use_needs_empty_slot : SettingValue → ℕ → ℕ → List (List Claim)
use_needs_empty_slot setting r t = flat_map (λ (c : NumberedChannel). map (λ i.
    not_so (use_item c.number t) ∷ not_so (at_item i c.channel.to.0 r) ∷ []) (ions_of setting))
    (channels_where (into_slot setting) setting)

-- out of a slot goes the whole chain
abbrev pub use_empties_slot : SettingValue → ℕ → ℕ → List (List Claim)
use_empties_slot setting r t = flat_map (λ (c : NumberedChannel). map (λ i.
    not_so (use_item c.number t) ∷ not_so (at_item i c.channel.from.0 r) ∷ so (leave_item i c.number t) ∷ [])
    (ions_of setting)) (channels_where (from_slot setting) setting)

-- of a zone, with an ion go all that are nearer to the exit than it
abbrev pub goes_along : ℕ → ℕ → NumberedChannel → ℕ → ℕ → List Claim
goes_along r t c i j =
    not_so (leave_item i c.number t) ∷ not_so (at_item j c.channel.from.0 r)
    ∷ denied (nearer_to c.channel.from_end j i r) ∷ so (leave_item j c.number t) ∷ []

abbrev pub splits_take_the_front : SettingValue → ℕ → ℕ → List (List Claim)
splits_take_the_front setting r t = flat_map (λ (c : NumberedChannel). flat_map (λ i.
    map (goes_along r t c i) (others setting i)) (ions_of setting)) (channels_where is_split_channel setting)

-- ---- one action at a time

-- what happens in step t at place p: ions pass, and in a zone two change places or an operation is performed
abbrev pub activities_in_zone : SettingValue → ℕ → ℕ → List Item
activities_in_zone setting t p = map (λ (pair : Cell). swap_item pair.row pair.col p t) (pairs_in setting)
    ++ map (λ g. act_item g p t) (able_ops setting p)

abbrev pub activities_at : SettingValue → ℕ → ℕ → List Item
activities_at setting t p = map (λ c. use_item c t) (numbers_where (touches p) setting)
    ++ (if is_zone setting.trap p then activities_in_zone setting t p else [])

-- at each place at most one of them
abbrev pub one_activity_each : SettingValue → ℕ → List Bound
one_activity_each setting t = map (λ p. bound 1 (activities_at setting t p)) (places_of setting)

-- through each junction at most one chain
abbrev pub one_crossing_each : SettingValue → ℕ → List Bound
one_crossing_each setting t =
    map (λ junction. bound 1 (map (λ c. use_item c t) (numbers_where (is_through junction) setting)))
    (junctions_of setting)

-- ---- swaps

-- the two ions of a swap are in the zone
abbrev pub swap_in_zone : ℕ → ℕ → ℕ → Cell → List (List Claim)
swap_in_zone r t z pair =
    (not_so (swap_item pair.row pair.col z t) ∷ so (at_item pair.row z r) ∷ [])
    ∷ (not_so (swap_item pair.row pair.col z t) ∷ so (at_item pair.col z r) ∷ [])
    ∷ []

abbrev pub swaps_in_zone : SettingValue → ℕ → ℕ → List (List Claim)
swaps_in_zone setting r t =
    flat_map (λ z. flat_map (swap_in_zone r t z) (pairs_in setting)) (zones_of setting)

-- and no third one is between them
abbrev pub none_between : ℕ → ℕ → ℕ → Cell → ℕ → List (List Claim)
none_between r t z pair k =
    (not_so (swap_item pair.row pair.col z t) ∷ not_so (at_item k z r)
    ∷ denied (nearer pair.row k r) ∷ denied (nearer k pair.col r) ∷ [])
    ∷ (not_so (swap_item pair.row pair.col z t) ∷ not_so (at_item k z r)
    ∷ denied (nearer pair.col k r) ∷ denied (nearer k pair.row r) ∷ [])
    ∷ []

abbrev pub swaps_of_neighbours : SettingValue → ℕ → ℕ → List (List Claim)
swaps_of_neighbours setting r t = flat_map (λ z. flat_map (λ pair.
    flat_map (none_between r t z pair) (thirds setting pair)) (pairs_in setting)) (zones_of setting)

-- a swap turns their order
abbrev pub swap_turns : ℕ → ℕ → ℕ → Cell → List (List Claim)
swap_turns r t z pair =
    (not_so (swap_item pair.row pair.col z t) ∷ not_so (ord_item pair.row pair.col r)
    ∷ not_so (ord_item pair.row pair.col t) ∷ [])
    ∷ (not_so (swap_item pair.row pair.col z t) ∷ so (ord_item pair.row pair.col r)
    ∷ so (ord_item pair.row pair.col t) ∷ [])
    ∷ []

abbrev pub swaps_turn : SettingValue → ℕ → ℕ → List (List Claim)
swaps_turn setting r t = flat_map (λ z. flat_map (swap_turns r t z) (pairs_in setting)) (zones_of setting)

-- ---- the order of ions

-- under these premises the order of two ions stays, or turns
abbrev pub keeps_order : List Claim → ℕ → ℕ → Cell → List (List Claim)
keeps_order premises r t pair =
    (premises ++ not_so (ord_item pair.row pair.col r) ∷ so (ord_item pair.row pair.col t) ∷ [])
    ∷ (premises ++ so (ord_item pair.row pair.col r) ∷ not_so (ord_item pair.row pair.col t) ∷ [])
    ∷ []

abbrev pub turns_order : List Claim → ℕ → ℕ → Cell → List (List Claim)
turns_order premises r t pair =
    (premises ++ not_so (ord_item pair.row pair.col r) ∷ not_so (ord_item pair.row pair.col t) ∷ [])
    ∷ (premises ++ so (ord_item pair.row pair.col r) ∷ so (ord_item pair.row pair.col t) ∷ [])
    ∷ []

-- both ions stay in the place, and no swap changes them
abbrev pub both_stay : SettingValue → ℕ → ℕ → ℕ → Cell → List Claim
both_stay setting r t p pair =
    not_so (at_item pair.row p r) ∷ not_so (at_item pair.col p r)
    ∷ not_so (at_item pair.row p t) ∷ not_so (at_item pair.col p t)
    ∷ (if is_zone setting.trap p then so (swap_item pair.row pair.col p t) ∷ [] else [])

-- ions that stay keep their order
abbrev pub stayers_keep_order : SettingValue → ℕ → ℕ → List (List Claim)
stayers_keep_order setting r t = flat_map (λ p. flat_map (λ pair.
    keeps_order (both_stay setting r t p pair) r t pair) (pairs_in setting)) (places_of setting)

abbrev pub both_leave : ℕ → NumberedChannel → Cell → List Claim
both_leave t c pair = not_so (leave_item pair.row c.number t) ∷ not_so (leave_item pair.col c.number t) ∷ []

-- ions that pass together are not reflected: their order from end a turns where both ends of the channel have
-- the same letter, and else stays
abbrev pub pair_passes : ℕ → ℕ → NumberedChannel → Cell → List (List Claim)
pair_passes r t c pair =
    if same_end c.channel.from_end c.channel.to_end
    then turns_order (both_leave t c pair) r t pair
    else keeps_order (both_leave t c pair) r t pair

abbrev pub chains_keep_order : SettingValue → ℕ → ℕ → List (List Claim)
chains_keep_order setting r t =
    flat_map (λ c. flat_map (pair_passes r t c) (pairs_in setting)) (numbered_channels setting)

-- an ion that merges is nearer to the end by which it came than those that were there
abbrev pub merges_outside : ℕ → ℕ → NumberedChannel → ℕ → ℕ → List Claim
merges_outside r t c j i =
    not_so (leave_item j c.number t) ∷ not_so (at_item i c.channel.to.0 r)
    ∷ nearer_to c.channel.to_end j i t ∷ []

abbrev pub merges_at_the_end : SettingValue → ℕ → ℕ → List (List Claim)
merges_at_the_end setting r t = flat_map (λ (c : NumberedChannel). flat_map (λ j.
    map (merges_outside r t c j) (others setting j)) (ions_of setting))
    (channels_where is_merge_channel setting)

-- ---- operations

-- the ions of an operation that is performed are in the zone
abbrev pub ions_in_zone : SettingValue → ℕ → ℕ → List (List Claim)
ions_in_zone setting r t = flat_map (λ g. flat_map (λ z. map (λ i.
    not_so (act_item g z t) ∷ so (at_item i z r) ∷ []) (ions_of_op setting g))
    (able_zones setting g)) (performed setting.circuit)

-- it was not done before, and is then
abbrev pub act_does : ℕ → ℕ → Cell → List (List Claim)
act_does r t act =
    (not_so (act_item act.row act.col t) ∷ not_so (done_item act.row r) ∷ [])
    ∷ (not_so (act_item act.row act.col t) ∷ so (done_item act.row t) ∷ [])
    ∷ []

abbrev pub acts_do : SettingValue → ℕ → ℕ → List (List Claim)
acts_do setting r t = flat_map (act_does r t) (acts_of setting)

-- what is done stays done, and is done by being performed
abbrev pub done_by_acts : SettingValue → ℕ → ℕ → ℕ → List (List Claim)
done_by_acts setting r t g =
    (not_so (done_item g r) ∷ so (done_item g t) ∷ [])
    ∷ (not_so (done_item g t) ∷ so (done_item g r) ∷ map (λ z. so (act_item g z t)) (able_zones setting g))
    ∷ []

abbrev pub all_done_by_acts : SettingValue → ℕ → ℕ → List (List Claim)
all_done_by_acts setting r t = flat_map (done_by_acts setting r t) (performed setting.circuit)

-- what has to come before it was done before
abbrev pub done_in_order : SettingValue → ℕ → ℕ → List (List Claim)
done_in_order setting r t =
    map (λ (order : Cell). not_so (done_item order.row t) ∷ so (done_item order.col r) ∷ [])
    (orders_of setting.circuit)

-- the goal is that all operations are done
abbrev pub goal_needs_all : SettingValue → ℕ → List (List Claim)
goal_needs_all setting t =
    map (λ g. not_so (goal_item t) ∷ so (done_item g t) ∷ []) (performed setting.circuit)
