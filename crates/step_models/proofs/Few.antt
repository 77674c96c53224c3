-- A setting within the limits of exact mode has few clauses.
use Rattle.std.proofs.Common.{◌≡◌, ℕ, zero, suc, ◌+◌, ◌-◌, ◌*◌, ◌^◌, ◌<◌, ◌≤◌, Bool, List, [], ◌∷◌, ◌++◌, length, map, refl, ap, arith, length-append}
use Rattle.std.specs.Prelude.{not, ◌&&◌, ◌==◌}
use Rattle.std.specs.List.{AllByRecursion, flat_map}
use Rattle.std.proofs.lemmas.Bool.{cond_both}
use Rattle.std.proofs.lemmas.List.{length-map}
use Rattle.std.proofs.Math.Nat.{mul-le-mul_right}
use Rattle.circuit_core.specs.Deciding.{is_forced}
use Rattle.trap_parts.specs.Joins.{same_end}
use Rattle.trap_model.specs.Trap.{place_count}
use Rattle.trap_model.specs.declared.channel.Channel.{Channel}
use Rattle.trap_model.specs.Channels.{channels_of, is_through}
use Rattle.trap_parts.specs.Build.{IsTrap}
use Rattle.trap_model.proofs.Count.{few_channels}
use Rattle.step_rules.specs.Setting.{SettingValue}
use Rattle.step_rules.specs.Guards.{is_able_for}
use Rattle.step_vars.specs.declared.cells.Cell.{Cell}
use Rattle.step_vars.specs.declared.channel_test.NumberedChannel.{NumberedChannel}
use Rattle.step_vars.specs.declared.encoding.Encoding.{Encoding}
use Rattle.step_vars.specs.declared.item.Bound.{Bound}
use Rattle.step_vars.specs.declared.item.Item.{Item}
use Rattle.step_vars.specs.declared.item.Claim.{Claim}
use Rattle.step_vars.specs.Items.{at_item, use_item, leave_item, act_item, done_item, goal_item, so, not_so}
use Rattle.step_vars.specs.Numbering.{Numbering, literal_of, first_helper}
use Rattle.step_vars.specs.Lists.{cell, ion_count, ions_of, places_of, zones_of, junctions_of, performed, able_zones, acts_of, forced_before, orders_of, is_ion_of, ions_of_op, numbered_from, numbered_channels, channels_where, numbers_where, into_slot, from_slot, is_split_channel, is_merge_channel}
use Rattle.step_vars.specs.Families.{bound, others, thirds, pairs_in, start_place, start_places, start_order, start_orders, start_undone, one_place, one_places, few_ions, few_ions_each, leaves_from_source, leaves_to_target, leaves_use_channel, stays_or_leaves, all_stay_or_leave, stayed_or_came, all_stayed_or_came, some_passes, use_passes_some, use_needs_empty_slot, use_empties_slot, goes_along, splits_take_the_front, activities_at, one_activity_each, one_crossing_each, swap_in_zone, swaps_in_zone, none_between, swaps_of_neighbours, swap_turns, swaps_turn, both_stay, both_leave, keeps_order, turns_order, pair_passes, stayers_keep_order, chains_keep_order, merges_outside, merges_at_the_end, ions_in_zone, act_does, acts_do, done_by_acts, all_done_by_acts, done_in_order, goal_needs_all}
use Rattle.step_vars.specs.Limits.{limited, fresh_for}
use Rattle.step_vars.specs.Encoding.{IsSmall, place_bounds, passing_clauses, activity_bounds, order_clauses, operation_clauses, start_clauses, helper_count, numbering_of, clause_of, clauses_of, literals_of, bounds_of, step_part, layer_of, goal_of, part_of, encoding_of}
use Rattle.step_vars.proofs.Limited.{places_counted, ions_counted, crossing_counted}
use Rattle.clause_families.proofs.Every.{all_append}
use Rattle.step_models.proofs.Room.{filter_few, flat_map_few, range_long, few_pairs, few_performed, few_acts, few_activities}
use Rattle.step_models.proofs.FewLimited.{few_limited, few_of_one}

-- ---- lists

both_few : {X : Type 0} {a b : ℕ} (xs ys : List X) → length xs ≤ a → length ys ≤ b → length (xs ++ ys) ≤ a + b
both_few xs ys left right = omega (arith, length-append xs ys, left, right)

map_few : {X Y : Type 0} {n : ℕ} (f : X → Y) (xs : List X) → length xs ≤ n → length (map f xs) ≤ n
map_few f xs few = omega (arith, length-map xs f, few)

rows_few : {X Y : Type 0} (f : X → List Y) (n m : ℕ) (xs : List X) → length xs ≤ n
    → ((x : X) → length (f x) ≤ m)
    → length (flat_map f xs) ≤ n * m
rows_few f n m xs few each = omega (arith, flat_map_few f m xs each, mul-le-mul_right m few)

numbered_long : (k : ℕ) (channels : List Channel) → length (numbered_from k channels) ≡ length channels
numbered_long k [] = refl
numbered_long k (channel ∷ channels) = ap suc (numbered_long (k + 1) channels)

-- how many of each kind the families' loops run over
record AreFew (setting : SettingValue) : Type 0 where
  pub ions : length (ions_of setting) ≤ 16
  pub places : length (places_of setting) ≤ 48
  pub zones : length (zones_of setting) ≤ 32
  pub channels : length (numbered_channels setting) ≤ 2048
  pub pairs : length (pairs_in setting) ≤ 256
  pub ops : length (performed setting.circuit) ≤ 200
  pub acts : length (acts_of setting) ≤ 6400
  pub orders : length (orders_of setting.circuit) ≤ 40000

few_orders : (setting : SettingValue) → length (performed setting.circuit) ≤ 200
    → length (orders_of setting.circuit) ≤ 200 * 200
few_orders setting few =
    let circuit = setting.circuit in
    rows_few (λ g. map (cell g) (forced_before circuit g)) 200 200 (performed circuit) few
    (λ g. map_few (cell g) (forced_before circuit g)
    (omega (arith, few, filter_few (λ h. is_forced circuit h g) (performed circuit))))

are_few : (setting : SettingValue) (steps : ℕ) → IsTrap setting.trap → IsSmall setting steps → AreFew setting
are_few setting steps trap small =
    let ops : length (performed setting.circuit) ≤ 200 = omega (arith, few_performed setting, small.ops) in
    record {
      ions = omega (arith, range_long 0 (ion_count setting), small.ions);
      places = omega (arith, range_long 0 (place_count setting.trap), small.places);
      zones = omega (arith, range_long 0 (length setting.trap.zones), trap.zones);
      channels = omega (
        arith,
        numbered_long 0 (channels_of setting.trap),
        few_channels setting.trap trap,
      );
      pairs = omega (arith, few_pairs (ion_count setting) small.ions);
      ops = ops;
      acts = omega (arith, few_acts setting small.ops trap.zones);
      orders = omega (arith, few_orders setting ops);
    }

others_few : (setting : SettingValue) (i : ℕ) → AreFew setting → length (others setting i) ≤ 16
others_few setting i few = omega (arith, filter_few (λ j. not (j == i)) (ions_of setting), few.ions)

thirds_few : (setting : SettingValue) (pair : Cell) → AreFew setting → length (thirds setting pair) ≤ 16
thirds_few setting pair few =
    omega (
      arith,
      filter_few (λ k. not (k == pair.row) && not (k == pair.col)) (ions_of setting),
      few.ions,
    )

channels_few : (setting : SettingValue) (test : Channel → Bool) → AreFew setting
    → length (channels_where test setting) ≤ 2048
channels_few setting test few =
    omega (
      arith,
      filter_few (λ (c : NumberedChannel). test c.channel) (numbered_channels setting),
      few.channels,
    )

-- ---- loops

-- a clause for each ion and each place
by_ion_and_place : (setting : SettingValue) (f : ℕ → ℕ → List Claim) → AreFew setting
    → length (flat_map (λ i. map (f i) (places_of setting)) (ions_of setting)) ≤ 16 * 48
by_ion_and_place setting f few =
    rows_few (λ i. map (f i) (places_of setting)) 16 48 (ions_of setting) few.ions
    (λ i. map_few (f i) (places_of setting) few.places)

-- for each of the channels and each ion
by_channel_and_ion : (setting : SettingValue) (f : NumberedChannel → ℕ → List Claim)
    (channels : List NumberedChannel) → AreFew setting → length channels ≤ 2048
    → length (flat_map (λ (c : NumberedChannel). map (f c) (ions_of setting)) channels) ≤ 2048 * 16
by_channel_and_ion setting f channels few some =
    rows_few (λ (c : NumberedChannel). map (f c) (ions_of setting)) 2048 16 channels some
    (λ c. map_few (f c) (ions_of setting) few.ions)

-- for each of the channels and each two ions
by_channel_and_ions : (setting : SettingValue) (f : NumberedChannel → ℕ → ℕ → List Claim)
    (channels : List NumberedChannel) → AreFew setting → length channels ≤ 2048
    → length (flat_map (λ (c : NumberedChannel). flat_map (λ i. map (f c i) (others setting i)) (ions_of setting))
    channels) ≤ 2048 * (16 * 16)
by_channel_and_ions setting f channels few some =
    rows_few (λ (c : NumberedChannel). flat_map (λ i. map (f c i) (others setting i)) (ions_of setting)) 2048
    (16 * 16) channels some
    (λ c. rows_few (λ i. map (f c i) (others setting i)) 16 16 (ions_of setting) few.ions
    (λ i. map_few (f c i) (others setting i) (others_few setting i few)))

-- so many clauses for each pair
by_pair : (setting : SettingValue) (f : Cell → List (List Claim)) (m : ℕ) → AreFew setting
    → ((pair : Cell) → length (f pair) ≤ m)
    → length (flat_map f (pairs_in setting)) ≤ 256 * m
by_pair setting f m few each = rows_few f 256 m (pairs_in setting) few.pairs each

-- for each zone and each pair
by_zone_and_pair : (setting : SettingValue) (f : ℕ → Cell → List (List Claim)) (m : ℕ) → AreFew setting
    → ((z : ℕ) (pair : Cell) → length (f z pair) ≤ m)
    → length (flat_map (λ z. flat_map (f z) (pairs_in setting)) (zones_of setting)) ≤ 32 * (256 * m)
by_zone_and_pair setting f m few each =
    rows_few (λ z. flat_map (f z) (pairs_in setting)) 32 (256 * m) (zones_of setting) few.zones
    (λ z. by_pair setting (f z) m few (each z))

-- ---- the start and the goal

abbrev undone : ℕ → List Claim
undone g = not_so (done_item g 0) ∷ []

start_few : (setting : SettingValue) → AreFew setting → length (start_clauses setting) ≤ 2 ^ 11
start_few setting few =
    let places : length (start_places setting) ≤ 16 * 48 = by_ion_and_place setting (start_place setting) few in
    let orders : length (start_orders setting) ≤ 256 =
    map_few (start_order setting) (pairs_in setting) few.pairs in
    let none : length (start_undone setting) ≤ 200 = map_few undone (performed setting.circuit) few.ops in
    let front = both_few (start_places setting) (start_orders setting) places orders in
    let all = both_few (start_places setting ++ start_orders setting) (start_undone setting) front none in
    omega (arith, all)

abbrev needs : ℕ → ℕ → List Claim
needs t g = not_so (goal_item t) ∷ so (done_item g t) ∷ []

goal_few : (setting : SettingValue) (t : ℕ) → AreFew setting → length (goal_needs_all setting t) ≤ 200
goal_few setting t few = map_few (needs t) (performed setting.circuit) few.ops

-- ---- ions that pass

abbrev was_there : ℕ → ℕ → NumberedChannel → ℕ → List Claim
was_there r t c i = not_so (leave_item i c.number t) ∷ so (at_item i c.channel.from.0 r) ∷ []

abbrev is_there_then : ℕ → NumberedChannel → ℕ → List Claim
is_there_then t c i = not_so (leave_item i c.number t) ∷ so (at_item i c.channel.to.0 t) ∷ []

abbrev uses_it : ℕ → NumberedChannel → ℕ → List Claim
uses_it t c i = not_so (leave_item i c.number t) ∷ so (use_item c.number t) ∷ []

abbrev finds_none : ℕ → ℕ → NumberedChannel → ℕ → List Claim
finds_none r t c i = not_so (use_item c.number t) ∷ not_so (at_item i c.channel.to.0 r) ∷ []

abbrev takes_all : ℕ → ℕ → NumberedChannel → ℕ → List Claim
takes_all r t c i =
    not_so (use_item c.number t) ∷ not_so (at_item i c.channel.from.0 r) ∷ so (leave_item i c.number t) ∷ []

-- what an ion that passes implies, and where ions are then
abbrev first_passing : SettingValue → ℕ → ℕ → List (List Claim)
first_passing setting r t =
    leaves_from_source setting r t ++ leaves_to_target setting r t ++ leaves_use_channel setting r t
    ++ all_stay_or_leave setting r t ++ all_stayed_or_came setting r t

first_passing_few : (setting : SettingValue) (r t : ℕ) → AreFew setting
    → length (first_passing setting r t) ≤ 3 * (2048 * 16) + 2 * (16 * 48)
first_passing_few setting r t few =
    let a = leaves_from_source setting r t in
    let b = leaves_to_target setting r t in
    let c = leaves_use_channel setting r t in
    let d = all_stay_or_leave setting r t in
    let e = all_stayed_or_came setting r t in
    let channels = numbered_channels setting in
    let source : length a ≤ 2048 * 16 = by_channel_and_ion setting (was_there r t) channels few few.channels in
    let target : length b ≤ 2048 * 16 = by_channel_and_ion setting (is_there_then t) channels few few.channels in
    let uses : length c ≤ 2048 * 16 = by_channel_and_ion setting (uses_it t) channels few few.channels in
    let stay : length d ≤ 16 * 48 = by_ion_and_place setting (stays_or_leaves setting r t) few in
    let came : length e ≤ 16 * 48 = by_ion_and_place setting (stayed_or_came setting r t) few in
    omega (
      arith,
      length-append (a ++ b ++ c ++ d) e,
      length-append (a ++ b ++ c) d,
      length-append (a ++ b) c,
      length-append a b,
      source,
      target,
      uses,
      stay,
      came,
    )

passing_few : (setting : SettingValue) (r t : ℕ) → AreFew setting
    → length (passing_clauses setting r t) ≤ 2 ^ 20
passing_few setting r t few =
    let a = first_passing setting r t in
    let b = use_passes_some setting r t in
    let c = use_needs_empty_slot setting r t in
    let d = use_empties_slot setting r t in
    let e = splits_take_the_front setting r t in
    let into = channels_where (into_slot setting) setting in
    let out = channels_where (from_slot setting) setting in
    let splitting = channels_where is_split_channel setting in
    let some : length b ≤ 2048 = map_few (some_passes setting t) (numbered_channels setting) few.channels in
    let empty : length c ≤ 2048 * 16 =
    by_channel_and_ion setting (finds_none r t) into few (channels_few setting (into_slot setting) few) in
    let whole : length d ≤ 2048 * 16 =
    by_channel_and_ion setting (takes_all r t) out few (channels_few setting (from_slot setting) few) in
    let front : length e ≤ 2048 * (16 * 16) =
    by_channel_and_ions setting (goes_along r t) splitting few (channels_few setting is_split_channel few) in
    omega (
      arith,
      length-append (a ++ b ++ c ++ d) e,
      length-append (a ++ b ++ c) d,
      length-append (a ++ b) c,
      length-append a b,
      first_passing_few setting r t few,
      some,
      empty,
      whole,
      front,
    )

-- ---- the order of ions

-- for each zone and each pair, two clauses for each other ion
abbrev third_ions : SettingValue → ℕ → ℕ → ℕ → Cell → List (List Claim)
third_ions setting r t z pair = flat_map (none_between r t z pair) (thirds setting pair)

abbrev swapping : SettingValue → ℕ → ℕ → List (List Claim)
swapping setting r t = swaps_in_zone setting r t ++ swaps_of_neighbours setting r t ++ swaps_turn setting r t

swapping_few : (setting : SettingValue) (r t : ℕ) → AreFew setting → length (swapping setting r t) ≤ 2 ^ 19
swapping_few setting r t few =
    let a = swaps_in_zone setting r t in
    let b = swaps_of_neighbours setting r t in
    let c = swaps_turn setting r t in
    let inside : length a ≤ 32 * (256 * 2) =
    by_zone_and_pair setting (swap_in_zone r t) 2 few (λ z pair. omega arith) in
    let between : length b ≤ 32 * (256 * (16 * 2)) =
    by_zone_and_pair setting (third_ions setting r t) (16 * 2) few
    (λ z pair. rows_few (none_between r t z pair) 16 2 (thirds setting pair) (thirds_few setting pair few)
    (λ k. omega arith)) in
    let turn : length c ≤ 32 * (256 * 2) =
    by_zone_and_pair setting (swap_turns r t) 2 few (λ z pair. omega arith) in
    omega (arith, length-append (a ++ b) c, length-append a b, inside, between, turn)

two_a_pair : (r t : ℕ) (c : NumberedChannel) (pair : Cell) → length (pair_passes r t c pair) ≤ 2
two_a_pair r t c pair =
    cond_both (same_end c.channel.from_end c.channel.to_end) (turns_order (both_leave t c pair) r t pair)
    (keeps_order (both_leave t c pair) r t pair) (λ clauses. length clauses ≤ 2)
    (λ _. omega arith) (λ _. omega arith)

abbrev stayers : SettingValue → ℕ → ℕ → ℕ → Cell → List (List Claim)
stayers setting r t p pair = keeps_order (both_stay setting r t p pair) r t pair

orders_few : (setting : SettingValue) (r t : ℕ) → AreFew setting
    → length (order_clauses setting r t) ≤ 2 ^ 22
orders_few setting r t few =
    let a = swapping setting r t in
    let b = stayers_keep_order setting r t in
    let c = chains_keep_order setting r t in
    let d = merges_at_the_end setting r t in
    let merging = channels_where is_merge_channel setting in
    let stay : length b ≤ 48 * (256 * 2) =
    rows_few (λ p. flat_map (stayers setting r t p) (pairs_in setting)) 48 (256 * 2) (places_of setting) few.places
    (λ p. by_pair setting (stayers setting r t p) 2 few (λ pair. omega arith)) in
    let chains : length c ≤ 2048 * (256 * 2) =
    rows_few (λ (c : NumberedChannel). flat_map (pair_passes r t c) (pairs_in setting)) 2048 (256 * 2)
    (numbered_channels setting) few.channels
    (λ c. by_pair setting (pair_passes r t c) 2 few (two_a_pair r t c)) in
    let merge : length d ≤ 2048 * (16 * 16) =
    by_channel_and_ions setting (merges_outside r t) merging few (channels_few setting is_merge_channel few) in
    omega (
      arith,
      length-append (a ++ b ++ c) d,
      length-append (a ++ b) c,
      length-append a b,
      swapping_few setting r t few,
      stay,
      chains,
      merge,
    )

-- ---- operations

abbrev ion_there : ℕ → ℕ → ℕ → ℕ → ℕ → List Claim
ion_there r t g z i = not_so (act_item g z t) ∷ so (at_item i z r) ∷ []

abbrev in_zone : SettingValue → ℕ → ℕ → ℕ → ℕ → List (List Claim)
in_zone setting r t g z = map (ion_there r t g z) (ions_of_op setting g)

abbrev earlier : ℕ → ℕ → Cell → List Claim
earlier r t order = not_so (done_item order.row t) ∷ so (done_item order.col r) ∷ []

operations_few : (setting : SettingValue) (r t : ℕ) → AreFew setting
    → length (operation_clauses setting r t) ≤ 2 ^ 18
operations_few setting r t few =
    let a = ions_in_zone setting r t in
    let b = acts_do setting r t in
    let c = all_done_by_acts setting r t in
    let d = done_in_order setting r t in
    let inside : length a ≤ 200 * (32 * 16) =
    rows_few (λ g. flat_map (in_zone setting r t g) (able_zones setting g)) 200 (32 * 16)
    (performed setting.circuit) few.ops
    (λ g. rows_few (in_zone setting r t g) 32 16 (able_zones setting g)
    (omega (arith, filter_few (λ z. is_able_for setting z g) (zones_of setting), few.zones))
    (λ z. map_few (ion_there r t g z) (ions_of_op setting g)
    (omega (arith, filter_few (is_ion_of setting g) (ions_of setting), few.ions)))) in
    let acts : length b ≤ 6400 * 2 =
    rows_few (act_does r t) 6400 2 (acts_of setting) few.acts (λ act. omega arith) in
    let done : length c ≤ 200 * 2 =
    rows_few (done_by_acts setting r t) 200 2 (performed setting.circuit) few.ops (λ g. omega arith) in
    let order : length d ≤ 40000 = map_few (earlier r t) (orders_of setting.circuit) few.orders in
    omega (
      arith,
      length-append (a ++ b ++ c) d,
      length-append (a ++ b) c,
      length-append a b,
      inside,
      acts,
      done,
      order,
    )

-- ---- lists of which at most so many items may hold

-- a list has few clauses, wherever its helpers begin
abbrev HasFew : Numbering → Encoding → Bound → Type 0
HasFew n encoding it = (next : ℕ) → length (limited encoding (literals_of n it.items) it.limit next) ≤ 2 ^ 23

bounds_few : (n : Numbering) (encoding : Encoding) (next : ℕ) (bounds : List Bound)
    → AllByRecursion (HasFew n encoding) bounds
    → length (bounds_of n encoding next bounds) ≤ length bounds * 2 ^ 23
bounds_few n encoding next [] all = omega arith
bounds_few n encoding next (it ∷ bounds) all =
    let later = next + fresh_for encoding (length it.items) it.limit in
    omega (
      arith,
      length-append (limited encoding (literals_of n it.items) it.limit next)
          (bounds_of n encoding later bounds),
      all.0 next,
      bounds_few n encoding later bounds all.1,
    )

all_mapped : {X Y : Type 0} (P : Y → Type 0) (f : X → Y) (xs : List X) → ((x : X) → P (f x))
    → AllByRecursion P (map f xs)
all_mapped P f [] each = tt
all_mapped P f (x ∷ xs) each = (each x, all_mapped P f xs each)

literals_long : (n : Numbering) (items : List Item) → length (literals_of n items) ≡ length items
literals_long n items = length-map items (λ item. literal_of n (so item))

place_lists_few : (n : Numbering) (setting : SettingValue) (encoding : Encoding) (steps t next : ℕ)
    → IsSmall setting steps
    → length (bounds_of n encoding next (place_bounds setting t)) ≤ 64 * 2 ^ 23
place_lists_few n setting encoding steps t next small =
    let P : Bound → Type 0 = HasFew n encoding in
    let places : AllByRecursion P (one_places setting t) = all_mapped P (one_place setting t) (ions_of setting)
    (λ i next. let items = (one_place setting t i).items in
    let few : length (literals_of n items) ≤ 48 =
    omega (arith, literals_long n items, places_counted setting t i, small.places) in
    omega (arith, few_of_one encoding (literals_of n items) next 48 few)) in
    let ions : AllByRecursion P (few_ions_each setting t) = all_mapped P (few_ions setting t) (places_of setting)
    (λ p next. let items = (few_ions setting t p).items in
    let few : length (literals_of n items) ≤ 16 =
    omega (arith, literals_long n items, ions_counted setting t p, small.ions) in
    omega (arith, few_limited encoding (literals_of n items) (few_ions setting t p).limit next few)) in
    let all = bounds_few n encoding next (place_bounds setting t)
    (all_append P (one_places setting t) (few_ions_each setting t) places ions) in
    omega (
      arith,
      all,
      length-append (one_places setting t) (few_ions_each setting t),
      length-map (ions_of setting) (one_place setting t),
      length-map (places_of setting) (few_ions setting t),
      range_long 0 (ion_count setting),
      range_long 0 (place_count setting.trap),
      small.ions,
      small.places,
    )

abbrev crossing : SettingValue → ℕ → ℕ → Bound
crossing setting t junction = bound 1 (map (λ c. use_item c t) (numbers_where (is_through junction) setting))

activity_lists_few : (n : Numbering) (setting : SettingValue) (encoding : Encoding) (steps t next : ℕ)
    → IsTrap setting.trap → IsSmall setting steps
    → length (bounds_of n encoding next (activity_bounds setting t)) ≤ 80 * 2 ^ 23
activity_lists_few n setting encoding steps t next trap small =
    let P : Bound → Type 0 = HasFew n encoding in
    let busy : ℕ → Bound = λ p. bound 1 (activities_at setting t p) in
    let places : AllByRecursion P (one_activity_each setting t) = all_mapped P busy (places_of setting)
    (λ p next. let items = activities_at setting t p in
    let few : length (literals_of n items) ≤ 2504 =
    omega (arith, literals_long n items, few_activities setting t p trap small.ions small.ops) in
    omega (arith, few_of_one encoding (literals_of n items) next 2504 few)) in
    let junctions : AllByRecursion P (one_crossing_each setting t) =
    all_mapped P (crossing setting t) (junctions_of setting)
    (λ j next. let items = (crossing setting t j).items in
    let few : length (literals_of n items) ≤ 2048 =
    omega (
      arith,
      literals_long n items,
      crossing_counted setting t j,
      filter_few (is_through j) (channels_of setting.trap),
      few_channels setting.trap trap,
    ) in
    omega (arith, few_of_one encoding (literals_of n items) next 2048 few)) in
    let all = bounds_few n encoding next (activity_bounds setting t)
    (all_append P (one_activity_each setting t) (one_crossing_each setting t) places junctions) in
    omega (
      arith,
      all,
      length-append (one_activity_each setting t) (one_crossing_each setting t),
      length-map (places_of setting) busy,
      length-map (junctions_of setting) (crossing setting t),
      range_long 0 (place_count setting.trap),
      range_long 0 (length setting.trap.junctions),
      small.places,
      trap.junctions,
    )

-- ---- parts

step_few : (n : Numbering) (setting : SettingValue) (encoding : Encoding) (steps r t : ℕ)
    → IsTrap setting.trap → IsSmall setting steps
    → length (step_part n setting encoding r t) ≤ 2 ^ 31 - 2 ^ 11
step_few n setting encoding steps r t trap small =
    let few = are_few setting steps trap small in
    let second = first_helper n t + helper_count encoding (place_bounds setting t) in
    let passing : length (clauses_of n (passing_clauses setting r t)) ≤ 2 ^ 20 =
    map_few (clause_of n) (passing_clauses setting r t) (passing_few setting r t few) in
    let orders : length (clauses_of n (order_clauses setting r t)) ≤ 2 ^ 22 =
    map_few (clause_of n) (order_clauses setting r t) (orders_few setting r t few) in
    let operations : length (clauses_of n (operation_clauses setting r t)) ≤ 2 ^ 18 =
    map_few (clause_of n) (operation_clauses setting r t) (operations_few setting r t few) in
    let places = place_lists_few n setting encoding steps t (first_helper n t) small in
    let activities = activity_lists_few n setting encoding steps t second trap small in
    let a = bounds_of n encoding (first_helper n t) (place_bounds setting t) in
    let b = clauses_of n (passing_clauses setting r t) in
    let c = bounds_of n encoding second (activity_bounds setting t) in
    let d = clauses_of n (order_clauses setting r t) in
    let e = clauses_of n (operation_clauses setting r t) in
    omega (
      arith,
      length-append (a ++ b ++ c ++ d) e,
      length-append (a ++ b ++ c) d,
      length-append (a ++ b) c,
      length-append a b,
      places,
      passing,
      activities,
      orders,
      operations,
    )

layer_few : (setting : SettingValue) (encoding : Encoding) (steps t : ℕ) → IsTrap setting.trap
    → IsSmall setting steps
    → length (layer_of setting encoding t) ≤ 2 ^ 31 - 2 ^ 11
unfolding layer_of
layer_few setting encoding steps zero trap small =
    let few = are_few setting steps trap small in
    omega (
      arith,
      map_few (clause_of (numbering_of setting encoding)) (start_clauses setting) (start_few setting few),
    )
layer_few setting encoding steps (suc r) trap small =
    step_few (numbering_of setting encoding) setting encoding steps r (suc r) trap small

part_few : (setting : SettingValue) (encoding : Encoding) (steps t : ℕ) → IsTrap setting.trap
    → IsSmall setting steps
    → length (part_of setting encoding t) ≤ 2 ^ 31
unfolding goal_of
part_few setting encoding steps t trap small =
    let goal = map_few (clause_of (numbering_of setting encoding)) (goal_needs_all setting t)
    (goal_few setting t (are_few setting steps trap small)) in
    omega (
      arith,
      length-append (layer_of setting encoding t) (goal_of setting encoding t),
      layer_few setting encoding steps t trap small,
      goal,
    )

parts_few : (setting : SettingValue) (encoding : Encoding) (steps t : ℕ) → IsTrap setting.trap
    → IsSmall setting steps
    → length (encoding_of setting encoding t) ≤ suc t * 2 ^ 31
parts_few setting encoding steps zero trap small = omega (arith, part_few setting encoding steps zero trap small)
parts_few setting encoding steps (suc r) trap small =
    omega (
      arith,
      length-append (encoding_of setting encoding r) (part_of setting encoding (suc r)),
      parts_few setting encoding steps r trap small,
      part_few setting encoding steps (suc r) trap small,
    )

pub clauses_fit : (setting : SettingValue) (encoding : Encoding) (t : ℕ) → IsTrap setting.trap
    → IsSmall setting t
    → length (encoding_of setting encoding t) < 2 ^ 62
clauses_fit setting encoding t trap small = omega (arith, parts_few setting encoding t t trap small, small.time)
