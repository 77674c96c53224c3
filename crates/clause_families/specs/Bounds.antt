-- The lists of which at most so many may hold, each as a function of what it runs over.
use Rattle.std.specs.Prelude.{ℕ, nat_lt, if◌then◌else◌, List, [], ◌++◌, length, map, filter}
use Rattle.step_rules.specs.Setting.{SettingValue}
use Rattle.step_rules.specs.Guards.{is_able_for}
use Rattle.step_vars.specs.declared.cells.Cell.{Cell}
use Rattle.step_vars.specs.declared.channel_test.NumberedChannel.{NumberedChannel}
use Rattle.step_vars.specs.declared.channel_test.ChannelTest.TheVariants.{Through, Touching}
use Rattle.step_vars.specs.declared.item.Item.{Item}
use Rattle.step_vars.specs.declared.item.Bound.{Bound}
use Rattle.step_vars.specs.Items.{at_item, use_item, swap_item, act_item}
use Rattle.step_vars.specs.Families.{bound}
use Rattle.clause_families.specs.declared.tables.Tables.{Tables}
use Rattle.clause_families.specs.Clauses.{numbers_passing}

-- an ion is in at most one place
abbrev pub one_place_of : ℕ → List ℕ → ℕ → Bound
one_place_of t places i = bound 1 (map (λ p. at_item i p t) places)

-- the items of a channel, a pair and an operation
abbrev pub used : ℕ → ℕ → Item
used t c = use_item c t

abbrev pub swapped : ℕ → ℕ → Cell → Item
swapped t z pair = swap_item pair.row pair.col z t

abbrev pub acted : ℕ → ℕ → ℕ → Item
acted t z g = act_item g z t

-- in a zone, two ions change places or an operation is performed
abbrev pub zone_items : SettingValue → ℕ → ℕ → List Cell → List ℕ → List Item
zone_items setting t p pairs ops =
    if nat_lt p (length setting.trap.zones)
    then map (swapped t p) pairs ++ map (acted t p) (filter (is_able_for setting p) ops) else []

-- what may happen at a place
abbrev pub place_items : SettingValue → ℕ → ℕ → List NumberedChannel → List Cell → List ℕ → List Item
place_items setting t p channels pairs ops =
    map (used t) (numbers_passing (Touching (record { 0 = p })) channels) ++ zone_items setting t p pairs ops

-- at most one thing happens at a place
unfoldable pub one_activity : SettingValue → ℕ → List NumberedChannel → List Cell → List ℕ → ℕ → Bound
one_activity setting t channels pairs ops p = bound 1 (place_items setting t p channels pairs ops)

-- the same over the lists of tables
abbrev pub one_activity_of : SettingValue → Tables → ℕ → ℕ → Bound
one_activity_of setting tables t p =
    one_activity setting t tables.channels.items tables.pairs.now tables.ops.items p

-- at most one chain passes through a junction
unfoldable pub crossed : ℕ → List NumberedChannel → ℕ → Bound
crossed t channels junction =
    bound 1 (map (used t) (numbers_passing (Through (record { 0 = junction })) channels))

-- ---- working notions of private functions

-- which ions may be in a place
abbrev pub ions_at : ℕ → List ℕ → ℕ → List Item
ions_at t ions p = map (λ i. at_item i p t) ions

-- what may happen in a zone, over the lists of tables
abbrev pub zone_items_of : SettingValue → Tables → ℕ → ℕ → List Item
zone_items_of setting tables t p = zone_items setting t p tables.pairs.now tables.ops.items
