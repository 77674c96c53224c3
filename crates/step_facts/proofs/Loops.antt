-- What the loops of the families run over: all clauses hold exactly where each one does.
use Rattle.std.proofs.Common.{◌≡◌, ◌≢◌, ℕ, ◌<◌, Bool, true, not, ◌&&◌, List, length, map}
use Rattle.std.specs.Prelude.{Contains, IsTrue, ◌==◌, ◌↔◌}
use Rattle.std.specs.List.{flat_map}
use Rattle.std.proofs.lemmas.Bool.{and_from, and_parts, eqb-false, ne_eqb, not-true, not_from_false}
use Rattle.circuit_core.specs.Circuit.{CircuitValue}
use Rattle.circuit_core.specs.Deciding.{is_forced}
use Rattle.trap_model.specs.Trap.{place_count}
use Rattle.trap_model.specs.declared.channel.Channel.{Channel}
use Rattle.step_rules.specs.Setting.{SettingValue}
use Rattle.circuit_core.specs.Order.{is_performed}
use Rattle.step_vars.specs.declared.cells.Cell.{Cell}
use Rattle.step_vars.specs.declared.item.Claim.{Claim}
use Rattle.step_vars.specs.declared.channel_test.NumberedChannel.{NumberedChannel}
use Rattle.step_vars.specs.Lists.{ion_count, ions_of, places_of, zones_of, performed, able_zones, acts_of, orders_of, forced_before, cell, numbered_channels, channels_where}
use Rattle.step_vars.specs.Families.{others, thirds, pairs_in}
use Rattle.step_facts.specs.Facts.{Facts, SomeHolds, AllHold, IsChannel}
use Rattle.step_facts.specs.Activities.{operation, IsActivity}
use Rattle.step_facts.proofs.Lists.{Contains-filter, Contains-map, Contains-flat_map, in_map, in_flat_map}
use Rattle.step_facts.proofs.Clauses.{AllHold-map, AllHold-flat_map, there-ion, there-place, there-zone, there-pair, in_pairs, there-channel, there-channel_where, there-performed, there-able_zone}

-- ---- loops in loops

-- the clauses of each member of a list for each member of another
nested_map : {X Y : Type 0} (facts : Facts) (f : X → Y → List Claim) (xs : List X) (ys : X → List Y)
    → AllHold facts (flat_map (λ x. map (f x) (ys x)) xs)
    ↔ ((x : X) (y : Y) → Contains xs x → Contains (ys x) y → SomeHolds facts (f x y))
nested_map facts f xs ys = let outer = AllHold-flat_map facts (λ x. map (f x) (ys x)) xs in (
  λ all x y x_in y_in. (AllHold-map facts (f x) (ys x)).0 (outer.0 all x x_in) y y_in,
  λ each. outer.1 (λ x x_in. (AllHold-map facts (f x) (ys x)).1 (λ y y_in. each x y x_in y_in)),
)

nested : {X Y : Type 0} (facts : Facts) (f : X → Y → List (List Claim)) (xs : List X) (ys : X → List Y)
    → AllHold facts (flat_map (λ x. flat_map (f x) (ys x)) xs)
    ↔ ((x : X) (y : Y) → Contains xs x → Contains (ys x) y → AllHold facts (f x y))
nested facts f xs ys = let outer = AllHold-flat_map facts (λ x. flat_map (f x) (ys x)) xs in (
  λ all x y x_in y_in. (AllHold-flat_map facts (f x) (ys x)).0 (outer.0 all x x_in) y y_in,
  λ each. outer.1 (λ x x_in. (AllHold-flat_map facts (f x) (ys x)).1 (λ y y_in. each x y x_in y_in)),
)

-- ---- ions and places

pub each_ion_place : (setting : SettingValue) (facts : Facts) (f : ℕ → ℕ → List Claim)
    → AllHold facts (flat_map (λ i. map (f i) (places_of setting)) (ions_of setting))
    ↔ ((i p : ℕ) → i < ion_count setting → p < place_count setting.trap → SomeHolds facts (f i p))
each_ion_place setting facts f = let each = nested_map facts f (ions_of setting) (λ i. places_of setting) in (
  λ all i p i_known p_known. each.0 all i p ((there-ion setting i).1 i_known)
      ((there-place setting p).1 p_known),
  λ law. each.1 (λ i p i_in p_in. law i p ((there-ion setting i).0 i_in) ((there-place setting p).0 p_in)),
)

-- an ion other than another, and one other than the two of a pair
there-other : (setting : SettingValue) (i j : ℕ) → Contains (others setting i) j
    ↔ ((j < ion_count setting) × (j ≢ i))
there-other setting i j = let kept = Contains-filter (λ k. not (k == i)) (ions_of setting) j in (
  λ there. let it = kept.0 there in ((there-ion setting j).0 it.0, eqb-false j i (not-true (j == i) it.1)),
  λ it. kept.1 ((there-ion setting j).1 it.0, not_from_false (j == i) (ne_eqb j i it.1)),
)

there-third : (setting : SettingValue) (i j k : ℕ) → Contains (thirds setting (cell i j)) k
    ↔ ((k < ion_count setting) × (k ≢ i) × (k ≢ j))
there-third setting i j k =
    let kept = Contains-filter (λ l. not (l == i) && not (l == j)) (ions_of setting) k in (
      λ there.
          let it = kept.0 there in
          let parts = and_parts (not (k == i)) (not (k == j)) it.1 in
          let not_i = eqb-false k i (not-true (k == i) parts.0) in
          let not_j = eqb-false k j (not-true (k == j) parts.1) in
          ((there-ion setting k).0 it.0, not_i, not_j),
      λ it. kept.1 (
        (there-ion setting k).1 it.0,
        and_from (not (k == i)) (not (k == j)) (not_from_false (k == i) (ne_eqb k i it.1))
            (not_from_false (k == j) (ne_eqb k j it.2)),
      ),
    )

-- ---- pairs of ions

pub each_pair : (setting : SettingValue) (facts : Facts) (f : Cell → List Claim)
    → AllHold facts (map f (pairs_in setting))
    ↔ ((i j : ℕ) → i < j → j < ion_count setting → SomeHolds facts (f (cell i j)))
each_pair setting facts f = let each = AllHold-map facts f (pairs_in setting) in (
  λ all i j below known. each.0 all (cell i j) (in_pairs (ion_count setting) i j below known),
  λ law. each.1 (λ pair pair_in.
      let it = (there-pair (ion_count setting) pair).0 pair_in in
      law pair.row pair.col it.0 it.1),
)

-- with each zone
pub each_pair_zone : (setting : SettingValue) (facts : Facts) (f : ℕ → Cell → List (List Claim))
    → AllHold facts (flat_map (λ z. flat_map (f z) (pairs_in setting)) (zones_of setting))
    ↔ ((i j z : ℕ) → i < j → j < ion_count setting → z < length setting.trap.zones
    → AllHold facts (f z (cell i j)))
each_pair_zone setting facts f = let each = nested facts f (zones_of setting) (λ z. pairs_in setting) in (
  λ all i j z below known z_known. each.0 all z (cell i j) ((there-zone setting z).1 z_known)
      (in_pairs (ion_count setting) i j below known),
  λ law. each.1 (λ z pair z_in pair_in.
      let it = (there-pair (ion_count setting) pair).0 pair_in in
      law pair.row pair.col z it.0 it.1 ((there-zone setting z).0 z_in)),
)

-- and with each third ion
pub each_pair_zone_third : (setting : SettingValue) (facts : Facts) (f : ℕ → Cell → ℕ → List (List Claim))
    → AllHold facts
    (flat_map (λ z. flat_map (λ pair. flat_map (f z pair) (thirds setting pair)) (pairs_in setting))
    (zones_of setting))
    ↔ ((i j k z : ℕ) → i < j → j < ion_count setting → z < length setting.trap.zones
    → k < ion_count setting → k ≢ i → k ≢ j → AllHold facts (f z (cell i j) k))
each_pair_zone_third setting facts f =
    let each = each_pair_zone setting facts (λ z pair. flat_map (f z pair) (thirds setting pair)) in
    let inner = λ (i j z : ℕ). AllHold-flat_map facts (f z (cell i j)) (thirds setting (cell i j)) in (
      λ all i j k z below known z_known k_known not_i not_j.
          (inner i j z).0 (each.0 all i j z below known z_known) k
          ((there-third setting i j k).1 (k_known, not_i, not_j)),
      λ law. each.1 (λ i j z below known z_known. (inner i j z).1 (λ k k_in.
          let it = (there-third setting i j k).0 k_in in
          law i j k z below known z_known it.0 it.1 it.2)),
    )

-- with each place
pub each_pair_place : (setting : SettingValue) (facts : Facts) (f : ℕ → Cell → List (List Claim))
    → AllHold facts (flat_map (λ p. flat_map (f p) (pairs_in setting)) (places_of setting))
    ↔ ((i j p : ℕ) → i < j → j < ion_count setting → p < place_count setting.trap
    → AllHold facts (f p (cell i j)))
each_pair_place setting facts f = let each = nested facts f (places_of setting) (λ p. pairs_in setting) in (
  λ all i j p below known p_known. each.0 all p (cell i j) ((there-place setting p).1 p_known)
      (in_pairs (ion_count setting) i j below known),
  λ law. each.1 (λ p pair p_in pair_in.
      let it = (there-pair (ion_count setting) pair).0 pair_in in
      law pair.row pair.col p it.0 it.1 ((there-place setting p).0 p_in)),
)

-- ---- channels

abbrev pub numbered : ℕ → Channel → NumberedChannel
numbered c channel = record { number = c; channel = channel }

pub each_channel : (setting : SettingValue) (facts : Facts) (f : NumberedChannel → List Claim)
    → AllHold facts (map f (numbered_channels setting))
    ↔ ((c : ℕ) (channel : Channel) → IsChannel setting c channel → SomeHolds facts (f (numbered c channel)))
each_channel setting facts f = let each = AllHold-map facts f (numbered_channels setting) in (
  λ all c channel known. each.0 all (numbered c channel) ((there-channel setting (numbered c channel)).1 known),
  λ law. each.1 (λ c c_in. law c.number c.channel ((there-channel setting c).0 c_in)),
)

-- with each ion
pub each_channel_ion : (setting : SettingValue) (facts : Facts) (f : NumberedChannel → ℕ → List Claim)
    → AllHold facts (flat_map (λ c. map (f c) (ions_of setting)) (numbered_channels setting))
    ↔ ((c : ℕ) (channel : Channel) (i : ℕ) → IsChannel setting c channel → i < ion_count setting
    → SomeHolds facts (f (numbered c channel) i))
each_channel_ion setting facts f =
    let each = nested_map facts f (numbered_channels setting) (λ c. ions_of setting) in (
      λ all c channel i known within. each.0 all (numbered c channel) i
          ((there-channel setting (numbered c channel)).1 known) ((there-ion setting i).1 within),
      λ law. each.1 (λ c i c_in i_in.
          law c.number c.channel i ((there-channel setting c).0 c_in) ((there-ion setting i).0 i_in)),
    )

-- of channels that pass a test
pub each_channel_where : (setting : SettingValue) (facts : Facts) (test : Channel → Bool)
    (f : NumberedChannel → ℕ → List Claim)
    → AllHold facts (flat_map (λ c. map (f c) (ions_of setting)) (channels_where test setting))
    ↔ ((c : ℕ) (channel : Channel) (i : ℕ) → IsChannel setting c channel → test channel ≡ true
    → i < ion_count setting → SomeHolds facts (f (numbered c channel) i))
each_channel_where setting facts test f =
    let each = nested_map facts f (channels_where test setting) (λ c. ions_of setting) in (
      λ all c channel i known passes within.
          each.0 all (numbered c channel) i
          ((there-channel_where setting test (numbered c channel)).1 (known, passes))
          ((there-ion setting i).1 within),
      λ law. each.1 (λ c i c_in i_in.
          let it = (there-channel_where setting test c).0 c_in in
          law c.number c.channel i it.0 it.1 ((there-ion setting i).0 i_in)),
    )

-- and with each two ions
pub each_channel_two : (setting : SettingValue) (facts : Facts) (test : Channel → Bool)
    (f : NumberedChannel → ℕ → ℕ → List Claim)
    → AllHold facts
    (flat_map (λ c. flat_map (λ i. map (f c i) (others setting i)) (ions_of setting))
    (channels_where test setting))
    ↔ ((c : ℕ) (channel : Channel) (i j : ℕ) → IsChannel setting c channel → test channel ≡ true
    → i < ion_count setting → j < ion_count setting → j ≢ i
    → SomeHolds facts (f (numbered c channel) i j))
each_channel_two setting facts test f =
    let each = nested facts (λ c i. map (f c i) (others setting i)) (channels_where test setting)
    (λ c. ions_of setting) in
    let inner = λ (c : NumberedChannel) (i : ℕ). AllHold-map facts (f c i) (others setting i) in (
      λ all c channel i j known passes i_known j_known apart.
          (inner (numbered c channel) i).0
          (each.0 all (numbered c channel) i
          ((there-channel_where setting test (numbered c channel)).1 (known, passes))
          ((there-ion setting i).1 i_known))
          j ((there-other setting i j).1 (j_known, apart)),
      λ law. each.1 (λ c i c_in i_in. (inner c i).1 (λ j j_in.
          let it = (there-channel_where setting test c).0 c_in in
          let other = (there-other setting i j).0 j_in in
          law c.number c.channel i j it.0 it.1 ((there-ion setting i).0 i_in) other.0 other.1)),
    )

-- with each pair
pub each_channel_pair : (setting : SettingValue) (facts : Facts)
    (f : NumberedChannel → Cell → List (List Claim))
    → AllHold facts (flat_map (λ c. flat_map (f c) (pairs_in setting)) (numbered_channels setting))
    ↔ ((i j c : ℕ) (channel : Channel) → i < j → j < ion_count setting → IsChannel setting c channel
    → AllHold facts (f (numbered c channel) (cell i j)))
each_channel_pair setting facts f =
    let each = nested facts f (numbered_channels setting) (λ c. pairs_in setting) in (
      λ all i j c channel below known c_known.
          each.0 all (numbered c channel) (cell i j) ((there-channel setting (numbered c channel)).1 c_known)
          (in_pairs (ion_count setting) i j below known),
      λ law. each.1 (λ c pair c_in pair_in.
          let it = (there-pair (ion_count setting) pair).0 pair_in in
          law pair.row pair.col c.number c.channel it.0 it.1 ((there-channel setting c).0 c_in)),
    )

-- ---- operations

pub each_operation : (setting : SettingValue) (facts : Facts) (f : ℕ → List Claim)
    → AllHold facts (map f (performed setting.circuit))
    ↔ ((g : ℕ) → IsTrue (is_performed setting.circuit g) → SomeHolds facts (f g))
each_operation setting facts f = let each = AllHold-map facts f (performed setting.circuit) in (
  λ all g is. each.0 all g ((there-performed setting.circuit g).1 is),
  λ law. each.1 (λ g g_in. law g ((there-performed setting.circuit g).0 g_in)),
)

-- with each zone that is able to perform it
pub each_operation_zone : (setting : SettingValue) (facts : Facts) (f : ℕ → ℕ → List (List Claim))
    → AllHold facts (flat_map (λ g. flat_map (f g) (able_zones setting g)) (performed setting.circuit))
    ↔ ((g z : ℕ) → IsActivity setting (operation g z) → AllHold facts (f g z))
each_operation_zone setting facts f =
    let each = nested facts f (performed setting.circuit) (able_zones setting) in (
      λ all g z is. each.0 all g z ((there-performed setting.circuit g).1 is.0)
          ((there-able_zone setting g z).1 (is.2, is.1)),
      λ law. each.1 (λ g z g_in z_in.
          let it = (there-able_zone setting g z).0 z_in in
          law g z ((there-performed setting.circuit g).0 g_in, it.1, it.0)),
    )

act_has : (setting : SettingValue) (act : Cell) → Contains (acts_of setting) act
    → IsActivity setting (operation act.row act.col)
act_has setting act there =
    let row =
    (Contains-flat_map (λ g. map (cell g) (able_zones setting g))
    (performed setting.circuit) act).0 there in
    let col = (Contains-map (cell row.member) (able_zones setting row.member) act).0 row.in_image in
    let able = (there-able_zone setting row.member col.member).0 col.there in
    rw (← col.is) ((there-performed setting.circuit row.member).0 row.there, able.1, able.0)

in_acts : (setting : SettingValue) (g z : ℕ) → IsActivity setting (operation g z)
    → Contains (acts_of setting) (cell g z)
in_acts setting g z is =
    in_flat_map (λ h. map (cell h) (able_zones setting h)) (performed setting.circuit) g (cell g z)
    ((there-performed setting.circuit g).1 is.0)
    (in_map (cell g) (able_zones setting g) z ((there-able_zone setting g z).1 (is.2, is.1)))

pub each_act : (setting : SettingValue) (facts : Facts) (f : Cell → List (List Claim))
    → AllHold facts (flat_map f (acts_of setting))
    ↔ ((g z : ℕ) → IsActivity setting (operation g z) → AllHold facts (f (cell g z)))
each_act setting facts f = let each = AllHold-flat_map facts f (acts_of setting) in (
  λ all g z is. each.0 all (cell g z) (in_acts setting g z is),
  λ law. each.1 (λ act act_in. law act.row act.col (act_has setting act act_in)),
)

-- an operation, and one that has to come before it
abbrev IsOrder : CircuitValue → ℕ → ℕ → Type 0
IsOrder circuit g h =
    IsTrue (is_performed circuit g) × IsTrue (is_performed circuit h) × IsTrue (is_forced circuit h g)

order_has : (circuit : CircuitValue) (order : Cell) → Contains (orders_of circuit) order
    → IsOrder circuit order.row order.col
order_has circuit order there =
    let row =
    (Contains-flat_map (λ g. map (cell g) (forced_before circuit g)) (performed circuit) order).0 there in
    let col = (Contains-map (cell row.member) (forced_before circuit row.member) order).0 row.in_image in
    let forced =
    (Contains-filter (λ h. is_forced circuit h row.member) (performed circuit) col.member).0 col.there in
    let first = (there-performed circuit row.member).0 row.there in
    let second = (there-performed circuit col.member).0 forced.0 in
    rw (← col.is) (first, second, forced.1)

in_orders : (circuit : CircuitValue) (g h : ℕ) → IsOrder circuit g h → Contains (orders_of circuit) (cell g h)
in_orders circuit g h is =
    in_flat_map (λ k. map (cell k) (forced_before circuit k)) (performed circuit) g (cell g h)
    ((there-performed circuit g).1 is.0)
    (in_map (cell g) (forced_before circuit g) h
    ((Contains-filter (λ k. is_forced circuit k g) (performed circuit) h).1
    ((there-performed circuit h).1 is.1, is.2)))

pub each_order : (circuit : CircuitValue) (facts : Facts) (f : Cell → List Claim)
    → AllHold facts (map f (orders_of circuit))
    ↔ ((g h : ℕ) → IsTrue (is_performed circuit g) → IsTrue (is_performed circuit h)
    → IsTrue (is_forced circuit h g) → SomeHolds facts (f (cell g h)))
each_order circuit facts f = let each = AllHold-map facts f (orders_of circuit) in (
  λ all g h g_is h_is forced. each.0 all (cell g h) (in_orders circuit g h (g_is, h_is, forced)),
  λ law. each.1 (λ order order_in.
      let it = order_has circuit order order_in in
      law order.row order.col it.0 it.1 it.2),
)
