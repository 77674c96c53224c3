-- The bounds, each as its property.
use Rattle.std.proofs.Common.{◌≡◌, ◌≢◌, ℕ, ◌+◌, ◌-◌, ◌<◌, ◌≤◌, Bool, true, List, [], ◌∷◌, ◌++◌, length, map, refl, sym, ap, ◌∙◌, inl, inr, arith}
use Rattle.std.specs.Prelude.{Contains, slice_get, if◌then◌else◌, ◌↔◌}
use Rattle.std.specs.List.{range_with_len}
use Rattle.std.proofs.lemmas.Bool.{cases_Bool, eqb-true, eq-eqb, lt-ltb, ltb-true}
use Rattle.std.proofs.lemmas.Option.{same_Some}
use Rattle.std.proofs.lemmas.List.{map-append}
use Rattle.std.proofs.lemmas.Simd.{map-map}
use Rattle.std.proofs.lemmas.List.Elements.{Contains-append_cases, Contains-append_left, Contains-append_right}
use Rattle.qc_base.specs.Counting.{how_many}
use Rattle.circuit_core.specs.Order.{is_performed}
use Rattle.trap_model.specs.Trap.{place_count, is_zone}
use Rattle.trap_model.specs.Channels.{channels_of, is_through}
use Rattle.trap_model.specs.declared.channel.Channel.{Channel}
use Rattle.step_rules.specs.Setting.{SettingValue}
use Rattle.step_rules.specs.Guards.{is_able_for}
use Rattle.step_vars.specs.declared.cells.Cell.{Cell}
use Rattle.step_vars.specs.declared.item.Item.{Item}
use Rattle.step_vars.specs.Items.{at_item, use_item}
use Rattle.step_vars.specs.declared.channel_test.NumberedChannel.{NumberedChannel}
use Rattle.step_vars.specs.Lists.{ion_count, ions_of, places_of, zones_of, junctions_of, cell, between, pairs_of, able_ops, performed, numbered_from, numbered_channels, channels_where, numbers_where, touches}
use Rattle.step_vars.specs.Families.{pairs_in, bound, one_place, few_ions, one_places, few_ions_each, one_activity_each, one_crossing_each, activities_at}
use Rattle.step_facts.specs.Facts.{Facts, AreBounded}
use Rattle.step_facts.specs.Activities.{Activity, passage, exchange, operation, IsActivity, works_at, item_of, passages_of, exchanges_of, operations_of, activities_of}
use Rattle.step_facts.specs.Properties.{OnePlace, FewIons, OneActivityEach, OneCrossingEach}
use Rattle.step_facts.proofs.Lists.{AreDifferent, IsImage, AllPairs-first, AreDifferent-range, AreDifferent-filter, AreDifferent-map, AreDifferent-append, AreDifferent-flat_map, Contains-range, Contains-map, Contains-flat_map, Contains-nil, in_map, in_flat_map, how_many-map, at_most_one, at_most_one-from}
use Rattle.step_facts.proofs.Clauses.{there-channel, there-pair, in_pairs, there-able_op, there-ion, there-place, there-channel_where, there-number_where, AreBounded-map, numbered_has}

-- ---- activities as members of lists

-- as the lists have them: the passage of a channel, and at a zone the exchange of a pair and an operation
abbrev of_channel : NumberedChannel → Activity
of_channel c = passage c.number c.channel

abbrev of_pair : ℕ → Cell → Activity
of_pair z pair = exchange pair.row pair.col z

abbrev of_operation : ℕ → ℕ → Activity
of_operation z g = operation g z

abbrev exchanges_at : SettingValue → ℕ → List Activity
exchanges_at setting z = map (of_pair z) (pairs_in setting)

abbrev operations_at : SettingValue → ℕ → List Activity
operations_at setting z = map (of_operation z) (able_ops setting z)

from_passages : (setting : SettingValue) (a : Activity) → Contains (passages_of setting) a
    → IsActivity setting a
from_passages setting a c =
    let it = (Contains-map of_channel (numbered_channels setting) a).0 c in
    rw (← it.is) ((there-channel setting it.member).0 it.there)

from_exchanges : (setting : SettingValue) (z : ℕ) (a : Activity) → z < length setting.trap.zones
    → Contains (exchanges_at setting z) a → IsActivity setting a
from_exchanges setting z a within c =
    let it = (Contains-map (of_pair z) (pairs_in setting) a).0 c in
    let pair = (there-pair (ion_count setting) it.member).0 it.there in
    rw (← it.is) (pair.0, pair.1, within)

from_operations : (setting : SettingValue) (z : ℕ) (a : Activity) → z < length setting.trap.zones
    → Contains (operations_at setting z) a → IsActivity setting a
from_operations setting z a within c =
    let it = (Contains-map (of_operation z) (able_ops setting z) a).0 c in
    let able = (there-able_op setting z it.member).0 it.there in
    rw (← it.is) (able.0, able.1, within)

from_activities : (setting : SettingValue) (a : Activity) → Contains (activities_of setting) a
    → IsActivity setting a
from_activities setting a c =
    elim (Contains-append_cases (passages_of setting ++ exchanges_of setting) (operations_of setting) a c) [
      | inl others ↦ elim (Contains-append_cases (passages_of setting) (exchanges_of setting) a others) [
        | inl passes ↦ from_passages setting a passes
        | inr swaps ↦
            let it = (Contains-flat_map (exchanges_at setting) (zones_of setting) a).0 swaps in
            from_exchanges setting it.member a
            ((Contains-range (length setting.trap.zones) it.member).0 it.there) it.in_image
      ]
      | inr performs ↦
          let it = (Contains-flat_map (operations_at setting) (zones_of setting) a).0 performs in
          from_operations setting it.member a
          ((Contains-range (length setting.trap.zones) it.member).0 it.there) it.in_image
    ]

in_passages : (setting : SettingValue) (c : ℕ) (channel : Channel) → IsActivity setting (passage c channel)
    → Contains (passages_of setting) (passage c channel)
in_passages setting c channel is =
    let it : NumberedChannel = record { number = c; channel = channel } in
    in_map of_channel (numbered_channels setting) it ((there-channel setting it).1 is)

in_exchanges : (setting : SettingValue) (i j z : ℕ) → IsActivity setting (exchange i j z)
    → Contains (exchanges_at setting z) (exchange i j z)
in_exchanges setting i j z is =
    in_map (of_pair z) (pairs_in setting) (cell i j) (in_pairs (ion_count setting) i j is.0 is.1)

in_operations : (setting : SettingValue) (g z : ℕ) → IsActivity setting (operation g z)
    → Contains (operations_at setting z) (operation g z)
in_operations setting g z is =
    in_map (of_operation z) (able_ops setting z) g ((there-able_op setting z g).1 (is.0, is.1))

in_activities : (setting : SettingValue) (a : Activity) → IsActivity setting a
    → Contains (activities_of setting) a
in_activities setting (passage c channel) is =
    Contains-append_left (passages_of setting ++ exchanges_of setting) (operations_of setting)
    (passage c channel)
    (Contains-append_left (passages_of setting) (exchanges_of setting) (passage c channel)
    (in_passages setting c channel is))
in_activities setting (exchange i j z) is =
    Contains-append_left (passages_of setting ++ exchanges_of setting) (operations_of setting) (exchange i j z)
    (Contains-append_right (passages_of setting) (exchanges_of setting) (exchange i j z)
    (in_flat_map (exchanges_at setting) (zones_of setting) z (exchange i j z)
    ((Contains-range (length setting.trap.zones) z).1 is.2) (in_exchanges setting i j z is)))
in_activities setting (operation g z) is =
    Contains-append_right (passages_of setting ++ exchanges_of setting) (operations_of setting) (operation g z)
    (in_flat_map (operations_at setting) (zones_of setting) z (operation g z)
    ((Contains-range (length setting.trap.zones) z).1 is.2) (in_operations setting g z is))

pub there-activity : (setting : SettingValue) (a : Activity) → Contains (activities_of setting) a
    ↔ IsActivity setting a
there-activity setting a = (from_activities setting a, in_activities setting a)

different_numbered : (k : ℕ) (channels : List Channel) → AreDifferent (numbered_from k channels)
different_numbered k [] = λ i j d l h. absurd (omega arith)
different_numbered k (channel ∷ channels) =
    AllPairs-first (λ c d. c ≢ d) (record { number = k; channel = channel }) (numbered_from (k + 1) channels)
    (λ c there e.
    let later = (numbered_has (k + 1) channels c there).0 in
    let same : k ≡ c.number = ap (λ (d : NumberedChannel). d.number) e in
    omega arith)
    (different_numbered (k + 1) channels)

different_pairs : (ions : ℕ) → AreDifferent (pairs_of ions)
different_pairs ions =
    AreDifferent-flat_map (λ i. map (cell i) (between (i + 1) ions)) (range_with_len 0 ions)
    (AreDifferent-range 0 ions)
    (λ i i_in. AreDifferent-map (cell i) (between (i + 1) ions)
    (λ j k j_in k_in e. ap (λ (pair : Cell). pair.col) e) (AreDifferent-range (i + 1) (ions - (i + 1))))
    (λ i j pair i_in j_in first second.
    let one = (Contains-map (cell i) (between (i + 1) ions) pair).0 first in
    let other = (Contains-map (cell j) (between (j + 1) ions) pair).0 second in
    ap (λ (it : Cell). it.row) (one.is ∙ sym other.is))

different_able : (setting : SettingValue) (z : ℕ) → AreDifferent (able_ops setting z)
different_able setting z =
    AreDifferent-filter (is_able_for setting z) (performed setting.circuit)
    (AreDifferent-filter (is_performed setting.circuit) (range_with_len 0 (length setting.circuit.ops))
    (AreDifferent-range 0 (length setting.circuit.ops)))

same_numbered : (c d : NumberedChannel) → c.number ≡ d.number → c.channel ≡ d.channel → c ≡ d
same_numbered c d number channel = rw (number, channel) refl

same_cell : (c d : Cell) → c.row ≡ d.row → c.col ≡ d.col → c ≡ d
same_cell c d row col = rw (row, col) refl

different_where : (setting : SettingValue) (test : Channel → Bool) → AreDifferent (channels_where test setting)
different_where setting test =
    AreDifferent-filter (λ (c : NumberedChannel). test c.channel) (numbered_channels setting)
    (different_numbered 0 (channels_of setting.trap))

different_passages : (cs : List NumberedChannel) → AreDifferent cs → AreDifferent (map of_channel cs)
different_passages cs different =
    AreDifferent-map of_channel cs (λ c d c_in d_in e. same_numbered c d (cc) (cc)) different

different_exchanges : (setting : SettingValue) (z : ℕ) → AreDifferent (exchanges_at setting z)
different_exchanges setting z =
    AreDifferent-map (of_pair z) (pairs_in setting) (λ c d c_in d_in e. same_cell c d (cc) (cc))
    (different_pairs (ion_count setting))

different_operations : (setting : SettingValue) (z : ℕ) → AreDifferent (operations_at setting z)
different_operations setting z =
    AreDifferent-map (of_operation z) (able_ops setting z) (λ g h g_in h_in e. cc) (different_able setting z)

-- what a list of passages, of exchanges at a zone or of operations there has
has_passage : (cs : List NumberedChannel) (a : Activity) → Contains (map of_channel cs) a
    → IsImage of_channel cs a
has_passage cs a c = (Contains-map of_channel cs a).0 c

has_exchange : (setting : SettingValue) (z : ℕ) (a : Activity) → Contains (exchanges_at setting z) a
    → IsImage (of_pair z) (pairs_in setting) a
has_exchange setting z a c = (Contains-map (of_pair z) (pairs_in setting) a).0 c

has_operation : (setting : SettingValue) (z : ℕ) (a : Activity) → Contains (operations_at setting z) a
    → IsImage (of_operation z) (able_ops setting z) a
has_operation setting z a c = (Contains-map (of_operation z) (able_ops setting z) a).0 c

one_exchange_zone : (setting : SettingValue) (y z : ℕ) (a : Activity) → Contains (exchanges_at setting y) a
    → Contains (exchanges_at setting z) a → y ≡ z
one_exchange_zone setting y z a first second =
    let one = (has_exchange setting y a first).is in
    let other = (has_exchange setting z a second).is in
    cc

one_operation_zone : (setting : SettingValue) (y z : ℕ) (a : Activity)
    → Contains (operations_at setting y) a → Contains (operations_at setting z) a → y ≡ z
one_operation_zone setting y z a first second =
    let one = (has_operation setting y a first).is in
    let other = (has_operation setting z a second).is in
    cc

passage_exchange : (setting : SettingValue) (cs : List NumberedChannel) (z : ℕ) (a : Activity)
    → Contains (map of_channel cs) a → Contains (exchanges_at setting z) a → ⊥
passage_exchange setting cs z a first second =
    let one = (has_passage cs a first).is in
    let other = (has_exchange setting z a second).is in
    cc

passage_operation : (setting : SettingValue) (cs : List NumberedChannel) (z : ℕ) (a : Activity)
    → Contains (map of_channel cs) a → Contains (operations_at setting z) a → ⊥
passage_operation setting cs z a first second =
    let one = (has_passage cs a first).is in
    let other = (has_operation setting z a second).is in
    cc

exchange_operation : (setting : SettingValue) (y z : ℕ) (a : Activity)
    → Contains (exchanges_at setting y) a → Contains (operations_at setting z) a → ⊥
exchange_operation setting y z a first second =
    let one = (has_exchange setting y a first).is in
    let other = (has_operation setting z a second).is in
    cc

pub different_activities : (setting : SettingValue) → AreDifferent (activities_of setting)
different_activities setting =
    let zones : AreDifferent (zones_of setting) = AreDifferent-range 0 (length setting.trap.zones) in
    let swaps : AreDifferent (exchanges_of setting) =
    AreDifferent-flat_map (exchanges_at setting) (zones_of setting) zones
    (λ z z_in. different_exchanges setting z) (λ y z a y_in z_in. one_exchange_zone setting y z a) in
    let performs : AreDifferent (operations_of setting) =
    AreDifferent-flat_map (operations_at setting) (zones_of setting) zones
    (λ z z_in. different_operations setting z) (λ y z a y_in z_in. one_operation_zone setting y z a) in
    AreDifferent-append (passages_of setting ++ exchanges_of setting) (operations_of setting)
    (AreDifferent-append (passages_of setting) (exchanges_of setting)
    (different_passages (numbered_channels setting) (different_numbered 0 (channels_of setting.trap))) swaps
    (λ a passes swapped. let it = (Contains-flat_map (exchanges_at setting) (zones_of setting) a).0 swapped in
    passage_exchange setting (numbered_channels setting) it.member a passes it.in_image))
    performs
    (λ a others performed.
    let it = (Contains-flat_map (operations_at setting) (zones_of setting) a).0 performed in
    elim (Contains-append_cases (passages_of setting) (exchanges_of setting) a others) [
      | inl passes ↦ passage_operation setting (numbered_channels setting) it.member a passes it.in_image
      | inr swapped ↦
          let other = (Contains-flat_map (exchanges_at setting) (zones_of setting) a).0 swapped in
          exchange_operation setting other.member it.member a other.in_image it.in_image
    ])

-- ---- the activities at a place

abbrev passages_at : SettingValue → ℕ → List Activity
passages_at setting p = map of_channel (channels_where (touches p) setting)

abbrev in_zone : SettingValue → ℕ → List Activity
in_zone setting z = exchanges_at setting z ++ operations_at setting z

-- in the order of their items
abbrev working_at : SettingValue → ℕ → List Activity
working_at setting p = passages_at setting p ++ (if is_zone setting.trap p then in_zone setting p else [])

items_at : (setting : SettingValue) (t p : ℕ)
    → map (item_of t) (working_at setting p) ≡ activities_at setting t p
items_at setting t p = elim (cases_Bool (is_zone setting.trap p)) [
  | inl zone ↦ rw zone (simp (map-append, map-map))
  | inr slot ↦ rw slot (simp (map-append, map-map))
]

from_zone : (setting : SettingValue) (z : ℕ) (a : Activity) → z < length setting.trap.zones
    → Contains (in_zone setting z) a → IsActivity setting a × (works_at z a ≡ true)
from_zone setting z a within c =
    elim (Contains-append_cases (exchanges_at setting z) (operations_at setting z) a c) [
      | inl swaps ↦
          (from_exchanges setting z a within swaps, rw (← (has_exchange setting z a swaps).is) (eq-eqb z z refl))
      | inr performs ↦ (
        from_operations setting z a within performs,
        rw (← (has_operation setting z a performs).is)
            (eq-eqb z z refl),
      )
    ]

from_working : (setting : SettingValue) (p : ℕ) (a : Activity) → Contains (working_at setting p) a
    → IsActivity setting a × (works_at p a ≡ true)
from_working setting p a c =
    elim (Contains-append_cases (passages_at setting p)
    (if is_zone setting.trap p then in_zone setting p else []) a c) [
      | inl passes ↦
          let it = has_passage (channels_where (touches p) setting) a passes in
          let known = (there-channel_where setting (touches p) it.member).0 it.there in
          rw (← it.is) (known.0, known.1)
      | inr others ↦ elim (cases_Bool (is_zone setting.trap p)) [
        | inl zone ↦ from_zone setting p a (ltb-true p (length setting.trap.zones) zone) (rw zone at others)
        | inr slot ↦ absurd (Contains-nil a (rw slot at others))
      ]
    ]

in_working : (setting : SettingValue) (p : ℕ) (a : Activity) → IsActivity setting a → works_at p a ≡ true
    → Contains (working_at setting p) a
in_working setting p (passage c channel) is works =
    let it : NumberedChannel = record { number = c; channel = channel } in
    Contains-append_left (passages_at setting p) (if is_zone setting.trap p then in_zone setting p else [])
    (passage c channel)
    (in_map of_channel (channels_where (touches p) setting) it
    ((there-channel_where setting (touches p) it).1 (is, works)))
in_working setting p (exchange i j z) is works =
    let here : z ≡ p = eqb-true z p works in
    let zone : is_zone setting.trap p ≡ true = lt-ltb p (length setting.trap.zones) (omega arith) in
    rw (here, zone) (Contains-append_right (passages_at setting p) (in_zone setting p) (exchange i j p)
    (Contains-append_left (exchanges_at setting p) (operations_at setting p) (exchange i j p)
    (in_exchanges setting i j p (is.0, is.1, omega arith))))
in_working setting p (operation g z) is works =
    let here : z ≡ p = eqb-true z p works in
    let zone : is_zone setting.trap p ≡ true = lt-ltb p (length setting.trap.zones) (omega arith) in
    rw (here, zone) (Contains-append_right (passages_at setting p) (in_zone setting p) (operation g p)
    (Contains-append_right (exchanges_at setting p) (operations_at setting p) (operation g p)
    (in_operations setting g p (is.0, rw here at is.1, omega arith))))

different_in_zone : (setting : SettingValue) (z : ℕ) → AreDifferent (in_zone setting z)
different_in_zone setting z =
    AreDifferent-append (exchanges_at setting z) (operations_at setting z) (different_exchanges setting z)
    (different_operations setting z)
    (λ a swaps performs. exchange_operation setting z z a swaps performs)

passage_in_zone : (setting : SettingValue) (cs : List NumberedChannel) (z : ℕ) (a : Activity)
    → Contains (map of_channel cs) a
    → Contains (in_zone setting z) a → ⊥
passage_in_zone setting cs z a passes others =
    elim (Contains-append_cases (exchanges_at setting z) (operations_at setting z) a others) [
      | inl swaps ↦ passage_exchange setting cs z a passes swaps
      | inr performs ↦ passage_operation setting cs z a passes performs
    ]

different_working : (setting : SettingValue) (p : ℕ) → AreDifferent (working_at setting p)
different_working setting p =
    let cs = channels_where (touches p) setting in
    let passages : AreDifferent (passages_at setting p) = different_passages cs
    (different_where setting (touches p)) in
    elim (cases_Bool (is_zone setting.trap p)) [
      | inl zone ↦ rw zone
          (AreDifferent-append (passages_at setting p) (in_zone setting p) passages
          (different_in_zone setting p) (λ a. passage_in_zone setting cs p a))
      | inr slot ↦ rw slot
          (AreDifferent-append (passages_at setting p) [] passages (λ i j d l h. absurd (omega arith))
          (λ a passes never. Contains-nil a never))
    ]

-- ---- the bounds

-- at most one of the items is true
one_is_true : {X : Type 0} (facts : Facts) (item : X → Item) (xs : List X) → AreDifferent xs
    → (how_many facts (map item xs) ≤ 1)
    ↔ ((x y : X) → Contains xs x → Contains xs y → facts (item x) ≡ true → facts (item y) ≡ true → x ≡ y)
one_is_true facts item xs different = rw how_many-map (
  λ few x y. at_most_one (λ z. facts (item z)) xs x y few,
  λ law. at_most_one-from (λ z. facts (item z)) xs different law,
)

pub one_places_iff : (setting : SettingValue) (facts : Facts) (t : ℕ)
    → AreBounded facts (one_places setting t) ↔ OnePlace setting facts t
one_places_iff setting facts t =
    let each = AreBounded-map facts (one_place setting t) (ions_of setting) in
    let one = λ (i : ℕ). one_is_true facts (λ p. at_item i p t) (places_of setting)
    (AreDifferent-range 0 (place_count setting.trap)) in (
      λ all i p q known p_known q_known. (one i).0 (each.0 all i ((there-ion setting i).1 known)) p q
          ((there-place setting p).1 p_known) ((there-place setting q).1 q_known),
      λ law. each.1
          (λ i i_in. (one i).1
          (λ p q p_in q_in. law i p q ((there-ion setting i).0 i_in) ((there-place setting p).0 p_in)
          ((there-place setting q).0 q_in))),
    )

pub few_ions_each_iff : (setting : SettingValue) (facts : Facts) (t : ℕ)
    → AreBounded facts (few_ions_each setting t) ↔ FewIons setting facts t
few_ions_each_iff setting facts t =
    let each = AreBounded-map facts (few_ions setting t) (places_of setting) in (
      λ all p known. rw how_many-map at (each.0 all p ((there-place setting p).1 known)),
      λ law. each.1 (λ p p_in. rw how_many-map (law p ((there-place setting p).0 p_in))),
    )

pub one_activity_each_iff : (setting : SettingValue) (facts : Facts) (t : ℕ)
    → AreBounded facts (one_activity_each setting t) ↔ OneActivityEach setting facts t
one_activity_each_iff setting facts t =
    let each = AreBounded-map facts (λ p. bound 1 (activities_at setting t p)) (places_of setting) in
    let one = λ (p : ℕ). rw (items_at setting t p) at
    (one_is_true facts (item_of t) (working_at setting p) (different_working setting p)) in (
      λ all p a b known is_a is_b works_a works_b.
          (one p).0 (each.0 all p ((there-place setting p).1 known)) a b
          (in_working setting p a is_a works_a) (in_working setting p b is_b works_b),
      λ law. each.1 (λ p p_in. (one p).1 (λ a b a_in b_in.
          let first = from_working setting p a a_in in
          let second = from_working setting p b b_in in
          law p a b ((there-place setting p).0 p_in) first.0 second.0 first.1 second.1)),
    )

different_numbers : (setting : SettingValue) (test : Channel → Bool) → AreDifferent (numbers_where test setting)
different_numbers setting test =
    AreDifferent-map (λ (c : NumberedChannel). c.number) (channels_where test setting)
    (λ c d c_in d_in e.
    let first = ((there-channel_where setting test c).0 c_in).0 in
    let second = ((there-channel_where setting test d).0 d_in).0 in
    same_numbered c d e
    (same_Some c.channel d.channel
    (sym first ∙ ap (λ n. slice_get (channels_of setting.trap) n) e ∙ second)))
    (different_where setting test)

pub one_crossing_each_iff : (setting : SettingValue) (facts : Facts) (t : ℕ)
    → AreBounded facts (one_crossing_each setting t) ↔ OneCrossingEach setting facts t
one_crossing_each_iff setting facts t =
    let each = AreBounded-map facts
    (λ junction. bound 1 (map (λ c. use_item c t) (numbers_where (is_through junction) setting)))
    (junctions_of setting) in
    let one = λ (junction : ℕ). one_is_true facts (λ c. use_item c t)
    (numbers_where (is_through junction) setting) (different_numbers setting (is_through junction)) in
    let there = λ (junction c : ℕ). there-number_where setting (is_through junction) c in (
      λ all junction c d first second known first_known second_known first_through second_through.
          (one junction).0
          (each.0 all junction ((Contains-range (length setting.trap.junctions) junction).1 known)) c d
          ((there junction c).1 (record { channel = first; there = first_known; passes = first_through }))
          ((there junction d).1 (record { channel = second; there = second_known; passes = second_through })),
      λ law. each.1 (λ junction junction_in. (one junction).1 (λ c d c_in d_in.
          let first = (there junction c).0 c_in in
          let second = (there junction d).0 d_in in
          law junction c d first.channel second.channel
          ((Contains-range (length setting.trap.junctions) junction).0 junction_in)
          first.there second.there first.passes second.passes)),
    )
