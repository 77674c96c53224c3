-- What the loops add over the lists of a setting are its families.
use Rattle.std.proofs.Common.{◌≡◌, ℕ, ◌==◌, not, List, [], ◌∷◌, ◌++◌, map, length, refl, ap, ◌∙◌, append_assoc}
use Rattle.std.specs.Prelude.{filter}
use Rattle.std.specs.List.{flat_map}
use Rattle.step_rules.specs.Setting.{SettingValue}
use Rattle.step_vars.specs.declared.cells.Cell.{Cell}
use Rattle.step_vars.specs.declared.channel_test.NumberedChannel.{NumberedChannel}
use Rattle.step_vars.specs.declared.channel_test.ChannelTest.TheVariants.{FromSlot, IntoSlot, Splits, Merges}
use Rattle.step_vars.specs.declared.item.Claim.{Claim}
use Rattle.step_vars.specs.ChannelTests.{passes}
use Rattle.step_vars.specs.Lists.{ions_of, places_of, zones_of, performed, junctions_of, acts_of, orders_of, numbered_channels}
use Rattle.step_vars.specs.Families.{pairs_in, leaves_from_source, leaves_to_target, leaves_use_channel, all_stay_or_leave, all_stayed_or_came, use_passes_some, use_needs_empty_slot, use_empties_slot, splits_take_the_front, swaps_in_zone, swaps_of_neighbours, swaps_turn, chains_keep_order, merges_at_the_end, act_does, ions_in_zone, acts_do, all_done_by_acts, done_in_order, goal_needs_all, start_places, start_orders, start_undone}
use Rattle.step_vars.specs.Encoding.{start_clauses, activity_bounds}
use Rattle.clause_families.specs.declared.by_channel.IonRule.TheVariants.{FromSource, ToTarget, UsesChannel, FindsEmptySlot, EmptiesSlot}
use Rattle.clause_families.specs.declared.by_channel.TwoIonRule.TheVariants.{GoesAlong, MergesOutside}
use Rattle.clause_families.specs.declared.by_pair.PairRule.TheVariants.{InZone, NoneBetween, Turns}
use Rattle.clause_families.specs.declared.by_place.PlaceChannels.{PlaceChannels}
use Rattle.qc_base.specs.declared.ids.Ion.{Ion}
use Rattle.step_rules.specs.Placement.{start_of}
use Rattle.step_vars.specs.declared.item.Bound.{Bound}
use Rattle.clause_families.specs.Bounds.{one_activity, crossed}
use Rattle.step_clauses.specs.Start.{place_claim, order_claim, undone}
use Rattle.step_clauses.specs.Operations.{op_in_zones, stays_done, in_order, goal_needs}
use Rattle.clause_families.specs.Clauses.{passers, by_passing_pair, passing, by_ion, by_two_ions, by_pair, was_or_passes, at_ends_from, at_ends_into}

-- three parts that were added one after another
pub three_parts : {X : Type 0} (before first second third a b c d e f : List X) → first ≡ before ++ a → a ≡ d → second ≡ first ++ b → b ≡ e → third ≡ second ++ c → c ≡ f
    → third ≡ before ++ d ++ e ++ f
three_parts before first second third a b c d e f p x q y r z = rw (r, q, p, x, y, z) refl

pub two_parts : {X : Type 0} (before first second a b d e : List X) → first ≡ before ++ a → a ≡ d → second ≡ first ++ b → b ≡ e → second ≡ before ++ d ++ e
two_parts before first second a b d e p x q y = rw (q, p, x, y) refl

pub from_source_is : (s : SettingValue) (r t : ℕ) (ions : List ℕ) (channels : List NumberedChannel) → ions ≡ ions_of s → channels ≡ numbered_channels s
    → flat_map (λ c. map (by_ion FromSource r t c) ions) channels ≡ leaves_from_source s r t
from_source_is s r t ions channels e f = rw (e, f) refl

pub to_target_is : (s : SettingValue) (r t : ℕ) (ions : List ℕ) (channels : List NumberedChannel) → ions ≡ ions_of s → channels ≡ numbered_channels s
    → flat_map (λ c. map (by_ion ToTarget r t c) ions) channels ≡ leaves_to_target s r t
to_target_is s r t ions channels e f = rw (e, f) refl

pub uses_channel_is : (s : SettingValue) (r t : ℕ) (ions : List ℕ) (channels : List NumberedChannel) → ions ≡ ions_of s → channels ≡ numbered_channels s
    → flat_map (λ c. map (by_ion UsesChannel r t c) ions) channels ≡ leaves_use_channel s r t
uses_channel_is s r t ions channels e f = rw (e, f) refl

pub empty_slot_is : (s : SettingValue) (r t zones : ℕ) (ions : List ℕ) (all channels : List NumberedChannel) → ions ≡ ions_of s → all ≡ numbered_channels s → zones ≡ length s.trap.zones
    → channels ≡ filter (passing (passes (IntoSlot zones))) all
    → flat_map (λ c. map (by_ion FindsEmptySlot r t c) ions) channels ≡ use_needs_empty_slot s r t
empty_slot_is s r t zones ions all channels e f n h = rw (h, e, f, n) refl

pub whole_chain_is : (s : SettingValue) (r t zones : ℕ) (ions : List ℕ) (all channels : List NumberedChannel) → ions ≡ ions_of s → all ≡ numbered_channels s → zones ≡ length s.trap.zones
    → channels ≡ filter (passing (passes (FromSlot zones))) all
    → flat_map (λ c. map (by_ion EmptiesSlot r t c) ions) channels ≡ use_empties_slot s r t
whole_chain_is s r t zones ions all channels e f n h = rw (h, e, f, n) refl

pub splits_are : (s : SettingValue) (r t : ℕ) (ions : List ℕ) (all channels : List NumberedChannel) → ions ≡ ions_of s → all ≡ numbered_channels s
    → channels ≡ filter (passing (passes Splits)) all
    → flat_map (λ c. flat_map (λ i. map (by_two_ions GoesAlong r t c i) (filter (λ j. not (j == i)) ions)) ions) channels ≡ splits_take_the_front s r t
splits_are s r t ions all channels e f h = rw (h, e, f) refl

pub merges_are : (s : SettingValue) (r t : ℕ) (ions : List ℕ) (all channels : List NumberedChannel) → ions ≡ ions_of s → all ≡ numbered_channels s
    → channels ≡ filter (passing (passes Merges)) all
    → flat_map (λ c. flat_map (λ i. map (by_two_ions MergesOutside r t c i) (filter (λ j. not (j == i)) ions)) ions) channels ≡ merges_at_the_end s r t
merges_are s r t ions all channels e f h = rw (h, e, f) refl

pub in_zone_is : (s : SettingValue) (r t : ℕ) (ions : List ℕ) (pairs : List Cell) (zones : List ℕ) → ions ≡ ions_of s → pairs ≡ pairs_in s → zones ≡ zones_of s
    → flat_map (λ p. flat_map (by_pair InZone ions r t p) pairs) zones ≡ swaps_in_zone s r t
in_zone_is s r t ions pairs zones e f g = rw (f, g) refl

pub neighbours_are : (s : SettingValue) (r t : ℕ) (ions : List ℕ) (pairs : List Cell) (zones : List ℕ) → ions ≡ ions_of s → pairs ≡ pairs_in s → zones ≡ zones_of s
    → flat_map (λ p. flat_map (by_pair NoneBetween ions r t p) pairs) zones ≡ swaps_of_neighbours s r t
neighbours_are s r t ions pairs zones e f g = rw (e, f, g) refl

pub turns_are : (s : SettingValue) (r t : ℕ) (ions : List ℕ) (pairs : List Cell) (zones : List ℕ) → ions ≡ ions_of s → pairs ≡ pairs_in s → zones ≡ zones_of s
    → flat_map (λ p. flat_map (by_pair Turns ions r t p) pairs) zones ≡ swaps_turn s r t
turns_are s r t ions pairs zones e f g = rw (f, g) refl

-- ---- places with their channels

map_twice : {X Y : Type 0} (f : X → Y) (g : ℕ → X) (xs : List ℕ) → map f (map g xs) ≡ map (λ x. f (g x)) xs
map_twice f g [] = refl
map_twice f g (x ∷ xs) = ap (λ rest. f (g x) ∷ rest) (map_twice f g xs)

flat_twice : {X Y : Type 0} (f : ℕ → X → Y) (g : ℕ → X) (is xs : List ℕ) → flat_map (λ i. map (f i) (map g xs)) is ≡ flat_map (λ i. map (λ x. f i (g x)) xs) is
flat_twice f g [] xs = refl
flat_twice f g (i ∷ is) xs =
    ap (λ first. first ++ flat_map (λ j. map (f j) (map g xs)) is) (map_twice (f i) g xs)
    ∙ ap (λ rest. map (λ x. f i (g x)) xs ++ rest) (flat_twice f g is xs)

pub departures_are : (s : SettingValue) (r t : ℕ) (ions places : List ℕ) (channels : List NumberedChannel) (lists : List PlaceChannels) → ions ≡ ions_of s → places ≡ places_of s → channels ≡ numbered_channels s
    → lists ≡ map (at_ends_from channels) places
    → flat_map (λ i. map (was_or_passes r t t i) lists) ions ≡ all_stay_or_leave s r t
departures_are s r t ions places channels lists e f g h = rw (h, e, f, g) (flat_twice (was_or_passes r t t) (at_ends_from (numbered_channels s)) (ions_of s) (places_of s))

pub arrivals_are : (s : SettingValue) (r t : ℕ) (ions places : List ℕ) (channels : List NumberedChannel) (lists : List PlaceChannels) → ions ≡ ions_of s → places ≡ places_of s → channels ≡ numbered_channels s
    → lists ≡ map (at_ends_into channels) places
    → flat_map (λ i. map (was_or_passes t r t i) lists) ions ≡ all_stayed_or_came s r t
arrivals_are s r t ions places channels lists e f g h = rw (h, e, f, g) (flat_twice (was_or_passes t r t) (at_ends_into (numbered_channels s)) (ions_of s) (places_of s))

-- ---- parts of a group of families

-- one part more, or two, after a first one
pub then_part : {X : Type 0} (old now next first more : List X) → now ≡ old ++ first → next ≡ now ++ more → next ≡ old ++ (first ++ more)
then_part old now next first more e step = step ∙ ap (λ xs. xs ++ more) e ∙ append_assoc old first more

pub then_two : {X : Type 0} (old now next first a b : List X) → now ≡ old ++ first → next ≡ now ++ a ++ b → next ≡ old ++ (first ++ a ++ b)
then_two old now next first a b e step = then_part old (now ++ a) next (first ++ a) b (then_part old now (now ++ a) first a e refl) step

pub first_three : {X : Type 0} (old next a b c : List X) → next ≡ old ++ a ++ b ++ c → next ≡ old ++ (a ++ b ++ c)
first_three old next a b c step = then_two old (old ++ a) next a b c refl step

pub passers_are : (s : SettingValue) (r t : ℕ) (ions : List ℕ) (channels : List NumberedChannel) → ions ≡ ions_of s → channels ≡ numbered_channels s
    → map (passers t ions) channels ≡ use_passes_some s r t
passers_are s r t ions channels e f = rw (e, f) refl

pub chains_are : (s : SettingValue) (r t : ℕ) (pairs : List Cell) (channels : List NumberedChannel) → pairs ≡ pairs_in s → channels ≡ numbered_channels s
    → flat_map (λ c. flat_map (by_passing_pair r t c) pairs) channels ≡ chains_keep_order s r t
chains_are s r t pairs channels e f = rw (e, f) refl

pub in_zones_are : (s : SettingValue) (r t : ℕ) (ions ops : List ℕ) → ions ≡ ions_of s → ops ≡ performed s.circuit → flat_map (op_in_zones s r t ions) ops ≡ ions_in_zone s r t
in_zones_are s r t ions ops e f = rw (e, f) refl

pub acts_said : (s : SettingValue) (r t : ℕ) (acts : List Cell) → acts ≡ acts_of s → flat_map (act_does r t) acts ≡ acts_do s r t
acts_said s r t acts e = rw e refl

pub done_said : (s : SettingValue) (r t : ℕ) (ops : List ℕ) → ops ≡ performed s.circuit → flat_map (stays_done s r t) ops ≡ all_done_by_acts s r t
done_said s r t ops e = rw e refl

pub orders_said : (s : SettingValue) (r t : ℕ) (orders : List Cell) → orders ≡ orders_of s.circuit → map (in_order r t) orders ≡ done_in_order s r t
orders_said s r t orders e = rw e refl

pub goal_said : (s : SettingValue) (t : ℕ) (ops : List ℕ) → ops ≡ performed s.circuit → map (goal_needs t) ops ≡ goal_needs_all s t
goal_said s t ops e = rw e refl

pub start_is : (s : SettingValue) (lists : List (List Ion)) (ions places ops : List ℕ) (pairs : List Cell) (old first second third : List (List Claim))
    → lists ≡ start_of s.trap s.placement → ions ≡ ions_of s → places ≡ places_of s → pairs ≡ pairs_in s → ops ≡ performed s.circuit
    → first ≡ old ++ flat_map (λ i. map (place_claim lists i) places) ions → second ≡ first ++ map (order_claim lists) pairs → third ≡ second ++ map undone ops
    → third ≡ old ++ start_clauses s
start_is s lists ions places ops pairs old first second third l i p q o a b c =
    then_part old second third (start_places s ++ start_orders s) (start_undone s)
    (then_part old first second (start_places s) (start_orders s) (rw (l, i, p) at a) (rw (l, q) at b)) (rw o at c)

pub happen_are : (s : SettingValue) (t : ℕ) (places junctions ops : List ℕ) (channels through : List NumberedChannel) (pairs : List Cell) (none first second : List Bound)
    → none ≡ [] → places ≡ places_of s → junctions ≡ junctions_of s → ops ≡ performed s.circuit → channels ≡ numbered_channels s → through ≡ numbered_channels s → pairs ≡ pairs_in s
    → first ≡ none ++ map (one_activity s t channels pairs ops) places → second ≡ first ++ map (crossed t through) junctions → second ≡ activity_bounds s t
unfolding one_activity crossed
happen_are s t places junctions ops channels through pairs none first second n p j o c d q a b = rw (b, a, n, p, j, o, c, d, q) refl
