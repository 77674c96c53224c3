-- The families of a part have items of the encoding.
use Rattle.std.proofs.Common.{◌≡◌, ℕ, ◌<◌, ◌≤◌, Bool, List, map, length, sym, arith}
use Rattle.std.specs.List.{AllByRecursion}
use Rattle.trap_model.specs.declared.channel.Channel.{Channel}
use Rattle.trap_model.specs.Channels.{channels_of}
use Rattle.step_rules.specs.Setting.{SettingValue}
use Rattle.step_vars.specs.declared.channel_test.NumberedChannel.{NumberedChannel}
use Rattle.step_vars.specs.declared.item.Claim.{Claim}
use Rattle.step_vars.specs.Numbering.{Numbering}
use Rattle.step_vars.specs.Lists.{ion_count, ions_of, places_of, zones_of, performed, acts_of, orders_of, numbered_channels, begins_at, ends_at, into_slot, from_slot, is_split_channel, is_merge_channel, channels_where, numbers_where}
use Rattle.step_vars.specs.Families.{pairs_in, start_place, start_order, all_stay_or_leave, all_stayed_or_came, stays_or_leaves, stayed_or_came}
use Rattle.step_vars.specs.Encoding.{VarsValue, start_clauses, passing_clauses, order_clauses as orders_said, operation_clauses}
use Rattle.clause_families.specs.declared.by_channel.IonRule.TheVariants.{FromSource, ToTarget, UsesChannel, FindsEmptySlot, EmptiesSlot}
use Rattle.clause_families.specs.declared.by_channel.TwoIonRule.TheVariants.{GoesAlong, MergesOutside}
use Rattle.clause_families.specs.Clauses.{at_ends_from, at_ends_into, number_of}
use Rattle.clause_families.specs.Encoded.{Differ, IsEncodedClause, AreEncodedClauses}
use Rattle.step_clauses.specs.Emission.{IsStep}
use Rattle.step_clauses.specs.Loops.{HasEnds, HasChannels, IsPair, IsOp, HasZones, Loops}
use Rattle.clause_families.proofs.Every.{all_append, all_weaker, all_map, all_flat_map, all_filter_kept, differ_range}
use Rattle.clause_families.proofs.Numbered.{has_at, has_ord, has_done, one_claim}
use Rattle.step_clauses.proofs.ByChannel.{from_0, before_last, steps_apart, by_ion_clauses, by_two_clauses, passers_clauses, by_passing_clauses}
use Rattle.step_clauses.proofs.ByPair.{stay_clauses, in_zone_clauses, turn_clauses, neighbour_clauses}
use Rattle.step_clauses.proofs.ByPlace.{was_clause, in_zones_clauses, acts_clauses, done_clauses, order_clauses}
use Rattle.step_clauses.proofs.Within.{numbers_differ}

only_ends : (n : Numbering) (s : SettingValue) (test : Channel → Bool) → Loops n s → AllByRecursion (HasEnds n) (channels_where test s)
only_ends n s test loops = all_filter_kept (HasEnds n) (λ (c : NumberedChannel). test c.channel) (numbered_channels s) loops.channels

-- the channels of a place have numbers, which differ
pub numbers_in : (n : Numbering) (s : SettingValue) (test : Channel → Bool) → Loops n s → AllByRecursion (λ c. c < n.channels) (numbers_where test s)
numbers_in n s test loops = all_map (HasEnds n) (λ c. c < n.channels) number_of (channels_where test s) (λ c ends. ends.number) (only_ends n s test loops)

pub numbers_once : (s : SettingValue) (test : Channel → Bool) → Differ (numbers_where test s)
numbers_once s test = numbers_differ (λ (c : NumberedChannel). test c.channel) 0 (channels_of s.trap)

from_channels : (n : Numbering) (s : SettingValue) (p : ℕ) → Loops n s → p < n.places → HasChannels n (at_ends_from (numbered_channels s) p)
from_channels n s p loops hp = record { place = hp; channels = numbers_in n s (begins_at p) loops; differ = numbers_once s (begins_at p) }

into_channels : (n : Numbering) (s : SettingValue) (p : ℕ) → Loops n s → p < n.places → HasChannels n (at_ends_into (numbered_channels s) p)
into_channels n s p loops hp = record { place = hp; channels = numbers_in n s (ends_at p) loops; differ = numbers_once s (ends_at p) }

departures : (v : VarsValue) (s : SettingValue) (r t : ℕ) → Loops v.numbering s → IsStep v r t → AreEncodedClauses v (all_stay_or_leave s r t)
departures v s r t loops step =
    all_flat_map (λ i. i < v.numbering.ions) (IsEncodedClause v) (λ i. map (stays_or_leaves s r t i) (places_of s)) (ions_of s)
    (λ i below. all_map (λ p. p < v.numbering.places) (IsEncodedClause v) (stays_or_leaves s r t i) (places_of s)
    (λ p hp. was_clause v r t t i (at_ends_from (numbered_channels s) p) (before_last v r t step) step.last (steps_apart v r t step) (from_0 v r t step) step.last below (from_channels v.numbering s p loops hp)) loops.places) loops.ions

arrivals : (v : VarsValue) (s : SettingValue) (r t : ℕ) → Loops v.numbering s → IsStep v r t → AreEncodedClauses v (all_stayed_or_came s r t)
arrivals v s r t loops step =
    all_flat_map (λ i. i < v.numbering.ions) (IsEncodedClause v) (λ i. map (stayed_or_came s r t i) (places_of s)) (ions_of s)
    (λ i below. all_map (λ p. p < v.numbering.places) (IsEncodedClause v) (stayed_or_came s r t i) (places_of s)
    (λ p hp. was_clause v t r t i (at_ends_into (numbered_channels s) p) step.last (before_last v r t step) (λ e. steps_apart v r t step (sym e)) (from_0 v r t step) step.last below (into_channels v.numbering s p loops hp)) loops.places) loops.ions

pub passing_encoded : (v : VarsValue) (s : SettingValue) (r t : ℕ) → Loops v.numbering s → IsStep v r t → AreEncodedClauses v (passing_clauses s r t)
passing_encoded v s r t loops step =
    let P = IsEncodedClause v in
    let n = v.numbering in
    let all = λ (xs ys : List (List Claim)) (a : AllByRecursion (IsEncodedClause v) xs) (b : AllByRecursion (IsEncodedClause v) ys). all_append (IsEncodedClause v) xs ys a b in
    let once = differ_range 0 (ion_count s) in
    all _ _ (all _ _ (all _ _ (all _ _ (all _ _ (all _ _ (all _ _ (all _ _
    (by_ion_clauses v FromSource r t (ions_of s) (numbered_channels s) step loops.ions loops.channels)
    (by_ion_clauses v ToTarget r t (ions_of s) (numbered_channels s) step loops.ions loops.channels))
    (by_ion_clauses v UsesChannel r t (ions_of s) (numbered_channels s) step loops.ions loops.channels))
    (departures v s r t loops step))
    (arrivals v s r t loops step))
    (passers_clauses v r t (ions_of s) (numbered_channels s) step loops.ions once loops.channels))
    (by_ion_clauses v FindsEmptySlot r t (ions_of s) (channels_where (into_slot s) s) step loops.ions (only_ends n s (into_slot s) loops)))
    (by_ion_clauses v EmptiesSlot r t (ions_of s) (channels_where (from_slot s) s) step loops.ions (only_ends n s (from_slot s) loops)))
    (by_two_clauses v GoesAlong r t (ions_of s) (channels_where is_split_channel s) step loops.every loops.ions (only_ends n s is_split_channel loops))

pub orders_encoded : (v : VarsValue) (s : SettingValue) (r t : ℕ) → length s.trap.zones ≡ v.numbering.zones → Loops v.numbering s → IsStep v r t → AreEncodedClauses v (orders_said s r t)
orders_encoded v s r t same loops step =
    let n = v.numbering in
    let all = λ (xs ys : List (List Claim)) (a : AllByRecursion (IsEncodedClause v) xs) (b : AllByRecursion (IsEncodedClause v) ys). all_append (IsEncodedClause v) xs ys a b in
    all _ _ (all _ _ (all _ _ (all _ _ (all _ _
    (in_zone_clauses v r t (ions_of s) (pairs_in s) (zones_of s) step loops.pairs loops.zones)
    (neighbour_clauses v r t (ions_of s) (pairs_in s) (zones_of s) step loops.every loops.ions loops.pairs loops.zones))
    (turn_clauses v r t (ions_of s) (pairs_in s) (zones_of s) step loops.pairs loops.zones))
    (stay_clauses v (length s.trap.zones) r t (ions_of s) (pairs_in s) (places_of s) step same loops.pairs loops.places))
    (by_passing_clauses v r t (pairs_in s) (numbered_channels s) step loops.pairs loops.channels))
    (by_two_clauses v MergesOutside r t (ions_of s) (channels_where is_merge_channel s) step loops.every loops.ions (only_ends n s is_merge_channel loops))

pub operations_encoded : (v : VarsValue) (s : SettingValue) (r t : ℕ) → Loops v.numbering s → IsStep v r t → AreEncodedClauses v (operation_clauses s r t)
operations_encoded v s r t loops step =
    let all = λ (xs ys : List (List Claim)) (a : AllByRecursion (IsEncodedClause v) xs) (b : AllByRecursion (IsEncodedClause v) ys). all_append (IsEncodedClause v) xs ys a b in
    all _ _ (all _ _ (all _ _
    (in_zones_clauses v s r t (ions_of s) (performed s.circuit) step loops.ions loops.ops)
    (acts_clauses v r t (acts_of s) step loops.acts))
    (done_clauses v s r t (performed s.circuit) step loops.ops))
    (order_clauses v r t (orders_of s.circuit) step loops.orders)

-- the operations alone
pub only_ops : (n : Numbering) (s : SettingValue) → Loops n s → AllByRecursion (IsOp n) (performed s.circuit)
only_ops n s loops = all_weaker (HasZones n s) (IsOp n) (performed s.circuit) (λ g h. h.op) loops.ops

pub start_encoded : (v : VarsValue) (s : SettingValue) → Loops v.numbering s → AreEncodedClauses v (start_clauses s)
start_encoded v s loops =
    let n = v.numbering in
    let none : 0 ≤ v.steps = omega arith in
    let all = λ (xs ys : List (List Claim)) (a : AllByRecursion (IsEncodedClause v) xs) (b : AllByRecursion (IsEncodedClause v) ys). all_append (IsEncodedClause v) xs ys a b in
    all _ _ (all _ _
    (all_flat_map (λ i. i < n.ions) (IsEncodedClause v) (λ i. map (start_place s i) (places_of s)) (ions_of s)
    (λ i below. all_map (λ p. p < n.places) (IsEncodedClause v) (start_place s i) (places_of s) (λ p hp. one_claim v _ (has_at v i p 0 below hp none)) loops.places) loops.ions)
    (all_map (IsPair n) (IsEncodedClause v) (start_order s) (pairs_in s) (λ pair is. one_claim v _ (has_ord v pair.row pair.col 0 is.there none)) loops.pairs))
    (all_map (IsOp n) (IsEncodedClause v) _ (performed s.circuit) (λ g op. one_claim v _ (has_done v g 0 op none)) (only_ops n s loops))
