-- The clauses of families, each as a function of what it runs over. Step t leads from time r to time t.
use Rattle.std.specs.Prelude.{ℕ, nat_lt, Bool, if◌then◌else◌, List, [], ◌∷◌, map, filter, not, ◌==◌, ◌&&◌}
use Rattle.std.specs.List.{flat_map}
use Rattle.trap_model.specs.declared.channel.Channel.{Channel}
use Rattle.step_vars.specs.declared.cells.Cell.{Cell}
use Rattle.step_vars.specs.declared.channel_test.NumberedChannel.{NumberedChannel}
use Rattle.step_vars.specs.declared.item.Claim.{Claim}
use Rattle.step_vars.specs.Items.{at_item, use_item, leave_item, swap_item, so, not_so}
use Rattle.step_vars.specs.ChannelTests.{passes}
use Rattle.step_vars.specs.declared.channel_test.ChannelTest.{ChannelTest}
use Rattle.step_vars.specs.declared.channel_test.ChannelTest.TheVariants.{From, Into}
use Rattle.step_vars.specs.Families.{goes_along, merges_outside, swap_in_zone, none_between, swap_turns, keeps_order, pair_passes}
use Rattle.clause_families.specs.declared.by_channel.Times.{Times}
use Rattle.clause_families.specs.declared.by_channel.IonRule.{IonRule}
use Rattle.clause_families.specs.declared.by_channel.IonRule.TheVariants.{FromSource, ToTarget, UsesChannel, FindsEmptySlot, EmptiesSlot}
use Rattle.clause_families.specs.declared.by_channel.TwoIonRule.{TwoIonRule}
use Rattle.clause_families.specs.declared.by_channel.TwoIonRule.TheVariants.{GoesAlong, MergesOutside}
use Rattle.clause_families.specs.declared.by_pair.PairRule.{PairRule}
use Rattle.clause_families.specs.declared.by_pair.PairRule.TheVariants.{InZone, NoneBetween, Turns, Stays}
use Rattle.clause_families.specs.declared.by_place.PlaceChannels.{PlaceChannels}

-- the first number of a cell
abbrev pub row_of : Cell → ℕ
row_of it = it.row

-- the number of a channel
abbrev pub number_of : NumberedChannel → ℕ
number_of c = c.number

-- whether a channel passes a test
abbrev pub passing : (Channel → Bool) → NumberedChannel → Bool
passing test c = test c.channel

-- the numbers of the channels that pass a test
abbrev pub numbers_passing : ChannelTest → List NumberedChannel → List ℕ
numbers_passing test channels = map number_of (filter (passing (passes test)) channels)

-- ---- channels

-- the clause of a channel and an ion
abbrev pub by_ion : IonRule → ℕ → ℕ → NumberedChannel → ℕ → List Claim
by_ion FromSource r t c i = not_so (leave_item i c.number t) ∷ so (at_item i c.channel.from.0 r) ∷ []
by_ion ToTarget r t c i = not_so (leave_item i c.number t) ∷ so (at_item i c.channel.to.0 t) ∷ []
by_ion UsesChannel r t c i = not_so (leave_item i c.number t) ∷ so (use_item c.number t) ∷ []
by_ion FindsEmptySlot r t c i = not_so (use_item c.number t) ∷ not_so (at_item i c.channel.to.0 r) ∷ []
by_ion EmptiesSlot r t c i =
    not_so (use_item c.number t) ∷ not_so (at_item i c.channel.from.0 r) ∷ so (leave_item i c.number t) ∷ []

-- the clauses of each of these channels with each ion
abbrev pub ions_at_channels : IonRule → Times → List ℕ → List NumberedChannel → List (List Claim)
ions_at_channels rule times ions channels =
    flat_map (λ c. map (by_ion rule times.before times.time c) ions) channels

-- the clause of a channel and two ions
abbrev pub by_two_ions : TwoIonRule → ℕ → ℕ → NumberedChannel → ℕ → ℕ → List Claim
by_two_ions GoesAlong r t c i j = goes_along r t c i j
by_two_ions MergesOutside r t c i j = merges_outside r t c i j

-- the clauses of a channel and an ion with each other ion
abbrev pub with_others : TwoIonRule → Times → List ℕ → NumberedChannel → ℕ → List (List Claim)
with_others rule times ions c i =
    map (by_two_ions rule times.before times.time c i) (filter (λ j. not (j == i)) ions)

-- the clauses of a channel with each two ions
abbrev pub two_ions_at : TwoIonRule → Times → List ℕ → NumberedChannel → List (List Claim)
two_ions_at rule times ions c = flat_map (with_others rule times ions c) ions

-- the clauses of each of these channels with each two ions
abbrev pub two_ions_at_channels : TwoIonRule → Times → List ℕ → List NumberedChannel → List (List Claim)
two_ions_at_channels rule times ions channels = flat_map (two_ions_at rule times ions) channels

-- the channel is not used, or one of the ions passes
abbrev pub passers : ℕ → List ℕ → NumberedChannel → List Claim
passers t ions c = not_so (use_item c.number t) ∷ map (λ i. so (leave_item i c.number t)) ions

-- the two clauses of a channel and a pair: what their order is where both pass
abbrev pub by_passing_pair : ℕ → ℕ → NumberedChannel → Cell → List (List Claim)
by_passing_pair r t c pair = pair_passes r t c pair

-- the same for each of these pairs
abbrev pub pairs_at : Times → List Cell → NumberedChannel → List (List Claim)
pairs_at times pairs c = flat_map (by_passing_pair times.before times.time c) pairs

-- the same for each of these channels
abbrev pub pairs_at_channels : Times → List Cell → List NumberedChannel → List (List Claim)
pairs_at_channels times pairs channels = flat_map (pairs_at times pairs) channels

-- ---- pairs of ions

-- both ions are at the place at both times, and are not swapped there
abbrev pub staying_pair : ℕ → ℕ → ℕ → ℕ → Cell → List Claim
staying_pair zones r t p pair =
    not_so (at_item pair.row p r) ∷ not_so (at_item pair.col p r)
    ∷ not_so (at_item pair.row p t) ∷ not_so (at_item pair.col p t)
    ∷ (if nat_lt p zones then so (swap_item pair.row pair.col p t) ∷ [] else [])

-- then their order stays
abbrev pub stayers : ℕ → ℕ → ℕ → ℕ → Cell → List (List Claim)
stayers zones r t p pair = keeps_order (staying_pair zones r t p pair) r t pair

-- no other ion is between those of a swap
abbrev pub no_others_between : List ℕ → ℕ → ℕ → ℕ → Cell → List (List Claim)
no_others_between ions r t p pair =
    flat_map (none_between r t p pair) (filter (λ k. not (k == pair.row) && not (k == pair.col)) ions)

-- the clauses of a place and a pair
abbrev pub by_pair : PairRule → List ℕ → ℕ → ℕ → ℕ → Cell → List (List Claim)
by_pair InZone ions r t p pair = swap_in_zone r t p pair
by_pair NoneBetween ions r t p pair = no_others_between ions r t p pair
by_pair Turns ions r t p pair = swap_turns r t p pair
by_pair (Stays zones) ions r t p pair = stayers zones r t p pair

-- the same for each of these pairs
abbrev pub by_pairs : PairRule → Times → List ℕ → List Cell → ℕ → List (List Claim)
by_pairs rule times ions pairs p = flat_map (by_pair rule ions times.before times.time p) pairs

-- the same for each of these places
abbrev pub pairs_at_places : PairRule → Times → List ℕ → List Cell → List ℕ → List (List Claim)
pairs_at_places rule times ions pairs places = flat_map (by_pairs rule times ions pairs) places

-- ---- places

-- a place with the numbers of the channels that begin there
abbrev pub at_ends_from : List NumberedChannel → ℕ → PlaceChannels
at_ends_from channels p = record { place = p; channels = numbers_passing (From (record { 0 = p })) channels }

-- a place with the numbers of the channels that end there
abbrev pub at_ends_into : List NumberedChannel → ℕ → PlaceChannels
at_ends_into channels p = record { place = p; channels = numbers_passing (Into (record { 0 = p })) channels }

-- the ion is not there at one time, is there at the other, or passes
abbrev pub was_or_passes : ℕ → ℕ → ℕ → ℕ → PlaceChannels → List Claim
was_or_passes from to t i e =
    not_so (at_item i e.place from) ∷ so (at_item i e.place to) ∷ map (λ c. so (leave_item i c t)) e.channels

-- the same for each of these ions and places
abbrev pub ions_at_places : ℕ → ℕ → ℕ → List PlaceChannels → List ℕ → List (List Claim)
ions_at_places from to t places ions = flat_map (λ i. map (was_or_passes from to t i) places) ions
