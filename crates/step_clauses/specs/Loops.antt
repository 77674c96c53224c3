-- Working notions of lemmas: the members of the lists that families run over are within the encoding.
use Rattle.std.specs.Prelude.{ℕ, ◌<◌, IsSome}
use Rattle.std.specs.List.{AllByRecursion}
use Rattle.step_rules.specs.Setting.{SettingValue}
use Rattle.step_vars.specs.declared.cells.Cell.{Cell}
use Rattle.step_vars.specs.declared.channel_test.NumberedChannel.{NumberedChannel}
use Rattle.step_vars.specs.Numbering.{Numbering, rank}
use Rattle.step_vars.specs.Lists.{ions_of, places_of, zones_of, performed, acts_of, orders_of, numbered_channels, able_zones}
use Rattle.step_vars.specs.Families.{pairs_in}
use Rattle.clause_families.specs.declared.by_place.PlaceChannels.{PlaceChannels}
use Rattle.clause_families.specs.Encoded.{Differ}

-- the channel has a number, and its ends are places
pub record HasEnds (n : Numbering) (c : NumberedChannel) : Type 0 where
  pub number : c.number < n.channels
  pub from : c.channel.from.0 < n.places
  pub to : c.channel.to.0 < n.places

-- two ions i < j, which have an order
pub record IsPair (n : Numbering) (pair : Cell) : Type 0 where
  pub order : pair.row < pair.col
  pub last : pair.col < n.ions
  pub there : IsSome (rank n.pairs pair.row pair.col)

-- a zone, which is a place
pub record IsZone (n : Numbering) (z : ℕ) : Type 0 where
  pub zone : z < n.zones
  pub place : z < n.places

abbrev pub IsOp : Numbering → ℕ → Type 0
IsOp n g = IsSome (rank n.ops g 0)

-- the zone may perform the operation
pub record IsAct (n : Numbering) (g z : ℕ) : Type 0 where
  pub act : IsSome (rank n.acts g z)
  pub zone : z < n.places

-- the operation is there, and its zones may perform it
pub record HasZones (n : Numbering) (setting : SettingValue) (g : ℕ) : Type 0 where
  pub op : IsOp n g
  pub zones : AllByRecursion (IsAct n g) (able_zones setting g)
  pub differ : Differ (able_zones setting g)

-- a place with channels that have numbers
pub record HasChannels (n : Numbering) (e : PlaceChannels) : Type 0 where
  pub place : e.place < n.places
  pub channels : AllByRecursion (λ c. c < n.channels) e.channels
  pub differ : Differ e.channels

-- the operation is there, and the zone may perform it
abbrev pub IsNumberedAct : Numbering → Cell → Type 0
IsNumberedAct n act = IsSome (rank n.acts act.row act.col) × IsOp n act.row

-- both operations are there
abbrev pub AreOps : Numbering → Cell → Type 0
AreOps n order = IsOp n order.row × IsOp n order.col

-- the members of all lists are
pub record Loops (n : Numbering) (setting : SettingValue) : Type 0 where
  pub ions : AllByRecursion (λ i. i < n.ions) (ions_of setting)
  pub places : AllByRecursion (λ p. p < n.places) (places_of setting)
  pub zones : AllByRecursion (IsZone n) (zones_of setting)
  pub channels : AllByRecursion (HasEnds n) (numbered_channels setting)
  pub pairs : AllByRecursion (IsPair n) (pairs_in setting)
  pub every : (i j : ℕ) → i < j → j < n.ions → IsSome (rank n.pairs i j)
  pub ops : AllByRecursion (HasZones n setting) (performed setting.circuit)
  pub acts : AllByRecursion (IsNumberedAct n) (acts_of setting)
  pub orders : AllByRecursion (AreOps n) (orders_of setting.circuit)
