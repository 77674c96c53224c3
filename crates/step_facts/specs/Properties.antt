-- What each family of clauses says of the facts, in words of the trap and the circuit. Step t leads from time
-- r to time t.
use Rattle.std.specs.Prelude.{◌≡◌, ◌≢◌, ℕ, ◌<◌, ◌≤◌, true, false, not, if◌then◌else◌, IsTrue, length, ◌⊎◌}
use Rattle.qc_base.specs.Counting.{how_many}
use Rattle.circuit_core.specs.Deciding.{is_forced}
use Rattle.circuit_core.specs.Order.{is_performed}
use Rattle.trap_model.specs.Trap.{place_count, limit_of, is_zone}
use Rattle.trap_parts.specs.Joins.{same_end}
use Rattle.trap_model.specs.Channels.{is_through, splits, merges}
use Rattle.trap_model.specs.declared.channel.Channel.{Channel}
use Rattle.step_rules.specs.Setting.{SettingValue}
use Rattle.step_vars.specs.Items.{at_item, ord_item, swap_item, done_item, goal_item}
use Rattle.step_vars.specs.Lists.{ion_count, ions_of, is_ion_of, starts_at, starts_before}
use Rattle.step_facts.specs.Facts.{Facts, IsAt, IsUsed, PassesBy, AreSwapped, IsPerformedIn, IsDone, IsNearer, IsNearerTo, IsChannel, LeavesPlace, EntersPlace}
use Rattle.step_facts.specs.Activities.{Activity, operation, IsActivity, works_at, item_of}

-- ---- the start

-- each ion is where it begins, and nowhere else
abbrev pub StartPlaces : SettingValue → Facts → Type 0
StartPlaces setting facts = (i p : ℕ) → i < ion_count setting → p < place_count setting.trap
    → facts (at_item i p 0) ≡ starts_at setting i p

-- the ions of a zone are in the placement's order
abbrev pub StartOrders : SettingValue → Facts → Type 0
StartOrders setting facts = (i j : ℕ) → i < j → j < ion_count setting
    → facts (ord_item i j 0) ≡ starts_before setting i j

-- no operation is done
abbrev pub StartUndone : SettingValue → Facts → Type 0
StartUndone setting facts = (g : ℕ) → IsTrue (is_performed setting.circuit g) → facts (done_item g 0) ≡ false

-- ---- places

-- an ion is in at most one place
abbrev pub OnePlace : SettingValue → Facts → ℕ → Type 0
OnePlace setting facts t =
    (i p q : ℕ) → i < ion_count setting → p < place_count setting.trap → q < place_count setting.trap
    → IsAt facts i p t → IsAt facts i q t → p ≡ q

-- a place has no more ions than its limit
abbrev pub FewIons : SettingValue → Facts → ℕ → Type 0
FewIons setting facts t = (p : ℕ) → p < place_count setting.trap
    → how_many (λ i. facts (at_item i p t)) (ions_of setting) ≤ limit_of setting.trap p

-- ---- ions that pass

-- an ion that passes was where the channel begins
abbrev pub PassersWereAtSource : SettingValue → Facts → ℕ → ℕ → Type 0
PassersWereAtSource setting facts r t =
    (c : ℕ) (channel : Channel) (i : ℕ) → IsChannel setting c channel → i < ion_count setting
    → PassesBy facts i c t → IsAt facts i channel.from.0 r

-- and is then where it ends
abbrev pub PassersAreAtTarget : SettingValue → Facts → ℕ → ℕ → Type 0
PassersAreAtTarget setting facts r t =
    (c : ℕ) (channel : Channel) (i : ℕ) → IsChannel setting c channel → i < ion_count setting
    → PassesBy facts i c t → IsAt facts i channel.to.0 t

-- its channel is used
abbrev pub PassersUseChannel : SettingValue → Facts → ℕ → ℕ → Type 0
PassersUseChannel setting facts r t =
    (c : ℕ) (channel : Channel) (i : ℕ) → IsChannel setting c channel → i < ion_count setting
    → PassesBy facts i c t → IsUsed facts c t

-- an ion stays at its place, or passes by a channel from there
abbrev pub StaysOrLeaves : SettingValue → Facts → ℕ → ℕ → Type 0
StaysOrLeaves setting facts r t = (i p : ℕ) → i < ion_count setting → p < place_count setting.trap
    → IsAt facts i p r → IsAt facts i p t ⊎ LeavesPlace setting facts i p t

-- an ion was at its place before, or passed by a channel that ends there
abbrev pub StayedOrEntered : SettingValue → Facts → ℕ → ℕ → Type 0
StayedOrEntered setting facts r t = (i p : ℕ) → i < ion_count setting → p < place_count setting.trap
    → IsAt facts i p t → IsAt facts i p r ⊎ EntersPlace setting facts i p t

-- ---- channels in use

-- an ion that passes through a channel
pub record SomePasses (setting : SettingValue) (facts : Facts) (c t : ℕ) : Type 0 where
  pub ion : ℕ
  pub there : ion < ion_count setting
  pub passes : PassesBy facts ion c t

-- through a used channel some ion passes
abbrev pub UsePassesSome : SettingValue → Facts → ℕ → ℕ → Type 0
UsePassesSome setting facts r t = (c : ℕ) (channel : Channel) → IsChannel setting c channel
    → IsUsed facts c t → SomePasses setting facts c t

-- a channel into a slot is used only where the slot was empty
abbrev pub UseNeedsEmptySlot : SettingValue → Facts → ℕ → ℕ → Type 0
UseNeedsEmptySlot setting facts r t =
    (c : ℕ) (channel : Channel) (i : ℕ) → IsChannel setting c channel → i < ion_count setting
    → is_zone setting.trap channel.to.0 ≡ false → IsUsed facts c t → facts (at_item i channel.to.0 r) ≡ false

-- through a channel from a slot all its ions pass
abbrev pub UseEmptiesSlot : SettingValue → Facts → ℕ → ℕ → Type 0
UseEmptiesSlot setting facts r t =
    (c : ℕ) (channel : Channel) (i : ℕ) → IsChannel setting c channel → i < ion_count setting
    → is_zone setting.trap channel.from.0 ≡ false → IsUsed facts c t → IsAt facts i channel.from.0 r
    → PassesBy facts i c t

-- where an ion splits from a zone, all that are nearer to the exit pass too
abbrev pub SplitsTakeTheFront : SettingValue → Facts → ℕ → ℕ → Type 0
SplitsTakeTheFront setting facts r t =
    (c : ℕ) (channel : Channel) (i j : ℕ) → IsChannel setting c channel → IsTrue (splits channel.kind)
    → i < ion_count setting → j < ion_count setting → j ≢ i
    → PassesBy facts i c t → IsAt facts j channel.from.0 r → IsNearerTo facts channel.from_end j i r
    → PassesBy facts j c t

-- ---- one activity at a time

-- at each place at most one activity happens
abbrev pub OneActivityEach : SettingValue → Facts → ℕ → Type 0
OneActivityEach setting facts t =
    (p : ℕ) (a b : Activity) → p < place_count setting.trap → IsActivity setting a → IsActivity setting b
    → works_at p a ≡ true → works_at p b ≡ true → facts (item_of t a) ≡ true → facts (item_of t b) ≡ true
    → a ≡ b

-- through each junction at most one channel is used
abbrev pub OneCrossingEach : SettingValue → Facts → ℕ → Type 0
OneCrossingEach setting facts t =
    (junction c d : ℕ) (first second : Channel) → junction < length setting.trap.junctions
    → IsChannel setting c first → IsChannel setting d second → IsTrue (is_through junction first)
    → IsTrue (is_through junction second)
    → IsUsed facts c t → IsUsed facts d t → c ≡ d

-- ---- swaps

-- the ions that are swapped in a zone are there
abbrev pub SwappedAreInZone : SettingValue → Facts → ℕ → ℕ → Type 0
SwappedAreInZone setting facts r t =
    (i j z : ℕ) → i < j → j < ion_count setting → z < length setting.trap.zones
    → AreSwapped facts i j z t → IsAt facts i z r × IsAt facts j z r

-- and no third ion is between them
abbrev pub SwappedAreNeighbours : SettingValue → Facts → ℕ → ℕ → Type 0
SwappedAreNeighbours setting facts r t =
    (i j k z : ℕ) → i < j → j < ion_count setting → z < length setting.trap.zones
    → k < ion_count setting → k ≢ i → k ≢ j → AreSwapped facts i j z t → IsAt facts k z r
    → ((IsNearer facts i k r × IsNearer facts k j r) → ⊥)
    × ((IsNearer facts j k r × IsNearer facts k i r) → ⊥)

-- their order turns
abbrev pub SwapsTurn : SettingValue → Facts → ℕ → ℕ → Type 0
SwapsTurn setting facts r t = (i j z : ℕ) → i < j → j < ion_count setting → z < length setting.trap.zones
    → AreSwapped facts i j z t → facts (ord_item i j t) ≡ not (facts (ord_item i j r))

-- ---- the order of ions

-- ions that stay at a place and are not swapped keep their order
abbrev pub StayersKeepOrder : SettingValue → Facts → ℕ → ℕ → Type 0
StayersKeepOrder setting facts r t =
    (i j p : ℕ) → i < j → j < ion_count setting → p < place_count setting.trap
    → IsAt facts i p r → IsAt facts j p r → IsAt facts i p t → IsAt facts j p t
    → (IsTrue (is_zone setting.trap p) → facts (swap_item i j p t) ≡ false)
    → facts (ord_item i j t) ≡ facts (ord_item i j r)

-- ions that pass together keep their order along the path: seen from the ends it turns where both ends of the
-- channel have the same letter
abbrev pub PassersKeepOrder : SettingValue → Facts → ℕ → ℕ → Type 0
PassersKeepOrder setting facts r t =
    (i j c : ℕ) (channel : Channel) → i < j → j < ion_count setting → IsChannel setting c channel
    → PassesBy facts i c t → PassesBy facts j c t
    → facts (ord_item i j t)
    ≡ (if same_end channel.from_end channel.to_end then not (facts (ord_item i j r))
    else facts (ord_item i j r))

-- an ion that merges into a zone is nearer to the end by which it came than those that were there
abbrev pub MergesAtTheEnd : SettingValue → Facts → ℕ → ℕ → Type 0
MergesAtTheEnd setting facts r t =
    (c : ℕ) (channel : Channel) (i j : ℕ) → IsChannel setting c channel → IsTrue (merges channel.kind)
    → i < ion_count setting → j < ion_count setting → i ≢ j
    → PassesBy facts j c t → IsAt facts i channel.to.0 r → IsNearerTo facts channel.to_end j i t

-- ---- operations

-- the ions of an operation that a zone performs are there
abbrev pub IonsAreInZone : SettingValue → Facts → ℕ → ℕ → Type 0
IonsAreInZone setting facts r t =
    (g z i : ℕ) → IsActivity setting (operation g z) → i < ion_count setting → IsTrue (is_ion_of setting g i)
    → IsPerformedIn facts g z t → IsAt facts i z r

-- it was not done before, and is done then
abbrev pub PerformedOnce : SettingValue → Facts → ℕ → ℕ → Type 0
PerformedOnce setting facts r t = (g z : ℕ) → IsActivity setting (operation g z)
    → IsPerformedIn facts g z t → (facts (done_item g r) ≡ false) × IsDone facts g t

-- a zone that performs the operation
pub record IsPerformed (setting : SettingValue) (facts : Facts) (g t : ℕ) : Type 0 where
  pub zone : ℕ
  pub able : IsActivity setting (operation g zone)
  pub performs : IsPerformedIn facts g zone t

-- what is done stays done, and is done by being performed
abbrev pub DoneByPerforming : SettingValue → Facts → ℕ → ℕ → Type 0
DoneByPerforming setting facts r t = (g : ℕ) → IsTrue (is_performed setting.circuit g)
    → (IsDone facts g r → IsDone facts g t)
    × (IsDone facts g t → IsDone facts g r ⊎ IsPerformed setting facts g t)

-- what has to come before it was done before
abbrev pub DoneInOrder : SettingValue → Facts → ℕ → ℕ → Type 0
DoneInOrder setting facts r t =
    (g h : ℕ) → IsTrue (is_performed setting.circuit g) → IsTrue (is_performed setting.circuit h)
    → IsTrue (is_forced setting.circuit h g) → IsDone facts g t → IsDone facts h r

-- the goal is that all operations are done
abbrev pub GoalNeedsAll : SettingValue → Facts → ℕ → Type 0
GoalNeedsAll setting facts t =
    (g : ℕ) → IsTrue (is_performed setting.circuit g) → facts (goal_item t) ≡ true → IsDone facts g t
