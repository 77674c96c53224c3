-- When a circuit can be routed on a trap, and why it can't.
use Rattle.std.specs.Prelude.{◌≡◌, ℕ, ◌-◌, ◌<◌, ◌≤◌, ◌⊎◌, true, [], length, slice_index_or, Result, Ok, Err}
use Rattle.route_find.specs.Walks.{IsReachable}
use Rattle.circuit_core.specs.Order.{is_performed}
use Rattle.trap_model.specs.Trap.{limit_of}
use Rattle.step_rules.specs.Setting.{SettingValue}
use Rattle.step_rules.specs.Guards.{is_able_for}
use Rattle.greedy_router.specs.declared.has_room.RoomFault.{RoomFault}
use Rattle.greedy_router.specs.declared.has_room.RoomFault.TheVariants.{Tight, Apart, NoAble, NoMemory}

-- how many further ions the zone holds where a schedule begins
abbrev pub free_at : SettingValue → ℕ → ℕ
free_at setting zone = limit_of setting.trap zone - length (slice_index_or setting.placement zone [])

-- some zone has the ability that the operation needs
abbrev pub HasAbleZone : SettingValue → ℕ → Type 0
HasAbleZone setting op = (zone : ℕ) × (is_able_for setting zone op ≡ true)

-- Each zone has at least two free places and can be reached from zone 0, and each operation that is no barrier
-- has a zone that is able to perform it.
pub record HasRoom (setting : SettingValue) : Type 0 where
  pub free : (zone : ℕ) → zone < length setting.trap.zones → 2 ≤ free_at setting zone
  pub reached : (zone : ℕ) → zone < length setting.trap.zones → IsReachable setting.trap 0 zone
  pub able : (op : ℕ) → is_performed setting.circuit op ≡ true → HasAbleZone setting op

-- ---- why there is no room

-- the zone has fewer than two free places
pub record IsTight (setting : SettingValue) (zone : ℕ) : Type 0 where
  pub there : zone < length setting.trap.zones
  pub few : free_at setting zone < 2

-- no walk leads to the zone from zone 0
pub record IsApart (setting : SettingValue) (zone : ℕ) : Type 0 where
  pub there : zone < length setting.trap.zones
  pub apart : ¬ IsReachable setting.trap 0 zone

-- no zone has the ability that the operation needs
pub record IsUnable (setting : SettingValue) (op : ℕ) : Type 0 where
  pub performed : is_performed setting.circuit op ≡ true
  pub none : ¬ HasAbleZone setting op

-- what the fault says of the setting
abbrev pub Causes : SettingValue → RoomFault → Type 0
Causes setting (Tight zone free) = IsTight setting zone.0 × (free ≡ free_at setting zone.0)
Causes setting (Apart zone) = IsApart setting zone.0
Causes setting (NoAble op) = IsUnable setting op.0
Causes setting NoMemory = ⊥

-- the order of the kinds
abbrev pub rank : RoomFault → ℕ
rank (Tight zone free) = 0
rank (Apart zone) = 1
rank (NoAble op) = 2
rank NoMemory = 3

-- the number of the zone or operation
abbrev pub number : RoomFault → ℕ
number (Tight zone free) = zone.0
number (Apart zone) = zone.0
number (NoAble op) = op.0
number NoMemory = 0

-- its kind comes first, or the kinds are the same and its number is no greater
abbrev pub ComesFirst : RoomFault → RoomFault → Type 0
ComesFirst fault other = (rank fault < rank other) ⊎ ((rank fault ≡ rank other) × (number fault ≤ number other))

-- the fault has its cause, and no fault that has one comes before it
pub record IsFirst (setting : SettingValue) (fault : RoomFault) : Type 0 where
  pub cause : Causes setting fault
  pub first : (other : RoomFault) → Causes setting other → ComesFirst fault other

-- why there is no room; out of memory says nothing
abbrev pub Explains : SettingValue → RoomFault → Type 0
Explains setting NoMemory = Unit {0}
Explains setting fault = IsFirst setting fault

-- the answer says that there is room, or why there is none
abbrev pub JudgesRoom : SettingValue → Result (Unit {0}) RoomFault → Type 0
JudgesRoom setting (Ok there) = HasRoom setting
JudgesRoom setting (Err fault) = IsFirst setting fault

-- ---- Working notions of private functions.

-- the number has the property, and no smaller one has it
pub record IsLeast (property : ℕ → Type 0) (number : ℕ) : Type 0 where
  pub has : property number
  pub least : (other : ℕ) → property other → number ≤ other

-- a free place fewer than two is nowhere
abbrev pub AreFree : SettingValue → Type 0
AreFree setting = (zone : ℕ) → zone < length setting.trap.zones → 2 ≤ free_at setting zone

abbrev pub AreReached : SettingValue → Type 0
AreReached setting = (zone : ℕ) → zone < length setting.trap.zones → IsReachable setting.trap 0 zone

abbrev pub AreAble : SettingValue → Type 0
AreAble setting = (op : ℕ) → is_performed setting.circuit op ≡ true → HasAbleZone setting op
