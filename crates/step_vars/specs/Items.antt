-- What the variables of the encoding say, and claims of them.
use Rattle.std.specs.Prelude.{ℕ, nat_lt, Bool, true, false, not, if◌then◌else◌}
use Rattle.qc_base.specs.declared.ids.End.{End}
use Rattle.qc_base.specs.declared.ids.End.TheVariants.{A, B}
use Rattle.step_vars.specs.declared.item.Item.{Item}
use Rattle.step_vars.specs.declared.item.Item.TheVariants.{At, Ord, Use, Leave, Swap, Act, Done, Goal}
use Rattle.step_vars.specs.declared.item.Claim.{Claim}

-- ion i is at place p
abbrev pub at_item : ℕ → ℕ → ℕ → Item
at_item i p t = At (record { 0 = i }) (record { 0 = p }) t

-- ion i is nearer to end a than ion j, where i < j; of ions in different places it says nothing after time 0
abbrev pub ord_item : ℕ → ℕ → ℕ → Item
ord_item i j t = Ord (record { 0 = i }) (record { 0 = j }) t

-- in step t ions pass through channel c
abbrev pub use_item : ℕ → ℕ → Item
use_item c t = Use c t

-- in step t ion i passes through channel c
abbrev pub leave_item : ℕ → ℕ → ℕ → Item
leave_item i c t = Leave (record { 0 = i }) c t

-- in step t the ions i < j change places in zone z
abbrev pub swap_item : ℕ → ℕ → ℕ → ℕ → Item
swap_item i j z t = Swap (record { 0 = i }) (record { 0 = j }) (record { 0 = z }) t

-- in step t zone z performs operation g
abbrev pub act_item : ℕ → ℕ → ℕ → Item
act_item g z t = Act (record { 0 = g }) (record { 0 = z }) t

-- operation g was performed in a step up to t
abbrev pub done_item : ℕ → ℕ → Item
done_item g t = Done (record { 0 = g }) t

-- all operations were performed in steps up to t
abbrev pub goal_item : ℕ → Item
goal_item t = Goal t

-- the time or the step that an item speaks of
abbrev pub time_of : Item → ℕ
time_of (At i p t) = t
time_of (Ord i j t) = t
time_of (Use c t) = t
time_of (Leave i c t) = t
time_of (Swap i j z t) = t
time_of (Act g z t) = t
time_of (Done g t) = t
time_of (Goal t) = t

-- it speaks of a time, and not of a step
abbrev pub is_of_time : Item → Bool
is_of_time (At i p t) = true
is_of_time (Ord i j t) = true
is_of_time (Use c t) = false
is_of_time (Leave i c t) = false
is_of_time (Swap i j z t) = false
is_of_time (Act g z t) = false
is_of_time (Done g t) = true
is_of_time (Goal t) = true

-- ---- claims

abbrev pub so : Item → Claim
so item = record { item = item; positive = true }

abbrev pub not_so : Item → Claim
not_so item = record { item = item; positive = false }

abbrev pub denied : Claim → Claim
denied claim = record { item = claim.item; positive = not claim.positive }

-- of two ions, i is nearer to end a than j
abbrev pub nearer : ℕ → ℕ → ℕ → Claim
nearer i j t = if nat_lt i j then so (ord_item i j t) else not_so (ord_item j i t)

-- of two ions, i is nearer to that end than j
abbrev pub nearer_to : End → ℕ → ℕ → ℕ → Claim
nearer_to A i j t = nearer i j t
nearer_to B i j t = nearer j i t
