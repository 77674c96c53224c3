-- Facts: which items are true. Step t leads from time r to time t.
use Rattle.std.specs.Prelude.{◌≡◌, ℕ, ◌≤◌, Bool, true, not, if◌then◌else◌, List, [], ◌∷◌, slice_get, Some, ◌⊎◌}
use Rattle.qc_base.specs.declared.ids.End.{End}
use Rattle.qc_base.specs.Counting.{how_many}
use Rattle.trap_model.specs.Channels.{channels_of}
use Rattle.trap_model.specs.declared.channel.Channel.{Channel}
use Rattle.step_rules.specs.Setting.{SettingValue}
use Rattle.step_vars.specs.declared.item.Item.{Item}
use Rattle.step_vars.specs.declared.item.Claim.{Claim}
use Rattle.step_vars.specs.Items.{at_item, use_item, leave_item, swap_item, act_item, done_item, nearer, nearer_to}
use Rattle.step_vars.specs.declared.item.Bound.{Bound}

abbrev pub Facts : Type 0
Facts = Item → Bool

-- ---- claims and bounds

abbrev pub holds : Facts → Claim → Bool
holds facts claim = if claim.positive then facts claim.item else not (facts claim.item)

-- some claim of the clause holds
abbrev pub SomeHolds : Facts → List Claim → Type 0
SomeHolds facts [] = ⊥
SomeHolds facts (claim ∷ claims) = (holds facts claim ≡ true) ⊎ SomeHolds facts claims

-- each of the clauses has a claim that holds
abbrev pub AllHold : Facts → List (List Claim) → Type 0
AllHold facts [] = Unit {0}
AllHold facts (clause ∷ clauses) = SomeHolds facts clause × AllHold facts clauses

-- no more of the items are true than the limit
abbrev pub IsBounded : Facts → Bound → Type 0
IsBounded facts bound = how_many facts bound.items ≤ bound.limit

abbrev pub AreBounded : Facts → List Bound → Type 0
AreBounded facts [] = Unit {0}
AreBounded facts (bound ∷ bounds) = IsBounded facts bound × AreBounded facts bounds

-- ---- what the items say

-- ion i is at place p at time t
abbrev pub IsAt : Facts → ℕ → ℕ → ℕ → Type 0
IsAt facts i p t = facts (at_item i p t) ≡ true

-- in step t ions pass through channel c
abbrev pub IsUsed : Facts → ℕ → ℕ → Type 0
IsUsed facts c t = facts (use_item c t) ≡ true

-- in step t ion i passes through channel c
abbrev pub PassesBy : Facts → ℕ → ℕ → ℕ → Type 0
PassesBy facts i c t = facts (leave_item i c t) ≡ true

-- in step t the ions i < j change places in zone z
abbrev pub AreSwapped : Facts → ℕ → ℕ → ℕ → ℕ → Type 0
AreSwapped facts i j z t = facts (swap_item i j z t) ≡ true

-- in step t zone z performs operation g
abbrev pub IsPerformedIn : Facts → ℕ → ℕ → ℕ → Type 0
IsPerformedIn facts g z t = facts (act_item g z t) ≡ true

-- operation g was performed in a step up to t
abbrev pub IsDone : Facts → ℕ → ℕ → Type 0
IsDone facts g t = facts (done_item g t) ≡ true

-- of two ions of one place, i is nearer to end a than j
abbrev pub IsNearer : Facts → ℕ → ℕ → ℕ → Type 0
IsNearer facts i j t = holds facts (nearer i j t) ≡ true

-- i is nearer to that end than j
abbrev pub IsNearerTo : Facts → End → ℕ → ℕ → ℕ → Type 0
IsNearerTo facts end i j t = holds facts (nearer_to end i j t) ≡ true

-- the trap's channel of that number
abbrev pub IsChannel : SettingValue → ℕ → Channel → Type 0
IsChannel setting c channel = slice_get (channels_of setting.trap) c ≡ Some channel

-- a channel by which the ion passes in step t
pub record PassesSome (setting : SettingValue) (facts : Facts) (i t : ℕ) (ends : Channel → ℕ) (p : ℕ)
    : Type 0 where
  pub number : ℕ
  pub channel : Channel
  pub there : IsChannel setting number channel
  pub at_place : ends channel ≡ p
  pub passes : PassesBy facts i number t

-- it passes by a channel that begins at place p, or that ends there
abbrev pub LeavesPlace : SettingValue → Facts → ℕ → ℕ → ℕ → Type 0
LeavesPlace setting facts i p t = PassesSome setting facts i t (λ (channel : Channel). channel.from.0) p

abbrev pub EntersPlace : SettingValue → Facts → ℕ → ℕ → ℕ → Type 0
EntersPlace setting facts i p t = PassesSome setting facts i t (λ (channel : Channel). channel.to.0) p
