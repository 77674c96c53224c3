-- A setting has one answer about room.
use Rattle.std.proofs.Common.{◌≡◌, ℕ, ◌<◌, ◌≤◌, ◌⊎◌, refl, sym, ap, ◌∙◌, inl, inr, arith}
use Rattle.std.specs.Prelude.{Result, Ok, Err}
use Rattle.qc_base.specs.declared.ids.OpId.{OpId}
use Rattle.qc_base.specs.declared.ids.PlaceId.{PlaceId}
use Rattle.step_rules.specs.Setting.{SettingValue}
use Rattle.greedy_router.specs.declared.has_room.RoomFault.{RoomFault}
use Rattle.greedy_router.specs.declared.has_room.RoomFault.TheVariants.{Tight, Apart, NoAble, NoMemory}
use Rattle.greedy_router.specs.Room.{HasRoom, Causes, IsFirst, JudgesRoom, free_at, rank, number}

abbrev place_at : ℕ → PlaceId
place_at number = record { 0 = number }

abbrev op_at : ℕ → OpId
op_at number = record { 0 = number }

-- where there is room, no fault has a cause
excluded : (setting : SettingValue) (fault : RoomFault) → HasRoom setting → Causes setting fault → ⊥
excluded setting (Tight zone free) room cause = omega (arith, cause.0.few, room.free zone.0 cause.0.there)
excluded setting (Apart zone) room cause = cause.apart (room.reached zone.0 cause.there)
excluded setting (NoAble op) room cause = cause.none (room.able op.0 cause.performed)
excluded setting NoMemory room cause = cause

-- two that come before each other have the same kind and the same number
same_order : (a b m n : ℕ) → ((a < b) ⊎ ((a ≡ b) × (m ≤ n))) → ((b < a) ⊎ ((b ≡ a) × (n ≤ m))) → (a ≡ b) × (m ≡ n)
same_order a b m n (inl below) (inl above) = absurd (omega arith)
same_order a b m n (inl below) (inr back) = absurd (omega (arith, back.0))
same_order a b m n (inr front) (inl above) = absurd (omega (arith, front.0))
same_order a b m n (inr front) (inr back) = (front.0, omega (arith, front.1, back.1))

same_kind : (setting : SettingValue) (fault other : RoomFault) → Causes setting fault → Causes setting other → rank fault ≡ rank other → number fault ≡ number other → fault ≡ other
same_kind setting (Tight zone free) (Tight other more) cause also kind e =
    ap (λ (it : PlaceId). Tight it free) (ap place_at e) ∙ ap (λ (count : ℕ). Tight other count) (cause.1 ∙ ap (free_at setting) e ∙ sym also.1)
same_kind setting (Tight zone free) (Apart other) cause also kind e = absurd (omega arith)
same_kind setting (Tight zone free) (NoAble op) cause also kind e = absurd (omega arith)
same_kind setting (Tight zone free) NoMemory cause also kind e = absurd also
same_kind setting (Apart zone) (Tight other more) cause also kind e = absurd (omega arith)
same_kind setting (Apart zone) (Apart other) cause also kind e = ap (λ (it : PlaceId). Apart it) (ap place_at e)
same_kind setting (Apart zone) (NoAble op) cause also kind e = absurd (omega arith)
same_kind setting (Apart zone) NoMemory cause also kind e = absurd also
same_kind setting (NoAble op) (Tight other more) cause also kind e = absurd (omega arith)
same_kind setting (NoAble op) (Apart other) cause also kind e = absurd (omega arith)
same_kind setting (NoAble op) (NoAble other) cause also kind e = ap (λ (it : OpId). NoAble it) (ap op_at e)
same_kind setting (NoAble op) NoMemory cause also kind e = absurd also
same_kind setting NoMemory other cause also kind e = absurd cause

same_fault : (setting : SettingValue) (fault other : RoomFault) → IsFirst setting fault → IsFirst setting other → fault ≡ other
same_fault setting fault other first also =
    let same = same_order (rank fault) (rank other) (number fault) (number other) (first.first other also.cause) (also.first fault first.cause) in
    same_kind setting fault other first.cause also.cause same.0 same.1

pub one_answer : (setting : SettingValue) (a b : Result (Unit {0}) RoomFault) → JudgesRoom setting a → JudgesRoom setting b → a ≡ b
one_answer setting (Ok there) (Ok also) room again = refl
one_answer setting (Ok there) (Err fault) room first = absurd (excluded setting fault room first.cause)
one_answer setting (Err fault) (Ok there) first room = absurd (excluded setting fault room first.cause)
one_answer setting (Err fault) (Err other) first also = ap (λ (it : RoomFault). Err it) (same_fault setting fault other first also)
