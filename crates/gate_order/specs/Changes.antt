-- Working notions of private functions: what each of them changes.
use Rattle.std.specs.Prelude.{◌≡◌, ℕ, true, [], ◌∷◌, ◌++◌, insert, remove, slice_set, slice_index_or, vec_capacity, ◌<◌, ◌≤◌, length}
use Rattle.qc_base.specs.declared.ids.OpId.{OpId}
use Rattle.gate_order.specs.declared.progress.Progress.{Progress}
use Rattle.gate_order.specs.Keeping.{IsPlace}

-- no operation is known, and there is room for so many
pub record IsEmpty (count : ℕ) (p : Progress) : Type 0 where
  pub seen : p.seen.items ≡ []
  pub flags : p.flags.items ≡ []
  pub settled : p.settled.items ≡ []
  pub ready : p.ready.items ≡ []
  pub settled_room : vec_capacity p.settled ≡ count
  pub ready_room : vec_capacity p.ready ≡ count

pub record Settles (it : OpId) (old new : Progress) : Type 0 where
  pub seen : new.seen.items ≡ old.seen.items
  pub flags : new.flags.items ≡ slice_set old.flags.items it.0 true
  pub settled : new.settled.items ≡ old.settled.items ++ it ∷ []
  pub ready : new.ready.items ≡ old.ready.items
  pub settled_room : vec_capacity new.settled ≡ vec_capacity old.settled
  pub ready_room : vec_capacity new.ready ≡ vec_capacity old.ready

pub record Puts (it : OpId) (old new : Progress) : Type 0 where
  pub place : ℕ
  pub is_place : IsPlace old.ready.items it place
  pub seen : new.seen.items ≡ old.seen.items
  pub flags : new.flags.items ≡ old.flags.items
  pub settled : new.settled.items ≡ old.settled.items
  pub ready : new.ready.items ≡ insert old.ready.items place it
  pub settled_room : vec_capacity new.settled ≡ vec_capacity old.settled
  pub ready_room : vec_capacity old.ready ≤ vec_capacity new.ready

pub record Takes (it : OpId) (old new : Progress) : Type 0 where
  pub place : ℕ
  pub within : place < length old.ready.items
  pub is : (d : OpId) → slice_index_or old.ready.items place d ≡ it
  pub seen : new.seen.items ≡ old.seen.items
  pub flags : new.flags.items ≡ old.flags.items
  pub settled : new.settled.items ≡ old.settled.items
  pub ready : new.ready.items ≡ remove old.ready.items place
  pub settled_room : vec_capacity new.settled ≡ vec_capacity old.settled
  pub ready_room : vec_capacity new.ready ≡ vec_capacity old.ready
