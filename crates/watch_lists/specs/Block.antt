-- Working notions of private functions: what the owner of a block of words owns, and what a `&` to it lends.
use Rattle.std.specs.Prelude.{ℕ, ◌+◌, ◌*◌, ◌^◌, List, [], ◌∷◌, length, Option, Some, None}
use base.Fraction.{full_share}
use base.Fml.{Lft, Fml, ftrue, ffalse, fsep, flt, froom}
use mir.Syntax.{ty_int, ty_array, w32}
use denote.Builtin.{u32}
use denote.Memory.{part_at, shared_of}
use denote.Sharing.{nothing, said, beside}
use denote.RawPtr.{Ptr, block_ptr, null_ptr}
use Rattle.std.specs.declared.alloc.Global.{Global}
use Rattle.std.specs.contracts.impls.GlobalAllocator.TheImpl.{ghosts}

-- one place, o bytes into the block b: a word, or room for one
abbrev pub place : ℕ → ℕ → Option ℕ → Fml
place b o (Some word) = part_at u32 full_share word b o
place b o None = froom (ty_int w32) b o

-- places side by side
abbrev pub places : ℕ → ℕ → List (Option ℕ) → Fml
places b o [] = ftrue
places b o (p ∷ ps) = fsep (place b o p) (places b (o + 4) ps)

abbrev pub place_lent : ℕ → ℕ → Option ℕ → Lft → Fml
place_lent b o (Some word) = shared_of u32 word b o
place_lent b o None = nothing

abbrev pub places_lent : ℕ → ℕ → List (Option ℕ) → Lft → Fml
places_lent b o [] = nothing
places_lent b o (p ∷ ps) = beside (place_lent b o p) (places_lent b (o + 4) ps)

-- the places take fewer than 2 ^ 63 bytes, as every allocation
abbrev pub fits : List (Option ℕ) → Fml
fits ps = flt (length ps * 4) (2 ^ 63)

-- the right to free the block of n places at p
abbrev pub freeing : Global → Ptr → ℕ → Fml
freeing alloc p n = ghosts.dealloc_token alloc (ty_array (ty_int w32) n) p

abbrev pub block_owned : Global → Ptr → List (Option ℕ) → Fml
block_owned alloc (block_ptr b o) ps =
    fsep (fits ps) (fsep (places b o ps) (freeing alloc (block_ptr b o) (length ps)))
block_owned alloc null_ptr ps = ffalse

abbrev pub block_lent : Ptr → List (Option ℕ) → Lft → Fml
block_lent (block_ptr b o) ps = beside (said (fits ps)) (beside (places_lent b o ps) nothing)
block_lent null_ptr ps = said ffalse
