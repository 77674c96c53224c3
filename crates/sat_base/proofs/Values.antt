-- The values of an assignment.
use Rattle.std.proofs.Common.{◌≡◌, ℕ, zero, suc, ◌-◌, ◌≤◌, Bool, false, List, slice_index_or, replicate, refl, arith}
use Rattle.sat_base.specs.Valuation.{valuation_of}

all_false : (count k : ℕ) → slice_index_or (replicate count false) k false ≡ false
all_false zero k = refl
all_false (suc count) zero = refl
all_false (suc count) (suc k) = all_false count k

-- at the start every variable is false
pub valuation_of-replicate : (count var : ℕ) → valuation_of (replicate count false) var ≡ false
valuation_of-replicate count zero = refl
valuation_of-replicate count (suc var) = all_false count var

-- a variable's value is at its place, counted from 0
pub valuation_of-at : (values : List Bool) (var : ℕ) → 1 ≤ var → valuation_of values var ≡ slice_index_or values (var - 1) false
valuation_of-at values zero from_1 = absurd (omega arith)
valuation_of-at values (suc var) from_1 = let e : suc var - 1 ≡ var = omega arith in rw e
