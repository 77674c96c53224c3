-- Lists that are accepted are refused for out of memory alone.
use Rattle.std.proofs.Common.{◌≢◌, List, Ok, Err, refl}
use Rattle.qc_base.specs.declared.ids.Qubit.{Qubit}
use Rattle.step_rules.specs.declared.placement.GivenFault.{GivenFault}
use Rattle.step_rules.specs.declared.placement.GivenFault.TheVariants as given_faults
use Rattle.step_rules.specs.Placement.{Gives}

-- what is accepted is refused for out of memory alone
pub placed_unless : (lists : List (List Qubit)) (fault : GivenFault) → Gives (Err fault) (Ok lists) → fault ≢ given_faults.NoMemory → ⊥
placed_unless lists (given_faults.Repeated qubit) said other = cc
placed_unless lists (given_faults.Full zone) said other = cc
placed_unless lists (given_faults.Missing qubit) said other = cc
placed_unless lists given_faults.NoMemory said other = other refl
