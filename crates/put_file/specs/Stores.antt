-- What storing bytes under a name makes of a shelf, by its result.
use Rattle.std.specs.Prelude.{◌≡◌, ℕ, List, Some, IsTrue, Result, OnOk, IsErrOf}
use Rattle.qc_base.specs.Causes.{Rose}
use Rattle.qc_base.specs.Shelf.{ShelfFacts, OnlyPuts, SameCounts}
use Rattle.put_file.specs.declared.put_fault.PutFault.{PutFault}
use Rattle.put_file.specs.declared.put_fault.PutFault.TheVariants.{Failed, NoMemory}

-- After Ok the content under the name is these bytes, where contents are known, and no count changed. A fault of the
-- shelf comes only where a put of that very name failed, and out of memory only where nothing changed. No other
-- content changes, and no count falls.
pub record Stores {T : Type 0} (name bytes : List ℕ) (old new : ShelfFacts) (result : Result T PutFault) : Type 0 where
  pub puts : IsTrue old.known → OnOk result (new.contents name ≡ Some bytes)
  pub failed : IsErrOf result Failed → Rose (old.put_faults name) (new.put_faults name)
  pub memory : IsErrOf result NoMemory → new ≡ old
  pub stays : OnOk result (SameCounts old new)
  pub keeps : OnlyPuts name old new
