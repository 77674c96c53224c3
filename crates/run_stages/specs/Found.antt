-- What a run finds under the names of the files that its request reads.
use Rattle.std.specs.Prelude.{◌≡◌, ℕ, List, ◌⊎◌, Option, Some, None, IsTrue}
use Rattle.std.specs.Option.{option_and_then}
use Rattle.qc_base.specs.Causes.{Rose}
use Rattle.qc_base.specs.Shelf.{Contents, ShelfFacts}
use Rattle.request_words.specs.declared.file.File.{File}
use Rattle.request_words.specs.declared.file.File.TheVariants.{Circuit, Trap, Schedule, Certificate}
use Rattle.request_words.specs.Request.{request_of, file_of, put_of}

-- the bytes of each file, or nothing where it can't be read
pub record Found : Type 0 where
  pub circuit : Option (List ℕ)
  pub trap : Option (List ℕ)
  pub schedule : Option (List ℕ)
  pub certificate : Option (List ℕ)

-- the word that names the file, where the request of the words reads it
abbrev pub name_in : List (List ℕ) → File → Option (List ℕ)
name_in words file = option_and_then (λ asked. file_of asked file) (request_of words)

-- what the shelf has under the name, where its contents are known; or nothing, where a read of that very name
-- failed
abbrev pub IsFoundAs : ShelfFacts → ShelfFacts → List ℕ → Option (List ℕ) → Type 0
IsFoundAs before now name found =
    (IsTrue before.known → found ≡ before.contents name)
    ⊎ ((found ≡ None) × Rose (before.read_faults name) (now.read_faults name))

-- the same of a file that may have no name, where there is nothing
abbrev pub IsFoundUnder : ShelfFacts → ShelfFacts → Option (List ℕ) → Option (List ℕ) → Type 0
IsFoundUnder before now None found = found ≡ None
IsFoundUnder before now (Some name) found = IsFoundAs before now name found

-- this was found of the files of these names
pub record IsFound (before now : ShelfFacts) (names : File → Option (List ℕ)) (found : Found) : Type 0 where
  pub circuit : IsFoundUnder before now (names Circuit) found.circuit
  pub trap : IsFoundUnder before now (names Trap) found.trap
  pub schedule : IsFoundUnder before now (names Schedule) found.schedule
  pub certificate : IsFoundUnder before now (names Certificate) found.certificate

-- what the shelf holds of the files that the words name
abbrev pub held : Contents → List (List ℕ) → Found
held contents words = record {
  circuit = option_and_then contents (name_in words Circuit);
  trap = option_and_then contents (name_in words Trap);
  schedule = option_and_then contents (name_in words Schedule);
  certificate = option_and_then contents (name_in words Certificate);
}

-- the file has a name, and a read of that very name failed
pub record FailsToRead (names : File → Option (List ℕ)) (file : File) (before now : List ℕ → ℕ) : Type 0 where
  pub name : List ℕ
  pub named : names file ≡ Some name
  pub rose : Rose (before name) (now name)

-- the name under which the request of the words puts a file, where it puts one
abbrev pub put_name : List (List ℕ) → Option (List ℕ)
put_name words = option_and_then put_of (request_of words)

-- a file is put under a name, and a put of that very name failed
pub record FailsToPut (name : Option (List ℕ)) (before now : List ℕ → ℕ) : Type 0 where
  pub put : List ℕ
  pub named : name ≡ Some put
  pub rose : Rose (before put) (now put)
