-- Why there is no placement, and what a call answers.
use Rattle.std.specs.Prelude.{◌≡◌, Result, Ok, Err}
use Rattle.step_rules.specs.declared.placement.GivenFault.{GivenFault}
use Rattle.step_rules.specs.declared.placement.GivenFault.TheVariants.{Repeated, Full, Missing}
use Rattle.step_rules.specs.declared.placement.GivenFault.TheVariants as given_faults
use Rattle.placement.specs.declared.fault.PlaceFault.{PlaceFault}
use Rattle.placement.specs.declared.fault.PlaceFault.TheVariants.{TooManyQubits, NoTable, UnknownQubit, Given, NoMemory}

-- why lists are no placement, as a fault of placing
abbrev pub fault_of : GivenFault → PlaceFault
fault_of given_faults.NoMemory = NoMemory
fault_of (Repeated qubit) = Given (Repeated qubit)
fault_of (Full zone) = Given (Full zone)
fault_of (Missing qubit) = Given (Missing qubit)

infixl 10 ◌>>=◌
abbrev pub ◌>>=◌ : {A B : Type 0} → Result A PlaceFault → (A → Result B PlaceFault) → Result B PlaceFault
(Ok x) >>= f = f x
(Err e) >>= f = Err e

-- what a call answered is what is said, unless memory ran out
abbrev pub Fails : {Y : Type 0} → PlaceFault → Result Y PlaceFault → Type 0
Fails NoMemory said = Unit {0}
Fails e said = said ≡ Err e

abbrev pub Gives : {X Y : Type 0} → (X → Y) → Result X PlaceFault → Result Y PlaceFault → Type 0
Gives see (Ok x) said = said ≡ Ok (see x)
Gives see (Err e) said = Fails e said

-- the same where a clause sees the value itself
abbrev pub Answers : {X : Type 0} → Result X PlaceFault → Result X PlaceFault → Type 0
Answers result said = Gives (λ x. x) result said
