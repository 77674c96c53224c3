-- What the parts of a reader answer, one after the other.
use Rattle.std.specs.Prelude.{◌≡◌, Bool, true, false, Result, Ok, Err}
use Rattle.trap_read.specs.declared.fault.TrapText.{TrapText}
use Rattle.trap_read.specs.declared.fault.TrapText.TheVariants.{NoMemory}

infixl 10 ◌>>=◌
abbrev pub ◌>>=◌ : {A B : Type 0} → Result A TrapText → (A → Result B TrapText) → Result B TrapText
(Ok x) >>= f = f x
(Err e) >>= f = Err e

infixl 10 ◌>>◌
abbrev pub ◌>>◌ : {A B : Type 0} → Result A TrapText → Result B TrapText → Result B TrapText
(Ok x) >> r = r
(Err e) >> r = Err e

-- what a call answered is what is said, unless memory ran out
abbrev pub Fails : {Y : Type 0} → TrapText → Result Y TrapText → Type 0
Fails NoMemory said = Unit {0}
Fails e said = said ≡ Err e

abbrev pub Gives : {X Y : Type 0} → (X → Y) → Result X TrapText → Result Y TrapText → Type 0
Gives see (Ok x) said = said ≡ Ok (see x)
Gives see (Err e) said = Fails e said

abbrev pub unless : Bool → TrapText → Result (Unit {0}) TrapText
unless true refusal = Ok tt
unless false refusal = Err refusal
