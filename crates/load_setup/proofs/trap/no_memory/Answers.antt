use Rattle.std.proofs.Common.{◌≡◌, ◌∙◌, sym, refl, Result, Ok, Err}
use Rattle.trap_parts.specs.declared.fault.TrapFault.{TrapFault}
use Rattle.trap_parts.specs.declared.fault.TrapFault.TheVariants.{NoZone, TooMany, Double, Capacity, Length, Load, Unknown, Pair, EndTaken, Arms, NoMemory}
use Rattle.trap_parts.specs.Parts.{TrapValue}
use Rattle.trap_parts.specs.Build.{Fails, build_of}
use Rattle.load_setup.specs.Setup.{generated_trap}
use Rattle.load_setup.proofs.Sound.{generated_is_built}
use Rattle.load_setup.proofs.trap.no_memory.Goals as goal

-- a trap that is built fails in no way but one
only_memory : (fault : TrapFault) (said : Result TrapValue TrapFault) (trap : TrapValue) → said ≡ Ok trap → Fails fault said → (fault ≡ NoMemory → ⊥) → ⊥
only_memory NoZone said trap built fails other = let e : Ok trap ≡ Err NoZone = sym built ∙ fails in cc
only_memory (TooMany what) said trap built fails other = let e : Ok trap ≡ Err (TooMany what) = sym built ∙ fails in cc
only_memory (Double name) said trap built fails other = let e : Ok trap ≡ Err (Double name) = sym built ∙ fails in cc
only_memory (Capacity zone) said trap built fails other = let e : Ok trap ≡ Err (Capacity zone) = sym built ∙ fails in cc
only_memory (Length segment) said trap built fails other = let e : Ok trap ≡ Err (Length segment) = sym built ∙ fails in cc
only_memory (Load segment) said trap built fails other = let e : Ok trap ≡ Err (Load segment) = sym built ∙ fails in cc
only_memory (Unknown row) said trap built fails other = let e : Ok trap ≡ Err (Unknown row) = sym built ∙ fails in cc
only_memory (Pair row) said trap built fails other = let e : Ok trap ≡ Err (Pair row) = sym built ∙ fails in cc
only_memory (EndTaken row) said trap built fails other = let e : Ok trap ≡ Err (EndTaken row) = sym built ∙ fails in cc
only_memory (Arms junction) said trap built fails other = let e : Ok trap ≡ Err (Arms junction) = sym built ∙ fails in cc
only_memory NoMemory said trap built fails other = absurd (other refl)

pub unreachable-requires : goal.unreachable-requires
unreachable-requires c = only_memory c.args.fault (build_of generated_trap) generated_trap generated_is_built c.requires c.in_default.not-NoMemory
