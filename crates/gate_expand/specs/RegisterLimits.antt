-- ---- for private functions: how many registers there are, and their sizes.
use Rattle.std.specs.Prelude.{◌≡◌, ℕ, ◌≤◌, List, length}
use Rattle.circuit_core.specs.declared.circuit.Reg.{Reg}
use Rattle.circuit_core.specs.Circuit.{size_of}

pub record AreCounted (regs : List Reg) (total : ℕ) : Type 0 where
  pub sizes : total ≡ size_of regs
  pub few : total ≤ 4096
  pub each : length regs ≤ total
