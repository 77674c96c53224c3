-- Sizes of registers.
use Rattle.std.specs.Prelude.{ℕ, ◌+◌, ◌==◌, nat_lt, Result, Ok}
use Rattle.gate_names.specs.declared.cause.Cause.{Cause}
use Rattle.gate_names.specs.declared.cause.Cause.TheVariants.{Zero, TooMany}
use Rattle.gate_names.specs.declared.cause.Counted.{Counted}
use Rattle.gate_names.specs.Causes.{◌>>◌, refuse_if}

-- a register of that size after others of so many together
abbrev pub size_fits : ℕ → ℕ → ℕ → Counted → Result ℕ Cause
size_fits size before limit what =
    refuse_if (size == 0) Zero >> refuse_if (nat_lt limit (before + size)) (TooMany what) >> Ok size
