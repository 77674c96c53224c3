-- The limits of the exact search.
use Rattle.std.specs.Prelude.{ℕ, nat_lt, if◌then◌else◌, length, Option, None, Some}
use Rattle.trap_model.specs.Trap.{place_count}
use Rattle.step_rules.specs.Setting.{SettingValue}
use Rattle.step_vars.specs.Lists.{ion_count}
use Rattle.exact_search.specs.declared.fault.Count.{Count}
use Rattle.exact_search.specs.declared.fault.Count.TheVariants.{Ions, Places, Ops, Max}
use Rattle.exact_search.specs.declared.fault.ExactFault.{ExactFault}
use Rattle.exact_search.specs.declared.fault.ExactFault.TheVariants.{TooLarge}

-- the count where it is above the limit, else what comes next
abbrev pub above : Count → ℕ → ℕ → Option ExactFault → Option ExactFault
above what limit count next = if nat_lt limit count then Some (TooLarge what count) else next

-- the first of the four counts that is above its limit: ions, places, operations with barriers, and the most
-- steps
abbrev pub too_large : SettingValue → ℕ → Option ExactFault
too_large setting max =
    above Ions 16 (ion_count setting) (
    above Places 48 (place_count setting.trap) (
    above Ops 200 (length setting.circuit.ops) (
    above Max 48 max None)))
