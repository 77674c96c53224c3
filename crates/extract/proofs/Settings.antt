-- A setting within the limits, up to an earlier step.
use Rattle.std.proofs.Common.{ℕ, ◌≤◌, arith}
use Rattle.step_rules.specs.Setting.{SettingValue}
use Rattle.step_vars.specs.Encoding.{IsSmall}

pub small_up_to : (setting : SettingValue) (t steps : ℕ) → t ≤ steps → IsSmall setting steps → IsSmall setting t
small_up_to setting t steps within small = record {
  ions = small.ions;
  places = small.places;
  ops = small.ops;
  time = omega (arith, within, small.time);
}
