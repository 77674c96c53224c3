-- The lists that the families run over.
use Rattle.std.specs.Prelude.{◌≡◌}
use Rattle.trap_parts.specs.Build.{IsTrap}
use Rattle.trap_model.specs.Channels.{channels_of, AreWithin}
use Rattle.step_rules.specs.Setting.{SettingValue}
use Rattle.step_vars.specs.Lists.{ions_of, places_of, zones_of, junctions_of, performed, acts_of, orders_of, numbered_channels}
use Rattle.step_vars.specs.Families.{pairs_in}
use Rattle.clause_families.specs.declared.tables.Tables.{Tables}

-- the lists are those of the setting, and what its trap keeps
pub record AreTables (setting : SettingValue) (tables : Tables) : Type 0 where
  pub ions : tables.ions.items ≡ ions_of setting
  pub places : tables.places.items ≡ places_of setting
  pub zones : tables.zones.items ≡ zones_of setting
  pub junctions : tables.junctions.items ≡ junctions_of setting
  pub channels : tables.channels.items ≡ numbered_channels setting
  pub ops : tables.ops.items ≡ performed setting.circuit
  pub pairs : tables.pairs.now ≡ pairs_in setting
  pub acts : tables.acts.now ≡ acts_of setting
  pub orders : tables.orders.now ≡ orders_of setting.circuit
  pub trap : IsTrap setting.trap
  pub within : AreWithin setting.trap (channels_of setting.trap)
