use Rattle.std.proofs.Common.{length, ap, arith}
use Rattle.trap_model.proofs.Count.{few_channels}
use Rattle.step_rules.specs.Setting.{setting_of}
use Rattle.step_vars.specs.Lists.{performed}
use Rattle.step_vars.proofs.Numbers.{vars_are}
use Rattle.step_vars.proofs.PlacesBack.{in_column_0}
use Rattle.step_vars.proofs.vars.Vars.new.Goals as goal

pub overflow_cast-channels : goal.overflow_cast-channels
overflow_cast-channels c = omega (arith, ap length c.channels.ensures.channels, few_channels c.args.trap.now c.channels.ensures.trap)

pub acts-requires-clause-zones : goal.acts-requires-clause-zones
acts-requires-clause-zones c = c.zones.ensures.trap.zones

pub invariant_of-result : goal.invariant_of-result
invariant_of-result c = (
  c.requires.time,
  record {
    ions = omega (arith, c.qubits-ions.ensures, c.requires.ions);
    places = omega (arith, c.places.ensures.places, c.requires.places);
    zones = omega (arith, ap length c.zones.ensures.zones, c.zones.ensures.trap.zones);
    channels = omega (arith, ap length c.channels.ensures.channels, few_channels c.args.trap.now c.channels.ensures.trap);
    pairs = c.in_ok-pairs.ensures.few;
    ops = c.in_ok-ops.ensures.few;
    acts = c.in_ok-acts.ensures.few;
    helpers = c.helpers-helpers.ensures.few;
    column = in_column_0 (performed c.args.circuit.now) _ c.in_ok-ops.ensures.ops;
  },
)

pub returns : goal.returns
returns c =
    vars_are (setting_of c.args.trap.now c.args.circuit.now c.args.placement.now) c.args.encoding c.args.steps _ _ _ _ _ _ _ _ _
    c.qubits-ions.ensures c.places.ensures.places (ap length c.zones.ensures.zones) (ap length c.channels.ensures.channels)
    c.in_ok-pairs.ensures.pairs c.in_ok-ops.ensures.ops c.in_ok-acts.ensures.acts c.helpers-helpers.ensures.count c.in_ok-orders.ensures
