use Rattle.std.proofs.Common.{ap, sym, ◌∙◌, arith}
use Rattle.step_rules.specs.Setting.{SettingValue}
use Rattle.trap_model.specs.Trap.{place_count}
use Rattle.circuit_core.specs.Circuit.{qubit_count}
use Rattle.step_vars.specs.Families.{one_place}
use Rattle.step_vars.proofs.HelperCounts.{helpers_step, fresh_one_few}
use Rattle.step_vars.proofs.Limited.{places_counted}
use Rattle.step_vars.proofs.helpers.of_ions.Goals as goal

pub overflow_add-count : goal.overflow_add-count
overflow_add-count c =
    let ions = c.qubits-ion-end.ensures ∙ ap (λ (s : SettingValue). qubit_count s.circuit) c.setting.view_is in
    let places = c.places-places.ensures.places ∙ ap (λ (s : SettingValue). place_count s.trap) c.setting.view_is in
    omega (arith, c.fresh-count.ensures, fresh_one_few c.args.encoding c.places-places.result, places, ions)

pub loop-ion-preserved : goal.loop-ion-preserved
loop-ion-preserved c =
    let ions = c.qubits-ion-end.ensures ∙ ap (λ (s : SettingValue). qubit_count s.circuit) c.setting.view_is in
    let places = c.places-places.ensures.places ∙ ap (λ (s : SettingValue). place_count s.trap) c.setting.view_is in
    record {
      counted = helpers_step c.args.encoding (one_place c.args.setting.now 1) c.loop-ion.count c.places-places.result c.fresh-count.result c.loop-ion.ion
          c.loop-ion.invariant.counted c.fresh-count.ensures (places ∙ sym (places_counted c.args.setting.now 1 c.loop-ion.ion));
      few = omega (arith, c.fresh-count.ensures, fresh_one_few c.args.encoding c.places-places.result, places, ions);
    }
