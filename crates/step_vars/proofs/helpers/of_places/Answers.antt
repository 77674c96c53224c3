use Rattle.std.proofs.Common.{ap, sym, ◌∙◌, arith}
use Rattle.step_rules.specs.Setting.{SettingValue}
use Rattle.trap_model.specs.Trap.{place_count, limit_of}
use Rattle.circuit_core.specs.Circuit.{qubit_count}
use Rattle.step_vars.specs.Families.{few_ions}
use Rattle.step_vars.proofs.HelperCounts.{helpers_step, fresh_few}
use Rattle.step_vars.proofs.Limited.{limit_some, ions_counted}
use Rattle.step_vars.proofs.helpers.of_places.Goals as goal

pub fresh-count-requires : goal.fresh-count-requires
fresh-count-requires c =
    let ions = c.qubits-ions.ensures ∙ ap (λ (s : SettingValue). qubit_count s.circuit) c.setting.view_is in
    record {
      some = rw c.limit.ensures (limit_some c.setting.inside.trap.now c.places-place-end.ensures.trap c.loop-place.place (omega (arith, c.places-place-end.ensures.places)));
      few = omega (arith, ions);
    }

pub overflow_add-count : goal.overflow_add-count
overflow_add-count c =
    let ions = c.qubits-ions.ensures ∙ ap (λ (s : SettingValue). qubit_count s.circuit) c.setting.view_is in
    let places = c.places-place-end.ensures.places ∙ ap (λ (s : SettingValue). place_count s.trap) c.setting.view_is in
    omega (arith, c.fresh-count.ensures, fresh_few c.args.encoding c.qubits-ions.result c.limit.result (omega (arith, ions)), places)

pub loop-place-preserved : goal.loop-place-preserved
loop-place-preserved c =
    let ions = c.qubits-ions.ensures ∙ ap (λ (s : SettingValue). qubit_count s.circuit) c.setting.view_is in
    let limit = c.limit.ensures ∙ ap (λ (s : SettingValue). limit_of s.trap c.loop-place.place) c.setting.view_is in
    record {
      counted = helpers_step c.args.encoding (few_ions c.args.setting.now 1) c.loop-place.count c.qubits-ions.result c.fresh-count.result c.loop-place.place
          c.loop-place.invariant.counted (rw limit at c.fresh-count.ensures) (ions ∙ sym (ions_counted c.args.setting.now 1 c.loop-place.place));
      few = omega (arith, c.fresh-count.ensures, fresh_few c.args.encoding c.qubits-ions.result c.limit.result (omega (arith, ions)));
    }
