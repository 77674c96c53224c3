use Rattle.std.proofs.Common.{◌≡◌, ◌*◌, ◌≤◌, map}
use Rattle.std.specs.List.{range_with_len}
use Rattle.step_vars.specs.Families.{one_place}
use Rattle.step_vars.specs.Encoding.{helper_count}
use Rattle.step_vars.proofs.helpers.of_ions.Given as goal

abbrev pub invariant-loop-ion : goal.invariant-loop-ion
invariant-loop-ion l = record {
  counted : l.count ≡ helper_count l.encoding (map (one_place l.setting 1) (range_with_len 0 l.ion));
  few : l.count ≤ 48 * l.ion;
}
