use Rattle.std.proofs.Common.{◌≡◌, ◌*◌, ◌≤◌, map}
use Rattle.std.specs.List.{range_with_len}
use Rattle.step_vars.specs.Families.{few_ions}
use Rattle.step_vars.specs.Encoding.{helper_count}
use Rattle.step_vars.proofs.helpers.of_places.Given as goal

abbrev pub invariant-loop-place : goal.invariant-loop-place
invariant-loop-place l = record {
  counted : l.count ≡ helper_count l.encoding (map (few_ions l.setting 1) (range_with_len 0 l.place));
  few : l.count ≤ 256 * l.place;
}
