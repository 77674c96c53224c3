use Rattle.std.proofs.Common.{◌≡◌, ◌*◌, ◌≤◌, map}
use Rattle.std.specs.List.{range_with_len}
use Rattle.step_vars.specs.Families.{bound, activities_at}
use Rattle.step_vars.specs.Encoding.{helper_count}
use Rattle.step_vars.proofs.helpers.of_activities.Given as goal

abbrev pub invariant-loop-place : goal.invariant-loop-place
invariant-loop-place l = record {
  counted : l.count ≡ helper_count l.encoding (map (λ p. bound 1 (activities_at l.setting 1 p)) (range_with_len 0 l.place));
  few : l.count ≤ 2504 * l.place;
}
