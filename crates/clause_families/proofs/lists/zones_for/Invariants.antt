use Rattle.std.proofs.Common.{◌≡◌}
use Rattle.std.specs.Prelude.{filter}
use Rattle.std.specs.List.{range_with_len}
use Rattle.step_rules.specs.Guards.{is_able_for}
use Rattle.clause_families.proofs.lists.zones_for.Given as goal

abbrev pub invariant-loop-zone : goal.invariant-loop-zone
invariant-loop-zone l = l.zones.items ≡ filter (λ z. is_able_for l.setting z l.op) (range_with_len 0 l.zone)
