use Rattle.std.proofs.Common.{◌≡◌, ◌++◌, drop, map}
use Rattle.std.specs.List.{flat_map}
use Rattle.step_clauses.specs.Operations.{ion_in_zone}
use Rattle.step_clauses.proofs.operations.add_zones.Given as goal

abbrev pub invariant-loop-zone : goal.invariant-loop-zone
invariant-loop-zone l = l.out ++ flat_map (λ z. map (ion_in_zone l.times.before l.times.time l.op z) l.ions) (drop l.zone-index l.zones) ≡ l.fn.out ++ flat_map (λ z. map (ion_in_zone l.times.before l.times.time l.op z) l.ions) l.zones
