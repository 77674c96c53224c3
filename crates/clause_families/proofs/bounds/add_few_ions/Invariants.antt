use Rattle.std.proofs.Common.{◌≡◌, ◌++◌, ◌<◌, drop, map}
use Rattle.std.specs.List.{AllByRecursion}
use Rattle.trap_model.specs.Trap.{place_count}
use Rattle.step_vars.specs.Families.{few_ions}
use Rattle.clause_families.proofs.bounds.add_few_ions.Given as goal

abbrev pub invariant-loop-place : goal.invariant-loop-place
invariant-loop-place l = record {
  so_far : l.out.items ++ map (few_ions l.setting l.time) (drop l.place-index l.places) ≡ l.fn.out.items ++ map (few_ions l.setting l.time) l.places;
  within : AllByRecursion (λ p. p < place_count l.setting.trap) (drop l.place-index l.places);
}
