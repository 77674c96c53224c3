use Rattle.std.proofs.Common.{◌≡◌, ◌++◌, drop}
use Rattle.std.specs.Prelude.{filter}
use Rattle.step_vars.specs.Lists.{is_ion_of}
use Rattle.clause_families.proofs.lists.ions_for.Given as goal

abbrev pub invariant-loop-ion : goal.invariant-loop-ion
invariant-loop-ion l = l.list.items ++ (filter (is_ion_of l.setting l.op) (drop l.ion-index l.ions)) ≡ (filter (is_ion_of l.setting l.op) l.ions)
