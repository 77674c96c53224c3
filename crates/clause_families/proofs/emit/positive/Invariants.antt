use Rattle.std.proofs.Common.{◌≡◌, ◌++◌, drop}
use Rattle.std.specs.List.{AllByRecursion}
use Rattle.step_vars.specs.Encoding.{literals_of}
use Rattle.clause_families.specs.Encoded.{IsEncoded}
use Rattle.clause_families.proofs.emit.positive.Given as goal

abbrev pub invariant-loop-item : goal.invariant-loop-item
invariant-loop-item l = record {
  so_far : l.lits.items ++ literals_of l.vars.numbering (drop l.item-index l.items) ≡ literals_of l.vars.numbering l.items;
  rest : AllByRecursion (IsEncoded l.vars) (drop l.item-index l.items);
}
