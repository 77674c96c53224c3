use Rattle.std.proofs.Common.{◌≡◌, ◌++◌, drop, map}
use Rattle.std.specs.List.{AllByRecursion}
use Rattle.step_vars.specs.Encoding.{clause_of}
use Rattle.clause_families.specs.Encoded.{IsEncoded, item_of}
use Rattle.clause_families.proofs.emit.literals.Given as goal

abbrev pub invariant-loop-claim : goal.invariant-loop-claim
invariant-loop-claim l = record {
  so_far : l.lits.items ++ clause_of l.vars.numbering (drop l.claim-index l.claims) ≡ clause_of l.vars.numbering l.claims;
  rest : AllByRecursion (IsEncoded l.vars) (map item_of (drop l.claim-index l.claims));
}
