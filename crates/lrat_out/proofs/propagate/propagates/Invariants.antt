use Rattle.std.proofs.Common.{map, drop}
use Rattle.std.specs.Prelude.{◌↔◌}
use Rattle.sat_base.specs.Fresh.{IsConsistent}
use Rattle.lrat_out.specs.Lines.{clause_named}
use Rattle.lrat_out.specs.Right.{Propagates}
use Rattle.lrat_out.proofs.propagate.propagates.Given as goal

abbrev pub invariant-loop-hint : goal.invariant-loop-hint
invariant-loop-hint l = record {
  same : Propagates l.fn.trues (map (clause_named l.proof) l.hints) ↔ Propagates l.trues (drop l.hint-index (map (clause_named l.proof) l.hints));
  consistent : IsConsistent l.trues;
}
