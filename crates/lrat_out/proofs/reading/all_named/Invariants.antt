use Rattle.std.proofs.Common.{take}
use Rattle.std.specs.Prelude.{All}
use Rattle.lrat_out.specs.Lines.{IsNumber}
use Rattle.lrat_out.proofs.reading.all_named.Given as goal

abbrev pub invariant-loop-hint : goal.invariant-loop-hint
invariant-loop-hint l = All (IsNumber l.proof) (take l.hint-index l.hints)
