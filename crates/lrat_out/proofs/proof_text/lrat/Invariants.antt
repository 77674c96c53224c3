use Rattle.std.proofs.Common.{◌≡◌, take}
use Rattle.lrat_out.specs.Lines.{lrat_text}
use Rattle.lrat_out.specs.Export.{proof_lines_from}
use Rattle.lrat_out.proofs.proof_text.lrat.Given as goal

abbrev pub invariant-loop-k : goal.invariant-loop-k
invariant-loop-k l = l.out.items ≡ lrat_text (proof_lines_from l.log 1 (take l.k l.log.derived))
