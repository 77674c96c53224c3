use Rattle.std.proofs.Common.{take}
use Rattle.sat_base.proofs.Few.{AreGood-derived}
use Rattle.derivation_log.proofs.FirstLines.{first_lines_derived, first_lines_form}
use Rattle.derivation_log.proofs.laws.first_lines_are_good.Goals as goal

pub returns : goal.returns
returns c = λ log axioms lines vars sound covers only.
    (AreGood-derived vars (take axioms log.axioms) _ only (first_lines_derived log axioms lines sound covers), first_lines_form log axioms lines vars sound covers only)
