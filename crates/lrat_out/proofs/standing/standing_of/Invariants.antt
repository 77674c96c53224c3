use Rattle.lrat_out.proofs.Stances.{StandsSoFar}
use Rattle.lrat_out.proofs.standing.standing_of.Given as goal

abbrev pub invariant-loop-lit : goal.invariant-loop-lit
invariant-loop-lit l = StandsSoFar l.trues l.clause l.lit-index l.so_far
