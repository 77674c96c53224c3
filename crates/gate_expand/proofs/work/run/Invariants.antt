use Rattle.std.proofs.Common.{◌≡◌}
use Rattle.gate_expand.specs.WorkList.{frames_made, weight}
use Rattle.gate_expand.proofs.work.run.Given as goal

-- what is left makes what all did at first
abbrev pub invariant-loop-frame : goal.invariant-loop-frame
invariant-loop-frame l = frames_made l.gates l.cond l.frames.items l.made ≡ frames_made l.gates l.cond l.fn.frames.items l.fn.made

abbrev pub decreases-loop-frame : goal.decreases-loop-frame
decreases-loop-frame l = weight l.frames.items l.made
