use Rattle.std.proofs.Common.{◌≡◌, drop}
use Rattle.run_answers.specs.Names.{label_said_in}
use Rattle.run_answers.proofs.names.register_of.Given as goal

abbrev pub invariant-loop-reg : goal.invariant-loop-reg
invariant-loop-reg l = label_said_in (drop l.reg-index l.regs) l.index ≡ label_said_in l.regs l.number
