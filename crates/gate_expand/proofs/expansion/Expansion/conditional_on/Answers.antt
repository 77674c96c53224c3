use Rattle.std.proofs.Common.{ℕ, Result, ap, sym, subst}
use Rattle.gate_names.specs.declared.cause.Cause.{Cause}
use Rattle.gate_expand.specs.declared.expansion.Expansion.{Expansion}
use Rattle.gate_names.specs.Causes.{◌>>=◌, Leaves}
use Rattle.gate_expand.specs.Program.{conditional_done, conditional_statement}
use Rattle.gate_expand.proofs.expansion.Expansion.conditional_on.Goals as goal

pub returns : goal.returns
unfolding conditional_statement
returns c =
    subst (λ (r : Result Expansion Cause). Leaves c.conditional.result c.conditional.new.self r)
    (sym (ap (λ (r : Result ℕ Cause). r >>= λ number. conditional_done number c.args.value c.args.op.now c.args.self.now) c.in_ok-creg.ensures))
    c.conditional.ensures
