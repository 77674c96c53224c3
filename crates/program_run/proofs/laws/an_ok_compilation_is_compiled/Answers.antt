use Rattle.program_run.proofs.Compiled.{compiled}
use Rattle.program_run.proofs.laws.an_ok_compilation_is_compiled.Goals as goal
use Rattle.std.proofs.Common.{refl}

pub returns : goal.returns
returns c = λ words circuit trap rule exact before now request run. compiled run.found words circuit trap rule exact before now request (run.concludes.ok refl)
