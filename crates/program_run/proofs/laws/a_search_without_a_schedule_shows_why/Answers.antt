use Rattle.program_run.proofs.Compiled.{none_refuted, left_open}
use Rattle.std.proofs.Common.{refl}
use Rattle.program_run.proofs.laws.a_search_without_a_schedule_shows_why.Goals as goal

pub returns-clause-none : goal.returns-clause-none
returns-clause-none c = λ words circuit trap rule exact most before now request run. none_refuted run.found words circuit trap rule exact most before now request (run.concludes.put refl)

pub returns-clause-budget : goal.returns-clause-budget
returns-clause-budget c = λ words circuit trap rule exact spent before now request run. left_open run.found words circuit trap rule exact spent before now request (run.concludes.put refl)
