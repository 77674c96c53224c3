use Rattle.derivation_check.proofs.Accepted.{AreGood-accepted, HaveForm-accepted, AreAccepted-good}
use Rattle.derivation_check.proofs.laws.accepted_lines_are_good.Goals as goal

pub returns : goal.returns
returns c = λ vars clauses lines. (
  λ all. (HaveForm-accepted vars clauses lines all, AreGood-accepted vars clauses lines all),
  λ both. AreAccepted-good vars clauses lines both.0 both.1,
)
