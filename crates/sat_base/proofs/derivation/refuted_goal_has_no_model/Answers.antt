use Rattle.sat_base.proofs.Deriving.{lines_refute, AreDerived-good}
use Rattle.sat_base.proofs.derivation.refuted_goal_has_no_model.Goals as goal

pub returns-clause-good : goal.returns-clause-good
returns-clause-good c = λ vars formula lines goal good refutes values all on. lines_refute values formula lines goal (AreDerived-good vars formula lines good) refutes all on

pub returns-clause-derived : goal.returns-clause-derived
returns-clause-derived c = λ formula lines goal derived refutes values all on. lines_refute values formula lines goal derived refutes all on
