use Rattle.verify_core.proofs.Verdicts.{tasks_are_small, one_verdict_each}
use Rattle.verify_core.proofs.laws.one_verification.Goals as goal

pub returns : goal.returns
returns c = λ trap circuit text bytes a b is_trap is_circuit.
    one_verdict_each c.one_verdict.ensures.one c.one_verdict.ensures.not_both trap circuit text bytes a b
    (tasks_are_small c.parts_are_small.ensures trap circuit text is_trap is_circuit)
