use Rattle.run_stages.proofs.Refusals.{qasm_reached, qasm_refused}
use Rattle.run_stages.proofs.inputs.circuit_in.Goals as goal

pub returns-in-Ok-clause-reached : goal.returns-in-Ok-clause-reached
returns-in-Ok-clause-reached c = qasm_reached c.args.bytes.now c.in-Ok.program c.circuit_of.result c.in-Ok.ensures.exact c.circuit_of.ensures.reached

pub returns-in-Err-clause-reached : goal.returns-in-Err-clause-reached
returns-in-Err-clause-reached c = qasm_refused c.args.bytes.now c.in-Err.fault c.qasm_refusal.result c.in-Err.ensures.exact c.qasm_refusal.ensures.answer
