use Rattle.qasm_tokens.proofs.TokenReading as reading
use Rattle.qasm_tokens.proofs.token_laws.one_reading.Goals as goal

pub returns : goal.returns
returns c = record { reads = reading.reads; only = reading.only_reading }
