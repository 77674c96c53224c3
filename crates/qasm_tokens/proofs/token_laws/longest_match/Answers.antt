use Rattle.qasm_tokens.proofs.Longest as longest
use Rattle.qasm_tokens.proofs.token_laws.longest_match.Goals as goal

pub returns : goal.returns
returns c = record { found = longest.longest_match; only = longest.only_longest }
