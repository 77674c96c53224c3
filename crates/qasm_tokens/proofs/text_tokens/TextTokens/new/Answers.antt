use Rattle.qasm_tokens.proofs.TokenKinds.{listed_formed}
use Rattle.qasm_tokens.proofs.text_tokens.TextTokens.new.Goals as goal

pub returns-clause-formed : goal.returns-clause-formed
returns-clause-formed c = listed_formed c.args.bytes.now _ c.new-scanner.ensures
