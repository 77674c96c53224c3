use Rattle.request_words.proofs.Spelled.{prefix_is}
use Rattle.request_words.proofs.options.value_of.Goals as goal

pub returns : goal.returns
returns c = prefix_is c.args.front.now c.args.word.now c.strip_prefix.result c.strip_prefix.ensures.cases
