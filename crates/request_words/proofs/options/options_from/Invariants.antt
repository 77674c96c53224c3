use Rattle.std.proofs.Common.{◌≡◌, drop}
use Rattle.request_words.specs.Request.{texts, with_options}
use Rattle.request_words.specs.Seen.{options_of}
use Rattle.request_words.proofs.options.options_from.Given as goal

abbrev pub invariant-loop-word : goal.invariant-loop-word
invariant-loop-word l = with_options (options_of l.given) (texts (drop l.word-index l.words)) ≡ with_options (options_of l.fn.given) (texts l.words)
