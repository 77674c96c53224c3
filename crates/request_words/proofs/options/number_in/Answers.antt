use Rattle.request_words.proofs.Spelled.{number_found}
use Rattle.request_words.proofs.options.number_in.Goals as goal

pub returns : goal.returns
returns c = rw (← c.as_bytes.ensures.value) (number_found c.as_bytes.result.now c.number_of.result c.number_of.ensures.found c.number_of.ensures.fits c.number_of.ensures.only)
