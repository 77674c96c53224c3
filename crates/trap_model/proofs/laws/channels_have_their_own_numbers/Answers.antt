use Rattle.trap_model.proofs.Numbers.{own_number}
use Rattle.trap_model.proofs.laws.channels_have_their_own_numbers.Goals as goal

pub returns : goal.returns
returns c = own_number
