use Rattle.ion_chain.proofs.Transfers.{after_transfer-after_transfer}
use Rattle.ion_chain.proofs.laws.transfers_in_either_order.Goals as goal

pub returns : goal.returns
returns c = after_transfer-after_transfer
