use Rattle.circuit_core.proofs.Wires.{shared_iff}
use Rattle.circuit_core.proofs.Forcing.{forced_iff}
use Rattle.circuit_core.proofs.order.order_is_decided.Goals as goal

pub returns : goal.returns
returns c = record { shared = shared_iff; forced = forced_iff }
